-- What a refusal says of the text.
use Rattle.std.proofs.Common.{◌≡◌, ◌≢◌, ℕ, List, true, inl, inr, subst}
use Rattle.regex_syntax.specs.declared.Config.{Config}
use Rattle.regex_syntax.specs.declared.error.ErrorKind.{ErrorKind}
use Rattle.regex_syntax.specs.declared.error.ErrorKind.TheVariants.{OutOfMemory}
use Rattle.regex_syntax.specs.Verdict.{Refuses, default_config}
use Rattle.regex.specs.declared.builder.RegexBuilder.{RegexBuilder}
use Rattle.regex.specs.Views.{builder_source, builder_config, with_size_limit}
use Rattle.eip_simple_read.specs.Patterns.{IsRefused}

pub IsRefused-by_grammar : (source : List ℕ) (k : ErrorKind) → k ≢ OutOfMemory → Refuses default_config source k → IsRefused source
unfolding Refuses
IsRefused-by_grammar source k other (inl memory) = absurd (other memory)
IsRefused-by_grammar source k other (inr (inl none)) = inl none
IsRefused-by_grammar source k other (inr (inr deep)) = inr deep.1

-- the same of a builder that has another limit on size
pub IsRefused-by_builder : (source : List ℕ) (limit : ℕ) (plain built : RegexBuilder) (k : ErrorKind) → builder_source plain ≡ source → builder_config plain ≡ default_config
    → built ≡ with_size_limit plain limit → k ≢ OutOfMemory → Refuses (record (builder_config built) { utf8 = true }) (builder_source built) k → IsRefused source
IsRefused-by_builder source limit plain built k text config limited other refuses =
    let B : RegexBuilder → Type 0 = λ b. Refuses (record (builder_config b) { utf8 = true }) (builder_source b) k in
    let C : Config → Type 0 = λ g. Refuses (record g { utf8 = true }) (builder_source plain) k in
    let T : List ℕ → Type 0 = λ t. Refuses default_config t k in
    IsRefused-by_grammar source k other (subst T text (subst C config (subst B limited refuses)))
