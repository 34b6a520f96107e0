use Rattle.std.proofs.Common.{◌≡◌, ℕ, ◌<◌, get_or, subst, List, Bool}
use Rattle.std.proofs.lemmas.Result.{IfOk-weaker}
use Rattle.eip_simple_read.specs.Patterns.{IsWholeMatch}
use Rattle.eip_simple.specs.Matching.{is_whole_match}
use Rattle.eip_simple.proofs.Bytes.{text_bytes}
use Rattle.eip_simple.proofs.Patterns.{whole_match_is}
use Rattle.eip_simple.proofs.predicates.is_whole_match.Goals as goal

pub returns : goal.returns
returns c =
    let small = subst (λ (bs : List ℕ). (k : ℕ) → get_or bs k 0 < 256) c.bytes-bytes.ensures.value (text_bytes c.bytes-bytes.result.now c.bytes-bytes.ensures.utf8) in
    IfOk-weaker c.matches.result (λ (b : Bool). IsWholeMatch c.args.pattern.now c.args.text.now b) (λ (b : Bool). b ≡ is_whole_match c.args.pattern.now c.args.text.now)
    (λ b h. whole_match_is c.args.pattern.now c.args.text.now b small h) c.matches.ensures
