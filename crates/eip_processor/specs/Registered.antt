-- What a run sees of processors and predicates under names.
use Rattle.std.specs.Prelude.{ℕ, Bool, List, Option, Some, None, Result}
use Rattle.eip_exchange.specs.declared.message.Message.{Message}
use Rattle.eip_keyed.specs.Keyed.{Keyed, keys_of, found}
use Rattle.eip_processor.specs.declared.processor.ProcessFault.{ProcessFault}

-- the names in the order in which they were added, and what may be answered under each
pub record RegistryView : Type 1 where
  pub processors : List (List ℕ)
  pub predicates : List (List ℕ)
  pub processes : List ℕ → Message → Result Message ProcessFault → Type 0
  pub tests : List ℕ → Message → Bool → Type 0

-- so it is of the one that there is; of none nothing is
abbrev pub OfThe : {V : Type 0} → Option V → (V → Type 0) → Type 0
OfThe None P = ⊥
OfThe (Some v) P = P v

-- entries under names, by what each may answer: the first of a name answers
abbrev pub registry_view : {P Q : Type 0} → (P → Message → Result Message ProcessFault → Type 0) → (Q → Message → Bool → Type 0) → Keyed P → Keyed Q → RegistryView
registry_view relates tells ps qs = record {
  processors = keys_of ps;
  predicates = keys_of qs;
  processes = λ name m r. OfThe (found name ps) (λ p. relates p m r);
  tests = λ name m b. OfThe (found name qs) (λ q. tells q m b);
}
