-- A row whose items stand turned round.
use Rattle.std.proofs.Common.{◌≡◌, length, List, [], ◌∷◌, ◌++◌, refl, ◌∙◌, ap}
use Rattle.std.specs.Prelude.{Option, Some, None, option_to_list, reverse}
use Rattle.std.proofs.lemmas.List.{reverse-append}

-- the last one of the turned items is the first of the row
pub taken : {T : Type 0} (before after : List T) (o : Option T) → before ≡ after ++ option_to_list o → reverse before ≡ option_to_list o ++ reverse after
taken before after None h = ap reverse h ∙ reverse-append after []
taken before after (Some x) h = ap reverse h ∙ reverse-append after (x ∷ [])

pub empty : {T : Type 0} (l : List T) → length l ≡ 0 → reverse l ≡ []
empty [] h = refl
empty (x ∷ xs) h = cc
