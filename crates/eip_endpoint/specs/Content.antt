-- Content that an object tells, or doesn't tell.
use Rattle.std.specs.Prelude.{ℕ, bytes_eq, cond, List, [], ◌++◌, Option, Some, None}

-- the content with more behind it, where it is told
abbrev pub extended : {A : Type 0} → Option (List A) → List A → Option (List A)
extended None more = None
extended (Some all) more = Some (all ++ more)

-- the content with more in front of it, where it is told
abbrev pub preceded : {A : Type 0} → List A → Option (List A) → Option (List A)
preceded more None = None
preceded more (Some all) = Some (more ++ all)

-- a fact on content, which an object that doesn't tell its content need not meet
abbrev pub IfTold : {A : Type 0} → Option A → (A → Type 0) → Type 0
IfTold None P = Unit {0}
IfTold (Some a) P = P a

-- these, where both URIs are printed alike
abbrev pub where_same : {A : Type 0} → List ℕ → List ℕ → List A → List A
where_same u v xs = cond (bytes_eq u v) xs []
