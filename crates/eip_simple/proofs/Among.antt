-- A text among the pieces of another, piece by piece.
use Rattle.std.proofs.Common.{◌≡◌, ℕ, Bool, true, false, ◌||◌, List, Some, None, ap, sym, ◌∙◌, refl}
use Rattle.std.specs.List.{list_any}
use Rattle.eip_text.specs.Cuts.{cut, pieces}
use Rattle.eip_text.proofs.Cutting.{first_piece, last_piece}

or_false : (b : Bool) → (b || false) ≡ b
or_false true = refl
or_false false = refl

module _ (test : List ℕ → Bool) (c : ℕ) (bs front rest : List ℕ) (e : Some (front, rest) ≡ cut c bs) where
  -- the first piece passes
  pub any_here : test front ≡ true → true ≡ list_any test (pieces c bs)
  any_here h = sym (ap (list_any test) (first_piece c bs (front, rest) (sym e)) ∙ ap (λ (b : Bool). b || list_any test (pieces c rest)) h)

  -- it doesn't
  pub any_later : test front ≡ false → list_any test (pieces c rest) ≡ list_any test (pieces c bs)
  any_later h = sym (ap (list_any test) (first_piece c bs (front, rest) (sym e)) ∙ ap (λ (b : Bool). b || list_any test (pieces c rest)) h)

-- a text without a mark is the last piece
pub any_last : (test : List ℕ → Bool) (c : ℕ) (bs : List ℕ) → None ≡ cut c bs → test bs ≡ list_any test (pieces c bs)
any_last test c bs e = sym (ap (list_any test) (last_piece c bs (sym e)) ∙ or_false (test bs))
