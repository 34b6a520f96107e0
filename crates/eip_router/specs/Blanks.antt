-- Blanks (space and tab) at the ends of a text.
use Rattle.std.specs.Prelude.{◌≡◌, ◌≢◌, ℕ, Bool, true, ◌||◌, ◌==◌, List, [], ◌∷◌, ◌++◌, reverse, if◌then◌else◌}

-- a blank is a space or a tab
abbrev pub is_blank : ℕ → Bool
is_blank b = b == 32 || b == 9

-- the text without the blanks in front
abbrev pub unblanked : List ℕ → List ℕ
unblanked [] = []
unblanked (b ∷ bs) = if is_blank b then unblanked bs else b ∷ bs

-- the text without the blanks at its end
abbrev pub unblanked_end : List ℕ → List ℕ
unblanked_end bs = reverse (unblanked (reverse bs))

-- the text without the blanks at both its ends
abbrev pub trimmed : List ℕ → List ℕ
trimmed bs = unblanked_end (unblanked bs)

-- ---- one blank

-- the text is a blank and this rest
pub record BeginsBlank (text rest : List ℕ) : Type 0 where
  pub blank : ℕ
  pub is : is_blank blank ≡ true
  pub whole : text ≡ blank ∷ rest

-- the text is this front and a blank
pub record EndsBlank (text front : List ℕ) : Type 0 where
  pub blank : ℕ
  pub is : is_blank blank ≡ true
  pub whole : text ≡ front ++ blank ∷ []

-- the text doesn't begin with a blank
abbrev pub BeginsFilled : List ℕ → Type 0
BeginsFilled text = (b : ℕ) (rest : List ℕ) → is_blank b ≡ true → text ≢ b ∷ rest

-- the text doesn't end with a blank
abbrev pub EndsFilled : List ℕ → Type 0
EndsFilled text = (b : ℕ) (front : List ℕ) → is_blank b ≡ true → text ≢ front ++ b ∷ []
