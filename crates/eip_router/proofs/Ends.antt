-- Texts with and without blanks at their ends.
use Rattle.std.proofs.Common.{◌≡◌, ◌≢◌, ℕ, Bool, true, false, List, [], ◌∷◌, ◌++◌, Option, Some, None, MatchOption, reverse, refl, sym, ap, ◌∙◌}
use denote.Ref.{Bor}
use Rattle.std.proofs.lemmas.List.{reverse-append, reverse-reverse}
use Rattle.std.proofs.lemmas.Bool.{both_ways, ne_eqb}
use Rattle.eip_router.specs.Blanks.{is_blank, unblanked, unblanked_end, BeginsBlank, EndsBlank, BeginsFilled, EndsFilled}

pub front_off : (text rest : List ℕ) → BeginsBlank text rest → unblanked text ≡ unblanked rest
front_off text rest h = ap unblanked h.whole ∙ rw h.is refl

filled_by : (t : Bool) (b : ℕ) (bs : List ℕ) → is_blank b ≡ t → BeginsFilled (b ∷ bs) → unblanked (b ∷ bs) ≡ b ∷ bs
filled_by true b bs t h = absurd (h b bs t refl)
filled_by false b bs t h = rw t refl

pub front_filled : (text : List ℕ) → BeginsFilled text → unblanked text ≡ text
front_filled [] h = refl
front_filled (b ∷ bs) h = filled_by (is_blank b) b bs refl h

-- a text read from its end
turned : (text front : List ℕ) → EndsBlank text front → BeginsBlank (reverse text) (reverse front)
turned text front h = record {
  blank = h.blank;
  is = h.is;
  whole = ap reverse h.whole ∙ reverse-append front (h.blank ∷ []);
}

pub end_off : (text front : List ℕ) → EndsBlank text front → unblanked_end text ≡ unblanked_end front
end_off text front h = ap reverse (front_off (reverse text) (reverse front) (turned text front h))

turned_filled : (text : List ℕ) → EndsFilled text → BeginsFilled (reverse text)
turned_filled text h = λ b rest t e. h b (reverse rest) t (sym (reverse-reverse text) ∙ ap reverse e ∙ reverse-append (b ∷ []) rest)

pub end_filled : (text : List ℕ) → EndsFilled text → unblanked_end text ≡ text
end_filled text h = ap reverse (front_filled (reverse text) (turned_filled text h)) ∙ reverse-reverse text

-- ---- one blank, a space or a tab

not_both : (b : ℕ) → is_blank b ≡ true → (b ≢ 32) → (b ≢ 9) → ⊥
not_both b t s u = both_ways (is_blank b) (rw (ne_eqb b 32 s, ne_eqb b 9 u) refl) t

pub begins_filled : (text : List ℕ) → ((rest : List ℕ) → text ≢ 32 ∷ rest) → ((rest : List ℕ) → text ≢ 9 ∷ rest) → BeginsFilled text
begins_filled text s u = λ b rest t e. not_both b t (λ q. s rest (e ∙ ap (λ (x : ℕ). x ∷ rest) q)) (λ q. u rest (e ∙ ap (λ (x : ℕ). x ∷ rest) q))

pub ends_filled : (text : List ℕ) → ((front : List ℕ) → text ≢ front ++ (32 ∷ [])) → ((front : List ℕ) → text ≢ front ++ (9 ∷ [])) → EndsFilled text
ends_filled text s u = λ b front t e. not_both b t (λ q. s front (e ∙ ap (λ (x : ℕ). front ++ x ∷ []) q)) (λ q. u front (e ∙ ap (λ (x : ℕ). front ++ x ∷ []) q))

-- where there is no space, a tab or nothing is found
pub begins_or : (text : List ℕ) (r : Option (Bor (List ℕ))) → ((rest : List ℕ) → text ≢ 32 ∷ rest) → MatchOption r ((rest : List ℕ) → text ≢ 9 ∷ rest) (λ x. text ≡ 9 ∷ x.now)
    → MatchOption r (BeginsFilled text) (λ x. BeginsBlank text x.now)
begins_or text None s h = begins_filled text s h
begins_or text (Some x) s h = record { blank = 9; is = refl; whole = h }

pub ends_or : (text : List ℕ) (r : Option (Bor (List ℕ))) → ((front : List ℕ) → text ≢ front ++ (32 ∷ [])) → MatchOption r ((front : List ℕ) → text ≢ front ++ (9 ∷ [])) (λ x. text ≡ x.now ++ (9 ∷ []))
    → MatchOption r (EndsFilled text) (λ x. EndsBlank text x.now)
ends_or text None s h = ends_filled text s h
ends_or text (Some x) s h = record { blank = 9; is = refl; whole = h }
