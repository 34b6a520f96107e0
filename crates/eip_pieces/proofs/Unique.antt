-- There is one way to cut a text, and a text is its pieces put together.
use Rattle.std.proofs.Common.{◌≡◌, ℕ, zero, suc, ◌+◌, ◌<◌, ◌≤◌, Bool, true, false, List, [], ◌∷◌, ◌++◌, length, take, drop, Option, Some, None, refl, sym, ap, subst, ◌∙◌, arith, append_assoc, length-append, length-drop}
use Rattle.std.specs.Option.{is_some}
use Rattle.std.proofs.lemmas.Bool.{both_ways}
use Rattle.memchr.specs.Find.{OccursAt, FindsNeedle}
use Rattle.eip_text.specs.Cuts.{behind}
use Rattle.eip_text.specs.Pieces.{CutAt, Pieces}
use Rattle.eip_text.proofs.Cutting.{behind_parts}
use Rattle.eip_text.proofs.Occurrences.{CutAt-found}
use Rattle.eip_pieces.specs.Joined.{joined}
use Rattle.eip_pieces.specs.Pieces.{begins_with, pieces}
use Rattle.eip_pieces.proofs.Cutting.{taken, begins, stands, later, sooner, first_piece, last_piece}

dropped : (xs ys : List ℕ) → drop (length xs) (xs ++ ys) ≡ ys
dropped [] ys = refl
dropped (x ∷ xs) ys = dropped xs ys

-- ---- only one way

module _ (token : List ℕ) (n : 0 < length token) where
  behind_cut : (text p rest : List ℕ) → CutAt text token p rest → drop (length p + length token) text ≡ rest
  behind_cut text p rest c =
      ap (λ (m : ℕ). drop m text) (sym (length-append p token))
      ∙ ap (drop (length (p ++ token))) (c.whole ∙ sym (append_assoc p token rest))
      ∙ dropped (p ++ token) rest

  pub only : (ps : List (List ℕ)) (text : List ℕ) → Pieces text token ps → ps ≡ pieces token text
  only [] text h = absurd h
  only (p ∷ []) text h = ap (λ (x : List ℕ). x ∷ []) h.0 ∙ sym (last_piece token text h.1)
  only (p ∷ q ∷ ps) text h =
      let cut : CutAt text token p h.0 = h.1.0 in
      let front : take (length p) text ≡ p = ap (take (length p)) cut.whole ∙ taken p (token ++ h.0) in
      let back : drop (length p + length token) text ≡ h.0 = behind_cut text p h.0 cut in
      sym (
      first_piece token n text (length p) cut.first
      ∙ ap (λ (x : List ℕ). x ∷ pieces token (drop (length p + length token) text)) front
      ∙ ap (λ (x : List ℕ). p ∷ pieces token x) back
      ∙ ap (λ (x : List (List ℕ)). p ∷ x) (sym (only (q ∷ ps) h.0 h.1.1)))

  -- ---- and one there is

  begun_by : (bs : List ℕ) (o : Option (List ℕ)) → behind token bs ≡ o → is_some o ≡ true → OccursAt bs token 0
  begun_by bs None e t = absurd (cc)
  begun_by bs (Some rest) e t = stands token bs rest (behind_parts token bs rest e)

  begun_not : (bs : List ℕ) → begins_with token bs ≡ false → ¬ OccursAt bs token 0
  begun_not bs t o = both_ways (begins_with token bs) t (begins token bs o)

  -- no place up to one, and none behind the first byte up to it
  nowhere_sooner : (b : ℕ) (bs : List ℕ) (end : ℕ) → ¬ OccursAt (b ∷ bs) token 0 → ((j : ℕ) → 0 ≤ j → j < end → ¬ OccursAt bs token j) → (j : ℕ) → 0 ≤ j → j < suc end → ¬ OccursAt (b ∷ bs) token j
  nowhere_sooner b bs end here h zero low lt o = here o
  nowhere_sooner b bs end here h (suc j) low lt o = h j (omega arith) (omega arith) (later token b bs j o)

  found_later : (b : ℕ) (bs : List ℕ) (r : Option ℕ) → ¬ OccursAt (b ∷ bs) token 0 → FindsNeedle bs token 0 r → (s : Option ℕ) × FindsNeedle (b ∷ bs) token 0 s
  found_later b bs None here f =
      let long : length (b ∷ bs) + 1 ≡ suc (length bs + 1) = omega arith in
      (None, λ j low lt. nowhere_sooner b bs (length bs + 1) here f j low (subst (λ (m : ℕ). j < m) long lt))
  found_later b bs (Some k) here f = (
    Some (suc k),
    (
      record {
        low = omega arith;
        high = omega (arith, f.0.high);
        before = λ j low lt. nowhere_sooner b bs k here f.0.before j low lt;
      },
      sooner token b bs k f.1,
    ),
  )

  found_by : (t : Bool) (b : ℕ) (bs : List ℕ) → begins_with token (b ∷ bs) ≡ t → ((r : Option ℕ) × FindsNeedle bs token 0 r) → (r : Option ℕ) × FindsNeedle (b ∷ bs) token 0 r
  found_by true b bs t more = (
    Some 0,
    (
      record {
        low = omega arith;
        high = omega arith;
        before = λ j low lt o. absurd (omega arith);
      },
      begun_by (b ∷ bs) (behind token (b ∷ bs)) refl t,
    ),
  )
  found_by false b bs t more = found_later b bs more.0 (begun_not (b ∷ bs) t) more.1

  -- a search has an answer
  found : (bs : List ℕ) → (r : Option ℕ) × FindsNeedle bs token 0 r
  found [] = (None, λ k low lt o. absurd (omega (arith, n, o.fits)))
  found (b ∷ bs) = found_by (begins_with token (b ∷ bs)) b bs refl (found bs)

  one_more : (text p rest : List ℕ) (ps : List (List ℕ)) → CutAt text token p rest → Pieces rest token ps → Pieces text token (p ∷ ps)
  one_more text p rest [] c h = absurd h
  one_more text p rest (q ∷ ps) c h = (rest, (c, h))

  cut_by : (fuel : ℕ) (text : List ℕ) → length text < suc fuel → ((rest : List ℕ) → length rest < fuel → Pieces rest token (pieces token rest)) → (r : Option ℕ) → FindsNeedle text token 0 r → Pieces text token (pieces token text)
  cut_by fuel text lt ih None f = subst (Pieces text token) (sym (last_piece token text f)) (refl, f)
  cut_by fuel text lt ih (Some k) f =
      let rest : List ℕ = drop (k + length token) text in
      let shorter : length rest < fuel = omega (arith, n, f.1.fits, length-drop (k + length token) text) in
      subst (Pieces text token) (sym (first_piece token n text k f))
      (one_more text (take k text) rest (pieces token rest) (CutAt-found text token (take k text) rest k f refl refl) (ih rest shorter))

  cut_within : (fuel : ℕ) (text : List ℕ) → length text < fuel → Pieces text token (pieces token text)
  cut_within zero text lt = absurd (omega arith)
  cut_within (suc fuel) text lt = cut_by fuel text lt (cut_within fuel) (found text).0 (found text).1

  pub is_cut : (text : List ℕ) → Pieces text token (pieces token text)
  is_cut text = cut_within (suc (length text)) text (omega arith)

  -- ---- put together

  joined_of : (ps : List (List ℕ)) (text : List ℕ) → Pieces text token ps → joined token ps ≡ text
  joined_of [] text h = absurd h
  joined_of (p ∷ []) text h = h.0
  joined_of (p ∷ q ∷ ps) text h =
      let cut : CutAt text token p h.0 = h.1.0 in
      ap (λ (t : List ℕ). p ++ (token ++ t)) (joined_of (q ∷ ps) h.0 h.1.1) ∙ sym cut.whole

  pub put_together : (text : List ℕ) → joined token (pieces token text) ≡ text
  put_together text = joined_of (pieces token text) text (is_cut text)
