-- A text cut at a token, against a search for the token.
use Rattle.std.proofs.Common.{◌≡◌, ℕ, zero, suc, ◌+◌, ◌-◌, ◌<◌, true, false, List, [], ◌∷◌, ◌++◌, length, take, drop, Some, None, map, refl, sym, ap, ◌∙◌, arith, append_assoc, length-append}
use Rattle.std.specs.Option.{is_some}
use Rattle.std.proofs.lemmas.Grind.{common_steps}
use Rattle.std.specs.Prelude.{slice_index}
use denote.Ref.{Bor}
use Rattle.memchr.specs.Find.{OccursAt, FindsNeedle}
use Rattle.memchr.proofs.lemmas.MatchLemmas.{OccursAt-split, OccursAt-from_part}
use Rattle.eip_text.specs.Cuts.{behind, in_front}
use Rattle.eip_text.proofs.Cutting.{behind_again, behind_parts, none_since}
use Rattle.eip_pieces.specs.Pieces.{begins_with, pieces_behind, pieces}
use Rattle.eip_pieces.specs.Found.{FoundAt}

skipped : (token : List ℕ) (n : ℕ) (bs : List ℕ) → pieces_behind token n bs ≡ pieces token (drop n bs)
skipped token zero bs = refl
skipped token (suc n) [] = refl
skipped token (suc n) (b ∷ bs) = skipped token n bs

pub begins : (token bs : List ℕ) → OccursAt bs token 0 → begins_with token bs ≡ true
begins token bs o =
    let whole : bs ≡ token ++ drop (0 + length token) bs = OccursAt-split bs token 0 o in
    ap (λ (t : List ℕ). is_some (behind token t)) whole ∙ ap is_some (behind_again token (drop (0 + length token) bs))

pub taken : (xs ys : List ℕ) → take (length xs) (xs ++ ys) ≡ xs
taken [] ys = refl
taken (x ∷ xs) ys = ap (λ (t : List ℕ). x ∷ t) (taken xs ys)

pub stands : (token bs rest : List ℕ) → bs ≡ token ++ rest → OccursAt bs token 0
stands token bs rest e =
    OccursAt-from_part bs token 0 (omega (arith, ap length e, length-append token rest)) (ap (take (length token)) e ∙ taken token rest)

begins_not : (token bs : List ℕ) → ¬ OccursAt bs token 0 → begins_with token bs ≡ false
begins_not token bs h = ap is_some (sym (none_since (behind token bs) (λ rest e. h (stands token bs rest (behind_parts token bs rest e)))))

module _ (token : List ℕ) (b : ℕ) (bs : List ℕ) where
  -- a place of the text behind its first byte
  pub later : (k : ℕ) → OccursAt (b ∷ bs) token (suc k) → OccursAt bs token k
  later k o = record {
    fits = omega (arith, o.fits);
    reads = λ j lt. ap (slice_index (b ∷ bs)) (let moved : suc (k + j) ≡ suc k + j = omega arith in moved) ∙ o.reads j lt;
  }

  pub sooner : (k : ℕ) → OccursAt bs token k → OccursAt (b ∷ bs) token (suc k)
  sooner k o = record {
    fits = omega (arith, o.fits);
    reads = λ j lt. ap (slice_index (b ∷ bs)) (let moved : suc k + j ≡ suc (k + j) = omega arith in moved) ∙ o.reads j lt;
  }

  later_first : (k : ℕ) → FindsNeedle (b ∷ bs) token 0 (Some (suc k)) → FindsNeedle bs token 0 (Some k)
  later_first k f = (
    record {
      low = omega arith;
      high = omega (arith, f.0.high);
      before = λ j low lt o. f.0.before (suc j) (omega arith) (omega arith) (sooner j o);
    },
    later k f.1,
  )

  later_none : FindsNeedle (b ∷ bs) token 0 None → FindsNeedle bs token 0 None
  later_none f = λ j low lt o. f (suc j) (omega arith) (omega arith) (sooner j o)

  first_here : 0 < length token → OccursAt (b ∷ bs) token 0 → pieces token (b ∷ bs) ≡ [] ∷ pieces token (drop (length token) (b ∷ bs))
  first_here n o =
      let rest : drop (length token - 1) bs ≡ drop (length token) (b ∷ bs) = grind (arith, common_steps) in
      rw (begins token (b ∷ bs) o) (ap (λ (t : List (List ℕ)). [] ∷ t) (skipped token (length token - 1) bs ∙ ap (pieces token) rest))

  first_later : ¬ OccursAt (b ∷ bs) token 0 → pieces token (b ∷ bs) ≡ in_front b (pieces token bs)
  first_later h = rw (begins_not token (b ∷ bs) h) refl

-- the first piece of a text, and the pieces of what stands behind the token
pub first_piece : (token : List ℕ) → 0 < length token → (bs : List ℕ) (k : ℕ) → FindsNeedle bs token 0 (Some k) → pieces token bs ≡ take k bs ∷ pieces token (drop (k + length token) bs)
first_piece token n [] k f = absurd (omega (arith, f.1.fits))
first_piece token n (b ∷ bs) zero f =
    let length_only : length token ≡ 0 + length token = omega arith in
    first_here token b bs n f.1 ∙ ap (λ (m : ℕ). [] ∷ pieces token (drop m (b ∷ bs))) length_only
first_piece token n (b ∷ bs) (suc k) f =
    first_later token b bs (f.0.before 0 (omega arith) (omega arith))
    ∙ ap (in_front b) (first_piece token n bs k (later_first token b bs k f))
    ∙ ap (λ (m : ℕ). (b ∷ take k bs) ∷ pieces token (drop m (b ∷ bs))) (let moved : suc (k + length token) ≡ suc k + length token = omega arith in moved)

-- a text without the token is one piece
pub last_piece : (token bs : List ℕ) → FindsNeedle bs token 0 None → pieces token bs ≡ bs ∷ []
last_piece token [] f = refl
last_piece token (b ∷ bs) f =
    first_later token b bs (f 0 (omega arith) (omega arith))
    ∙ ap (in_front b) (last_piece token bs (later_none token b bs f))

-- ---- as the loop goes on

pub nows_append : (xs : List (Bor (List ℕ))) (x : Bor (List ℕ)) → map (λ y. y.now) (xs ++ x ∷ []) ≡ map (λ y. y.now) xs ++ x.now ∷ []
nows_append [] x = refl
nows_append (y ∷ ys) x = ap (λ (t : List (List ℕ)). y.now ∷ t) (nows_append ys x)

-- the pieces so far with those of the rest
pub more_pieces : (token : List ℕ) → 0 < length token → (xs : List (Bor (List ℕ))) (piece more : Bor (List ℕ)) (rest : List ℕ) (total : List (List ℕ)) → FoundAt rest token piece.now more.now
    → map (λ x. x.now) xs ++ pieces token rest ≡ total → map (λ x. x.now) (xs ++ piece ∷ []) ++ pieces token more.now ≡ total
more_pieces token n xs piece more rest total f h =
    let first : pieces token rest ≡ piece.now ∷ pieces token more.now = first_piece token n rest f.place f.first ∙ rw (f.before, f.behind) refl in
    ap (λ (t : List (List ℕ)). t ++ pieces token more.now) (nows_append xs piece)
    ∙ append_assoc (map (λ x. x.now) xs) (piece.now ∷ []) (pieces token more.now)
    ∙ ap (λ (t : List (List ℕ)). map (λ x. x.now) xs ++ t) (sym first) ∙ h

pub whole_pieces : (token : List ℕ) (xs : List (Bor (List ℕ))) (rest : Bor (List ℕ)) (total : List (List ℕ)) → FindsNeedle rest.now token 0 None
    → map (λ x. x.now) xs ++ pieces token rest.now ≡ total → map (λ x. x.now) (xs ++ rest ∷ []) ≡ total
whole_pieces token xs rest total f h =
    nows_append xs rest ∙ ap (λ (t : List (List ℕ)). map (λ x. x.now) xs ++ t) (sym (last_piece token rest.now f)) ∙ h
