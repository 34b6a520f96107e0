-- Laws of values in a row, each under a key.
use Rattle.std.proofs.Common.{ℕ, zero, suc, ◌≡◌, ◌+◌, ◌<◌, bytes_eq, Bool, cond, true, false, List, [], ◌∷◌, ◌++◌, Some, None, refl, sym, ap, subst, ◌∙◌, length, get_or, drop, arith}
use Rattle.std.proofs.Math.Seq.{drop-cons}
use Rattle.std.proofs.Math.ListN.{set}
use Rattle.std.proofs.lemmas.Slice.Eq.{bytes_eq-Decides}
use Rattle.eip_keyed.specs.Keyed.{Keyed, found, StandsAt}

-- an entry and those behind it
cut-at : {V : Type 0} (es : Keyed V) (k : ℕ) (e : List ℕ × V) → e ≡ get_or es k e → k < length es → drop k es ≡ e ∷ drop (k + 1) es
cut-at es k e is below =
    let one : suc k ≡ k + 1 = omega arith in
    drop-cons es k e below ∙ ap (λ x. x ∷ drop (suc k) es) (sym is) ∙ ap (λ n. e ∷ drop n es) one

-- the first entry of the rest has the key
pub stands-here :
    {V : Type 0} (key : List ℕ) (es : Keyed V) (k : ℕ) (e : List ℕ × V) → e ≡ get_or es k e → k < length es → bytes_eq e.0 key ≡ true
    → StandsAt key 0 (drop k es)
stands-here {V = V} key es k e is below same = subst (λ (ys : Keyed V). StandsAt key 0 ys) (sym (cut-at es k e is below)) same

-- or it stands further behind
pub stands-next :
    {V : Type 0} (key : List ℕ) (es : Keyed V) (k j : ℕ) (e : List ℕ × V) → e ≡ get_or es k e → k < length es → bytes_eq e.0 key ≡ false
    → StandsAt key j (drop (k + 1) es) → StandsAt key (suc j) (drop k es)
stands-next {V = V} key es k j e is below other h =
    let both : (bytes_eq e.0 key ≡ false) × StandsAt key j (drop (k + 1) es) = (other, h) in
    subst (λ (ys : Keyed V). StandsAt key (suc j) ys) (sym (cut-at es k e is below)) both

pub found-next :
    {V : Type 0} (key : List ℕ) (es : Keyed V) (k : ℕ) (e : List ℕ × V) → e ≡ get_or es k e → k < length es → bytes_eq e.0 key ≡ false
    → found key (drop k es) ≡ found key (drop (k + 1) es)
found-next key es k e is below other = ap (found key) (cut-at es k e is below) ∙ (rw other refl)

-- where no entry has a key, one that is put behind the others is the first with it
pub stands-last : {V : Type 0} (key : List ℕ) (es : Keyed V) (v : V) → found key es ≡ None → StandsAt key (length es) (es ++ (key, v) ∷ [])
stands-last key [] v none = (bytes_eq-Decides key key).1 refl
stands-last {V = V} key (e ∷ es) v none =
    let At : Bool → Type 0 =
    λ b. bytes_eq e.0 key ≡ b → cond b (Some e.1) (found key es) ≡ None → StandsAt key (suc (length es)) (e ∷ (es ++ (key, v) ∷ [])) in
    let cases : At (bytes_eq e.0 key) =
    elim (bytes_eq e.0 key) as At [
      | true ↦ λ here some. absurd (cc some)
      | false ↦ λ other rest. (other, stands-last key es v rest)
    ] in
    cases refl none

-- and its value is found then
pub found-last : {V : Type 0} (key : List ℕ) (es : Keyed V) (v : V) → found key es ≡ None → found key (es ++ (key, v) ∷ []) ≡ Some v
found-last key [] v none = let same : bytes_eq key key ≡ true = (bytes_eq-Decides key key).1 refl in rw same refl
found-last {V = V} key (e ∷ es) v none =
    let At : Bool → Type 0 = λ b. cond b (Some e.1) (found key es) ≡ None → cond b (Some e.1) (found key (es ++ (key, v) ∷ [])) ≡ Some v in
    let cases : At (bytes_eq e.0 key) = elim (bytes_eq e.0 key) as At [ true ↦ λ some. absurd (cc some) | false ↦ λ rest. found-last key es v rest ] in
    cases none

-- other keys give what they gave
pub found-more : {V : Type 0} (key k : List ℕ) (es : Keyed V) (v : V) → bytes_eq k key ≡ false → found key (es ++ (k, v) ∷ []) ≡ found key es
found-more key k [] v other = rw other refl
found-more key k (e ∷ es) v other = ap (λ x. cond (bytes_eq e.0 key) (Some e.1) x) (found-more key k es v other)

-- the value of a key is that of the first entry with it
pub found-at : {V : Type 0} (key : List ℕ) (k : ℕ) (es : Keyed V) (d : List ℕ × V) → StandsAt key k es → found key es ≡ Some (get_or es k d).1
found-at key k [] d h = absurd h
found-at key zero (e ∷ es) d h = rw h refl
found-at key (suc k) (e ∷ es) d h = rw h.0 (found-at key k es d h.1)

-- and is another where that entry's is changed
pub found-set :
    {V : Type 0} (key x : List ℕ) (k : ℕ) (es : Keyed V) (d : List ℕ × V) (v : V) → StandsAt key k es → x ≡ (get_or es k d).0
    → found key (set es k (x, v)) ≡ Some v
found-set key x k [] d v h e = absurd h
found-set key x zero (q ∷ es) d v h e = rw (e, h) refl
found-set key x (suc k) (q ∷ es) d v h e = rw h.0 (found-set key x k es d v h.1 e)

-- that of another key is not
pub found-other :
    {V : Type 0} (key other x : List ℕ) (k : ℕ) (es : Keyed V) (d : List ℕ × V) (v : V) → StandsAt key k es → x ≡ (get_or es k d).0
    → bytes_eq key other ≡ false → found other (set es k (x, v)) ≡ found other es
found-other key other x k [] d v h e differs = absurd h
found-other key other x zero (q ∷ es) d v h e differs =
    let same : q.0 ≡ key = (bytes_eq-Decides q.0 key).0 h in
    rw (e, same, differs) refl
found-other key other x (suc k) (q ∷ es) d v h e differs =
    ap (λ y. cond (bytes_eq q.0 other) (Some q.1) y) (found-other key other x k es d v h.1 e differs)
