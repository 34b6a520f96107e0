-- Laws of which peers a link has connections to.
use Rattle.std.proofs.Common.{ℕ, zero, suc, ◌≡◌, ◌||◌, not, bytes_eq, Bool, cond, true, false, List, [], ◌∷◌, ◌++◌, Some, None, Result, Ok, Err, refl, sym, ap, ◌∙◌, get_or, append-nil}
use Rattle.std.specs.List.{filter}
use Rattle.std.proofs.Math.ListN.{set}
use Rattle.std.proofs.lemmas.Slice.Eq.{bytes_eq-Decides}
use Rattle.eip_keyed.specs.Keyed.{Keyed, keys_of, found, StandsAt}
use Rattle.eip_endpoint.specs.Files.{is_among}
use Rattle.eip_line.specs.declared.link.LinkFault.{LinkFault}
use Rattle.eip_line.specs.Links.{Wrote}
use Rattle.eip_peers.specs.Peers.{untold_bytes, with_name, GivenUp}

-- ---- connections by their names

-- where no entry has a name, it is not among the names
absent : {V : Type 0} (u : List ℕ) (es : Keyed V) → found u es ≡ None → is_among u (keys_of es) ≡ false
absent u [] none = refl
absent {V = V} u (e ∷ es) none =
    let At : Bool → Type 0 = λ b. cond b (Some e.1) (found u es) ≡ None → (b || is_among u (keys_of es)) ≡ false in
    let cases : At (bytes_eq e.0 u) = elim (bytes_eq e.0 u) as At [ true ↦ λ some. absurd (cc some) | false ↦ λ rest. absent u es rest ] in
    cases none

-- where one has, it is
present : {V : Type 0} (u : List ℕ) (k : ℕ) (es : Keyed V) → StandsAt u k es → is_among u (keys_of es) ≡ true
present u k [] h = absurd h
present u zero (e ∷ es) h = rw h refl
present u (suc k) (e ∷ es) h = rw h.0 (present u k es h.1)

-- a connection that is there is not opened again
pub kept-there : {V : Type 0} (u : List ℕ) (k : ℕ) (es : Keyed V) → StandsAt u k es → keys_of es ≡ with_name u (keys_of es)
kept-there u k es h = rw (present u k es h) refl

keys-last : {V : Type 0} (u : List ℕ) (es : Keyed V) (v : V) → keys_of (es ++ (u, v) ∷ []) ≡ keys_of es ++ u ∷ []
keys-last u [] v = refl
keys-last u (e ∷ es) v = ap (λ (names : List (List ℕ)). e.0 ∷ names) (keys-last u es v)

-- one that is not there is opened
pub put-there : {V : Type 0} (u : List ℕ) (es : Keyed V) (v : V) → found u es ≡ None → keys_of (es ++ (u, v) ∷ []) ≡ with_name u (keys_of es)
put-there u es v none = rw (absent u es none) (keys-last u es v)

-- a change of a connection changes no name
pub keys-set : {V : Type 0} (u : List ℕ) (k : ℕ) (es : Keyed V) (d : List ℕ × V) (v : V) → u ≡ (get_or es k d).0 → keys_of (set es k (u, v)) ≡ keys_of es
keys-set u k [] d v e = refl
keys-set u zero (q ∷ es) d v e = ap (λ (name : List ℕ). name ∷ keys_of es) e
keys-set u (suc k) (q ∷ es) d v e = ap (λ (names : List (List ℕ)). q.0 ∷ names) (keys-set u k es d v e)

-- ---- connections that are given up

-- without a connection there is none to give up
pub none-open : {V : Type 0} (u : List ℕ) (es : Keyed V) → found u es ≡ None → GivenUp u (keys_of es) (keys_of es)
none-open u es none = record { gone = absent u es none; others = λ v other. refl }

-- the entries but those of a name
abbrev pub but : {V : Type 0} → List ℕ → Keyed V → Keyed V
but u es = filter (λ e. not (bytes_eq e.0 u)) es

gone-but : {V : Type 0} (u : List ℕ) (es : Keyed V) → is_among u (keys_of (but u es)) ≡ false
gone-but u [] = refl
gone-but {V = V} u (e ∷ es) =
    let ih = gone-but u es in
    let At : Bool → Type 0 = λ b. bytes_eq e.0 u ≡ b → is_among u (keys_of (cond (not b) (e ∷ but u es) (but u es))) ≡ false in
    let cases : At (bytes_eq e.0 u) = elim (bytes_eq e.0 u) as At [ true ↦ λ here. ih | false ↦ λ other. rw other ih ] in
    cases refl

others-but : {V : Type 0} (u v : List ℕ) (es : Keyed V) → bytes_eq u v ≡ false → is_among v (keys_of (but u es)) ≡ is_among v (keys_of es)
others-but u v [] differs = refl
others-but {V = V} u v (e ∷ es) differs =
    let ih = others-but u v es differs in
    let At : Bool → Type 0 = λ b. bytes_eq e.0 u ≡ b → is_among v (keys_of (cond (not b) (e ∷ but u es) (but u es))) ≡ (bytes_eq e.0 v || is_among v (keys_of es)) in
    let cases : At (bytes_eq e.0 u) =
    elim (bytes_eq e.0 u) as At [
      | true ↦ λ here. let same : e.0 ≡ u = (bytes_eq-Decides e.0 u).0 here in rw (same, differs) ih
      | false ↦ λ other. ap (λ (b : Bool). bytes_eq e.0 v || b) ih
    ] in
    cases refl

-- the connection of one name goes, and the others stay
pub given-up : {V : Type 0} (u : List ℕ) (es fs : Keyed V) → fs ≡ but u es → GivenUp u (keys_of es) (keys_of fs)
given-up u es fs left = record {
  gone = rw left (gone-but u es);
  others = λ v differs. rw left (others-but u v es differs);
}

among-last : (u v : List ℕ) (names : List (List ℕ)) → bytes_eq u v ≡ false → is_among v (names ++ u ∷ []) ≡ is_among v names
among-last u v [] differs = rw differs refl
among-last u v (n ∷ ns) differs = ap (λ (b : Bool). bytes_eq n v || b) (among-last u v ns differs)

among-with : (u v : List ℕ) (names : List (List ℕ)) → bytes_eq u v ≡ false → is_among v (with_name u names) ≡ is_among v names
among-with u v names differs =
    elim (is_among u names) as (λ b. is_among v (cond b names (names ++ u ∷ [])) ≡ is_among v names) [ true ↦ refl | false ↦ among-last u v names differs ]

-- a connection that was opened and given up
pub opened-in-vain :
    (u : List ℕ) (names called still left : List (List ℕ)) → called ≡ with_name u names → still ≡ called → GivenUp u still left → GivenUp u names left
opened-in-vain u names called still left opened kept up = record {
  gone = up.gone;
  others = λ v differs. up.others v differs ∙ ap (is_among v) (kept ∙ opened) ∙ among-with u v names differs;
}

-- ---- writing

-- a link that tells no content tells nothing of what it wrote
pub wrote-untold : (bytes : List ℕ) (r : Result Unit LinkFault) → Wrote untold_bytes bytes r untold_bytes
wrote-untold bytes (Ok u) = record { front = bytes; rest = []; cut = sym (append-nil bytes); grew = refl; whole = refl }
wrote-untold bytes (Err f) = record { front = bytes; rest = []; cut = sym (append-nil bytes); grew = refl; whole = tt }
