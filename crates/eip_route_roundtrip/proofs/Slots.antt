-- An object by its slots: the members that it has, and those that it may have.
use Rattle.std.proofs.Common.{◌≡◌, ℕ, Bool, true, false, ◌||◌, cond, List, [], ◌∷◌, ◌++◌, Option, Some, None, is_some, refl, ap, ◌∙◌}
use Rattle.eip_text.specs.Json.{Json, Members, no_members, member, members_of}
use Rattle.eip_route_grammar.specs.Keys.{is_spelled}
use Rattle.eip_route_grammar.specs.Objects.{value_at, has_key, keys_of}
use Rattle.eip_route_grammar.specs.declared.keys.Key.{Key}
use Rattle.eip_route_canonical.specs.Canonical.{Pairs}

pub data Slot : Type 0 where
  sure : List ℕ → Json → Slot
  maybe : List ℕ → Option Json → Slot

abbrev pub with_given : List ℕ → Option Json → Pairs → Pairs
with_given k None ps = ps
with_given k (Some j) ps = (k, j) ∷ ps

-- the members that slots give
unfoldable pub filled : List Slot → Pairs
filled [] = []
filled (sure k j ∷ ss) = (k, j) ∷ filled ss
filled (maybe k o ∷ ss) = with_given k o (filled ss)

pub record Puts (ps : Pairs) (ss : List Slot) : Type 0 where
  pub same : ps ≡ filled ss

-- ---- what pairs put

pub put_none : Puts [] []
unfolding filled
put_none = record { same = refl }

pub put_one : {k : List ℕ} {j : Json} → Puts ((k, j) ∷ []) (sure k j ∷ [])
unfolding filled
put_one {k} {j} = record { same = refl }

-- a part that is there or not
pub put_given : {k : List ℕ} {o : Option Json} → Puts (with_given k o []) (maybe k o ∷ [])
unfolding filled
put_given {k} {o} = record { same = refl }

given_append : (k : List ℕ) (o : Option Json) (ps qs : Pairs) → with_given k o ps ++ qs ≡ with_given k o (ps ++ qs)
given_append k None ps qs = refl
given_append k (Some j) ps qs = refl

filled_append : (ss ts : List Slot) → filled ss ++ filled ts ≡ filled (ss ++ ts)
unfolding filled
filled_append [] ts = refl
filled_append (sure k j ∷ ss) ts = ap (λ (ps : Pairs). (k, j) ∷ ps) (filled_append ss ts)
filled_append (maybe k o ∷ ss) ts = given_append k o (filled ss) (filled ts) ∙ ap (with_given k o) (filled_append ss ts)

infixl 20 ◌and◌
pub ◌and◌ : {ps qs : Pairs} {ss ts : List Slot} → Puts ps ss → Puts qs ts → Puts (ps ++ qs) (ss ++ ts)
◌and◌ {ps} {qs} {ss} {ts} p q = record {
  same = ap (λ (x : Pairs). x ++ qs) p.same ∙ (ap (λ (x : Pairs). filled ss ++ x) q.same ∙ filled_append ss ts);
}

-- ---- the value of a key

-- by what later slots have as the value
abbrev pub or_later : Option Json → Option Json → Option Json
or_later None o = o
or_later (Some t) None = Some t
or_later (Some t) (Some j) = Some j

abbrev pub slot_at : Key → List Slot → Option Json
slot_at q [] = None
slot_at q (sure k j ∷ ss) = cond (is_spelled q k) (Some j) (slot_at q ss)
slot_at q (maybe k o ∷ ss) = cond (is_spelled q k) (or_later (slot_at q ss) o) (slot_at q ss)

later_same : (b : Bool) (later : Option Json) → later ≡ cond b (or_later later None) later
later_same true None = refl
later_same true (Some t) = refl
later_same false later = refl

own_first : (j : Json) (later : Option Json) → Some j ≡ or_later later (Some j)
own_first j None = refl
own_first j (Some t) = refl

pub value_filled : (q : Key) (ss : List Slot) → value_at q (members_of (filled ss)) ≡ slot_at q ss
unfolding filled
value_filled q [] = refl
value_filled q (sure k j ∷ ss) = ap (cond (is_spelled q k) (Some j)) (value_filled q ss)
value_filled q (maybe k None ∷ ss) = value_filled q ss ∙ later_same (is_spelled q k) (slot_at q ss)
value_filled q (maybe k (Some j) ∷ ss) =
    ap (cond (is_spelled q k) (Some j)) (value_filled q ss) ∙ ap (λ (o : Option Json). cond (is_spelled q k) o (slot_at q ss)) (own_first j (slot_at q ss))

by_spelling : (b : Bool) (t : Json) (x : Bool) (o : Option Json) → x ≡ is_some o → (b || x) ≡ is_some (cond b (Some t) o)
by_spelling true t x o e = refl
by_spelling false t x o e = e

-- an object has a key where it has a value
pub key_value : (q : Key) (ms : Members) → has_key q ms ≡ is_some (value_at q ms)
key_value q no_members = refl
key_value q (member k t ms) = by_spelling (is_spelled q k) t (has_key q ms) (value_at q ms) (key_value q ms)

-- ---- keys

-- the keys of all slots, and of those that are sure
abbrev pub all_keys : List Slot → List (List ℕ)
all_keys [] = []
all_keys (sure k j ∷ ss) = k ∷ all_keys ss
all_keys (maybe k o ∷ ss) = k ∷ all_keys ss

abbrev pub sure_keys : List Slot → List (List ℕ)
sure_keys [] = []
sure_keys (sure k j ∷ ss) = k ∷ sure_keys ss
sure_keys (maybe k o ∷ ss) = sure_keys ss

abbrev pub slot_keys : List Slot → List (List ℕ)
slot_keys ss = keys_of (members_of (filled ss))
