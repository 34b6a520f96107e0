-- Values whose objects have their keys in order, and that nest to a bound.
use Rattle.std.proofs.Common.{◌≡◌, ◌⊎◌, ℕ, suc, ◌≤◌, List, [], ◌∷◌, ◌++◌, refl, sym, subst, inl, inr, arith, Less, nat_cmp}
use Rattle.std.proofs.lemmas.Cmp.{nat_list_cmp_total}
use Rattle.std.specs.Cmp.Lexicographic.{slice_cmp}
use Rattle.std.specs.Prelude.{Bool, true, false, Option, Some, None}
use Rattle.eip_text.specs.Json.{Json, flag, word, items_of, members_of}
use Rattle.eip_text.specs.JsonText.{nesting, items_nesting, members_nesting, Above, IsCanonical, ItemsAreCanonical, MembersAreCanonical}
use Rattle.eip_route_canonical.specs.Canonical.{Pairs, object_of, list_of, one, alone, where_set, where_unset, given_word, where_any}

-- a canonical value, of at most n levels
pub record Good (n : ℕ) (j : Json) : Type 0 where
  pub canonical : IsCanonical j
  pub shallow : nesting j ≤ n

pub deeper : {n m : ℕ} {j : Json} → Good n j → n ≤ m → Good m j
deeper g h = record { canonical = g.canonical; shallow = omega arith }

pub word_good : {n : ℕ} (w : List ℕ) → Good n (word w)
word_good w = record { canonical = tt; shallow = omega arith }

pub flag_good : {n : ℕ} (b : Bool) → Good n (flag b)
flag_good b = record { canonical = tt; shallow = omega arith }

-- ---- lists

pub record AllGood (n : ℕ) (js : List Json) : Type 0 where
  pub canonical : ItemsAreCanonical (items_of js)
  pub shallow : items_nesting (items_of js) ≤ n

pub no_good : {n : ℕ} → AllGood n []
no_good = record { canonical = tt; shallow = omega arith }

pub more_good : {n : ℕ} {j : Json} {js : List Json} → Good n j → AllGood n js → AllGood n (j ∷ js)
more_good g h = record { canonical = (g.canonical, h.canonical); shallow = omega arith }

pub list_good : {n : ℕ} {js : List Json} → AllGood n js → Good (suc n) (list_of js)
list_good h = record { canonical = h.canonical; shallow = omega arith }

pub both_good : {n : ℕ} (js : List Json) {ks : List Json} → AllGood n js → AllGood n ks → AllGood n (js ++ ks)
both_good [] h i = i
both_good (j ∷ js) h i =
    more_good (record { canonical = h.canonical.0; shallow = omega arith }) (both_good js (record { canonical = h.canonical.1; shallow = omega arith }) i)

-- ---- keys in byte order

abbrev pub Before : List ℕ → List ℕ → Type 0
Before k l = slice_cmp nat_cmp k l ≡ Less

abbrev AtMost : List ℕ → List ℕ → Type 0
AtMost k l = (k ≡ l) ⊎ Before k l

earlier : (k l m : List ℕ) → AtMost k l → Before l m → Before k m
earlier k l m (inl e) h = subst (λ x. Before x m) (sym e) h
earlier k l m (inr i) h = nat_list_cmp_total.trans k l m i h

later : (k l m : List ℕ) → Before k l → AtMost l m → Before k m
later k l m h (inl e) = subst (Before k) e h
later k l m h (inr i) = nat_list_cmp_total.trans k l m h i

-- good members whose keys stand behind `low`, each behind the one before, and not behind `high`
abbrev After : ℕ → List ℕ → List ℕ → Pairs → Type 0
After n low high [] = AtMost low high
After n low high (m ∷ ms) = Before low m.0 × (Good n m.1 × After n m.0 high ms)

-- good members in their order, of which none stands before the first key or behind the last one
pub record Run (n : ℕ) (first last : List ℕ) (ms : Pairs) : Type 0 where
  after : (low : List ℕ) → Before low first → After n low last ms

chain : (n : ℕ) (low middle next high : List ℕ) (ms ns : Pairs) → After n low middle ms → ((k : List ℕ) → Before k next → After n k high ns) → Before middle next
    → After n low high (ms ++ ns)
chain n low middle next high [] ns h i b = i low (earlier low middle next h b)
chain n low middle next high (m ∷ ms) ns h i b = (h.0, (h.1.0, chain n m.0 middle next high ms ns h.1.1 i b))

pub join : {n : ℕ} {first middle next last : List ℕ} {ms ns : Pairs} → Run n first middle ms → Run n next last ns → Before middle next → Run n first last (ms ++ ns)
join {n} {first} {middle} {next} {last} {ms} {ns} h i b = record { after = λ low l. chain n low middle next last ms ns (h.after low l) i.after b }

-- one member, which stands between the two keys
pub within : {n : ℕ} (first last k : List ℕ) (j : Json) → AtMost first k → AtMost k last → Good n j → Run n first last (one k j)
within first last k j h i g = record { after = λ low l. (later low first k l h, (g, i)) }

pub single : {n : ℕ} (k : List ℕ) {j : Json} → Good n j → Run n k k (one k j)
single k {j} g = within k k k j (inl refl) (inl refl) g

pub nothing : {n : ℕ} (first last : List ℕ) → AtMost first last → Run n first last []
nothing first last h = record { after = λ low l. inr (later low first last l h) }

pub absent : {n : ℕ} (k : List ℕ) → Run n k k []
absent k = nothing k k (inl refl)

-- ---- objects

above_before : (n : ℕ) (k low high : List ℕ) (ms : Pairs) → Before k low → After n low high ms → Above k (members_of ms)
above_before n k low high [] b h = tt
above_before n k low high (m ∷ ms) b h =
    let first : Before k m.0 = nat_list_cmp_total.trans k low m.0 b h.0 in
    (first, above_before n k m.0 high ms first h.1.1)

above : (n : ℕ) (low high : List ℕ) (ms : Pairs) → After n low high ms → Above low (members_of ms)
above n low high [] h = tt
above n low high (m ∷ ms) h = (h.0, above_before n low m.0 high ms h.0 h.1.1)

members_canonical : (n : ℕ) (low high : List ℕ) (ms : Pairs) → After n low high ms → MembersAreCanonical (members_of ms)
members_canonical n low high [] h = tt
members_canonical n low high (m ∷ ms) h = (above n m.0 high ms h.1.1, (h.1.0.canonical, members_canonical n m.0 high ms h.1.1))

members_shallow : (n : ℕ) (low high : List ℕ) (ms : Pairs) → After n low high ms → members_nesting (members_of ms) ≤ n
members_shallow n low high [] h = omega arith
members_shallow n low high (m ∷ ms) h = omega (arith, members_shallow n m.0 high ms h.1.1)

pub object_good : {n : ℕ} {first last : List ℕ} {ms : Pairs} → Run n first last ms → Before [] first → Good (suc n) (object_of ms)
object_good {n} {first} {last} {ms} r b =
    let h = r.after [] b in
    let inside : members_nesting (members_of ms) ≤ n = members_shallow n [] last ms h in
    record { canonical = members_canonical n [] last ms h; shallow = omega arith }

pub alone_good : {n : ℕ} (k : List ℕ) {j : Json} → Good n j → Good (suc n) (alone k j)
alone_good k g = record { canonical = (tt, (g.canonical, tt)); shallow = omega arith }

-- ---- members that may be absent

pub set_in : {n : ℕ} (k : List ℕ) (b : Bool) → Run n k k (where_set k b)
set_in k true = single k (flag_good true)
set_in k false = absent k

pub unset_in : {n : ℕ} (k : List ℕ) (b : Bool) → Run n k k (where_unset k b)
unset_in k true = absent k
unset_in k false = single k (flag_good false)

pub word_in : {n : ℕ} (k : List ℕ) (o : Option (List ℕ)) → Run n k k (given_word k o)
word_in k None = absent k
word_in k (Some w) = single k (word_good w)

pub any_in : {n : ℕ} {first last : List ℕ} (k : List ℕ) (ms : Pairs) → Run n first last ms → Before [] first → Run (suc n) k k (where_any k ms)
any_in k [] h b = absent k
any_in k (m ∷ ms) h b = single k (object_good h b)
