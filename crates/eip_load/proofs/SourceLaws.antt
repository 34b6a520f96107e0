-- Laws of the source of a load test: the items of each URI, and what is left of them.
use Rattle.std.proofs.Common.{ℕ, zero, suc, ◌≡◌, ◌+◌, ◌<◌, ◌^◌, Bool, true, false, bytes_eq, cond, List, [], ◌∷◌, ◌++◌, codes, decimal, drop, Option, Some, None, unwrap_or, get_or, refl, sym, ap, ◌∙◌, subst, arith}
use Rattle.std.proofs.Math.ListN.{set}
use Rattle.std.proofs.Math.Seq.{drop-nil}
use Rattle.std.proofs.lemmas.Bool.{false_from_ne_true}
use Rattle.std.proofs.lemmas.Slice.Eq.{bytes_eq-Decides}
use Rattle.eip_text.proofs.CountLemmas.{count_again}
use Rattle.eip_text.specs.Counts.{count_of}
use Rattle.eip_keyed.specs.Keyed.{Keyed, found, StandsAt}
use Rattle.eip_keyed.proofs.KeyedLaws.{found-at, found-set, found-other}
use Rattle.eip_uri.specs.Printed.{printed}
use Rattle.eip_uri.specs.declared.uri.Uri.{Uri}
use Rattle.eip_uri.specs.declared.uri.Uri.TheVariants as uri
use Rattle.eip_endpoint.specs.declared.source.Pulled.{Pulled}
use Rattle.eip_endpoint.specs.Content.{where_same}
use Rattle.eip_endpoint.specs.Pulls.{all_taken, EndsAtEnd}
use Rattle.eip_load.specs.Items.{items_of, GaveItem}
use Rattle.eip_load.specs.Sources.{items_for, items_at, given_of, left_of}
use Rattle.eip_load.proofs.ItemLaws.{gave-left, gave-end}

-- ---- generators by their URIs

-- one that has given nothing stands for one that is not there
pub given_of-more : (v u : List ℕ) (gs : Keyed ℕ) (g : ℕ) → g ≡ 0 → given_of v (gs ++ (u, g) ∷ []) ≡ given_of v gs
given_of-more v u [] g fresh = elim (bytes_eq u v) as (λ b. unwrap_or (cond b (Some g) None) 0 ≡ 0) [ true ↦ fresh | false ↦ refl ]
given_of-more v u (q ∷ gs) g fresh =
    let ih = given_of-more v u gs g fresh in
    elim (bytes_eq q.0 v) as (λ b. unwrap_or (cond b (Some q.1) (found v (gs ++ (u, g) ∷ []))) 0 ≡ unwrap_or (cond b (Some q.1) (found v gs)) 0) [
      | true ↦ refl
      | false ↦ ih
    ]

pub given-at : (u : List ℕ) (k : ℕ) (gs : Keyed ℕ) (d : List ℕ × ℕ) → StandsAt u k gs → given_of u gs ≡ (get_or gs k d).1
given-at u k gs d h = ap (λ (o : Option ℕ). unwrap_or o 0) (found-at u k gs d h)

pub given-set :
    (u x : List ℕ) (k : ℕ) (gs : Keyed ℕ) (d : List ℕ × ℕ) (g : ℕ) → StandsAt u k gs → x ≡ (get_or gs k d).0 → given_of u (set gs k (x, g)) ≡ g
given-set u x k gs d g h e = ap (λ (o : Option ℕ). unwrap_or o 0) (found-set u x k gs d g h e)

pub given-other :
    (u v x : List ℕ) (k : ℕ) (gs : Keyed ℕ) (d : List ℕ × ℕ) (g : ℕ) → StandsAt u k gs → x ≡ (get_or gs k d).0 → bytes_eq u v ≡ false
    → given_of v (set gs k (x, g)) ≡ given_of v gs
given-other u v x k gs d g h e other = ap (λ (o : Option ℕ). unwrap_or o 0) (found-other u v x k gs d g h e other)

-- ---- items by their URIs

-- the printed form of load:N tells its items
pub items-load : (n : ℕ) → n < 2 ^ 32 → items_at (printed (uri.Load n)) ≡ items_of n
unfolding printed
items-load n h = ap (λ (o : Option ℕ). items_of (unwrap_or o 0)) (count_again n h)

-- and that of another URI none
pub items-other : (from : Uri) → ((n : ℕ) → ¬ (from ≡ uri.Load n)) → items_at (printed from) ≡ []
unfolding printed
items-other (uri.Direct name) h = refl
items-other (uri.Seda name size consumers discard) h = refl
items-other (uri.File folder after failed exist) h = refl
items-other uri.StreamIn h = refl
items-other (uri.Log name) h = refl
items-other (uri.Line host port) h = refl
items-other (uri.Listen port) h = refl
items-other (uri.Lane name) h = refl
items-other (uri.Load n) h = absurd (h n refl)

pub items-own : (from : Uri) → ((n : ℕ) → ¬ (from ≡ uri.Load n)) → items_for from ≡ []
items-own (uri.Direct name) h = refl
items-own (uri.Seda name size consumers discard) h = refl
items-own (uri.File folder after failed exist) h = refl
items-own uri.StreamIn h = refl
items-own (uri.Log name) h = refl
items-own (uri.Line host port) h = refl
items-own (uri.Listen port) h = refl
items-own (uri.Lane name) h = refl
items-own (uri.Load n) h = absurd (h n refl)

-- ---- what is left

-- an answer that takes nothing
pub nothing-taken : (u v : List ℕ) (ps xs : List Pulled) → all_taken ps ≡ [] → xs ≡ all_taken (where_same u v ps) ++ xs
nothing-taken u v ps xs none =
    let e : all_taken (where_same u v ps) ≡ [] = elim (bytes_eq u v) as (λ b. all_taken (cond b ps []) ≡ []) [ true ↦ none | false ↦ refl ] in
    ap (λ (q : List Pulled). q ++ xs) (sym e)

left-step :
    (b : Bool) (u v : List ℕ) (old new : Keyed ℕ) (n : ℕ) (p : Pulled) → bytes_eq u v ≡ b → items_at v ≡ items_of n
    → GaveItem n (given_of v old) (given_of v new) p
    → ((w : List ℕ) → bytes_eq v w ≡ false → given_of w new ≡ given_of w old)
    → left_of u old ≡ all_taken (cond b (p ∷ []) []) ++ left_of u new
left-step true u v old new n p same items gave others =
    let e : u ≡ v = (bytes_eq-Decides u v).0 same in
    let here : left_of v old ≡ all_taken (p ∷ []) ++ left_of v new =
    subst (λ (xs : List Pulled). drop (given_of v old) xs ≡ all_taken (p ∷ []) ++ drop (given_of v new) xs) (sym items) (gave-left n (given_of v old) (given_of v new) p gave) in
    subst (λ (w : List ℕ). left_of w old ≡ all_taken (p ∷ []) ++ left_of w new) (sym e) here
left-step false u v old new n p same items gave others =
    let other : bytes_eq v u ≡ false = false_from_ne_true (bytes_eq v u) (λ t. absurd (cc (same, (bytes_eq-Decides u v).1 (sym ((bytes_eq-Decides v u).0 t))))) in
    ap (λ k. drop k (items_at u)) (sym (others u other))

-- a pull takes the first of what is left for its URI, and nothing for another
pub pulled-left :
    (u v : List ℕ) (old new : Keyed ℕ) (n : ℕ) (p : Pulled) → items_at v ≡ items_of n → GaveItem n (given_of v old) (given_of v new) p
    → ((w : List ℕ) → bytes_eq v w ≡ false → given_of w new ≡ given_of w old)
    → left_of u old ≡ all_taken (where_same u v (p ∷ [])) ++ left_of u new
pulled-left u v old new n p items gave others = left-step (bytes_eq u v) u v old new n p refl items gave others

-- want of memory takes nothing
pub kept-left :
    (u v : List ℕ) (old new : Keyed ℕ) → given_of v new ≡ given_of v old
    → ((w : List ℕ) → bytes_eq v w ≡ false → given_of w new ≡ given_of w old)
    → left_of u old ≡ all_taken (where_same u v []) ++ left_of u new
kept-left u v old new same others =
    let Is : Bool → Type 0 = λ b. bytes_eq v u ≡ b → given_of u new ≡ given_of u old in
    let cases : Is (bytes_eq v u) = elim (bytes_eq v u) as Is [
      | true ↦ λ here. let e : v ≡ u = (bytes_eq-Decides v u).0 here in subst (λ (w : List ℕ). given_of w new ≡ given_of w old) e same
      | false ↦ λ other. others u other
    ] in
    ap (λ k. drop k (items_at u)) (sym (cases refl)) ∙ nothing-taken u v [] (left_of u new) refl

-- the end comes only where nothing is left
pub pulled-ends :
    (v : List ℕ) (old new : Keyed ℕ) (n : ℕ) (p : Pulled) → items_at v ≡ items_of n → GaveItem n (given_of v old) (given_of v new) p
    → EndsAtEnd (Some (left_of v old)) p
pulled-ends v old new n p items gave = gave-end n (given_of v old) (given_of v new) p gave (left_of v old) (ap (drop (given_of v old)) items)

-- a URI without items has none left
pub none-left : (v : List ℕ) (old : Keyed ℕ) → items_at v ≡ [] → left_of v old ≡ []
none-left v old items = ap (drop (given_of v old)) items ∙ drop-nil (given_of v old)
