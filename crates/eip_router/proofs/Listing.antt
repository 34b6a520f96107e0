-- Items and endpoints as they are gathered one by one.
use Rattle.std.proofs.Common.{◌≡◌, ℕ, suc, Bool, true, false, cond, List, [], ◌∷◌, ◌++◌, Option, Some, None, Result, Ok, Err, refl, sym, ap, subst, ◌∙◌, append_assoc}
use Rattle.eip_uri.specs.declared.uri.Uri.{Uri}
use Rattle.eip_uri.specs.declared.fault.UriFault.{UriFault}
use Rattle.eip_uri.specs.Printed.{printed}
use Rattle.eip_uri.specs.Reading.{read}
use Rattle.eip_uri.proofs.AgainForms.{uri_again}
use Rattle.eip_uri.proofs.Ranged.{read_ranged}
use Rattle.eip_uri.specs.Sides.{is_producer}
use Rattle.eip_router.specs.Blanks.{trimmed}
use Rattle.eip_router.specs.declared.fault.RecipientFault.{RecipientFault}
use Rattle.eip_router.specs.Recipients.{kept, items_of, recipient, where_producer, before, read_from, AreTargets}

kept_first : (item : List ℕ) (items : List (List ℕ)) → kept item items ≡ kept item [] ++ items
kept_first [] items = refl
kept_first (b ∷ bs) items = refl

-- one more item that isn't empty
pub more_items : (xs ys total : List (List ℕ)) (p : List ℕ) (ps : List (List ℕ)) → ys ≡ xs ++ kept (trimmed p) []
    → xs ++ items_of (p ∷ ps) ≡ total → ys ++ items_of ps ≡ total
more_items xs ys total p ps e h =
    ap (λ (t : List (List ℕ)). t ++ items_of ps) e
    ∙ append_assoc xs (kept (trimmed p) []) (items_of ps)
    ∙ ap (λ (t : List (List ℕ)). xs ++ t) (sym (kept_first (trimmed p) (items_of ps))) ∙ h

-- ---- endpoints

-- the endpoints so far before those that follow
abbrev pub behind : List Uri → Result (List Uri) RecipientFault → Result (List Uri) RecipientFault
behind us (Ok vs) = Ok (us ++ vs)
behind us (Err e) = Err e

behind_one : (us : List Uri) (u : Uri) (k : ℕ) (r : Result (List Uri) RecipientFault) → behind us (before (Some u) k r) ≡ behind (us ++ u ∷ []) r
behind_one us u k (Ok vs) = ap Ok (sym (append_assoc us (u ∷ []) vs))
behind_one us u k (Err e) = refl

-- one more endpoint
pub more_uris : (us ws : List Uri) (u : Uri) (k : ℕ) (item : List ℕ) (items : List (List ℕ)) (total : Result (List Uri) RecipientFault) → Some u ≡ recipient item → ws ≡ us ++ u ∷ []
    → behind us (read_from k (item ∷ items)) ≡ total → behind ws (read_from (suc k) items) ≡ total
more_uris us ws u k item items total r e h =
    ap (λ (t : List Uri). behind t (read_from (suc k) items)) e
    ∙ sym (behind_one us u k (read_from (suc k) items))
    ∙ ap (λ (o : Option Uri). behind us (before o k (read_from (suc k) items))) r ∙ h

-- a bad one ends it
pub bad_uri : (us : List Uri) (k : ℕ) (item : List ℕ) (items : List (List ℕ)) (total : Result (List Uri) RecipientFault) → None ≡ recipient item
    → behind us (read_from k (item ∷ items)) ≡ total → total ≡ before None k (read_from (suc k) items)
bad_uri us k item items total r h = sym h ∙ sym (ap (λ (o : Option Uri). behind us (before o k (read_from (suc k) items))) r)

-- ---- what they are

target_by : (t : Bool) (item : List ℕ) (u v : Uri) → is_producer v ≡ t → read item [] ≡ Ok v → cond {A = Option Uri} t (Some v) None ≡ Some u → (read (printed u) [] ≡ Ok u) × (is_producer u ≡ true)
target_by true item u v p r e =
    let same : v ≡ u = cc in
    subst (λ (w : Uri). (read (printed w) [] ≡ Ok w) × (is_producer w ≡ true)) same (uri_again v (read_ranged item [] v r), p)
target_by false item u v p r e = absurd (cc)

target_in : (item : List ℕ) (u : Uri) (r : Result Uri UriFault) → read item [] ≡ r → where_producer r ≡ Some u → (read (printed u) [] ≡ Ok u) × (is_producer u ≡ true)
target_in item u (Ok v) q e = target_by (is_producer v) item u v refl q e
target_in item u (Err f) q e = absurd (cc)

target : (item : List ℕ) (u : Uri) → recipient item ≡ Some u → (read (printed u) [] ≡ Ok u) × (is_producer u ≡ true)
unfolding recipient
target item u e = target_in item u (read item []) refl e

targets_by : (item : List ℕ) (o : Option Uri) (k : ℕ) (r : Result (List Uri) RecipientFault) (us : List Uri) → recipient item ≡ o → ((vs : List Uri) → r ≡ Ok vs → AreTargets vs)
    → before o k r ≡ Ok us → AreTargets us
targets_by item None k r us q h e = absurd (cc)
targets_by item (Some u) k (Err f) us q h e = absurd (cc)
targets_by item (Some u) k (Ok vs) us q h e =
    let same : u ∷ vs ≡ us = cc in
    subst AreTargets same (target item u q, h vs refl)

pub targets : (k : ℕ) (items : List (List ℕ)) (us : List Uri) → read_from k items ≡ Ok us → AreTargets us
targets k [] us e =
    let same : [] ≡ us = cc in
    subst AreTargets same tt
targets k (item ∷ items) us e = targets_by item (recipient item) k (read_from (suc k) items) us refl (λ vs q. targets (suc k) items vs q) e
