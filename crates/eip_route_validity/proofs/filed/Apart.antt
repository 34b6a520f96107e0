-- Routes of which nothing stands in an earlier one are apart.
use Rattle.std.proofs.Common.{ℕ, ◌≡◌, Bool, true, false, cond, List, [], ◌∷◌, ◌++◌, Option, Some, None, refl, sym, ap, ◌∙◌}
use Rattle.std.specs.Prelude.{All, bytes_eq, slice_index_or}
use Rattle.std.specs.List.{AllZip}
use Rattle.std.proofs.lemmas.Bool.{or_parts}
use Rattle.std.proofs.lemmas.List.Elements.{All-nil, All-cons, All-pop}
use Rattle.eip_uri.specs.declared.uri.Uri.{Uri}
use Rattle.eip_route.specs.Nest.{NestedRoute}
use Rattle.eip_route_grammar.specs.declared.fault.RouteFault.{RouteFault}
use Rattle.eip_route_file.specs.Later.{same_from, is_id_taken, is_from_taken, head_fault, second_route}
use Rattle.eip_route_file.specs.declared.head.Head.{Head}
use Rattle.eip_route_validity.specs.Fit.{Apart, AreApart}
use Rattle.eip_route_validity.proofs.fitting.Faultless.{or_none}
use Rattle.eip_route_validity.proofs.filed.Parts.{IsHead}

neither : (id from : Bool) (f g : RouteFault) → cond id (Some f) (cond from (Some g) None) ≡ None → (id ≡ false) × (from ≡ false)
neither true from f g e = cc
neither false true f g e = cc
neither false false f g e = (refl, refl)

free : (before : List Head) (bs : List NestedRoute) (h : Head) (r : NestedRoute) → AllZip IsHead before bs → IsHead h r → is_id_taken h before ≡ false → is_from_taken h before ≡ false → All (λ b. Apart b r) bs
free [] [] h r z w i f = All-nil (λ b. Apart b r)
free [] (b ∷ bs) h r z w i f = absurd z
free (x ∷ before) [] h r z w i f = absurd z
free (x ∷ before) (b ∷ bs) h r z w i f =
    let ids = or_parts (bytes_eq x.id h.id) (is_id_taken h before) i in
    let froms = or_parts (same_from x.from h.from) (is_from_taken h before) f in
    let id : bytes_eq b.id r.id ≡ false = ap (λ (y : List ℕ). bytes_eq y r.id) (sym z.0.0) ∙ ap (bytes_eq x.id) (sym w.0) ∙ ids.0 in
    let from : same_from (Some b.from) (Some r.from) ≡ false = ap (λ (o : Option Uri). same_from o (Some r.from)) (sym z.0.1) ∙ ap (same_from x.from) (sym w.1) ∙ froms.0 in
    All-cons (λ c. Apart c r) b bs (id, from) (free before bs h r z.1 w ids.1 froms.1)

pushed : (before : List Head) (bs : List NestedRoute) (h : Head) (r : NestedRoute) → AllZip IsHead before bs → IsHead h r → AllZip IsHead (before ++ h ∷ []) (bs ++ r ∷ [])
pushed [] [] h r z w = (w, tt)
pushed [] (b ∷ bs) h r z w = absurd z
pushed (x ∷ before) [] h r z w = absurd z
pushed (x ∷ before) (b ∷ bs) h r z w = (z.0, pushed before bs h r z.1 w)

-- the routes rs, of which hs is compared, behind the routes bs
pub routes_apart : (before : List Head) (bs : List NestedRoute) (hs : List Head) (rs : List NestedRoute) → AllZip IsHead before bs → AllZip IsHead hs rs → second_route before hs ≡ None
    → All (λ b. All (Apart b) rs) bs × AreApart rs
routes_apart before bs [] [] z w e = (λ k d l. All-nil (Apart (slice_index_or bs k d)), tt)
routes_apart before bs [] (r ∷ rs) z w e = absurd w
routes_apart before bs (h ∷ hs) [] z w e = absurd w
routes_apart before bs (h ∷ hs) (r ∷ rs) z w e =
    let parts = or_none (head_fault before h) (second_route (before ++ h ∷ []) hs) e in
    let taken = neither (is_id_taken h before) (is_from_taken h before) _ _ parts.0 in
    let now : All (λ b. Apart b r) bs = free before bs h r z w.0 taken.0 taken.1 in
    let later = routes_apart (before ++ h ∷ []) (bs ++ r ∷ []) hs rs (pushed before bs h r z w.0) w.1 parts.1 in
    let rest = All-pop (λ b. All (Apart b) rs) (bs ++ r ∷ []) bs (Some r) refl later.0 in
    (λ k d l. All-cons (Apart (slice_index_or bs k d)) r rs (now k d l) (rest.0 k d l), (rest.1, later.1))
