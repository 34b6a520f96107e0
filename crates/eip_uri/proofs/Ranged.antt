-- What is read is within the ranges of its form.
use Rattle.std.proofs.Common.{IfOk, ◌≡◌, ℕ, ◌+◌, Bool, true, false, cond, ◌&&◌, ◌||◌, List, [], ◌∷◌, ◌++◌, length, Option, Some, None, Result, Ok, Err, refl, sym, ap, subst, ◌∙◌}
use Rattle.std.specs.Prelude.{codes, bytes_eq, unwrap_or, option_and_then}
use Rattle.std.specs.Option.{is_some, is_none}
use Rattle.std.specs.List.{list_any}
use Rattle.std.proofs.lemmas.Bool.{and_parts, and_from}
use Rattle.std.proofs.lemmas.Option.{same_Some}
use Rattle.std.proofs.lemmas.Slice.Eq.{bytes_eq-Decides}
use Rattle.eip_text.specs.Counts.{count_of}
use Rattle.eip_text.specs.Cuts.{cut, behind}
use Rattle.eip_text.specs.Names.{is_name}
use Rattle.eip_text.proofs.Cutting.{guarded, mapped}
use Rattle.eip_uri.specs.declared.uri.Uri.{Uri}
use Rattle.eip_uri.specs.declared.uri.Uri.TheVariants as uri
use Rattle.eip_uri.specs.declared.uri.After.{After}
use Rattle.eip_uri.specs.declared.uri.After.TheVariants as after
use Rattle.eip_uri.specs.declared.uri.Exist.{Exist}
use Rattle.eip_uri.specs.declared.uri.Exist.TheVariants as exist
use Rattle.eip_uri.specs.declared.scheme.Scheme.{Scheme}
use Rattle.eip_uri.specs.declared.scheme.Scheme.TheVariants as scheme
use Rattle.eip_uri.specs.declared.scheme.Values.{Values}
use Rattle.eip_uri.specs.declared.scheme.Values.TheVariants as values
use Rattle.eip_uri.specs.declared.fault.UriFault.{UriFault}
use Rattle.eip_uri.specs.declared.fault.UriFault.TheVariants as fault
use Rattle.eip_uri.specs.Options.{Entry, within, is_folder, has, values_of, judged, entry_fault, first_fault, value_of, count_given, flag_given, exist_given, entries}
use Rattle.eip_uri.specs.Reading.{read, at_colon, in_scheme, scheme_of, split_query, unslashed, plain, line_at, line_parts, settled, placed, with_options, file_given, after_given, Says}
use Rattle.eip_uri.specs.Printed.{printed}
use Rattle.eip_uri.proofs.AgainForms.{uri_again}
use Rattle.eip_uri.proofs.Judging.{or_none}
use Rattle.eip_uri.specs.Ranges.{is_between, is_target, is_after, is_failed, is_uri}

-- ---- options without fault

judged_sound : (o : Option Values) (repeated : Bool) (name v : List ℕ) → judged o repeated name v ≡ None → (k : Values) × (o ≡ Some k) × (has k v ≡ true)
judged_sound None repeated name v e = absurd cc
judged_sound (Some k) true name v e = absurd cc
judged_sound (Some k) false name v e = (k, refl, passed (has k v) e)
  where
    passed : (t : Bool) → cond {A = Option UriFault} t None (Some (fault.BadOption name)) ≡ None → t ≡ true
    passed true e = refl
    passed false e = absurd cc

-- an option that stands in a list without fault is one of the scheme's, with a value that it may have
abbrev IsAllowed : Scheme → List ℕ → List ℕ → Type 0
IsAllowed s name v = (k : Values) × (values_of s name ≡ Some k) × (has k v ≡ true)

given_by : (t : Bool) (s : Scheme) (n w name v : List ℕ) (es : List Entry) → bytes_eq n name ≡ t → IsAllowed s n w → (value_of name es ≡ Some v → IsAllowed s name v)
    → cond t (Some w) (value_of name es) ≡ Some v → IsAllowed s name v
given_by true s n w name v es t a ih e =
    let same : w ≡ v = same_Some w v e in
    subst (λ (x : List ℕ). IsAllowed s x v) ((bytes_eq-Decides n name).0 t) (subst (λ (x : List ℕ). IsAllowed s n x) same a)
given_by false s n w name v es t a ih e = ih e

given_sound : (s : Scheme) (before es : List Entry) (name v : List ℕ) → first_fault s before es ≡ None → value_of name es ≡ Some v → IsAllowed s name v
given_sound s before [] name v f e = absurd cc
given_sound s before ((n, None) ∷ es) name v f e = absurd cc
given_sound s before ((n, Some w) ∷ es) name v f e =
    let parts = or_none (entry_fault s before (n, Some w)) (first_fault s (before ++ (n, Some w) ∷ []) es) f in
    given_by (bytes_eq n name) s n w name v es refl (judged_sound (values_of s n) (list_any (λ x. bytes_eq x.0 n) before) n w parts.0) (given_sound s (before ++ (n, Some w) ∷ []) es name v parts.1) e

-- ---- numbers

within_ranged : (low high : ℕ) (c : Option ℕ) (n : ℕ) → within low high c ≡ Some n → is_between low high n ≡ true
within_ranged low high None n e = absurd cc
within_ranged low high (Some m) n e =
    let p = guarded (is_between low high m) (Some m) n e in
    subst (λ (x : ℕ). is_between low high x ≡ true) (same_Some m n p.1) p.0

chosen : (low high default : ℕ) (c : Option ℕ) → is_some (within low high c) ≡ true → is_between low high (unwrap_or c default) ≡ true
chosen low high default None e = absurd cc
chosen low high default (Some m) e = passed (is_between low high m) e
  where
    passed : (t : Bool) → is_some (cond {A = Option ℕ} t (Some m) None) ≡ true → t ≡ true
    passed true e = refl
    passed false e = absurd cc

count_ranged : (low high default : ℕ) (o : Option (List ℕ)) → is_between low high default ≡ true → ((v : List ℕ) → o ≡ Some v → is_some (within low high (count_of v)) ≡ true) → is_between low high (count_given o default) ≡ true
count_ranged low high default None h k = h
count_ranged low high default (Some v) h k = chosen low high default (count_of v) (k v refl)

-- ---- the forms with options

size_in : (es : List Entry) → first_fault scheme.Seda [] es ≡ None → (v : List ℕ) → value_of (codes "size") es ≡ Some v → is_some (within 1 100000 (count_of v)) ≡ true
unfolding values_of has
size_in es f v e =
    let a = given_sound scheme.Seda [] es (codes "size") v f e in
    subst (λ (k : Values). has k v ≡ true) (sym (same_Some (values.Count 1 100000) a.0 a.1)) a.2

consumers_in : (es : List Entry) → first_fault scheme.Seda [] es ≡ None → (v : List ℕ) → value_of (codes "concurrentConsumers") es ≡ Some v → is_some (within 1 64 (count_of v)) ≡ true
unfolding values_of has
consumers_in es f v e =
    let a = given_sound scheme.Seda [] es (codes "concurrentConsumers") v f e in
    subst (λ (k : Values). has k v ≡ true) (sym (same_Some (values.Count 1 64) a.0 a.1)) a.2

move_in : (es : List Entry) → first_fault scheme.File [] es ≡ None → (v : List ℕ) → value_of (codes "move") es ≡ Some v → is_target v ≡ true
unfolding values_of has
move_in es f v e =
    let a = given_sound scheme.File [] es (codes "move") v f e in
    subst (λ (k : Values). has k v ≡ true) (sym (same_Some values.Folder a.0 a.1)) a.2

failed_in : (es : List Entry) → first_fault scheme.File [] es ≡ None → (v : List ℕ) → value_of (codes "moveFailed") es ≡ Some v → is_target v ≡ true
unfolding values_of has
failed_in es f v e =
    let a = given_sound scheme.File [] es (codes "moveFailed") v f e in
    subst (λ (k : Values). has k v ≡ true) (sym (same_Some values.Folder a.0 a.1)) a.2

seda_ranged : (name : List ℕ) (es : List Entry) (u : Uri) → is_name name ≡ true → first_fault scheme.Seda [] es ≡ None → with_options (uri.Seda name 1000 1 false) es ≡ Ok u → is_uri u ≡ true
unfolding with_options is_uri
seda_ranged name es u n f e =
    let size = count_given (value_of (codes "size") es) 1000 in
    let consumers = count_given (value_of (codes "concurrentConsumers") es) 1 in
    let same : uri.Seda name size consumers (flag_given (value_of (codes "discardWhenFull") es)) ≡ u = cc in
    let hs : is_between 1 100000 size ≡ true = count_ranged 1 100000 1000 (value_of (codes "size") es) refl (size_in es f) in
    let hc : is_between 1 64 consumers ≡ true = count_ranged 1 64 1 (value_of (codes "concurrentConsumers") es) refl (consumers_in es f) in
    subst (λ (x : Uri). is_uri x ≡ true) same (and_from _ _ n (and_from _ _ hs hc))

after_ranged : (noop delete : Bool) (to : Option (List ℕ)) → ((v : List ℕ) → to ≡ Some v → is_target v ≡ true) → is_after (after_given noop delete to) ≡ true
unfolding is_folder
after_ranged true delete to h = refl
after_ranged false true to h = refl
after_ranged false false None h = refl
after_ranged false false (Some v) h = h v refl

failed_ranged : (o : Option (List ℕ)) → ((v : List ℕ) → o ≡ Some v → is_target v ≡ true) → is_failed o ≡ true
failed_ranged None h = refl
failed_ranged (Some v) h = h v refl

unrefused : (a b : Bool) (x y : UriFault) (made u : Uri) → cond {A = Result Uri UriFault} a (Err x) (cond {A = Result Uri UriFault} b (Err y) (Ok made)) ≡ Ok u → made ≡ u
unrefused true b x y made u e = absurd cc
unrefused false true x y made u e = absurd cc
unrefused false false x y made u e = cc

given_ranged : (folder : List ℕ) (noop delete : Bool) (to failed word : Option (List ℕ)) (u : Uri) → is_folder folder ≡ true → is_none (behind (codes "//") folder) ≡ true
    → ((v : List ℕ) → to ≡ Some v → is_target v ≡ true) → ((v : List ℕ) → failed ≡ Some v → is_target v ≡ true) → file_given folder noop delete to failed word ≡ Ok u → is_uri u ≡ true
unfolding is_uri
given_ranged folder noop delete to failed word u h k m g e =
    let same = unrefused (delete && noop) (is_some to && (noop || delete)) (fault.BadOption (codes "delete")) (fault.BadOption (codes "move")) (uri.File folder (after_given noop delete to) failed (exist_given word)) u e in
    subst (λ (y : Uri). is_uri y ≡ true) same (and_from _ _ (and_from _ _ h k) (and_from _ _ (after_ranged noop delete to m) (failed_ranged failed g)))

file_ranged : (folder : List ℕ) (a : After) (g : Option (List ℕ)) (x : Exist) (es : List Entry) (u : Uri) → is_folder folder ≡ true → is_none (behind (codes "//") folder) ≡ true → first_fault scheme.File [] es ≡ None
    → with_options (uri.File folder a g x) es ≡ Ok u → is_uri u ≡ true
unfolding with_options
file_ranged folder a g x es u h k f e =
    given_ranged folder (flag_given (value_of (codes "noop") es)) (flag_given (value_of (codes "delete") es)) (value_of (codes "move") es) (value_of (codes "moveFailed") es) (value_of (codes "fileExist") es) u
    h k (move_in es f) (failed_in es f) e

-- ---- the whole

settled_parts : (u0 : Uri) (f : Option UriFault) (es : List Entry) (u : Uri) → settled u0 f es ≡ Ok u → (f ≡ None) × (with_options u0 es ≡ Ok u)
settled_parts u0 None es u e = (refl, e)
settled_parts u0 (Some x) es u e = absurd cc

placed_parts : (at : ℕ) (s : Scheme) (o : Option Uri) (es : List Entry) (u : Uri) → placed at s o es ≡ Ok u → (u0 : Uri) × (o ≡ Some u0) × (first_fault s [] es ≡ None) × (with_options u0 es ≡ Ok u)
placed_parts at s None es u e = absurd cc
placed_parts at s (Some u0) es u e =
    let p = settled_parts u0 (first_fault s [] es) es u e in
    (u0, refl, p.0, p.1)

-- a form without options stays as it is
stays : (made u0 u : Uri) (es : List Entry) → Some made ≡ Some u0 → with_options made es ≡ Ok made → is_uri made ≡ true → with_options u0 es ≡ Ok u → is_uri u ≡ true
stays made u0 u es e is h w =
    let first : made ≡ u0 = same_Some made u0 e in
    let whole : Ok made ≡ Ok u = sym is ∙ ap (λ (x : Uri). with_options x es) first ∙ w in
    let same : made ≡ u = cc in
    subst (λ (x : Uri). is_uri x ≡ true) same h

line_by : (t n : Bool) (host : List ℕ) (port : ℕ) (es : List Entry) (u0 u : Uri) → bytes_eq host (codes "listen") ≡ t → is_name host ≡ n → is_between 1 65535 port ≡ true
    → cond t (Some (uri.Listen port)) (cond {A = Option Uri} n (Some (uri.Line host port)) None) ≡ Some u0 → with_options u0 es ≡ Ok u → is_uri u ≡ true
unfolding with_options is_uri
line_by true n host port es u0 u t k h e w = stays (uri.Listen port) u0 u es e refl h w
line_by false true host port es u0 u t k h e w = stays (uri.Line host port) u0 u es e refl (and_from _ _ (and_from _ _ k (rw t refl)) h) w
line_by false false host port es u0 u t k h e w = absurd cc

port_by : (c : Option ℕ) (host : List ℕ) (es : List Entry) (u0 u : Uri) → ((n : ℕ) → c ≡ Some n → is_between 1 65535 n ≡ true) → option_and_then (line_at host) c ≡ Some u0 → with_options u0 es ≡ Ok u → is_uri u ≡ true
port_by None host es u0 u h e w = absurd cc
port_by (Some port) host es u0 u h e w = line_by (bytes_eq host (codes "listen")) (is_name host) host port es u0 u refl refl (h port refl) e w

line_ranged : (p : Option (List ℕ × List ℕ)) (es : List Entry) (u0 u : Uri) → line_parts p ≡ Some u0 → with_options u0 es ≡ Ok u → is_uri u ≡ true
line_ranged None es u0 u e w = absurd cc
line_ranged (Some p) es u0 u e w = port_by (within 1 65535 (count_of p.1)) p.0 es u0 u (within_ranged 1 65535 (count_of p.1)) e w

plain_ranged : (s : Scheme) (rest : List ℕ) (es : List Entry) (u0 u : Uri) → plain s rest ≡ Some u0 → first_fault s [] es ≡ None → with_options u0 es ≡ Ok u → is_uri u ≡ true
unfolding plain with_options is_uri
plain_ranged scheme.Direct rest es u0 u p f w =
    let g = guarded (is_name rest) (Some (uri.Direct rest)) u0 p in
    stays (uri.Direct rest) u0 u es g.1 refl g.0 w
plain_ranged scheme.Seda rest es u0 u p f w =
    let g = guarded (is_name rest) (Some (uri.Seda rest 1000 1 false)) u0 p in
    seda_ranged rest es u g.0 f (ap (λ (x : Uri). with_options x es) (same_Some (uri.Seda rest 1000 1 false) u0 g.1) ∙ w)
plain_ranged scheme.File rest es u0 u p f w =
    let made = uri.File rest (after.Move (codes ".camel")) None exist.Override in
    let g = guarded (is_folder rest && is_none (behind (codes "//") rest)) (Some made) u0 p in
    let h = and_parts (is_folder rest) (is_none (behind (codes "//") rest)) g.0 in
    file_ranged rest (after.Move (codes ".camel")) None exist.Override es u h.0 h.1 f (ap (λ (x : Uri). with_options x es) (same_Some made u0 g.1) ∙ w)
plain_ranged scheme.Stream rest es u0 u p f w =
    let g = guarded (bytes_eq rest (codes "in")) (Some uri.StreamIn) u0 p in
    stays uri.StreamIn u0 u es g.1 refl refl w
plain_ranged scheme.Log rest es u0 u p f w =
    let g = guarded (is_name rest) (Some (uri.Log rest)) u0 p in
    stays (uri.Log rest) u0 u es g.1 refl g.0 w
plain_ranged scheme.Line rest es u0 u p f w = line_ranged (cut 58 rest) es u0 u p w
plain_ranged scheme.Lane rest es u0 u p f w =
    let g = guarded (is_name rest) (Some (uri.Lane rest)) u0 p in
    stays (uri.Lane rest) u0 u es g.1 refl g.0 w
plain_ranged scheme.Load rest es u0 u p f w =
    let m = mapped (λ (n : ℕ). uri.Load n) (within 1 20000 (count_of rest)) u0 p in
    stays (uri.Load m.0) u0 u es (ap (λ (x : Uri). Some x) m.2) refl (within_ranged 1 20000 (count_of rest) m.0 m.1) w

scheme_ranged : (at : ℕ) (o : Option Scheme) (rest : List ℕ × Option (List ℕ)) (parameters : List (List ℕ × List ℕ)) (u : Uri) → in_scheme at o rest parameters ≡ Ok u → is_uri u ≡ true
scheme_ranged at None rest parameters u e = absurd cc
scheme_ranged at (Some s) rest parameters u e =
    let es = entries rest.1 parameters in
    let p = placed_parts at s (plain s (unslashed rest.0)) es u e in
    plain_ranged s (unslashed rest.0) es p.0 u p.1 p.2 p.3

colon_ranged : (o : Option (List ℕ × List ℕ)) (parameters : List (List ℕ × List ℕ)) (u : Uri) → at_colon o parameters ≡ Ok u → is_uri u ≡ true
colon_ranged None parameters u e = absurd cc
colon_ranged (Some p) parameters u e = scheme_ranged (length p.0 + 1) (scheme_of p.0) (split_query p.1) parameters u e

-- each URI that a text is, is within the ranges of its form
pub read_ranged : (text : List ℕ) (parameters : List (List ℕ × List ℕ)) (u : Uri) → read text parameters ≡ Ok u → is_uri u ≡ true
unfolding read
read_ranged text parameters u e = colon_ranged (cut 58 text) parameters u e

-- a call's URI is within the ranges of its form, and is read again from its printed text
pub said_ranged : (r : Result Uri UriFault) (text : List ℕ) (parameters : List (List ℕ × List ℕ)) → Says r (read text parameters) → IfOk r (λ u. is_uri u ≡ true)
said_ranged (Ok u) text parameters h = read_ranged text parameters u h
said_ranged (Err e) text parameters h = tt

pub said_again : (r : Result Uri UriFault) (text : List ℕ) (parameters : List (List ℕ × List ℕ)) → Says r (read text parameters) → IfOk r (λ u. read (printed u) [] ≡ Ok u)
said_again (Ok u) text parameters h = uri_again u (read_ranged text parameters u h)
said_again (Err e) text parameters h = tt
