-- Endpoints with which nothing is wrong fit.
use Rattle.std.proofs.Common.{ℕ, ◌+◌, ◌≡◌, Bool, true, false, cond, ◌&&◌, ◌||◌, List, [], ◌∷◌, ◌++◌, length, Option, Some, None, Result, Ok, Err, refl, bytes_eq, codes}
use Rattle.std.specs.List.{list_any}
use Rattle.std.specs.Option.{is_some, option_or}
use Rattle.eip_text.specs.Cuts.{cut}
use Rattle.eip_uri.specs.declared.fault.UriFault.{UriFault}
use Rattle.eip_uri.specs.declared.fault.UriFault.TheVariants as fault
use Rattle.eip_uri.specs.declared.scheme.Scheme.{Scheme}
use Rattle.eip_uri.specs.declared.scheme.Values.{Values}
use Rattle.eip_uri.specs.declared.uri.Uri.{Uri}
use Rattle.eip_uri.specs.declared.uri.Uri.TheVariants as uri
use Rattle.eip_uri.specs.Inlets.{inlet_of}
use Rattle.eip_uri.specs.Options.{Entry, has, values_of, judged, entry_fault, first_fault, entries, value_of, flag_given, exist_given}
use Rattle.eip_uri.specs.Reading.{after_given, file_given, with_options, settled, placed, plain, in_scheme, at_colon, scheme_of, split_query, unslashed, read}
use Rattle.eip_uri.specs.Sides.{is_consumer, is_producer}
use Rattle.eip_uri.proofs.Ranged.{read_ranged}
use Rattle.eip_route.specs.Goals.{is_among, lane_of}
use Rattle.eip_route.specs.Valid.{is_given_among}
use Rattle.eip_route.specs.declared.route.Names.{Names}
use Rattle.eip_route_faults.specs.Values.{served, uri_cause, consumer_cause, producer_cause, read_cause}
use Rattle.eip_route_grammar.specs.declared.fault.Cause.{Cause}
use Rattle.eip_route_grammar.specs.declared.fault.Cause.TheVariants as cause
use Rattle.eip_route_validity.specs.Fit.{TargetFits, SourceFits}
use Rattle.eip_route_values.specs.Parts.{endpoint, uri_or_input}
use Rattle.eip_route_validity.proofs.fitting.Keyed.{not_missed}

-- ---- what is read never tells of memory

abbrev IsTold : UriFault → Type 0
IsTold fault.NoMemory = ⊥
IsTold _ = Unit {0}

abbrev MayBeTold : Option UriFault → Type 0
MayBeTold None = Unit {0}
MayBeTold (Some e) = IsTold e

abbrev IsToldOf : Result Uri UriFault → Type 0
IsToldOf (Ok u) = Unit {0}
IsToldOf (Err e) = IsTold e

told_cond : (b : Bool) (o p : Option UriFault) → MayBeTold o → MayBeTold p → MayBeTold (cond b o p)
told_cond true o p q r = q
told_cond false o p q r = r

told_or : (o p : Option UriFault) → MayBeTold o → MayBeTold p → MayBeTold (option_or o p)
told_or None p q r = r
told_or (Some e) p q r = q

judged_told : (o : Option Values) (repeated : Bool) (name v : List ℕ) → MayBeTold (judged o repeated name v)
judged_told None repeated name v = tt
judged_told (Some k) true name v = tt
judged_told (Some k) false name v = told_cond (has k v) None (Some (fault.BadOption name)) tt tt

entry_told : (s : Scheme) (before : List Entry) (e : Entry) → MayBeTold (entry_fault s before e)
entry_told s before (text, None) = tt
entry_told s before (name, Some v) = judged_told (values_of s name) (list_any (λ e. bytes_eq e.0 name) before) name v

first_told : (s : Scheme) (before es : List Entry) → MayBeTold (first_fault s before es)
first_told s before [] = tt
first_told s before (e ∷ es) = told_or (entry_fault s before e) (first_fault s (before ++ e ∷ []) es) (entry_told s before e) (first_told s (before ++ e ∷ []) es)

of_cond : (b : Bool) (r s : Result Uri UriFault) → IsToldOf r → IsToldOf s → IsToldOf (cond b r s)
of_cond true r s p q = p
of_cond false r s p q = q

file_told : (folder : List ℕ) (noop delete : Bool) (to failed e : Option (List ℕ)) → IsToldOf (file_given folder noop delete to failed e)
file_told folder noop delete to failed e =
    of_cond (delete && noop) (Err (fault.BadOption (codes "delete"))) _ tt
    (of_cond (is_some to && (noop || delete)) (Err (fault.BadOption (codes "move"))) (Ok (uri.File folder (after_given noop delete to) failed (exist_given e))) tt tt)

options_told : (u : Uri) (es : List Entry) → IsToldOf (with_options u es)
unfolding with_options
options_told (uri.File folder after failed e) es =
    file_told folder (flag_given (value_of (codes "noop") es)) (flag_given (value_of (codes "delete") es)) (value_of (codes "move") es) (value_of (codes "moveFailed") es) (value_of (codes "fileExist") es)
options_told (uri.Seda name size consumers discard) es = tt
options_told u es = tt

settled_told : (u : Uri) (o : Option UriFault) (es : List Entry) → MayBeTold o → IsToldOf (settled u o es)
settled_told u None es q = options_told u es
settled_told u (Some e) es q = q

placed_told : (at : ℕ) (s : Scheme) (o : Option Uri) (es : List Entry) → IsToldOf (placed at s o es)
placed_told at s None es = tt
placed_told at s (Some u) es = settled_told u (first_fault s [] es) es (first_told s [] es)

scheme_told : (at : ℕ) (o : Option Scheme) (rest : List ℕ × Option (List ℕ)) (ps : List (List ℕ × List ℕ)) → IsToldOf (in_scheme at o rest ps)
scheme_told at None rest ps = tt
scheme_told at (Some s) rest ps = placed_told at s (plain s (unslashed rest.0)) (entries rest.1 ps)

colon_told : (o : Option (List ℕ × List ℕ)) (ps : List (List ℕ × List ℕ)) → IsToldOf (at_colon o ps)
colon_told None ps = tt
colon_told (Some p) ps = scheme_told (length p.0 + 1) (scheme_of p.0) (split_query p.1) ps

pub read_told : (w : List ℕ) (ps : List (List ℕ × List ℕ)) → IsToldOf (read w ps)
unfolding read
read_told w ps = colon_told (cut 58 w) ps

-- ---- what is read without a fault

told_cause : (e : UriFault) → IsTold e → uri_cause e ≡ None → ⊥
told_cause fault.UnknownScheme h e = cc
told_cause (fault.BadUri at) h e = cc
told_cause (fault.UnknownOption name) h e = cc
told_cause (fault.BadOption name) h e = cc
told_cause (fault.DoubleOption name) h e = cc
told_cause fault.NoMemory h e = h

-- what a text and its parameters are, since nothing is wrong with them
pub read_by : (P : Uri → Type 0) (judge : Uri → Option Cause) (r : Result Uri UriFault) → IsToldOf r → ((u : Uri) → r ≡ Ok u → judge u ≡ None → P u) → read_cause judge r ≡ None → P (uri_or_input r)
read_by P judge (Ok u) q f e = f u refl e
read_by P judge (Err x) q f e = absurd (told_cause x q e)

served_by : (o : Option (List ℕ)) (names : List (List ℕ)) → served o names ≡ None → is_given_among o names ≡ true
served_by None names e = refl
served_by (Some name) names e = not_missed (is_among name names) (cause.NotRegistered name) e

side_by : (b : Bool) (o : Option Cause) (c : Cause) → cond b o (Some c) ≡ None → (b ≡ true) × (o ≡ None)
side_by true o c e = (refl, e)
side_by false o c e = absurd cc

pub target_fits : (n : Names) (w : List ℕ) (ps : List (List ℕ × List ℕ)) → read_cause (producer_cause n) (read w ps) ≡ None → TargetFits n (endpoint w ps)
target_fits n w ps e =
    read_by (TargetFits n) (producer_cause n) (read w ps) (read_told w ps)
    (λ u r j. let p = side_by (is_producer u) (served (lane_of u) n.lanes) cause.NotProducer j in (read_ranged w ps u r, (p.0, served_by (lane_of u) n.lanes p.1)))
    e

pub source_fits : (n : Names) (w : List ℕ) (ps : List (List ℕ × List ℕ)) → read_cause (consumer_cause n) (read w ps) ≡ None → SourceFits n (endpoint w ps)
source_fits n w ps e =
    read_by (SourceFits n) (consumer_cause n) (read w ps) (read_told w ps)
    (λ u r j. let p = side_by (is_consumer u) (served (inlet_of u) n.inlets) cause.NotConsumer j in (read_ranged w ps u r, (p.0, served_by (inlet_of u) n.inlets p.1)))
    e
