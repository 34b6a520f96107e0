-- Options that are gathered one by one.
use Rattle.std.proofs.Common.{◌≡◌, ℕ, List, [], ◌∷◌, ◌++◌, map, Option, Some, None, Result, Ok, Err, refl, sym, ap, subst, ◌∙◌, append_assoc}
use Rattle.std.specs.Option.{option_or}
use Rattle.std.proofs.lemmas.List.{append-nil}
use Rattle.eip_text.specs.Cuts.{cut, pieces}
use Rattle.eip_text.proofs.Cutting.{first_piece, last_piece}
use Rattle.eip_uri.specs.declared.scheme.Scheme.{Scheme}
use Rattle.eip_uri.specs.declared.fault.UriFault.{UriFault}
use Rattle.eip_uri.specs.declared.fault.UriFault.TheVariants as fault
use Rattle.eip_uri.specs.Options.{Entry, entry, entry_fault, first_fault, IsFault, Adds, AddsOne}

-- behind an option without fault the others are judged
pub fault_goes_on : (s : Scheme) (before now : List Entry) (e : Entry) (es : List Entry) → entry_fault s before e ≡ None → now ≡ before ++ e ∷ [] → first_fault s now es ≡ first_fault s before (e ∷ es)
fault_goes_on s before now e es none is = ap (λ (g : List Entry). first_fault s g es) is ∙ sym (ap (λ (o : Option UriFault). option_or o (first_fault s (before ++ e ∷ []) es)) none)

-- a faulty option is the first where the others were none
pub fault_here : (s : Scheme) (before : List Entry) (e : Entry) (es : List Entry) (f : UriFault) → entry_fault s before e ≡ Some f → first_fault s before (e ∷ es) ≡ Some f
fault_here s before e es f is = ap (λ (o : Option UriFault). option_or o (first_fault s (before ++ e ∷ []) es)) is

pub all_goes_on : (before now : List Entry) (e : Entry) (es : List Entry) → now ≡ before ++ e ∷ [] → now ++ es ≡ before ++ (e ∷ es)
all_goes_on before now e es is = ap (λ (g : List Entry). g ++ es) is ∙ append_assoc before (e ∷ []) es

-- the fault of one is the fault of the whole
pub fault_carried : (f : UriFault) (s : Scheme) (before : List Entry) (e : Entry) (es : List Entry) (whole : Option UriFault) → IsFault f (entry_fault s before e) → first_fault s before (e ∷ es) ≡ whole → IsFault f whole
fault_carried fault.NoMemory s before e es whole h same = tt
fault_carried fault.UnknownScheme s before e es whole h same = sym same ∙ fault_here s before e es fault.UnknownScheme h
fault_carried (fault.BadUri n) s before e es whole h same = sym same ∙ fault_here s before e es (fault.BadUri n) h
fault_carried (fault.UnknownOption n) s before e es whole h same = sym same ∙ fault_here s before e es (fault.UnknownOption n) h
fault_carried (fault.BadOption n) s before e es whole h same = sym same ∙ fault_here s before e es (fault.BadOption n) h
fault_carried (fault.DoubleOption n) s before e es whole h same = sym same ∙ fault_here s before e es (fault.DoubleOption n) h

pub query_goes_on : (rest piece more : List ℕ) → Some (piece, more) ≡ cut 38 rest → map entry (pieces 38 rest) ≡ entry piece ∷ map entry (pieces 38 more)
query_goes_on rest piece more e = ap (map entry) (first_piece 38 rest (piece, more) (sym e))

pub query_ends : (rest : List ℕ) → None ≡ cut 38 rest → map entry (pieces 38 rest) ≡ entry rest ∷ []
query_ends rest e = ap (map entry) (last_piece 38 rest (sym e))

-- one more option, the last
pub last_added : (r : Result (Unit {0}) UriFault) (s : Scheme) (before now whole : List Entry) (e : Entry) (old : List Entry) → AddsOne s before e now r
    → first_fault s before (e ∷ []) ≡ first_fault s old whole → before ++ (e ∷ []) ≡ old ++ whole → Adds s old whole now r
last_added (Ok x) s before now whole e old h faults all = (sym faults ∙ sym (fault_goes_on s before now e [] h.0 h.1), h.1 ∙ all)
last_added (Err f) s before now whole e old h faults all = fault_carried f s before e [] (first_fault s old whole) h faults

or_or : {A : Type 0} (a b c : Option A) → option_or (option_or a b) c ≡ option_or a (option_or b c)
or_or (Some x) b c = refl
or_or None b c = refl

-- the first fault of two lists of options: that of the first, or else that of the second
pub fault_append : (s : Scheme) (before xs ys : List Entry) → first_fault s before (xs ++ ys) ≡ option_or (first_fault s before xs) (first_fault s (before ++ xs) ys)
fault_append s before [] ys = ap (λ (g : List Entry). first_fault s g ys) (sym (append-nil before))
fault_append s before (x ∷ xs) ys =
    ap (option_or (entry_fault s before x)) (fault_append s (before ++ x ∷ []) xs ys ∙ ap (λ (g : List Entry). option_or (first_fault s (before ++ x ∷ []) xs) (first_fault s g ys)) (append_assoc before (x ∷ []) xs))
    ∙ sym (or_or (entry_fault s before x) (first_fault s (before ++ x ∷ []) xs) (first_fault s (before ++ (x ∷ xs)) ys))

-- the fault of the first list is that of both
pub first_part : (f : UriFault) (s : Scheme) (xs ys : List Entry) → IsFault f (first_fault s [] xs) → IsFault f (first_fault s [] (xs ++ ys))
first_part fault.NoMemory s xs ys h = tt
first_part fault.UnknownScheme s xs ys h = fault_append s [] xs ys ∙ ap (λ (o : Option UriFault). option_or o (first_fault s xs ys)) h
first_part (fault.BadUri n) s xs ys h = fault_append s [] xs ys ∙ ap (λ (o : Option UriFault). option_or o (first_fault s xs ys)) h
first_part (fault.UnknownOption n) s xs ys h = fault_append s [] xs ys ∙ ap (λ (o : Option UriFault). option_or o (first_fault s xs ys)) h
first_part (fault.BadOption n) s xs ys h = fault_append s [] xs ys ∙ ap (λ (o : Option UriFault). option_or o (first_fault s xs ys)) h
first_part (fault.DoubleOption n) s xs ys h = fault_append s [] xs ys ∙ ap (λ (o : Option UriFault). option_or o (first_fault s xs ys)) h

-- where the first list has no fault, that of the second is that of both
pub second_part : (s : Scheme) (xs ys : List Entry) → first_fault s [] xs ≡ None → first_fault s [] (xs ++ ys) ≡ first_fault s xs ys
second_part s xs ys h = fault_append s [] xs ys ∙ ap (λ (o : Option UriFault). option_or o (first_fault s xs ys)) h

-- the same, where the second list is judged behind what the first one gave
pub query_faulty : (f : UriFault) (s : Scheme) (start xs ys : List Entry) → start ≡ [] → IsFault f (first_fault s start xs) → IsFault f (first_fault s [] (xs ++ ys))
query_faulty f s start xs ys is h = first_part f s xs ys (subst (λ (g : List Entry). IsFault f (first_fault s g xs)) is h)

pub parameters_faulty : (f : UriFault) (s : Scheme) (start now xs ys : List Entry) → start ≡ [] → first_fault s start xs ≡ None → now ≡ start ++ xs → IsFault f (first_fault s now ys) → IsFault f (first_fault s [] (xs ++ ys))
parameters_faulty f s start now xs ys is none all h =
    let sound : first_fault s [] xs ≡ None = subst (λ (g : List Entry). first_fault s g xs ≡ None) is none in
    let same : now ≡ xs = all ∙ ap (λ (g : List Entry). g ++ xs) is in
    subst (λ (o : Option UriFault). IsFault f o) (ap (λ (g : List Entry). first_fault s g ys) same ∙ sym (second_part s xs ys sound)) h

pub both_sound : (s : Scheme) (start now xs ys : List Entry) → start ≡ [] → first_fault s start xs ≡ None → now ≡ start ++ xs → first_fault s now ys ≡ None → first_fault s [] (xs ++ ys) ≡ None
both_sound s start now xs ys is none all h =
    let sound : first_fault s [] xs ≡ None = subst (λ (g : List Entry). first_fault s g xs ≡ None) is none in
    let same : now ≡ xs = all ∙ ap (λ (g : List Entry). g ++ xs) is in
    second_part s xs ys sound ∙ ap (λ (g : List Entry). first_fault s g ys) (sym same) ∙ h
