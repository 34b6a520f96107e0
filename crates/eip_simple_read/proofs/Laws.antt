-- What a reader gave is read again, as the same value, from its printed text.
use Rattle.std.proofs.Common.{sym, ◌≡◌, ℕ, zero, true, List, length, None, Result, Ok, Err, refl, ap, subst}
use Rattle.eip_simple_read.specs.declared.tree.Part.{Part}
use Rattle.eip_simple_read.specs.declared.tree.Template.{Template}
use Rattle.eip_simple_read.specs.declared.tree.Predicate.{Predicate}
use Rattle.eip_simple_read.specs.declared.tree.Test.{Test}
use Rattle.eip_simple_read.specs.Reading.{Fault, template, all_tests}
use Rattle.eip_simple_read.specs.Spelling.{parts_text, any_text, template_text, predicate_text, are_parts, are_any}
use Rattle.eip_simple_read.specs.Meaning.{answer, template_of, predicate_of}
use Rattle.eip_simple_read.proofs.Again.{template_again}
use Rattle.eip_simple_read.proofs.AgainAll.{predicate_again}
use Rattle.eip_simple_read.proofs.Fits.{template_fits}
use Rattle.eip_simple_read.proofs.TestsFit.{predicate_fits}

answered : {A B : Type 0} (len : ℕ) (make : A → B) (r : Result A Fault) (y : B) → answer len make r ≡ Ok y → (x : A) × (r ≡ Ok x) × (make x ≡ y)
answered len make (Ok x) y e = (x, refl, cc)
answered len make (Err f) y e = absurd cc

-- a template that fits is read from its printed text
pub fitting_template : (t : Template) → are_parts t.parts ≡ true → template_of (template_text t) ≡ Ok t
unfolding template_of
fitting_template t h = ap (answer (length (parts_text t.parts)) (λ (ps : List Part). record { parts = ps })) (template_again 0 t.parts h)

-- a predicate that fits is read from its printed text
pub fitting_predicate : (p : Predicate) → are_any p.any ≡ true → predicate_of (predicate_text p) ≡ Ok p
unfolding predicate_of
fitting_predicate p h = ap (answer (length (any_text p.any)) (λ (any : List (List Test)). record { any = any })) (predicate_again p.any h)

pub read_template_fits : (bs : List ℕ) (t : Template) → template_of bs ≡ Ok t → are_parts t.parts ≡ true
unfolding template_of
read_template_fits bs t e =
    let a = answered (length bs) (λ (ps : List Part). record { parts = ps }) (template zero zero bs) t e in
    subst (λ (x : Template). are_parts x.parts ≡ true) a.2 (template_fits 0 0 bs a.0 a.1).parts

pub read_predicate_fits : (bs : List ℕ) (p : Predicate) → predicate_of bs ≡ Ok p → are_any p.any ≡ true
unfolding predicate_of
read_predicate_fits bs p e =
    let a = answered (length bs) (λ (any : List (List Test)). record { any = any }) (all_tests None bs) p e in
    subst (λ (x : Predicate). are_any x.any ≡ true) a.2 (predicate_fits bs a.0 a.1)

-- the printed text of a template that was read is read as that template
pub template_stays : (bs : List ℕ) (t : Template) → template_of bs ≡ Ok t → template_of (template_text t) ≡ Ok t
template_stays bs t e = fitting_template t (read_template_fits bs t e)

-- the printed text of a predicate that was read is read as that predicate
pub predicate_stays : (bs : List ℕ) (p : Predicate) → predicate_of bs ≡ Ok p → predicate_of (predicate_text p) ≡ Ok p
predicate_stays bs p e = fitting_predicate p (read_predicate_fits bs p e)

-- the same of the parts and of the conjunctions
pub parts_stay : (bs : List ℕ) (ps : List Part) → template 0 0 bs ≡ Ok ps → (parts : List Part) → parts ≡ ps → template_of (parts_text parts) ≡ Ok (record { parts = parts })
parts_stay bs ps e parts same =
    subst (λ (qs : List Part). template_of (parts_text qs) ≡ Ok (record { parts = qs })) (sym same) (fitting_template (record { parts = ps }) (template_fits 0 0 bs ps e).parts)

pub any_stay : (bs : List ℕ) (ts : List (List Test)) → all_tests None bs ≡ Ok ts → (any : List (List Test)) → any ≡ ts → predicate_of (any_text any) ≡ Ok (record { any = any })
any_stay bs ts e any same =
    subst (λ (us : List (List Test)). predicate_of (any_text us) ≡ Ok (record { any = us })) (sym same) (fitting_predicate (record { any = ts }) (predicate_fits bs ts e))
