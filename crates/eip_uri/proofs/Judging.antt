-- The first fault of a list of options.
use Rattle.std.proofs.Common.{◌≡◌, List, [], ◌∷◌, ◌++◌, Option, Some, None, refl, sym, ap, ◌∙◌, append_assoc}
use Rattle.std.specs.Option.{option_or}
use Rattle.std.proofs.lemmas.List.{append-nil}
use Rattle.eip_uri.specs.declared.scheme.Scheme.{Scheme}
use Rattle.eip_uri.specs.declared.fault.UriFault.{UriFault}
use Rattle.eip_uri.specs.Options.{Entry, entry_fault, first_fault}
use Rattle.eip_uri.specs.FirstFault.{AreSound, IsFirstFault}

pub or_none : (a b : Option UriFault) → option_or a b ≡ None → (a ≡ None) × (b ≡ None)
or_none None b e = (refl, e)
or_none (Some x) b e = absurd cc

-- where options have no first fault, none has a fault
each_sound : (s : Scheme) (seen es before after : List Entry) (e : Entry) → first_fault s seen es ≡ None → es ≡ before ++ (e ∷ after) → entry_fault s (seen ++ before) e ≡ None
each_sound s seen [] [] after e f is = absurd cc
each_sound s seen [] (x ∷ xs) after e f is = absurd cc
each_sound s seen (b ∷ bs) [] after e f is =
    let parts = or_none (entry_fault s seen b) (first_fault s (seen ++ b ∷ []) bs) f in
    let same : b ≡ e = cc in
    ap (λ (g : List Entry). entry_fault s g e) (append-nil seen) ∙ ap (entry_fault s seen) (sym same) ∙ parts.0
each_sound s seen (b ∷ bs) (x ∷ xs) after e f is =
    let parts = or_none (entry_fault s seen b) (first_fault s (seen ++ b ∷ []) bs) f in
    let same : b ≡ x = cc in
    let rest : bs ≡ xs ++ (e ∷ after) = cc in
    let more : entry_fault s ((seen ++ b ∷ []) ++ xs) e ≡ None = each_sound s (seen ++ b ∷ []) bs xs after e parts.1 rest in
    ap (λ (y : Entry). entry_fault s (seen ++ (y ∷ xs)) e) (sym same) ∙ ap (λ (g : List Entry). entry_fault s g e) (sym (append_assoc seen (b ∷ []) xs)) ∙ more

-- the options of a list round its first fault, where others were seen before
record IsFound (s : Scheme) (seen es : List Entry) (f : UriFault) : Type 0 where
  pub before : List Entry
  pub here : Entry
  pub after : List Entry
  pub split : es ≡ before ++ (here ∷ after)
  pub sound : first_fault s seen before ≡ None
  pub is : entry_fault s (seen ++ before) here ≡ Some f

found_by : (o : Option UriFault) (s : Scheme) (seen : List Entry) (e : Entry) (es : List Entry) (f : UriFault) → entry_fault s seen e ≡ o → (first_fault s (seen ++ e ∷ []) es ≡ Some f → IsFound s (seen ++ e ∷ []) es f)
    → option_or o (first_fault s (seen ++ e ∷ []) es) ≡ Some f → IsFound s seen (e ∷ es) f
found_by (Some g) s seen e es f is ih h = record {
  before = [];
  here = e;
  after = es;
  split = refl;
  sound = refl;
  is = ap (λ (b : List Entry). entry_fault s b e) (append-nil seen) ∙ is ∙ h;
}
found_by None s seen e es f is ih h =
    let m = ih h in
    record {
      before = e ∷ m.before;
      here = m.here;
      after = m.after;
      split = ap (λ (t : List Entry). e ∷ t) m.split;
      sound = ap (λ (o : Option UriFault). option_or o (first_fault s (seen ++ e ∷ []) m.before)) is ∙ m.sound;
      is = ap (λ (b : List Entry). entry_fault s b m.here) (sym (append_assoc seen (e ∷ []) m.before)) ∙ m.is;
    }

found : (s : Scheme) (seen es : List Entry) (f : UriFault) → first_fault s seen es ≡ Some f → IsFound s seen es f
found s seen [] f h = absurd cc
found s seen (e ∷ es) f h = found_by (entry_fault s seen e) s seen e es f refl (found s (seen ++ e ∷ []) es f) h

pub all_sound : (s : Scheme) (es : List Entry) → first_fault s [] es ≡ None → AreSound s es
all_sound s es f before after e is = each_sound s [] es before after e f is

pub first_is : (s : Scheme) (es : List Entry) (f : UriFault) → first_fault s [] es ≡ Some f → IsFirstFault s es f
first_is s es f h =
    let m = found s [] es f h in
    record { before = m.before; here = m.here; after = m.after; split = m.split; sound = all_sound s m.before m.sound; is = m.is }
