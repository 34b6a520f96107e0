-- What the first fault of a URI's options is, said without reading them one by one.
use Rattle.std.specs.Prelude.{◌≡◌, List, ◌∷◌, ◌++◌, Some, None}
use Rattle.eip_uri.specs.declared.scheme.Scheme.{Scheme}
use Rattle.eip_uri.specs.declared.fault.UriFault.{UriFault}
use Rattle.eip_uri.specs.Options.{Entry, entry_fault}

-- no option has a fault, judged behind those that stand before it
abbrev pub AreSound : Scheme → List Entry → Type 0
AreSound s es = (before after : List Entry) (e : Entry) → es ≡ before ++ (e ∷ after) → entry_fault s before e ≡ None

-- the fault is that of an option before which none has one
pub record IsFirstFault (s : Scheme) (es : List Entry) (fault : UriFault) : Type 0 where
  pub before : List Entry
  pub here : Entry
  pub after : List Entry
  pub split : es ≡ before ++ (here ∷ after)
  pub sound : AreSound s before
  pub is : entry_fault s before here ≡ Some fault
