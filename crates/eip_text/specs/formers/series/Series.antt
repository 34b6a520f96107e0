-- Where a `Series` keeps its items, so that a type may hold a series of itself.
use mathlib.Core.Path.{◌≡◌, refl, sym}
use mathlib.Core.List.{List, []}
use mathlib.Core.Former.{Former, this, list, via, children}
use base.Stored.{code_map}
use denote.RattleType.{RattleType}
use denote.HoleLaws.{Alike}
use denote.HolePlaces.{Recodes, struct_places, laid}
use denote.Hole.Carrier.{listed, list-listed}
use denote.Hole.Fix.{over}
use denote.Param.Weighed.{Weighed, w_list}
use denote.Model.Placed.{view_places}
use Rattle.std.specs.formers.vec.Vec as vec
use Rattle.std.specs.declared.alloc.Global.{Global}
use Rattle.std.specs.contracts.alloc.Global as heap
use Rattle.std.specs.contracts.impls.GlobalAllocator.TheImpl.{ghosts}
use Rattle.eip_text.specs.declared.series.Series.TheInside.{Inside}
use Rattle.eip_text.specs.declared.series.Series.TheView.{view, invariant}
use Rattle.eip_text.specs.contracts.series.Series as seen
use Rattle.eip_text.specs.contracts.series.Series.TheInside as stored

-- a series is the list of its items
abbrev pub the_former : Former {0} → Former {0}
the_former items = list items

abbrev pub the_weighed : {items : Former {0}} → Weighed items → Weighed (the_former items)
the_weighed heaviest = w_list heaviest

abbrev pub the_empty : List ⊥
the_empty = []

abbrev pub the_items : (T : Type 0) → List T → List T
the_items T xs = xs

pub the_items_listed : (T : Type 0) (xs : List T) → listed _ (children (the_former this) T xs) ≡ the_items T xs
the_items_listed T xs = list-listed T xs

-- the one field, a `Vec` of the items
abbrev inside : Former {0}
inside = via (vec.the_former this Global) Inside (λ T s. s.items) (λ T v. record { items = v }) (λ T s. refl) (λ T v. refl)

module _ (R S : RattleType) (h : R.Denot → S.Denot) where
  pub the_places : Alike R S h → Alike (seen.the_row R) (seen.the_row S) ((the_former this).map R.Denot S.Denot h)
  the_places alike =
      view_places inside (list this) view (λ X Y k u. refl) (λ X u. refl) R.Denot S.Denot h (seen.the_row R).coded (seen.the_row S).coded
      (invariant R.Denot) (invariant S.Denot) (λ u p q. refl) (λ u p q. refl) (λ u e. tt) (λ u e. tt)
      (over (stored.the_row R)) (over (stored.the_row S))
      (struct_places (stored.the_type R) (stored.the_type S) (vec.mapped h, tt) _ (λ d. refl) refl (laid _ _ _ (vec.the_places heap.the_row ghosts R S h alike), tt))

  pub the_codes_placed : Recodes R S h → Recodes (seen.the_row R) (seen.the_row S) ((the_former this).map R.Denot S.Denot h)
  the_codes_placed same xs = sym (code_map R.coded.code S.coded.code h (λ x. sym (same x)) xs)
