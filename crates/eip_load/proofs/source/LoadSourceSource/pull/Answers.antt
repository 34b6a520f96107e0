use Rattle.std.proofs.Common.{◌≡◌, ◌∙◌, [], ◌∷◌, Some, refl, sym, ap}
use Rattle.eip_uri.specs.Printed.{printed}
use Rattle.eip_uri.specs.declared.uri.Uri.TheVariants as uri
use Rattle.eip_endpoint.proofs.Told.{Rises-none}
use Rattle.eip_endpoint.specs.declared.source.Pulled.TheVariants.{End}
use Rattle.eip_load.specs.Items.{items_of}
use Rattle.eip_load.specs.Sources.{items_for, items_at, left_of}
use Rattle.eip_load.proofs.SourceLaws.{items-load, items-other, items-own, pulled-left, kept-left, pulled-ends, nothing-taken, none-left}
use Rattle.eip_load.proofs.source.LoadSourceSource.pull.Goals as goal

pub returns-in_default : goal.returns-in_default
returns-in_default c =
    let none = items-other c.args.from.now c.in_default.not-Load in
    record {
      given = λ u. refl;
      left = λ u. ap Some (nothing-taken u (printed c.args.from.now) (End ∷ []) (left_of u c.args.self.now) refl);
      ends = none-left (printed c.args.from.now) c.args.self.now none;
      commits = λ u. refl;
      fair = tt;
      faults = Rises-none 0;
      items = none ∙ sym (items-own c.args.from.now c.in_default.not-Load);
      fault = tt;
    }

pub returns-in-Ok-clause-left : goal.returns-in-Ok-clause-left
returns-in-Ok-clause-left c = λ u. ap Some
    (pulled-left u (printed c.args.from.now) c.args.self.now c.next.new.self c.in-Load.count c.in-Ok.pulled c.next.ensures.items c.in-Ok.ensures.gave c.next.ensures.others)

pub returns-in-Ok-clause-ends : goal.returns-in-Ok-clause-ends
returns-in-Ok-clause-ends c =
    pulled-ends (printed c.args.from.now) c.args.self.now c.next.new.self c.in-Load.count c.in-Ok.pulled c.next.ensures.items c.in-Ok.ensures.gave

pub returns-in-Ok-clause-items : goal.returns-in-Ok-clause-items
returns-in-Ok-clause-items c = c.next.ensures.items ∙ sym (ap items_for c.in-Load.is)

pub returns-in-Err-clause-left : goal.returns-in-Err-clause-left
returns-in-Err-clause-left c = λ u. ap Some
    (kept-left u (printed c.args.from.now) c.args.self.now c.next.new.self c.in-Err.ensures.err c.next.ensures.others)

pub returns-in-Err-clause-items : goal.returns-in-Err-clause-items
returns-in-Err-clause-items c = c.next.ensures.items ∙ sym (ap items_for c.in-Load.is)
