use Rattle.std.proofs.Common.{None, get_or, ◌∙◌, ap, sym}
use Rattle.eip_route_grammar.specs.Known.{has_text, first_read, kept}
use Rattle.eip_route_grammar.proofs.Places.{Places, none_read, taken}
use Rattle.eip_route_grammar.proofs.known.Known.take.Goals as goal

pub returns-in-None-clause-first : goal.returns-in-None-clause-first
returns-in-None-clause-first c =
    sym (none_read c.args.text.now c.deref.result.now c.in-None.ensures.nowhere) ∙ ap (λ (ps : Places). first_read c.args.text.now (kept ps)) c.deref.ensures.value ∙ ap (first_read c.args.text.now) c.self.view_is

pub invariant_of-self : goal.invariant_of-self
invariant_of-self c =
    let there = ap (λ (ps : Places). has_text c.args.text.now (get_or ps c.in-Some.place None)) (sym c.deref.ensures.value) ∙ c.in-Some.ensures.there in
    (taken c.args.text.now c.self.inside.places.items c.taken_at-removed.new.places.items c.args.self.now c.in-Some.place c.taken_at-removed.result c.predicate_in.result c.self.invariant c.self.view_is
    there c.taken_at-removed.ensures.value c.taken_at-removed.ensures.left c.predicate_in.ensures).read

pub returns-in-Some : goal.returns-in-Some
returns-in-Some c =
    let there = ap (λ (ps : Places). has_text c.args.text.now (get_or ps c.in-Some.place None)) (sym c.deref.ensures.value) ∙ c.in-Some.ensures.there in
    let t =
    taken c.args.text.now c.self.inside.places.items c.taken_at-removed.new.places.items c.args.self.now c.in-Some.place c.taken_at-removed.result c.predicate_in.result c.self.invariant c.self.view_is
    there c.taken_at-removed.ensures.value c.taken_at-removed.ensures.left c.predicate_in.ensures in
    record {
      first = t.first;
      gone = t.gone;
      same = t.same;
      value = t.value;
      patterns = t.patterns;
    }
