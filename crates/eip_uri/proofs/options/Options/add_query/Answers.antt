use Rattle.std.proofs.Common.{◌∙◌, ◌++◌, List, map, ap, sym, rules}
use Rattle.std.proofs.lemmas.Result.{err_from_is_err_and}
use Rattle.eip_text.specs.Cuts.{pieces}
use Rattle.eip_uri.specs.Options as spec
use Rattle.eip_uri.proofs.Gathering.{query_goes_on, query_ends, fault_goes_on, all_goes_on, fault_carried, last_added}
use Rattle.eip_uri.proofs.options.Options.add_query.Goals as goal

pub returns-in_err-add_piece : goal.returns-in_err-add_piece
returns-in_err-add_piece c =
    let p = err_from_is_err_and c.from_residual.result c.from_residual.ensures.1 in
    let rest = query_goes_on c.loop-piece.rest.now c.in-Some.piece.now c.in-Some.more.now c.in-Some.ensures.value in
    rw (p.1, p.2) (fault_carried c.in_err-add_piece.field-0.0 c.args.scheme (spec.now_entries c.loop-piece.self.given.items) (spec.entry c.in-Some.piece.now) (map spec.entry (pieces 38 c.in-Some.more.now)) _
    c.in_err-add_piece.ensures (sym (ap (spec.first_fault c.args.scheme (spec.now_entries c.loop-piece.self.given.items)) rest) ∙ c.loop-piece.invariant.faults))

pub loop-piece-preserved : goal.loop-piece-preserved
loop-piece-preserved c =
    let rest = query_goes_on c.loop-piece.rest.now c.in-Some.piece.now c.in-Some.more.now c.in-Some.ensures.value in
    record {
      is_text = search rules;
      faults = fault_goes_on c.args.scheme (spec.now_entries c.loop-piece.self.given.items) (spec.now_entries c.add_piece.new.self.given.items) (spec.entry c.in-Some.piece.now) (map spec.entry (pieces 38 c.in-Some.more.now)) c.in_ok-add_piece.ensures.0 c.in_ok-add_piece.ensures.1
          ∙ sym (ap (spec.first_fault c.args.scheme (spec.now_entries c.loop-piece.self.given.items)) rest) ∙ c.loop-piece.invariant.faults;
      all = all_goes_on (spec.now_entries c.loop-piece.self.given.items) (spec.now_entries c.add_piece.new.self.given.items) (spec.entry c.in-Some.piece.now) (map spec.entry (pieces 38 c.in-Some.more.now)) c.in_ok-add_piece.ensures.1
          ∙ sym (ap (λ (es : List spec.Entry). spec.now_entries c.loop-piece.self.given.items ++ es) rest) ∙ c.loop-piece.invariant.all;
    }

pub returns : goal.returns
returns c =
    let rest = query_ends c.loop-piece.rest.now c.in_default.ensures.value in
    last_added c.add_piece-2.result c.args.scheme (spec.now_entries c.loop-piece.self.given.items) (spec.now_entries c.add_piece-2.new.self.given.items) (map spec.entry (pieces 38 c.args.query.now)) (spec.entry c.loop-piece.rest.now) (spec.now_entries c.args.self.now.given.items)
    c.add_piece-2.ensures
    (sym (ap (spec.first_fault c.args.scheme (spec.now_entries c.loop-piece.self.given.items)) rest) ∙ c.loop-piece.invariant.faults)
    (sym (ap (λ (es : List spec.Entry). spec.now_entries c.loop-piece.self.given.items ++ es) rest) ∙ c.loop-piece.invariant.all)
