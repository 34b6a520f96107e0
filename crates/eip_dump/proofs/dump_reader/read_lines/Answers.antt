use Rattle.std.proofs.Common.{◌≡◌, ◌+◌, ◌∷◌, List, ap, sym, subst, ◌∙◌}
use Rattle.eip_ledger.specs.declared.entry.Entry.{Entry}
use Rattle.eip_dump.proofs.ReadLines.{SoFar, so_far_more, shorter}
use Rattle.eip_dump.proofs.dump_reader.read_lines.Goals as goal

pub loop-entry-smaller : goal.loop-entry-smaller
loop-entry-smaller c =
    let read = rw c.in-Some.is at c.in_ok-entry.ensures in
    shorter c.loop-entry.rest.now c.in-Some.more.now c.in-Some.entry read.2

pub loop-entry-preserved : goal.loop-entry-preserved
loop-entry-preserved c =
    let read = rw c.in-Some.is at c.in_ok-entry.ensures in
    let past : c.append_reserved.new.self.past ≡ c.in-Some.entry ∷ c.loop-entry.journal.past =
    c.append_reserved.ensures.past ∙ ap (λ (es : List Entry). c.in-Some.entry ∷ es) c.reserve.ensures.same.past in
    record {
      so_far = subst (λ (es : List Entry). SoFar c.args.count es c.args.bytes.now c.in-Some.more.now (c.loop-entry.entries + 1)) (sym past)
          (so_far_more c.args.count c.loop-entry.journal.past c.args.bytes.now c.loop-entry.rest.now c.in-Some.more.now c.loop-entry.entries c.in-Some.entry c.loop-entry.invariant.so_far read);
      workers = c.append_reserved.ensures.workers ∙ (c.reserve.ensures.same.workers ∙ c.loop-entry.invariant.workers);
      turns = c.append_reserved.ensures.turns ∙ (c.reserve.ensures.same.turns ∙ c.loop-entry.invariant.turns);
    }
