use Rattle.std.proofs.Common.{◌≡◌, ◌++◌, ℕ, List, length, take, string_bytes, sym, ap, ◌∙◌, arith}
use Rattle.std.specs.List.{flat_map}
use Rattle.eip_history.specs.BookText.{note_line}
use Rattle.eip_history.proofs.Walk.{flat_map-all}
use Rattle.eip_history.proofs.TextSteps.{log-is}
use Rattle.eip_hub.specs.View.{plan}
use Rattle.eip_endbook.proofs.log.push_log.Goals as goal

pub returns : goal.returns
returns c =
    let items = c.notes-note-items.result.now in
    let index = c.loop-note.note-index in
    let all : index ≡ length items = omega (arith, c.loop-note-test.false, c.loop-note.auto.note-index-end) in
    let so_far : string_bytes c.loop-note.out ≡ string_bytes c.args.out.now ++ flat_map note_line (take index items) = c.loop-note.invariant in
    so_far
    ∙ ap (λ (t : List ℕ). string_bytes c.args.out.now ++ t) (ap (λ (k : ℕ). flat_map note_line (take k items)) all
    ∙ (flat_map-all note_line items ∙ (ap (flat_map note_line) c.notes-note-items.ensures ∙ sym (log-is (plan c.args.hub.now) c.args.hub.now.journal.past))))
