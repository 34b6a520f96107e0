use Rattle.std.proofs.Common.{◌≡◌, ◌∙◌, length, vec_len, sym, rules}
use Rattle.std.proofs.lemmas.Bool.{eqb-true}
use Rattle.std.proofs.lemmas.List.{nil_from_length}
use Rattle.eip_meaning.specs.Meaning.{item_of}
use Rattle.eip_progress.specs.Rest.{rest}
use Rattle.eip_cursor.proofs.Ending.{ends_with}
use Rattle.eip_cursor.proofs.Fitting.{fits_wait}
use Rattle.eip_cursor.proofs.last.last_message.Goals as goal

pub passes-requires : goal.passes-requires
unfolding rest
passes-requires c =
    let h = rw c.in-Runs.is at c.requires in
    fits_wait c.args.set.now c.args.cursor.now.commit (item_of c.args.cursor.now.origin) c.args.cursor.now.context c.args.cursor.now.whole c.args.cursor.now.stack.items c.in-Runs.wait c.args.answer.now h

pub returns-in_ok-message-in-Runs : goal.returns-in_ok-message-in-Runs
returns-in_ok-message-in-Runs c =
    let none : vec_len c.args.cursor.now.stack ≡ 0 = eqb-true (vec_len c.args.cursor.now.stack) 0 (sym c.is_empty.ensures ∙ c.if-not-is_empty.false) in
    let left : length c.args.cursor.now.stack.items ≡ 0 = search rules in
    rw (c.in_ok-message-in-Runs.ensures ∙ c.message_in.ensures)
    (ends_with c.args.set.now c.args.cursor.now c.in-Runs.wait c.args.answer.now c.in-Runs.is (nil_from_length c.args.cursor.now.stack.items left) (λ whole A. c.passes.ensures c.if-not-passes.false whole A))
