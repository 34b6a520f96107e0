use Rattle.std.proofs.Common.{sym, ◌∙◌}
use Rattle.eip_command.proofs.Pairs.{twice, next}
use Rattle.eip_command.proofs.options.are_pairs.Goals as goal

pub returns-then-is_given : goal.returns-then-is_given
returns-then-is_given c =
    sym (c.loop-rest.invariant ∙ twice _ c.loop-rest.rest.now c.word-item.result _ _ c.in-len2-up.len_at_least c.word-item.is c.as_str-in-len2-up-2.ensures c.is_given.ensures c.if-is_given.true)

pub loop-rest-preserved : goal.loop-rest-preserved
loop-rest-preserved c =
    c.loop-rest.invariant
    ∙ next _ c.loop-rest.rest.now c.word-item.result c.value-item.result _ _ _ _ _ c.in-len2-up.len_at_least c.word-item.is c.value-item.is
    c.as_str.ensures c.as_str-in-len2-up.ensures c.as_str-in-len2-up-2.ensures c.is_option.ensures c.if-not-is_option.false c.is_given.ensures c.if-is_given.false
