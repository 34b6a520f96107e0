-- A compiled pattern of `regex` may go to another thread: nothing in it names a thread. Each type from those of its fields, since a
-- `search` that goes down through all of them runs out of steps.
use denote.Param.Send.{IsSend, sendable}
use denote.Param.SendFields.{as_row_send}
use Rattle.std.proofs.Crossing.{Box-send, Vec-send, crosses}
use Rattle.std.proofs.string.String.TheSendSync as string
use Rattle.regex_class.proofs.Class.TheSendSync as class
use Rattle.regex_literal.proofs.prefilter.Prefilter.TheSendSync as prefilter
use Rattle.regex_literal.proofs.ladder.Ladder.TheSendSync as ladder
use Rattle.regex_literal.proofs.caseless.Caseless.TheSendSync as caseless
use Rattle.regex_literal.proofs.byte_set.ByteSet.TheSendSync as byte_set
use Rattle.regex_extract.proofs.frames.Frame.TheSendSync as frame
use Rattle.regex_dfa.proofs.dfa.Dfa.TheSendSync as dfa
use Rattle.regex_syntax.proofs.Config.TheSendSync as config
use Rattle.regex_meta.proofs.plan.Role.TheSendSync as role
use Rattle.regex_hir.proofs.look.Look.TheSendSync as look
use Rattle.regex_hir.proofs.hir.Hir.TheLaws.TheKnot.{send-Hir}
use Rattle.regex_hir.specs.contracts.hir.Hir as hir
use Rattle.regex_meta.specs.contracts.plan.Plan as plan
use Rattle.regex_meta.specs.contracts.plan.Plans as plans
use Rattle.regex_meta.specs.contracts.signs.Signs as signs
use Rattle.regex_meta.specs.contracts.program.Program as program
use Rattle.regex.specs.contracts.pattern.Pattern as pattern
use Rattle.regex.specs.contracts.string.regex.Regex as regex

hir-field-send : IsSend (hir.the_field).row
hir-field-send = send-Hir (search (
  crosses,
  sendable,
) depth 20) class.the_field_send look.the_field_send (search sendable) (search sendable depth 20)
    (search sendable) (λ h s. Box-send h s) (λ h s. Vec-send h s)

hir-send : IsSend hir.the_row
hir-send = as_row_send hir.the_field hir-field-send

plan-field-send : IsSend (plan.the_field).row
plan-field-send = search (
  hir-send,
  hir-field-send,
  role.the_field_send,
  prefilter.the_send,
  ladder.the_field_send,
  frame.the_field_send,
  frame.the_send,
  crosses,
  sendable,
) depth 40 fits 30000

plan-send : IsSend plan.the_row
plan-send = as_row_send plan.the_field plan-field-send

plans-field-send : IsSend (plans.the_field).row
plans-field-send = search (plan-send, crosses, sendable) depth 40 fits 30000

signs-field-send : IsSend (signs.the_field).row
signs-field-send = search (hir-send, caseless.the_send, crosses, sendable) depth 40 fits 30000

signs-send : IsSend signs.the_row
signs-send = as_row_send signs.the_field signs-field-send

program-field-send : IsSend (program.the_field).row
program-field-send = search (
  hir-field-send,
  dfa.the_field_send,
  plans-field-send,
  signs-send,
  byte_set.the_send,
  crosses,
  sendable,
) depth 40 fits 30000

pattern-field-send : IsSend (pattern.the_field).row
pattern-field-send = search (
  string.the_field_send,
  string.the_send,
  config.the_field_send,
  program-field-send,
  crosses,
  sendable,
) depth 40 fits 30000

pub regex-field-send : IsSend (regex.the_field).row
regex-field-send = search (pattern-field-send, crosses, sendable) depth 40 fits 30000
