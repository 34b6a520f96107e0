-- A shared run may go to another thread: its route set, its journal and its tables name no thread.
use denote.Param.Send.{IsSend, sendable}
use denote.Param.SendFields.{as_row_send}
use Rattle.std.proofs.Crossing.{crosses}
use Rattle.eip_shared.proofs.Regexes.{regex-field-send}
use Rattle.eip_text.proofs.text.Text.TheSendSync as text
use Rattle.eip_text.proofs.series.Series.TheSendSync as series
use Rattle.eip_uri.proofs.uri.Uri.TheSendSync as uri
use Rattle.eip_exchange.proofs.setting.Strategy.TheSendSync as strategy
use Rattle.eip_exchange.proofs.setting.How.TheSendSync as how
use Rattle.eip_exchange.proofs.setting.Clause.TheSendSync as clause
use Rattle.eip_simple_read.proofs.tree.Side.TheSendSync as side
use Rattle.eip_simple_read.proofs.tree.Op.TheSendSync as op
use Rattle.eip_simple_read.proofs.tree.Template.TheSendSync as template
use Rattle.eip_simple_read.specs.contracts.pattern.Pattern as pattern
use Rattle.eip_simple_read.specs.contracts.tree.Test as test
use Rattle.eip_simple_read.specs.contracts.tree.Predicate as predicate
use Rattle.eip_route.proofs.step.Expr.TheSendSync as expr
use Rattle.eip_route.proofs.step.Fan.TheSendSync as fan
use Rattle.eip_route.proofs.route.Names.TheSendSync as names
use Rattle.eip_route.proofs.route.Route.TheSendSync as route
use Rattle.eip_route.proofs.route.Handler.TheSendSync as handler
use Rattle.eip_route.specs.contracts.step.Check as check
use Rattle.eip_route.specs.contracts.step.Aggregate as aggregate
use Rattle.eip_route.specs.contracts.step.Catch as catch
use Rattle.eip_route.specs.contracts.step.Step as step
use Rattle.eip_route.specs.contracts.route.Block as block
use Rattle.eip_route.specs.contracts.route.RouteSet as set
use Rattle.eip_ledger.proofs.journal.Journal.TheSendSync as journal
use Rattle.eip_ledger.proofs.place.Note.TheSendSync as note
use Rattle.eip_hub.proofs.RowsSend as rows
use Rattle.eip_tables.proofs.rising.RisingNumbers.TheSendSync as rising
use Rattle.eip_tables.proofs.sources.Sources.TheSendSync as sources
use Rattle.eip_tables.proofs.table.Table.TheSendSync as table
use Rattle.eip_seda.proofs.queues.Queues.TheSendSync as queues
use Rattle.eip_join.proofs.joins.Joins.TheSendSync as joins
use Rattle.eip_redelivery.proofs.retries.Retries.TheSendSync as retries
use Rattle.eip_aggregator.proofs.groups.Groups.TheSendSync as groups
use Rattle.eip_idempotent.proofs.repo.Repo.TheSendSync as repo
use Rattle.eip_hub.specs.Books as books
use Rattle.eip_hub.specs.contracts.hub.Hub as hub
use Rattle.eip_shared.specs.contracts.shared.SharedRun as run

pattern-send : IsSend pattern.the_row
pattern-send = search (text.the_send, regex-field-send, crosses, sendable) depth 40 fits 30000

test-field-send : IsSend (test.the_field).row
test-field-send = search (side.the_field_send, op.the_field_send, pattern-send, crosses, sendable) depth 40 fits 30000

test-send : IsSend test.the_row
test-send = as_row_send test.the_field test-field-send

predicate-field-send : IsSend (predicate.the_field).row
predicate-field-send = search (series.the_send, test-send, crosses, sendable) depth 40 fits 30000

predicate-send : IsSend predicate.the_row
predicate-send = as_row_send predicate.the_field predicate-field-send

check-field-send : IsSend (check.the_field).row
check-field-send = search (predicate-field-send, text.the_send, crosses, sendable) depth 40 fits 30000

check-send : IsSend check.the_row
check-send = as_row_send check.the_field check-field-send

aggregate-field-send : IsSend (aggregate.the_field).row
aggregate-field-send = search (expr.the_field_send, strategy.the_field_send, predicate-send, crosses, sendable) depth 40 fits 30000

catch-field-send : IsSend (catch.the_field).row
catch-field-send = search (check-send, series.the_send, text.the_send, crosses, sendable) depth 40 fits 30000

catch-send : IsSend catch.the_row
catch-send = as_row_send catch.the_field catch-field-send

step-field-send : IsSend (step.the_field).row
step-field-send = search (
  text.the_send,
  expr.the_field_send,
  uri.the_field_send,
  template.the_field_send,
  check-field-send,
  check-send,
  how.the_field_send,
  fan.the_field_send,
  aggregate-field-send,
  catch-send,
  series.the_send,
  crosses,
  sendable,
) depth 40 fits 30000

step-send : IsSend step.the_row
step-send = as_row_send step.the_field step-field-send

block-field-send : IsSend (block.the_field).row
block-field-send = search (series.the_send, step-send, crosses, sendable) depth 40 fits 30000

block-send : IsSend block.the_row
block-send = as_row_send block.the_field block-field-send

pub set-field-send : IsSend (set.the_field).row
set-field-send = search (
  names.the_field_send,
  route.the_send,
  block-send,
  handler.the_field_send,
  clause.the_send,
  series.the_send,
  crosses,
  sendable,
) depth 40 fits 30000

books-send : IsSend books.the_row
books-send = search (
  set-field-send,
  journal.the_send,
  rows.the_send,
  rising.the_send,
  sources.the_send,
  table.the_send,
  note.the_send,
  queues.the_send,
  joins.the_send,
  retries.the_send,
  groups.the_send,
  repo.the_send,
  crosses,
  sendable,
) depth 40 fits 30000

hub-send : IsSend hub.the_row
hub-send = search (books-send, crosses, sendable) depth 40 fits 30000

pub run-send : IsSend run.the_row
run-send = search (hub-send, crosses, sendable) depth 40 fits 30000
