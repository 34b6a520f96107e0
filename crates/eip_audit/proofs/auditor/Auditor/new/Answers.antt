use Rattle.std.proofs.Common.{[], refl, subst}
use Rattle.eip_route.specs.declared.route.RouteSet.{RouteSet}
use Rattle.eip_plan.specs.Plan.{plan_of}
use Rattle.eip_tables.specs.Rows.{SourcesStand}
use Rattle.eip_audit.proofs.Entering.{holds-first}
use Rattle.eip_audit.proofs.auditor.Auditor.new.Goals as goal

pub returns-in-Ok-clause-holds : goal.returns-in-Ok-clause-holds
returns-in-Ok-clause-holds c =
    holds-first _ c.journal.ensures.legal c.in_ok-books.books.set refl c.in_ok-books.ensures.past
    (subst (λ (set : RouteSet). SourcesStand (plan_of set) [] c.in-Ok.sources.items) c.set.ensures c.in-Ok.ensures) c.new-in-Ok.ensures.empty
