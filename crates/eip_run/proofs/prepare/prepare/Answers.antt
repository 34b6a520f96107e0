use Rattle.std.proofs.Common.{Some, refl, ap, ◌∙◌, inl}
use Rattle.eip_run.specs.Prepared.{NoCommand, HasNone, LacksMemory}
use Rattle.eip_run.proofs.Ending.{was-read, prepared-unread, prepared-none, prepared-job}
use Rattle.eip_run.proofs.prepare.prepare.Goals as goal

pub returns-in-Err-Refused-clause-answer : goal.returns-in-Err-Refused-clause-answer
returns-in-Err-Refused-clause-answer g c =
    NoCommand (let r = rw c.in-Err-Refused.field-0-is at c.in-Err-Refused.ensures.refused in r.0 refl) (record { files = refl; patterns = refl })

pub returns-in-Err-NoMemory-clause-answer : goal.returns-in-Err-NoMemory-clause-answer
returns-in-Err-NoMemory-clause-answer g c = LacksMemory refl (inl refl)

pub returns-in-Ok-Migrate-clause-answer : goal.returns-in-Ok-Migrate-clause-answer
returns-in-Ok-Migrate-clause-answer g c = HasNone _ _ (c.in-Ok-Migrate.ensures.command ∙ ap Some c.in-Ok-Migrate.field-0-is) (record { files = refl; patterns = refl })

pub returns-in-Err-clause-answer : goal.returns-in-Err-clause-answer
returns-in-Err-clause-answer g c = prepared-unread _ c.in-Ok.command c.in-Err.refusal c.in-Ok.ensures.command refl c.in-Err.ensures.read

pub returns-in_default-clause-answer : goal.returns-in_default-clause-answer
returns-in_default-clause-answer g c = LacksMemory c.in-Ok-route_file.ensures.read.1 (inl refl)

pub returns-in-Ok-routes_of-clause-answer : goal.returns-in-Ok-routes_of-clause-answer
returns-in-Ok-routes_of-clause-answer g c =
    prepared-job _ c.in-Ok.command c.in-Ok-route_file.read c.in-Ok-names_of.names c.in-Ok-routes_of.set _ c.in-Ok-names_of.ensures c.in-Ok.ensures.command
    (was-read _ _ _ c.in-Ok-route_file.ensures.read) c.in-Ok-routes_of.ensures c.job_of.ensures

pub returns-in-Err-routes_of-clause-answer : goal.returns-in-Err-routes_of-clause-answer
returns-in-Err-routes_of-clause-answer g c =
    prepared-none _ c.in-Ok.command c.in-Ok-route_file.read c.in-Ok-names_of.names c.in-Err-routes_of.refusal c.in-Ok-names_of.ensures c.in-Ok.ensures.command
    (was-read _ _ _ c.in-Ok-route_file.ensures.read) c.in-Err-routes_of.ensures
