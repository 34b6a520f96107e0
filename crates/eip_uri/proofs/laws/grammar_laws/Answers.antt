use Rattle.eip_uri.proofs.AgainForms.{uri_again}
use Rattle.eip_uri.proofs.Judging.{first_is, all_sound}
use Rattle.eip_uri.proofs.Ranged.{read_ranged}
use Rattle.eip_uri.proofs.laws.grammar_laws.Goals as goal

pub returns-clause-ranged : goal.returns-clause-ranged
returns-clause-ranged c = read_ranged

pub returns-clause-again : goal.returns-clause-again
returns-clause-again c = uri_again

pub returns-clause-first : goal.returns-clause-first
returns-clause-first c = first_is

pub returns-clause-sound : goal.returns-clause-sound
returns-clause-sound c = all_sound
