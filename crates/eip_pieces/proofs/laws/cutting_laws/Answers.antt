use Rattle.std.proofs.Common.{sym, subst}
use Rattle.eip_text.specs.Pieces.{Pieces}
use Rattle.eip_pieces.proofs.Unique.{only, is_cut, put_together}
use Rattle.eip_pieces.proofs.laws.cutting_laws.Goals as goal

pub returns-clause-only : goal.returns-clause-only
returns-clause-only c = λ token text ps n. (only token n ps text, λ e. subst (Pieces text token) (sym e) (is_cut token n text))

pub returns-clause-joined : goal.returns-clause-joined
returns-clause-joined c = λ token text n. put_together token n text
