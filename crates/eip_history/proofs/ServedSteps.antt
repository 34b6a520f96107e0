-- What one more entry adds to what is read from the answers.
use Rattle.std.proofs.Common.{◌≡◌, ℕ, List, [], ◌∷◌, ◌++◌, refl, ap, ◌∙◌}
use Rattle.std.specs.Prelude.{filter_map}
use Rattle.std.specs.List.{flat_map}
use Rattle.std.proofs.lemmas.Grind.{flat_map-append}
use Rattle.std.proofs.lemmas.List.Elements.{filter_map-append}
use Rattle.eip_ledger.specs.declared.entry.Entry.{Entry}
use Rattle.eip_history.specs.Plan.{Plan}
use Rattle.eip_history.specs.Own.{Past}
use Rattle.eip_history.specs.Rules.{Served, served, served_in}
use Rattle.eip_history.specs.Texts.{note_for, notes}
use Rattle.eip_history.specs.BookText.{note_line, log_text_of}

pub served-none : (s : Plan) → served s [] ≡ []
unfolding served
served-none s = refl

pub served-more : (s : Plan) (e : Entry) (past : Past) → served s (e ∷ past) ≡ served s past ++ served_in s past e.worker e.kind
unfolding served
served-more s e past = refl

pub notes-none : (s : Plan) → notes s [] ≡ []
unfolding served
notes-none s = refl

pub notes-more : (s : Plan) (e : Entry) (past : Past)
    → notes s (e ∷ past) ≡ notes s past ++ filter_map (λ (v : Served). note_for v.asked.birth.number v.asked.request v.answer) (served_in s past e.worker e.kind)
unfolding served
notes-more s e past = filter_map-append (λ (v : Served). note_for v.asked.birth.number v.asked.request v.answer) (served s past) (served_in s past e.worker e.kind)

-- the log only grows
pub log-more : (s : Plan) (e : Entry) (past : Past)
    → log_text_of s (e ∷ past) ≡ log_text_of s past
    ++ flat_map note_line (filter_map (λ (v : Served). note_for v.asked.birth.number v.asked.request v.answer) (served_in s past e.worker e.kind))
unfolding log_text_of
log-more s e past =
    ap (flat_map note_line) (notes-more s e past)
    ∙ flat_map-append note_line (notes s past) (filter_map
    (λ (v : Served). note_for v.asked.birth.number v.asked.request v.answer) (served_in s past e.worker e.kind))
