use Rattle.std.proofs.Common.{◌≡◌, true, true≢false, sym, ap, ◌∙◌, Result, Ok, Err, OnOk, is_ok}
use Rattle.eip_turnstile.specs.Rule.{entries_by}
use Rattle.eip_turnstile.specs.Seats.{knows}
use Rattle.eip_turnstile.proofs.OneMore.{one-more}
use Rattle.eip_engine_tests.proofs.turnstile.turns.turn.Goals as goal

where_ok : {A B P : Type 0} → (r : Result A B) → OnOk r P → is_ok r ≡ true → P
where_ok (Ok x) p e = p
where_ok (Err y) p e = absurd (true≢false (sym e))

pub returns-clause-added : goal.returns-clause-added
returns-clause-added g c added =
    let grown = where_ok c.append.result c.append.ensures.ok (sym c.is_ok-is_added.ensures.value ∙ added) in
    let before = ap (λ j. entries_by (knows c.args.seat).number j.entries.items) c.value.ensures.value ∙ c.enter-held.ensures.mine in
    one-more _ _ _ _ _ _ _ _ (ap (λ v. v.mine) c.leave.ensures.view) (ap (λ v. v.number) c.enter-held.ensures.view) c.number-number.ensures grown before
