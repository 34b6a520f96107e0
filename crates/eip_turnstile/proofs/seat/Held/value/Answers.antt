use Rattle.std.proofs.Common.{refl}
use Rattle.eip_turnstile.proofs.SameHeld.{same_held}
use Rattle.eip_turnstile.proofs.seat.Held.value.Goals as goal

pub returns : goal.returns
returns g c =
    let h = c.args.self.now in
    ((refl, λ w. same_held h.place h.number h.made h.begun w _ h.began _ h.lent _ h.live _ h.turned _ h.numbered _ h.counted), record { writes_back = tt; value = refl })
