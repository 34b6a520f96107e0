use Rattle.std.proofs.Common.{rules}
use Rattle.eip_turnstile.proofs.Keeps.{splits}
use Rattle.eip_turnstile.proofs.seat.Turnstile.split.Goals as goal

pub split_seat-place-requires : goal.split_seat-place-requires
split_seat-place-requires g c =
    let seat = c.args.seat.now in
    (c.requires.own, search rules, splits g.V.Chronicle.entries g.V.Chronicle.base _ seat.place.id seat.place.me.0 seat.live c.requires.first)
