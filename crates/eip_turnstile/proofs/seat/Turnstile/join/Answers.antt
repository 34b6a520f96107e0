use Rattle.std.proofs.Common.{rules}
use Rattle.eip_turnstile.proofs.Keeps.{joins}
use Rattle.eip_turnstile.proofs.seat.Turnstile.join.Goals as goal

pub join_seat-requires : goal.join_seat-requires
join_seat-requires g c =
    let seat = c.args.seat.now in
    let other = c.args.other in
    (c.requires.own.0, c.requires.own.1, other.empty, search rules, joins g.V.Chronicle.entries g.V.Chronicle.base _ seat.place.id other.place.id seat.place.me.0 other.place.me.0 seat.live seat.rests other.live other.rests)
