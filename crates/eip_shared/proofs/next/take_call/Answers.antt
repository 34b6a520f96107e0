use Rattle.std.proofs.Common.{[], ◌∷◌, eq-eqb, refl, subst}
use Rattle.eip_ledger.specs.declared.entry.Kind.TheVariants.{Starve, Take}
use Rattle.eip_hub.specs.View.{Adds}
use Rattle.eip_shared.specs.Deeds.{silent}
use Rattle.eip_shared.proofs.Doing.{does-both, does-one}
use Rattle.eip_shared.proofs.Looking.{owned-now}
use Rattle.eip_shared.proofs.next.take_call.Goals as goal

pub returns-in-Ok-clause-some : goal.returns-in-Ok-clause-some
returns-in-Ok-clause-some c =
    let w = c.args.worker in
    let old = c.args.hub.now in
    let new = c.take_owned.new.self in
    let ticket = c.in_ok-ticket.ticket in
    let took = c.in_ok-ticket.ensures in
    let asks = took.asked in (
      silent (Take ticket.number) ∷ [],
      does-one old new w (Take ticket.number) took.enters.adds tt,
      ((refl, refl), tt),
      record {
        holder = took.worker;
        outside = took.of_outside;
        from = asks.0.birth.origin;
        held = record {
          there = took.place;
          asker = asks.0;
          asks = asks.1.0;
          origin = refl;
          request = asks.1.1;
          own = owned-now old new w ticket.number asks.0 took.enters.adds took.may.0 asks.1.0 took.owner;
        };
        told = c.in-Ok.ensures asks.0 asks.1.0;
      },
      refl,
    )

pub returns-in-Err-clause-some : goal.returns-in-Err-clause-some
returns-in-Err-clause-some c =
    let w = c.args.worker in
    let old = c.args.hub.now in
    let mid = c.take_owned.new.self in
    let new = c.give_up.new.self in
    let ticket = c.in_ok-ticket.ticket in
    let took = c.in_ok-ticket.ensures in (
      silent (Take ticket.number) ∷ silent (Starve ticket.number) ∷ [],
      does-both old mid new w (silent (Take ticket.number) ∷ []) (silent (Starve ticket.number) ∷ [])
          (does-one old mid w (Take ticket.number) took.enters.adds tt)
          (does-one mid new w (Starve ticket.number) (subst (λ n. Adds mid new n (Starve ticket.number)) took.worker c.give_up.ensures.adds) tt),
      ((refl, refl), ((refl, refl), tt)),
      tt,
      rw (eq-eqb ticket.number ticket.number refl) refl,
    )
