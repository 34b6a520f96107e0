use Rattle.std.proofs.Common.{arith, refl, sym, subst, ⊎_elim, ◌≡◌, ◌-◌, ◌∙◌, ap}
use Rattle.eip_ledger.specs.declared.place.Place.TheVariants.{Ready}
use Rattle.eip_tables.specs.State.{known_of}
use Rattle.eip_tables.specs.Look.{HasCursor}
use Rattle.eip_rows.specs.First.{CanBegin}
use Rattle.eip_books.specs.Facts.{tables_of}
use Rattle.eip_table_laws.proofs.RowPlaces.{lives-first}
use Rattle.eip_table_laws.proofs.OwnCalls.{row-within}
use Rattle.eip_table_laws.proofs.LookCalls.{born-birth, answer-within, answered-entry, answered-cursor, new-looked, answer-looked, known-now, known-asking, one-of-both, on-ok, answer-there}
use Rattle.eip_table_laws.proofs.LookOutside.{looked-outside, known-outside-already}
use Rattle.eip_books.proofs.books.Books.look.Goals as goal

pub get-row-requires-clause-above : goal.get-row-requires-clause-above
get-row-requires-clause-above c = (row-within (tables_of c.self.inside) c.args.number Ready c.self.invariant.stands (rw (← c.self.view_is) at c.requires)).0

pub get-row-requires-clause-within : goal.get-row-requires-clause-within
get-row-requires-clause-within c = (row-within (tables_of c.self.inside) c.args.number Ready c.self.invariant.stands (rw (← c.self.view_is) at c.requires)).1

pub begin-requires-clause-above : goal.begin-requires-clause-above
begin-requires-clause-above c = (row-within (tables_of c.self.inside) c.args.number Ready c.self.invariant.stands (rw (← c.self.view_is) at c.requires)).0

pub begin-requires-clause-within : goal.begin-requires-clause-within
begin-requires-clause-within c = (row-within (tables_of c.self.inside) c.args.number Ready c.self.invariant.stands (rw (← c.self.view_is) at c.requires)).1

pub look-requires-clause-above : goal.look-requires-clause-above
look-requires-clause-above c = (row-within (tables_of c.self.inside) c.args.number Ready c.self.invariant.stands (rw (← c.self.view_is) at c.requires)).0

pub look-requires-clause-within : goal.look-requires-clause-within
look-requires-clause-within c = (row-within (tables_of c.self.inside) c.args.number Ready c.self.invariant.stands (rw (← c.self.view_is) at c.requires)).1

pub begin-requires-clause-birth : goal.begin-requires-clause-birth
begin-requires-clause-birth c = λ r at.
    let row = c.get-row.ensures in
    let same : c.get-row.result.now ≡ r = cc in
    let b = born-birth (tables_of c.self.inside) c.args.number c.get-row.result.now c.self.invariant.stands (rw (← c.self.view_is) at c.requires) c.get-row.ensures (sym c.stage.ensures ∙ c.in-New.is) in
    subst (CanBegin c.self.inside.set c.entries.result.now c.args.number) same (record { birth = b.0; made = rw c.entries.ensures b.1; lives = lives-first _ b.0 })

pub invariant_of-self : goal.invariant_of-self
invariant_of-self c =
    record {
      stands = ⊎_elim
          (λ ok. let made = ok c.get-row.result.now c.get-row.ensures in
          rw (made.1, made.2.row) (new-looked (tables_of c.self.inside) c.args.number c.get-row.result.now c.self.invariant.stands (rw (← c.self.view_is) at c.requires) c.get-row.ensures
          made.2.cursor made.2.request (sym c.stage.ensures ∙ c.in-New.is) (rw c.entries.ensures at made.2.looked)))
          (λ err. rw err c.self.invariant.stands)
          (one-of-both c.begin.result _ _ c.begin.ensures.ok c.begin.ensures.err);
      few = c.self.invariant.few;
      room_small = c.self.invariant.room_small;
      room_journal = c.self.invariant.room_journal;
      room_rows = omega (arith, c.begin.ensures.spare, c.self.invariant.room_rows);
      room_ready = c.self.invariant.room_ready;
    }

pub bounds-entries-entry : goal.bounds-entries-entry
bounds-entries-entry c = rw c.entries-in-Answered.ensures (answer-within (tables_of c.self.inside) c.args.number c.get-row.result.now c.self.invariant.stands (rw (← c.self.view_is) at c.requires) c.get-row.ensures c.in-Answered.entry (sym c.stage.ensures ∙ c.in-Answered.is))

pub look-requires-clause-cursor : goal.look-requires-clause-cursor
look-requires-clause-cursor c = λ r at.
    let row = c.get-row.ensures in
    let same : c.get-row.result.now ≡ r = cc in
    subst (HasCursor c.self.inside.set c.in-Answer.answer) same
    (answered-cursor (tables_of c.self.inside) c.args.number c.get-row.result.now c.self.invariant.stands (rw (← c.self.view_is) at c.requires) c.get-row.ensures
    c.in-Answered.entry c.index-entries-entry.result.worker c.in-Answer.number c.in-Answer.answer (sym c.stage.ensures ∙ c.in-Answered.is) (answer-there c.self.inside.journal.past c.in-Answered.entry c.entries-in-Answered.result.now c.index-entries-entry.result c.in-Answer.number c.in-Answer.answer c.entries-in-Answered.ensures
    (answer-within (tables_of c.self.inside) c.args.number c.get-row.result.now c.self.invariant.stands (rw (← c.self.view_is) at c.requires) c.get-row.ensures c.in-Answered.entry (sym c.stage.ensures ∙ c.in-Answered.is))
    c.index-entries-entry.is c.in-Answer.is))

pub unreachable-requires : goal.unreachable-requires
unreachable-requires c =
    let a = answered-entry (tables_of c.self.inside) c.args.number c.get-row.result.now c.self.invariant.stands (rw (← c.self.view_is) at c.requires) c.get-row.ensures
    c.in-Answered.entry c.entries-in-Answered.result.now c.index-entries-entry.result (sym c.stage.ensures ∙ c.in-Answered.is) c.entries-in-Answered.ensures c.index-entries-entry.is in
    c.in_default-kind.not-Answer a.0 a.1.0 a.1.1

pub invariant_of-self-in-Answer : goal.invariant_of-self-in-Answer
invariant_of-self-in-Answer c =
    record {
      stands = ⊎_elim
          (λ ok. let made = ok c.get-row.result.now c.get-row.ensures in
          rw made.1 (answer-looked (tables_of c.self.inside) c.args.number c.get-row.result.now c.self.invariant.stands (rw (← c.self.view_is) at c.requires) c.get-row.ensures
          c.in-Answered.entry c.index-entries-entry.result.worker c.in-Answer.number c.in-Answer.answer made.0 (sym c.stage.ensures ∙ c.in-Answered.is) (answer-there c.self.inside.journal.past c.in-Answered.entry c.entries-in-Answered.result.now c.index-entries-entry.result c.in-Answer.number c.in-Answer.answer c.entries-in-Answered.ensures
          (answer-within (tables_of c.self.inside) c.args.number c.get-row.result.now c.self.invariant.stands (rw (← c.self.view_is) at c.requires) c.get-row.ensures c.in-Answered.entry (sym c.stage.ensures ∙ c.in-Answered.is))
          c.index-entries-entry.is c.in-Answer.is) made.2))
          (λ err. rw err c.self.invariant.stands)
          (one-of-both c.look.result _ _ c.look.ensures.ok c.look.ensures.err);
      few = c.self.invariant.few;
      room_small = c.self.invariant.room_small;
      room_journal = c.self.invariant.room_journal;
      room_rows = omega (arith, c.look.ensures.spare, c.self.invariant.room_rows);
      room_ready = c.self.invariant.room_ready;
    }

pub returns-in-New-clause-known : goal.returns-in-New-clause-known
returns-in-New-clause-known c =
    on-ok c.begin.result _ _
    (λ ok. let made = ok c.get-row.result.now c.get-row.ensures in (
      made.2.request,
      rw made.1 (known-now c.self.inside.rows.items (c.args.number - 1) c.get-row.result.now made.0 made.2.request c.get-row.ensures (ap known_of made.2.row)),
    ))
    c.begin.ensures.ok

pub returns-in-Answer-clause-known : goal.returns-in-Answer-clause-known
returns-in-Answer-clause-known c =
    on-ok c.look.result _ _
    (λ ok. let made = ok c.get-row.result.now c.get-row.ensures in (
      made.2.request,
      rw made.1 (known-now c.self.inside.rows.items (c.args.number - 1) c.get-row.result.now made.0 made.2.request c.get-row.ensures (ap known_of made.2.row)),
    ))
    c.look.ensures.ok

pub returns-in-New-clause-outside : goal.returns-in-New-clause-outside
returns-in-New-clause-outside c =
    on-ok c.begin.result _ _
    (λ ok. let made = ok c.get-row.result.now c.get-row.ensures in
    rw (← c.self.view_is, made.1)
    (looked-outside (tables_of c.self.inside) c.args.number c.get-row.result.now made.0 made.2.cursor made.2.request
    c.self.invariant.stands (rw (← c.self.view_is) at c.requires) c.get-row.ensures
    (rw made.2.row (new-looked (tables_of c.self.inside) c.args.number c.get-row.result.now c.self.invariant.stands (rw (← c.self.view_is) at c.requires) c.get-row.ensures made.2.cursor made.2.request (sym c.stage.ensures ∙ c.in-New.is) (rw c.entries.ensures at made.2.looked)))
    made.2.row (rw (sym c.stage.ensures ∙ c.in-New.is) refl)))
    c.begin.ensures.ok

pub returns-in-Answer-clause-outside : goal.returns-in-Answer-clause-outside
returns-in-Answer-clause-outside c =
    on-ok c.look.result _ _
    (λ ok. let made = ok c.get-row.result.now c.get-row.ensures in
    rw (← c.self.view_is, made.1)
    (looked-outside (tables_of c.self.inside) c.args.number c.get-row.result.now made.0 made.2.now made.2.request
    c.self.invariant.stands (rw (← c.self.view_is) at c.requires) c.get-row.ensures
    (answer-looked (tables_of c.self.inside) c.args.number c.get-row.result.now c.self.invariant.stands (rw (← c.self.view_is) at c.requires) c.get-row.ensures
    c.in-Answered.entry c.index-entries-entry.result.worker c.in-Answer.number c.in-Answer.answer made.0 (sym c.stage.ensures ∙ c.in-Answered.is) (answer-there c.self.inside.journal.past c.in-Answered.entry c.entries-in-Answered.result.now c.index-entries-entry.result c.in-Answer.number c.in-Answer.answer c.entries-in-Answered.ensures
    (answer-within (tables_of c.self.inside) c.args.number c.get-row.result.now c.self.invariant.stands (rw (← c.self.view_is) at c.requires) c.get-row.ensures c.in-Answered.entry (sym c.stage.ensures ∙ c.in-Answered.is))
    c.index-entries-entry.is c.in-Answer.is) made.2)
    made.2.row (rw (sym c.stage.ensures ∙ c.in-Answered.is) refl)))
    c.look.ensures.ok

pub returns-in_default : goal.returns-in_default
returns-in_default c =
    let k = known-asking (tables_of c.self.inside) c.args.number c.get-row.result.now c.self.invariant.stands (rw (← c.self.view_is) at c.requires) c.get-row.ensures (λ is. c.in_default.not-New (c.stage.ensures ∙ is)) (λ i is. c.in_default.not-Answered i (c.stage.ensures ∙ is)) in
    record {
      none = record { same = record { set = refl; workers = refl; turns = refl }; past = refl };
      legal = rw (← c.self.view_is) c.self.invariant.stands.legal;
      room = refl;
      known = (k.0, rw (← c.self.view_is) k.1);
      outside = rw (← c.self.view_is) (known-outside-already (tables_of c.self.inside) c.args.number c.get-row.result.now k.0 c.self.invariant.stands (rw (← c.self.view_is) at c.requires) c.get-row.ensures k.1);
      err = tt;
    }

pub offset_bounds-entries-entry : goal.offset_bounds-entries-entry
offset_bounds-entries-entry c =
    let within = bounds-entries-entry c in
    omega (arith, within, c.entries-in-Answered.type_inv.1)
