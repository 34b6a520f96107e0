use Rattle.std.proofs.Common.{List, ◌++◌, ◌∷◌, [], subst, sym, ◌∙◌, ap}
use Rattle.eip_route_grammar.specs.Known.{AreRead, kept}
use Rattle.eip_route_grammar.specs.declared.known.Entry.{Entry}
use Rattle.eip_route_grammar.proofs.Places.{kept_behind, reads_behind}
use Rattle.eip_route_grammar.proofs.known.Known.add.Goals as goal

pub invariant_of-self-2 : goal.invariant_of-self-2
invariant_of-self-2 c =
    let added : Entry = record { text = c.args.text; predicate = c.args.predicate } in
    let R : List Entry → Type 0 = λ x. AreRead x in
    subst R (sym (ap kept c.in_ok-push.ensures.items ∙ kept_behind c.self.inside.places.items added))
    (reads_behind (kept c.self.inside.places.items) added c.self.invariant (record { value = c.requires.value; patterns = c.requires.patterns }))

pub returns-clause-added : goal.returns-clause-added
returns-clause-added c =
    let added : Entry = record { text = c.args.text; predicate = c.args.predicate } in
    ap kept c.in_ok-push.ensures.items ∙ kept_behind c.self.inside.places.items added ∙ ap (λ (es : List Entry). es ++ added ∷ []) c.self.view_is
