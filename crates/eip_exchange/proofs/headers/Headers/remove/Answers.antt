use Rattle.std.proofs.Common.{◌≡◌, ◌≤◌, ap, is_some, ◌∙◌, arith}
use Rattle.std.specs.Cmp.{on_equiv}
use Rattle.std.specs.Cmp.Lexicographic.{nat_list_eq_equiv}
use Rattle.std.specs.List.{IsDistinct}
use Rattle.std.proofs.lemmas.Result.{IfOk-weaker, on_ok_weaker}
use Rattle.eip_exchange.specs.Pairs.{Pairs, names}
use Rattle.eip_exchange.specs.Headers.{same_name, folded, counted, get_header, without_header}
use Rattle.eip_exchange.specs.Places.{without_at}
use Rattle.eip_exchange.proofs.Counts.{counted-without-le}
use Rattle.eip_exchange.proofs.Places.{place-there, without_at-place, IsDistinct-without, kept_after}
use Rattle.eip_exchange.proofs.headers.Headers.remove.Goals as goal

pub invariant_of-self : goal.invariant_of-self
invariant_of-self c =
    let ps = c.self.inside.pairs in
    kept_after (λ (qs : Pairs). IsDistinct same_name (names qs) × (counted qs ≤ 64)) c.take.result ps (without_header c.args.name.now ps) c.take.new.self c.self.invariant
    (IsDistinct-without same_name c.args.name.now ps c.self.invariant.0, omega (arith, c.self.invariant.1, counted-without-le same_name c.args.name.now ps))
    (on_ok_weaker c.take.result
    (λ e. e ∙ ap (λ o. without_at o ps) c.find-place.ensures.place ∙ without_at-place same_name (on_equiv folded nat_list_eq_equiv) c.args.name.now ps c.self.invariant.0)
    c.take.ensures.taken)
    c.take.ensures.err

pub returns-clause-removed : goal.returns-clause-removed
returns-clause-removed c =
    let ps = c.self.inside.pairs in
    on_ok_weaker c.take.result
    (λ e. e ∙ ap (λ o. without_at o ps) c.find-place.ensures.place
    ∙ without_at-place same_name (on_equiv folded nat_list_eq_equiv) c.args.name.now ps c.self.invariant.0
    ∙ ap (without_header c.args.name.now) c.self.view_is)
    c.take.ensures.taken

pub returns-clause-there : goal.returns-clause-there
returns-clause-there c =
    let ps = c.self.inside.pairs in
    IfOk-weaker c.take.result (λ there. there ≡ is_some c.find-place.result) (λ there. there ≡ is_some (get_header c.args.name.now c.args.self.now))
    (λ _ e. e ∙ ap is_some c.find-place.ensures.place ∙ place-there same_name c.args.name.now ps ∙ ap (λ qs. is_some (get_header c.args.name.now qs)) c.self.view_is)
    c.take.ensures.there

pub returns-clause-none : goal.returns-clause-none
returns-clause-none c = λ h.
    c.take.ensures.none
    (ap is_some c.find-place.ensures.place ∙ place-there same_name c.args.name.now c.self.inside.pairs
    ∙ ap (λ qs. is_some (get_header c.args.name.now qs)) c.self.view_is ∙ ap is_some h)
