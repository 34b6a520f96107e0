-- What inlets did by more entries and answers.
use Rattle.std.proofs.Common.{◌≡◌, ℕ, List, [], ◌∷◌, ◌++◌, Option, Some, None, refl, sym, ap, ◌∙◌, append_assoc, append-nil, arith}
use Rattle.std.proofs.lemmas.Grind.{common_steps}
use Rattle.eip_ledger.specs.declared.entry.Entry.{Entry}
use Rattle.eip_ledger.specs.declared.entry.Kind.{Kind}
use Rattle.eip_ledger.specs.declared.entry.Kind.TheVariants.{Accept, Refuse, SourceEnd, SourceFault}
use Rattle.eip_endpoint.specs.declared.source.Pulled.{Pulled as Gift}
use Rattle.eip_endpoint.specs.declared.source.Pulled.TheVariants.{Item, Refused, End}
use Rattle.eip_endpoint.specs.Inlets.{InletView, InletAct, Gave, Failed, InletsGrew, commits_at}
use Rattle.eip_endpoint.specs.Outside.{Answered, Doors, commits, acts_by}
use Rattle.eip_endpoint.proofs.InletLaws.{InletsGrew-trans, commits_at-append}
use Rattle.eip_endpoint.proofs.OutsideLaws.{commits-append, commits-give, InletsGrew-mix}
use Rattle.eip_history.specs.Own.{Past}
use Rattle.eip_owners.specs.Acts.{refusal_of, pulls, pulls_in, inlet_acts}

pub pulls-none : (d : Doors) → pulls d [] ≡ []
unfolding pulls
pulls-none d = refl

pub pulls-more : (d : Doors) (e : Entry) (behind : Past) → pulls d (e ∷ behind) ≡ pulls d behind ++ pulls_in d e.kind
unfolding pulls
pulls-more d e behind = refl

pub pulls-append : (d : Doors) (p q : Past) → pulls d (p ++ q) ≡ pulls d q ++ pulls d p
pulls-append d [] q = sym (append-nil (pulls d q)) ∙ ap (λ xs. pulls d q ++ xs) (sym (pulls-none d))
pulls-append d (e ∷ p) q =
    pulls-more d e (p ++ q) ∙ (ap (λ xs. xs ++ pulls_in d e.kind) (pulls-append d p q)
    ∙ (append_assoc (pulls d q) (pulls d p) (pulls_in d e.kind) ∙ ap (λ xs. pulls d q ++ xs) (sym (pulls-more d e p))))

-- what pulls came to tells no inlet of an end
door-tells : (k : ℕ) (u v : List ℕ) (o : Option ℕ) (p : Gift) → commits_at k u (acts_by o v (Gave p ∷ [])) ≡ []
door-tells k u v None p = refl
door-tells k u v (Some i) p = grind (arith, common_steps)

fault-tells : (k : ℕ) (u v : List ℕ) (o : Option ℕ) → commits_at k u (acts_by o v (Failed ∷ [])) ≡ []
fault-tells k u v None = refl
fault-tells k u v (Some i) = grind (arith, common_steps)

pub kind-tells : (d : Doors) (k : ℕ) (u : List ℕ) (n : Kind) → commits_at k u (pulls_in d n) ≡ []
kind-tells d k u (Accept t item m) = door-tells k u (d.uri t) (d.inlet t) (Item item m)
kind-tells d k u (Refuse t item c) = door-tells k u (d.uri t) (d.inlet t) (Refused item (refusal_of c))
kind-tells d k u (SourceEnd t) = door-tells k u (d.uri t) (d.inlet t) End
kind-tells d k u (SourceFault t) = fault-tells k u (d.uri t) (d.inlet t)
kind-tells d k u _ = refl

pub pulls-tell : (d : Doors) (p : Past) (k : ℕ) (u : List ℕ) → commits_at k u (pulls d p) ≡ []
pulls-tell d [] k u = ap (commits_at k u) (pulls-none d)
pulls-tell d (e ∷ p) k u =
    ap (commits_at k u) (pulls-more d e p) ∙ (commits_at-append k u (pulls d p) (pulls_in d e.kind)
    ∙ (ap (λ xs. xs ++ commits_at k u (pulls_in d e.kind)) (pulls-tell d p k u) ∙ kind-tells d k u e.kind))

-- acts of inlets follow acts of inlets
pub acts-follow : (d : Doors) (p q : Past) (vs ws : List Answered) (more : List InletAct) (i j k : List InletView) → ((n : ℕ) (u : List ℕ) → commits_at n u more ≡ [])
    → InletsGrew 0 (inlet_acts d q vs) i j → InletsGrew 0 (more ++ commits d ws) j k → pulls d (p ++ q) ≡ pulls d q ++ more
    → InletsGrew 0 (inlet_acts d (p ++ q) (vs ++ ws)) i k
acts-follow d p q vs ws more i j k tells first second are =
    rw (are, commits-append d vs ws)
    (InletsGrew-mix 0 (pulls d q) (commits d vs) more (commits d ws) i k (commits-give d vs) tells (InletsGrew-trans 0 _ _ i j k first second))
