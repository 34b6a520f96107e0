-- Laws of the names that a source of files has listed, and of what its pulls give.
use Rattle.std.proofs.Common.{ℕ, ◌≡◌, length, List, [], ◌∷◌, ◌++◌, Option, Some, None, Ok, refl, sym, ap, subst, ◌∙◌, get_or, drop}
use Rattle.std.proofs.Math.ListN.{set}
use Rattle.eip_keyed.specs.Keyed.{Keyed, found, StandsAt}
use Rattle.eip_keyed.proofs.KeyedLaws.{stands-last, found-last, found-at, found-set}
use Rattle.eip_endpoint.specs.Content.{IfTold}
use Rattle.eip_endpoint.specs.Files.{File, IsAscending, AreNamesIn}
use Rattle.eip_endpoint.specs.declared.source.Pulled.{Pulled}
use Rattle.eip_file.specs.Items.{TakesFile}
use Rattle.eip_file.specs.Listings.{shown, IsListing, StaysListed, PulledFile}

-- a listing that was found stays
pub stays-same :
    (folder : List ℕ) (files : Option (List File)) (before after : Option (List (List ℕ))) → after ≡ before → StaysListed folder files before after
stays-same folder files None after e = subst (StaysListed folder files None) (sym e) tt
stays-same folder files (Some names) after e = e

-- one that was made is one
pub stays-made :
    (folder : List ℕ) (files : Option (List File)) (before after : Option (List (List ℕ))) (names : List (List ℕ)) → before ≡ None → after ≡ Some names
    → IsListing folder files names → StaysListed folder files before after
stays-made folder files before after names none some listing =
    subst (λ (b : Option (List (List ℕ))). StaysListed folder files b after) (sym none)
    (subst (λ (a : Option (List (List ℕ))). StaysListed folder files None a) (sym some) listing)

-- a file that is given of the names that are left
pub pulled-given :
    (folder : List ℕ) (files : Option (List File)) (before after : Option (List (List ℕ))) (names rest : List (List ℕ)) (p : Pulled)
    → before ≡ Some names → after ≡ Some rest → TakesFile folder files names p rest → PulledFile folder files before (Ok p) after
pulled-given folder files before after names rest p was now takes = (names, stays-same folder files before (Some names) (sym was), (rest, now, takes))

-- the listing of a URI that had none, behind the others
pub listed-last :
    (folder uri : List ℕ) (files : Option (List File)) (ls now : Keyed (List (List ℕ))) (all names : List (List ℕ)) → found uri ls ≡ None
    → now ≡ ls ++ (uri, names) ∷ [] → names ≡ shown all → IsAscending all → IfTold files (AreNamesIn folder all)
    → StaysListed folder files (found uri ls) (found uri now)
listed-last folder uri files ls now all names none put visible ascending there =
    stays-made folder files (found uri ls) (found uri now) names none (ap (found uri) put ∙ found-last uri ls names none)
    (record { all = all; ascending = ascending; there = there; visible = visible })

-- it stands at its index
pub stands-put :
    (uri : List ℕ) (k : ℕ) (ls now : Keyed (List (List ℕ))) (names : List (List ℕ)) → found uri ls ≡ None → now ≡ ls ++ (uri, names) ∷ [] → length ls ≡ k
    → StandsAt uri k now
stands-put uri k ls now names none put place =
    subst (λ (n : ℕ). StandsAt uri n now) place (subst (λ (xs : Keyed (List (List ℕ))). StandsAt uri (length ls) xs) (sym put) (stands-last uri ls names none))

-- a file that is given of the listing that stands at an index
pub pulled-at :
    (uri folder : List ℕ) (files : Option (List File)) (k : ℕ) (ls : Keyed (List (List ℕ))) (d : List ℕ × List (List ℕ)) (names rest : List (List ℕ)) (count : ℕ)
    (p : Pulled) → d ≡ get_or ls k d → StandsAt uri k ls → names ≡ d.1 → rest ≡ drop count d.1 → TakesFile folder files names p (drop count names)
    → PulledFile folder files (found uri ls) (Ok p) (found uri (set ls k ((get_or ls k d).0, rest)))
pulled-at uri folder files k ls d names rest count p is stands left passed takes =
    let was : found uri ls ≡ Some names = found-at uri k ls d stands ∙ ap (λ (e : List ℕ × List (List ℕ)). Some e.1) (sym is) ∙ ap Some (sym left) in
    let behind : drop count names ≡ rest = ap (drop count) left ∙ sym passed in
    pulled-given folder files (found uri ls) (found uri (set ls k ((get_or ls k d).0, rest))) names rest p was
    (found-set uri ((get_or ls k d).0) k ls d rest stands refl) (subst (λ (r : List (List ℕ)). TakesFile folder files names p r) behind takes)
