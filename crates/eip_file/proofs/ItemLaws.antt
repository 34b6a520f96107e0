-- Laws of what reading files gives.
use Rattle.std.proofs.Common.{ℕ, suc, ◌≡◌, ◌+◌, ◌<◌, List, [], ◌∷◌, ◌++◌, Option, Some, None, sym, ap, subst, ◌∙◌, length, get_or, take, drop, arith}
use Rattle.std.proofs.Math.Seq.{drop-cons, take-suc}
use Rattle.std.proofs.lemmas.List.{take-append-drop}
use Rattle.eip_endpoint.specs.Content.{IfTold}
use Rattle.eip_endpoint.specs.Files.{File}
use Rattle.eip_endpoint.specs.declared.source.Pulled.{Pulled}
use Rattle.eip_endpoint.specs.declared.source.Pulled.TheVariants.{Item, Refused, End}
use Rattle.eip_file.specs.Items.{GivesFile, IsMissing, AreMissing, ReadFile, GivesNext, TakesFile}

missing-append :
    (folder : List ℕ) (ns : List (List ℕ)) (n : List ℕ) (all : List File) → AreMissing folder ns all → IsMissing folder n all → AreMissing folder (ns ++ n ∷ []) all
missing-append folder [] n all before now = (now, tt)
missing-append folder (m ∷ ns) n all before now = (before.0, missing-append folder ns n all before.1 now)

-- one more name whose file is not there
pub missing-next :
    (folder : List ℕ) (files : Option (List File)) (ns : List (List ℕ)) (k : ℕ) (n : List ℕ) → n ≡ get_or ns k n → k < length ns
    → IfTold files (AreMissing folder (take k ns)) → IfTold files (IsMissing folder n) → IfTold files (AreMissing folder (take (k + 1) ns))
missing-next folder None ns k n is below before now = tt
missing-next folder (Some all) ns k n is below before now =
    let one : suc k ≡ k + 1 = omega arith in
    let front : take (k + 1) ns ≡ take k ns ++ n ∷ [] = ap (λ j. take j ns) (sym one) ∙ take-suc ns k n below ∙ ap (λ m. take k ns ++ m ∷ []) (sym is) in
    subst (λ (ms : List (List ℕ)). AreMissing folder ms all) (sym front) (missing-append folder (take k ns) n all before now)

gives-named :
    (folder name : List ℕ) (files : Option (List File)) (p : Pulled) (left rest : List (List ℕ)) → GivesFile folder name files p → left ≡ name ∷ rest
    → GivesNext folder files p left rest
gives-named folder name files (Item i m) left rest h e =
    let is : i ≡ name = h.named.0 in
    (rw is e, subst (λ (n : List ℕ). GivesFile folder n files (Item i m)) (sym is) h)
gives-named folder name files (Refused i c) left rest h e =
    let is : i ≡ name = h.named in
    (rw is e, subst (λ (n : List ℕ). GivesFile folder n files (Refused i c)) (sym is) h)
gives-named folder name files End left rest h e = absurd h.named

-- the first file that is there is given
takes-named :
    (folder : List ℕ) (files : Option (List File)) (ns : List (List ℕ)) (k : ℕ) (n : List ℕ) (p : Pulled) → n ≡ get_or ns k n → k < length ns
    → IfTold files (AreMissing folder (take k ns)) → GivesFile folder n files p → TakesFile folder files ns p (drop (k + 1) ns)
takes-named folder files ns k n p is below before h =
    let one : suc k ≡ k + 1 = omega arith in
    let cut : drop k ns ≡ n ∷ drop (k + 1) ns = drop-cons ns k n below ∙ ap (λ m. m ∷ drop (suc k) ns) (sym is) ∙ ap (λ j. n ∷ drop j ns) one in
    record {
      passed = take k ns;
      left = drop k ns;
      cut = sym (take-append-drop k ns);
      missing = before;
      gives = gives-named folder n files p (drop k ns) (drop (k + 1) ns) h cut;
    }

-- what reading the file of a name gave is taken
pub takes-read :
    (folder : List ℕ) (old files : Option (List File)) (ns : List (List ℕ)) (k : ℕ) (n : List ℕ) (o : Option Pulled) (p : Pulled) → files ≡ old
    → n ≡ get_or ns k n → k < length ns → IfTold old (AreMissing folder (take k ns)) → ReadFile folder n files o → o ≡ Some p
    → TakesFile folder old ns p (drop (k + 1) ns)
takes-read folder old files ns k n None p same is below before read some = absurd (cc some)
takes-read folder old files ns k n (Some q) p same is below before read some =
    let that : q ≡ p = cc in
    let gave : GivesFile folder n files p = subst (λ (x : Pulled). GivesFile folder n files x) that read in
    takes-named folder old ns k n p is below before (subst (λ (f : Option (List File)). GivesFile folder n f p) same gave)

-- or its file is not there
pub missing-read :
    (folder : List ℕ) (old files : Option (List File)) (n : List ℕ) (o : Option Pulled) → files ≡ old → ReadFile folder n files o → o ≡ None
    → IfTold old (IsMissing folder n)
missing-read folder old files n None same read none = subst (λ (f : Option (List File)). IfTold f (IsMissing folder n)) same read
missing-read folder old files n (Some q) same read none = absurd (cc none)
