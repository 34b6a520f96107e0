-- The parts so far, as the bodies are taken one by one.
use Rattle.std.proofs.Common.{◌≡◌, ℕ, suc, List, [], ◌∷◌, ◌++◌, length, sym, ap, ◌∙◌, arith, append_assoc, length-append, append-nil}
use Rattle.eip_exchange.specs.declared.message.Message.{Message}
use Rattle.eip_splitter.specs.Parts.{part, parts_from}

-- one more part, with the body that stood first among the rest
pub more_parts : (m : Message) (n : ℕ) (ps qs total : List Message) (b : List ℕ) (rest bs : List (List ℕ)) → rest ≡ b ∷ bs → qs ≡ ps ++ part m n (length ps) b ∷ []
    → ps ++ parts_from m n (length ps) rest ≡ total → qs ++ parts_from m n (length qs) bs ≡ total
more_parts m n ps qs total b rest bs r q h =
    let long : length qs ≡ suc (length ps) = omega (arith, ap length q, length-append ps (part m n (length ps) b ∷ [])) in
    ap (λ (xs : List Message). xs ++ parts_from m n (length qs) bs) q
    ∙ ap (λ (k : ℕ). (ps ++ part m n (length ps) b ∷ []) ++ parts_from m n k bs) long
    ∙ append_assoc ps (part m n (length ps) b ∷ []) (parts_from m n (suc (length ps)) bs)
    ∙ ap (λ (xs : List (List ℕ)). ps ++ parts_from m n (length ps) xs) (sym r) ∙ h

-- no body is left
pub all_parts : (m : Message) (n k : ℕ) (ps total : List Message) (rest : List (List ℕ)) → length rest ≡ 0 → ps ++ parts_from m n k rest ≡ total → ps ≡ total
all_parts m n k ps total [] e h = sym (append-nil ps) ∙ h
all_parts m n k ps total (b ∷ bs) e h = absurd (omega arith)
