-- Laws of what readings and writings do to known bytes.
use Rattle.std.proofs.Common.{ℕ, ◌≡◌, ◌+◌, ◌<◌, ◌≤◌, List, [], ◌++◌, Option, Some, None, refl, sym, ap, ◌∙◌, arith, length, take, drop, append_assoc, append-nil, IfSome}
use Rattle.std.proofs.lemmas.Bool.{lt-leb, le-leb}
use Rattle.std.proofs.lemmas.List.{length-append, take-append-drop}
use Rattle.std.specs.Io.KnownBytes.{Consumes, Appends, IsAtEnd}
use Rattle.eip_endpoint.specs.declared.files.FileRead.TheVariants.{Bytes, TooLong}
use Rattle.eip_endpoint.specs.Files.{read_of}

pub Consumes-nothing : (o : Option (List ℕ)) → Consumes o o []
Consumes-nothing None = tt
Consumes-nothing (Some xs) = refl

-- what two readings took in a row
pub Consumes-trans : (o p q : Option (List ℕ)) (xs ys zs : List ℕ) → Consumes o p xs → Consumes p q ys → zs ≡ xs ++ ys → Consumes o q zs
Consumes-trans None p q xs ys zs h k e = tt
Consumes-trans (Some os) None q xs ys zs h k e = absurd h
Consumes-trans (Some os) (Some ps) None xs ys zs h k e = absurd k
Consumes-trans (Some os) (Some ps) (Some qs) xs ys zs h k e = h ∙ ap (λ bs. xs ++ bs) k ∙ sym (append_assoc xs ys qs) ∙ ap (λ bs. bs ++ qs) (sym e)

-- what two writings added in a row
pub Appends-trans : (o p q : Option (List ℕ)) (xs ys : List ℕ) → Appends o p xs → Appends p q ys → Appends o q (xs ++ ys)
Appends-trans None p q xs ys h k = tt
Appends-trans (Some os) None q xs ys h k = absurd h
Appends-trans (Some os) (Some ps) None xs ys h k = absurd k
Appends-trans (Some os) (Some ps) (Some qs) xs ys h k = k ∙ ap (λ bs. bs ++ ys) h ∙ append_assoc os xs ys

-- the front that was written, and behind it what one more writing took of the rest
pub written-on : (o p q : Option (List ℕ)) (bytes front rest more : List ℕ) (n : ℕ) → bytes ≡ front ++ rest → Appends o p front → Appends p q (take n rest) → more ≡ drop n rest
    → (x : List ℕ) × (bytes ≡ x ++ more) × Appends o q x
written-on o p q bytes front rest more n cut h k e =
    let whole : bytes ≡ (front ++ take n rest) ++ more = rw (cut, e, append_assoc front (take n rest) (drop n rest), take-append-drop n rest) refl in
    (front ++ take n rest, whole, Appends-trans o p q front (take n rest) h k)

-- more bytes came than the limit, so the reader had more
pub read-longer : (o p : Option (List ℕ)) (bytes : List ℕ) (limit : ℕ) → Consumes o p bytes → limit < length bytes → IfSome o (λ all. TooLong ≡ read_of limit (Some all))
read-longer None p bytes limit h longer = tt
read-longer (Some all) None bytes limit h longer = absurd h
read-longer (Some all) (Some left) bytes limit h longer =
    let size : length all ≡ length bytes + length left = ap length h ∙ length-append bytes left in
    rw (lt-leb (length all) limit (omega (arith, size, longer))) refl

-- all bytes that the reader had came, and are within the limit
pub read-whole : (o p : Option (List ℕ)) (bytes : List ℕ) (limit : ℕ) → Consumes o p bytes → IsAtEnd p → length bytes ≤ limit → IfSome o (λ all. Bytes bytes ≡ read_of limit (Some all))
read-whole None p bytes limit h ended within = tt
read-whole (Some all) None bytes limit h ended within = absurd h
read-whole (Some all) (Some left) bytes limit h ended within =
    let whole : all ≡ bytes = h ∙ ap (λ bs. bytes ++ bs) ended ∙ append-nil bytes in
    rw (whole, le-leb (length bytes) limit within) refl
