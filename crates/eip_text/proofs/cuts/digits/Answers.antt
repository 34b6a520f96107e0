use Rattle.std.proofs.Common.{◌≡◌, ◌≤◌, ◌∙◌, ℕ, List, true, sym, subst, refl, arith, add-one, get_or}
use Rattle.std.proofs.lemmas.Bool.{and_from, le-leb}
use Rattle.std.proofs.lemmas.Str.{IsCharBoundary-start, IsCharBoundary-after_ascii}
use Rattle.eip_text.specs.Cuts.{is_digit}
use Rattle.eip_text.proofs.Cutting.{one_more}
use Rattle.eip_text.proofs.cuts.digits.Goals as goal

pub loop-end-init : goal.loop-end-init
loop-end-init c = record { within = omega arith; boundary = IsCharBoundary-start c.args.text.now c.utf8.text; so_far = refl }

pub loop-end-preserved : goal.loop-end-preserved
loop-end-preserved c =
    let h = c.if-is_ascii_digit.ensures.cases in
    let same = c.as_bytes-bytes.ensures.value in
    let text = c.args.text.now in
    let end = c.loop-end.end in
    let byte : (48 ≤ get_or text end 0) × (get_or text end 0 ≤ 57) = subst (λ (t : List ℕ). (48 ≤ get_or t end 0) × (get_or t end 0 ≤ 57)) same h in
    let digit : is_digit (get_or text end 0) ≡ true = and_from _ _ (le-leb 48 (get_or text end 0) byte.0) (le-leb (get_or text end 0) 57 byte.1) in
    record {
      within = omega arith;
      boundary = IsCharBoundary-after_ascii text end c.utf8.text (omega arith) (omega arith);
      so_far = rw add-one (sym (one_more text end (omega arith) digit) ∙ c.loop-end.invariant.so_far);
    }
