use Rattle.std.proofs.Common.{◌∙◌, ◌++◌, List, ℕ, Bor, map, ap, rules}
use Rattle.eip_pieces.specs.Pieces.{pieces}
use Rattle.eip_pieces.proofs.Cutting.{more_pieces, whole_pieces}
use Rattle.eip_pieces.proofs.token.pieces.Goals as goal

pub loop-piece-preserved : goal.loop-piece-preserved
loop-piece-preserved c = record {
  is_text = search rules;
  so_far = ap (λ (xs : List (Bor (List ℕ))). map (λ x. x.now) xs ++ pieces c.args.token.now c.in-Some.more.now) c.in_ok-push.ensures.items
      ∙ more_pieces c.args.token.now c.requires c.loop-piece.found.items c.in-Some.piece c.in-Some.more c.loop-piece.rest.now (pieces c.args.token.now c.args.text.now) c.in-Some.ensures c.loop-piece.invariant.so_far;
}

pub returns : goal.returns
returns c =
    ap (λ (xs : List (Bor (List ℕ))). map (λ x. x.now) xs) c.in_ok-push-2.ensures.items
    ∙ whole_pieces c.args.token.now c.loop-piece.found.items c.loop-piece.rest (pieces c.args.token.now c.args.text.now) c.in_default.ensures c.loop-piece.invariant.so_far
