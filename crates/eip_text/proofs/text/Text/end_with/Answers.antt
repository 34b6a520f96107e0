use Rattle.std.proofs.Common.{◌≡◌, ◌∙◌, ap, sym, subst, arith}
use Rattle.std.specs.Prelude.{string_bytes}
use Rattle.std.specs.Str.{IsUtf8}
use Rattle.eip_text.specs.Held.{held_bytes}
use Rattle.eip_text.proofs.Boundaries.{split_start}
use Rattle.eip_text.proofs.text.Text.end_with.Goals as goal

pub end_short-requires-clause-split : goal.end_short-requires-clause-split
end_short-requires-clause-split c =
    let same : c.in-Short.short.bytes ≡ c.args.self.now = ap held_bytes (sym c.in-Short.is) ∙ c.self.view_is in
    split_start c.in-Short.short.bytes c.args.self.now c.args.end same (subst IsUtf8 (c.bytes.ensures.value ∙ sym same) c.bytes.ensures.utf8) (omega (arith, c.requires.room)) c.requires.start

pub end_long-requires-clause-split : goal.end_long-requires-clause-split
end_long-requires-clause-split c =
    let same : string_bytes c.in-Long.string ≡ c.args.self.now = ap held_bytes (sym c.in-Long.is) ∙ c.self.view_is in
    split_start (string_bytes c.in-Long.string) c.args.self.now c.args.end same (subst IsUtf8 (c.bytes.ensures.value ∙ sym same) c.bytes.ensures.utf8) (omega (arith, c.requires.room)) c.requires.start
