-- Worked lines of a dump.
use Rattle.std.specs.Prelude.{◌≡◌, ℕ, [], ◌∷◌, codes, refl, Some, None}
use Rattle.std.specs.Fmt.{digits}
use Rattle.eip_text.specs.Escapes.{quoted, escaped}
use Rattle.eip_exchange.specs.declared.end.End.TheVariants as end
use Rattle.eip_frames.specs.declared.answer.Answer.TheVariants as reply
use Rattle.eip_frames.specs.declared.answer.Completion.TheVariants as completion
use Rattle.eip_ledger.specs.declared.entry.Entry.{Entry}
use Rattle.eip_ledger.specs.declared.entry.Kind.{Kind}
use Rattle.eip_ledger.specs.declared.entry.Kind.TheVariants as kind
use Rattle.eip_dump.specs.Lines.{entry_text}
use Rattle.eip_dump.specs.Dump.{first_text}

abbrev of : ℕ → Kind → Entry
of w k = record { worker = w; kind = k }

pub row-pull : entry_text (of 0 (kind.Pull 0)) ≡ codes "0 pull 0\n"
unfolding entry_text digits
row-pull = refl

pub row-accept : entry_text (of 0 (kind.Accept 0 (codes "1") (record { body = codes "a\n"; headers = (codes "h", codes "\"") ∷ []; properties = [] }))) ≡ codes "0 accept 0 \"1\" \"a\\n\" 1 \"h\" \"\\\"\" 0\n"
unfolding entry_text quoted escaped digits
row-accept = refl

pub row-closed : entry_text (of 3 (kind.Answer 12 (reply.Closed 2 completion.Timeout 13))) ≡ codes "3 answer 12 closed 2 timeout 13\n"
unfolding entry_text digits
row-closed = refl

pub row-joined : entry_text (of 0 (kind.Answer 1 (reply.Joined (record { end = end.Failed (record { kind = codes "K"; text = [] }); message = record { body = codes "b"; headers = []; properties = [] } } ∷ [])))) ≡ codes "0 answer 1 joined 1 failed \"K\" \"\" \"b\" 0 0\n"
unfolding entry_text quoted escaped digits
row-joined = refl

pub row-first : first_text (record { workers = 0; turns = 100000; count = Some 16 }) ≡ codes "eip-journal 2 0 100000 16\n"
unfolding first_text digits
row-first = refl

pub row-old : first_text (record { workers = 0; turns = 100000; count = None }) ≡ codes "eip-journal 1 0 100000\n"
unfolding first_text digits
row-old = refl
