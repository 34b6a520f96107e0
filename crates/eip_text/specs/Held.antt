-- How the bytes of a text are kept.
use Rattle.std.specs.Prelude.{ℕ, List, string_bytes}
use Rattle.eip_text.specs.declared.text.Held.{Held}
use Rattle.eip_text.specs.declared.text.Held.TheVariants as held

-- the bytes, wherever they lie
abbrev pub held_bytes : Held → List ℕ
held_bytes (held.Short s) = s.bytes
held_bytes (held.Long s) = string_bytes s
