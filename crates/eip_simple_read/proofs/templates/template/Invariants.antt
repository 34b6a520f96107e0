use Rattle.std.proofs.Common.{◌≡◌, ◌≤◌, length}
use denote.Text.{Utf8}
use denote.Shadow.{shadow}
use Rattle.eip_simple_read.specs.Reading as spec
use Rattle.eip_simple_read.proofs.TemplateSteps.{with_front}
use Rattle.eip_simple_read.proofs.templates.template.Given as goal

abbrev pub invariant-loop-front : goal.invariant-loop-front
invariant-loop-front l = record {
  is_text : shadow (Utf8 l.rest);
  shorter : length l.rest ≤ length l.text;
  so_far : with_front l.parts.items (spec.template l.after 0 l.rest) ≡ spec.template l.after 0 l.text;
}

abbrev pub decreases-loop-front : goal.decreases-loop-front
decreases-loop-front l = length l.rest
