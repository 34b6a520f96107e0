-- Fan-outs by whether there are seeds.
use Rattle.std.proofs.Common.{◌≡◌, true, false, List, [], ◌∷◌, length, ◌==◌, refl, sym, ◌∙◌, arith}
use Rattle.std.proofs.lemmas.Bool.{ne_eqb, false≢true}
use Rattle.eip_exchange.specs.declared.message.Message.{Message}
use Rattle.eip_exchange.specs.declared.setting.Strategy.{Strategy}
use Rattle.eip_route.specs.declared.step.Fan.{Fan}
use Rattle.eip_frames.specs.declared.request.Seed.{Seed}
use Rattle.eip_frames.specs.declared.request.Request.TheVariants as request
use Rattle.eip_progress.specs.declared.tried.Progress.TheVariants as progress
use Rattle.eip_progress.specs.declared.tried.Tried.TheVariants as tried
use Rattle.eip_progress.specs.FirstTry.{fan_tried}
use Rattle.eip_progress.specs.Answered.{next_seed}
use Rattle.eip_progress.specs.Tries.{asked}

pub none : (fan : Fan) (seeds : List Seed) (m : Message) → (length seeds == 0) ≡ true → fan_tried fan seeds m ≡ tried.Goes m
none fan [] m h = refl
none fan (x ∷ xs) m h = absurd (false≢true (sym (ne_eqb (length (x ∷ xs)) 0 (λ e. omega arith)) ∙ h))

pub at_once : (fan : Fan) (seeds : List Seed) (m : Message) → (length seeds == 0) ≡ false → fan.parallel ≡ true → fan_tried fan seeds m ≡ asked progress.SpawningAll (request.Spawn seeds) 0 m
at_once fan [] m h p = cc
at_once fan (x ∷ xs) m h p = rw p refl

pub in_turn : (fan : Fan) (s : Strategy) (seeds : List Seed) (m : Message) → (length seeds == 0) ≡ false → fan.parallel ≡ false → fan_tried fan seeds m ≡ next_seed s [] 0 seeds m
in_turn fan s [] m h p = cc
in_turn fan s (x ∷ xs) m h p = rw p refl
