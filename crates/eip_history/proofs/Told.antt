-- What one more entry does to births and to own entries.
use Rattle.std.proofs.Common.{◌≡◌, ℕ, suc, ◌+◌, true, false, List, [], ◌∷◌, ◌++◌, length, Option, Some, None, refl, sym, ap, ◌∙◌, arith, append_assoc}
use Rattle.std.proofs.lemmas.List.{append-nil}
use Rattle.eip_exchange.specs.declared.birth.Birth.{Birth}
use Rattle.eip_frames.specs.declared.request.Seed.{Seed}
use Rattle.eip_frames.specs.declared.answer.Answer.{Answer as Reply}
use Rattle.eip_frames.specs.declared.answer.Answer.TheVariants as reply
use Rattle.eip_frames.specs.declared.request.Request.{Request}
use Rattle.eip_frames.specs.declared.request.Request.TheVariants.{Offer, Spawn, Arrive}
use Rattle.eip_frames.specs.declared.answer.Completion.{Completion}
use Rattle.eip_ledger.specs.declared.entry.Entry.{Entry}
use Rattle.eip_ledger.specs.declared.entry.Kind.{Kind}
use Rattle.eip_ledger.specs.declared.entry.Kind.TheVariants.{Accept, Answer, Tick, Force}
use Rattle.eip_history.specs.Plan.{Plan}
use Rattle.eip_history.specs.Own.{Past, own, concerns, numbered}
use Rattle.eip_history.specs.Groups.{Group}
use Rattle.eip_history.specs.Births.{Asked, Story, story, births, made_at, made, made_by, made_for, asked_of, part_births, group_births, next_number}
use Rattle.eip_history.specs.Tables.{AreNumberedFrom}

pub own-other : (x : ℕ) (e : Entry) (past : Past) → concerns x e.kind ≡ false → own x (e ∷ past) ≡ own x past
unfolding own
own-other x e past h = rw h refl

pub own-here : (x : ℕ) (e : Entry) (past : Past) → concerns x e.kind ≡ true → own x (e ∷ past) ≡ e ∷ own x past
unfolding own
own-here x e past h = rw h refl

parts-numbered : (n : ℕ) (k : Asked) (i : ℕ) (ds : List Seed) → AreNumberedFrom n (part_births n k i ds)
parts-numbered n k i [] = tt
parts-numbered n k i (d ∷ ds) = (refl, parts-numbered (n + 1) k (i + 1) ds)

groups-numbered : (s : Plan) (n : ℕ) (c : Completion) (gs : List Group) → AreNumberedFrom n (group_births s n c gs)
groups-numbered s n c [] = tt
groups-numbered s n c (g ∷ gs) = (refl, groups-numbered s (n + 1) c gs)

numbers-for : (s : Plan) (t : Story) (past : Past) (k : Asked) (q : Request) (a : Reply) → AreNumberedFrom (length t.births + 1) (made_for s t past k q a)
numbers-for s t past k (Offer q discard m) (reply.Queued n) = (refl, tt)
numbers-for s t past k (Spawn seeds) (reply.Born first count) = parts-numbered (next_number t) k k.at.index seeds
numbers-for s t past k (Arrive b key m) (reply.Closed g c n) = (refl, tt)
numbers-for s t past k _ _ = tt

numbers-by : (s : Plan) (t : Story) (past : Past) (o : Option Asked) (a : Reply) → AreNumberedFrom (length t.births + 1) (made_by s t past o a)
numbers-by s t past None a = tt
numbers-by s t past (Some k) a = numbers-for s t past k k.request a

numbers-made : (s : Plan) (t : Story) (past : Past) (k : Kind) → AreNumberedFrom (length t.births + 1) (made s t past k)
numbers-made s t past (Accept source item m) = (refl, tt)
numbers-made s t past (Answer x a) = numbers-by s t past (asked_of s past (numbered t.births x)) a
numbers-made s t past (Tick now) = groups-numbered s (next_number t) _ _
numbers-made s t past Force = groups-numbered s (next_number t) _ _
numbers-made s t past _ = tt

numbered-append : (n : ℕ) (xs ys : List Birth) → AreNumberedFrom n xs → AreNumberedFrom (n + length xs) ys → AreNumberedFrom n (xs ++ ys)
numbered-append n [] ys a b = let e : n + 0 ≡ n = omega arith in rw e at b
numbered-append n (x ∷ xs) ys a b = (a.0, numbered-append (n + 1) xs ys a.1 (let e : n + suc (length xs) ≡ n + 1 + length xs = omega arith in rw e at b))

-- one more entry's births follow
pub births-more : (s : Plan) (e : Entry) (past : Past) → births s (e ∷ past) ≡ births s past ++ made_at s past e.kind
unfolding story
births-more s e past = refl

pub made-numbered : (s : Plan) (past : Past) (k : Kind) → AreNumberedFrom (length (births s past) + 1) (made_at s past k)
made-numbered s past k = numbers-made s (story s past) past k

pub births-none : (s : Plan) → births s [] ≡ []
unfolding story
births-none s = refl

pub births-numbered : (s : Plan) (past : Past) → AreNumberedFrom 1 (births s past)
births-numbered s [] = rw (births-none s) tt
births-numbered s (e ∷ past) =
    let e1 : length (births s past) + 1 ≡ 1 + length (births s past) = omega arith in
    rw (births-more s e past) (numbered-append 1 (births s past) (made_at s past e.kind) (births-numbered s past) (rw e1 at (made-numbered s past e.kind)))

-- the births of a prefix are a prefix of the births
pub births-prefix : (s : Plan) (behind past : Past) → (more : List Birth) × (births s (behind ++ past) ≡ births s past ++ more)
births-prefix s [] past = ([], sym (append-nil (births s past)))
births-prefix s (e ∷ behind) past =
    let r = births-prefix s behind past in (
      r.0 ++ made_at s (behind ++ past) e.kind,
      births-more s e (behind ++ past)
          ∙ (ap (λ bs. bs ++ made_at s (behind ++ past) e.kind) r.1 ∙ append_assoc (births s past) r.0 (made_at s (behind ++ past) e.kind)),
    )
