-- A group number is its place among all groups.
use Rattle.std.proofs.Common.{◌≡◌, ◌≢◌, ℕ, ◌+◌, ◌≤◌, Bool, ◌==◌, List, [], ◌∷◌, length, Option, Some, None, arith, eq-eqb, inl, inr}
use Rattle.std.proofs.lemmas.Bool.{cases_Bool, eqb-true}
use Rattle.eip_frames.specs.declared.answer.Answer.{Answer as Reply}
use Rattle.eip_frames.specs.declared.answer.Answer.TheVariants as reply
use Rattle.eip_frames.specs.declared.request.Request.{Request}
use Rattle.eip_frames.specs.declared.request.Request.TheVariants as request
use Rattle.eip_frames.specs.declared.answer.Completion.{Completion}
use Rattle.eip_ledger.specs.declared.entry.Kind.{Kind}
use Rattle.eip_ledger.specs.declared.entry.Kind.TheVariants.{Answer, Tick, Force}
use Rattle.eip_history.specs.Plan.{Plan}
use Rattle.eip_history.specs.Own.{Past, numbered}
use Rattle.eip_history.specs.Groups.{Group, is_forced, Arrival, closed_by, is_due, put_group, arrived, is_for}
use Rattle.eip_history.specs.Births.{Asked, Story, story, groups, asked_of, grouped_by, grouped_for, grouped, arrival_of}

-- the groups have the numbers from n on
abbrev pub GroupsFrom : ℕ → List Group → Type 0
GroupsFrom n [] = Unit {0}
GroupsFrom n (g ∷ gs) = (g.number ≡ n) × GroupsFrom (n + 1) gs

pub arrived-least : (n : ℕ) (gs : List Group) (a : ℕ) (key : List ℕ) (p : Arrival) → GroupsFrom n gs → n ≤ (arrived n gs a key p).number
arrived-least n [] a key p ns = omega arith
arrived-least n (g ∷ gs) a key p ns =
    let ih = arrived-least (n + 1) gs a key p ns.1 in
    elim (cases_Bool (is_for a key g)) [ inl t ↦ rw t (omega (arith, ns.0)) | inr f ↦ rw f (omega (arith, ih)) ]

arrived-most : (n : ℕ) (gs : List Group) (a : ℕ) (key : List ℕ) (p : Arrival) → GroupsFrom n gs → (arrived n gs a key p).number ≤ n + length gs
arrived-most n [] a key p ns = omega arith
arrived-most n (g ∷ gs) a key p ns =
    let ih = arrived-most (n + 1) gs a key p ns.1 in
    elim (cases_Bool (is_for a key g)) [ inl t ↦ rw t (omega (arith, ns.0)) | inr f ↦ rw f (omega (arith, ih)) ]

put-numbered : (n : ℕ) (g : Group) (gs : List Group) → GroupsFrom n gs → n ≤ g.number → g.number ≤ n + length gs → GroupsFrom n (put_group g gs)
put-numbered n g [] ns l m = (omega (arith, l, m), tt)
put-numbered n g (h ∷ gs) ns l m = elim (cases_Bool (h.number == g.number)) [
  | inl t ↦ (let e = eqb-true h.number g.number t in rw t (omega (arith, e, ns.0), ns.1))
  | inr f ↦ (let ne : h.number ≢ g.number = λ e. let k = eq-eqb h.number g.number e in
      cc in rw f (ns.0, put-numbered (n + 1) g gs ns.1 (omega (arith, ne, l, ns.0)) (omega (arith, m))))
]

closed-numbered : (c : Completion) (p : Group → Bool) (n : ℕ) (gs : List Group) → GroupsFrom n gs → GroupsFrom n (closed_by c p gs)
closed-numbered c p n [] ns = tt
closed-numbered c p n (g ∷ gs) ns =
    elim (cases_Bool (p g)) [ inl t ↦ rw t (ns.0, closed-numbered c p (n + 1) gs ns.1) | inr f ↦ rw f (ns.0, closed-numbered c p (n + 1) gs ns.1) ]

grouped-for : (t : Story) (past : Past) (k : Asked) (q : Request) (a : Reply) → GroupsFrom 1 t.groups → GroupsFrom 1 (grouped_for t past k q a)
grouped-for t past k (request.Arrive a key m) (reply.Arrived n) ns =
    put-numbered 1 _ t.groups ns (arrived-least 1 t.groups a key (arrival_of past k m) ns) (arrived-most 1 t.groups a key (arrival_of past k m) ns)
grouped-for t past k (request.Arrive a key m) (reply.Closed g c n) ns =
    put-numbered 1 _ t.groups ns (arrived-least 1 t.groups a key (arrival_of past k m) ns) (arrived-most 1 t.groups a key (arrival_of past k m) ns)
grouped-for t past k _ _ ns = ns

grouped-by : (t : Story) (past : Past) (o : Option Asked) (a : Reply) → GroupsFrom 1 t.groups → GroupsFrom 1 (grouped_by t past o a)
grouped-by t past None a ns = ns
grouped-by t past (Some k) a ns = grouped-for t past k k.request a ns

grouped-numbered : (s : Plan) (t : Story) (past : Past) (k : Kind) → GroupsFrom 1 t.groups → GroupsFrom 1 (grouped s t past k)
grouped-numbered s t past (Answer x a) ns = grouped-by t past (asked_of s past (numbered t.births x)) a ns
grouped-numbered s t past (Tick now) ns = closed-numbered _ (is_due s now) 1 t.groups ns
grouped-numbered s t past Force ns = closed-numbered _ (is_forced s) 1 t.groups ns
grouped-numbered s t past _ ns = ns

pub groups-numbered : (s : Plan) (past : Past) → GroupsFrom 1 (groups s past)
unfolding story
groups-numbered s [] = tt
groups-numbered s (e ∷ past) = grouped-numbered s (story s past) past e.kind (groups-numbered s past)
