-- What holds of each group that a past has made.
use Rattle.std.proofs.Common.{◌≡◌, ◌≢◌, ℕ, zero, suc, ◌+◌, ◌<◌, ◌≤◌, ◌==◌, ◌&&◌, Bool, true, false, cond, List, [], ◌∷◌, ◌++◌, length, filter, Option, Some, None, refl, sym, ap, subst, ◌∙◌, arith, append_assoc, length-append, eq-eqb}
use Rattle.std.specs.List.{slice_get, find}
use Rattle.std.specs.Prelude.{bytes_eq}
use Rattle.std.proofs.lemmas.Bool.{and_parts, eqb-true}
use Rattle.std.proofs.lemmas.Slice.Eq.{bytes_eq-Decides}
use Rattle.eip_exchange.specs.declared.birth.Birth.{Birth}
use Rattle.eip_exchange.specs.declared.message.Message.{Message}
use Rattle.eip_frames.specs.declared.answer.Answer.{Answer as Reply}
use Rattle.eip_frames.specs.declared.answer.Answer.TheVariants as reply
use Rattle.eip_frames.specs.declared.answer.Completion.{Completion}
use Rattle.eip_frames.specs.declared.answer.Completion.TheVariants as by
use Rattle.eip_frames.specs.declared.request.Request.{Request}
use Rattle.eip_frames.specs.declared.request.Request.TheVariants.{Arrive}
use Rattle.eip_ledger.specs.declared.entry.Kind.{Kind}
use Rattle.eip_ledger.specs.declared.entry.Kind.TheVariants.{Answer, Tick, Force}
use Rattle.eip_history.specs.Plan.{Plan, GroupRule, Added, Gives, Faults}
use Rattle.eip_history.specs.Own.{Past, numbered}
use Rattle.eip_history.specs.Groups.{Arrival, Group, is_open, is_for, arrived, put_group, labelled, or_old, folded, or_empty, folded_of, message_of, is_size, cause_at, is_due, is_forced, closed_by}
use Rattle.eip_history.specs.Births.{Asked, story, births, groups, asked, arrival_of, group_birth, group_births, grouped, grouped_by, grouped_for, made_at, made_by, made_for}
use Rattle.eip_history.specs.Rules.{KeepsRules, May, Content, message_so_far, added_at, is_fault, group_at}
use Rattle.eip_history.proofs.Clock.{EachGroup}
use Rattle.eip_history.proofs.Unborn.{legal-tail, legal-may, numbered-left, slice-right}
use Rattle.eip_history_laws.specs.Folds.{FoldsFrom}
use Rattle.eip_history_laws.specs.Statements.{GroupsFold, GroupsWithin, ClosedGroupsRun}

-- ---- each group

group-at : (P : Group → Type 0) (gs : List Group) (i : ℕ) (g : Group) → EachGroup P gs → slice_get gs i ≡ Some g → P g
group-at P [] i g a h = absurd (cc h)
group-at P (k ∷ gs) zero g a h = let e : k ≡ g = cc in subst P e a.0
group-at P (k ∷ gs) (suc i) g a h = group-at P gs i g a.1 h

group-numbered : (P : Group → Type 0) (gs : List Group) (n : ℕ) (g : Group) → EachGroup P gs → numbered gs n ≡ Some g → P g
group-numbered P gs zero g a h = absurd (cc h)
group-numbered P gs (suc i) g a h = group-at P gs i g a h

each-all : (P Q : Group → Type 0) (gs : List Group) → ((g : Group) → P g → Q g) → EachGroup P gs → EachGroup Q gs
each-all P Q [] h a = tt
each-all P Q (g ∷ gs) h a = (h g a.0, each-all P Q gs h a.1)

each-put : (P : Group → Type 0) (g : Group) (gs : List Group) → P g → EachGroup P gs → EachGroup P (put_group g gs)
each-put P g [] p a = (p, tt)
each-put P g (h ∷ gs) p a =
    elim (h.number == g.number) as (λ v. EachGroup P (cond v (g ∷ gs) (h ∷ put_group g gs))) [ true ↦ (p, a.1) | false ↦ (a.0, each-put P g gs p a.1) ]

each-closed : (P : Group → Type 0) (c : Completion) (p : Group → Bool) (gs : List Group) → ((g : Group) → P g → P (record g { closed = Some c }))
    → EachGroup P gs → EachGroup P (closed_by c p gs)
each-closed P c p [] closes a = tt
each-closed P c p (g ∷ gs) closes a =
    let rest = each-closed P c p gs closes a.1 in
    elim (p g) as (λ v. EachGroup P (cond v (record g { closed = Some c }) g ∷ closed_by c p gs)) [ true ↦ (closes g a.0, rest) | false ↦ (a.0, rest) ]

-- ---- the group of an arrival

-- it is the first of a new group, where none is open for its key
arrived-new : (n : ℕ) (gs : List Group) (a : ℕ) (key : List ℕ) (p : Arrival) → find (is_for a key) gs ≡ None
    → (i : ℕ) × (arrived n gs a key p ≡ (record { number = i; aggregator = a; key = key; parts = p ∷ []; closed = None }))
arrived-new n [] a key p h = (n, refl)
arrived-new n (g ∷ gs) a key p h = by_test (is_for a key g) refl (λ e. arrived-new (n + 1) gs a key p e)
  where
    by_test : (v : Bool) → is_for a key g ≡ v
        → (find (is_for a key) gs ≡ None → (i : ℕ) × (arrived (n + 1) gs a key p ≡ (record { number = i; aggregator = a; key = key; parts = p ∷ []; closed = None })))
        → (i : ℕ) × (arrived n (g ∷ gs) a key p ≡ (record { number = i; aggregator = a; key = key; parts = p ∷ []; closed = None }))
    by_test true t ih = absurd (let e = rw t at h in cc e)
    by_test false t ih = let r = ih (rw t at h) in (r.0, rw t r.1)

-- else it joins the open one
arrived-old : (n : ℕ) (gs : List Group) (a : ℕ) (key : List ℕ) (p : Arrival) (g : Group) → find (is_for a key) gs ≡ Some g
    → arrived n gs a key p ≡ (record g { parts = g.parts ++ p ∷ [] })
arrived-old n [] a key p g h = absurd (cc h)
arrived-old n (k ∷ gs) a key p g h = by_test (is_for a key k) refl (λ e. arrived-old (n + 1) gs a key p g e)
  where
    by_test : (v : Bool) → is_for a key k ≡ v → (find (is_for a key) gs ≡ Some g → arrived (n + 1) gs a key p ≡ (record g { parts = g.parts ++ p ∷ [] }))
        → arrived n (k ∷ gs) a key p ≡ (record g { parts = g.parts ++ p ∷ [] })
    by_test true t ih = let e : Some k ≡ Some g = rw t at h in let same : k ≡ g = cc e in rw (t, same) refl
    by_test false t ih = rw t (ih (rw t at h))

-- that one is open and of this aggregator and key
pub record IsOld (P : Group → Type 0) (a : ℕ) (key : List ℕ) (g : Group) : Type 0 where
  pub holds : P g
  pub open_still : is_open g ≡ true
  pub of_aggregator : g.aggregator ≡ a
  pub of_key : g.key ≡ key

old-is : (P : Group → Type 0) (gs : List Group) (a : ℕ) (key : List ℕ) (g : Group) → EachGroup P gs → find (is_for a key) gs ≡ Some g → IsOld P a key g
old-is P [] a key g each h = absurd (cc h)
old-is P (k ∷ gs) a key g each h = by_test (is_for a key k) refl (λ e. old-is P gs a key g each.1 e)
  where
    by_test : (v : Bool) → is_for a key k ≡ v → (find (is_for a key) gs ≡ Some g → IsOld P a key g) → IsOld P a key g
    by_test true t ih =
        let e : Some k ≡ Some g = rw t at h in
        let same : k ≡ g = cc e in
        let both = and_parts (is_open k) ((k.aggregator == a) && bytes_eq k.key key) t in
        let own = and_parts (k.aggregator == a) (bytes_eq k.key key) both.1 in
        subst (IsOld P a key) same
        (record { holds = each.0; open_still = both.0; of_aggregator = eqb-true k.aggregator a own.0; of_key = (bytes_eq-Decides k.key key).0 own.1 })
    by_test false t ih = ih (rw t at h)

-- ---- what an entry that keeps its rule leaves of each group

module _ (s : Plan) (P : Group → Type 0)
    (closes : (g : Group) (c : Completion) → P g → P (record g { closed = Some c }))
    (joins : (past : Past) (k : Asked) (a : ℕ) (key : List ℕ) (m : Message) (n : ℕ) → EachGroup P (groups s past) → Content s past k (Arrive a key m) (reply.Arrived n)
    → P (group_at s past k a key m))
    (ends : (past : Past) (k : Asked) (a : ℕ) (key : List ℕ) (m : Message) (g : ℕ) (c : Completion) (n : ℕ) → EachGroup P (groups s past)
    → Content s past k (Arrive a key m) (reply.Closed g c n) → P (record (group_at s past k a key m) { closed = Some c })) where
  keeps-for : (past : Past) (k : Asked) (q : Request) (r : Reply) → EachGroup P (groups s past) → Content s past k q r → EachGroup P (grouped_for (story s past) past k q r)
  keeps-for past k (Arrive a key m) (reply.Arrived n) each c = each-put P (group_at s past k a key m) (groups s past) (joins past k a key m n each c) each
  keeps-for past k (Arrive a key m) (reply.Closed g d n) each c =
      each-put P (record (group_at s past k a key m) { closed = Some d }) (groups s past) (ends past k a key m g d n each c) each
  keeps-for past k _ _ each c = each

  keeps-in : (limit w : ℕ) (past : Past) (k : Kind) → EachGroup P (groups s past) → May s limit past w k → EachGroup P (grouped s (story s past) past k)
  keeps-in limit w past (Answer x r) each may =
      subst (λ o. EachGroup P (grouped_by (story s past) past o r)) (sym may.asked_is) (keeps-for past may.asks may.asks.request r each may.content)
  keeps-in limit w past (Tick t) each may = each-closed P by.Timeout (is_due s t) (groups s past) (λ g h. closes g by.Timeout h) each
  keeps-in limit w past Force each may = each-closed P by.Force (is_forced s) (groups s past) (λ g h. closes g by.Force h) each
  keeps-in limit w past _ each may = each

  pub groups-keep : (w limit : ℕ) (past : Past) → KeepsRules s w limit past → EachGroup P (groups s past)
  unfolding story
  groups-keep w limit [] legal = tt
  groups-keep w limit (e ∷ past) legal =
      keeps-in limit e.worker past e.kind (groups-keep w limit past (legal-tail s w limit e past legal)) (legal-may s w limit e past legal)

-- ---- the message is a fold

-- what was folded so is what the parts fold to
pub folds-to : (r : GroupRule) (key : List ℕ) (n : ℕ) (before : Option Message) (ps : List Arrival) (m : Message) → FoldsFrom r key n before ps m → folded r key n before ps ≡ Some m
folds-to r key n before [] m h = h
folds-to r key n before (p ∷ ps) m h =
    ap (λ (o : Added). folded r key (n + 1) (Some (labelled (n + 1) key (or_old before p.message o))) ps) h.1
    ∙ folds-to r key (n + 1) (Some (labelled (n + 1) key h.0)) ps m h.2

-- one part more
folds-more : (r : GroupRule) (key : List ℕ) (n : ℕ) (before : Option Message) (ps : List Arrival) (p : Arrival) (m one : Message) → FoldsFrom r key n before ps m
    → r.add (Some m) p.message ≡ Gives one → FoldsFrom r key n before (ps ++ p ∷ []) (labelled (n + length ps + 1) key one)
folds-more r key n before [] p m one h g =
    let e : n + 0 + 1 ≡ n + 1 = omega arith in
    (one, ap (λ o. r.add o p.message) h ∙ g, ap (λ k. Some (labelled k key one)) (sym e))
folds-more r key n before (q ∷ ps) p m one h g =
    let e : n + 1 + length ps + 1 ≡ n + suc (length ps) + 1 = omega arith in (
      h.0,
      h.1,
      subst (λ k. FoldsFrom r key (n + 1) (Some (labelled (n + 1) key h.0)) (ps ++ p ∷ []) (labelled k key one)) e
          (folds-more r key (n + 1) (Some (labelled (n + 1) key h.0)) ps p m one h.2 g),
    )

gives : (o : Added) → is_fault o ≡ false → (one : Message) × (o ≡ Gives one)
gives (Gives m) h = (m, refl)
gives (Faults f) h = absurd (cc h)

-- the parts of a group fold to a message
abbrev pub Folds : Plan → Group → Type 0
Folds s g = (m : Message) × FoldsFrom (s.group g.aggregator) g.key 0 None g.parts m

module _ (s : Plan) (past : Past) (k : Asked) (a : ℕ) (key : List ℕ) (m : Message) where
  joined-folds : EachGroup (Folds s) (groups s past) → is_fault (added_at s past a key m) ≡ false → Folds s (group_at s past k a key m)
  joined-folds each fits = by_found (find (is_for a key) (groups s past)) refl
    where
      by_found : (o : Option Group) → find (is_for a key) (groups s past) ≡ o → Folds s (group_at s past k a key m)
      by_found None e =
          let new = arrived-new 1 (groups s past) a key (arrival_of past k m) e in
          let one = gives ((s.group a).add None m) (subst (λ o. is_fault ((s.group a).add (message_so_far s o) m) ≡ false) e fits) in
          subst (Folds s) (sym new.1) (labelled 1 key one.0, (one.0, one.1, refl))
      by_found (Some g) e =
          let old = old-is (Folds s) (groups s past) a key g each e in
          let was = old.holds in
          let so_far : folded_of s g ≡ Some was.0 = folds-to (s.group g.aggregator) g.key 0 None g.parts was.0 was.1 in
          let whole : is_fault ((s.group a).add (folded_of s g) m) ≡ false = subst (λ o. is_fault ((s.group a).add (message_so_far s o) m) ≡ false) e fits in
          let here : is_fault ((s.group g.aggregator).add (Some was.0) m) ≡ false =
          subst (λ b. is_fault ((s.group b).add (Some was.0) m) ≡ false) (sym old.of_aggregator) (subst (λ o. is_fault ((s.group a).add o m) ≡ false) so_far whole) in
          let one = gives ((s.group g.aggregator).add (Some was.0) m) here in
          subst (Folds s) (sym (arrived-old 1 (groups s past) a key (arrival_of past k m) g e))
          (labelled (0 + length g.parts + 1) g.key one.0, folds-more (s.group g.aggregator) g.key 0 None g.parts (arrival_of past k m) was.0 one.0 was.1 one.1)

each-folds : (s : Plan) (w limit : ℕ) (past : Past) → KeepsRules s w limit past → EachGroup (Folds s) (groups s past)
each-folds s =
    groups-keep s (Folds s) (λ g c h. h) (λ past k a key m n each c. joined-folds s past k a key m each c.0) (λ past k a key m g d n each c. joined-folds s past k a key m each c.0)

pub groups-fold : GroupsFold
groups-fold s workers limit past n g legal at =
    let f = group-numbered (Folds s) (groups s past) n g (each-folds s workers limit past legal) at in
    let is : folded_of s g ≡ Some f.0 = folds-to (s.group g.aggregator) g.key 0 None g.parts f.0 f.1 in
    subst (FoldsFrom (s.group g.aggregator) g.key 0 None g.parts) (sym (ap or_empty is)) f.1

-- ---- how many parts

-- at most as many as the size says, and fewer while it is open
abbrev pub Within : Plan → Group → Type 0
Within s g = (most : ℕ) → (s.group g.aggregator).size ≡ Some most → 1 ≤ most → (length g.parts ≤ most) × (is_open g ≡ true → length g.parts < most)

length-push : (ps : List Arrival) (p : Arrival) → length (ps ++ p ∷ []) ≡ length ps + 1
length-push [] p = refl
length-push (q ∷ ps) p = let ih = length-push ps p in omega (arith, ih)

-- an arrival that doesn't close its group isn't the last one
not-size : (s : Plan) (g : Group) (p : Arrival) → cause_at s g p ≡ None → is_size (s.group g.aggregator).size (length g.parts) ≡ false
not-size s g p h = by_test ((s.group g.aggregator).closes p.number p.route (message_of s g)) (is_size (s.group g.aggregator).size (length g.parts)) h
  where
    by_test : (u v : Bool) → cond u (Some by.Predicate) (cond v (Some by.Size) None) ≡ None → v ≡ false
    by_test true v e = absurd (cc e)
    by_test false true e = absurd (cc e)
    by_test false false e = refl

not-full : (o : Option ℕ) (most n : ℕ) → o ≡ Some most → is_size o n ≡ false → n ≤ most → n < most
not-full o most n e h l =
    let f : (n == most) ≡ false = rw e at h in
    let apart : n ≢ most = λ same. let t = eq-eqb n most same in cc in
    omega (arith, apart, l)

abbrev Few : Plan → Group → Type 0
Few s g = (most : ℕ) → (s.group g.aggregator).size ≡ Some most → 1 ≤ most → length g.parts ≤ most

module _ (s : Plan) (past : Past) (k : Asked) (a : ℕ) (key : List ℕ) (m : Message) where
  joined-few : EachGroup (Within s) (groups s past) → (most : ℕ) → (s.group (group_at s past k a key m).aggregator).size ≡ Some most → 1 ≤ most
      → length (group_at s past k a key m).parts ≤ most
  joined-few each = by_found (find (is_for a key) (groups s past)) refl
    where
      by_found : (o : Option Group) → find (is_for a key) (groups s past) ≡ o → Few s (group_at s past k a key m)
      by_found None e = let new = arrived-new 1 (groups s past) a key (arrival_of past k m) e in subst (Few s) (sym new.1) (λ most size some. some)
      by_found (Some g) e =
          let old = old-is (Within s) (groups s past) a key g each e in
          subst (Few s) (sym (arrived-old 1 (groups s past) a key (arrival_of past k m) g e))
          (λ most size some. let few = (old.holds most size some).1 old.open_still in omega (arith, few, length-push g.parts (arrival_of past k m)))

  joined-within : (n : ℕ) → EachGroup (Within s) (groups s past) → Content s past k (Arrive a key m) (reply.Arrived n) → Within s (group_at s past k a key m)
  joined-within n each c most size some =
      let g = group_at s past k a key m in
      let few = joined-few each most size some in
      (few, λ o. not-full (s.group g.aggregator).size most (length g.parts) size (not-size s g (arrival_of past k m) c.2) few)

closed-within : (s : Plan) (g : Group) (c : Completion) → ((most : ℕ) → (s.group g.aggregator).size ≡ Some most → 1 ≤ most → length g.parts ≤ most)
    → Within s (record g { closed = Some c })
closed-within s g c few most size some = (few most size some, λ o. absurd (cc o))

each-within : (s : Plan) (w limit : ℕ) (past : Past) → KeepsRules s w limit past → EachGroup (Within s) (groups s past)
each-within s =
    groups-keep s (Within s) (λ g c h. closed-within s g c (λ most size some. (h most size some).0))
    (λ past k a key m n each c. joined-within s past k a key m n each c)
    (λ past k a key m g d n each c. closed-within s (group_at s past k a key m) d (joined-few s past k a key m each))

pub groups-within : GroupsWithin
groups-within s workers limit past n most g legal at size some =
    group-numbered (Within s) (groups s past) n g (each-within s workers limit past legal) at most size some

-- ---- the exchange of a closed group

-- where it is closed its exchange is among these
abbrev pub Runs : Plan → List Birth → Group → Type 0
Runs s bs g = (c : Completion) → g.closed ≡ Some c → (x : ℕ) × (numbered bs x ≡ Some (group_birth s x c g))

runs-more : (s : Plan) (bs more : List Birth) (g : Group) → Runs s bs g → Runs s (bs ++ more) g
runs-more s bs more g r c h = let x = r c h in (x.0, numbered-left bs more x.0 (group_birth s x.0 c g) x.1)

-- the birth behind others
numbered-next : (bs more : List Birth) (b : Birth) → numbered (bs ++ b ∷ more) (length bs + 1) ≡ Some b
numbered-next bs more b =
    let e : length bs + 1 ≡ suc (length bs + 0) = omega arith in
    rw e (slice-right bs (b ∷ more) 0)

runs-next : (s : Plan) (bs more : List Birth) (c : Completion) (g : Group) → Runs s (bs ++ group_birth s (length bs + 1) c g ∷ more) (record g { closed = Some c })
runs-next s bs more c g d h =
    let same : c ≡ d = cc h in
    subst (λ e. (x : ℕ) × (numbered (bs ++ group_birth s (length bs + 1) c g ∷ more) x ≡ Some (group_birth s x e g))) same
    (length bs + 1, numbered-next bs more (group_birth s (length bs + 1) c g))

-- several groups that one entry closes
runs-closed : (s : Plan) (c : Completion) (p : Group → Bool) (gs : List Group) (bs : List Birth) → EachGroup (Runs s bs) gs
    → EachGroup (Runs s (bs ++ group_births s (length bs + 1) c (filter p gs))) (closed_by c p gs)
runs-closed s c p [] bs each = tt
runs-closed s c p (g ∷ gs) bs each =
    by_test (p g) (runs-closed s c p gs bs each.1)
    (runs-closed s c p gs (bs ++ group_birth s (length bs + 1) c g ∷ [])
    (each-all (Runs s bs) (Runs s (bs ++ group_birth s (length bs + 1) c g ∷ [])) gs (λ h r. runs-more s bs (group_birth s (length bs + 1) c g ∷ []) h r) each.1))
  where
    by_test : (v : Bool) → EachGroup (Runs s (bs ++ group_births s (length bs + 1) c (filter p gs))) (closed_by c p gs)
        → EachGroup (Runs s ((bs ++ group_birth s (length bs + 1) c g ∷ []) ++ group_births s (length (bs ++ group_birth s (length bs + 1) c g ∷ []) + 1) c (filter p gs)))
        (closed_by c p gs)
        → EachGroup (Runs s (bs ++ group_births s (length bs + 1) c (cond v (g ∷ filter p gs) (filter p gs)))) (cond v (record g { closed = Some c }) g ∷ closed_by c p gs)
    by_test true without with_it =
        let b = group_birth s (length bs + 1) c g in
        let long : length (bs ++ b ∷ []) ≡ length bs + 1 = length-append bs (b ∷ []) in (
          runs-next s bs (group_births s (length bs + 1 + 1) c (filter p gs)) c g,
          subst (λ xs. EachGroup (Runs s xs) (closed_by c p gs)) (append_assoc bs (b ∷ []) (group_births s (length bs + 1 + 1) c (filter p gs)))
              (subst (λ n. EachGroup (Runs s ((bs ++ b ∷ []) ++ group_births s (n + 1) c (filter p gs))) (closed_by c p gs)) long with_it),
        )
    by_test false without with_it = (runs-more s bs (group_births s (length bs + 1) c (filter p gs)) g each.0, without)

arrived-open : (n : ℕ) (gs : List Group) (a : ℕ) (key : List ℕ) (p : Arrival) → is_open (arrived n gs a key p) ≡ true
arrived-open n [] a key p = refl
arrived-open n (g ∷ gs) a key p = by_test (is_for a key g) refl (arrived-open (n + 1) gs a key p)
  where
    by_test : (v : Bool) → is_for a key g ≡ v → is_open (arrived (n + 1) gs a key p) ≡ true → is_open (cond v (record g { parts = g.parts ++ p ∷ [] }) (arrived (n + 1) gs a key p)) ≡ true
    by_test true t ih = (and_parts (is_open g) ((g.aggregator == a) && bytes_eq g.key key) t).0
    by_test false t ih = ih

open-runs : (s : Plan) (bs : List Birth) (g : Group) → is_open g ≡ true → Runs s bs g
open-runs s bs g o c h = absurd (let e = rw h at o in cc e)

module _ (s : Plan) (past : Past) (each : EachGroup (Runs s (births s past)) (groups s past)) where
  runs-all : (more : List Birth) → EachGroup (Runs s (births s past ++ more)) (groups s past)
  runs-all more = each-all (Runs s (births s past)) (Runs s (births s past ++ more)) (groups s past) (λ g r. runs-more s (births s past) more g r) each

  runs-for : (k : Asked) (q : Request) (r : Reply)
      → EachGroup (Runs s (births s past ++ made_for s (story s past) past k q r)) (grouped_for (story s past) past k q r)
  runs-for k (Arrive a key m) (reply.Arrived n) =
      each-put (Runs s (births s past ++ [])) (group_at s past k a key m) (groups s past)
      (open-runs s (births s past ++ []) (group_at s past k a key m) (arrived-open 1 (groups s past) a key (arrival_of past k m))) (runs-all [])
  runs-for k (Arrive a key m) (reply.Closed g c n) =
      let b = group_birth s (length (births s past) + 1) c (group_at s past k a key m) in
      each-put (Runs s (births s past ++ b ∷ [])) (record (group_at s past k a key m) { closed = Some c }) (groups s past)
      (runs-next s (births s past) [] c (group_at s past k a key m)) (runs-all (b ∷ []))
  runs-for k q r = runs-all (made_for s (story s past) past k q r)

  runs-by : (o : Option Asked) (r : Reply) → EachGroup (Runs s (births s past ++ made_by s (story s past) past o r)) (grouped_by (story s past) past o r)
  runs-by None r = runs-all []
  runs-by (Some k) r = runs-for k k.request r

  runs-in : (k : Kind) → EachGroup (Runs s (births s past ++ made_at s past k)) (grouped s (story s past) past k)
  runs-in (Answer x r) = runs-by (asked s past x) r
  runs-in (Tick t) = runs-closed s by.Timeout (is_due s t) (groups s past) (births s past) each
  runs-in Force = runs-closed s by.Force (is_forced s) (groups s past) (births s past) each
  runs-in k = runs-all (made_at s past k)

each-runs : (s : Plan) (past : Past) → EachGroup (Runs s (births s past)) (groups s past)
unfolding story
each-runs s [] = tt
each-runs s (e ∷ past) = runs-in s past (each-runs s past) e.kind

pub closed-groups-run : ClosedGroupsRun
closed-groups-run s past n g c at closed = group-numbered (Runs s (births s past)) (groups s past) n g (each-runs s past) at c closed
