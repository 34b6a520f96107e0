-- A source in memory.
use Rattle.std.specs.Prelude.{ℕ, zero, suc, ◌≡◌, ◌++◌, bytes_eq, cond, true, false, List, [], ◌∷◌, drop, Result, Ok, Err}
use Rattle.std.specs.List.{count_by, slice_index_or}
use Rattle.eip_exchange.specs.Limits.{IsGivable}
use Rattle.eip_exchange.specs.declared.end.End.{End as AnEnd}
use Rattle.eip_endpoint.specs.declared.source.Pulled.{Pulled}
use Rattle.eip_endpoint.specs.declared.source.Pulled.TheVariants.{Item, Refused, End}
use Rattle.eip_endpoint.specs.declared.source.PullFault.{PullFault}
use Rattle.eip_endpoint.specs.declared.source.PullFault.TheVariants as pull
use Rattle.eip_endpoint.specs.declared.source.Commit.{Commit}
use Rattle.eip_endpoint.specs.declared.source.CommitOutcome.{CommitOutcome}
use Rattle.eip_endpoint.specs.declared.source.CommitOutcome.TheVariants as outcome
use Rattle.eip_endpoint.specs.declared.source.CommitFault.{CommitFault}
use Rattle.eip_endpoint.specs.declared.source.CommitFault.TheVariants as commit
use Rattle.eip_endpoint.specs.Content.{where_same}
use Rattle.eip_endpoint.specs.Counters.{Counter, fails_next, counted}

-- what a source may start with: no end, and a message only within the limits and without properties
abbrev pub IsNew : Pulled → Type 0
IsNew (Item i m) = IsGivable m
IsNew (Refused i c) = Unit {0}
IsNew End = ⊥

abbrev pub AllNew : List Pulled → Type 0
AllNew [] = Unit {0}
AllNew (p ∷ ps) = IsNew p × AllNew ps

-- the items of some URIs, by their printed form
abbrev pub Listing : Type 0
Listing = List (List ℕ × List Pulled)

abbrev pub AreNew : Listing → Type 0
AreNew [] = Unit {0}
AreNew (p ∷ ps) = AllNew p.1 × AreNew ps

-- the items, the printed URI of each pull that gave an item or the end, the ends told with their URIs, and the counter
pub record KeptItems : Type 0 where
  pub items : Listing
  pub pulls : List (List ℕ)
  pub commits : List (List ℕ × Commit)
  pub counter : Counter

-- the items of the first pair of a URI; one that no pair has is without items
abbrev pub listed : List ℕ → Listing → List Pulled
listed u [] = []
listed u (p ∷ ps) = cond (bytes_eq u p.0) p.1 (listed u ps)

-- how many pulls of a URI gave something
abbrev pub pulls_of : List ℕ → List (List ℕ) → ℕ
pulls_of u pulls = count_by (λ v. bytes_eq u v) pulls

-- the answer behind the first n: the next item, or the end where none is left
abbrev pub answer_at : ℕ → List Pulled → Pulled
answer_at n items = slice_index_or items n End

-- the first n answers
abbrev pub answers : ℕ → List Pulled → List Pulled
answers zero items = []
answers (suc n) [] = End ∷ answers n []
answers (suc n) (p ∷ items) = p ∷ answers n items

-- what was given for a URI, and what is left
abbrev pub given_for : KeptItems → List ℕ → List Pulled
given_for s u = answers (pulls_of u s.pulls) (listed u s.items)

abbrev pub left_for : KeptItems → List ℕ → List Pulled
left_for s u = drop (pulls_of u s.pulls) (listed u s.items)

-- what was told for a URI
abbrev pub told_of : List ℕ → List (List ℕ × Commit) → List Commit
told_of u [] = []
told_of u (c ∷ cs) = where_same u c.0 (c.1 ∷ []) ++ told_of u cs

abbrev pub told_for : KeptItems → List ℕ → List Commit
told_for s u = told_of u s.commits

-- the next answer for a URI
abbrev pub next_for : KeptItems → List ℕ → Pulled
next_for s u = answer_at (pulls_of u s.pulls) (listed u s.items)

-- the source behind a pull that gave something, behind a pull that failed, and behind a commit
abbrev pub behind_pull : KeptItems → List ℕ → KeptItems
behind_pull s u = record { items = s.items; pulls = s.pulls ++ u ∷ []; commits = s.commits; counter = counted s.counter }

abbrev pub behind_failure : KeptItems → KeptItems
behind_failure s = record { items = s.items; pulls = s.pulls; commits = s.commits; counter = counted s.counter }

abbrev pub behind_commit : KeptItems → List ℕ → List ℕ → AnEnd → CommitOutcome → KeptItems
behind_commit s u item e o =
    record { items = s.items; pulls = s.pulls; commits = s.commits ++ (u, record { item = item; end = e; outcome = o }) ∷ []; counter = counted s.counter }

-- a pull fails exactly where its number is to fail, and otherwise gives the next answer for its URI
abbrev pub PulledNext : KeptItems → List ℕ → Result Pulled PullFault → KeptItems → Type 0
PulledNext old u (Ok p) new = (fails_next old.counter ≡ false) × (p ≡ next_for old u) × (new ≡ behind_pull old u)
PulledNext old u (Err pull.Failed) new = (fails_next old.counter ≡ true) × (new ≡ behind_failure old)
PulledNext old u (Err pull.NoMemory) new = new ≡ old

-- a commit fails exactly where its number is to fail, and is kept either way
abbrev pub ToldNext : KeptItems → List ℕ → List ℕ → AnEnd → Result Unit CommitFault → KeptItems → Type 0
ToldNext old u item e (Ok x) new = (fails_next old.counter ≡ false) × (new ≡ behind_commit old u item e outcome.Done)
ToldNext old u item e (Err commit.Failed) new = (fails_next old.counter ≡ true) × (new ≡ behind_commit old u item e outcome.Failed)
ToldNext old u item e (Err commit.NoMemory) new = new ≡ old
