-- What a pull or a commit adds to the content of a source and to its count of faults.
use Rattle.std.specs.Prelude.{ℕ, ◌≡◌, ◌++◌, List, [], ◌∷◌, Option, Result, Ok, Err}
use Rattle.eip_exchange.specs.Limits.{IsGivable}
use Rattle.eip_exchange.specs.declared.end.End.{End as AnEnd}
use Rattle.eip_endpoint.specs.Content.{IfTold}
use Rattle.eip_endpoint.specs.declared.source.Pulled.{Pulled}
use Rattle.eip_endpoint.specs.declared.source.Pulled.TheVariants.{Item, Refused, End}
use Rattle.eip_endpoint.specs.declared.source.PullFault.{PullFault}
use Rattle.eip_endpoint.specs.declared.source.PullFault.TheVariants as pull
use Rattle.eip_endpoint.specs.declared.source.Commit.{Commit}
use Rattle.eip_endpoint.specs.declared.source.CommitOutcome.{CommitOutcome}
use Rattle.eip_endpoint.specs.declared.source.CommitOutcome.TheVariants as outcome
use Rattle.eip_endpoint.specs.declared.source.CommitFault.{CommitFault}
use Rattle.eip_endpoint.specs.declared.source.CommitFault.TheVariants as commit

-- what an answer gives
abbrev pub given_by : Result Pulled PullFault → List Pulled
given_by (Ok p) = p ∷ []
given_by (Err f) = []

-- what is taken from the items left: an item, or one that is refused
abbrev pub taken : Pulled → List Pulled
taken (Item i m) = Item i m ∷ []
taken (Refused i c) = Refused i c ∷ []
taken End = []

-- what all these took
abbrev pub all_taken : List Pulled → List Pulled
all_taken [] = []
all_taken (p ∷ ps) = taken p ++ all_taken ps

-- an end comes only where nothing is left
abbrev pub EndsAtEnd : Option (List Pulled) → Pulled → Type 0
EndsAtEnd left End = IfTold left (λ items. items ≡ [])
EndsAtEnd left _ = Unit {0}

-- an item's message keeps the limits and has no properties
abbrev pub IsFair : Pulled → Type 0
IsFair (Item i m) = IsGivable m
IsFair _ = Unit {0}

-- 1 for a failure
abbrev pub pull_failure : Result Pulled PullFault → ℕ
pull_failure (Ok p) = 0
pull_failure (Err pull.Failed) = 1
pull_failure (Err pull.NoMemory) = 0

-- a commit by its outcome
abbrev pub commit_of : List ℕ → AnEnd → CommitOutcome → List Commit
commit_of item e o = record { item = item; end = e; outcome = o } ∷ []

-- the commit that an answer tells of; one that found no memory did nothing
abbrev pub committed : List ℕ → AnEnd → Result Unit CommitFault → List Commit
committed item e (Ok u) = commit_of item e outcome.Done
committed item e (Err commit.Failed) = commit_of item e outcome.Failed
committed item e (Err commit.NoMemory) = []

-- 1 for a failure
abbrev pub commit_failure_in : CommitOutcome → ℕ
commit_failure_in outcome.Failed = 1
commit_failure_in outcome.Done = 0

-- 1 for a failure
abbrev pub commit_failure : Result Unit CommitFault → ℕ
commit_failure (Ok u) = 0
commit_failure (Err commit.Failed) = 1
commit_failure (Err commit.NoMemory) = 0
