-- Who holds a key, and what is said of it.
use Rattle.std.specs.Prelude.{ℕ, ◌≡◌, ◌≤◌, ◌&&◌, ◌⊎◌, Bool, true, List, slice_get, Some}
use Rattle.eip_frames.specs.declared.answer.Answer.{Answer as Reply}
use Rattle.eip_frames.specs.declared.answer.Answer.TheVariants as reply
use Rattle.eip_history.specs.Plan.{Plan}
use Rattle.eip_history.specs.Own.{Past}
use Rattle.eip_history.specs.Place.{ended}
use Rattle.eip_history.specs.Rules.{Claim, claims, holds, is_claim_of}

-- x holds a key: one of its claims to the key holds it
pub record Holds (s : Plan) (past : Past) (repository key : List ℕ) (x : ℕ) : Type 0 where
  pub claim : Claim
  pub index : ℕ
  pub at : slice_get (claims s past) index ≡ Some claim
  pub number : claim.number ≡ x
  pub to_repository : claim.repository ≡ repository
  pub to_key : claim.key ≡ key
  pub holding : holds claim (ended s past x) ≡ true

-- nobody holds the key
abbrev pub IsFree : Plan → Past → List ℕ → List ℕ → Type 0
IsFree s past r k = (x : ℕ) → Holds s past r k x → ⊥

-- h holds the key, and no holder of it has a lesser number
pub record IsLeastHolder (s : Plan) (past : Past) (repository key : List ℕ) (h : ℕ) : Type 0 where
  pub holder : Holds s past repository key h
  pub below_all : (x : ℕ) → Holds s past repository key x → h ≤ x

-- what an offered key is answered: Fresh where nobody holds it, else Duplicate of its least holder
abbrev pub IsKeyAnswer : Plan → Past → List ℕ → List ℕ → Reply → Type 0
IsKeyAnswer s past r k a = ((a ≡ reply.Fresh) × IsFree s past r k) ⊎ ((h : ℕ) × (a ≡ reply.Duplicate h) × IsLeastHolder s past r k h)

-- an eager claim to this key that holds it
abbrev pub is_eager_of : Plan → Past → List ℕ → List ℕ → Claim → Bool
is_eager_of s past r k c = c.eager && is_claim_of s past r k c
