-- What may be said of where an actor stands, by its status and in the light of the history: that which more entries, starts and ends of
-- applications leave, so that it holds in every history.
use Rattle.std.proofs.Common.{◌≡◌, ℕ, List, [], ◌∷◌, ◌++◌, None}
use Rattle.kernel_values.specs.declared.entry.ActorStatus.{ActorStatus}
use Rattle.kernel_values.specs.declared.entry.ActorStatus.TheVariants as status
use Rattle.kernel_values.specs.declared.entry.Entry.{Entry}
use Rattle.kernel_types.specs.Whole.{answer_by, call_by}

-- an entry that is no call of the actor by this start, and no answer to one
abbrev pub IsSilent : ℕ → ℕ → Entry → Type 0
IsSilent k start entry = (call_by k start entry.event ≡ None) × (answer_by k start entry ≡ None)

pub record Standings : Type 1 where
  -- of a thread and of a client, whatever the history
  pub thread : ℕ → Type 0
  pub client : ℕ → Type 0
  -- by this start the actor did nothing yet
  pub unused : List Entry → ℕ → ℕ → Type 0
  pub fits : List Entry → ℕ → ActorStatus → Type 0
  pub off : (entries : List Entry) (k : ℕ) → fits entries k status.Off
  pub ended : (entries : List Entry) (k start : ℕ) → fits entries k (status.Ended start)
  pub begins : (entries : List Entry) (k start : ℕ) → unused entries k start → fits entries k (status.Running start)
  pub unused_longer : (entries : List Entry) (entry : Entry) (k start : ℕ) → IsSilent k start entry → unused entries k start → unused (entries ++ entry ∷ []) k start
  pub fits_longer : (entries : List Entry) (entry : Entry) (k : ℕ) (x : ActorStatus) → ((start : ℕ) → IsSilent k start entry) → fits entries k x
      → fits (entries ++ entry ∷ []) k x
