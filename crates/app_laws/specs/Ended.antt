-- What applications that do not run leave behind: nothing that names an object.
use Rattle.std.specs.Prelude.{◌≡◌, ℕ, Bool, true, false, [], Option, Some, None, slice_get}
use Rattle.std.specs.List.{All}
use Rattle.kernel_values.specs.declared.state.Activity.{Activity}
use Rattle.kernel_values.specs.declared.state.Activity.TheVariants as activity
use Rattle.kernel_values.specs.declared.state.Application.{Application}
use Rattle.kernel_values.specs.declared.state.CoreState.{CoreState}
use Rattle.kernel_values.specs.declared.state.State.{State}
use Rattle.kernel_types.specs.Applications.{is_over}
use Rattle.kernel_types.specs.Tables.{table_of}

abbrev pub runs : Option Application → Bool
runs None = false
runs (Some app) = app.running

-- an application runs at this place
abbrev pub runs_at : CoreState → ℕ → Bool
runs_at c app = runs (slice_get c.apps app)

abbrev pub waits : Activity → Bool
waits (activity.Waiting start wait) = true
waits _ = false

-- nothing of the application names an object: its table is empty, and none of its threads waits
pub record NamesNone (c : CoreState) (app : ℕ) : Type 0 where
  pub table : table_of c app ≡ []
  pub waits : All (λ thread. thread.app ≡ app → waits thread.activity ≡ false) c.threads

-- every application that does not run names no object
abbrev pub EndedNameNone : State → Type 0
EndedNameNone s = (app : ℕ) → runs_at s.core app ≡ false → NamesNone s.core app

-- Only an application that runs has entries in its table, and only threads of one that runs are neither Off nor Ended.
pub record IsSettled (s : State) : Type 0 where
  pub tables : All (λ app. app.running ≡ false → app.table ≡ []) s.core.apps
  pub threads : All (λ thread. runs_at s.core thread.app ≡ false → is_over thread.activity ≡ true) s.core.threads
