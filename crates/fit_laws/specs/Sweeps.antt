-- What holds at each sweep of a row of changes, just before it.
use Rattle.std.specs.Prelude.{◌<◌, ℕ, Option}
use Rattle.kernel_values.specs.declared.call.Call.{Call}
use Rattle.kernel_values.specs.declared.state.CoreState.{CoreState}
use Rattle.set_laws.specs.Chains.{HasMember, HasShortChains}
use Rattle.fit_laws.specs.Fitting.{FittingCore}
use Rattle.step_laws.specs.Walks.{CoreChange, Row, after_core}
use Rattle.step_laws.specs.Walks.CoreChange.{objects_swept}
use Rattle.step_laws.specs.Walks.Row.{goes_on, stays}
use Rattle.count_laws.specs.Dropping.{Ranked}
use Rattle.count_laws.specs.Thinning.{Fit, NamedThere}

-- all that a sweep by counts asks of a state
pub record IsReady (c : CoreState) : Type 0 where
  pub fit : Fit c
  pub ranked : Ranked c
  pub there : NamedThere c

-- What every change keeps, so that a sweep may be made by counts in the middle of a step too: the objects fit, what is named is there, chains of
-- sets are short, and what is a member of a set has a number that was given.
pub record IsCountable (c : CoreState) : Type 0 where
  pub fits : FittingCore c
  pub there : NamedThere c
  pub short : HasShortChains c.objects
  pub given : (set member : ℕ) → HasMember c.objects set member → member < c.next

abbrev pub BeforeSweep : (CoreState → Type 0) → (asked : Option Call) (b : CoreState) → CoreChange asked b → Type 0
BeforeSweep P asked b objects_swept = P b
BeforeSweep P asked b _ = Unit {0}

abbrev pub BeforeSweeps : (CoreState → Type 0) → (asked : Option Call) (c d : CoreState) → Row (CoreChange asked) (after_core asked) c d → Type 0
BeforeSweeps P asked c d (stays _ is) = Unit {0}
BeforeSweeps P asked c d (goes_on _ b row change is) = BeforeSweep P asked b change × BeforeSweeps P asked c b row
