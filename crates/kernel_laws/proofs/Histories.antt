-- Histories and their beginnings.
use Rattle.std.proofs.Common.{List, [], ◌∷◌, ◌++◌}
use Rattle.kernel_values.specs.declared.entry.Entry.{Entry}
use Rattle.kernel_values.specs.declared.state.State.{State}
use Rattle.kernel_types.specs.History.{Legal, next_state}

pub begins : (s : State) (entries more : List Entry) → Legal s (entries ++ more) → Legal s entries
begins s [] more legal = tt
begins s (entry ∷ entries) more legal = (legal.0, begins (next_state s entry.event) entries more legal.1)
