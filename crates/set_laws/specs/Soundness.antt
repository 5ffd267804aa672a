-- What holds of every state of every history: numbers rise, what is named was given, and chains of sets are short.
use Rattle.std.specs.Prelude.{◌<◌}
use Rattle.std.specs.List.{All}
use Rattle.kernel_values.specs.declared.state.CoreState.{CoreState}
use Rattle.kernel_values.specs.declared.state.State.{State}
use Rattle.kernel_types.specs.Names.{naming}
use Rattle.kernel_laws.specs.Numbers.{HasRisingNumbers}
use Rattle.set_laws.specs.Chains.{HasShortChains}

-- whatever names an object, a table, the bridge, a wait, a port, a set or a message, names one whose number was given
abbrev pub NamesAreGiven : CoreState → Type 0
NamesAreGiven c = All (λ name. name.object < c.next) (naming c)

pub record IsSound (s : State) : Type 0 where
  pub rising : HasRisingNumbers s
  pub given : NamesAreGiven s.core
  pub chains : HasShortChains s.core.objects
