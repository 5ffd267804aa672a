-- When time passes, whatever a core names has a number that was given.
use Rattle.std.proofs.Common.{ℕ, Option}
use Rattle.kernel_values.specs.declared.state.CoreState.{CoreState}
use Rattle.kernel_types.specs.CoreStep.{core_idle}
use Rattle.kernel_types.specs.Sweep.{sweep}
use Rattle.step_laws.proofs.Steps.{idled_walks}
use Rattle.set_laws.specs.Soundness.{NamesAreGiven}
use Rattle.set_laws.proofs.NamingChanges.{walk_names}
use Rattle.set_laws.proofs.Soundness.{apart, together}

pub idling_given : (c : CoreState) (deadline : Option ℕ) → NamesAreGiven c → NamesAreGiven (sweep (core_idle deadline c))
idling_given c deadline given = together (sweep (core_idle deadline c)) (walk_names c (sweep (core_idle deadline c)) (idled_walks c deadline) (apart c given))
