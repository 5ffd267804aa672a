-- The calls of a source or a sink that are to fail.
use Rattle.std.specs.Prelude.{◌==◌, Bool}
use Rattle.std.specs.List.{list_any}
use Rattle.outside_io.specs.Faults.{later}
use Rattle.outside_io.specs.declared.plan.Plan.{Plan}

-- the next call is to fail
abbrev pub fails_next : Plan → Bool
fails_next plan = list_any (λ call. call == plan.calls) plan.fails

-- the plan after a call
abbrev pub went_on : Plan → Plan
went_on plan = record plan { calls = later plan.calls }
