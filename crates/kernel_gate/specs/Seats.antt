-- A gate, and the seats that are its own.
use Rattle.std.specs.Prelude.{◌≡◌, ℕ, false}
use Rattle.kernel_values.specs.Origin.{Origin}
use Rattle.kernel_types.specs.History.{Legal}
use Rattle.kernel_log.specs.Logs.{Log}
use Rattle.turnstile.specs.declared.pass.Pass.{Pass}
use Rattle.turnstile.specs.Names.{first_of, IsPassOf}
use Rattle.turnstile.specs.Passes.{view}
use Rattle.kernel_gate.specs.declared.gate.Gate.{Gate}

-- where the history began: what the kernel stood for when the gate was made
abbrev pub origin_of : {K : Type 0} → Gate K → Origin
origin_of g = (first_of g.turnstile).origin

abbrev pub seats_of : {K : Type 0} → Gate K → ℕ
seats_of g = g.turnstile.seats

-- the seat is one of the gate's, with its number, and has not the turn; what it has seen is a legal history of the kernel
pub record IsSeatOf {K : Type 0} (g : Gate K) (seat : Pass) : Type 0 where
  pub pass : IsPassOf (λ (log : Log). log.origin) g.turnstile seat
  pub rests : (view seat).has_turn ≡ false
  pub legal : Legal (origin_of g).state (view seat).seen
