-- What a contract sees of a port: the port of the model, and how many more server ends may come to be
-- pending with no allocation.
use Rattle.std.specs.Prelude.{ℕ}
use Rattle.kernel_values.specs.declared.state.Port.{Port}

pub record Listing : Type 0 where
  pub port : Port
  pub room : ℕ
