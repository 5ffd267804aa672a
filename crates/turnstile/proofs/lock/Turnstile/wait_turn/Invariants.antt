use Rattle.std.proofs.Common.{◌≡◌, ◌≤◌, []}
use Rattle.turnstile.specs.Views.{waited}
use Rattle.turnstile.proofs.lock.Turnstile.wait_turn.Given as goal

abbrev pub invariant-loop : goal.invariant-loop
invariant-loop g l = record { table : l.seat.table_id ≡ l.initial.seat.table_id; slot : l.seat.me.1 ≡ []; view : l.seat.me.0 ≡ waited l.initial.seat.me.0 l.seat.me.0.tries l.seat.me.0.last; more : l.initial.seat.me.0.tries ≤ l.seat.me.0.tries }
