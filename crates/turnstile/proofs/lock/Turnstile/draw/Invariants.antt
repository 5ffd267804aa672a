use Rattle.std.proofs.Common.{◌-◌, ◌≡◌, ◌≤◌, []}
use Rattle.turnstile.specs.Views.{missed}
use Rattle.turnstile.proofs.lock.Turnstile.draw.Given as goal

abbrev pub invariant-loop-drawn : goal.invariant-loop-drawn
invariant-loop-drawn g l = record { table : l.seat.table_id ≡ l.initial.seat.table_id; slot : l.seat.me.1 ≡ []; view : l.seat.me.0 ≡ missed l.initial.seat.me.0 l.drawn; more : l.initial.drawn ≤ l.drawn; few : l.drawn ≤ l.seats }

abbrev pub decreases-loop-drawn : goal.decreases-loop-drawn
decreases-loop-drawn g l = l.seats - l.drawn
