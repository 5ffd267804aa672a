use Rattle.std.proofs.Common.{◌+◌, ◌==◌, drop, ◌≡◌}
use Rattle.std.specs.List.{position_or_len}
use Rattle.plain_calls.proofs.ports.place_in.Given as goal

abbrev pub invariant-loop-at : goal.invariant-loop-at
invariant-loop-at l = l.at + position_or_len (λ other. other == l.client) (drop l.at l.clients) ≡ position_or_len (λ other. other == l.client) l.clients
