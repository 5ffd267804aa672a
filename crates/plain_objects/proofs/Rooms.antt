-- Where there is room for all pieces, there is room for the next.
use Rattle.std.proofs.Common.{◌≡◌, ◌≤◌, ◌<◌, ◌+◌, ◌++◌, ℕ, List, length, map, take, get_or, ap, arith, length-append}
use Rattle.std.specs.List.{flat_map}
use Rattle.std.proofs.lemmas.List.{length-map}
use Rattle.kernel_values.specs.declared.state.Message.{Message}
use Rattle.kernel_types.specs.Names.{Name, held_by, message_objects}
use Rattle.std.proofs.lemmas.List.Folds.{length-flat_map-take}

pub next_piece : {X Y : Type 0} (f : X → List Y) (first names : List Y) (xs : List X) (i room : ℕ) (d : X) → i < length xs
    → names ≡ first ++ flat_map f (take i xs) → length first + length (flat_map f xs) ≤ room → length names + length (f (get_or xs i d)) ≤ room
next_piece f first names xs i room d within is fits =
    omega (arith, ap length is, length-append first (flat_map f (take i xs)), length-flat_map-take f xs i d within, fits)

-- the parts of messages, which their end names
pub next_named : (holder : ℕ) (first names : List Name) (messages : List Message) (i room : ℕ) (d : Message) → i < length messages
    → names ≡ first ++ map (held_by holder) (message_objects (take i messages)) → length first + length (message_objects messages) ≤ room
    → length names + length (get_or messages i d).parts ≤ room
next_named holder first names messages i room d within is fits =
    omega (
      arith,
      ap length is,
      length-append first (map (held_by holder) (message_objects (take i messages))),
      length-map (message_objects (take i messages)) (held_by holder),
      length-flat_map-take (λ (message : Message). message.parts) messages i d within,
      fits,
    )
