-- How a queue lays out its messages in places that it keeps. No public clause cites this file.
use Rattle.std.specs.Prelude.{◌≡◌, ℕ, ◌+◌, ◌≤◌, false, List, [], ◌∷◌, length, map, Some, vec_capacity}
use Rattle.std.specs.List.{list_any}
use Rattle.std.specs.Global.{Vec}
use Rattle.kernel_values.specs.declared.state.Message.{Message}
use Rattle.msg_queue.specs.declared.place.Place.{Place}
use Rattle.msg_queue.specs.Messages.{is_opened_as}

-- the message in a place
abbrev pub message_of : Place → Message
message_of place = record { seq = place.seq; bytes = place.bytes.items; parts = place.parts; opened = place.opened }

abbrev pub messages_of : List Place → List Message
messages_of places = map message_of places

-- every place has room for `size` bytes, and holds no more
abbrev pub AllHold : ℕ → List Place → Type 0
AllHold size [] = Unit {0}
AllHold size (place ∷ places) = (size ≤ vec_capacity place.bytes)
    × (length place.bytes.items ≤ size) × AllHold size places

-- no two messages are opened under one id
abbrev pub IdsApart : List Place → Type 0
IdsApart [] = Unit {0}
IdsApart (place ∷ places) = ((id : ℕ) → place.opened ≡ Some id → list_any (is_opened_as id) (messages_of places) ≡ false)
    × IdsApart places

-- all places together are the slots, both lists have room for all of them, and each place for `size` bytes
pub record IsQueue (slots size : ℕ) (messages spare : Vec Place) : Type 0 where
  pub few : slots ≤ 32
  pub short : size ≤ 4096
  pub places : length messages.items + length spare.items ≡ slots
  pub room : slots ≤ vec_capacity messages
  pub spare_room : slots ≤ vec_capacity spare
  pub hold : AllHold size messages.items
  pub spare_hold : AllHold size spare.items
  pub apart : IdsApart messages.items
