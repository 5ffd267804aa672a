-- Messages that go from an end.
use Rattle.std.specs.Prelude.{ℕ, List, [], Some, if◌then◌else◌}
use Rattle.std.specs.List.{filter, flat_map, fold}
use Rattle.kernel_values.specs.declared.state.Body.{Body}
use Rattle.kernel_values.specs.declared.state.ChannelEnd.{ChannelEnd}
use Rattle.kernel_values.specs.declared.state.Message.{Message}
use Rattle.kernel_types.specs.Messages.{is_opened_as}
use Rattle.kernel_types.specs.Objects.{on_end}
use Rattle.object_store.specs.Stock.{Held, unnamed}
use Rattle.plain_objects.specs.Predicates.{is_another}
use Rattle.counted_core.specs.Held.{changed_if}

-- an end with these messages
abbrev pub holding : List Message → ChannelEnd → ChannelEnd
holding messages end = record end { messages = messages }

-- what a message that is opened under this id names
unfoldable pub opened_parts : ℕ → Message → List ℕ
opened_parts id message = (if is_opened_as id message then message.parts else [])

-- the values after the messages of an end that are opened under the id went: these are its messages
abbrev pub retired_items : ℕ → ℕ → List Message → List (Held Body) → List (Held Body)
retired_items number id messages items =
    changed_if (on_end (holding (filter (is_another number) messages))) (Some id)
    (fold unnamed (changed_if (on_end (holding [])) (Some id) items) (flat_map (opened_parts number) messages))
