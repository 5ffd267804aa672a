-- What the reader of a scene does, line by line. What a text spells is told in SceneText; that both are one is `read_in_order`.
use Rattle.std.specs.Prelude.{◌≡◌, ℕ, ◌+◌, Bool, false, List, [], ◌∷◌, ◌&&◌, bytes_eq, codes, Option, Some, None, Result, Ok, Err, if◌then◌else◌}
use Rattle.std.specs.List.{list_all, list_any}
use Rattle.kernel_values.specs.SceneLaw.{SceneValue}
use Rattle.kernel_values.specs.declared.scene.Turn.{Turn}
use Rattle.script_lines.specs.declared.fault.SceneKind.{SceneKind}
use Rattle.script_lines.specs.declared.fault.SceneKind.TheVariants.{NoHeader, TooMany, OpenRepeat}
use Rattle.script_lines.specs.declared.fault.SceneKind.TheVariants as kind
use Rattle.script_lines.specs.declared.fault.SceneFault.{SceneFault}
use Rattle.script_lines.specs.declared.fault.SceneRefused.{SceneRefused}
use Rattle.script_lines.specs.declared.fault.SceneRefused.TheVariants as refused
use Rattle.scene_lines.specs.declared.reading.Place.{Place}
use Rattle.scene_lines.specs.declared.reading.Place.TheVariants as place
use Rattle.scene_lines.specs.declared.reading.Registered.{Registered}
use Rattle.scene_lines.specs.declared.reading.Reading.{Reading}
use Rattle.script_lines.specs.Texts.{words_of, is_text_byte}
pub use Rattle.scene_reader.specs.SceneText.{scene_of}
use Rattle.scene_lines.specs.Reading.{line_act, apps_with, clients_with, queue_of}

abbrev pub opening : Reading
opening = record {
  place = place.Start;
  before = record { apps = []; clients = []; noted = record { names = []; client_names = []; ports = []; queue = None } };
  used = record { commands = 0; payload = 0 };
}

-- the line of the repeat that is open
abbrev pub open_line : Place → Option ℕ
open_line (place.Repeat app repeat) = Some repeat.line
open_line (place.ClientRepeat client repeat) = Some repeat.line
open_line other = None

abbrev pub is_end : List (List ℕ) → Bool
is_end (word ∷ []) = bytes_eq word (codes "end")
is_end words = false

-- a line that closes a repeat
unfoldable pub closes : List ℕ → Bool
closes line = list_all is_text_byte line && is_end (words_of line)

-- inside a repeat, only an `end` passes a limit
abbrev pub is_past_limit : SceneKind → Bool
is_past_limit kind.TooMany = Bool.true
is_past_limit other = false

abbrev pub is_closed_by : SceneKind → List (List ℕ) → Bool
is_closed_by kind lines = if is_past_limit kind then Bool.true else list_any closes lines

-- a fault in a repeat that no later line closes yields to the open repeat
unfoldable pub fault_in : Option ℕ → ℕ → SceneKind → List (List ℕ) → SceneFault
fault_in None at kind lines = record { kind = kind; line = at }
fault_in (Some opened) at kind lines = if is_closed_by kind lines then record { kind = kind; line = at } else record { kind = OpenRepeat; line = opened }

abbrev pub turns_in : Place → List Turn
turns_in (place.Turns turns) = turns
turns_in other = []

-- all that was read, where this is the last place
abbrev pub scene_in : Registered → Place → SceneValue
scene_in before last = record { apps = apps_with before.apps last; clients = clients_with before.clients last; queue = queue_of before.noted; turns = turns_in last }

-- after the last line
unfoldable pub ended : Reading → Place → Result SceneValue SceneFault
ended r place.Start = Err (record { kind = NoHeader; line = 0 })
ended r (place.Repeat app repeat) = Err (record { kind = OpenRepeat; line = repeat.line })
ended r (place.ClientRepeat client repeat) = Err (record { kind = OpenRepeat; line = repeat.line })
ended r last = Ok (scene_in r.before last)

-- the lines from this number on
unfoldable pub lines_act : List (List ℕ) → Reading → ℕ → Result SceneValue SceneFault
lines_act [] r at = ended r r.place
lines_act (line ∷ lines) r at = elim (line_act r at line) as (λ _. Result SceneValue SceneFault) [
  | Ok next ↦ lines_act lines next (at + 1)
  | Err kind ↦ Err (fault_in (open_line r.place) at kind lines)
]

-- what the reader answers is the scene or the first fault; that memory ran out says nothing
abbrev pub IsRefusal : SceneRefused → Result SceneValue SceneFault → Type 0
IsRefusal refused.NoMemory rule = Unit {0}
IsRefusal (refused.Fault fault) rule = rule ≡ Err fault

abbrev pub IsScene : Result SceneValue SceneRefused → Result SceneValue SceneFault → Type 0
IsScene (Ok scene) rule = rule ≡ Ok scene
IsScene (Err refused) rule = IsRefusal refused rule
