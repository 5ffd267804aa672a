-- Scenes in few words, and what stands after the first entries of their serial histories.
use Rattle.std.specs.Prelude.{ℕ, List, [], false, map, take, None, Option}
use Rattle.kernel_values.specs.declared.call.Call.{Call}
use Rattle.kernel_values.specs.declared.entry.EndFacts.{EndFacts}
use Rattle.kernel_values.specs.declared.script.Command.{Command}
use Rattle.kernel_values.specs.declared.script.RegRead.{RegRead}
use Rattle.kernel_values.specs.declared.scene.App.{App}
use Rattle.kernel_values.specs.declared.scene.Manifest.{Manifest}
use Rattle.kernel_values.specs.SceneLaw.{SceneValue, scripts_of}
use Rattle.kernel_types.specs.Step.{step}
use Rattle.kernel_types.specs.Turns.{Run, opening_run, run_from, serial_from, history_limit}
use Rattle.kernel_types.specs.Serial.{run_or}
use Rattle.kernel_types.specs.Facts.{names_at, end_facts}

abbrev pub read_of : ℕ × ℕ → RegRead
read_of (place, reg) = record { place = place; reg = reg }

-- a command: its call, which of its handles are read from which registers, and the registers that its answer sets
abbrev pub line : Call → List (ℕ × ℕ) → List ℕ → Command
line call reads sets = record { call = call; reads = map read_of reads; sets = sets }

-- a manifest that says no more than its UUID
abbrev pub plain_manifest : ℕ → Manifest
plain_manifest uuid = record { uuid = uuid; restart = false; deferred = false; ports = [] }

abbrev pub app : List ℕ → Manifest → List (List Command) → App
app name manifest threads = record { name = name; manifest = manifest; threads = threads }

-- a scene without clients and turns
abbrev pub scene_of : List App → SceneValue
scene_of apps = record { apps = apps; clients = []; queue = 16; turns = [] }

-- the run of the first turns of the serial order
abbrev pub run_of_first : ℕ → SceneValue → Run
run_of_first count scene = run_or (opening_run scene) (run_from step (scripts_of scene) 0 (opening_run scene)
    (take count (serial_from step (scripts_of scene) history_limit None (opening_run scene))))

-- after this many entries, how many entries name an object
abbrev pub names_after : ℕ → SceneValue → ℕ → Option ℕ
names_after count scene object = names_at (run_of_first count scene).state object

abbrev pub facts_after : ℕ → SceneValue → EndFacts
facts_after count scene = end_facts (run_of_first count scene).state
