-- The serial history of a scene: what worked scenes are tried on.
use Rattle.std.specs.Prelude.{List, None}
use Rattle.kernel_values.specs.declared.entry.Entry.{Entry}
use Rattle.kernel_values.specs.declared.entry.EndFacts.{EndFacts}
use Rattle.kernel_values.specs.SceneLaw.{SceneValue, scripts_of}
use Rattle.kernel_types.specs.Step.{step}
use Rattle.kernel_types.specs.Turns.{Run, Outturn, ran, refused, opening_run, run_from, serial_from, history_limit}
use Rattle.kernel_types.specs.Facts.{end_facts}

abbrev pub run_or : Run → Outturn → Run
run_or opening (ran run) = run
run_or opening (refused k) = opening

abbrev pub serial_run : SceneValue → Run
serial_run scene = run_or (opening_run scene) (run_from step (scripts_of scene) 0 (opening_run scene)
    (serial_from step (scripts_of scene) history_limit None (opening_run scene)))

abbrev pub serial_history : SceneValue → List Entry
serial_history scene = (serial_run scene).entries

abbrev pub serial_end : SceneValue → EndFacts
serial_end scene = end_facts (serial_run scene).state
