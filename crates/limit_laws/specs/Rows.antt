-- An application that is lawful but for how many threads it has.
use Rattle.std.specs.Prelude.{ℕ, false, [], codes, replicate}
use Rattle.kernel_values.specs.declared.scene.App.{App}

-- with so many threads, each with an empty script
abbrev pub app_of_threads : ℕ → App
app_of_threads count = record { name = codes "a"; manifest = record { uuid = 1; restart = false; deferred = false; ports = [] }; threads = replicate count [] }
