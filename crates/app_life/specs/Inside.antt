-- How the calls keep applications: what each was registered with, and apart from it what changes. No public
-- clause cites this file.
use Rattle.std.specs.Prelude.{◌≡◌, ℕ, ◌+◌, ◌&&◌, Bool, true, false, not, nat_lt, List, [], ◌∷◌, length, Option, Some, None, if◌then◌else◌}
use Rattle.std.specs.List.{list_all}
use Rattle.kernel_values.specs.declared.scene.App.{App}
use Rattle.kernel_values.specs.declared.scene.Manifest.{Manifest}
use Rattle.kernel_values.specs.declared.state.Application.{Application}
use Rattle.kernel_values.specs.declared.state.TableEntry.{TableEntry}
use Rattle.app_life.specs.declared.life.Life.{Life}
use Rattle.app_life.specs.declared.threads.ThreadLife.{ThreadLife}
use Rattle.kernel_types.specs.Opening.{opening_starts}

abbrev pub manifest_of : App → Manifest
manifest_of app = app.manifest

abbrev pub is_within : ℕ → ThreadLife → Bool
is_within count thread = nat_lt thread.app.0 count

-- one application
abbrev pub application : Manifest → Life → Application
application manifest life = record { manifest = manifest; starts = life.starts; running = life.running; table = life.table; last = life.last }

abbrev pub applications : List Manifest → List Life → List Application
applications [] lives = []
applications (manifest ∷ manifests) [] = []
applications (manifest ∷ manifests) (life ∷ lives) = application manifest life ∷ applications manifests lives

-- what a scene begins with
abbrev pub opening_life : App → Life
opening_life app = record { starts = opening_starts app.manifest; running = not app.manifest.deferred; table = []; last = None }

-- one more start
abbrev pub life_may_start : Life → Bool
life_may_start life = not life.running && nat_lt life.starts 4

abbrev pub next_start : Life → Option ℕ
next_start life = (if life_may_start life then Some (life.starts + 1) else None)

abbrev pub is_left : Option Life → Bool
is_left None = false
is_left (Some life) = nat_lt life.starts 4

abbrev pub begun : Life → Life
begun life = record { starts = life.starts + 1; running = true; table = []; last = None }

-- it no longer runs
abbrev pub stopped : Life → Life
stopped life = record life { running = false; table = [] }

abbrev pub reported_life : ℕ → Life → Life
reported_life handle life = record life { last = Some handle }

abbrev pub life_table : Option Life → List TableEntry
life_table None = []
life_table (Some life) = life.table

-- a life for each manifest, and each thread's application is there
pub record IsLives (manifests : List Manifest) (lives : List Life) (threads : List ThreadLife) : Type 0 where
  pub same : length manifests ≡ length lives
  pub within : list_all (is_within (length lives)) threads ≡ true
