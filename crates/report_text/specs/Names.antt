-- The names of the actors of a scene.
use Rattle.std.specs.Prelude.{ℕ, List, [], ◌∷◌, ◌++◌, decimal, length, map, slice_get, unwrap_or}
use Rattle.std.specs.List.{flat_map, range_with_len}
use Rattle.kernel_values.specs.declared.scene.App.{App}
use Rattle.kernel_values.specs.SceneLaw.{SceneValue}

abbrev pub dot : ℕ
dot = 46

-- a thread by its application's name and its place there, counted from 0
abbrev pub thread_name : List ℕ → ℕ → List ℕ
thread_name app thread = app ++ dot ∷ decimal thread

abbrev pub thread_names : App → List (List ℕ)
thread_names app = map (thread_name app.name) (range_with_len 0 (length app.threads))

-- the threads of each application in order, then the clients
unfoldable pub actor_names : SceneValue → List (List ℕ)
actor_names scene = flat_map thread_names scene.apps ++ map (λ client. client.name) scene.clients

-- the name of an actor by its number
abbrev pub name_in : List (List ℕ) → ℕ → List ℕ
name_in names actor = unwrap_or (slice_get names actor) []
