-- Which actors a state has, and what its applications were registered with.
use Rattle.std.specs.Prelude.{◌≡◌, ℕ, List, ◌++◌, map, Option, Some, None}
use Rattle.kernel_values.specs.declared.scene.Manifest.{Manifest}
use Rattle.kernel_values.specs.declared.state.State.{State}

-- the kind of each actor: a thread of an application, by the application's place, or else a client of the normal world
abbrev pub kinds : State → List (Option ℕ)
kinds s = map (λ thread. Some thread.app) s.core.threads ++ map (λ client. None) s.world.clients

abbrev pub manifests : State → List Manifest
manifests s = map (λ app. app.manifest) s.core.apps

-- the same actors, each of the same kind, and the same applications by their manifests
pub record HasSameActors (s t : State) : Type 0 where
  pub kinds : kinds t ≡ kinds s
  pub manifests : manifests t ≡ manifests s
