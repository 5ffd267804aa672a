-- The whole kernel at the beginning of a scene.
use Rattle.std.proofs.Common.{◌≡◌, ◌≤◌, ℕ, ◌+◌, ◌==◌, ◌||◌, Bool, true, false, List, [], ◌∷◌, ◌++◌, length, map, refl, sym, ◌∙◌, ap, subst, arith, tests, length-append}
use Rattle.std.specs.List.{AllByRecursion, enumerate_from, flat_map, list_any}
use Rattle.std.proofs.lemmas.List.{length-map}
use Rattle.kernel_values.specs.SceneLaw.{IsLawfulScene, SceneValue, is_queue_size}
use Rattle.kernel_values.specs.declared.scene.App.{App}
use Rattle.kernel_values.specs.declared.state.CoreState.{CoreState}
use Rattle.kernel_values.specs.declared.state.State.{State}
use Rattle.kernel_values.specs.declared.state.Thread.{Thread}
use Rattle.kernel_values.specs.declared.world.Device.{Device}
use Rattle.kernel_types.specs.GuestMemory.{opening_memory}
use Rattle.kernel_types.specs.Opening.{opening, opening_client, opening_core, opening_device, opening_driver, opening_threads, without_clients}
use Rattle.set_laws.specs.Soundness.{NamesAreGiven}
use Rattle.set_laws.proofs.Soundness.{openings_given}
use Rattle.ns_bridge.specs.Parts.{Normal, state_of}
use Rattle.ns_bridge.specs.Wholes.{IsWhole, threads_of}

pub opening_given : (scene : SceneValue) (s : State) → s ≡ opening scene → NamesAreGiven s.core
opening_given scene s is = subst (λ (x : State). NamesAreGiven x.core) (sym is) (openings_given scene)

pub opening_is : (scene : SceneValue) (s : State) (d : Device) (n : Normal) → s ≡ opening (without_clients scene) → d ≡ opening_device scene.queue
    → n.memory ≡ opening_memory scene.queue → n.driver ≡ opening_driver scene.queue → n.clients ≡ map opening_client scene.clients
    → state_of s.core d n ≡ opening scene
unfolding opening
opening_is scene s d n is device memory driver clients = cc (ap (λ (x : State). x.core) is)

core_is : (scene : SceneValue) → (opening (without_clients scene)).core ≡ opening_core scene.apps
unfolding opening
core_is scene = refl

-- threads, counted application by application

threads_from : (place : ℕ) (apps : List App) → length (flat_map opening_threads (enumerate_from place apps)) ≡ threads_of apps
threads_from place [] = refl
threads_from place (app ∷ apps) =
    let own : List Thread = opening_threads (place, app) in
    let rest : List Thread = flat_map opening_threads (enumerate_from (place + 1) apps) in
    let all : length (own ++ rest) ≡ length own + length rest = length-append own rest in
    let here : length own ≡ length app.threads = length-map app.threads _ in
    let more : length rest ≡ threads_of apps = threads_from (place + 1) apps in
    all ∙ omega (arith, here, more)

pub opening_whole : (scene : SceneValue) (s : State) (core_made threads : ℕ) → s ≡ opening (without_clients scene) → core_made ≡ 0 → threads ≡ threads_of scene.apps
    → IsWhole s.core core_made threads 0
opening_whole scene s core_made threads is none count = record {
  fewer = omega (arith, none);
  count = ap (λ (x : State). length x.core.threads) is ∙ (ap (λ (c : CoreState). length c.threads) (core_is scene) ∙ (threads_from 0 scene.apps ∙ sym count));
}

-- the sizes that a queue may have

any_within : (n : ℕ) (powers : List ℕ) → list_any (λ power. power == n) powers ≡ true → AllByRecursion (λ power. (1 ≤ power) × (power ≤ 256)) powers → (1 ≤ n) × (n ≤ 256)
any_within n [] is all = absurd (cc)
any_within n (power ∷ powers) is all =
    let P : Bool → Type 0 = λ b. (power == n) ≡ b → (b || list_any (λ other. other == n) powers) ≡ true → (1 ≤ n) × (n ≤ 256) in
    let go : (b : Bool) → P b = λ b. elim b as (λ v. P v) [
      | true ↦ (λ same any. let here : power ≡ n = grind (arith, tests) in (omega (arith, here, all.0.0), omega (arith, here, all.0.1)))
      | false ↦ (λ other any. any_within n powers any all.1)
    ] in
    go (power == n) refl is

queue_within : (n : ℕ) → is_queue_size n ≡ true → (1 ≤ n) × (n ≤ 256)
queue_within n is =
    any_within n (1 ∷ 2 ∷ 4 ∷ 8 ∷ 16 ∷ 32 ∷ 64 ∷ 128 ∷ 256 ∷ []) is ((omega arith, omega arith), ((omega arith, omega arith), ((omega arith, omega arith), ((omega arith, omega arith), ((omega arith, omega arith), ((omega arith, omega arith), ((omega arith, omega arith), ((omega arith, omega arith), ((omega arith, omega arith), tt)))))))))

pub queue_low : (scene : SceneValue) → IsLawfulScene scene → 1 ≤ scene.queue
queue_low scene lawful = (queue_within scene.queue lawful.queue).0

pub queue_high : (scene : SceneValue) → IsLawfulScene scene → scene.queue ≤ 256
queue_high scene lawful = (queue_within scene.queue lawful.queue).1
