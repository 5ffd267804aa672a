-- Each thread's application stays, whatever else becomes of the thread.
use Rattle.std.proofs.Common.{◌≡◌, ℕ, ◌+◌, ◌<◌, ◌≤◌, zero, suc, Bool, true, ◌&&◌, List, [], ◌∷◌, length, map, get_or, refl, ap, sym, ◌∙◌, arith}
use Rattle.std.specs.Prelude.{nat_lt}
use Rattle.std.specs.List.{list_all, flat_map, enumerate_from}
use Rattle.std.proofs.lemmas.List.Folds.{list_all-append}
use Rattle.std.proofs.lemmas.List.{length-map}
use Rattle.std.proofs.lemmas.Grind.{common_steps}
use Rattle.kernel_values.specs.declared.scene.App.{App}
use Rattle.kernel_values.specs.declared.scene.Manifest.{Manifest}
use Rattle.kernel_values.specs.declared.script.Command.{Command}
use Rattle.app_life.specs.declared.threads.ThreadLife.{ThreadLife}
use Rattle.kernel_types.specs.Objects.{map_at}
use Rattle.app_life.specs.Lives.{started_thread, ended_thread, ended_thread_of, waiting_thread, opening_thread, opening_threads}
use Rattle.app_life.specs.Inside.{is_within, manifest_of, opening_life, IsLives}
use Rattle.app_life.proofs.Changes.{later}

module _ (n : ℕ) (f : ThreadLife → ThreadLife) (keeps : (t : ThreadLife) → (f t).app ≡ t.app) where
  within-map : (ts : List ThreadLife) → list_all (is_within n) (map f ts) ≡ list_all (is_within n) ts
  within-map [] = refl
  within-map (t ∷ ts) = rw (keeps t, within-map ts) refl

  within-changed : (ts : List ThreadLife) (i : ℕ) → list_all (is_within n) (map_at f ts i) ≡ list_all (is_within n) ts
  within-changed [] i = refl
  within-changed (t ∷ ts) zero = rw (keeps t) refl
  within-changed (t ∷ ts) (suc i) = rw (later f t ts i) (ap (λ b. is_within n t && b) (within-changed ts i))

started_keeps : (app start : ℕ) (t : ThreadLife) → (started_thread app start t).app ≡ t.app
started_keeps app start t = grind arith

ended_keeps : (app : ℕ) (t : ThreadLife) → (ended_thread_of app t).app ≡ t.app
ended_keeps app t = grind arith

pub within-started : (n app start : ℕ) (ts : List ThreadLife) → list_all (is_within n) (map (started_thread app start) ts) ≡ list_all (is_within n) ts
within-started n app start ts = within-map n (started_thread app start) (started_keeps app start) ts

pub within-ended : (n app : ℕ) (ts : List ThreadLife) → list_all (is_within n) (map (ended_thread_of app) ts) ≡ list_all (is_within n) ts
within-ended n app ts = within-map n (ended_thread_of app) (ended_keeps app) ts

pub within-finished : (n : ℕ) (ts : List ThreadLife) (i : ℕ) → list_all (is_within n) (map_at ended_thread ts i) ≡ list_all (is_within n) ts
within-finished n ts i = within-changed n ended_thread (λ t. refl) ts i

pub within-waiting : (n : ℕ) (waits : Bool) (ts : List ThreadLife) (i : ℕ) → list_all (is_within n) (map_at (waiting_thread waits) ts i) ≡ list_all (is_within n) ts
within-waiting n waits ts i = within-changed n (waiting_thread waits) (λ t. refl) ts i

-- the threads of one application
within-scripts : (n k : ℕ) (m : Manifest) → nat_lt k n ≡ true → (scripts : List (List Command)) → list_all (is_within n) (map (λ script. opening_thread k m) scripts) ≡ true
within-scripts n k m h [] = refl
within-scripts n k m h (script ∷ scripts) = rw (h, within-scripts n k m h scripts) refl

pub within-opening : (n k : ℕ) (apps : List App) → k + length apps ≤ n → list_all (is_within n) (flat_map opening_threads (enumerate_from k apps)) ≡ true
within-opening n k [] h = refl
within-opening n k (app ∷ apps) h =
    let first : nat_lt k n ≡ true = grind (arith, common_steps) in
    rw (list_all-append, within-scripts n k app.manifest first app.threads, within-opening n (k + 1) apps (omega arith)) refl

pub within_at : (n : ℕ) (ts : List ThreadLife) (i : ℕ) (d : ThreadLife) → list_all (is_within n) ts ≡ true → i < length ts → (get_or ts i d).app.0 < n
within_at n [] i d h less = absurd (omega arith)
within_at n (t ∷ ts) zero d h less = grind (arith, common_steps)
within_at n (t ∷ ts) (suc i) d h less = within_at n ts i d (grind (arith, common_steps)) (omega arith)

pub opening_is_lives : (apps : List App) → IsLives (map manifest_of apps) (map opening_life apps) (flat_map opening_threads (enumerate_from 0 apps))
opening_is_lives apps =
    let size : length (map opening_life apps) ≡ length apps = length-map apps opening_life in
    record {
      same = length-map apps manifest_of ∙ sym size;
      within = within-opening (length (map opening_life apps)) 0 apps (omega arith);
    }
