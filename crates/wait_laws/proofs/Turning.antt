-- What a lawful step of an actor did: which call it made, or which wait ended, with the state of the actor before.
use Rattle.std.proofs.Common.{◌≡◌, ℕ, ◌==◌, Bool, true, false, cond, Option, Some, None, refl, ap, ◌∙◌}
use Rattle.std.specs.Prelude.{slice_get}
use Rattle.std.specs.Option.{option_map}
use Rattle.kernel_values.specs.declared.call.Call.{Call}
use Rattle.kernel_values.specs.declared.state.Activity.{Activity}
use Rattle.kernel_values.specs.declared.state.Activity.TheVariants as activity
use Rattle.kernel_values.specs.declared.state.CoreState.{CoreState}
use Rattle.kernel_values.specs.declared.state.State.{State}
use Rattle.kernel_values.specs.declared.state.Thread.{Thread}
use Rattle.kernel_values.specs.declared.state.Wait.{Wait}
use Rattle.kernel_values.specs.declared.world.ClientActivity.{ClientActivity}
use Rattle.kernel_values.specs.declared.world.ClientActivity.TheVariants as client_activity
use Rattle.kernel_values.specs.declared.world.ClientState.{ClientState}
use Rattle.kernel_values.specs.declared.world.ClientWait.{ClientWait}
use Rattle.kernel_types.specs.Clients.{Acted, end_of_ns_wait, ns_act}
use Rattle.kernel_types.specs.CoreStep.{act, begin_as, begin_of, core_begin, core_resume, resume_as, resume_of, resumed, swept}
use Rattle.kernel_types.specs.Drains.{drained}
use Rattle.kernel_types.specs.Outcome.{Outcome}
use Rattle.kernel_types.specs.Step.{client_begin, client_call_as, client_call_of, client_resume, client_resume_as, client_resume_of, runs_again}
use Rattle.kernel_types.specs.Waits.{end_of_wait}
use Rattle.run_laws.proofs.Places.{same_number}

pub mapped : {X Y : Type 0} (f : X → Y) (o : Option X) (y : Y) → option_map f o ≡ Some y → (x : X) × (o ≡ Some x) × (y ≡ f x)
mapped f None y h = absurd (cc)
mapped f (Some x) y h = (x, refl, let same : y ≡ f x = cc in same)

pub only_if : {X : Type 0} (b : Bool) (o : Option X) (x : X) → cond b o None ≡ Some x → (b ≡ true) × (o ≡ Some x)
only_if true o x h = (refl, h)
only_if false o x h = absurd (cc)

pub record Called (c : CoreState) (k start : ℕ) (asked : Call) (outcome : Outcome) : Type 0 where
  pub found : Thread
  pub there : slice_get c.threads k ≡ Some found
  pub ran : found.activity ≡ activity.Running start
  pub inner : Outcome
  pub done : act c k found.app asked ≡ Some inner
  pub ends : outcome ≡ swept inner

called_as : (c : CoreState) (k start : ℕ) (asked : Call) (outcome : Outcome) (found : Thread) → slice_get c.threads k ≡ Some found → (a : Activity) → found.activity ≡ a
    → begin_as c k start asked found.app a ≡ Some outcome → Called c k start asked outcome
called_as c k start asked outcome found there (activity.Running running) state is =
    let now : ((running == start) ≡ true) × (option_map swept (act c k found.app asked) ≡ Some outcome) =
    only_if (running == start) (option_map swept (act c k found.app asked)) outcome is in
    let inner : (o : Outcome) × (act c k found.app asked ≡ Some o) × (outcome ≡ swept o) = mapped swept (act c k found.app asked) outcome now.1 in
    record {
      found = found;
      there = there;
      ran = state ∙ ap (λ n. activity.Running n) (same_number running start now.0);
      inner = inner.0;
      done = inner.1;
      ends = inner.2;
    }
called_as c k start asked outcome found there activity.Off state is = absurd (cc)
called_as c k start asked outcome found there (activity.Waiting since wait) state is = absurd (cc)
called_as c k start asked outcome found there (activity.Ended since) state is = absurd (cc)

called_of : (c : CoreState) (k start : ℕ) (asked : Call) (outcome : Outcome) (o : Option Thread) → slice_get c.threads k ≡ o → begin_of c k start asked o ≡ Some outcome
    → Called c k start asked outcome
called_of c k start asked outcome None there is = absurd (cc)
called_of c k start asked outcome (Some found) there is = called_as c k start asked outcome found there found.activity refl is

pub called : (c : CoreState) (k start : ℕ) (asked : Call) (outcome : Outcome) → core_begin c k start asked ≡ Some outcome → Called c k start asked outcome
unfolding core_begin
called c k start asked outcome is = called_of c k start asked outcome (slice_get c.threads k) refl is

pub record Woken (c : CoreState) (k start : ℕ) (outcome : Outcome) : Type 0 where
  pub found : Thread
  pub there : slice_get c.threads k ≡ Some found
  pub wait : Wait
  pub waits : found.activity ≡ activity.Waiting start wait
  pub inner : Outcome
  pub done : end_of_wait c found.app wait ≡ Some inner
  pub ends : outcome ≡ resumed k inner

woken_as : (c : CoreState) (k start : ℕ) (outcome : Outcome) (found : Thread) → slice_get c.threads k ≡ Some found → (a : Activity) → found.activity ≡ a
    → resume_as c k start found.app a ≡ Some outcome → Woken c k start outcome
woken_as c k start outcome found there (activity.Waiting since wait) state is =
    let now : ((since == start) ≡ true) × (option_map (resumed k) (end_of_wait c found.app wait) ≡ Some outcome) =
    only_if (since == start) (option_map (resumed k) (end_of_wait c found.app wait)) outcome is in
    let inner : (o : Outcome) × (end_of_wait c found.app wait ≡ Some o) × (outcome ≡ resumed k o) = mapped (resumed k) (end_of_wait c found.app wait) outcome now.1 in
    record {
      found = found;
      there = there;
      wait = wait;
      waits = state ∙ ap (λ n. activity.Waiting n wait) (same_number since start now.0);
      inner = inner.0;
      done = inner.1;
      ends = inner.2;
    }
woken_as c k start outcome found there activity.Off state is = absurd (cc)
woken_as c k start outcome found there (activity.Running since) state is = absurd (cc)
woken_as c k start outcome found there (activity.Ended since) state is = absurd (cc)

woken_of : (c : CoreState) (k start : ℕ) (outcome : Outcome) (o : Option Thread) → slice_get c.threads k ≡ o → resume_of c k start o ≡ Some outcome → Woken c k start outcome
woken_of c k start outcome None there is = absurd (cc)
woken_of c k start outcome (Some found) there is = woken_as c k start outcome found there found.activity refl is

pub woken : (c : CoreState) (k start : ℕ) (outcome : Outcome) → core_resume c k start ≡ Some outcome → Woken c k start outcome
unfolding core_resume
woken c k start outcome is = woken_of c k start outcome (slice_get c.threads k) refl is

-- The same of a client.

pub record ClientCalled (s : State) (k start : ℕ) (asked : Call) (acted : Acted) : Type 0 where
  pub found : ClientState
  pub there : slice_get s.world.clients k ≡ Some found
  pub ran : found.activity ≡ client_activity.Running start
  pub done : ns_act s.core.clock k asked s.world ≡ Some acted

client_called_as : (s : State) (k start : ℕ) (asked : Call) (acted : Acted) (found : ClientState) → slice_get s.world.clients k ≡ Some found → (a : ClientActivity) → found.activity ≡ a
    → client_call_as s k start asked a ≡ Some acted → ClientCalled s k start asked acted
client_called_as s k start asked acted found there (client_activity.Running running) state is =
    let now : ((running == start) ≡ true) × (ns_act s.core.clock k asked s.world ≡ Some acted) = only_if (running == start) (ns_act s.core.clock k asked s.world) acted is in
    record { found = found; there = there; ran = state ∙ ap (λ n. client_activity.Running n) (same_number running start now.0); done = now.1 }
client_called_as s k start asked acted found there (client_activity.Waiting since wait) state is = absurd (cc)
client_called_as s k start asked acted found there (client_activity.Ended since) state is = absurd (cc)

client_called_of : (s : State) (k start : ℕ) (asked : Call) (acted : Acted) (o : Option ClientState) → slice_get s.world.clients k ≡ o → client_call_of s k start asked o ≡ Some acted
    → ClientCalled s k start asked acted
client_called_of s k start asked acted None there is = absurd (cc)
client_called_of s k start asked acted (Some found) there is = client_called_as s k start asked acted found there found.activity refl is

pub client_called : (s : State) (k start : ℕ) (asked : Call) (acted : Acted) → client_begin s k start asked ≡ Some acted → ClientCalled s k start asked acted
unfolding client_begin
client_called s k start asked acted is = client_called_of s k start asked acted (slice_get s.world.clients k) refl is

pub record ClientWoken (s : State) (k start : ℕ) (acted : Acted) : Type 0 where
  pub found : ClientState
  pub there : slice_get s.world.clients k ≡ Some found
  pub wait : ClientWait
  pub waits : found.activity ≡ client_activity.Waiting start wait
  pub inner : Acted
  pub done : end_of_ns_wait s.core.clock wait (drained s.world) ≡ Some inner
  pub ends : acted ≡ runs_again k inner

client_woken_as : (s : State) (k start : ℕ) (acted : Acted) (found : ClientState) → slice_get s.world.clients k ≡ Some found → (a : ClientActivity) → found.activity ≡ a
    → client_resume_as s k start a ≡ Some acted → ClientWoken s k start acted
client_woken_as s k start acted found there (client_activity.Waiting since wait) state is =
    let over : Option Acted = end_of_ns_wait s.core.clock wait (drained s.world) in
    let now : ((since == start) ≡ true) × (option_map (runs_again k) over ≡ Some acted) = only_if (since == start) (option_map (runs_again k) over) acted is in
    let inner : (x : Acted) × (over ≡ Some x) × (acted ≡ runs_again k x) = mapped (runs_again k) over acted now.1 in
    record {
      found = found;
      there = there;
      wait = wait;
      waits = state ∙ ap (λ n. client_activity.Waiting n wait) (same_number since start now.0);
      inner = inner.0;
      done = inner.1;
      ends = inner.2;
    }
client_woken_as s k start acted found there (client_activity.Running since) state is = absurd (cc)
client_woken_as s k start acted found there (client_activity.Ended since) state is = absurd (cc)

client_woken_of : (s : State) (k start : ℕ) (acted : Acted) (o : Option ClientState) → slice_get s.world.clients k ≡ o → client_resume_of s k start o ≡ Some acted → ClientWoken s k start acted
client_woken_of s k start acted None there is = absurd (cc)
client_woken_of s k start acted (Some found) there is = client_woken_as s k start acted found there found.activity refl is

pub client_woken : (s : State) (k start : ℕ) (acted : Acted) → client_resume s k start ≡ Some acted → ClientWoken s k start acted
unfolding client_resume
client_woken s k start acted is = client_woken_of s k start acted (slice_get s.world.clients k) refl is
