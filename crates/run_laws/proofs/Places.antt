-- Where each thread stands, by the start that it is in; and what every change of threads and starts keeps of it.
use Rattle.std.proofs.Common.{◌≡◌, ℕ, zero, suc, ◌+◌, ◌<◌, ◌≤◌, Bool, true, false, cond, List, [], ◌∷◌, map, Option, Some, None, refl, ap, sym, ◌∙◌, subst, arith, inl, inr}
use Rattle.std.proofs.lemmas.Bool.{cases_eq}
use Rattle.std.proofs.lemmas.Bool.Decides.{nat_tests}
use Rattle.std.specs.Prelude.{◌⊎◌, slice_get, slice_set, ◌==◌}
use Rattle.std.specs.Option.{option_map}
use Rattle.kernel_values.specs.declared.entry.Entry.{Entry}
use Rattle.kernel_values.specs.declared.state.Activity.{Activity}
use Rattle.kernel_values.specs.declared.state.Activity.TheVariants as activity
use Rattle.kernel_values.specs.declared.state.Application.{Application}
use Rattle.kernel_values.specs.declared.state.CoreState.{CoreState}
use Rattle.kernel_values.specs.declared.state.Thread.{Thread}
use Rattle.kernel_values.specs.declared.state.Wait.{Wait}
use Rattle.kernel_types.specs.Applications.{started, started_as, started_app, started_thread, ended_app, ended_activity, ended_thread, without_app, application_ended, is_started_again}
use Rattle.kernel_types.specs.Objects.{set_if, map_at}
use Rattle.kernel_types.specs.CoreStep.{cancelled_activity, core_idle, status_of}
use Rattle.kernel_types.specs.Threads.{with_activity, activity_changed, waiting_activity, running_activity}
use Rattle.step_laws.proofs.Leaving.{Quiet, starts_of, starts_stay}
use Rattle.run_laws.proofs.Standings.{Standings}

abbrev pub start_of : Activity → ℕ
start_of activity.Off = 0
start_of (activity.Running start) = start
start_of (activity.Waiting start wait) = start
start_of (activity.Ended start) = start

-- its start is none that its application has not had yet, and by a later one it did nothing
pub record Known (S : Standings) (entries : List Entry) (starts : List ℕ) (k app start : ℕ) : Type 0 where
  pub bound : (n : ℕ) → slice_get starts app ≡ Some n → start ≤ n
  pub later : (n s : ℕ) → slice_get starts app ≡ Some n → n < s → S.unused entries k s
  pub thread : S.thread k

pub record Stands (S : Standings) (entries : List Entry) (starts : List ℕ) (k : ℕ) (thread : Thread) : Type 0 where
  pub known : Known S entries starts k thread.app (start_of thread.activity)
  pub fits : S.fits entries k (status_of thread.activity)

abbrev pub AllKnown : Standings → List Entry → List ℕ → List Thread → Type 0
AllKnown S entries starts threads = (k : ℕ) (thread : Thread) → slice_get threads k ≡ Some thread → Known S entries starts k thread.app (start_of thread.activity)

abbrev pub AllStand : Standings → List Entry → CoreState → Type 0
AllStand S entries c = (k : ℕ) (thread : Thread) → slice_get c.threads k ≡ Some thread → Stands S entries (starts_of c.apps) k thread

-- all but one stand
pub record AllBut (S : Standings) (entries : List Entry) (k : ℕ) (starts : List ℕ) (threads : List Thread) : Type 0 where
  pub known : AllKnown S entries starts threads
  pub others : (j : ℕ) (thread : Thread) → slice_get threads j ≡ Some thread → (j ≡ k → ⊥) → S.fits entries j (status_of thread.activity)

-- Lists of which one item or all items changed.

pub set_get : {X : Type 0} (xs : List X) (at j : ℕ) (z y : X) → slice_get (slice_set xs at z) j ≡ Some y
    → (((j ≡ at) → ⊥) × (slice_get xs j ≡ Some y)) ⊎ ((j ≡ at) × (y ≡ z))
set_get [] at j z y is = absurd (cc)
set_get (x ∷ xs) zero zero z y is = inr (refl, let e : z ≡ y = cc in sym e)
set_get (x ∷ xs) zero (suc j) z y is = inl ((λ e. absurd (omega (arith, e))), is)
set_get (x ∷ xs) (suc at) zero z y is = inl ((λ e. absurd (omega (arith, e))), is)
set_get (x ∷ xs) (suc at) (suc j) z y is = elim (set_get xs at j z y is) [
  | inl p ↦ inl ((λ e. p.0 (omega (arith, e))), p.1)
  | inr p ↦ inr (ap (λ n. suc n) p.0, p.1)
]

set_if_get : {X : Type 0} (f : X → X) (xs : List X) (at : ℕ) (o : Option X) → slice_get xs at ≡ o → (j : ℕ) (y : X) → slice_get (set_if xs at (option_map f o)) j ≡ Some y
    → (((j ≡ at) → ⊥) × (slice_get xs j ≡ Some y)) ⊎ ((j ≡ at) × (x : X) × (slice_get xs j ≡ Some x) × (y ≡ f x))
set_if_get f xs at None o_is j y is = inl ((λ e. absurd (cc)), is)
set_if_get f xs at (Some x) o_is j y is = elim (set_get xs at j (f x) y is) [
  | inl p ↦ inl p
  | inr p ↦ inr (p.0, x, ap (λ n. slice_get xs n) p.0 ∙ o_is, p.1)
]

pub map_at_get : {X : Type 0} (f : X → X) (xs : List X) (at j : ℕ) (y : X) → slice_get (map_at f xs at) j ≡ Some y
    → (((j ≡ at) → ⊥) × (slice_get xs j ≡ Some y)) ⊎ ((j ≡ at) × (x : X) × (slice_get xs j ≡ Some x) × (y ≡ f x))
map_at_get f xs at j y is = set_if_get f xs at (slice_get xs at) refl j y is

pub map_get : {X Y : Type 0} (f : X → Y) (xs : List X) (j : ℕ) (y : Y) → slice_get (map f xs) j ≡ Some y → (x : X) × (slice_get xs j ≡ Some x) × (f x ≡ y)
map_get f [] j y is = absurd (cc)
map_get f (x ∷ xs) zero y is = (x, refl, let e : f x ≡ y = cc in e)
map_get f (x ∷ xs) (suc j) y is = map_get f xs j y is

pub get_map : {X Y : Type 0} (f : X → Y) (xs : List X) (j : ℕ) (x : X) → slice_get xs j ≡ Some x → slice_get (map f xs) j ≡ Some (f x)
get_map f [] j x is = absurd (cc)
get_map f (y ∷ xs) zero x is = let e : y ≡ x = cc in ap (λ z. Some (f z)) e
get_map f (y ∷ xs) (suc j) x is = get_map f xs j x is

pub same_number : (a b : ℕ) → (a == b) ≡ true → a ≡ b
same_number a b is = grind (arith, nat_tests)

pub apart : (a b : ℕ) → (a == b) ≡ false → a ≡ b → ⊥
apart a b is same = grind (arith, nat_tests)

-- Changes of what one thread does leave its start.

pub same_start_waiting : (w : Wait) (a : Activity) → start_of a ≡ start_of (waiting_activity w a)
same_start_waiting w activity.Off = refl
same_start_waiting w (activity.Running start) = refl
same_start_waiting w (activity.Waiting start wait) = refl
same_start_waiting w (activity.Ended start) = refl

pub same_start_running : (a : Activity) → start_of a ≡ start_of (running_activity a)
same_start_running activity.Off = refl
same_start_running (activity.Running start) = refl
same_start_running (activity.Waiting start wait) = refl
same_start_running (activity.Ended start) = refl

same_start_cancelled : (a : Activity) → start_of a ≡ start_of (cancelled_activity a)
same_start_cancelled activity.Off = refl
same_start_cancelled (activity.Running start) = refl
same_start_cancelled (activity.Waiting start wait) = refl
same_start_cancelled (activity.Ended start) = refl

same_status_cancelled : (a : Activity) → status_of a ≡ status_of (cancelled_activity a)
same_status_cancelled activity.Off = refl
same_status_cancelled (activity.Running start) = refl
same_status_cancelled (activity.Waiting start wait) = refl
same_status_cancelled (activity.Ended start) = refl

pub same_start_ended : (a : Activity) → start_of a ≡ start_of (ended_activity a)
same_start_ended activity.Off = refl
same_start_ended (activity.Running start) = refl
same_start_ended (activity.Waiting start wait) = refl
same_start_ended (activity.Ended start) = refl

-- Changes of threads and starts.

module _ (S : Standings) (entries : List Entry) where
  -- what a quiet change leaves

  pub quiet_stands : (c d : CoreState) → Quiet c d → AllStand S entries c → AllStand S entries d
  quiet_stands c d q all k thread is =
      subst (λ ns. Stands S entries ns k thread) (sym q.starts) (all k thread (sym (ap (λ ts. slice_get ts k) q.threads) ∙ is))

  pub quiet_but : (c d : CoreState) (k : ℕ) → Quiet c d → AllBut S entries k (starts_of c.apps) c.threads → AllBut S entries k (starts_of d.apps) d.threads
  quiet_but c d k q but =
      subst (λ ts. AllBut S entries k (starts_of d.apps) ts) (sym q.threads) (subst (λ ns. AllBut S entries k ns c.threads) (sym q.starts) but)

  -- all, with the one that was left out

  pub all_with : (c : CoreState) (k : ℕ) → AllBut S entries k (starts_of c.apps) c.threads
      → ((thread : Thread) → slice_get c.threads k ≡ Some thread → S.fits entries k (status_of thread.activity)) → AllStand S entries c
  all_with c k but own j thread is = record {
    known = but.known j thread is;
    fits = elim (cases_eq j k) [
      | inl same ↦ subst (λ n. S.fits entries n (status_of thread.activity)) (sym same) (own thread (ap (λ n. slice_get c.threads n) (sym same) ∙ is))
      | inr other ↦ but.others j thread is other
    ];
  }

  -- which does something else now
  pub all_changed : (change : Activity → Activity) → ((a : Activity) → start_of a ≡ start_of (change a)) → (c : CoreState) (k : ℕ)
      → AllBut S entries k (starts_of c.apps) c.threads
      → ((thread : Thread) → slice_get c.threads k ≡ Some thread → S.fits entries k (status_of (change thread.activity)))
      → AllStand S entries (with_activity change k c)
  all_changed change same_start c k but own j thread is = elim (map_at_get (activity_changed change) c.threads k j thread is) [
    | inl old ↦ record { known = but.known j thread old.1; fits = but.others j thread old.1 old.0 }
    | inr new ↦ let was : Thread = new.1 in
        subst (λ (t : Thread). Stands S entries (starts_of c.apps) j t) (sym new.3) (record {
          known = subst (λ n. Known S entries (starts_of c.apps) j was.app n) (same_start was.activity) (but.known j was new.2);
          fits = subst (λ n. S.fits entries n (status_of (change was.activity))) (sym new.0) (own was (ap (λ n. slice_get c.threads n) (sym new.0) ∙ new.2));
        })
  ]

  -- every wait is cancelled
  pub idle_stands : (c : CoreState) (deadline : Option ℕ) → AllStand S entries c → AllStand S entries (core_idle deadline c)
  unfolding core_idle
  idle_stands c (Some deadline) all k thread is = all k thread is
  idle_stands c None all k thread is =
      let from : (x : Thread) × (slice_get c.threads k ≡ Some x) × (activity_changed cancelled_activity x ≡ thread) = map_get (activity_changed cancelled_activity) c.threads k thread is in
      let was : Thread = from.0 in
      let stands : Stands S entries (starts_of c.apps) k was = all k was from.1 in
      subst (λ (t : Thread). Stands S entries (starts_of c.apps) k t) from.2 (record {
        known = subst (λ n. Known S entries (starts_of c.apps) k was.app n) (same_start_cancelled was.activity) stands.known;
        fits = subst (λ x. S.fits entries k x) (same_status_cancelled was.activity) stands.fits;
      })

  -- an application is started once more: each of its threads begins

  started_one : (starts : List ℕ) (app n k : ℕ) (was : Thread) (b : Bool) → slice_get starts app ≡ Some n → (was.app == app) ≡ b → Stands S entries starts k was
      → Stands S entries (slice_set starts app (n + 1)) k (cond b (record was { activity = activity.Running (n + 1) }) was)
  started_one starts app n k was true n_is b stands =
      let here : was.app ≡ app = same_number was.app app b in
      let had : slice_get starts was.app ≡ Some n = ap (λ a. slice_get starts a) here ∙ n_is in
      let now : (m : ℕ) → slice_get (slice_set starts app (n + 1)) was.app ≡ Some m → m ≡ n + 1 =
      λ m is. elim (set_get starts app was.app (n + 1) m is) [ inl p ↦ absurd (p.0 here) | inr p ↦ p.1 ] in
      record {
        known = record {
          bound = λ m is. omega (arith, now m is);
          later = λ m s is past. stands.known.later n s had (omega (arith, now m is, past));
          thread = stands.known.thread;
        };
        fits = S.begins entries k (n + 1) (stands.known.later n (n + 1) had (omega arith));
      }
  started_one starts app n k was false n_is b stands =
      let old : (m : ℕ) → slice_get (slice_set starts app (n + 1)) was.app ≡ Some m → slice_get starts was.app ≡ Some m =
      λ m is. elim (set_get starts app was.app (n + 1) m is) [ inl p ↦ p.1 | inr p ↦ absurd (apart was.app app b p.0) ] in
      record {
        known = record {
          bound = λ m is. stands.known.bound m (old m is);
          later = λ m s is past. stands.known.later m s (old m is) past;
          thread = stands.known.thread;
        };
        fits = stands.fits;
      }

  starts_set : (apps : List Application) (at : ℕ) (x : Application) → starts_of (slice_set apps at x) ≡ slice_set (starts_of apps) at x.starts
  starts_set [] at x = refl
  starts_set (first ∷ apps) zero x = refl
  starts_set (first ∷ apps) (suc at) x = ap (λ ns. first.starts ∷ ns) (starts_set apps at x)

  started_as_stands : (app : ℕ) (o : Option Application) (c : CoreState) → slice_get c.apps app ≡ o → AllStand S entries c → AllStand S entries (started_as app o c)
  started_as_stands app None c o_is all k thread is = all k thread is
  started_as_stands app (Some was) c o_is all k thread is =
      let from : (x : Thread) × (slice_get c.threads k ≡ Some x) × (started_thread app (was.starts + 1) x ≡ thread) = map_get (started_thread app (was.starts + 1)) c.threads k thread is in
      let n_is : slice_get (starts_of c.apps) app ≡ Some was.starts = get_map (λ (a : Application). a.starts) c.apps app was o_is in
      let starts_are : starts_of (map_at started_app c.apps app) ≡ slice_set (starts_of c.apps) app (was.starts + 1) =
      ap (λ (o : Option Application). starts_of (set_if c.apps app (option_map started_app o))) o_is ∙ starts_set c.apps app (started_app was) in
      subst (λ ns. Stands S entries ns k thread) (sym starts_are)
      (subst (λ (t : Thread). Stands S entries (slice_set (starts_of c.apps) app (was.starts + 1)) k t) from.2
      (started_one (starts_of c.apps) app was.starts k from.0 (from.0.app == app) n_is refl (all k from.0 from.1)))

  pub started_stands : (app : ℕ) (c : CoreState) → AllStand S entries c → AllStand S entries (started app c)
  unfolding started
  started_stands app c all = started_as_stands app (slice_get c.apps app) c refl all

  -- an application ends: only where the others stand has to be known

  pub fits_ended : (k : ℕ) (a : Activity) → S.fits entries k (status_of (ended_activity a))
  fits_ended k activity.Off = S.off entries k
  fits_ended k (activity.Running start) = S.ended entries k start
  fits_ended k (activity.Waiting start wait) = S.ended entries k start
  fits_ended k (activity.Ended start) = S.ended entries k start

  abbrev pub OthersFit : ℕ → CoreState → Type 0
  OthersFit app c = (k : ℕ) (thread : Thread) → slice_get c.threads k ≡ Some thread → (thread.app == app) ≡ false → S.fits entries k (status_of thread.activity)

  ended_one : (starts : List ℕ) (app k : ℕ) (was : Thread) (b : Bool) → (was.app == app) ≡ b → Known S entries starts k was.app (start_of was.activity)
      → ((was.app == app) ≡ false → S.fits entries k (status_of was.activity)) → Stands S entries starts k (cond b (record was { activity = ended_activity was.activity }) was)
  ended_one starts app k was true is known fits = record {
    known = subst (λ n. Known S entries starts k was.app n) (same_start_ended was.activity) known;
    fits = fits_ended k was.activity;
  }
  ended_one starts app k was false is known fits = record { known = known; fits = fits is }

  without_stands : (app : ℕ) (c : CoreState) → AllKnown S entries (starts_of c.apps) c.threads → OthersFit app c → AllStand S entries (without_app app c)
  without_stands app c known fits k thread is =
      let from : (x : Thread) × (slice_get c.threads k ≡ Some x) × (ended_thread app x ≡ thread) = map_get (ended_thread app) c.threads k thread is in
      let starts_are : starts_of (map_at ended_app c.apps app) ≡ starts_of c.apps = starts_stay ended_app (λ a. refl) c.apps app in
      subst (λ ns. Stands S entries ns k thread) (sym starts_are)
      (subst (λ (t : Thread). Stands S entries (starts_of c.apps) k t) from.2
      (ended_one (starts_of c.apps) app k from.0 (from.0.app == app) refl (known k from.0 from.1) (fits k from.0 from.1)))

  again_if : (b : Bool) (app : ℕ) (c : CoreState) → AllStand S entries c → AllStand S entries (cond b (started app c) c)
  again_if true app c all = started_stands app c all
  again_if false app c all = all

  pub ended_stands : (app : ℕ) (c : CoreState) → AllKnown S entries (starts_of c.apps) c.threads → OthersFit app c → AllStand S entries (application_ended app c)
  unfolding application_ended
  ended_stands app c known fits = again_if (is_started_again (slice_get c.apps app)) app (without_app app c) (without_stands app c known fits)
