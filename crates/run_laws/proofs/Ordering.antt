-- The next turn of the serial order, by two walks over the actors; and that without one the run is whole.
use Rattle.std.proofs.Common.{◌≡◌, ℕ, suc, ◌+◌, ◌-◌, ◌<◌, ◌≤◌, Bool, true, false, cond, List, [], ◌∷◌, ◌++◌, length, Option, Some, None, refl, ap, sym, ◌∙◌, subst, arith, append-nil, zero-add, inl, inr}
use Rattle.std.proofs.lemmas.Bool.{cases_lt}
use Rattle.std.specs.Prelude.{slice_get, not, ◌&&◌, ◌||◌}
use Rattle.std.specs.List.{find, filter, range_with_len, list_any, list_all}
use Rattle.std.specs.Option.{option_or}
use Rattle.std.proofs.lemmas.Option.{slice_get_within}
use Rattle.std.proofs.lemmas.List.Folds.{find-append}
use Rattle.std.proofs.lemmas.List.Elements.{filter-append}
use Rattle.std.proofs.lemmas.Bool.Decides.{nat_tests}
use Rattle.kernel_values.specs.declared.entry.ActorStatus.{ActorStatus}
use Rattle.kernel_values.specs.declared.entry.ActorStatus.TheVariants as status
use Rattle.kernel_values.specs.declared.scene.Turn.TheVariants as turn
use Rattle.kernel_values.specs.declared.state.Activity.{Activity}
use Rattle.kernel_values.specs.declared.state.Activity.TheVariants as activity
use Rattle.kernel_values.specs.declared.world.ClientActivity.{ClientActivity}
use Rattle.kernel_values.specs.declared.world.ClientActivity.TheVariants as client_activity
use Rattle.kernel_values.specs.declared.world.ClientState.{ClientState}
use Rattle.kernel_values.specs.declared.state.State.{State}
use Rattle.kernel_values.specs.declared.state.Thread.{Thread}
use Rattle.kernel_types.specs.Clients.{client_may_move}
use Rattle.kernel_types.specs.Facts.{status_at, is_at_end}
use Rattle.kernel_types.specs.CoreStep.{status_of}
use Rattle.kernel_types.specs.Step.{statuses, has_begun_and_goes_on, is_running, device_has_work, any_may_move, client_may_move_if, client_movable, client_status, movable, idle_lawful}
use Rattle.kernel_types.specs.Turns.{takes_turn, is_later, actors_in_turn, kernel_turn, turn_or_kernel, next_turn}
use Rattle.kernel_types.specs.Waits.{thread_may_move, activity_may_move, thread_movable, may_move}
use Rattle.kernel_types.proofs.Actors.{client_moves, status_of_client, status_of_thread, thread_is_thread, thread_moves}
use Rattle.run_laws.specs.Order.{first_after, IsBelow}
use Rattle.run_laws.proofs.Numbers.{range_split, filter_all, filter_none, passed_all}

-- the actors after the last one, and those up to it

later_from : (last : Option ℕ) (k : ℕ) → first_after last ≤ k → is_later last k ≡ true
later_from None k low = refl
later_from (Some last) k low = grind (arith, nat_tests)

earlier_below : (last : Option ℕ) (k : ℕ) → k < first_after last → is_later last k ≡ false
earlier_below None k high = absurd (omega arith)
earlier_below (Some last) k high = grind (arith, nat_tests)

split_at : (first count : ℕ) → first ≤ count → range_with_len 0 count ≡ range_with_len 0 first ++ range_with_len first (count - first)
split_at first count low =
    let sum : count ≡ first + (count - first) = omega (arith, low) in
    let start : 0 + first ≡ first = zero-add first in
    ap (λ n. range_with_len 0 n) sum ∙ (range_split 0 first (count - first) ∙ ap (λ a. range_with_len 0 first ++ range_with_len a (count - first)) start)

filter_by : (q : ℕ → Bool) (first count : ℕ) → first ≤ count → filter q (range_with_len 0 count) ≡ filter q (range_with_len 0 first) ++ filter q (range_with_len first (count - first))
filter_by q first count low = ap (λ ks. filter q ks) (split_at first count low) ∙ filter-append q (range_with_len 0 first) (range_with_len first (count - first))

in_turn_is : (last : Option ℕ) (count : ℕ) → first_after last ≤ count
    → actors_in_turn last count ≡ range_with_len (first_after last) (count - first_after last) ++ range_with_len 0 (first_after last)
in_turn_is last count low =
    let first : ℕ = first_after last in
    let later : ℕ → Bool = is_later last in
    let earlier : ℕ → Bool = λ k. not (is_later last k) in
    let none_before : filter later (range_with_len 0 first) ≡ [] = filter_none later 0 first (λ k a b. earlier_below last k (omega (arith, b))) in
    let all_after : filter later (range_with_len first (count - first)) ≡ range_with_len first (count - first) =
    filter_all later first (count - first) (λ k a b. later_from last k a) in
    let all_before : filter earlier (range_with_len 0 first) ≡ range_with_len 0 first =
    filter_all earlier 0 first (λ k a b. ap (λ x. not x) (earlier_below last k (omega (arith, b)))) in
    let none_after : filter earlier (range_with_len first (count - first)) ≡ [] =
    filter_none earlier first (count - first) (λ k a b. ap (λ x. not x) (later_from last k a)) in
    let front : filter later (range_with_len 0 count) ≡ range_with_len first (count - first) =
    filter_by later first count low ∙ (ap (λ ks. ks ++ filter later (range_with_len first (count - first))) none_before ∙ all_after) in
    let back : filter earlier (range_with_len 0 count) ≡ range_with_len 0 first =
    filter_by earlier first count low ∙ (ap (λ ks. filter earlier (range_with_len 0 first) ++ ks) none_after ∙ (append-nil _ ∙ all_before)) in
    ap (λ ks. ks ++ filter earlier (range_with_len 0 count)) front ∙ ap (λ ks. range_with_len first (count - first) ++ ks) back

walks : (s : State) (last : Option ℕ) (count : ℕ) → count ≡ length (statuses s) → first_after last ≤ count
    → next_turn s last ≡ turn_or_kernel s (option_or (find (takes_turn s) (range_with_len (first_after last) (count - first_after last))) (find (takes_turn s) (range_with_len 0 (first_after last))))
unfolding next_turn
walks s last count is low =
    ap (λ n. turn_or_kernel s (find (takes_turn s) (actors_in_turn last n))) (sym is)
    ∙ (ap (λ ks. turn_or_kernel s (find (takes_turn s) ks)) (in_turn_is last count low)
    ∙ ap (λ o. turn_or_kernel s o) (find-append (takes_turn s) (range_with_len (first_after last) (count - first_after last)) (range_with_len 0 (first_after last))))

-- with the first actor that is asked, and the number of actors

pub record Asks (s : State) (last : Option ℕ) (first count : ℕ) : Type 0 where
  pub first_is : first ≡ first_after last
  pub count_is : count ≡ length (statuses s)
  pub low : first ≤ count

pub first_low : (count : ℕ) (last : Option ℕ) → IsBelow count last → first_after last ≤ count
first_low count None below = omega arith
first_low count (Some last) below = omega (arith, below)

-- with these numbers
pub asks : (s : State) (last : Option ℕ) (first count many : ℕ) → first ≡ first_after last → count ≡ length (statuses s) → count ≡ many → IsBelow many last → Asks s last first count
asks s last first count many first_is count_is many_is below =
    let low : first_after last ≤ many = first_low many last below in
    record { first_is = first_is; count_is = count_is; low = omega (arith, low, first_is, many_is) }

walks_from : (s : State) (last : Option ℕ) (first count : ℕ) → Asks s last first count
    → next_turn s last ≡ turn_or_kernel s (option_or (find (takes_turn s) (range_with_len first (count - first))) (find (takes_turn s) (range_with_len 0 (first - 0))))
walks_from s last first count a =
    let all : first - 0 ≡ first = omega arith in
    let w : next_turn s last ≡ turn_or_kernel s (option_or (find (takes_turn s) (range_with_len (first_after last) (count - first_after last))) (find (takes_turn s) (range_with_len 0 (first_after last)))) =
    walks s last count a.count_is (subst (λ n. n ≤ count) a.first_is a.low) in
    w ∙ (ap (λ n. turn_or_kernel s (option_or (find (takes_turn s) (range_with_len n (count - n))) (find (takes_turn s) (range_with_len 0 n)))) (sym a.first_is)
    ∙ ap (λ n. turn_or_kernel s (option_or (find (takes_turn s) (range_with_len first (count - first))) (find (takes_turn s) (range_with_len 0 n)))) (sym all))

pub turn_after : (s : State) (last : Option ℕ) (first count actor : ℕ) → Asks s last first count
    → Some actor ≡ find (takes_turn s) (range_with_len first (count - first)) → Some (turn.Actor actor) ≡ next_turn s last
turn_after s last first count actor a found =
    sym (walks_from s last first count a ∙ ap (λ o. turn_or_kernel s (option_or o (find (takes_turn s) (range_with_len 0 (first - 0))))) (sym found))

pub turn_up_to : (s : State) (last : Option ℕ) (first count actor : ℕ) → Asks s last first count → find (takes_turn s) (range_with_len first (count - first)) ≡ None
    → Some actor ≡ find (takes_turn s) (range_with_len 0 (first - 0)) → Some (turn.Actor actor) ≡ next_turn s last
turn_up_to s last first count actor a none_after found =
    sym (walks_from s last first count a ∙ (ap (λ o. turn_or_kernel s (option_or o (find (takes_turn s) (range_with_len 0 (first - 0))))) none_after ∙ ap (λ o. turn_or_kernel s o) (sym found)))

pub turn_of_none : (s : State) (last : Option ℕ) (first count : ℕ) → Asks s last first count → find (takes_turn s) (range_with_len first (count - first)) ≡ None
    → find (takes_turn s) (range_with_len 0 (first - 0)) ≡ None → next_turn s last ≡ kernel_turn s
turn_of_none s last first count a none_after none_before =
    walks_from s last first count a ∙ (ap (λ o. turn_or_kernel s (option_or o (find (takes_turn s) (range_with_len 0 (first - 0))))) none_after ∙ ap (λ o. turn_or_kernel s o) none_before)

pub below_more : (few many : ℕ) (last : Option ℕ) → few ≤ many → IsBelow few last → IsBelow many last
below_more few many None more below = below
below_more few many (Some last) more below = omega (arith, more, below)

-- the kernel's own turns

pub kernel_device : (s : State) → device_has_work s ≡ true → kernel_turn s ≡ Some turn.Device
kernel_device s works = rw works refl

pub kernel_idle : (s : State) → device_has_work s ≡ false → idle_lawful s ≡ true → kernel_turn s ≡ Some turn.Idle
kernel_idle s rests lawful = rw (rests, lawful) refl

pub kernel_none : (s : State) → device_has_work s ≡ false → idle_lawful s ≡ false → kernel_turn s ≡ None
kernel_none s rests unlawful = rw (rests, unlawful) refl

-- where no actor takes a turn

no_turn_by : (s : State) (found : Option ℕ) → turn_or_kernel s found ≡ None → (found ≡ None) × (kernel_turn s ≡ None)
no_turn_by s None is = (refl, is)
no_turn_by s (Some actor) is = absurd (cc)

both_none : (one other : Option ℕ) → option_or one other ≡ None → (one ≡ None) × (other ≡ None)
both_none None other is = (refl, is)
both_none (Some actor) other is = absurd (cc)

nobody : (s : State) (last : Option ℕ) → first_after last ≤ length (statuses s) → next_turn s last ≡ None
    → (kernel_turn s ≡ None) × ((k : ℕ) → k < length (statuses s) → takes_turn s k ≡ false)
nobody s last low is =
    let first : ℕ = first_after last in
    let count : ℕ = length (statuses s) in
    let split : (option_or (find (takes_turn s) (range_with_len first (count - first))) (find (takes_turn s) (range_with_len 0 first)) ≡ None) × (kernel_turn s ≡ None) =
    no_turn_by s _ (sym (walks s last count refl low) ∙ is) in
    let nones : (find (takes_turn s) (range_with_len first (count - first)) ≡ None) × (find (takes_turn s) (range_with_len 0 first) ≡ None) = both_none _ _ split.0 in (
      split.1,
      λ k below. elim (cases_lt k first) [
        | inl before ↦ passed_all (takes_turn s) 0 first nones.1 k (omega arith) (omega (arith, before))
        | inr after ↦ passed_all (takes_turn s) first (count - first) nones.0 k after (omega (arith, below, low))
      ],
    )

any_none : {A : Type 0} (p : A → Bool) (xs : List A) → ((k : ℕ) (x : A) → slice_get xs k ≡ Some x → p x ≡ false) → list_any p xs ≡ false
any_none p [] h = refl
any_none p (x ∷ xs) h = rw (h 0 x refl) (any_none p xs (λ k y is. h (suc k) y is))

all_of_first : {A : Type 0} (p : A → Bool) (x : A) (xs : List A) (b : Bool) → p x ≡ b → list_any p (x ∷ xs) ≡ false
    → (list_any p xs ≡ false → list_all (λ y. not (p y)) xs ≡ true) → list_all (λ y. not (p y)) (x ∷ xs) ≡ true
all_of_first p x xs true is h rest = absurd (cc (rw is at h))
all_of_first p x xs false is h rest = rw is (rest (rw is at h))

all_of_none : {A : Type 0} (p : A → Bool) (xs : List A) → list_any p xs ≡ false → list_all (λ x. not (p x)) xs ≡ true
all_of_none p [] h = refl
all_of_none p (x ∷ xs) h = all_of_first p x xs (p x) refl h (λ g. all_of_none p xs g)

-- nobody runs

not_running : (s : State) (k : ℕ) (x : ActorStatus) → status_at s k ≡ Some x → takes_turn s k ≡ false → is_running x ≡ false
not_running s k status.Off is never = refl
not_running s k (status.Running start) is never = absurd (cc (rw is at never))
not_running s k (status.Waiting start) is never = refl
not_running s k (status.Ended start) is never = refl

within : {A : Type 0} (xs : List A) (k : ℕ) (x : A) → slice_get xs k ≡ Some x → k < length xs
within xs k x is = slice_get_within xs k x is

none_runs : (s : State) → ((k : ℕ) → k < length (statuses s) → takes_turn s k ≡ false) → list_any is_running (statuses s) ≡ false
none_runs s never = any_none is_running (statuses s) (λ k x is. not_running s k x is (never k (within (statuses s) k x is)))

-- nobody may move

activity_stays : (s : State) (k : ℕ) (thread : Thread) (a : Activity) → thread.activity ≡ a → slice_get s.core.threads k ≡ Some thread → status_at s k ≡ Some (status_of a)
    → takes_turn s k ≡ false → activity_may_move s.core thread.app a ≡ false
unfolding thread_movable
activity_stays s k thread activity.Off a_is is status_is never = refl
activity_stays s k thread (activity.Running start) a_is is status_is never = refl
activity_stays s k thread (activity.Waiting start wait) a_is is status_is never =
    let never_moves : movable s k ≡ false = rw status_is at never in
    let stays : may_move s.core (Some thread) ≡ false =
    sym (ap (λ (t : Option Thread). may_move s.core t) is) ∙ (sym (thread_moves s k (thread_is_thread s k thread is)) ∙ never_moves) in
    ap (λ (b : Activity). activity_may_move s.core thread.app b) (sym a_is) ∙ stays
activity_stays s k thread (activity.Ended start) a_is is status_is never = refl

client_stays : (s : State) (k : ℕ) (client : ClientState) (a : ClientActivity) → client.activity ≡ a → slice_get s.world.clients k ≡ Some client
    → status_at s (length s.core.threads + k) ≡ Some (client_status a) → takes_turn s (length s.core.threads + k) ≡ false → client_may_move s.core.clock s.world a ≡ false
unfolding client_movable
client_stays s k client (client_activity.Running start) a_is is status_is never = refl
client_stays s k client (client_activity.Waiting start wait) a_is is status_is never =
    let never_moves : movable s (length s.core.threads + k) ≡ false = rw status_is at never in
    let stays : client_may_move_if s (Some client) ≡ false =
    sym (ap (λ (c : Option ClientState). client_may_move_if s c) is) ∙ (sym (client_moves s k) ∙ never_moves) in
    ap (λ (b : ClientActivity). client_may_move s.core.clock s.world b) (sym a_is) ∙ stays
client_stays s k client (client_activity.Ended start) a_is is status_is never = refl

neither : (one other : Bool) → one ≡ false → other ≡ false → (one || other) ≡ false
neither one other p q = rw (p, q) refl

none_moves : (s : State) → ((k : ℕ) → k < length (statuses s) → takes_turn s k ≡ false) → any_may_move s ≡ false
none_moves s never =
    let n : ℕ = length s.core.threads in
    neither (list_any (thread_may_move s.core) s.core.threads) (list_any (λ (client : ClientState). client_may_move s.core.clock s.world client.activity) s.world.clients)
    (any_none (thread_may_move s.core) s.core.threads (λ k thread is.
    let status_is : status_at s k ≡ Some (status_of thread.activity) = status_of_thread s k thread is in
    activity_stays s k thread thread.activity refl is status_is (never k (within (statuses s) k (status_of thread.activity) status_is))))
    (any_none (λ (client : ClientState). client_may_move s.core.clock s.world client.activity) s.world.clients (λ k client is.
    let status_is : status_at s (n + k) ≡ Some (client_status client.activity) = status_of_client s k client is in
    client_stays s k client client.activity refl is status_is (never (n + k) (within (statuses s) (n + k) (client_status client.activity) status_is))))

-- so the run is whole: else Idle would be lawful

ends_by : (goes device idle : Bool) → (idle ≡ goes && not device) → cond device (Some turn.Device) (cond idle (Some turn.Idle) None) ≡ None
    → (goes ≡ false) × (device ≡ false)
ends_by goes true idle is none_left = absurd (cc)
ends_by true false true is none_left = absurd (cc)
ends_by true false false is none_left = absurd (cc)
ends_by false false idle is none_left = (refl, refl)

idle_is : (goes runs moves device : Bool) → runs ≡ false → moves ≡ false → goes && not runs && not moves && not device ≡ goes && not device
idle_is goes true moves device p q = absurd (cc)
idle_is goes false true device p q = absurd (cc)
idle_is true false false device p q = refl
idle_is false false false device p q = refl

idle_where : (s : State) → list_any is_running (statuses s) ≡ false → any_may_move s ≡ false
    → idle_lawful s ≡ list_any has_begun_and_goes_on (statuses s) && not (device_has_work s)
unfolding idle_lawful
idle_where s p q = idle_is (list_any has_begun_and_goes_on (statuses s)) (list_any is_running (statuses s)) (any_may_move s) (device_has_work s) p q

pub whole_at_end : (s : State) (last : Option ℕ) → first_after last ≤ length (statuses s) → next_turn s last ≡ None → is_at_end s ≡ true
unfolding is_at_end
whole_at_end s last low is =
    let left : (kernel_turn s ≡ None) × ((k : ℕ) → k < length (statuses s) → takes_turn s k ≡ false) = nobody s last low is in
    let over : (list_any has_begun_and_goes_on (statuses s) ≡ false) × (device_has_work s ≡ false) =
    ends_by (list_any has_begun_and_goes_on (statuses s)) (device_has_work s) (idle_lawful s) (idle_where s (none_runs s left.1) (none_moves s left.1)) left.0 in
    let all : list_all (λ x. not (has_begun_and_goes_on x)) (statuses s) ≡ true = all_of_none has_begun_and_goes_on (statuses s) over.0 in
    let quiet : device_has_work s ≡ false = over.1 in
    rw (all, quiet) refl

pub whole_by : (s : State) (last : Option ℕ) (first count : ℕ) → Asks s last first count → next_turn s last ≡ None → is_at_end s ≡ true
whole_by s last first count a is = whole_at_end s last (omega (arith, a.first_is, a.count_is, a.low)) is
