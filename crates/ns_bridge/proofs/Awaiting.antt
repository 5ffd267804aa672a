-- The driver keeps knowing what each client waits for.
use Rattle.std.proofs.Common.{◌≡◌, ℕ, zero, suc, ◌<◌, List, [], ◌∷◌, length, map, replicate, Option, Some, None, refl, ap, sym, subst, arith}
use Rattle.std.specs.Prelude.{slice_get, slice_set}
use Rattle.std.specs.Option.{option_map}
use Rattle.kernel_values.specs.declared.scene.Client.{Client}
use Rattle.kernel_values.specs.declared.world.ClientActivity.{ClientActivity}
use Rattle.kernel_values.specs.declared.world.ClientActivity.TheVariants as activity
use Rattle.kernel_values.specs.declared.world.ClientState.{ClientState}
use Rattle.kernel_values.specs.declared.world.ClientWait.{ClientWait}
use Rattle.kernel_values.specs.declared.world.ClientWaitOn.{ClientWaitOn}
use Rattle.kernel_types.specs.Clients.{client_cancelled, client_changed, client_ended, client_running, client_waiting, new_wait}
use Rattle.kernel_types.specs.Objects.{map_at}
use Rattle.kernel_types.specs.Opening.{opening_client}
use Rattle.ns_driver.specs.Value.{wait_of}
use Rattle.ns_driver.specs.Worlds.{clients_with}
use Rattle.ns_bridge.specs.Acts.{activity_at}
use Rattle.ns_bridge.specs.Waits.{AreAwaited, IsAwaited}
use Rattle.ns_bridge.proofs.Lists.{at_suc}

-- for each client the driver has a place
pub awaited_long : (clients : List ClientState) (waits : List (Option ClientWaitOn)) → AreAwaited clients waits → length waits ≡ length clients
awaited_long [] [] all = refl
awaited_long [] (on ∷ waits) all = absurd all
awaited_long (client ∷ clients) [] all = absurd all
awaited_long (client ∷ clients) (on ∷ waits) all = ap (λ n. suc n) (awaited_long clients waits all.1)

pub there_is_wait : (clients : List ClientState) (waits : List (Option ClientWaitOn)) → AreAwaited clients waits → (client : ℕ) (a : ClientActivity)
    → activity_at clients client ≡ Some a → client < length waits
there_is_wait [] waits all client a is = absurd (cc)
there_is_wait (one ∷ clients) [] all client a is = absurd all
there_is_wait (one ∷ clients) (on ∷ waits) all zero a is = omega arith
there_is_wait (one ∷ clients) (on ∷ waits) all (suc client) a is =
    let below : client < length waits = there_is_wait clients waits all.1 client a is in
    omega arith

-- what a client that waits waits for
pub wait_is : (clients : List ClientState) (waits : List (Option ClientWaitOn)) → AreAwaited clients waits → (client start : ℕ) (wait : ClientWait)
    → activity_at clients client ≡ Some (activity.Waiting start wait) → wait_of waits client ≡ Some wait.on
wait_is [] waits all client start wait is = absurd (cc)
wait_is (one ∷ clients) [] all client start wait is = absurd all
wait_is (one ∷ clients) (on ∷ waits) all zero start wait is =
    let same : one.activity ≡ activity.Waiting start wait = cc in
    subst (λ (a : ClientActivity). IsAwaited a on) same all.0
wait_is (one ∷ clients) (on ∷ waits) all (suc client) start wait is = wait_is clients waits all.1 client start wait is

-- a change of one client, with the driver's wait of it
changed_both : (change : ClientActivity → ClientActivity) (own : Option ClientWaitOn) (clients : List ClientState) (waits : List (Option ClientWaitOn)) (client : ℕ)
    → AreAwaited clients waits → ((one : ClientState) → slice_get clients client ≡ Some one → IsAwaited (change one.activity) own)
    → AreAwaited (map_at (client_changed change) clients client) (slice_set waits client own)
changed_both change own [] [] client all here = tt
changed_both change own [] (on ∷ waits) client all here = absurd all
changed_both change own (one ∷ clients) [] client all here = absurd all
changed_both change own (one ∷ clients) (on ∷ waits) zero all here = (here one refl, all.1)
changed_both change own (one ∷ clients) (on ∷ waits) (suc client) all here =
    subst (λ (cs : List ClientState). AreAwaited cs (on ∷ slice_set waits client own)) (sym (at_suc (client_changed change) one clients client))
    (all.0, changed_both change own clients waits client all.1 here)

-- a change of one client, with the driver's wait left as it is
changed_one : (change : ClientActivity → ClientActivity) → ((a : ClientActivity) (on : Option ClientWaitOn) → IsAwaited a on → IsAwaited (change a) on)
    → (clients : List ClientState) (waits : List (Option ClientWaitOn)) (client : ℕ) → AreAwaited clients waits → AreAwaited (map_at (client_changed change) clients client) waits
changed_one change keeps [] [] client all = tt
changed_one change keeps [] (on ∷ waits) client all = absurd all
changed_one change keeps (one ∷ clients) [] client all = absurd all
changed_one change keeps (one ∷ clients) (on ∷ waits) zero all = (keeps one.activity on all.0, all.1)
changed_one change keeps (one ∷ clients) (on ∷ waits) (suc client) all =
    subst (λ (cs : List ClientState). AreAwaited cs (on ∷ waits)) (sym (at_suc (client_changed change) one clients client))
    (all.0, changed_one change keeps clients waits client all.1)

changed_all : (change : ClientActivity → ClientActivity) → ((a : ClientActivity) (on : Option ClientWaitOn) → IsAwaited a on → IsAwaited (change a) on)
    → (clients : List ClientState) (waits : List (Option ClientWaitOn)) → AreAwaited clients waits → AreAwaited (map (client_changed change) clients) waits
changed_all change keeps [] [] all = tt
changed_all change keeps [] (on ∷ waits) all = absurd all
changed_all change keeps (one ∷ clients) [] all = absurd all
changed_all change keeps (one ∷ clients) (on ∷ waits) all = (keeps one.activity on all.0, changed_all change keeps clients waits all.1)

ended_keeps : (a : ClientActivity) (on : Option ClientWaitOn) → IsAwaited a on → IsAwaited (client_ended a) on
ended_keeps (activity.Running start) on is = tt
ended_keeps (activity.Waiting start wait) on is = is
ended_keeps (activity.Ended start) on is = tt

cancelled_keeps : (a : ClientActivity) (on : Option ClientWaitOn) → IsAwaited a on → IsAwaited (client_cancelled a) on
cancelled_keeps (activity.Running start) on is = tt
cancelled_keeps (activity.Waiting start wait) on is = is
cancelled_keeps (activity.Ended start) on is = tt

pub ended_awaited : (clients : List ClientState) (waits : List (Option ClientWaitOn)) (client : ℕ) → AreAwaited clients waits
    → AreAwaited (map_at (client_changed client_ended) clients client) waits
ended_awaited clients waits client all = changed_one client_ended ended_keeps clients waits client all

pub cancelled_awaited : (clients : List ClientState) (waits : List (Option ClientWaitOn)) → AreAwaited clients waits → AreAwaited (map (client_changed client_cancelled) clients) waits
cancelled_awaited clients waits all = changed_all client_cancelled cancelled_keeps clients waits all

-- a client that runs again waits for nothing, whatever the driver thinks
running_free : (a : ClientActivity) (own : Option ClientWaitOn) → IsAwaited (client_running a) own
running_free (activity.Running start) own = tt
running_free (activity.Waiting start wait) own = tt
running_free (activity.Ended start) own = tt

pub resumed_awaited : (clients : List ClientState) (waits : List (Option ClientWaitOn)) (client : ℕ) (own : Option ClientWaitOn) → AreAwaited clients waits
    → AreAwaited (map_at (client_changed client_running) clients client) (slice_set waits client own)
resumed_awaited clients waits client own all = changed_both client_running own clients waits client all (λ one is. running_free one.activity own)

-- a client that runs begins to wait for what the driver waits for

same_activity : (a : ClientActivity) (clients : List ClientState) (client : ℕ) → activity_at clients client ≡ Some a
    → (one : ClientState) → slice_get clients client ≡ Some one → one.activity ≡ a
same_activity a clients client is one one_is = cc (ap (λ (o : Option ClientState). option_map (λ (c : ClientState). c.activity) o) one_is)

same_ids : (clients : List ClientState) (waits : List (Option ClientWaitOn)) (client start : ℕ) → AreAwaited clients waits
    → activity_at clients client ≡ Some (activity.Running start) → AreAwaited clients (slice_set waits client None)
same_ids [] [] client start all is = tt
same_ids [] (on ∷ waits) client start all is = absurd all
same_ids (one ∷ clients) [] client start all is = absurd all
same_ids (one ∷ clients) (on ∷ waits) zero start all is =
    let same : one.activity ≡ activity.Running start = cc in
    let free : IsAwaited (activity.Running start) None = tt in
    (subst (λ (a : ClientActivity). IsAwaited a None) (sym same) free, all.1)
same_ids (one ∷ clients) (on ∷ waits) (suc client) start all is = (all.0, same_ids clients waits client start all.1 is)

pub begun_awaited : (clients : List ClientState) (waits : List (Option ClientWaitOn)) (client start : ℕ) (deadline : Option ℕ) (own : Option ClientWaitOn)
    → AreAwaited clients waits → activity_at clients client ≡ Some (activity.Running start)
    → AreAwaited (clients_with client deadline own clients) (slice_set waits client own)
begun_awaited clients waits client start deadline None all is = same_ids clients waits client start all is
begun_awaited clients waits client start deadline (Some on) all is =
    let change : ClientActivity → ClientActivity = client_waiting (new_wait on deadline) in
    let waits_here : IsAwaited (change (activity.Running start)) (Some on) = refl in
    changed_both change (Some on) clients waits client all
    (λ one one_is. subst (λ (a : ClientActivity). IsAwaited (change a) (Some on)) (sym (same_activity (activity.Running start) clients client is one one_is)) waits_here)

-- at the beginning every client runs, and the driver waits for nothing
pub opening_awaited : (clients : List Client) (n : ℕ) → n ≡ length clients → AreAwaited (map opening_client clients) (replicate n None)
opening_awaited [] n is = subst (λ (k : ℕ). AreAwaited [] (replicate k None)) (sym is) tt
opening_awaited (client ∷ clients) n is =
    let rest : AreAwaited (map opening_client clients) (replicate (length clients) None) = opening_awaited clients (length clients) refl in
    subst (λ (k : ℕ). AreAwaited (map opening_client (client ∷ clients)) (replicate k None)) (sym is) (tt, rest)
