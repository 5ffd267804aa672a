-- What the bridge takes and drops leaves the threads as they are.
use Rattle.std.proofs.Common.{◌≡◌, ◌∙◌, ℕ, Bool, true, false, cond, Option, Some, None, refl}
use Rattle.std.specs.List.{find}
use Rattle.kernel_values.specs.declared.errno.Errno.TheVariants as errno
use Rattle.kernel_values.specs.declared.state.ChannelEnd.{ChannelEnd}
use Rattle.kernel_values.specs.declared.state.CoreState.{CoreState}
use Rattle.kernel_values.specs.declared.state.Message.{Message}
use Rattle.kernel_types.specs.Bridge.{marked_if, ns_drop, ns_take, peer_marked, take_from, unbridged}
use Rattle.kernel_types.specs.Connects.{peer_of}
use Rattle.kernel_types.specs.Events.{is_disconnected, is_filled}
use Rattle.kernel_types.specs.Messages.{free_id, get_message, is_opened_as, peer_unblocked, put_from, put_message, without_opened}
use Rattle.kernel_types.specs.Objects.{end_changed, end_of}
use Rattle.kernel_types.specs.Outcome.{Outcome, refuses}
use Rattle.kernel_types.specs.Sweep.{sweep}
use Rattle.core_kernels.specs.CoreSteps.{core_statuses}
use Rattle.core_kernels.proofs.Clientless.{same_statuses, swept_threads}

-- What the bridge drops.

peer_threads : (peer : Option ℕ) (c : CoreState) → (peer_marked peer c).threads ≡ c.threads
peer_threads None c = refl
peer_threads (Some peer) c = refl

marked_threads : (broken : Bool) (end : ℕ) (c : CoreState) → (marked_if broken end c).threads ≡ c.threads
marked_threads true end c = peer_threads (peer_of (end_of c.objects end)) c
marked_threads false end c = refl

pub dropped_statuses : (broken : Bool) (end : ℕ) (c : CoreState) → core_statuses (ns_drop broken end c) ≡ core_statuses c
unfolding ns_drop
dropped_statuses broken end c =
    let left : CoreState = unbridged end (marked_if broken end c) in
    same_statuses c (sweep left) (swept_threads left ∙ marked_threads broken end c)

-- What the bridge takes.

got_threads : (c : CoreState) (id : ℕ) (end : ChannelEnd) (message : Option Message) → (get_message c id end message).core.threads ≡ c.threads
got_threads c id end None =
    elim (is_disconnected end.state) as (λ b. (cond b (refuses errno.ChannelClosed c) (refuses errno.NoMsg c)).core.threads ≡ c.threads) [ true ↦ refl | false ↦ refl ]
got_threads c id end (Some message) = refl

unblocked_threads : (peer : Option ℕ) (c : CoreState) → (peer_unblocked peer c).threads ≡ c.threads
unblocked_threads None c = refl
unblocked_threads (Some peer) c = refl

retired_threads : (c : CoreState) (id : ℕ) (end : ChannelEnd) (number : ℕ) (message : Option Message) → (put_message c id end number message).core.threads ≡ c.threads
retired_threads c id end number None = refl
retired_threads c id end number (Some message) = unblocked_threads end.peer (end_changed (without_opened number) id c)

put_threads : (c : CoreState) (id number : ℕ) (end : Option ChannelEnd) → (put_from c id number end).core.threads ≡ c.threads
put_threads c id number None = refl
put_threads c id number (Some end) = retired_threads c id end number (find (is_opened_as number) end.messages)

took_threads : (c : CoreState) (id : ℕ) (end : Option ChannelEnd) → (take_from c id end).core.threads ≡ c.threads
took_threads c id None = refl
took_threads c id (Some end) =
    let number : ℕ = free_id end.messages in
    let got : Outcome = get_message c id end (find is_filled end.messages) in
    swept_threads (put_from got.core id number (end_of got.core.objects id)).core
    ∙ (put_threads got.core id number (end_of got.core.objects id) ∙ got_threads c id end (find is_filled end.messages))

pub taken_statuses : (end : ℕ) (c : CoreState) → core_statuses (ns_take c end).core ≡ core_statuses c
unfolding ns_take
taken_statuses end c = same_statuses c (take_from c end (end_of c.objects end)).core (took_threads c end (end_of c.objects end))
