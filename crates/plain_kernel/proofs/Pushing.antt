-- What the bridge sends: the peer is there and has a free slot, so that the message goes into its queue.
use Rattle.std.proofs.Common.{◌≡◌, ℕ, Bool, false, cond, List, [], length, Option, Some, None, refl, sym, subst}
use Rattle.std.specs.Option.{option_map}
use Rattle.kernel_values.specs.declared.entry.EndSeq.{EndSeq}
use Rattle.kernel_values.specs.declared.errno.Errno.TheVariants as errno
use Rattle.kernel_values.specs.declared.reply.Reply.TheVariants as reply
use Rattle.kernel_values.specs.declared.state.ChannelEnd.{ChannelEnd}
use Rattle.kernel_values.specs.declared.state.CoreState.{CoreState}
use Rattle.kernel_types.specs.Bridge.{is_full_peer, ns_push, ns_view, push_from, view_of}
use Rattle.kernel_types.specs.Connects.{peer_of}
use Rattle.kernel_types.specs.Messages.{blocked_end, deliver, peer_end, with_message}
use Rattle.kernel_types.specs.Objects.{end_changed, end_of}
use Rattle.kernel_types.specs.Outcome.{Outcome, gives_with, refuses, sent_seq}
use Rattle.kernel_types.specs.Sweep.{sweep}
use Rattle.plain_kernel.specs.Bridged.{IsNextSent, IsSentTo, pushed, sent_to}

module _ (c : CoreState) (id : ℕ) (bytes : List ℕ) (sent : EndSeq) where
  abbrev peer : ℕ
  peer = sent.end.0

  abbrev with_it : CoreState
  with_it = end_changed (with_message bytes []) peer c

  -- an outcome tells and leaves what a send to the peer does
  abbrev Sends : Outcome → Type 0
  Sends outcome = record { seqs = outcome.seqs; core = sweep outcome.core } ≡ pushed sent (sweep with_it)

  to_end : (o : Option ChannelEnd) → option_map (λ end. end.sent) o ≡ Some sent.seq → is_full_peer o ≡ false → Sends (deliver c id (Some peer) o bytes [])
  to_end None is free = absurd (cc)
  to_end (Some end) is free =
      let number : end.sent ≡ sent.seq = cc in
      let one : Outcome = refuses errno.NotEnoughBuffer (end_changed blocked_end id c) in
      let Q : ℕ → Bool → Type 0 = λ n b. Sends (cond b one (gives_with (reply.Count (length bytes)) (sent_seq peer n) with_it)) in
      subst (λ b. Q end.sent b) (sym free) (subst (λ n. Q n false) (sym number) refl)

  to_peer : (p : Option ℕ) → IsSentTo sent c.objects p → is_full_peer (peer_end c.objects p) ≡ false → Sends (deliver c id p (peer_end c.objects p) bytes [])
  to_peer None is free = absurd is
  to_peer (Some other) is free =
      let Q : ℕ → Type 0 = λ n. is_full_peer (end_of c.objects n) ≡ false → Sends (deliver c id (Some n) (end_of c.objects n) bytes []) in
      (subst Q (sym is.0) (λ is_free. to_end (end_of c.objects peer) is.1 is_free)) free

  from_end : (o : Option ChannelEnd) → IsSentTo sent c.objects (peer_of o) → (view_of c o).peer_full ≡ false → push_from c id bytes o ≡ pushed sent (sweep with_it)
  from_end None is free = absurd is
  from_end (Some end) is free = to_peer end.peer is free

  pub sent_to_peer : IsNextSent sent c id → (ns_view c id).peer_full ≡ false → ns_push c id bytes ≡ pushed sent (sweep (sent_to sent.end.0 bytes c))
  unfolding ns_push ns_view sent_to IsNextSent
  sent_to_peer is free = from_end (end_of c.objects id) is free
