-- The story of every end is in order, in every history from an opening state.
use Rattle.std.proofs.Common.{◌≡◌, ℕ, List, [], ◌∷◌, ◌++◌, ◌+◌, true, false, Option, Some, None, refl, sym, subst, append_assoc, append-nil}
use Rattle.std.specs.List.{cons_option, filter}
use Rattle.kernel_values.specs.SceneLaw.{SceneValue}
use Rattle.kernel_values.specs.declared.entry.Entry.{Entry}
use Rattle.kernel_values.specs.declared.state.State.{State}
use Rattle.kernel_types.specs.Stories.{Story, IsInOrder, story_of, number_at}
use Rattle.kernel_types.specs.History.{Legal, entry_of, next_state, state_or}
use Rattle.kernel_types.specs.Opening.{opening}
use Rattle.kernel_types.specs.CoreStep.{core_idle}
use Rattle.kernel_laws.proofs.Found.{found}
use Rattle.kernel_laws.proofs.Tales.{in_order, told_begun, untold}
use Rattle.kernel_values.specs.declared.state.CoreState.{CoreState}
use Rattle.kernel_types.specs.Applications.{application_ended, started}
use Rattle.kernel_types.specs.Ports.{admitted, new_port, server_end}
use Rattle.kernel_laws.proofs.Publishing.{publish_tells}
use Rattle.kernel_laws.proofs.Starts.{same_ended, same_idle, same_started}
use Rattle.kernel_laws.proofs.Tells.{Tells, tells_added, tells_changed, tells_filtered, tells_mapped, tells_opened, tells_retired, tells_sent, StoryFits, appended, longer, queue_if, Quiet, quiet_end, quiet_memory, quiet_port, quiet_set}
use Rattle.std.specs.Option.{option_map}
use Rattle.kernel_values.specs.declared.call.Call.{Call}
use Rattle.kernel_values.specs.declared.entry.EndSeq.{EndSeq}
use Rattle.kernel_values.specs.declared.entry.Event.{Event}
use Rattle.kernel_values.specs.declared.reply.Answer.{Answer}
use Rattle.kernel_values.specs.declared.state.Body.{Body}
use Rattle.kernel_values.specs.declared.state.Body.TheVariants as body
use Rattle.kernel_values.specs.declared.state.ChannelEnd.{ChannelEnd}
use Rattle.kernel_values.specs.declared.state.EndState.TheVariants as end_state
use Rattle.kernel_values.specs.declared.state.Object.{Object}
use Rattle.kernel_values.specs.declared.state.Port.{Port}
use Rattle.kernel_types.specs.Connects.{accept_client, accepted_end, peer_of}
use Rattle.kernel_types.specs.Memories.{new_memory, written}
use Rattle.kernel_types.specs.Messages.{free_id}
use Rattle.kernel_types.specs.Objects.{added, changed, end_changed, end_of, new_end, on_body, on_end, on_memory, on_port, on_set, port_changed, with_objects}
use Rattle.kernel_types.specs.Reach.{is_in}
use Rattle.kernel_types.specs.Reports.{with_last}
use Rattle.kernel_types.specs.Sets.{new_member, remasked, with_member, without_label}
use Rattle.kernel_types.specs.Step.{Stepped, step}
use Rattle.kernel_types.specs.Sweep.{cut_end, kept, pruned, pruned_port, reached, sweep}
use Rattle.step_laws.specs.SmallChanges.{Mark, Move, SmallChange, after, marked_by, moves}
use Rattle.step_laws.specs.SmallChanges.Mark.{mark_blocked, mark_decided, mark_error, mark_reported, mark_unblocked}
use Rattle.step_laws.specs.SmallChanges.Move.{was_opened, was_retired, was_sent}
use Rattle.step_laws.specs.SmallChanges.SmallChange.{client_made, cookie_changed, end_accepted, end_marked, entry_installed, entry_removed, last_changed, member_put_last, member_remasked, member_removed, memory_made, memory_written, message_opened, message_retired, message_sent, pair_made, parts_installed, port_made}
use Rattle.step_laws.specs.Walks.{ThreadChange, after_thread, moves_of}
use Rattle.step_laws.specs.Walks.ThreadChange.{app_over, app_started, member_added, set_made}
use Rattle.step_laws.proofs.Invariants.{TracedInvariant, retold, step_told}

abbrev added_story : Story → Story → Story
added_story story more = record { sent = story.sent ++ more.sent; opened = story.opened ++ more.opened; retired = story.retired ++ more.retired }

appended_more : (xs : List ℕ) (v : Option ℕ) (rest : List ℕ) → appended xs v ++ rest ≡ xs ++ cons_option v rest
appended_more xs None rest = refl
appended_more xs (Some n) rest = append_assoc xs (n ∷ []) rest

longer_more : (story : Story) (e : ℕ) (entry : Entry) (entries : List Entry) → added_story (longer story e entry.seqs) (story_of entries e) ≡ added_story story (story_of (entry ∷ entries) e)
unfolding story_of
longer_more story e entry entries =
    let sent : appended story.sent (number_at e entry.seqs.sent) ++ (story_of entries e).sent ≡ story.sent ++ (story_of (entry ∷ entries) e).sent =
    appended_more story.sent (number_at e entry.seqs.sent) (story_of entries e).sent in
    let opened : appended story.opened (number_at e entry.seqs.opened) ++ (story_of entries e).opened ≡ story.opened ++ (story_of (entry ∷ entries) e).opened =
    appended_more story.opened (number_at e entry.seqs.opened) (story_of entries e).opened in
    let retired : appended story.retired (number_at e entry.seqs.retired) ++ (story_of entries e).retired ≡ story.retired ++ (story_of (entry ∷ entries) e).retired =
    appended_more story.retired (number_at e entry.seqs.retired) (story_of entries e).retired in
    rw (sent, opened, retired) refl

added_none : (story : Story) (e : ℕ) → added_story story (story_of [] e) ≡ story
unfolding story_of
added_none story e =
    let sent : story.sent ++ [] ≡ story.sent = append-nil story.sent in
    let opened : story.opened ++ [] ≡ story.opened = append-nil story.opened in
    let retired : story.retired ++ [] ≡ story.retired = append-nil story.retired in
    rw (sent, opened, retired) refl

told_same : (e : ℕ) (story : Story) (c d : CoreState) → (d.objects ≡ c.objects) × (d.next ≡ c.next) → StoryFits e story c → StoryFits e story d
told_same e story c d same t = subst (λ (n : ℕ). Tells e story d.objects n) (sym same.1) (subst (λ objects. Tells e story objects c.next) (sym same.0) t)

abbrev moved_to : ℕ → Story → Move → Story
moved_to e story (was_sent seq) = longer story e (record { sent = Some seq; opened = None; retired = None })
moved_to e story (was_opened seq) = longer story e (record { sent = None; opened = Some seq; retired = None })
moved_to e story (was_retired seq) = longer story e (record { sent = None; opened = None; retired = Some seq })

mark_messages : (mark : Mark) (end : ChannelEnd) → (marked_by mark end).messages ≡ end.messages
mark_messages mark_blocked end = refl
mark_messages mark_unblocked end = refl
mark_messages mark_decided end = refl
mark_messages (mark_reported events) end = refl
mark_messages mark_error end = refl

mark_sent : (mark : Mark) (end : ChannelEnd) → (marked_by mark end).sent ≡ end.sent
mark_sent mark_blocked end = refl
mark_sent mark_unblocked end = refl
mark_sent mark_decided end = refl
mark_sent (mark_reported events) end = refl
mark_sent mark_error end = refl

module _ (e : ℕ) where
  one_changed : (story : Story) (c : CoreState) → StoryFits e story c → (f : Body → Body) → Quiet f → (id : ℕ) → StoryFits e story (with_objects (changed f c.objects id) c)
  one_changed story c t f quiet id = tells_changed e story c.objects c.next t f quiet id

  accepted_told : (story : Story) (c : CoreState) → StoryFits e story c → (client : Option ℕ) → StoryFits e story (accept_client client c)
  accepted_told story c t None = t
  accepted_told story c t (Some client) = one_changed story c t (on_end (accepted_end true)) (quiet_end _ (λ x. refl) (λ x. refl)) client

  small_told : (by : Option ℕ) (story : Story) (c : CoreState) → StoryFits e story c → (change : SmallChange by c) → StoryFits e (retold (moved_to e) story (moves by c change)) (after by c change)
  small_told by story c t (cookie_changed app of_app handle cookie entry held) = t
  small_told by story c t (entry_removed app of_app handle entry held) = t
  small_told by story c t (entry_installed app of_app object nameable room) = t
  small_told by story c t (parts_installed app of_app id number count end message there is_open room) = t
  small_told by story c t (last_changed app of_app entry first) = t
  small_told by story c t (memory_made size flags lawful) = tells_added e story c.objects c.next t (body.Memory (new_memory size flags)) tt
  small_told by story c t (client_made client path way) = tells_added e story c.objects c.next t (body.End (new_end None end_state.Waiting (Some path) (Some client) 0 0)) (refl, refl)
  small_told by story c t (pair_made client path id port way lets) =
      let one : Body = body.End (new_end (Some (c.next + 1)) end_state.Connecting None (Some client) port.bufs port.size) in
      let other : Body = server_end c.next port.bufs port.size in
      let first : StoryFits e story (added one c) = tells_added e story c.objects c.next t one (refl, refl) in
      let pair : StoryFits e story (added other (added one c)) = tells_added e story (added one c).objects (added one c).next first other (refl, refl) in
      one_changed story (added other (added one c)) pair (on_port _) (quiet_port _) id
  small_told by story c t (port_made path bufs size flags lawful free) = publish_tells e story c t (new_port path bufs size flags) (admitted (new_port path bufs size flags) c.objects)
  small_told by story c t (member_removed id label set there known) = one_changed story c t (on_set (without_label label)) (quiet_set _) id
  small_told by story c t (member_remasked id label mask cookie set there known) = one_changed story c t (on_set (remasked label mask cookie)) (quiet_set _) id
  small_told by story c t (member_put_last id member set there ready) = one_changed story c t (on_set (with_last member)) (quiet_set _) id
  small_told by story c t (memory_written id offset bytes memory there range writable) = one_changed story c t (on_memory (written offset bytes)) (quiet_memory _) id
  small_told by story c t (message_sent from source to end bytes parts may carries) = tells_sent e story c.objects c.next t bytes parts to end may.there
  small_told by story c t (message_opened id end message there first) = tells_opened e story c.objects c.next t (free_id end.messages) message id end there first
  small_told by story c t (message_retired id number end message there is_open) = tells_retired e story c.objects c.next t number message id end there is_open
  small_told by story c t (end_marked mark id) = one_changed story c t (on_end (marked_by mark)) (quiet_end (marked_by mark) (mark_messages mark) (mark_sent mark)) id
  small_told by story c t (end_accepted app of_app id server rest port there first room) =
      let less : CoreState = port_changed (λ p. record p { pending = rest }) id c in
      accepted_told story (end_changed (accepted_end false) server less)
      (one_changed story less (one_changed story c t (on_port (λ p. record p { pending = rest })) (quiet_port _) id) (on_end (accepted_end false)) (quiet_end _ (λ x. refl) (λ x. refl)) server)
      (peer_of (end_of c.objects server))

  thread_told : (app thread : ℕ) (asked : Call) (said : Answer) (story : Story) (c : CoreState) → StoryFits e story c → (change : ThreadChange app thread asked said c)
      → StoryFits e story (after_thread app thread asked said c change)
  thread_told app thread asked said story c t (set_made is made room) = tells_added e story c.objects c.next t (body.Set (record { members = [] })) tt
  thread_told app thread asked said story c t (member_added held handle mask cookie id set entry is here may) =
      one_changed story c t (on_set (with_member (new_member handle entry.object mask cookie))) (quiet_set _) id
  thread_told app thread asked said story c t (app_started place was there still connects) = told_same e story c (started place c) (same_started place c) t
  thread_told app thread asked said story c t (app_over ends) = told_same e story c (application_ended app c) (same_ended app c) t
  thread_told app thread asked said story c t _ = t

  swept_told : (story : Story) (c : CoreState) → StoryFits e story c → StoryFits e story (sweep c)
  unfolding sweep pruned kept
  swept_told story c t =
      let prune : Port → Port = pruned_port (reached c) c.objects in
      let less : CoreState = pruned (reached c) c in
      let cut : StoryFits e story less = tells_mapped e story c.objects c.next t (on_body (on_port prune)) (λ object. refl) (λ object. quiet_port prune object.body) in
      let there : List Object = filter (λ object. is_in (reached less) object.id) less.objects in
      tells_mapped e story there c.next (tells_filtered e story less.objects c.next cut (is_in (reached less))) (on_body (on_end (cut_end (reached less)))) (λ object. refl)
      (λ object. quiet_end (cut_end (reached less)) (λ x. refl) (λ x. refl) object.body)

  -- every change keeps that the story fits the end's queue
  telling : TracedInvariant Story
  telling = record {
    holds = StoryFits e;
    moved = moved_to e;
    small = small_told;
    call = thread_told;
    resumed = λ thread story c t. t;
    served = λ place story c t. told_same e story c (started place c) (same_started place c) t;
    bridged = λ end story c t given. t;
    unbridged = λ end story c t. t;
    passed = λ deadline story c t. told_same e story c (core_idle deadline c) (same_idle c deadline) t;
    swept = swept_told;
  }

  -- the numbers of an entry, one after another
  retold_is : (story : Story) (one two three : Option EndSeq)
      → retold (moved_to e) story (moves_of (record { sent = one; opened = two; retired = three })) ≡ longer story e (record { sent = one; opened = two; retired = three })
  retold_is story None None None = refl
  retold_is story None None (Some z) = refl
  retold_is story None (Some y) None = refl
  retold_is story None (Some y) (Some z) = refl
  retold_is story (Some x) None None = refl
  retold_is story (Some x) None (Some z) = refl
  retold_is story (Some x) (Some y) None = refl
  retold_is story (Some x) (Some y) (Some z) = refl

  steps_tell : (s : State) (ev : Event) (r : Stepped) (story : Story) → step s ev ≡ Some r → StoryFits e story s.core → StoryFits e (longer story e r.seqs) r.state.core
  unfolding telling
  steps_tell s ev r story is t =
      subst (λ (x : Story). StoryFits e x r.state.core) (retold_is story r.seqs.sent r.seqs.opened r.seqs.retired) (step_told Story telling story s ev r is t)

  -- the step that an entry tells of
  entry_tells : (s : State) (story : Story) → StoryFits e story s.core → (entry : Entry) (o : Option Stepped) → step s entry.event ≡ o → option_map (entry_of entry.event) o ≡ Some entry
      → StoryFits e (longer story e entry.seqs) (state_or s o).core
  entry_tells s story t entry None at is = absurd (cc)
  entry_tells s story t entry (Some stepped) at is =
      let same : entry_of entry.event stepped ≡ entry = cc in
      subst (λ (x : Entry). StoryFits e (longer story e x.seqs) stepped.state.core) same (steps_tell s entry.event stepped story at t)

  along : (entries : List Entry) (story : Story) (s : State) → StoryFits e story s.core → Legal s entries → IsInOrder (added_story story (story_of entries e))
  along [] story s t legal = subst IsInOrder (sym (added_none story e)) (in_order story (queue_if (found s.core.objects e)) t.tale)
  along (entry ∷ entries) story s t legal =
      subst IsInOrder (longer_more story e entry entries)
      (along entries (longer story e entry.seqs) (next_state s entry.event) (entry_tells s story t entry (step s entry.event) refl legal.0) legal.1)

opening_tells : (scene : SceneValue) (e : ℕ) → StoryFits e untold (opening scene).core
unfolding opening
opening_tells scene e = record { tale = told_begun None tt; unborn = λ above. (refl, refl) }

pub stories_in_order : (scene : SceneValue) (entries : List Entry) (e : ℕ) → Legal (opening scene) entries → IsInOrder (story_of entries e)
stories_in_order scene entries e legal = along e entries untold (opening scene) (opening_tells scene e) legal
