-- What is told of one end, against the objects of a state; and which changes of the objects keep it.
use Rattle.std.proofs.Common.{◌≡◌, ℕ, ◌+◌, ◌<◌, ◌≤◌, ◌==◌, Bool, true, false, cond, List, [], ◌∷◌, ◌++◌, map, Option, Some, None, refl, sym, ◌∙◌, ap, subst, arith, tests}
use Rattle.std.specs.List.{filter, find}
use Rattle.std.specs.Option.{option_map, option_or}
use Rattle.kernel_values.specs.declared.entry.Seqs.{Seqs}
use Rattle.kernel_values.specs.declared.state.Object.{Object}
use Rattle.kernel_values.specs.declared.state.Body.{Body}
use Rattle.kernel_values.specs.declared.state.Body.TheVariants as body
use Rattle.kernel_values.specs.declared.state.ChannelEnd.{ChannelEnd}
use Rattle.kernel_values.specs.declared.state.HandleSet.{HandleSet}
use Rattle.kernel_values.specs.declared.state.MemoryRef.{MemoryRef}
use Rattle.kernel_values.specs.declared.state.Port.{Port}
use Rattle.kernel_values.specs.declared.state.Message.{Message}
use Rattle.kernel_values.specs.declared.state.CoreState.{CoreState}
use Rattle.kernel_types.specs.Stories.{Story, number_at}
use Rattle.kernel_types.specs.Objects.{end_in, as_end, end_of, on_body, on_end, changed, on_port, on_set, on_memory}
use Rattle.kernel_types.specs.Outcome.{sent_seq, opened_seq, retired_seq}
use Rattle.kernel_types.specs.Events.{is_filled}
use Rattle.kernel_types.specs.Messages.{new_message, with_message, with_opened, without_opened, is_opened_as}
use Rattle.kernel_laws.proofs.Found.{found, found_is, found_changed, found_map, found_filter, found_append}
use Rattle.kernel_laws.proofs.Tales.{Queue, Tale, IsFresh, untold, told_gone, told_begun, told_sent, told_opened, told_retired}

abbrev pub queue_of_end : ChannelEnd → Queue
queue_of_end end = record { messages = end.messages; sent = end.sent }

abbrev pub queue_at : Option ChannelEnd → Option Queue
queue_at None = None
queue_at (Some end) = Some (queue_of_end end)

abbrev pub queue_in : Body → Option Queue
queue_in b = queue_at (end_in b)

abbrev pub queue_if : Option Object → Option Queue
queue_if None = None
queue_if (Some object) = queue_in object.body

-- the story fits the end's queue; an end that has no number yet is not there, and has no story
pub record Tells (e : ℕ) (story : Story) (objects : List Object) (next : ℕ) : Type 0 where
  pub tale : Tale story (queue_if (found objects e))
  pub unborn : next ≤ e → (found objects e ≡ None) × (story ≡ untold)

abbrev pub StoryFits : ℕ → Story → CoreState → Type 0
StoryFits e story c = Tells e story c.objects c.next

-- the story with the numbers of one more entry

abbrev pub appended : List ℕ → Option ℕ → List ℕ
appended numbers None = numbers
appended numbers (Some number) = numbers ++ number ∷ []

abbrev pub longer : Story → ℕ → Seqs → Story
longer story e seqs = record {
  sent = appended story.sent (number_at e seqs.sent);
  opened = appended story.opened (number_at e seqs.opened);
  retired = appended story.retired (number_at e seqs.retired);
}

-- Changes of objects.

-- a change of a body that leaves the queue
abbrev pub Quiet : (Body → Body) → Type 0
Quiet f = (b : Body) → queue_in (f b) ≡ queue_in b

pub quiet_set : (change : HandleSet → HandleSet) → Quiet (on_set change)
quiet_set change (body.Set set) = refl
quiet_set change (body.Port port) = refl
quiet_set change (body.End end) = refl
quiet_set change (body.Memory memory) = refl

pub quiet_memory : (change : MemoryRef → MemoryRef) → Quiet (on_memory change)
quiet_memory change (body.Set set) = refl
quiet_memory change (body.Port port) = refl
quiet_memory change (body.End end) = refl
quiet_memory change (body.Memory memory) = refl

pub quiet_port : (change : Port → Port) → Quiet (on_port change)
quiet_port change (body.Set set) = refl
quiet_port change (body.Port port) = refl
quiet_port change (body.End end) = refl
quiet_port change (body.Memory memory) = refl

pub quiet_end : (change : ChannelEnd → ChannelEnd) → ((end : ChannelEnd) → (change end).messages ≡ end.messages) → ((end : ChannelEnd) → (change end).sent ≡ end.sent)
    → Quiet (on_end change)
quiet_end change messages sent (body.Set set) = refl
quiet_end change messages sent (body.Port port) = refl
quiet_end change messages sent (body.End end) = cc (messages end, sent end)
quiet_end change messages sent (body.Memory memory) = refl

same_objects : (e : ℕ) (story : Story) (objects others : List Object) (next more : ℕ) → queue_if (found others e) ≡ queue_if (found objects e)
    → (found objects e ≡ None → found others e ≡ None) → next ≤ more → Tells e story objects next → Tells e story others more
same_objects e story objects others next more queue none le t = record {
  tale = subst (λ (q : Option Queue). Tale story q) (sym queue) t.tale;
  unborn = λ above. let both : (found objects e ≡ None) × (story ≡ untold) = t.unborn (omega arith) in (none both.0, both.1);
}

quiet_one : (f : Body → Body) → Quiet f → (o : Option Object) → queue_if (option_map (on_body f) o) ≡ queue_if o
quiet_one f quiet None = refl
quiet_one f quiet (Some object) = quiet object.body

pub tells_changed : (e : ℕ) (story : Story) (objects : List Object) (next : ℕ) → Tells e story objects next → (f : Body → Body) → Quiet f → (id : ℕ)
    → Tells e story (changed f objects id) next
tells_changed e story objects next t f quiet id =
    let o : Option Object = found objects e in
    same_objects e story objects (changed f objects id) next next
    (ap queue_if (found_changed f objects id e) ∙ (elim (id == e) as (λ b. queue_if (cond b (option_map (on_body f) o) o) ≡ queue_if o) [ true ↦ quiet_one f quiet o | false ↦ refl ]))
    (λ none. found_changed f objects id e ∙ subst (λ (v : Option Object). cond (id == e) (option_map (on_body f) v) v ≡ None) (sym none)
    (let nothing : Option Object = None in elim (id == e) as (λ b. cond b nothing nothing ≡ nothing) [ true ↦ refl | false ↦ refl ]))
    (omega arith) t

mapped_one : (h : Object → Object) → ((object : Object) → queue_in (h object).body ≡ queue_in object.body) → (o : Option Object) → queue_if (option_map h o) ≡ queue_if o
mapped_one h quiet None = refl
mapped_one h quiet (Some object) = quiet object

pub tells_mapped : (e : ℕ) (story : Story) (objects : List Object) (next : ℕ) → Tells e story objects next
    → (h : Object → Object) → ((object : Object) → (h object).id ≡ object.id) → ((object : Object) → queue_in (h object).body ≡ queue_in object.body)
    → Tells e story (map h objects) next
tells_mapped e story objects next t h keeps quiet =
    same_objects e story objects (map h objects) next next
    (ap queue_if (found_map h keeps objects e) ∙ mapped_one h quiet (found objects e))
    (λ none. found_map h keeps objects e ∙ ap (λ o. option_map h o) none)
    (omega arith) t

pub tells_filtered : (e : ℕ) (story : Story) (objects : List Object) (next : ℕ) → Tells e story objects next
    → (p : ℕ → Bool) → Tells e story (filter (λ object. p object.id) objects) next
tells_filtered e story objects next t p =
    let o : Option Object = found objects e in
    let is : found (filter (λ object. p object.id) objects) e ≡ cond (p e) o None = found_filter p objects e in
    record {
      tale = subst (λ (v : Option Object). Tale story (queue_if v)) (sym is)
          (elim (p e) as (λ b. Tale story (queue_if (cond b o None))) [ true ↦ t.tale | false ↦ told_gone story (queue_if o) t.tale ]);
      unborn = λ above.
          let both : (o ≡ None) × (story ≡ untold) = t.unborn above in
          let nothing : Option Object = None in
          (is ∙ (ap (λ v. cond (p e) v None) both.0 ∙ (elim (p e) as (λ b. cond b nothing nothing ≡ nothing) [ true ↦ refl | false ↦ refl ])), both.1);
    }

-- an object that begins: its number is among the new ones, and it has no story
abbrev pub IsNew : ℕ → ℕ → ℕ → Option Object → Type 0
IsNew low high e None = Unit {0}
IsNew low high e (Some object) = (low ≤ e) × (e < high) × IsFresh (queue_in object.body)

pub tells_appended : (e : ℕ) (story : Story) (objects news : List Object) (next more : ℕ) → Tells e story objects next → next ≤ more → IsNew next more e (found news e)
    → Tells e story (objects ++ news) more
tells_appended e story objects news next more t le new =
    let P : Option Object → Option Object → Type 0 = λ old fresh. Tale story (queue_if old) → (next ≤ e → (old ≡ None) × (story ≡ untold)) → IsNew next more e fresh
    → Tale story (queue_if (option_or old fresh)) × (more ≤ e → (option_or old fresh ≡ None) × (story ≡ untold)) in
    let go : (old fresh : Option Object) → P old fresh = λ old fresh. elim old as (λ v. P v fresh) [
      | Some object ↦ (λ tale unborn is_new. (tale, λ above. unborn (omega arith)))
      | None ↦ elim fresh as (λ v. P None v) [
        | None ↦ (λ tale unborn is_new. (tale, λ above. unborn (omega arith)))
        | Some object ↦ (λ tale unborn is_new.
            let none : story ≡ untold = (unborn is_new.0).1 in
            (subst (λ (s : Story). Tale s (queue_in object.body)) (sym none) (told_begun (queue_in object.body) is_new.2), λ above. absurd (omega (arith, is_new.1))))
      ]
    ] in
    let both : Tale story (queue_if (option_or (found objects e) (found news e))) × (more ≤ e → (option_or (found objects e) (found news e) ≡ None) × (story ≡ untold)) =
    go (found objects e) (found news e) t.tale t.unborn new in
    let is : found (objects ++ news) e ≡ option_or (found objects e) (found news e) = found_append objects news e in
    record {
      tale = subst (λ (v : Option Object). Tale story (queue_if v)) (sym is) both.0;
      unborn = λ above. (is ∙ (both.1 above).0, (both.1 above).1);
    }

pub tells_added : (e : ℕ) (story : Story) (objects : List Object) (next : ℕ) → Tells e story objects next → (b : Body) → IsFresh (queue_in b)
    → Tells e story (objects ++ (record { id = next; body = b }) ∷ []) (next + 1)
tells_added e story objects next t b fresh =
    let one : Object = record { id = next; body = b } in
    let new : (v : Bool) → (next == e) ≡ v → IsNew next (next + 1) e (cond v (Some one) None) =
    λ v. elim v as (λ w. (next == e) ≡ w → IsNew next (next + 1) e (cond w (Some one) None)) [
      | true ↦ (λ is. let same : next ≡ e = grind (arith, tests) in (omega arith, omega arith, fresh))
      | false ↦ (λ is. tt)
    ] in
    tells_appended e story objects (one ∷ []) next (next + 1) t (omega arith) (new (next == e) refl)

-- Messages that move.

moved_queue : (g : ChannelEnd → ChannelEnd) (end : ChannelEnd) (o : Option Object) → as_end o ≡ Some end
    → (queue_if o ≡ Some (queue_of_end end)) × (queue_if (option_map (on_body (on_end g)) o) ≡ Some (queue_of_end (g end)))
moved_queue g end None is = absurd (cc)
moved_queue g end (Some object) is =
    let P : Body → Type 0 = λ b. end_in b ≡ Some end → (queue_in b ≡ Some (queue_of_end end)) × (queue_in (on_end g b) ≡ Some (queue_of_end (g end))) in
    let go : (b : Body) → P b = λ b. elim b as (λ v. P v) [
      | body.End x ↦ (λ same. let eq : x ≡ end = cc in (ap (λ y. Some (queue_of_end y)) eq, ap (λ y. Some (queue_of_end (g y))) eq))
      | body.Port x ↦ (λ same. absurd (cc))
      | body.Set x ↦ (λ same. absurd (cc))
      | body.Memory x ↦ (λ same. absurd (cc))
    ] in
    go object.body is

pub tells_moved : (e : ℕ) (story : Story) (objects : List Object) (next : ℕ) → Tells e story objects next
    → (g : ChannelEnd → ChannelEnd) (id : ℕ) (end : ChannelEnd) → end_of objects id ≡ Some end
    → (further : Bool → Story) → further false ≡ story
    → (Tale story (Some (queue_of_end end)) → Tale (further true) (Some (queue_of_end (g end))))
    → Tells e (further (id == e)) (changed (on_end g) objects id) next
tells_moved e story objects next t g id end is further same tells =
    let o : Option Object = found objects e in
    let there : found (changed (on_end g) objects id) e ≡ cond (id == e) (option_map (on_body (on_end g)) o) o = found_changed (on_end g) objects id e in
    let P : Bool → Type 0 = λ b. (id == e) ≡ b → Tale (further b) (queue_if (cond b (option_map (on_body (on_end g)) o) o))
    × (next ≤ e → (cond b (option_map (on_body (on_end g)) o) o ≡ None) × (further b ≡ untold)) in
    let go : (b : Bool) → P b = λ b. elim b as (λ v. P v) [
      | true ↦ (λ yes.
          let eq : id ≡ e = grind (arith, tests) in
          let here : as_end o ≡ Some end = ap as_end (sym (ap (λ n. found objects n) eq)) ∙ (ap as_end (sym (found_is objects id)) ∙ is) in
          let both : (queue_if o ≡ Some (queue_of_end end)) × (queue_if (option_map (on_body (on_end g)) o) ≡ Some (queue_of_end (g end))) = moved_queue g end o here in (
            subst (λ (q : Option Queue). Tale (further true) q) (sym both.1) (tells (subst (λ (q : Option Queue). Tale story q) both.0 t.tale)),
            λ above. let none : o ≡ None = (t.unborn above).0 in let bad : None ≡ Some end = ap as_end (sym none) ∙ here in absurd (cc),
          ))
      | false ↦ (λ no. (subst (λ (s : Story). Tale s (queue_if o)) (sym same) t.tale, λ above. ((t.unborn above).0, same ∙ (t.unborn above).1)))
    ] in
    let both : Tale (further (id == e)) (queue_if (cond (id == e) (option_map (on_body (on_end g)) o) o))
    × (next ≤ e → (cond (id == e) (option_map (on_body (on_end g)) o) o ≡ None) × (further (id == e) ≡ untold)) = go (id == e) refl in
    record {
      tale = subst (λ (v : Option Object). Tale (further (id == e)) (queue_if v)) (sym there) both.0;
      unborn = λ above. (there ∙ (both.1 above).0, (both.1 above).1);
    }

pub tells_sent : (e : ℕ) (story : Story) (objects : List Object) (next : ℕ) → Tells e story objects next
    → (bytes parts : List ℕ) (id : ℕ) (end : ChannelEnd) → end_of objects id ≡ Some end
    → Tells e (longer story e (sent_seq id end.sent)) (changed (on_end (with_message bytes parts)) objects id) next
tells_sent e story objects next t bytes parts id end is =
    tells_moved e story objects next t (with_message bytes parts) id end is
    (λ b. record story { sent = appended story.sent (cond b (Some end.sent) None) }) refl
    (told_sent story (queue_of_end end) (new_message end.sent bytes parts) refl refl)

pub tells_opened : (e : ℕ) (story : Story) (objects : List Object) (next : ℕ) → Tells e story objects next
    → (number : ℕ) (message : Message) (id : ℕ) (end : ChannelEnd) → end_of objects id ≡ Some end → find is_filled end.messages ≡ Some message
    → Tells e (longer story e (opened_seq id message.seq)) (changed (on_end (with_opened number)) objects id) next
tells_opened e story objects next t number message id end is first =
    tells_moved e story objects next t (with_opened number) id end is
    (λ b. record story { opened = appended story.opened (cond b (Some message.seq) None) }) refl
    (told_opened story (queue_of_end end) message number first)

pub tells_retired : (e : ℕ) (story : Story) (objects : List Object) (next : ℕ) → Tells e story objects next
    → (number : ℕ) (message : Message) (id : ℕ) (end : ChannelEnd) → end_of objects id ≡ Some end → find (is_opened_as number) end.messages ≡ Some message
    → Tells e (longer story e (retired_seq id message.seq)) (changed (on_end (without_opened number)) objects id) next
tells_retired e story objects next t number message id end is first =
    tells_moved e story objects next t (without_opened number) id end is
    (λ b. record story { retired = appended story.retired (cond b (Some message.seq) None) }) refl
    (told_retired story (queue_of_end end) message number first)
