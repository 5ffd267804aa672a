-- The message that `get` opened is the one that `put` retires: its id was free before.
use Rattle.std.proofs.Common.{◌≡◌, ◌≤◌, ◌<◌, ℕ, zero, suc, ◌+◌, ◌-◌, ◌==◌, ◌||◌, Bool, true, false, cond, not, List, [], ◌∷◌, map, length, Option, Some, None, refl, sym, ap, ◌∙◌, subst, arith, tests, eqb, eq-eqb}
use Rattle.std.specs.List.{find, list_any, position_or_len, range_with_len}
use Rattle.std.specs.Option.{option_map, unwrap_or}
use Rattle.std.proofs.lemmas.List.{length-map}
use Rattle.std.proofs.lemmas.Map.Steps.{le-length_from_below}
use Rattle.kernel_values.specs.declared.reply.Reply.TheVariants as reply
use Rattle.kernel_values.specs.declared.state.Body.TheVariants as body
use Rattle.kernel_values.specs.declared.state.ChannelEnd.{ChannelEnd}
use Rattle.kernel_values.specs.declared.state.CoreState.{CoreState}
use Rattle.kernel_values.specs.declared.state.Message.{Message}
use Rattle.kernel_values.specs.declared.state.Object.{Object}
use Rattle.kernel_types.specs.Bridge.{ns_take, put_after, take_from}
use Rattle.kernel_types.specs.Connects.{peer_of}
use Rattle.kernel_types.specs.Events.{is_filled}
use Rattle.kernel_types.specs.Messages.{free_id, get_message, has_id, is_free_id, is_opened_as, opened_as, peer_unblocked, put_from, put_message, with_opened, without_opened}
use Rattle.kernel_types.specs.Objects.{as_end, changed, end_changed, end_in, end_of, map_at, on_body, on_end}
use Rattle.kernel_types.specs.Outcome.{Outcome, gives_with, retired_seq}
use Rattle.kernel_types.specs.Sweep.{sweep}
use Rattle.kernel_laws.proofs.Found.{found, found_changed, found_is}
use Rattle.plain_kernel.specs.Bridged.{filled_at, filled_in, first_retired, id_in, taken}
use Rattle.plain_objects.proofs.Changing.{later_changed}

-- The numbers of a range.

cond_none : (b : Bool) (x : ℕ) (o : Option ℕ) → cond b (Some x) o ≡ None → (b ≡ false) × (o ≡ None)
cond_none true x o is = absurd (cc)
cond_none false x o is = (refl, is)

found_passes : (p : ℕ → Bool) (a n x : ℕ) → find p (range_with_len a n) ≡ Some x → p x ≡ true
found_passes p a zero x is = absurd (cc)
found_passes p a (suc n) x is =
    let Q : Bool → Type 0 = λ b. p a ≡ b → cond b (Some a) (find p (range_with_len (a + 1) n)) ≡ Some x → p x ≡ true in
    let go : (b : Bool) → Q b = λ b. elim b as (λ v. Q v) [ true ↦ (λ h e. let same : a ≡ x = cc in subst (λ y. p y ≡ true) same h) | false ↦ (λ h e. found_passes p (a + 1) n x e) ] in
    go (p a) refl is

none_passes : (p : ℕ → Bool) (a n : ℕ) → find p (range_with_len a n) ≡ None → (q : ℕ) → q < n → p (a + q) ≡ false
none_passes p a zero is q below = absurd (omega (arith, below))
none_passes p a (suc n) is zero below =
    let here : a ≡ a + 0 = omega arith in
    subst (λ x. p x ≡ false) here (cond_none (p a) a (find p (range_with_len (a + 1) n)) is).0
none_passes p a (suc n) is (suc q) below =
    let there : a + 1 + q ≡ a + suc q = omega arith in
    subst (λ x. p x ≡ false) there (none_passes p (a + 1) n (cond_none (p a) a (find p (range_with_len (a + 1) n)) is).1 q (omega (arith, below)))

free_parts : (a b : Bool) → not (a || b) ≡ true → (a ≡ false) × (not b ≡ true)
free_parts true b is = absurd (cc)
free_parts false b is = (refl, is)

-- Some id is free: there are fewer messages than numbers to choose from.

abbrev number_in : Option ℕ → ℕ
number_in None = 0
number_in (Some id) = id - 1

one_taken : (q : ℕ) (o : Option ℕ) → has_id (1 + q) o ≡ true → eqb q (number_in o) ≡ true
one_taken q None is = absurd (cc)
one_taken q (Some id) is = let same : id ≡ 1 + q = grind (arith, tests) in eq-eqb q (id - 1) (omega (arith, same))

all_taken : (q : ℕ) (messages : List Message) → list_any (is_opened_as (1 + q)) messages ≡ true → list_any (eqb q) (map (λ message. number_in message.opened) messages) ≡ true
all_taken q [] is = absurd (cc)
all_taken q (message ∷ messages) is =
    let others : List ℕ = map (λ message. number_in message.opened) messages in
    let Q : Bool → Type 0 = λ b. has_id (1 + q) message.opened ≡ b → (b || list_any (is_opened_as (1 + q)) messages) ≡ true
    → (eqb q (number_in message.opened) || list_any (eqb q) others) ≡ true in
    let go : (b : Bool) → Q b = λ b. elim b as (λ v. Q v) [
      | true ↦ (λ h e. ap (λ v. v || list_any (eqb q) others) (one_taken q message.opened h))
      | false ↦ (λ h e. elim (eqb q (number_in message.opened)) as (λ v. (v || list_any (eqb q) others) ≡ true) [ true ↦ refl | false ↦ all_taken q messages e ])
    ] in
    go (has_id (1 + q) message.opened) refl is

not_false : (b : Bool) → not b ≡ false → b ≡ true
not_false true is = refl
not_false false is = absurd (cc)

not_none : (messages : List Message) → find (is_free_id messages) (range_with_len 1 (length messages + 1)) ≡ None → ⊥
not_none messages none =
    let numbers : List ℕ = map (λ message. number_in message.opened) messages in
    let each : (q : ℕ) → q < length messages + 1 → list_any (eqb q) numbers ≡ true =
    λ q below. all_taken q messages (not_false (list_any (is_opened_as (1 + q)) messages) (none_passes (is_free_id messages) 1 (length messages + 1) none q below)) in
    let long : length messages + 1 ≤ length numbers = le-length_from_below numbers (length messages + 1) each in
    omega (arith, long, length-map messages (λ message. number_in message.opened))

pub id_is_free : (messages : List Message) → is_free_id messages (free_id messages) ≡ true
unfolding free_id
id_is_free messages =
    let Q : Option ℕ → Type 0 = λ o. find (is_free_id messages) (range_with_len 1 (length messages + 1)) ≡ o → is_free_id messages (unwrap_or o 0) ≡ true in
    let go : (o : Option ℕ) → Q o = λ o. elim o as (λ v. Q v) [
      | None ↦ (λ is. absurd (not_none messages is))
      | Some id ↦ (λ is. found_passes (is_free_id messages) 1 (length messages + 1) id is)
    ] in
    go _ refl

-- the message that is opened is found by its id
pub opened_found : (id : ℕ) (messages : List Message) → is_free_id messages id ≡ true
    → find (is_opened_as id) (map_at (opened_as id) messages (position_or_len is_filled messages)) ≡ option_map (opened_as id) (find is_filled messages)
opened_found id [] free = refl
opened_found id (message ∷ messages) free =
    let n : ℕ = position_or_len is_filled messages in
    let change : Message → Message = opened_as id in
    let parts : (is_opened_as id message ≡ false) × (not (list_any (is_opened_as id) messages) ≡ true) =
    free_parts (is_opened_as id message) (list_any (is_opened_as id) messages) free in
    let rest : find (is_opened_as id) (map_at change messages n) ≡ option_map change (find is_filled messages) = opened_found id messages parts.1 in
    let Q : Bool → Type 0 = λ b. find (is_opened_as id) (map_at change (message ∷ messages) (cond (not b) (1 + n) 0)) ≡ option_map change (cond b (Some message) (find is_filled messages)) in
    let later : (k : ℕ) → k ≡ suc n → find (is_opened_as id) (map_at change (message ∷ messages) k) ≡ option_map change (find is_filled messages) =
    λ k is. subst (λ j. find (is_opened_as id) (map_at change (message ∷ messages) j) ≡ option_map change (find is_filled messages)) (sym is)
    (ap (find (is_opened_as id)) (later_changed change message messages n)
    ∙ (ap (λ b. cond b (Some message) (find (is_opened_as id) (map_at change messages n))) parts.0 ∙ rest)) in
    let here : (id == id) ≡ true = grind (arith, tests) in
    elim (is_filled message) as (λ b. Q b) [
      | true ↦ ap (λ b. cond b (Some (change message)) (find (is_opened_as id) messages)) here
      | false ↦ later (1 + n) (omega arith)
    ]

-- What the bridge takes.

end_mapped : (f : ChannelEnd → ChannelEnd) (o : Option Object) → as_end (option_map (on_body (on_end f)) o) ≡ option_map f (as_end o)
end_mapped f None = refl
end_mapped f (Some object) = elim object.body as (λ b. end_in (on_end f b) ≡ option_map f (end_in b)) [
  | body.End end ↦ refl
  | body.Port port ↦ refl
  | body.Set set ↦ refl
  | body.Memory memory ↦ refl
]

end_changed_there : (f : ChannelEnd → ChannelEnd) (objects : List Object) (id : ℕ) → end_of (changed (on_end f) objects id) id ≡ option_map f (end_of objects id)
end_changed_there f objects id =
    let one : Option Object = option_map (on_body (on_end f)) (found objects id) in
    let here : (id == id) ≡ true = grind (arith, tests) in
    ap as_end (found_is (changed (on_end f) objects id) id) ∙ (ap as_end (found_changed (on_end f) objects id id)
    ∙ (ap (λ b. as_end (cond b one (found objects id))) here ∙ (end_mapped f (found objects id) ∙ sym (ap (λ o. option_map f (as_end o)) (found_is objects id)))))

-- the state after the message was opened and retired
abbrev pub without_first : ChannelEnd → ℕ → CoreState → CoreState
without_first end id c = peer_unblocked end.peer (end_changed (without_opened (free_id end.messages)) id (end_changed (with_opened (free_id end.messages)) id c))

put_opened : (c : CoreState) (id : ℕ) (end : ChannelEnd) (message : Message) (o : Option ChannelEnd) (p : Option Message)
    → o ≡ Some (with_opened (free_id end.messages) end) → p ≡ Some (opened_as (free_id end.messages) message)
    → find (is_opened_as (free_id end.messages)) (with_opened (free_id end.messages) end).messages ≡ p
    → put_from c id (free_id end.messages) o ≡ gives_with reply.Done (retired_seq id message.seq) (peer_unblocked end.peer (end_changed (without_opened (free_id end.messages)) id c))
put_opened c id end message o p is first finds =
    let number : ℕ = free_id end.messages in
    let opened : ChannelEnd = with_opened number end in
    ap (put_from c id number) is ∙ (ap (put_message c id opened number) (finds ∙ first))

first_taken : (c : CoreState) (id : ℕ) (end : ChannelEnd) (message : Message) → end_of c.objects id ≡ Some end → find is_filled end.messages ≡ Some message
    → take_from c id (Some end) ≡ taken (record { end = record { 0 = id }; seq = message.seq }) (sweep (without_first end id c))
first_taken c id end message there first =
    let number : ℕ = free_id end.messages in
    let opened : CoreState = end_changed (with_opened number) id c in
    let got : Outcome = get_message c id end (Some message) in
    let after : end_of opened.objects id ≡ Some (with_opened number end) = end_changed_there (with_opened number) c.objects id ∙ ap (option_map (with_opened number)) there in
    let finds : find (is_opened_as number) (with_opened number end).messages ≡ Some (opened_as number message) =
    opened_found number end.messages (id_is_free end.messages) ∙ ap (option_map (opened_as number)) first in
    let done : put_from opened id number (end_of opened.objects id) ≡ gives_with reply.Done (retired_seq id message.seq) (peer_unblocked end.peer (end_changed (without_opened number) id opened)) =
    put_opened opened id end message (end_of opened.objects id) (Some (opened_as number message)) after refl finds in
    ap (λ o. put_after c id number (get_message c id end o)) first
    ∙ ap (λ (outcome : Outcome). record { seqs = record { sent = None; opened = got.seqs.opened; retired = outcome.seqs.retired }; core = sweep outcome.core }) done

pub taken_first : (c : CoreState) (id seq : ℕ) → option_map (λ message. message.seq) (filled_at c id) ≡ Some seq
    → ns_take c id ≡ taken (record { end = record { 0 = id }; seq = seq }) (sweep (first_retired id c))
unfolding ns_take first_retired
taken_first c id seq first =
    let P : Option ChannelEnd → Type 0 = λ o. end_of c.objects id ≡ o → option_map (λ message. message.seq) (filled_in o) ≡ Some seq
    → take_from c id o ≡ taken (record { end = record { 0 = id }; seq = seq })
    (sweep (peer_unblocked (peer_of o) (end_changed (without_opened (id_in o)) id (end_changed (with_opened (id_in o)) id c)))) in
    let with_end : (end : ChannelEnd) → P (Some end) = λ end there is.
    let Q : Option Message → Type 0 = λ o. find is_filled end.messages ≡ o → option_map (λ message. message.seq) o ≡ Some seq
    → take_from c id (Some end) ≡ taken (record { end = record { 0 = id }; seq = seq }) (sweep (without_first end id c)) in
    let go : (o : Option Message) → Q o = λ o. elim o as (λ v. Q v) [
      | None ↦ (λ f s. absurd (cc))
      | Some message ↦ (λ f s. let same : message.seq ≡ seq = cc in
          subst (λ n. take_from c id (Some end) ≡ taken (record { end = record { 0 = id }; seq = n }) (sweep (without_first end id c))) same (first_taken c id end message there f))
    ] in
    go (find is_filled end.messages) refl is in
    let go : (o : Option ChannelEnd) → P o = λ o. elim o as (λ v. P v) [ None ↦ (λ there is. absurd (cc)) | Some end ↦ with_end end ] in
    go (end_of c.objects id) refl first
