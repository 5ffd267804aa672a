-- Changes of one object that leave who is whose peer: marks, messages, memory, members.
use Rattle.std.proofs.Common.{◌≡◌, ℕ, ◌==◌, ◌&&◌, ◌||◌, ◌⊎◌, inl, inr, Bool, true, false, cond, not, List, [], ◌∷◌, Option, Some, None, refl, sym, ◌∙◌, ap, subst, arith, tests}
use Rattle.std.specs.List.{flat_map, list_all, position_or_len}
use Rattle.std.specs.Option.{option_map, is_some}
use Rattle.std.proofs.lemmas.List.Folds.{flat_map-map}
use Rattle.kernel_values.specs.declared.state.Body.{Body}
use Rattle.kernel_values.specs.declared.state.Body.TheVariants as body
use Rattle.kernel_values.specs.declared.state.ChannelEnd.{ChannelEnd}
use Rattle.kernel_values.specs.declared.state.EndState.{EndState}
use Rattle.kernel_values.specs.declared.state.EndState.TheVariants as end_state
use Rattle.kernel_values.specs.declared.state.HandleSet.{HandleSet}
use Rattle.kernel_values.specs.declared.state.MemoryRef.{MemoryRef}
use Rattle.kernel_values.specs.declared.state.Message.{Message}
use Rattle.kernel_values.specs.declared.state.CoreState.{CoreState}
use Rattle.kernel_values.specs.declared.state.Object.{Object}
use Rattle.kernel_values.specs.declared.state.TableEntry.{TableEntry}
use Rattle.kernel_laws.proofs.Mapped.{map_at_same}
use Rattle.kernel_types.specs.Bridge.{with_error}
use Rattle.kernel_types.specs.Connects.{unready}
use Rattle.kernel_types.specs.Events.{is_disconnected, is_filled}
use Rattle.kernel_types.specs.Messages.{blocked_end, entry_object, has_unsendable_part, is_memory_entry, is_opened_as, is_unconnected, new_message, opened_as, part_objects, unblocked_end, with_message, with_opened, without_opened}
use Rattle.kernel_types.specs.Names.{message_objects}
use Rattle.kernel_types.specs.Objects.{changed, end_in, end_of, map_at, memory_in, on_end, on_memory, on_set, port_in, port_of}
use Rattle.kernel_types.specs.Reach.{is_in}
use Rattle.kernel_types.specs.Reports.{reported_end}
use Rattle.kernel_types.specs.Sweep.{is_live}
use Rattle.kernel_types.specs.Tables.{entry_at}
use Rattle.fit_laws.specs.Fitting.{Fitting, IsMated, holds_memory}
use Rattle.fit_laws.proofs.Looks.{end_at, end_leaves_memory, end_leaves_port, ends_same, memories_same, ports_same}
use Rattle.kernel_laws.proofs.Rising.{rises_changed}
use Rattle.fit_laws.proofs.Numbers.{fewer_parts, one_more_part}
use Rattle.fit_laws.proofs.Touching.{IsPart, Side, pending_of, side, touched}

-- A set or a memory reference is changed, or nothing that counts here.

pub body_touched : (objects : List Object) (next : ℕ) → Fitting objects next → (g : Body → Body) → ((b : Body) → end_in (g b) ≡ end_in b) → ((b : Body) → port_in (g b) ≡ port_in b)
    → ((b : Body) → is_some (memory_in (g b)) ≡ is_some (memory_in b)) → (id : ℕ) → Fitting (changed g objects id) next
body_touched objects next f g ends ports memories id = record {
  rises = rises_changed g 0 objects next id f.rises;
  fits = touched (end_of objects) (end_of (changed g objects id)) (port_of objects) (port_of (changed g objects id)) (holds_memory objects) (holds_memory (changed g objects id)) next f.fits
      (λ n. ap (option_map side) (ends_same g ends objects id n))
      (λ n. ap (option_map pending_of) (ports_same g ports objects id n))
      (λ n is. memories_same g memories objects id n ∙ is)
      (λ n object end is names. inl (record { end = end; there = sym (ends_same g ends objects id n) ∙ is; names = names }));
}

pub fit_set : (objects : List Object) (next : ℕ) → Fitting objects next → (f : HandleSet → HandleSet) (id : ℕ) → Fitting (changed (on_set f) objects id) next
fit_set objects next k f id = body_touched objects next k (on_set f)
    (λ b. elim b as (λ v. end_in (on_set f v) ≡ end_in v) [ body.Port port ↦ refl | body.End end ↦ refl | body.Set set ↦ refl | body.Memory memory ↦ refl ])
    (λ b. elim b as (λ v. port_in (on_set f v) ≡ port_in v) [ body.Port port ↦ refl | body.End end ↦ refl | body.Set set ↦ refl | body.Memory memory ↦ refl ])
    (λ b. elim b as (λ v. is_some (memory_in (on_set f v)) ≡ is_some (memory_in v)) [ body.Port port ↦ refl | body.End end ↦ refl | body.Set set ↦ refl | body.Memory memory ↦ refl ]) id

pub fit_memory : (objects : List Object) (next : ℕ) → Fitting objects next → (f : MemoryRef → MemoryRef) (id : ℕ) → Fitting (changed (on_memory f) objects id) next
fit_memory objects next k f id = body_touched objects next k (on_memory f)
    (λ b. elim b as (λ v. end_in (on_memory f v) ≡ end_in v) [ body.Port port ↦ refl | body.End end ↦ refl | body.Set set ↦ refl | body.Memory memory ↦ refl ])
    (λ b. elim b as (λ v. port_in (on_memory f v) ≡ port_in v) [ body.Port port ↦ refl | body.End end ↦ refl | body.Set set ↦ refl | body.Memory memory ↦ refl ])
    (λ b. elim b as (λ v. is_some (memory_in (on_memory f v)) ≡ is_some (memory_in v)) [ body.Port port ↦ refl | body.End end ↦ refl | body.Set set ↦ refl | body.Memory memory ↦ refl ]) id

-- An end is changed, whose side stays.

sides_kept : (f : ChannelEnd → ChannelEnd) → ((end : ChannelEnd) → side (f end) ≡ side end) → (b : Bool) (o : Option ChannelEnd) → option_map side (cond b (option_map f o) o) ≡ option_map side o
sides_kept f same true None = refl
sides_kept f same true (Some end) = ap Some (same end)
sides_kept f same false o = refl

pub record Changed (f : ChannelEnd → ChannelEnd) (o : Option ChannelEnd) (end : ChannelEnd) : Type 0 where
  pub old : ChannelEnd
  pub was : o ≡ Some old
  pub is : f old ≡ end

pub changed_from : (f : ChannelEnd → ChannelEnd) (o : Option ChannelEnd) (end : ChannelEnd) → option_map f o ≡ Some end → Changed f o end
changed_from f None end is = let bad : None ≡ Some end = is in absurd (cc)
changed_from f (Some old) end is = let same : Some (f old) ≡ Some end = is in record { old = old; was = refl; is = cc }

-- each part that the change leaves there was there, or it is a memory reference that comes to a connected end
abbrev pub KeepsParts : List Object → (ChannelEnd → ChannelEnd) → ℕ → Type 0
KeepsParts objects f id = (end : ChannelEnd) (object : ℕ) → end_of objects id ≡ Some end → is_in (message_objects (f end).messages) object ≡ true
    → (is_in (message_objects end.messages) object ≡ true) ⊎ ((is_unconnected end.state ≡ false) × (holds_memory objects object ≡ true))

pub end_touched : (objects : List Object) (next : ℕ) → Fitting objects next → (f : ChannelEnd → ChannelEnd) → ((end : ChannelEnd) → side (f end) ≡ side end) → (id : ℕ) → KeepsParts objects f id
    → Fitting (changed (on_end f) objects id) next
end_touched objects next k f same id parts =
    let E : ℕ → Option ChannelEnd = end_of objects in
    let M : ℕ → Bool = holds_memory objects in
    let came : (n object : ℕ) (end : ChannelEnd) → end_of (changed (on_end f) objects id) n ≡ Some end → is_in (message_objects end.messages) object ≡ true → IsPart E M n end object =
    λ n object end is names.
    let P : Bool → Type 0 = λ b. (id == n) ≡ b → cond b (option_map f (E n)) (E n) ≡ Some end → IsPart E M n end object in
    let go : (b : Bool) → P b = λ b. elim b as (λ v. P v) [
      | true ↦ (λ e t. let c : Changed f (E n) end = changed_from f (E n) end t in
          let here : id ≡ n = grind (arith, tests) in
          elim (parts c.old object (ap E here ∙ c.was) (ap (λ (x : ChannelEnd). is_in (message_objects x.messages) object) c.is ∙ names)) [
            | inl old ↦ inl (record { end = c.old; there = c.was; names = old })
            | inr new ↦ (let state : c.old.state ≡ end.state = ap (λ (s : Side). s.state) (sym (same c.old) ∙ ap side c.is) in inr (ap is_unconnected (sym state) ∙ new.0, new.1))
          ])
      | false ↦ (λ e t. inl (record { end = end; there = t; names = names }))
    ] in
    go (id == n) refl (sym (end_at f objects id n) ∙ is) in
    record {
      rises = rises_changed (on_end f) 0 objects next id k.rises;
      fits = touched E (end_of (changed (on_end f) objects id)) (port_of objects) (port_of (changed (on_end f) objects id)) M (holds_memory (changed (on_end f) objects id)) next k.fits
          (λ n. ap (option_map side) (end_at f objects id n) ∙ sides_kept f same (id == n) (E n))
          (λ n. ap (option_map pending_of) (ports_same (on_end f) (end_leaves_port f) objects id n))
          (λ n is. memories_same (on_end f) (end_leaves_memory f) objects id n ∙ is)
          came;
    }

-- a change of an end that leaves its side, and brings no part: marks, a message that is opened or retired, one without parts
pub record IsQuiet (f : ChannelEnd → ChannelEnd) : Type 0 where
  pub same : (end : ChannelEnd) → side (f end) ≡ side end
  pub fewer : (end : ChannelEnd) (object : ℕ) → is_in (message_objects (f end).messages) object ≡ true → is_in (message_objects end.messages) object ≡ true

pub fit_quiet : (objects : List Object) (next : ℕ) → Fitting objects next → (f : ChannelEnd → ChannelEnd) → IsQuiet f → (id : ℕ) → Fitting (changed (on_end f) objects id) next
fit_quiet objects next k f quiet id = end_touched objects next k f quiet.same id (λ end object is names. inl (quiet.fewer end object names))

pub blocked_quiet : IsQuiet blocked_end
blocked_quiet = record { same = λ end. refl; fewer = λ end object names. names }

pub unblocked_quiet : IsQuiet unblocked_end
unblocked_quiet = record { same = λ end. refl; fewer = λ end object names. names }

pub error_quiet : IsQuiet with_error
error_quiet = record { same = λ end. refl; fewer = λ end object names. names }

pub unready_quiet : IsQuiet unready
unready_quiet = record { same = λ end. refl; fewer = λ end object names. names }

pub reported_quiet : (events : ℕ) → IsQuiet (reported_end events)
reported_quiet events = record { same = λ end. refl; fewer = λ end object names. names }

-- The messages.

opened_parts : (number : ℕ) (end : ChannelEnd) → message_objects (with_opened number end).messages ≡ message_objects end.messages
opened_parts number end =
    let place : ℕ = position_or_len is_filled end.messages in
    let parts : Message → List ℕ = λ m. m.parts in
    sym (flat_map-map (λ (l : List ℕ). l) parts (map_at (opened_as number) end.messages place))
    ∙ (ap (flat_map (λ (l : List ℕ). l)) (map_at_same parts (opened_as number) (λ m. refl) end.messages place) ∙ flat_map-map (λ (l : List ℕ). l) parts end.messages)

pub opened_quiet : (number : ℕ) → IsQuiet (with_opened number)
opened_quiet number = record { same = λ end. refl; fewer = λ end object names. ap (λ l. is_in l object) (sym (opened_parts number end)) ∙ names }

pub retired_quiet : (number : ℕ) → IsQuiet (without_opened number)
retired_quiet number = record { same = λ end. refl; fewer = λ end object names. fewer_parts (λ message. not (is_opened_as number message)) end.messages object names }

-- a message without parts, as the bridge sends
pub pushed_quiet : (bytes : List ℕ) → IsQuiet (with_message bytes [])
pushed_quiet bytes = record {
  same = λ end. refl;
  fewer = λ end object names. elim (one_more_part end.messages (new_message end.sent bytes []) object names) [ inl old ↦ old | inr bad ↦ absurd (cc) ];
}

-- what a send has tested: its end is connected, its peer is `peer`, and the parts are memory references
pub record IsSent (objects : List Object) (id peer : ℕ) (parts : List ℕ) : Type 0 where
  pub end : ChannelEnd
  pub there : end_of objects id ≡ Some end
  pub connected : is_unconnected end.state ≡ false
  pub lasting : is_disconnected end.state ≡ false
  pub to : end.peer ≡ Some peer
  pub memories : (object : ℕ) → is_in parts object ≡ true → holds_memory objects object ≡ true

live_or : (state : EndState) → is_unconnected state ≡ false → is_disconnected state ≡ false → is_live state ≡ true
live_or end_state.Waiting a b = absurd (cc)
live_or end_state.Connecting a b = absurd (cc)
live_or end_state.Connected a b = refl
live_or end_state.Disconnected a b = absurd (cc)

pub fit_sent : (objects : List Object) (next : ℕ) → Fitting objects next → (bytes parts : List ℕ) (id peer : ℕ) → IsSent objects id peer parts
    → Fitting (changed (on_end (with_message bytes parts)) objects peer) next
fit_sent objects next k bytes parts id peer s =
    let m : IsMated (end_of objects) id s.end = k.fits.live id s.end s.there (live_or s.end.state s.connected s.lasting) in
    let numbers : Some m.number ≡ Some peer = sym m.is ∙ s.to in
    let number : m.number ≡ peer = cc in
    end_touched objects next k (with_message bytes parts) (λ end. refl) peer
    (λ end object is names. elim (one_more_part end.messages (new_message end.sent bytes parts) object names) [
      | inl old ↦ inl old
      | inr new ↦ (let both : Some m.mate ≡ Some end = sym m.there ∙ (ap (end_of objects) number ∙ is) in
          let mate : m.mate ≡ end = cc in
          let state : end.state ≡ s.end.state = ap (λ (x : ChannelEnd). x.state) (sym mate) ∙ m.state in
          inr (ap is_unconnected state ∙ s.connected, s.memories object new))
    ])

-- What a send has tested of its parts.

entry_memory : (objects : List Object) (o : Option TableEntry) → is_memory_entry objects o ≡ true → holds_memory objects (entry_object o) ≡ true
entry_memory objects None is = absurd (cc)
entry_memory objects (Some entry) is = is

both_in : (a b : Bool) → (a && b) ≡ true → (a ≡ true) × (b ≡ true)
both_in true true is = (refl, refl)
both_in true false is = absurd (cc)
both_in false b is = absurd (cc)

all_memories : (objects : List Object) (table : List TableEntry) (parts : List ℕ) → list_all (λ handle. is_memory_entry objects (entry_at table handle)) parts ≡ true
    → (object : ℕ) → is_in (part_objects table parts) object ≡ true → holds_memory objects object ≡ true
all_memories objects table [] all object is = absurd (cc)
all_memories objects table (handle ∷ parts) all object is =
    let x : ℕ = entry_object (entry_at table handle) in
    let both : (is_memory_entry objects (entry_at table handle) ≡ true) × (list_all (λ h. is_memory_entry objects (entry_at table h)) parts ≡ true) =
    both_in (is_memory_entry objects (entry_at table handle)) (list_all (λ h. is_memory_entry objects (entry_at table h)) parts) all in
    let P : Bool → Type 0 = λ b. (x == object) ≡ b → (b || is_in (part_objects table parts) object) ≡ true → holds_memory objects object ≡ true in
    let go : (b : Bool) → P b = λ b. elim b as (λ v. P v) [
      | true ↦ (λ e k. let same : x ≡ object = grind (arith, tests) in subst (λ n. holds_memory objects n ≡ true) same (entry_memory objects (entry_at table handle) both.0))
      | false ↦ (λ e k. all_memories objects table parts both.1 object k)
    ] in
    go (x == object) refl is

first_false : (a b : Bool) → (not a || b) ≡ false → a ≡ true
first_false true b is = refl
first_false false b is = absurd (cc)

pub sent_memories : (c : CoreState) (table : List TableEntry) (peer : Option ChannelEnd) (parts : List ℕ) → has_unsendable_part c table peer parts ≡ false
    → (object : ℕ) → is_in (part_objects table parts) object ≡ true → holds_memory c.objects object ≡ true
sent_memories c table peer parts is =
    all_memories c.objects table parts (first_false (list_all (λ handle. is_memory_entry c.objects (entry_at table handle)) parts) _ is)
