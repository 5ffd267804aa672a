-- One end of the bridge is cut off: it goes, its peer hears of it or goes with it, and nothing else changes.
use Rattle.std.proofs.Common.{◌≡◌, ℕ, ◌==◌, ◌&&◌, ◌||◌, inl, inr, Bool, true, false, cond, not, List, [], ◌∷◌, Option, Some, None, refl, sym, ◌∙◌, ap, subst, arith, tests}
use Rattle.std.specs.List.{filter}
use Rattle.std.specs.Option.{is_some, option_map}
use Rattle.kernel_values.specs.declared.state.Body.{Body}
use Rattle.kernel_values.specs.declared.state.Body.TheVariants as body
use Rattle.kernel_values.specs.declared.state.ChannelEnd.{ChannelEnd}
use Rattle.kernel_values.specs.declared.state.CoreState.{CoreState}
use Rattle.kernel_values.specs.declared.state.EndState.{EndState}
use Rattle.kernel_values.specs.declared.state.EndState.TheVariants as end_state
use Rattle.kernel_values.specs.declared.state.HandleSet.{HandleSet}
use Rattle.kernel_values.specs.declared.state.MemoryRef.{MemoryRef}
use Rattle.kernel_values.specs.declared.state.Object.{Object}
use Rattle.kernel_values.specs.declared.state.Port.{Port}
use Rattle.kernel_types.specs.Bridge.{unbridged, with_error}
use Rattle.kernel_types.specs.Connects.{peer_of}
use Rattle.kernel_types.specs.Messages.{has_id}
use Rattle.kernel_laws.proofs.Found.{found, found_is}
use Rattle.kernel_types.specs.Objects.{as_end, as_memory, as_port, as_set, end_in, end_of, is_there, memory_in, memory_of, object_of, port_in, port_of, set_in, set_of, with_objects}
use Rattle.kernel_types.specs.Ports.{is_waiting}
use Rattle.kernel_types.specs.Reach.{is_in}
use Rattle.kernel_types.specs.Sweep.{is_live, is_marked}
use Rattle.count_laws.specs.Dropping.{cut_from, dropped, is_other, unlisted}
use Rattle.count_laws.specs.Thinning.{In}
use Rattle.count_laws.proofs.Holding.{numbers_same}
use Rattle.fit_laws.specs.Fitting.{FittingCore, IsServer}
use Rattle.break_laws.specs.Breaks.{AreCutOff, bereft, faces, is_pending, listing_what_is_left, pending_in}
use Rattle.break_laws.specs.Held.{IsMuteEnd, KeepsApart}
use Rattle.break_laws.proofs.Looking.{end_left, is_left, memory_left, port_left, set_left, there_is}
use Rattle.break_laws.proofs.Lone.{both_there, q_same}
use Rattle.break_laws.proofs.Marking.{Marked}
use Rattle.break_laws.proofs.Namers.{both_of, in_filtered}
use Rattle.break_laws.proofs.Surviving.{is_pending_by}

-- Kinds: an object is of one.

no_kind : {A : Type 0} (kind : Option Object → Option A) → ((id : ℕ) (end : ChannelEnd) → kind (Some (record { id = id; body = body.End end })) ≡ None)
    → (o : Option Object) (end : ChannelEnd) (a : A) → as_end o ≡ Some end → kind o ≡ Some a → ⊥
no_kind kind none None end a is is_too = absurd (cc)
no_kind kind none (Some x) end a is is_too =
    elim x.body as (λ b. end_in b ≡ Some end → kind (Some (record x { body = b })) ≡ Some a → ⊥) [
      | body.Port p ↦ (λ h k. absurd (cc))
      | body.End e ↦ (λ h k. let no : kind (Some (record x { body = body.End e })) ≡ None = none x.id e in absurd (cc))
      | body.Set p ↦ (λ h k. absurd (cc))
      | body.Memory p ↦ (λ h k. absurd (cc))
    ] is is_too

no_port : (o : Option Object) (end : ChannelEnd) (port : Port) → as_end o ≡ Some end → as_port o ≡ Some port → ⊥
no_port = no_kind as_port (λ id end. refl)

no_set : (o : Option Object) (end : ChannelEnd) (set : HandleSet) → as_end o ≡ Some end → as_set o ≡ Some set → ⊥
no_set = no_kind as_set (λ id end. refl)

no_memory : (o : Option Object) (end : ChannelEnd) (memory : MemoryRef) → as_end o ≡ Some end → as_memory o ≡ Some memory → ⊥
no_memory = no_kind as_memory (λ id end. refl)

pub end_there : (o : Option Object) (end : ChannelEnd) → as_end o ≡ Some end → is_some o ≡ true
end_there None end is = absurd (cc)
end_there (Some x) end is = refl

-- what a port lists is pending

found_in : (objects : List Object) (n : ℕ) (x : Object) → found objects n ≡ Some x → In x objects
found_in [] n x is = absurd (cc)
found_in (o ∷ objects) n x is =
    let P : Bool → Type 0 = λ b. cond b (Some o) (found objects n) ≡ Some x → In x (o ∷ objects) in
    let go : (b : Bool) → P b = λ b. elim b as (λ v. P v) [ true ↦ (λ k. let same : o ≡ x = cc in inl same) | false ↦ (λ k. inr (found_in objects n x k)) ] in
    go (o.id == n) is

lists_in : (objects : List Object) (n server : ℕ) (port : Port) (o : Option Object) → object_of objects n ≡ o → as_port o ≡ Some port → is_in port.pending server ≡ true → is_pending objects server ≡ true
lists_in objects n server port None at is lists = absurd (cc)
lists_in objects n server port (Some x) at is lists =
    let within : In x objects = found_in objects n x (sym (found_is objects n) ∙ at) in
    let pends : (b : Body) → port_in b ≡ Some port → is_in (pending_in b) server ≡ true = λ b.
    elim b as (λ v. port_in v ≡ Some port → is_in (pending_in v) server ≡ true) [
      | body.Port p ↦ (λ k. let same : p ≡ port = cc in ap (λ (v : Port). is_in v.pending server) same ∙ lists)
      | body.End p ↦ (λ k. absurd (cc))
      | body.Set p ↦ (λ k. absurd (cc))
      | body.Memory p ↦ (λ k. absurd (cc))
    ] in
    is_pending_by objects x server within (pends x.body is)

pub port_lists : (objects : List Object) (n server : ℕ) (port : Port) → port_of objects n ≡ Some port → is_in port.pending server ≡ true → is_pending objects server ≡ true
port_lists objects n server port there lists = lists_in objects n server port (object_of objects n) refl there lists

-- Peers.

pub or_false : (b : Bool) → (b || false) ≡ b
or_false true = refl
or_false false = refl

peer_faces : (e : ℕ) (o : Option ℕ) → is_marked (e ∷ []) o ≡ true → o ≡ Some e
peer_faces e None is = absurd (cc)
peer_faces e (Some k) is =
    let same : (e == k) ≡ true = sym (or_false (e == k)) ∙ is in
    let eq : k ≡ e = grind (arith, tests) in
    ap Some eq

peer_is_another : (e : ℕ) (o : Option ℕ) → is_marked (e ∷ []) o ≡ false → has_id e o ≡ false
peer_is_another e None is = refl
peer_is_another e (Some k) is =
    let other : (e == k) ≡ false = sym (or_false (e == k)) ∙ is in
    grind (arith, tests)

has_itself : (n : ℕ) (o : Option ℕ) → o ≡ Some n → has_id n o ≡ true
has_itself n o is = let here : (n == n) ≡ true = grind (arith, tests) in ap (has_id n) is ∙ here

is_of_id : (n : ℕ) (o : Option ℕ) → has_id n o ≡ true → o ≡ Some n
is_of_id n None is = absurd (cc)
is_of_id n (Some k) is = let eq : k ≡ n = grind (arith, tests) in ap Some eq

not_one : (e n : ℕ) → is_in (e ∷ []) n ≡ false → (n == e) ≡ false
not_one e n is =
    let other : (e == n) ≡ false = sym (or_false (e == n)) ∙ is in
    grind (arith, tests)

-- An end is cut from its peer.

and_false : (b : Bool) → (b && false) ≡ false
and_false true = refl
and_false false = refl

uncut : (x : ℕ) (end : ChannelEnd) → has_id x end.peer ≡ false → cut_from x end ≡ end
uncut x end other = ap (λ (b : Bool). record end { state = cond b end_state.Disconnected end.state }) (ap (λ b. is_live end.state && b) other ∙ and_false (is_live end.state))

closed : (state : EndState) → is_waiting state ≡ false → cond (is_live state && true) end_state.Disconnected state ≡ end_state.Disconnected
closed end_state.Waiting is = absurd (cc)
closed end_state.Connecting is = refl
closed end_state.Connected is = refl
closed end_state.Disconnected is = refl

cut_so : (x : ℕ) (end : ChannelEnd) → end.peer ≡ Some x → is_waiting end.state ≡ false → cut_from x (with_error end) ≡ bereft end
cut_so x end faces_it moves =
    ap (λ (s : EndState). record end { state = s; error = true })
    (ap (λ b. cond (is_live end.state && b) end_state.Disconnected end.state) (has_itself x end.peer faces_it) ∙ closed end.state moves)

-- `os` are the objects of the state, of which the end's peer has the mark
module _ (c : CoreState) (e : ℕ) (os : List Object) (m : Marked (peer_of (end_of c.objects e)) c.objects os) (fits : FittingCore c) (keeps : KeepsApart c) (is : is_in c.bridged e ≡ true) where
  abbrev before : CoreState
  before = unbridged e (with_objects os c)

  abbrev Q : Option ℕ
  Q = peer_of (end_of c.objects e)

  abbrev K : IsMuteEnd c e
  K = keeps.ends e is

  abbrev pub one : CoreState
  one = dropped e before

  peer_of_end : K.end.peer ≡ Q
  peer_of_end = sym (ap peer_of K.there)

  -- peers are mutual
  forth : (n : ℕ) (end : ChannelEnd) → end_of c.objects n ≡ Some end → end.peer ≡ Some e → Q ≡ Some n
  forth n end there faces_it = sym peer_of_end ∙ fits.fits.mates n e end K.end there faces_it K.there

  pub back : (n : ℕ) (end : ChannelEnd) → end_of c.objects n ≡ Some end → Q ≡ Some n → end.peer ≡ Some e
  back n end there is_peer = fits.fits.mates e n K.end end K.there (peer_of_end ∙ is_peer) there

  another : (n : ℕ) → (n ≡ e → ⊥) → (n == e) ≡ false
  another n differs =
      let P : Bool → Type 0 = λ b. (n == e) ≡ b → b ≡ false in
      let go : (b : Bool) → P b = λ b. elim b as (λ v. P v) [ true ↦ (λ k. let same : n ≡ e = grind (arith, tests) in absurd (differs same)) | false ↦ (λ k. refl) ] in
      go (n == e) refl

  pending_differs : (n : ℕ) → is_pending c.objects n ≡ true → (n == e) ≡ false
  pending_differs n pends = another n (λ same. let bad : false ≡ true = sym (keeps.apart e is) ∙ (ap (is_pending c.objects) (sym same) ∙ pends) in absurd (cc))

  port_differs : (n : ℕ) (port : Port) → port_of c.objects n ≡ Some port → (n == e) ≡ false
  port_differs n port there = another n (λ same. no_port (object_of c.objects e) K.end port K.there (ap (port_of c.objects) (sym same) ∙ there))

  set_differs : (n : ℕ) (set : HandleSet) → set_of c.objects n ≡ Some set → (n == e) ≡ false
  set_differs n set there = another n (λ same. no_set (object_of c.objects e) K.end set K.there (ap (set_of c.objects) (sym same) ∙ there))

  memory_differs : (n : ℕ) (memory : MemoryRef) → memory_of c.objects n ≡ Some memory → (n == e) ≡ false
  memory_differs n memory there = another n (λ same. no_memory (object_of c.objects e) K.end memory K.there (ap (memory_of c.objects) (sym same) ∙ there))

  -- What is left once the end is dropped.

  gone_one : is_there one.objects e ≡ false
  gone_one =
      let here : (e == e) ≡ true = grind (arith, tests) in
      is_left before e e ∙ ap (λ b. cond (not b) (is_there before.objects e) false) here

  there_one : (n : ℕ) → (n == e) ≡ false → is_there c.objects n ≡ true → is_there one.objects n ≡ true
  there_one n differs there = is_left before e n ∙ (ap (λ b. cond (not b) (is_there os n) false) differs ∙ (m.there n ∙ there))

  comes_one : (n : ℕ) → is_there one.objects n ≡ true → is_there c.objects n ≡ true
  comes_one n there = sym (m.there n) ∙ (both_there (is_other e n) (is_there os n) (sym (is_left before e n) ∙ there)).1

  end_one : (n : ℕ) (end : ChannelEnd) (b : Bool) → end_of c.objects n ≡ Some end → (n == e) ≡ false → has_id n Q ≡ b → end_of one.objects n ≡ Some (cut_from e (cond b (with_error end) end))
  end_one n end b there differs marks =
      let marked : end_of os n ≡ Some (cond b (with_error end) end) =
      m.ends n ∙ (ap (λ k. cond k (option_map with_error (end_of c.objects n)) (end_of c.objects n)) marks
      ∙ (ap (λ o. cond b (option_map with_error o) o) there ∙ (elim b as (λ k. cond k (Some (with_error end)) (Some end) ≡ Some (cond k (with_error end) end)) [ true ↦ refl | false ↦ refl ]))) in
      end_left before e n ∙ (ap (λ b. cond (not b) (option_map (cut_from e) (end_of os n)) None) differs ∙ ap (option_map (cut_from e)) marked)

  unmarked : (n : ℕ) (end : ChannelEnd) → end_of c.objects n ≡ Some end → faces (e ∷ []) end ≡ false → has_id n Q ≡ false
  unmarked n end there apart =
      let P : Bool → Type 0 = λ b. has_id n Q ≡ b → b ≡ false in
      let go : (b : Bool) → P b = λ b. elim b as (λ v. P v) [
        | true ↦ (λ k.
            let faces_it : end.peer ≡ Some e = back n end there (is_of_id n Q k) in
            let bad : true ≡ false = sym (has_itself e end.peer faces_it) ∙ peer_is_another e end.peer apart in absurd (cc))
        | false ↦ (λ k. refl)
      ] in
      go (has_id n Q) refl

  others_one : (n : ℕ) (end : ChannelEnd) → end_of c.objects n ≡ Some end → is_in (e ∷ []) n ≡ false → faces (e ∷ []) end ≡ false → end_of one.objects n ≡ Some end
  others_one n end there differs apart = end_one n end false there (not_one e n differs) (unmarked n end there apart) ∙ ap Some (uncut e end (peer_is_another e end.peer apart))

  moves : (n : ℕ) (end : ChannelEnd) → end_of c.objects n ≡ Some end → end.peer ≡ Some e → is_waiting end.state ≡ false
  moves n end there faces_it =
      let P : Bool → Type 0 = λ b. is_waiting end.state ≡ b → b ≡ false in
      let go : (b : Bool) → P b = λ b. elim b as (λ v. P v) [
        | true ↦ (λ k. let bad : None ≡ Some e = sym (fits.fits.alone n end there k) ∙ faces_it in absurd (cc))
        | false ↦ (λ k. refl)
      ] in
      go (is_waiting end.state) refl

  peers_one : (n : ℕ) (end : ChannelEnd) → end_of c.objects n ≡ Some end → is_in (e ∷ []) n ≡ false → faces (e ∷ []) end ≡ true → end_of one.objects n ≡ Some (bereft end)
  peers_one n end there differs faces_so =
      let faces_it : end.peer ≡ Some e = peer_faces e end.peer faces_so in
      end_one n end true there (not_one e n differs) (has_itself n Q (forth n end there faces_it)) ∙ ap Some (cut_so e end faces_it (moves n end there faces_it))

  port_one : (n : ℕ) (port : Port) → port_of c.objects n ≡ Some port → port_of one.objects n ≡ Some (unlisted Q port)
  port_one n port there =
      port_left before e n ∙ (ap (λ b. cond (not b) (option_map (unlisted (peer_of (end_of os e))) (port_of os n)) None) (port_differs n port there)
      ∙ (ap (λ o. option_map (unlisted o) (port_of os n)) (q_same c e os m fits keeps is) ∙ ap (option_map (unlisted Q)) (m.ports n ∙ there)))

  set_one : (n : ℕ) (set : HandleSet) → set_of c.objects n ≡ Some set → set_of one.objects n ≡ Some set
  set_one n set there = set_left before e n ∙ (ap (λ b. cond (not b) (set_of os n) None) (set_differs n set there) ∙ (m.sets n ∙ there))

  memory_one : (n : ℕ) (memory : MemoryRef) → memory_of c.objects n ≡ Some memory → memory_of one.objects n ≡ Some memory
  memory_one n memory there = memory_left before e n ∙ (ap (λ b. cond (not b) (memory_of os n) None) (memory_differs n memory there) ∙ (m.memories n ∙ there))

  -- a pending server end is there
  server_there : (n server : ℕ) (port : Port) → port_of c.objects n ≡ Some port → is_in port.pending server ≡ true → is_there c.objects server ≡ true
  server_there n server port there lists =
      let s : IsServer (end_of c.objects) server = fits.fits.pending n server port there lists in
      there_is c.objects server ∙ end_there (object_of c.objects server) s.end s.there

  ends_gone : (d : CoreState) → is_there d.objects e ≡ false → (n : ℕ) → is_in (e ∷ []) n ≡ true → is_there d.objects n ≡ false
  ends_gone d gone n among =
      let same : (e == n) ≡ true = sym (or_false (e == n)) ∙ among in
      let eq : e ≡ n = grind (arith, tests) in
      subst (λ k. is_there d.objects k ≡ false) eq gone

  -- Its peer is not pending.

  module _ (alone : (n : ℕ) → has_id n Q ≡ true → is_pending c.objects n ≡ false) where
    none_pending : (n : ℕ) (end : ChannelEnd) → end_of c.objects n ≡ Some end → faces (e ∷ []) end ≡ true → is_pending c.objects n ≡ true → is_there one.objects n ≡ false
    none_pending n end there faces_so pends =
        let bad : false ≡ true = sym (alone n (has_itself n Q (forth n end there (peer_faces e end.peer faces_so)))) ∙ pends in absurd (cc)

    lists_alone : (n : ℕ) (port : Port) → port_of c.objects n ≡ Some port → (server : ℕ) → is_in port.pending server ≡ true → not (has_id server Q) ≡ is_there one.objects server
    lists_alone n port there server lists =
        let pends : is_pending c.objects server ≡ true = port_lists c.objects n server port there lists in
        let P : Bool → Type 0 = λ b. has_id server Q ≡ b → not b ≡ true in
        let go : (b : Bool) → P b = λ b. elim b as (λ v. P v) [ true ↦ (λ k. let bad : false ≡ true = sym (alone server k) ∙ pends in absurd (cc)) | false ↦ (λ k. refl) ] in
        go (has_id server Q) refl ∙ sym (there_one server (pending_differs server pends) (server_there n server port there lists))

    pub cut_alone : AreCutOff (e ∷ []) c one
    unfolding dropped
    cut_alone = record {
      tables_stay = refl;
      waits_stay = refl;
      clock_stays = refl;
      next_stays = refl;
      ends_go = ends_gone one gone_one;
      pending_go = none_pending;
      peers_hear = λ n end there differs faces_so apart. peers_one n end there differs faces_so;
      others_stay = others_one;
      ports_stay = λ n port there. port_one n port there
          ∙ ap (λ l. Some (record port { pending = l })) (numbers_same (λ server. not (has_id server Q)) (is_there one.objects) port.pending (lists_alone n port there));
      sets_stay = set_one;
      memories_stay = memory_one;
      nothing_comes = comes_one;
    }

  -- Its peer is pending.

  module _ (p : ℕ) (faces_p : Q ≡ Some p) (pends_p : is_pending c.objects p ≡ true) (server : ChannelEnd) (at : end_of c.objects p ≡ Some server) where
    abbrev pub both : CoreState
    both = dropped p one

    pub server_back : server.peer ≡ Some e
    server_back = back p server at faces_p

    here_p : (p == p) ≡ true
    here_p = grind (arith, tests)

    another_p : (n : ℕ) → (n ≡ p → ⊥) → (n == p) ≡ false
    another_p n differs =
        let P : Bool → Type 0 = λ b. (n == p) ≡ b → b ≡ false in
        let go : (b : Bool) → P b = λ b. elim b as (λ v. P v) [ true ↦ (λ k. let same : n ≡ p = grind (arith, tests) in absurd (differs same)) | false ↦ (λ k. refl) ] in
        go (n == p) refl

    back_one : peer_of (end_of one.objects p) ≡ Some e
    back_one = ap peer_of (end_one p server true at (pending_differs p pends_p) (has_itself p Q faces_p)) ∙ server_back

    gone_both : (n : ℕ) → is_there one.objects n ≡ false → is_there both.objects n ≡ false
    gone_both n gone = is_left one p n ∙ (ap (λ b. cond (is_other p n) b false) gone ∙ (elim (is_other p n) as (λ b. cond b false false ≡ false) [ true ↦ refl | false ↦ refl ]))

    gone_server : is_there both.objects p ≡ false
    gone_server = is_left one p p ∙ ap (λ b. cond (not b) (is_there one.objects p) false) here_p

    comes_both : (n : ℕ) → is_there both.objects n ≡ true → is_there c.objects n ≡ true
    comes_both n there = comes_one n (both_there (is_other p n) (is_there one.objects n) (sym (is_left one p n) ∙ there)).1

    pending_both : (n : ℕ) (end : ChannelEnd) → end_of c.objects n ≡ Some end → faces (e ∷ []) end ≡ true → is_pending c.objects n ≡ true → is_there both.objects n ≡ false
    pending_both n end there faces_so pends =
        let same : Some p ≡ Some n = sym faces_p ∙ forth n end there (peer_faces e end.peer faces_so) in
        let eq : p ≡ n = cc in
        subst (λ k. is_there both.objects k ≡ false) eq gone_server

    peers_both : (n : ℕ) (end : ChannelEnd) → end_of c.objects n ≡ Some end → faces (e ∷ []) end ≡ true → is_pending c.objects n ≡ false → end_of both.objects n ≡ Some (bereft end)
    peers_both n end there faces_so apart =
        let same : Some p ≡ Some n = sym faces_p ∙ forth n end there (peer_faces e end.peer faces_so) in
        let eq : p ≡ n = cc in
        let bad : true ≡ false = sym pends_p ∙ (ap (is_pending c.objects) eq ∙ apart) in
        absurd (cc)

    others_both : (n : ℕ) (end : ChannelEnd) → end_of c.objects n ≡ Some end → is_in (e ∷ []) n ≡ false → faces (e ∷ []) end ≡ false → end_of both.objects n ≡ Some end
    others_both n end there differs apart =
        let not_it : (n == p) ≡ false = another_p n (λ same.
        let ends_same : Some end ≡ Some server = sym there ∙ (ap (end_of c.objects) same ∙ at) in
        let end_same : end ≡ server = cc in
        let faces_it : end.peer ≡ Some e = ap (λ (v : ChannelEnd). v.peer) end_same ∙ server_back in
        let bad : true ≡ false = sym (has_itself e end.peer faces_it) ∙ peer_is_another e end.peer apart in absurd (cc)) in
        let free : has_id p end.peer ≡ false =
        let P : Bool → Type 0 = λ b. has_id p end.peer ≡ b → b ≡ false in
        let go : (b : Bool) → P b = λ b. elim b as (λ v. P v) [
          | true ↦ (λ k.
              let mates : Some e ≡ Some n = sym server_back ∙ fits.fits.mates n p end server there (is_of_id p end.peer k) at in
              let eq : e ≡ n = cc in
              let no : (n == e) ≡ false = not_one e n differs in
              let yes : (n == e) ≡ true = grind (arith, tests) in
              absurd (cc))
          | false ↦ (λ k. refl)
        ] in
        go (has_id p end.peer) refl in
        end_left one p n ∙ (ap (λ b. cond (not b) (option_map (cut_from p) (end_of one.objects n)) None) not_it
        ∙ (ap (option_map (cut_from p)) (others_one n end there differs apart) ∙ ap Some (uncut p end free)))

    -- what is no end is not the server end
    port_both : (n : ℕ) (port : Port) → port_of c.objects n ≡ Some port → port_of both.objects n ≡ Some (unlisted (Some e) (unlisted Q port))
    port_both n port there =
        let not_it : (n == p) ≡ false = another_p n (λ same. no_port (object_of c.objects p) server port at (ap (port_of c.objects) (sym same) ∙ there)) in
        port_left one p n ∙ (ap (λ b. cond (not b) (option_map (unlisted (peer_of (end_of one.objects p))) (port_of one.objects n)) None) not_it
        ∙ (ap (λ o. option_map (unlisted o) (port_of one.objects n)) back_one ∙ ap (option_map (unlisted (Some e))) (port_one n port there)))

    set_both : (n : ℕ) (set : HandleSet) → set_of c.objects n ≡ Some set → set_of both.objects n ≡ Some set
    set_both n set there =
        let not_it : (n == p) ≡ false = another_p n (λ same. no_set (object_of c.objects p) server set at (ap (set_of c.objects) (sym same) ∙ there)) in
        set_left one p n ∙ (ap (λ b. cond (not b) (set_of one.objects n) None) not_it ∙ set_one n set there)

    memory_both : (n : ℕ) (memory : MemoryRef) → memory_of c.objects n ≡ Some memory → memory_of both.objects n ≡ Some memory
    memory_both n memory there =
        let not_it : (n == p) ≡ false = another_p n (λ same. no_memory (object_of c.objects p) server memory at (ap (memory_of c.objects) (sym same) ∙ there)) in
        memory_left one p n ∙ (ap (λ b. cond (not b) (memory_of one.objects n) None) not_it ∙ memory_one n memory there)

    -- the lists of ports
    there_both : (n k : ℕ) (port : Port) → port_of c.objects n ≡ Some port → is_in port.pending k ≡ true → not (has_id k Q) ≡ is_there both.objects k
    there_both n k port there lists =
        let pends : is_pending c.objects k ≡ true = port_lists c.objects n k port there lists in
        let left : is_there one.objects k ≡ true = there_one k (pending_differs k pends) (server_there n k port there lists) in
        let flip : (p == k) ≡ (k == p) = grind (arith, tests) in
        let both_same : (b : Bool) → not b ≡ cond (not b) true false = λ b. elim b as (λ v. not v ≡ cond (not v) true false) [ true ↦ refl | false ↦ refl ] in
        ap not (ap (has_id k) faces_p ∙ flip) ∙ (both_same (k == p) ∙ sym (is_left one p k ∙ ap (λ b. cond (is_other p k) b false) left))

    never_lists : (n : ℕ) (port : Port) → port_of c.objects n ≡ Some port → (k : ℕ) → is_in (filter (λ s. not (has_id s Q)) port.pending) k ≡ true → not (has_id k (Some e)) ≡ true
    never_lists n port there k lists =
        let listed : is_in port.pending k ≡ true = (both_of (not (has_id k Q)) (is_in port.pending k) (sym (in_filtered (λ s. not (has_id s Q)) port.pending k) ∙ lists)).1 in
        let differs : (k == e) ≡ false = pending_differs k (port_lists c.objects n k port there listed) in
        let flip : (e == k) ≡ false = grind (arith, tests) in
        ap not flip

    filter_all : (f : ℕ → Bool) (xs : List ℕ) → ((x : ℕ) → is_in xs x ≡ true → f x ≡ true) → filter f xs ≡ xs
    filter_all f [] all = refl
    filter_all f (x ∷ xs) all =
        let here : (x == x) ≡ true = grind (arith, tests) in
        ap (λ (b : Bool). cond b (x ∷ filter f xs) (filter f xs)) (all x (ap (λ b. b || is_in xs x) here))
        ∙ ap (λ l. x ∷ l) (filter_all f xs (λ y h. all y (elim (x == y) as (λ b. (b || is_in xs y) ≡ true) [ true ↦ refl | false ↦ h ])))

    lists_both : (n : ℕ) (port : Port) → port_of c.objects n ≡ Some port → port_of both.objects n ≡ Some (listing_what_is_left both.objects port)
    lists_both n port there =
        let less : List ℕ = filter (λ s. not (has_id s Q)) port.pending in
        port_both n port there
        ∙ ap (λ l. Some (record port { pending = l })) (filter_all (λ s. not (has_id s (Some e))) less (never_lists n port there)
        ∙ numbers_same (λ s. not (has_id s Q)) (is_there both.objects) port.pending (λ k lists. there_both n k port there lists))

    pub cut_both : AreCutOff (e ∷ []) c both
    unfolding dropped
    cut_both = record {
      tables_stay = refl;
      waits_stay = refl;
      clock_stays = refl;
      next_stays = refl;
      ends_go = ends_gone both (gone_both e gone_one);
      pending_go = pending_both;
      peers_hear = λ n end there differs faces_so apart. peers_both n end there faces_so apart;
      others_stay = others_both;
      ports_stay = lists_both;
      sets_stay = set_both;
      memories_stay = memory_both;
      nothing_comes = comes_both;
    }
