-- An end of the bridge is dropped, and with it a server end that was pending for it: nothing names either, and all else is named still.
use Rattle.std.proofs.Common.{◌≡◌, ℕ, zero, suc, ◌<◌, ◌==◌, ◌&&◌, ◌⊎◌, inl, inr, Bool, true, false, cond, not, List, [], Option, Some, None, refl, sym, ◌∙◌, ap, subst, arith, tests}
use Rattle.std.specs.List.{filter}
use Rattle.std.specs.Option.{option_map}
use Rattle.kernel_values.specs.declared.state.Body.{Body}
use Rattle.kernel_values.specs.declared.state.Body.TheVariants as body
use Rattle.kernel_values.specs.declared.state.ChannelEnd.{ChannelEnd}
use Rattle.kernel_values.specs.declared.state.CoreState.{CoreState}
use Rattle.kernel_values.specs.declared.state.Object.{Object}
use Rattle.kernel_laws.proofs.Found.{found, found_is}
use Rattle.kernel_types.specs.Bridge.{unbridged, with_error}
use Rattle.kernel_types.specs.Connects.{peer_of}
use Rattle.kernel_types.specs.Messages.{has_id}
use Rattle.kernel_types.specs.Names.{named_in, names_of, naming}
use Rattle.kernel_types.specs.Objects.{as_end, end_of, is_there, on_end, on_port, with_objects}
use Rattle.kernel_types.specs.Reach.{is_in}
use Rattle.count_laws.specs.Dropping.{AllNamed, cut_from, dropped, is_other, unlisted}
use Rattle.count_laws.specs.Thinning.{In}
use Rattle.fit_laws.specs.Fitting.{FittingCore}
use Rattle.fit_laws.proofs.Meeting.{end_body, fitting_fits, in_found}
use Rattle.break_laws.specs.Breaks.{is_pending, pending_in}
use Rattle.break_laws.specs.Held.{IsMuteEnd, IsOpen, KeepsApart, held_in}
use Rattle.break_laws.proofs.Looking.{end_left, is_left}
use Rattle.break_laws.proofs.Marking.{Marked, Now, Was}
use Rattle.break_laws.proofs.Namers.{Namer, both_of, in_filtered, named, namer, root_known}
use Rattle.break_laws.proofs.Namers.Namer.{by_bridge, by_object, by_root}
use Rattle.break_laws.proofs.Surviving.{Left, held_known, is_pending_by, namer_left, pending_or_held, pends_at, was_left}

none_of : (k : ℕ) → (0 < k → ⊥) → k ≡ 0
none_of zero never = refl
none_of (suc k) never = absurd (never (omega arith))

pub peer_marked_same : (b : Bool) (o : Option ChannelEnd) → peer_of (cond b (option_map with_error o) o) ≡ peer_of o
peer_marked_same true None = refl
peer_marked_same true (Some end) = refl
peer_marked_same false o = refl

-- what is there after a drop was there, and is another
pub both_there : (b there : Bool) → cond b there false ≡ true → (b ≡ true) × (there ≡ true)
both_there true there is = (refl, is)
both_there false there is = absurd (cc)

pub other_differs : (x n : ℕ) → is_other x n ≡ true → (n == x) ≡ false
other_differs x n is = elim (n == x) as (λ b. not b ≡ true → b ≡ false) [ true ↦ (λ k. absurd (cc)) | false ↦ (λ k. refl) ] is

-- `os` are the objects of the state, of which the end's peer has the mark
module _ (c : CoreState) (e : ℕ) (os : List Object) (m : Marked (peer_of (end_of c.objects e)) c.objects os) (fits : FittingCore c) (keeps : KeepsApart c) (is : is_in c.bridged e ≡ true) where
  abbrev pub u : CoreState
  u = unbridged e (with_objects os c)

  abbrev pub q : Option ℕ
  q = peer_of (end_of c.objects e)

  pub q_same : peer_of (end_of u.objects e) ≡ q
  q_same = ap peer_of (m.ends e) ∙ peer_marked_same (has_id e q) (end_of c.objects e)

  open_or_pending : (x : Object) (n : ℕ) → In x c.objects → is_in (named_in x.body) n ≡ true → IsOpen c n ⊎ (is_pending c.objects n ≡ true)
  open_or_pending x n within names =
      elim (pending_or_held x.body n names) [
        | inl lists ↦ inr (is_pending_by c.objects x n within lists)
        | inr holds ↦ inl (held_known (IsOpen c) c x n keeps.held within holds)
      ]

  here : (e == e) ≡ true
  here = grind (arith, tests)

  -- once the bridge names the end no more, nothing does
  no_namer : Namer u e → ⊥
  no_namer (by_root h) = let known : IsOpen c e = root_known (IsOpen c) c e keeps.held h in let bad : false ≡ true = sym known.0 ∙ is in absurd (cc)
  no_namer (by_bridge h) =
      let none : is_in (filter (λ other. not (other == e)) c.bridged) e ≡ false = in_filtered (λ other. not (other == e)) c.bridged e ∙ ap (λ b. not b && is_in c.bridged e) here in
      let bad : false ≡ true = sym none ∙ h in absurd (cc)
  no_namer (by_object y within names) =
      let w : Was c.objects y = m.was y within in
      elim (open_or_pending w.x e w.within (ap (λ l. is_in l e) (sym w.same.names) ∙ names)) [
        | inl known ↦ let bad : false ≡ true = sym known.0 ∙ is in absurd (cc)
        | inr pends ↦ let bad : false ≡ true = sym (keeps.apart e is) ∙ pends in absurd (cc)
      ]

  pub unnamed_end : names_of (naming u) e ≡ 0
  unnamed_end = none_of (names_of (naming u) e) (λ some. no_namer (namer u e some))

  -- who names another one does so still
  namer_then : (n : ℕ) → (n == e) ≡ false → Namer c n → Namer u n
  namer_then n differs (by_root h) = by_root h
  namer_then n differs (by_bridge h) = by_bridge (in_filtered (λ other. not (other == e)) c.bridged n ∙ (ap (λ b. not b && is_in c.bridged n) differs ∙ h))
  namer_then n differs (by_object x within names) =
      let w : Now os x = m.now x within in
      by_object w.y w.within (ap (λ l. is_in l n) w.same.names ∙ names)

  -- the object of a number that is an end
  body_of : (x : Object) → In x c.objects → (end : ChannelEnd) → end_of c.objects x.id ≡ Some end → x.body ≡ body.End end
  body_of x within end there =
      let found_so : found c.objects x.id ≡ Some x = in_found 0 c.objects c.next fits.rises x within in
      end_body x.body end (sym (ap as_end (found_is c.objects x.id ∙ found_so)) ∙ there)

  -- the end names nothing
  mute : (n : ℕ) (y : Object) → In y u.objects → y.id ≡ e → is_in (named_in y.body) n ≡ true → ⊥
  mute n y within same names =
      let w : Was c.objects y = m.was y within in
      let k : IsMuteEnd c e = keeps.ends e is in
      let id : w.x.id ≡ e = sym w.same.id ∙ same in
      let is_end : w.x.body ≡ body.End k.end = body_of w.x w.within k.end (ap (end_of c.objects) id ∙ k.there) in
      let nothing : named_in y.body ≡ [] = w.same.names ∙ (ap named_in is_end ∙ k.mute) in
      let bad : false ≡ true = sym (ap (λ l. is_in l n) nothing) ∙ names in
      absurd (cc)

  lists_of : (n : ℕ) (y : Object) → In y u.objects → is_in (pending_in y.body) n ≡ true → is_pending c.objects n ≡ true
  lists_of n y within lists =
      let w : Was c.objects y = m.was y within in
      is_pending_by c.objects w.x n w.within (ap (λ l. is_in l n) (sym w.same.pends) ∙ lists)

  -- where its peer is not pending

  module _ (alone : (n : ℕ) → has_id n q ≡ true → is_pending c.objects n ≡ false) where
    pub all_named_alone : AllNamed c → AllNamed (dropped e u)
    all_named_alone all n there =
        let both : (is_other e n ≡ true) × (is_there u.objects n ≡ true) = both_there (is_other e n) (is_there u.objects n) (sym (is_left u e n) ∙ there) in
        let differs : (n == e) ≡ false = other_differs e n both.0 in
        let was : Namer c n = namer c n (all n (sym (m.there n) ∙ both.1)) in
        let kept : (y : Object) → In y u.objects → is_in (pending_in y.body) n ≡ true → has_id n (peer_of (end_of u.objects e)) ≡ false = λ y within lists.
        let P : Bool → Type 0 = λ b. has_id n q ≡ b → b ≡ false in
        let go : (b : Bool) → P b = λ b. elim b as (λ v. P v) [
          | true ↦ (λ faces. let bad : false ≡ true = sym (alone n faces) ∙ lists_of n y within lists in absurd (cc))
          | false ↦ (λ faces. refl)
        ] in
        ap (has_id n) q_same ∙ go (has_id n q) refl in
        named (dropped e u) n (namer_left u e n (mute n) kept (namer_then n differs was))

  -- where its peer is pending

  module _ (p : ℕ) (faces : q ≡ Some p) (pends : is_pending c.objects p ≡ true) where
    abbrev pub d : CoreState
    d = dropped e u

    pub peer_is : peer_of (end_of u.objects e) ≡ Some p
    peer_is = q_same ∙ faces

    here_too : (p == p) ≡ true
    here_too = grind (arith, tests)

    -- the port lists it no more
    gone_from : (b : Body) → is_in (named_in (on_end (cut_from e) (on_port (unlisted (Some p)) b))) p ≡ true → is_in (held_in b) p ≡ true
    gone_from (body.Port port) names =
        let none : is_in (filter (λ server. not (has_id server (Some p))) port.pending) p ≡ false =
        in_filtered (λ server. not (has_id server (Some p))) port.pending p ∙ ap (λ b. not b && is_in port.pending p) here_too in
        let bad : false ≡ true = sym none ∙ names in absurd (cc)
    gone_from (body.End end) names = names
    gone_from (body.Set set) names = names
    gone_from (body.Memory memory) names = absurd (cc)

    no_namer_too : Namer d p → ⊥
    unfolding dropped
    no_namer_too (by_root h) = let known : IsOpen c p = root_known (IsOpen c) c p keeps.held h in let bad : false ≡ true = sym known.1 ∙ pends in absurd (cc)
    no_namer_too (by_bridge h) =
        let named_so : is_in c.bridged p ≡ true = (both_of (not (p == e)) (is_in c.bridged p) (sym (in_filtered (λ other. not (other == e)) c.bridged p) ∙ h)).1 in
        let bad : false ≡ true = sym (keeps.apart p named_so) ∙ pends in absurd (cc)
    no_namer_too (by_object y within names) =
        let l : Left u e p y = was_left u e p y within in
        let w : Was c.objects l.z = m.was l.z l.within in
        let first : is_in (named_in (on_end (cut_from e) (on_port (unlisted (peer_of (end_of u.objects e))) l.z.body))) p ≡ true = ap (λ (o : Object). is_in (named_in o.body) p) l.is ∙ names in
        let holds : is_in (held_in l.z.body) p ≡ true = gone_from l.z.body (subst (λ (o : Option ℕ). is_in (named_in (on_end (cut_from e) (on_port (unlisted o) l.z.body))) p ≡ true) peer_is first) in
        let known : IsOpen c p = held_known (IsOpen c) c w.x p keeps.held w.within (ap (λ l. is_in l p) (sym w.same.holds) ∙ holds) in
        let bad : false ≡ true = sym known.1 ∙ pends in absurd (cc)

    pub unnamed_server : names_of (naming d) p ≡ 0
    unnamed_server = none_of (names_of (naming d) p) (λ some. no_namer_too (namer d p some))

    -- the end's peer is pending nowhere else, and it is the end's
    pub not_the_end : (p == e) ≡ false
    not_the_end =
        let P : Bool → Type 0 = λ b. (p == e) ≡ b → b ≡ false in
        let go : (b : Bool) → P b = λ b. elim b as (λ v. P v) [
          | true ↦ (λ k. let same : p ≡ e = grind (arith, tests) in
              let bad : false ≡ true = sym (keeps.apart e is) ∙ (ap (is_pending c.objects) (sym same) ∙ pends) in absurd (cc))
          | false ↦ (λ k. refl)
        ] in
        go (p == e) refl

    fewer : (b : Body) (peer : Option ℕ) (n : ℕ) → is_in (named_in (on_end (cut_from e) (on_port (unlisted peer) b))) n ≡ true → is_in (named_in b) n ≡ true
    fewer (body.Port port) peer n names = (both_of (not (has_id n peer)) (is_in port.pending n) (sym (in_filtered (λ server. not (has_id server peer)) port.pending n) ∙ names)).1
    fewer (body.End end) peer n names = names
    fewer (body.Set set) peer n names = names
    fewer (body.Memory memory) peer n names = names

    mute_too : (n : ℕ) (y : Object) → In y d.objects → y.id ≡ p → is_in (named_in y.body) n ≡ true → ⊥
    mute_too n y within same names =
        let l : Left u e n y = was_left u e n y within in
        let w : Was c.objects l.z = m.was l.z l.within in
        let id : w.x.id ≡ p = sym w.same.id ∙ (ap (λ (o : Object). o.id) l.is ∙ same) in
        let more : is_in (named_in l.z.body) n ≡ true = fewer l.z.body (peer_of (end_of u.objects e)) n (ap (λ (o : Object). is_in (named_in o.body) n) l.is ∙ names) in
        (fitting_fits c fits).idle w.x n (pends_at c.objects w.x.id (ap (is_pending c.objects) id ∙ pends)) w.within (ap (λ l. is_in l n) (sym w.same.names) ∙ more)

    module _ (back : peer_of (end_of c.objects p) ≡ Some e) where
      pub back_left : peer_of (end_of d.objects p) ≡ Some e
      back_left =
          let cut : (o : Option ChannelEnd) → peer_of (option_map (cut_from e) o) ≡ peer_of o = λ o. elim o as (λ v. peer_of (option_map (cut_from e) v) ≡ peer_of v) [ None ↦ refl | Some end ↦ refl ] in
          ap peer_of (end_left u e p ∙ ap (λ b. cond (not b) (option_map (cut_from e) (end_of u.objects p)) None) not_the_end)
          ∙ (cut (end_of u.objects p) ∙ (ap peer_of (m.ends p) ∙ (peer_marked_same (has_id p q) (end_of c.objects p) ∙ back)))

      pub all_named_too : AllNamed c → AllNamed (dropped p d)
      all_named_too all n there =
          let last : (is_other p n ≡ true) × (is_there d.objects n ≡ true) = both_there (is_other p n) (is_there d.objects n) (sym (is_left d p n) ∙ there) in
          let first : (is_other e n ≡ true) × (is_there u.objects n ≡ true) = both_there (is_other e n) (is_there u.objects n) (sym (is_left u e n) ∙ last.1) in
          let differs : (n == e) ≡ false = other_differs e n first.0 in
          let differs_too : (n == p) ≡ false = other_differs p n last.0 in
          let apart : (p == n) ≡ false = grind (arith, tests) in
          let apart_too : (e == n) ≡ false = grind (arith, tests) in
          let was : Namer c n = namer c n (all n (sym (m.there n) ∙ first.1)) in
          let one : Namer d n = namer_left u e n (mute n) (λ y within lists. ap (has_id n) peer_is ∙ apart) (namer_then n differs was) in
          named (dropped p d) n (namer_left d p n (mute_too n) (λ y within lists. ap (has_id n) back_left ∙ apart_too) one)
