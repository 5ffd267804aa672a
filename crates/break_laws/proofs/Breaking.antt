-- A drop of a broken bridge cuts its end off, and what is asked of the state for that still stands after it.
use Rattle.std.proofs.Common.{◌≡◌, ℕ, ◌==◌, ◌&&◌, Bool, true, false, not, List, [], ◌∷◌, Option, Some, None, refl, sym, ◌∙◌, ap, subst, arith, tests}
use Rattle.std.specs.List.{filter}
use Rattle.kernel_values.specs.declared.state.CoreState.{CoreState}
use Rattle.kernel_values.specs.declared.state.Object.{Object}
use Rattle.kernel_types.specs.Bridge.{ns_drop, peer_marked, unbridged, with_error}
use Rattle.kernel_types.specs.Connects.{peer_of}
use Rattle.kernel_types.specs.Messages.{has_id}
use Rattle.kernel_types.specs.Objects.{changed, end_changed, end_of, on_end, with_objects}
use Rattle.kernel_types.specs.Reach.{is_in}
use Rattle.kernel_types.specs.Sweep.{sweep}
use Rattle.step_laws.specs.SmallChanges.Mark.{mark_error}
use Rattle.step_laws.specs.SmallChanges.SmallChange.{end_marked}
use Rattle.step_laws.specs.Walks.CoreChange.{by_small, end_unbridged, objects_swept}
use Rattle.step_laws.specs.Walks.MadeBy.{by_bridge}
use Rattle.set_laws.proofs.Deepening.{small_shrinks, swept_shrinks}
use Rattle.set_laws.proofs.Shrinking.{deep_by}
use Rattle.object_laws.proofs.Sweeping.{swept_iff}
use Rattle.count_laws.specs.Dropping.Drops.{none_yet, one_more}
use Rattle.count_laws.specs.Dropping.{AllNamed, Drops, dropped}
use Rattle.count_laws.specs.Thinning.{IsServed}
use Rattle.count_laws.proofs.Dropping.{ends_in_sweep}
use Rattle.name_laws.proofs.There.{change_there}
use Rattle.fit_laws.specs.Sweeps.{IsReady}
use Rattle.fit_laws.proofs.Meeting.{WithPeer, fitting_fits, with_peer}
use Rattle.fit_laws.specs.Sweeps.{IsCountable}
use Rattle.fit_laws.proofs.Ready.{change_countable, ready, swept_countable}
use Rattle.fit_laws.proofs.Steps.{change_fits}
use Rattle.break_laws.specs.Breaks.{AreCutOff, is_pending}
use Rattle.break_laws.specs.Held.{KeepsApart}
use Rattle.break_laws.proofs.Cutting.{cut_alone, cut_both, server_back}
use Rattle.break_laws.proofs.Keeping.{HoldsNoMore, dropped_fewer, fewer_twice, still_keeps, unbridged_fewer}
use Rattle.break_laws.proofs.Lone.{all_named_alone, all_named_too, unnamed_end, unnamed_server}
use Rattle.break_laws.proofs.Marking.{Marked, none_marked, one_marked}
use Rattle.break_laws.proofs.Namers.{in_filtered}
use Rattle.break_laws.proofs.Surviving.{pends_at}

-- What is asked of a state: the objects fit, what is there is named and what is named is there, and the kernel keeps to itself what is its own.
pub record Stands (c : CoreState) : Type 0 where
  pub well : IsCountable c
  pub named : AllNamed c
  pub keeps : KeepsApart c

well_marked : (p : ℕ) (c : CoreState) → IsCountable c → IsCountable (end_changed with_error p c)
well_marked p c k = change_countable None c k (by_small None (by_bridge refl) (end_marked mark_error p))

well_unbridged : (e : ℕ) (c : CoreState) → IsCountable c → IsCountable (unbridged e c)
well_unbridged e c k = change_countable None c k (end_unbridged e)

pub all_named_swept : (c : CoreState) → AllNamed (sweep c)
all_named_swept c object there = ((swept_iff c object).0 there).1

-- what comes of the drop of an end
pub record Dropping (e : ℕ) (c d : CoreState) : Type 0 where
  pub cut : AreCutOff (e ∷ []) c d
  pub stands : Stands d
  pub less : HoldsNoMore c d

none_left : (e : ℕ) (xs : List ℕ) → is_in (filter (λ other. not (other == e)) xs) e ≡ false
none_left e xs = let here : (e == e) ≡ true = grind (arith, tests) in in_filtered (λ other. not (other == e)) xs e ∙ ap (λ b. not b && is_in xs e) here

module _ (c : CoreState) (e : ℕ) (s : Stands c) (is : is_in c.bridged e ≡ true) (os : List Object) (m : Marked (peer_of (end_of c.objects e)) c.objects os)
    (well : IsCountable (with_objects os c)) where
  abbrev u : CoreState
  u = unbridged e (with_objects os c)

  abbrev Q : Option ℕ
  Q = peer_of (end_of c.objects e)

  is_ready : IsReady u
  is_ready = ready u (well_unbridged e (with_objects os c) well)

  -- a state that is cut off and is what the sweep leaves
  swept_so : (d : CoreState) → AreCutOff (e ∷ []) c d → HoldsNoMore c d → is_in d.bridged e ≡ false → d ≡ sweep u → Dropping e c (sweep u)
  swept_so d cut less gone same =
      let keeps : KeepsApart d = still_keeps c d less e gone cut s.keeps in
      record {
        cut = subst (λ (x : CoreState). AreCutOff (e ∷ []) c x) same cut;
        stands = record {
          well = swept_countable u (well_unbridged e (with_objects os c) well);
          named = all_named_swept u;
          keeps = subst (λ (x : CoreState). KeepsApart x) same keeps;
        };
        less = subst (λ (x : CoreState). HoldsNoMore c x) same less;
      }

  alone_drops : ((n : ℕ) → has_id n Q ≡ true → is_pending c.objects n ≡ false) → Dropping e c (sweep u)
  unfolding dropped
  alone_drops alone =
      let d : CoreState = dropped e u in
      let row : Drops u d = one_more d u e (none_yet u refl) (unnamed_end c e os m s.well.fits s.keeps is) refl in
      swept_so d (cut_alone c e os m s.well.fits s.keeps is alone)
      (fewer_twice c u d (unbridged_fewer c e Q os m) (dropped_fewer u e)) (none_left e c.bridged)
      (ends_in_sweep u d is_ready.fit is_ready.ranked is_ready.there row (all_named_alone c e os m s.well.fits s.keeps is alone s.named))

  both_drop : (p : ℕ) → Q ≡ Some p → is_pending c.objects p ≡ true → Dropping e c (sweep u)
  unfolding dropped
  both_drop p faces pends =
      let served : IsServed c.objects p = (fitting_fits c s.well.fits).served p (pends_at c.objects p pends) in
      let server : WithPeer (end_of c.objects p) served.client = with_peer (end_of c.objects p) served.client served.of in
      let back : peer_of (end_of c.objects p) ≡ Some e = ap peer_of server.is ∙ server_back c e os m s.well.fits s.keeps is p faces pends server.end server.is in
      let d : CoreState = dropped e u in
      let both_gone : CoreState = dropped p d in
      let row : Drops u both_gone =
      one_more both_gone d p (one_more d u e (none_yet u refl) (unnamed_end c e os m s.well.fits s.keeps is) refl) (unnamed_server c e os m s.well.fits s.keeps is p faces pends) refl in
      swept_so both_gone (cut_both c e os m s.well.fits s.keeps is p faces pends server.end server.is)
      (fewer_twice c d both_gone (fewer_twice c u d (unbridged_fewer c e Q os m) (dropped_fewer u e)) (dropped_fewer d p)) (none_left e c.bridged)
      (ends_in_sweep u both_gone is_ready.fit is_ready.ranked is_ready.there row (all_named_too c e os m s.well.fits s.keeps is p faces pends back s.named))

  by_peer : (o : Option ℕ) → Q ≡ o → Dropping e c (sweep u)
  by_peer None faces = alone_drops (λ n has. let bad : false ≡ true = sym (ap (has_id n) faces) ∙ has in absurd (cc))
  by_peer (Some p) faces =
      let P : Bool → Type 0 = λ b. is_pending c.objects p ≡ b → Dropping e c (sweep u) in
      let go : (b : Bool) → P b = λ b. elim b as (λ v. P v) [
        | true ↦ (λ pends. both_drop p faces pends)
        | false ↦ (λ apart. alone_drops (λ n has.
            let same : (p == n) ≡ true = sym (ap (has_id n) faces) ∙ has in
            let eq : p ≡ n = grind (arith, tests) in
            ap (is_pending c.objects) (sym eq) ∙ apart))
      ] in
      go (is_pending c.objects p) refl

  pub drops_so : Dropping e c (sweep u)
  drops_so = by_peer Q refl

drops_by : (c : CoreState) (e : ℕ) → Stands c → is_in c.bridged e ≡ true → (o : Option ℕ) → peer_of (end_of c.objects e) ≡ o → Dropping e c (sweep (unbridged e (peer_marked o c)))
drops_by c e s is None faces =
    drops_so c e s is c.objects (subst (λ (o : Option ℕ). Marked o c.objects c.objects) (sym faces) (none_marked c.objects)) s.well
drops_by c e s is (Some p) faces =
    let os : List Object = changed (on_end with_error) c.objects p in
    drops_so c e s is os (subst (λ (o : Option ℕ). Marked o c.objects os) (sym faces) (one_marked c.objects p)) (well_marked p c s.well)

pub drops : (c : CoreState) (e : ℕ) → Stands c → is_in c.bridged e ≡ true → Dropping e c (ns_drop true e c)
unfolding ns_drop
drops c e s is = drops_by c e s is (peer_of (end_of c.objects e)) refl
