-- Ends are cut off one after the other: what is left at last.
use Rattle.std.proofs.Common.{◌≡◌, ◌≤◌, ℕ, ◌==◌, ◌&&◌, ◌||◌, Bool, true, false, cond, not, List, [], ◌∷◌, Option, Some, None, refl, sym, ◌∙◌, ap, subst, arith, tests}
use Rattle.std.specs.List.{filter, fold}
use Rattle.kernel_values.specs.declared.state.CoreState.{CoreState}
use Rattle.kernel_values.specs.declared.state.Port.{Port}
use Rattle.kernel_values.specs.declared.world.BridgeEntry.{BridgeEntry}
use Rattle.kernel_laws.proofs.Found.{found_is}
use Rattle.kernel_types.specs.Bridge.{ns_drop}
use Rattle.kernel_types.specs.Device.{entry_dropped}
use Rattle.kernel_types.specs.Objects.{as_port, end_of, is_there, object_of, port_in, port_of}
use Rattle.kernel_types.specs.Reach.{is_in}
use Rattle.kernel_types.specs.Sweep.{is_marked}
use Rattle.count_laws.specs.Thinning.{IsPending}
use Rattle.fit_laws.specs.Fitting.{FittingCore, IsServer}
use Rattle.fit_laws.proofs.Meeting.{in_found}
use Rattle.bridge_laws.proofs.Core.{drop_names}
use Rattle.bridge_laws.proofs.Counts.{one_if, times, times_apart, times_cons, times_fewer, times_gone}
use Rattle.break_laws.specs.Breaks.{AreCutOff, bereft, is_pending, listing_what_is_left}
use Rattle.break_laws.proofs.Breaking.{Dropping, Stands, drops}
use Rattle.break_laws.proofs.Cutting.{end_there, or_false, port_lists}
use Rattle.break_laws.proofs.Keeping.{HoldsNoMore, still_apart}
use Rattle.break_laws.proofs.Looking.{there_is}
use Rattle.break_laws.proofs.Namers.{in_filtered}
use Rattle.break_laws.proofs.Surviving.{pends_at}

-- One, and then the others.

filter_less : (f g : ℕ → Bool) → ((x : ℕ) → g x ≡ true → f x ≡ true) → (xs : List ℕ) → filter g (filter f xs) ≡ filter g xs
filter_less f g less [] = refl
filter_less f g less (x ∷ xs) =
    let more : filter g (filter f xs) ≡ filter g xs = filter_less f g less xs in
    let P : Bool → Bool → Type 0 = λ a b. f x ≡ a → g x ≡ b → filter g (cond a (x ∷ filter f xs) (filter f xs)) ≡ cond b (x ∷ filter g xs) (filter g xs) in
    let kept : (b : Bool) → g x ≡ b → filter g (x ∷ filter f xs) ≡ cond b (x ∷ filter g xs) (filter g xs) = λ b k.
    ap (λ (v : Bool). cond v (x ∷ filter g (filter f xs)) (filter g (filter f xs))) k ∙ ap (λ (l : List ℕ). cond b (x ∷ l) l) more in
    let go : (a b : Bool) → P a b = λ a b. elim a as (λ v. P v b) [
      | true ↦ (λ h k. kept b k)
      | false ↦ elim b as (λ v. P false v) [
        | true ↦ (λ h k. let bad : false ≡ true = sym h ∙ less x k in absurd (cc))
        | false ↦ (λ h k. more)
      ]
    ] in
    go (f x) (g x) refl refl

gone_again : (b d : CoreState) → ((n : ℕ) → is_there d.objects n ≡ true → is_there b.objects n ≡ true) → (n : ℕ) → is_there b.objects n ≡ false → is_there d.objects n ≡ false
gone_again b d comes n gone =
    let P : Bool → Type 0 = λ k. is_there d.objects n ≡ k → k ≡ false in
    let go : (k : Bool) → P k = λ k. elim k as (λ v. P v) [ true ↦ (λ there. let bad : false ≡ true = sym gone ∙ comes n there in absurd (cc)) | false ↦ (λ there. refl) ] in
    go (is_there d.objects n) refl

either : (a b : Bool) → (a || b) ≡ true → (P : Type 0) → (a ≡ true → P) → (a ≡ false → b ≡ true → P) → P
either true b is P one two = one refl
either false b is P one two = two refl is

neither : (a b : Bool) → (a || b) ≡ false → (a ≡ false) × (b ≡ false)
neither true b is = absurd (cc)
neither false b is = (refl, is)

-- `xs` are the ends `ys` and `e`
module _ (e : ℕ) (xs ys : List ℕ) (split : (n : ℕ) → is_in xs n ≡ ((e == n) || is_in ys n)) (once : is_in ys e ≡ false) where
  faces_split : (o : Option ℕ) → is_marked xs o ≡ (is_marked (e ∷ []) o || is_marked ys o)
  faces_split None = refl
  faces_split (Some n) = split n ∙ ap (λ b. b || is_in ys n) (sym (or_false (e == n)))

  -- an end whose peer is cut off first has no other peer
  faced_once : (o : Option ℕ) → is_marked (e ∷ []) o ≡ true → is_marked ys o ≡ false
  faced_once None is = absurd (cc)
  faced_once (Some n) is =
      let same : (e == n) ≡ true = sym (or_false (e == n)) ∙ is in
      let eq : e ≡ n = grind (arith, tests) in
      ap (is_in ys) (sym eq) ∙ once

  -- still pending
  module _ (c b : CoreState) (fits : FittingCore c) (one : AreCutOff (e ∷ []) c b) where
    still_pends : (n : ℕ) → is_there b.objects n ≡ true → is_pending c.objects n ≡ true → is_pending b.objects n ≡ true
    still_pends n there pends =
        let p : IsPending c.objects n = pends_at c.objects n pends in
        let at : port_of c.objects p.at.id ≡ Some p.port =
        ap as_port (found_is c.objects p.at.id ∙ in_found 0 c.objects c.next fits.rises p.at p.within) ∙ ap port_in p.is in
        port_lists b.objects p.at.id n (listing_what_is_left b.objects p.port) (one.ports_stay p.at.id p.port at)
        (in_filtered (is_there b.objects) p.port.pending n ∙ (ap (λ k. k && is_in p.port.pending n) there ∙ p.lists))

  pub cut_both_off : (c b d : CoreState) → FittingCore c → HoldsNoMore c b → AreCutOff (e ∷ []) c b → AreCutOff ys b d → AreCutOff xs c d
  cut_both_off c b d fits less one two = record {
    tables_stay = two.tables_stay ∙ one.tables_stay;
    waits_stay = two.waits_stay ∙ one.waits_stay;
    clock_stays = two.clock_stays ∙ one.clock_stays;
    next_stays = two.next_stays ∙ one.next_stays;
    ends_go = λ n is.
        either (e == n) (is_in ys n) (sym (split n) ∙ is) (is_there d.objects n ≡ false)
        (λ first. gone_again b d two.nothing_comes n (one.ends_go n (or_false (e == n) ∙ first)))
        (λ other later. two.ends_go n later);
    pending_go = λ n end there f pends.
        let P : Bool → Type 0 = λ k. is_there b.objects n ≡ k → is_there d.objects n ≡ false in
        let left : is_there b.objects n ≡ true → is_there d.objects n ≡ false = λ still.
        either (is_marked (e ∷ []) end.peer) (is_marked ys end.peer) (sym (faces_split end.peer) ∙ f) (is_there d.objects n ≡ false)
        (λ first. gone_again b d two.nothing_comes n (one.pending_go n end there first pends))
        (λ other later.
        let differs : is_in (e ∷ []) n ≡ false =
        let Q : Bool → Type 0 = λ k. is_in (e ∷ []) n ≡ k → k ≡ false in
        let go : (k : Bool) → Q k = λ k. elim k as (λ v. Q v) [ true ↦ (λ among. let bad : false ≡ true = sym (one.ends_go n among) ∙ still in absurd (cc)) | false ↦ (λ among. refl) ] in
        go (is_in (e ∷ []) n) refl in
        two.pending_go n end (one.others_stay n end there differs other) later (still_pends c b fits one n still pends)) in
        let go : (k : Bool) → P k = λ k. elim k as (λ v. P v) [ true ↦ left | false ↦ (λ gone. gone_again b d two.nothing_comes n gone) ] in
        go (is_there b.objects n) refl;
    peers_hear = λ n end there differs f apart.
        let both : ((e == n) ≡ false) × (is_in ys n ≡ false) = neither (e == n) (is_in ys n) (sym (split n) ∙ differs) in
        let not_it : is_in (e ∷ []) n ≡ false = or_false (e == n) ∙ both.0 in
        either (is_marked (e ∷ []) end.peer) (is_marked ys end.peer) (sym (faces_split end.peer) ∙ f) (end_of d.objects n ≡ Some (bereft end))
        (λ first. two.others_stay n (bereft end) (one.peers_hear n end there not_it first apart) both.1 (faced_once end.peer first))
        (λ other later. two.peers_hear n end (one.others_stay n end there not_it other) both.1 later (still_apart c b less n apart));
    others_stay = λ n end there differs f.
        let both : ((e == n) ≡ false) × (is_in ys n ≡ false) = neither (e == n) (is_in ys n) (sym (split n) ∙ differs) in
        let apart : (is_marked (e ∷ []) end.peer ≡ false) × (is_marked ys end.peer ≡ false) = neither (is_marked (e ∷ []) end.peer) (is_marked ys end.peer) (sym (faces_split end.peer) ∙ f) in
        two.others_stay n end (one.others_stay n end there (or_false (e == n) ∙ both.0) apart.0) both.1 apart.1;
    ports_stay = λ n port there.
        two.ports_stay n (listing_what_is_left b.objects port) (one.ports_stay n port there)
        ∙ ap (λ l. Some (record port { pending = l })) (filter_less (is_there b.objects) (is_there d.objects) two.nothing_comes port.pending);
    sets_stay = λ n set there. two.sets_stay n set (one.sets_stay n set there);
    memories_stay = λ n memory there. two.memories_stay n memory (one.memories_stay n memory there);
    nothing_comes = λ n there. one.nothing_comes n (two.nothing_comes n there);
  }

-- None.

there_lists : (c : CoreState) (xs : List ℕ) → ((x : ℕ) → is_in xs x ≡ true → is_there c.objects x ≡ true) → filter (is_there c.objects) xs ≡ xs
there_lists c [] all = refl
there_lists c (x ∷ xs) all =
    let here : (x == x) ≡ true = grind (arith, tests) in
    ap (λ (b : Bool). cond b (x ∷ filter (is_there c.objects) xs) (filter (is_there c.objects) xs)) (all x (ap (λ b. b || is_in xs x) here))
    ∙ ap (λ l. x ∷ l) (there_lists c xs (λ y h. all y (elim (x == y) as (λ b. (b || is_in xs y) ≡ true) [ true ↦ refl | false ↦ h ])))

faces_none : (o : Option ℕ) → is_marked [] o ≡ true → ⊥
faces_none None is = absurd (cc)
faces_none (Some n) is = absurd (cc)

servers_there : (c : CoreState) → FittingCore c → (n : ℕ) (port : Port) → port_of c.objects n ≡ Some port → (server : ℕ) → is_in port.pending server ≡ true → is_there c.objects server ≡ true
servers_there c fits n port there server lists =
    let s : IsServer (end_of c.objects) server = fits.fits.pending n server port there lists in
    there_is c.objects server ∙ end_there (object_of c.objects server) s.end s.there

cut_none : (c : CoreState) → FittingCore c → AreCutOff [] c c
cut_none c fits = record {
  tables_stay = refl;
  waits_stay = refl;
  clock_stays = refl;
  next_stays = refl;
  ends_go = λ n among. absurd (cc);
  pending_go = λ n end there f pends. absurd (faces_none end.peer f);
  peers_hear = λ n end there differs f apart. absurd (faces_none end.peer f);
  others_stay = λ n end there differs f. there;
  ports_stay = λ n port there. there ∙ ap (λ l. Some (record port { pending = l })) (sym (there_lists c port.pending (servers_there c fits n port there)));
  sets_stay = λ n set there. there;
  memories_stay = λ n memory there. there;
  nothing_comes = λ n there. there;
}

-- The ends of the device's entries.

-- each end stands as often as an entry keeps it, and none twice
pub record AreEndsOf (ends : List ℕ) (entries : List BridgeEntry) : Type 0 where
  pub same : (n : ℕ) → times (λ (x : ℕ). x) n ends ≡ times (λ (entry : BridgeEntry). entry.end) n entries
  pub once : (n : ℕ) → times (λ (x : ℕ). x) n ends ≤ 1

times_in : (n : ℕ) (xs : List ℕ) → 1 ≤ times (λ (x : ℕ). x) n xs → is_in xs n ≡ true
times_in n [] some = absurd (omega (arith, some))
times_in n (x ∷ xs) some =
    let P : Bool → Type 0 = λ b. (x == n) ≡ b → (b || is_in xs n) ≡ true in
    let go : (b : Bool) → P b = λ b. elim b as (λ v. P v) [
      | true ↦ (λ k. refl)
      | false ↦ (λ k. let first : one_if (x == n) ≡ 0 = ap one_if k in times_in n xs (omega (arith, some, first, times_cons (λ (y : ℕ). y) n x xs)))
    ] in
    go (x == n) refl

none_at_all : (xs : List ℕ) → ((n : ℕ) → times (λ (x : ℕ). x) n xs ≡ 0) → xs ≡ []
none_at_all [] none = refl
none_at_all (x ∷ xs) none =
    let here : (x == x) ≡ true = grind (arith, tests) in
    let first : one_if (x == x) ≡ 1 = ap one_if here in
    absurd (omega (arith, none x, first, times_cons (λ (y : ℕ). y) x x xs))

-- what the drops of all entries leave
pub record AllCutOff (c d : CoreState) : Type 0 where
  pub cut : AreCutOff c.bridged c d
  pub none : d.bridged ≡ []

module _ (entry : BridgeEntry) (entries : List BridgeEntry) (c : CoreState) (ends : AreEndsOf c.bridged (entry ∷ entries)) where
  abbrev e : ℕ
  e = entry.end

  abbrev b : CoreState
  b = ns_drop true e c

  abbrev less : List ℕ
  less = filter (λ other. not (other == e)) c.bridged

  here : (e == e) ≡ true
  here = grind (arith, tests)

  is_bridged : is_in c.bridged e ≡ true
  is_bridged =
      let first : one_if (e == e) ≡ 1 = ap one_if here in
      times_in e c.bridged (omega (arith, first, ends.same e, times_cons (λ (x : BridgeEntry). x.end) e entry entries))

  left_ends : AreEndsOf less entries
  left_ends = record {
    same = λ n.
        let P : Bool → Type 0 = λ k. (e == n) ≡ k → times (λ (x : ℕ). x) n less ≡ times (λ (x : BridgeEntry). x.end) n entries in
        let go : (k : Bool) → P k = λ k. elim k as (λ v. P v) [
          | true ↦ (λ is.
              let eq : e ≡ n = grind (arith, tests) in
              let first : one_if (e == n) ≡ 1 = ap one_if is in
              let gone : times (λ (x : ℕ). x) e less ≡ 0 = times_gone (λ (x : ℕ). x) e c.bridged in
              let gone_too : times (λ (x : ℕ). x) n less ≡ 0 = ap (λ (m : ℕ). times (λ (x : ℕ). x) m less) (sym eq) ∙ gone in
              omega (arith, gone_too, first, ends.same n, ends.once n, times_cons (λ (x : BridgeEntry). x.end) n entry entries))
          | false ↦ (λ is.
              let first : one_if (e == n) ≡ 0 = ap one_if is in
              omega (arith, first, ends.same n, times_apart (λ (x : ℕ). x) n e c.bridged is, times_cons (λ (x : BridgeEntry). x.end) n entry entries))
        ] in
        go (e == n) refl;
    once = λ n. omega (arith, ends.once n, times_fewer (λ (x : ℕ). x) (λ (x : ℕ). not (x == e)) n c.bridged);
  }

  ends_after : AreEndsOf b.bridged entries
  ends_after = subst (λ (l : List ℕ). AreEndsOf l entries) (sym (drop_names true e c)) left_ends

  gone_once : is_in b.bridged e ≡ false
  gone_once = ap (λ l. is_in l e) (drop_names true e c) ∙ (in_filtered (λ other. not (other == e)) c.bridged e ∙ ap (λ k. not k && is_in c.bridged e) here)

  ends_split : (n : ℕ) → is_in c.bridged n ≡ ((e == n) || is_in b.bridged n)
  ends_split n =
      let left : is_in b.bridged n ≡ (not (n == e) && is_in c.bridged n) = ap (λ l. is_in l n) (drop_names true e c) ∙ in_filtered (λ other. not (other == e)) c.bridged n in
      let P : Bool → Type 0 = λ k. (e == n) ≡ k → is_in c.bridged n ≡ (k || is_in b.bridged n) in
      let go : (k : Bool) → P k = λ k. elim k as (λ v. P v) [
        | true ↦ (λ is. let eq : e ≡ n = grind (arith, tests) in ap (is_in c.bridged) (sym eq) ∙ is_bridged)
        | false ↦ (λ is. let other : (n == e) ≡ false = grind (arith, tests) in sym (left ∙ ap (λ k. not k && is_in c.bridged n) other))
      ] in
      go (e == n) refl

pub all_drop : (entries : List BridgeEntry) (c : CoreState) → Stands c → AreEndsOf c.bridged entries → AllCutOff c (fold entry_dropped c entries)
all_drop [] c s ends =
    let none : c.bridged ≡ [] = none_at_all c.bridged (λ n. ends.same n) in
    record { cut = subst (λ (l : List ℕ). AreCutOff l c c) (sym none) (cut_none c s.well.fits); none = none }
all_drop (entry ∷ entries) c s ends =
    let dropping : Dropping entry.end c (ns_drop true entry.end c) = drops c entry.end s (is_bridged entry entries c ends) in
    let last : CoreState = fold entry_dropped c (entry ∷ entries) in
    let rest : AllCutOff (ns_drop true entry.end c) last = all_drop entries (ns_drop true entry.end c) dropping.stands (ends_after entry entries c ends) in
    record {
      cut = cut_both_off entry.end c.bridged (ns_drop true entry.end c).bridged (ends_split entry entries c ends) (gone_once entry entries c ends) c (ns_drop true entry.end c) last
          s.well.fits dropping.less dropping.cut rest.cut;
      none = rest.none;
    }
