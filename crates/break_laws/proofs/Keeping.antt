-- What the kernel keeps to itself it keeps so where an end of the bridge is dropped.
use Rattle.std.proofs.Common.{◌≡◌, ℕ, ◌==◌, inl, inr, Bool, true, false, not, List, [], ◌∷◌, Option, refl, sym, ◌∙◌, ap, subst, arith, tests}
use Rattle.std.specs.List.{AllByRecursion}
use Rattle.kernel_values.specs.declared.state.Application.{Application}
use Rattle.kernel_values.specs.declared.state.Body.{Body}
use Rattle.kernel_values.specs.declared.state.Body.TheVariants as body
use Rattle.kernel_values.specs.declared.state.CoreState.{CoreState}
use Rattle.kernel_values.specs.declared.state.Object.{Object}
use Rattle.kernel_values.specs.declared.state.TableEntry.{TableEntry}
use Rattle.kernel_values.specs.declared.state.Thread.{Thread}
use Rattle.kernel_types.specs.Bridge.{unbridged}
use Rattle.kernel_types.specs.Connects.{peer_of}
use Rattle.kernel_types.specs.Messages.{has_id}
use Rattle.kernel_types.specs.Names.{Name, activity_names}
use Rattle.kernel_types.specs.Objects.{end_of, on_end, on_port, with_objects}
use Rattle.kernel_types.specs.Reach.{is_in}
use Rattle.set_laws.proofs.Lists.{all_weaker}
use Rattle.count_laws.specs.Dropping.{cut_from, dropped, unlisted}
use Rattle.count_laws.specs.Thinning.{In, IsPending}
use Rattle.break_laws.specs.Breaks.{AreCutOff, bereft, faces, is_pending, pending_in}
use Rattle.break_laws.specs.Held.{HeldAre, IsMuteEnd, IsOpen, KeepsApart, held_in}
use Rattle.break_laws.proofs.Marking.{Marked, Was}
use Rattle.break_laws.proofs.Namers.{both_of, in_filtered}
use Rattle.break_laws.proofs.Surviving.{Left, is_pending_by, pends_at, was_left}

-- an object that holds what another one does and lists no more
pub record HoldsAs (objects : List Object) (y : Object) : Type 0 where
  pub x : Object
  pub within : In x objects
  pub holds : held_in y.body ≡ held_in x.body
  pub lists : (n : ℕ) → is_in (pending_in y.body) n ≡ true → is_in (pending_in x.body) n ≡ true

-- a state in which nothing is held, bridged or pending that was not so before
pub record HoldsNoMore (c d : CoreState) : Type 0 where
  pub tables : d.apps ≡ c.apps
  pub waits : d.threads ≡ c.threads
  pub bridged : (n : ℕ) → is_in d.bridged n ≡ true → is_in c.bridged n ≡ true
  pub objects : (y : Object) → In y d.objects → HoldsAs c.objects y

pub fewer_twice : (c b d : CoreState) → HoldsNoMore c b → HoldsNoMore b d → HoldsNoMore c d
fewer_twice c b d one two = record {
  tables = two.tables ∙ one.tables;
  waits = two.waits ∙ one.waits;
  bridged = λ n is. one.bridged n (two.bridged n is);
  objects = λ y h.
      let w : HoldsAs b.objects y = two.objects y h in
      let v : HoldsAs c.objects w.x = one.objects w.x w.within in
      record { x = v.x; within = v.within; holds = w.holds ∙ v.holds; lists = λ n lists. v.lists n (w.lists n lists) };
}

pub unbridged_fewer : (c : CoreState) (e : ℕ) (marked : Option ℕ) (os : List Object) → Marked marked c.objects os → HoldsNoMore c (unbridged e (with_objects os c))
unbridged_fewer c e marked os m = record {
  tables = refl;
  waits = refl;
  bridged = λ n is. (both_of (not (n == e)) (is_in c.bridged n) (sym (in_filtered (λ other. not (other == e)) c.bridged n) ∙ is)).1;
  objects = λ y h.
      let w : Was c.objects y = m.was y h in
      record { x = w.x; within = w.within; holds = w.same.holds; lists = λ n lists. ap (λ l. is_in l n) (sym w.same.pends) ∙ lists };
}

left_holds : (x : ℕ) (peer : Option ℕ) (b : Body) → held_in (on_end (cut_from x) (on_port (unlisted peer) b)) ≡ held_in b
left_holds x peer (body.Port port) = refl
left_holds x peer (body.End end) = refl
left_holds x peer (body.Set set) = refl
left_holds x peer (body.Memory memory) = refl

left_lists : (x : ℕ) (peer : Option ℕ) (b : Body) (n : ℕ) → is_in (pending_in (on_end (cut_from x) (on_port (unlisted peer) b))) n ≡ true → is_in (pending_in b) n ≡ true
left_lists x peer (body.Port port) n lists = (both_of (not (has_id n peer)) (is_in port.pending n) (sym (in_filtered (λ server. not (has_id server peer)) port.pending n) ∙ lists)).1
left_lists x peer (body.End end) n lists = lists
left_lists x peer (body.Set set) n lists = lists
left_lists x peer (body.Memory memory) n lists = lists

pub dropped_fewer : (b : CoreState) (x : ℕ) → HoldsNoMore b (dropped x b)
unfolding dropped
dropped_fewer b x = record {
  tables = refl;
  waits = refl;
  bridged = λ n is. is;
  objects = λ y h.
      let l : Left b x x y = was_left b x x y h in
      let peer : Option ℕ = peer_of (end_of b.objects x) in
      record {
        x = l.z;
        within = l.within;
        holds = ap (λ (o : Object). held_in o.body) (sym l.is) ∙ left_holds x peer l.z.body;
        lists = λ n lists. left_lists x peer l.z.body n (ap (λ (o : Object). is_in (pending_in o.body) n) l.is ∙ lists);
      };
}

-- What is kept.

pub never_true : (b : Bool) → (b ≡ true → ⊥) → b ≡ false
never_true true never = absurd (never refl)
never_true false never = refl

pub all_of : (P : Object → Type 0) (xs : List Object) → ((x : Object) → In x xs → P x) → AllByRecursion P xs
all_of P [] each = tt
all_of P (x ∷ xs) each = (each x (inl refl), all_of P xs (λ y h. each y (inr h)))

pub held_of : (P : ℕ → Type 0) (objects : List Object) (x : Object) → AllByRecursion (λ (object : Object). AllByRecursion P (held_in object.body)) objects → In x objects → AllByRecursion P (held_in x.body)
held_of P [] x all h = absurd h
held_of P (o ∷ objects) x all (inl e) = subst (λ (v : Object). AllByRecursion P (held_in v.body)) e all.0
held_of P (o ∷ objects) x all (inr h) = held_of P objects x all.1 h

module _ (c d : CoreState) (less : HoldsNoMore c d) where
  pub pending_less : (n : ℕ) → is_pending d.objects n ≡ true → is_pending c.objects n ≡ true
  pending_less n pends =
      let p : IsPending d.objects n = pends_at d.objects n pends in
      let w : HoldsAs c.objects p.at = less.objects p.at p.within in
      is_pending_by c.objects w.x n w.within (w.lists n (ap (λ (b : Body). is_in (pending_in b) n) p.is ∙ p.lists))

  pub still_apart : (n : ℕ) → is_pending c.objects n ≡ false → is_pending d.objects n ≡ false
  still_apart n apart = never_true (is_pending d.objects n) (λ pends. let bad : false ≡ true = sym apart ∙ pending_less n pends in absurd (cc))

  still_unbridged : (n : ℕ) → is_in c.bridged n ≡ false → is_in d.bridged n ≡ false
  still_unbridged n apart = never_true (is_in d.bridged n) (λ named. let bad : false ≡ true = sym apart ∙ less.bridged n named in absurd (cc))

  still_open : (n : ℕ) → IsOpen c n → IsOpen d n
  still_open n k = (still_unbridged n k.0, still_apart n k.1)

  still_held : HeldAre (IsOpen c) c → HeldAre (IsOpen d) d
  still_held k = record {
    tables = subst (λ (apps : List Application). AllByRecursion (λ (a : Application). AllByRecursion (λ (entry : TableEntry). IsOpen d entry.object) a.table) apps) (sym less.tables)
        (all_weaker (λ (a : Application). AllByRecursion (λ (entry : TableEntry). IsOpen c entry.object) a.table) (λ (a : Application). AllByRecursion (λ (entry : TableEntry). IsOpen d entry.object) a.table)
        (λ a all. all_weaker (λ (entry : TableEntry). IsOpen c entry.object) (λ (entry : TableEntry). IsOpen d entry.object) (λ entry known. still_open entry.object known) a.table all) c.apps k.tables);
    waits = subst (λ (threads : List Thread). AllByRecursion (λ (t : Thread). AllByRecursion (λ (name : Name). IsOpen d name.object) (activity_names t.activity)) threads) (sym less.waits)
        (all_weaker (λ (t : Thread). AllByRecursion (λ (name : Name). IsOpen c name.object) (activity_names t.activity)) (λ (t : Thread). AllByRecursion (λ (name : Name). IsOpen d name.object) (activity_names t.activity))
        (λ t all. all_weaker (λ (name : Name). IsOpen c name.object) (λ (name : Name). IsOpen d name.object) (λ name known. still_open name.object known) (activity_names t.activity) all) c.threads k.waits);
    objects = all_of (λ (o : Object). AllByRecursion (IsOpen d) (held_in o.body)) d.objects (λ y h.
        let w : HoldsAs c.objects y = less.objects y h in
        subst (λ (l : List ℕ). AllByRecursion (IsOpen d) l) (sym w.holds) (all_weaker (IsOpen c) (IsOpen d) still_open (held_in w.x.body) (held_of (IsOpen c) c.objects w.x k.objects w.within)));
  }

  -- an end that is cut off is the bridge's no more; the bridge's other ends stay ends that carry nothing
  still_mute : (e : ℕ) → is_in d.bridged e ≡ false → AreCutOff (e ∷ []) c d → KeepsApart c → (n : ℕ) → is_in d.bridged n ≡ true → IsMuteEnd d n
  still_mute e gone cut k n named =
      let was : IsMuteEnd c n = k.ends n (less.bridged n named) in
      let differs : is_in (e ∷ []) n ≡ false = never_true (is_in (e ∷ []) n) (λ among.
      let eq : e ≡ n = grind (arith, tests) in
      let bad : false ≡ true = sym gone ∙ (ap (is_in d.bridged) eq ∙ named) in absurd (cc)) in
      let P : Bool → Type 0 = λ b. faces (e ∷ []) was.end ≡ b → IsMuteEnd d n in
      let go : (b : Bool) → P b = λ b. elim b as (λ v. P v) [
        | true ↦ (λ f. record { end = bereft was.end; there = cut.peers_hear n was.end was.there differs f (k.apart n (less.bridged n named)); mute = was.mute })
        | false ↦ (λ f. record { end = was.end; there = cut.others_stay n was.end was.there differs f; mute = was.mute })
      ] in
      go (faces (e ∷ []) was.end) refl

  pub still_keeps : (e : ℕ) → is_in d.bridged e ≡ false → AreCutOff (e ∷ []) c d → KeepsApart c → KeepsApart d
  still_keeps e gone cut k = record {
    held = still_held k.held;
    apart = λ n named. still_apart n (k.apart n (less.bridged n named));
    ends = still_mute e gone cut k;
  }
