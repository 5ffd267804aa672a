-- What changes leave of ends and of the lists of ports: an end keeps its client, an end of the bridge gets no parts, and what has a number comes to be pending no more.
use Rattle.std.proofs.Common.{◌≡◌, ◌≤◌, ◌<◌, ℕ, ◌==◌, ◌||◌, inl, inr, Bool, true, false, cond, not, List, [], ◌∷◌, ◌++◌, map, Option, Some, None, refl, sym, ◌∙◌, ap, subst, arith, tests}
use Rattle.std.specs.List.{AllByRecursion, filter}
use Rattle.std.specs.Option.{is_some, option_map, option_or}
use Rattle.kernel_values.specs.declared.state.Body.{Body}
use Rattle.kernel_values.specs.declared.state.Body.TheVariants as body
use Rattle.kernel_values.specs.declared.state.ChannelEnd.{ChannelEnd}
use Rattle.kernel_values.specs.declared.state.CoreState.{CoreState}
use Rattle.kernel_values.specs.declared.state.HandleSet.{HandleSet}
use Rattle.kernel_values.specs.declared.state.MemoryRef.{MemoryRef}
use Rattle.kernel_values.specs.declared.state.Object.{Object}
use Rattle.kernel_values.specs.declared.state.Port.{Port}
use Rattle.kernel_laws.proofs.Found.{changed_cons, found, found_append, found_changed, found_filter, found_is, found_map}
use Rattle.kernel_types.specs.Messages.{is_normal_world}
use Rattle.kernel_types.specs.Names.{message_objects}
use Rattle.kernel_types.specs.Objects.{as_end, changed, end_in, end_of, is_there, object_of, on_body, on_end, on_memory, on_port, on_set, with_objects}
use Rattle.kernel_types.specs.Reach.{is_in}
use Rattle.count_laws.specs.Thinning.{In, IsPending}
use Rattle.count_laws.proofs.Holding.{of_filter, of_map}
use Rattle.break_laws.specs.Breaks.{is_pending, pending_in}
use Rattle.break_laws.proofs.Looking.{there_is}
use Rattle.break_laws.proofs.Surviving.{is_pending_by, pends_at}

-- the end has its client still, and no parts where it is the bridge's and had none
pub record IsEndOf (old end : ChannelEnd) : Type 0 where
  pub client : end.client ≡ old.client
  pub mute : is_normal_world old.client ≡ true → (object : ℕ) → is_in (message_objects end.messages) object ≡ true → is_in (message_objects old.messages) object ≡ true

pub same_end : (end : ChannelEnd) → IsEndOf end end
same_end end = record { client = refl; mute = λ normal object names. names }

pub record WasEnd (was : Option ChannelEnd) (end : ChannelEnd) : Type 0 where
  pub old : ChannelEnd
  pub there : was ≡ Some old
  pub is : IsEndOf old end

-- what becomes of one object, of which the numbers below the bound come to be pending no more
pub record BodyStays (bound : ℕ) (b d : Body) : Type 0 where
  pub ends : (end : ChannelEnd) → end_in d ≡ Some end → WasEnd (end_in b) end
  pub keeps : is_some (end_in b) ≡ true → is_some (end_in d) ≡ true
  pub pends : (n : ℕ) → n < bound → is_in (pending_in d) n ≡ true → is_in (pending_in b) n ≡ true

pub same_body : (bound : ℕ) (b : Body) → BodyStays bound b b
same_body bound b = record { ends = λ end is. record { old = end; there = is; is = same_end end }; keeps = λ is. is; pends = λ n low is. is }

pub end_stays : (bound : ℕ) (f : ChannelEnd → ChannelEnd) → ((end : ChannelEnd) → IsEndOf end (f end)) → (b : Body) → BodyStays bound b (on_end f b)
end_stays bound f keeps (body.Port port) = same_body bound (body.Port port)
end_stays bound f keeps (body.End old) = record {
  ends = λ end is. let same : f old ≡ end = cc in record { old = old; there = refl; is = subst (λ (v : ChannelEnd). IsEndOf old v) same (keeps old) };
  keeps = λ is. refl;
  pends = λ n low is. is;
}
end_stays bound f keeps (body.Set set) = same_body bound (body.Set set)
end_stays bound f keeps (body.Memory memory) = same_body bound (body.Memory memory)

pub port_stays : (bound : ℕ) (f : Port → Port) → ((port : Port) (n : ℕ) → n < bound → is_in (f port).pending n ≡ true → is_in port.pending n ≡ true) → (b : Body) → BodyStays bound b (on_port f b)
port_stays bound f less (body.Port port) = record { ends = λ end is. absurd (cc); keeps = λ is. is; pends = less port }
port_stays bound f less (body.End end) = same_body bound (body.End end)
port_stays bound f less (body.Set set) = same_body bound (body.Set set)
port_stays bound f less (body.Memory memory) = same_body bound (body.Memory memory)

pub set_stays : (bound : ℕ) (f : HandleSet → HandleSet) (b : Body) → BodyStays bound b (on_set f b)
set_stays bound f (body.Port port) = same_body bound (body.Port port)
set_stays bound f (body.End end) = same_body bound (body.End end)
set_stays bound f (body.Set set) = record { ends = λ end is. absurd (cc); keeps = λ is. is; pends = λ n low is. is }
set_stays bound f (body.Memory memory) = same_body bound (body.Memory memory)

pub memory_stays : (bound : ℕ) (f : MemoryRef → MemoryRef) (b : Body) → BodyStays bound b (on_memory f b)
memory_stays bound f (body.Port port) = same_body bound (body.Port port)
memory_stays bound f (body.End end) = same_body bound (body.End end)
memory_stays bound f (body.Set set) = same_body bound (body.Set set)
memory_stays bound f (body.Memory memory) = record { ends = λ end is. absurd (cc); keeps = λ is. is; pends = λ n low is. is }

-- an end was there, or it is new
pub data Came (m : ℕ) (c : CoreState) (n : ℕ) (end : ChannelEnd) : Type 0 where
  was_there : WasEnd (end_of c.objects n) end → Came m c n end
  is_new : m ≤ n → (is_normal_world end.client ≡ true → (object : ℕ) → is_in (message_objects end.messages) object ≡ true → ⊥) → Came m c n end

pub record Kept (c d : CoreState) (n : ℕ) : Type 0 where
  pub there : is_there c.objects n ≡ true
  pub ends : is_some (end_of c.objects n) ≡ true → is_some (end_of d.objects n) ≡ true

-- said of the numbers below `m`
pub record Stays (m : ℕ) (c d : CoreState) : Type 0 where
  pub ends : (n : ℕ) (end : ChannelEnd) → end_of d.objects n ≡ Some end → Came m c n end
  pub keeps : (n : ℕ) → n < m → is_there d.objects n ≡ true → Kept c d n
  pub pends : (n : ℕ) → n < m → is_pending d.objects n ≡ true → is_pending c.objects n ≡ true

both_ends : (one two three : ChannelEnd) → IsEndOf one two → IsEndOf two three → IsEndOf one three
both_ends one two three k l = record {
  client = l.client ∙ k.client;
  mute = λ normal object names. k.mute normal object (l.mute (ap is_normal_world k.client ∙ normal) object names);
}

module _ (m : ℕ) where
  came_then : (c : CoreState) (n : ℕ) (old end : ChannelEnd) → IsEndOf old end → Came m c n old → Came m c n end
  came_then c n old end is (was_there v) = was_there (record { old = v.old; there = v.there; is = both_ends v.old old end v.is is })
  came_then c n old end is (is_new above none) =
      is_new above (λ normal object names. let normal_old : is_normal_world old.client ≡ true = ap is_normal_world (sym is.client) ∙ normal in none normal_old object (is.mute normal_old object names))

  came_twice : (c b : CoreState) (n : ℕ) (end : ChannelEnd) → ((old : ChannelEnd) → end_of b.objects n ≡ Some old → Came m c n old) → Came m b n end → Came m c n end
  came_twice c b n end first (is_new above none) = is_new above none
  came_twice c b n end first (was_there w) = came_then c n w.old end w.is (first w.old w.there)

  pub stays_twice : (c b d : CoreState) → Stays m c b → Stays m b d → Stays m c d
  stays_twice c b d one two = record {
    ends = λ n end is. came_twice c b n end (one.ends n) (two.ends n end is);
    keeps = λ n low there.
        let last : Kept b d n = two.keeps n low there in
        let first : Kept c b n = one.keeps n low last.there in
        record { there = first.there; ends = λ is. last.ends (first.ends is) };
    pends = λ n low is. one.pends n low (two.pends n low is);
  }

  pub stays_same : (c d : CoreState) → d.objects ≡ c.objects → Stays m c d
  stays_same c d same = record {
    ends = λ n end is. was_there (record { old = end; there = ap (λ (l : List Object). end_of l n) (sym same) ∙ is; is = same_end end });
    keeps = λ n low there. record { there = ap (λ (l : List Object). is_there l n) (sym same) ∙ there; ends = λ is. ap (λ (l : List Object). is_some (end_of l n)) same ∙ is };
    pends = λ n low is. ap (λ (l : List Object). is_pending l n) (sym same) ∙ is;
  }

-- One object is changed.

was_changed : (bound : ℕ) (f : Body → Body) → ((b : Body) → BodyStays bound b (f b)) → (objects : List Object) (id : ℕ) (y : Object) → In y (changed f objects id)
    → (x : Object) × In x objects × BodyStays bound x.body y.body
was_changed bound f stays [] id y h = absurd h
was_changed bound f stays (x ∷ objects) id y h =
    let P : Bool → Type 0 = λ b. In y (cond b (on_body f x ∷ objects) (x ∷ changed f objects id)) → (v : Object) × In v (x ∷ objects) × BodyStays bound v.body y.body in
    let first : P true = λ k. elim k [
      | inl e ↦ (x, inl refl, subst (λ (z : Object). BodyStays bound x.body z.body) e (stays x.body))
      | inr more ↦ (y, inr more, same_body bound y.body)
    ] in
    let later : P false = λ k. elim k [
      | inl e ↦ (y, inl e, same_body bound y.body)
      | inr more ↦ let w : (v : Object) × In v objects × BodyStays bound v.body y.body = was_changed bound f stays objects id y more in (w.0, inr w.1, w.2)
    ] in
    let go : (b : Bool) → P b = λ b. elim b as (λ v. P v) [ true ↦ first | false ↦ later ] in
    go (x.id == id) (subst (λ (l : List Object). In y l) (changed_cons f x objects id) h)

-- what is seen of an object that was changed
seen_ends : (bound : ℕ) (h : Object → Object) → ((o : Object) → BodyStays bound o.body (h o).body) → (o : Option Object) (end : ChannelEnd) → as_end (option_map h o) ≡ Some end → WasEnd (as_end o) end
seen_ends bound h stays None end is = absurd (cc)
seen_ends bound h stays (Some x) end is = (stays x).ends end is

seen_keeps : (bound : ℕ) (h : Object → Object) → ((o : Object) → BodyStays bound o.body (h o).body) → (o : Option Object) → is_some (as_end o) ≡ true → is_some (as_end (option_map h o)) ≡ true
seen_keeps bound h stays None is = is
seen_keeps bound h stays (Some x) is = (stays x).keeps is

seen_there : (h : Object → Object) (o : Option Object) → is_some (option_map h o) ≡ is_some o
seen_there h None = refl
seen_there h (Some x) = refl

-- a list of objects in which the object of each number is the old one, changed or not, or gone
module _ (m : ℕ) (c d : CoreState) (h : Object → Object) (stays : (o : Object) → BodyStays m o.body (h o).body) (on gone : ℕ → Bool)
    (at : (n : ℕ) → object_of d.objects n ≡ cond (gone n) None (cond (on n) (option_map h (object_of c.objects n)) (object_of c.objects n))) where
  seen_end : (g k : Bool) (o : Option Object) (end : ChannelEnd) → as_end (cond g None (cond k (option_map h o) o)) ≡ Some end → WasEnd (as_end o) end
  seen_end true k o end is = absurd (cc)
  seen_end false true o end is = seen_ends m h stays o end is
  seen_end false false o end is = record { old = end; there = is; is = same_end end }

  seen_kept : (g k : Bool) (o : Option Object) → is_some (cond g None (cond k (option_map h o) o)) ≡ true
      → (is_some o ≡ true) × (is_some (as_end o) ≡ true → is_some (as_end (cond g None (cond k (option_map h o) o))) ≡ true)
  seen_kept true k o is = absurd (cc)
  seen_kept false true o is = (sym (seen_there h o) ∙ is, seen_keeps m h stays o)
  seen_kept false false o is = (is, λ k. k)

  seen_stays : ((n : ℕ) → n < m → is_pending d.objects n ≡ true → is_pending c.objects n ≡ true) → Stays m c d
  seen_stays pends = record {
    ends = λ n end is. was_there (seen_end (gone n) (on n) (object_of c.objects n) end (sym (ap as_end (at n)) ∙ is));
    keeps = λ n low there.
        let k : (is_some (object_of c.objects n) ≡ true) × (is_some (as_end (object_of c.objects n)) ≡ true → is_some (as_end (cond (gone n) None (cond (on n) (option_map h (object_of c.objects n)) (object_of c.objects n)))) ≡ true) =
        seen_kept (gone n) (on n) (object_of c.objects n) (sym (ap is_some (at n)) ∙ (sym (there_is d.objects n) ∙ there)) in
        record { there = there_is c.objects n ∙ k.0; ends = λ is. ap (λ o. is_some (as_end o)) (at n) ∙ k.1 is };
    pends = pends;
  }

pub stays_one : (m : ℕ) (c : CoreState) (f : Body → Body) → ((b : Body) → BodyStays m b (f b)) → (id : ℕ) → Stays m c (with_objects (changed f c.objects id) c)
stays_one m c f stays id =
    let d : CoreState = with_objects (changed f c.objects id) c in
    seen_stays m c d (on_body f) (λ o. stays o.body) (λ n. id == n) (λ n. false)
    (λ n. found_is (changed f c.objects id) n ∙ (found_changed f c.objects id n ∙ ap (λ o. cond (id == n) (option_map (on_body f) o) o) (sym (found_is c.objects n))))
    (λ n low is.
    let p : IsPending d.objects n = pends_at d.objects n is in
    let w : (x : Object) × In x c.objects × BodyStays m x.body p.at.body = was_changed m f stays c.objects id p.at p.within in
    is_pending_by c.objects w.0 n w.1 (w.2.pends n low (ap (λ (b : Body). is_in (pending_in b) n) p.is ∙ p.lists)))

-- All objects are changed.

pub stays_all : (m : ℕ) (c : CoreState) (h : Object → Object) → ((o : Object) → (h o).id ≡ o.id) → ((o : Object) → BodyStays m o.body (h o).body) → Stays m c (with_objects (map h c.objects) c)
stays_all m c h keeps stays =
    let d : CoreState = with_objects (map h c.objects) c in
    seen_stays m c d h stays (λ n. true) (λ n. false)
    (λ n. found_is (map h c.objects) n ∙ (found_map h keeps c.objects n ∙ ap (option_map h) (sym (found_is c.objects n))))
    (λ n low is.
    let p : IsPending d.objects n = pends_at d.objects n is in
    let w : (x : Object) × In x c.objects × (h x ≡ p.at) = of_map h c.objects p.at p.within in
    is_pending_by c.objects w.0 n w.1 ((stays w.0).pends n low (ap (λ (o : Object). is_in (pending_in o.body) n) w.2 ∙ (ap (λ (b : Body). is_in (pending_in b) n) p.is ∙ p.lists))))

-- Some objects go.

pub stays_fewer : (m : ℕ) (c : CoreState) (p : ℕ → Bool) → Stays m c (with_objects (filter (λ object. p object.id) c.objects) c)
stays_fewer m c p =
    let d : CoreState = with_objects (filter (λ object. p object.id) c.objects) c in
    let turned : (b : Bool) (o : Option Object) → cond b o None ≡ cond (not b) None o = λ b o. elim b as (λ v. cond v o None ≡ cond (not v) None o) [ true ↦ refl | false ↦ refl ] in
    seen_stays m c d (λ o. o) (λ o. same_body m o.body) (λ n. false) (λ n. not (p n))
    (λ n. found_is d.objects n ∙ (found_filter p c.objects n ∙ (ap (λ o. cond (p n) o None) (sym (found_is c.objects n)) ∙ turned (p n) (object_of c.objects n))))
    (λ n low is.
    let q : IsPending d.objects n = pends_at d.objects n is in
    is_pending_by c.objects q.at n (of_filter (λ (o : Object). p o.id) c.objects q.at q.within).0 (ap (λ (b : Body). is_in (pending_in b) n) q.is ∙ q.lists))

-- New objects come.

pub record IsNew (first : ℕ) (object : Object) : Type 0 where
  pub above : first ≤ object.id
  pub mute : (end : ChannelEnd) → end_in object.body ≡ Some end → (carried : ℕ) → is_in (message_objects end.messages) carried ≡ true → ⊥
  pub lists : (n : ℕ) → n < first → is_in (pending_in object.body) n ≡ true → ⊥

new_found : (first : ℕ) (more : List Object) → AllByRecursion (IsNew first) more → (n : ℕ) (x : Object) → found more n ≡ Some x → (first ≤ n) × IsNew first x
new_found first [] all n x is = absurd (cc)
new_found first (o ∷ more) all n x is =
    let P : Bool → Type 0 = λ b. (o.id == n) ≡ b → cond b (Some o) (found more n) ≡ Some x → (first ≤ n) × IsNew first x in
    let go : (b : Bool) → P b = λ b. elim b as (λ v. P v) [
      | true ↦ (λ e k. let same : o.id ≡ n = grind (arith, tests) in let eq : o ≡ x = cc in (subst (λ m. first ≤ m) same all.0.above, subst (λ (v : Object). IsNew first v) eq all.0))
      | false ↦ (λ e k. new_found first more all.1 n x k)
    ] in
    go (o.id == n) refl is

new_pends : (first : ℕ) (more : List Object) → AllByRecursion (IsNew first) more → (n : ℕ) → n < first → is_pending more n ≡ true → ⊥
new_pends first [] all n low is = absurd (cc)
new_pends first (o ∷ more) all n low is =
    let P : Bool → Type 0 = λ b. is_in (pending_in o.body) n ≡ b → (b || is_pending more n) ≡ true → ⊥ in
    let go : (b : Bool) → P b = λ b. elim b as (λ v. P v) [ true ↦ (λ e k. all.0.lists n low e) | false ↦ (λ e k. new_pends first more all.1 n low k) ] in
    go (is_in (pending_in o.body) n) refl is

pending_appended : (xs ys : List Object) (n : ℕ) → is_pending (xs ++ ys) n ≡ (is_pending xs n || is_pending ys n)
pending_appended [] ys n = refl
pending_appended (x ∷ xs) ys n =
    let rest : is_pending (xs ++ ys) n ≡ (is_pending xs n || is_pending ys n) = pending_appended xs ys n in
    elim (is_in (pending_in x.body) n) as (λ b. (b || is_pending (xs ++ ys) n) ≡ ((b || is_pending xs n) || is_pending ys n)) [ true ↦ refl | false ↦ rest ]

pub stays_more : (m : ℕ) (c d : CoreState) (more : List Object) → d.objects ≡ c.objects ++ more → AllByRecursion (IsNew m) more → Stays m c d
stays_more m c d more is_more all =
    let at : (n : ℕ) → object_of d.objects n ≡ option_or (object_of c.objects n) (found more n) = λ n.
    ap (λ (l : List Object). object_of l n) is_more ∙ (found_is (c.objects ++ more) n ∙ (found_append c.objects more n ∙ ap (λ o. option_or o (found more n)) (sym (found_is c.objects n)))) in
    let came : (n : ℕ) (o : Option Object) → object_of c.objects n ≡ o → (end : ChannelEnd) → as_end (option_or o (found more n)) ≡ Some end → Came m c n end = λ n o.
    elim o as (λ v. object_of c.objects n ≡ v → (end : ChannelEnd) → as_end (option_or v (found more n)) ≡ Some end → Came m c n end) [
      | Some x ↦ (λ e end k. was_there (record { old = end; there = ap as_end e ∙ k; is = same_end end }))
      | None ↦ (λ e end k.
          let Q : Option Object → Type 0 = λ v. found more n ≡ v → as_end v ≡ Some end → Came m c n end in
          let go : (v : Option Object) → Q v = λ v. elim v as (λ w. Q w) [
            | None ↦ (λ f g. absurd (cc))
            | Some x ↦ (λ f g. let fresh : (m ≤ n) × IsNew m x = new_found m more all n x f in is_new fresh.0 (λ normal. fresh.1.mute end g))
          ] in
          go (found more n) refl k)
    ] in
    let kept : (n : ℕ) → n < m → (o : Option Object) → object_of c.objects n ≡ o → is_some (option_or o (found more n)) ≡ true
    → (is_some o ≡ true) × (is_some (as_end o) ≡ true → is_some (as_end (option_or o (found more n))) ≡ true) = λ n low o.
    elim o as (λ v. object_of c.objects n ≡ v → is_some (option_or v (found more n)) ≡ true → (is_some v ≡ true) × (is_some (as_end v) ≡ true → is_some (as_end (option_or v (found more n))) ≡ true)) [
      | Some x ↦ (λ e k. (refl, λ h. h))
      | None ↦ (λ e k.
          let Q : Option Object → Type 0 = λ v. found more n ≡ v → is_some v ≡ true → ⊥ in
          let go : (v : Option Object) → Q v = λ v. elim v as (λ w. Q w) [
            | None ↦ (λ f g. absurd (cc))
            | Some x ↦ (λ f g. let fresh : (m ≤ n) × IsNew m x = new_found m more all n x f in absurd (omega (arith, low, fresh.0)))
          ] in
          absurd (go (found more n) refl k))
    ] in
    record {
      ends = λ n end is. came n (object_of c.objects n) refl end (sym (ap as_end (at n)) ∙ is);
      keeps = λ n low there.
          let k : (is_some (object_of c.objects n) ≡ true) × (is_some (as_end (object_of c.objects n)) ≡ true → is_some (as_end (option_or (object_of c.objects n) (found more n))) ≡ true) =
          kept n low (object_of c.objects n) refl (sym (ap is_some (at n)) ∙ (sym (there_is d.objects n) ∙ there)) in
          record { there = there_is c.objects n ∙ k.0; ends = λ is. ap (λ o. is_some (as_end o)) (at n) ∙ k.1 is };
      pends = λ n low is.
          let either : (is_pending c.objects n || is_pending more n) ≡ true = sym (pending_appended c.objects more n) ∙ (ap (λ (l : List Object). is_pending l n) (sym is_more) ∙ is) in
          let P : Bool → Type 0 = λ b. is_pending c.objects n ≡ b → (b || is_pending more n) ≡ true → b ≡ true in
          let go : (b : Bool) → P b = λ b. elim b as (λ v. P v) [ true ↦ (λ e k. refl) | false ↦ (λ e k. absurd (new_pends m more all n low k)) ] in
          go (is_pending c.objects n) refl either;
    }
