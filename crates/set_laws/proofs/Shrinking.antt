-- Changes of objects that make no object a set, and give no set a member.
use Rattle.std.proofs.Common.{◌≡◌, ◌≤◌, ◌<◌, ℕ, ◌+◌, ◌==◌, ◌⊎◌, inl, inr, Bool, true, false, cond, List, [], ◌∷◌, ◌++◌, map, Option, Some, None, refl, sym, ◌∙◌, subst, arith, tests}
use Rattle.std.specs.List.{filter}
use Rattle.std.specs.Option.{is_some, option_map, option_or}
use Rattle.kernel_values.specs.declared.state.Object.{Object}
use Rattle.kernel_values.specs.declared.state.Body.{Body}
use Rattle.kernel_values.specs.declared.state.Body.TheVariants as body
use Rattle.kernel_values.specs.declared.state.ChannelEnd.{ChannelEnd}
use Rattle.kernel_values.specs.declared.state.CoreState.{CoreState}
use Rattle.kernel_values.specs.declared.state.HandleSet.{HandleSet}
use Rattle.kernel_values.specs.declared.state.MemoryRef.{MemoryRef}
use Rattle.kernel_values.specs.declared.state.Port.{Port}
use Rattle.kernel_types.specs.Objects.{added, as_set, object_of, changed, on_body, on_end, on_memory, on_port, set_in, set_of}
use Rattle.kernel_types.specs.Ports.{admitted, decided, decided_end, new_server, publish}
use Rattle.kernel_types.specs.Reach.{is_in}
use Rattle.kernel_types.specs.Sets.{members_of}
use Rattle.kernel_laws.proofs.Found.{found, found_append, found_changed, found_filter, found_is, found_map}
use Rattle.set_laws.specs.Chains.{ChainFrom, HasMember, HasShortChains, IsSet}

-- what of one set was there before
pub record Shrunk (now was : Option HandleSet) : Type 0 where
  pub members : (x : ℕ) → is_in (members_of now) x ≡ true → is_in (members_of was) x ≡ true
  pub set : is_some now ≡ true → is_some was ≡ true

pub same_set : (o : Option HandleSet) → Shrunk o o
same_set o = record { members = λ x is. is; set = λ is. is }

abbrev pub Shrinks : (Body → Body) → Type 0
Shrinks f = (b : Body) → Shrunk (set_in (f b)) (set_in b)

pub quiet_memory : (change : MemoryRef → MemoryRef) → Shrinks (on_memory change)
quiet_memory change (body.Set set) = same_set (Some set)
quiet_memory change (body.Port port) = same_set None
quiet_memory change (body.End end) = same_set None
quiet_memory change (body.Memory memory) = same_set None

pub quiet_port : (change : Port → Port) → Shrinks (on_port change)
quiet_port change (body.Set set) = same_set (Some set)
quiet_port change (body.Port port) = same_set None
quiet_port change (body.End end) = same_set None
quiet_port change (body.Memory memory) = same_set None

pub calm_end : (change : ChannelEnd → ChannelEnd) → Shrinks (on_end change)
calm_end change (body.Set set) = same_set (Some set)
calm_end change (body.Port port) = same_set None
calm_end change (body.End end) = same_set None
calm_end change (body.Memory memory) = same_set None

-- no chain of sets has more than 8, and members' objects have numbers that were given
pub record Deep (c : CoreState) : Type 0 where
  pub short : HasShortChains c.objects
  pub given : (a b : ℕ) → HasMember c.objects a b → b < c.next

pub shrunk_at : (objects others : List Object) → ((a : ℕ) → Shrunk (as_set (found others a)) (as_set (found objects a))) → (a : ℕ) → Shrunk (set_of others a) (set_of objects a)
shrunk_at objects others by_found a =
    subst (λ (o : Option Object). Shrunk (as_set o) (set_of objects a)) (sym (found_is others a))
    (subst (λ (o : Option Object). Shrunk (as_set (found others a)) (as_set o)) (sym (found_is objects a)) (by_found a))

old_chain : (objects others : List Object) → ((a : ℕ) → Shrunk (set_of others a) (set_of objects a)) → (first : ℕ) (sets : List ℕ) → ChainFrom others first sets → ChainFrom objects first sets
old_chain objects others shrunk first [] chain = (shrunk first).set chain
old_chain objects others shrunk first (next ∷ sets) chain = ((shrunk first).members next chain.0, old_chain objects others shrunk next sets chain.1)

-- what of every set was there before, where no number is taken back
pub record Shrinking (c d : CoreState) : Type 0 where
  pub next : c.next ≤ d.next
  pub less : (a : ℕ) → Shrunk (as_set (found d.objects a)) (as_set (found c.objects a))

pub shrinking_both : (c b d : CoreState) → Shrinking c b → Shrinking b d → Shrinking c d
shrinking_both c b d p q = record {
  next = omega (arith, p.next, q.next);
  less = λ a. record { members = λ x is. (p.less a).members x ((q.less a).members x is); set = λ is. (p.less a).set ((q.less a).set is) };
}

pub shrinking_same : (c d : CoreState) → (d.objects ≡ c.objects) × (d.next ≡ c.next) → Shrinking c d
shrinking_same c d same = record {
  next = omega (arith, same.1);
  less = λ a. subst (λ (os : List Object). Shrunk (as_set (found os a)) (as_set (found c.objects a))) (sym same.0) (same_set (as_set (found c.objects a)));
}

pub short_by : (c d : CoreState) → Shrinking c d → HasShortChains c.objects → HasShortChains d.objects
short_by c d shrinks short first sets chain = short first sets (old_chain c.objects d.objects (shrunk_at c.objects d.objects shrinks.less) first sets chain)

pub deep_by : (c d : CoreState) → Shrinking c d → Deep c → Deep d
deep_by c d shrinks deep = record {
  short = short_by c d shrinks deep.short;
  given = λ a b holds. omega (arith, deep.given a b ((shrunk_at c.objects d.objects shrinks.less a).members b holds), shrinks.next);
}

shrunk_one : (f : Body → Body) → Shrinks f → (o : Option Object) → Shrunk (as_set (option_map (on_body f) o)) (as_set o)
shrunk_one f shrinks None = same_set None
shrunk_one f shrinks (Some object) = shrinks object.body

pub shrunk_changed : (f : Body → Body) → Shrinks f → (objects : List Object) (id a : ℕ) → Shrunk (as_set (found (changed f objects id) a)) (as_set (found objects a))
shrunk_changed f shrinks objects id a =
    let o : Option Object = found objects a in
    subst (λ (v : Option Object). Shrunk (as_set v) (as_set o)) (sym (found_changed f objects id a))
    (elim (id == a) as (λ b. Shrunk (as_set (cond b (option_map (on_body f) o) o)) (as_set o)) [ true ↦ shrunk_one f shrinks o | false ↦ same_set (as_set o) ])

shrunk_all : (h : Object → Object) → ((object : Object) → Shrunk (set_in (h object).body) (set_in object.body)) → (o : Option Object) → Shrunk (as_set (option_map h o)) (as_set o)
shrunk_all h shrinks None = same_set None
shrunk_all h shrinks (Some object) = shrinks object

pub shrunk_mapped : (h : Object → Object) → ((object : Object) → (h object).id ≡ object.id) → ((object : Object) → Shrunk (set_in (h object).body) (set_in object.body))
    → (objects : List Object) (a : ℕ) → Shrunk (as_set (found (map h objects) a)) (as_set (found objects a))
shrunk_mapped h keeps shrinks objects a =
    subst (λ (v : Option Object). Shrunk (as_set v) (as_set (found objects a))) (sym (found_map h keeps objects a)) (shrunk_all h shrinks (found objects a))

pub shrunk_filtered : (p : ℕ → Bool) (objects : List Object) (a : ℕ) → Shrunk (as_set (found (filter (λ object. p object.id) objects) a)) (as_set (found objects a))
shrunk_filtered p objects a =
    let o : Option Object = found objects a in
    subst (λ (v : Option Object). Shrunk (as_set v) (as_set o)) (sym (found_filter p objects a))
    (elim (p a) as (λ b. Shrunk (as_set (cond b o None)) (as_set o)) [ true ↦ same_set (as_set o) | false ↦ record { members = λ x is. absurd (cc); set = λ is. absurd (cc) } ])

-- new objects that are no sets
either_one : (old new : Option Object) → as_set new ≡ None → Shrunk (as_set (option_or old new)) (as_set old)
either_one None new none = subst (λ (o : Option HandleSet). Shrunk o None) (sym none) (same_set None)
either_one (Some object) new none = same_set (set_in object.body)

pub shrunk_appended : (objects news : List Object) (a : ℕ) → as_set (found news a) ≡ None → Shrunk (as_set (found (objects ++ news) a)) (as_set (found objects a))
shrunk_appended objects news a none =
    subst (λ (v : Option Object). Shrunk (as_set v) (as_set (found objects a))) (sym (found_append objects news a)) (either_one (found objects a) (found news a) none)

no_set_first : (object : Object) (objects : List Object) (a : ℕ) → set_in object.body ≡ None → as_set (found objects a) ≡ None → as_set (found (object ∷ objects) a) ≡ None
no_set_first object objects a none rest =
    elim (object.id == a) as (λ b. as_set (cond b (Some object) (found objects a)) ≡ None) [ true ↦ none | false ↦ rest ]

pub shrinks_added : (c : CoreState) (b : Body) → set_in b ≡ None → Shrinking c (added b c)
shrinks_added c b none =
    let one : Object = record { id = c.next; body = b } in
    record { next = omega arith; less = λ a. shrunk_appended c.objects (one ∷ []) a (no_set_first one [] a none refl) }

no_servers : (port : Port) (first : ℕ) (all clients : List ℕ) (a : ℕ) → as_set (found (map (new_server port first all) clients) a) ≡ None
no_servers port first all [] a = refl
no_servers port first all (client ∷ clients) a =
    no_set_first (new_server port first all client) (map (new_server port first all) clients) a refl (no_servers port first all clients a)

pub shrinks_published : (c : CoreState) (port : Port) → Shrinking c (publish port c)
shrinks_published c port =
    let clients : List ℕ = admitted port c.objects in
    let first : ℕ = c.next + 1 in
    let mid : CoreState = record c { objects = map (decided port first clients) c.objects } in
    shrinking_both c mid (publish port c)
    (record { next = omega arith; less = shrunk_mapped (decided port first clients) (λ object. refl) (λ object. calm_end (decided_end port first clients object.id) object.body) c.objects })
    (record { next = omega arith; less = λ a. shrunk_appended mid.objects _ a (no_set_first _ (map (new_server port first clients) clients) a refl (no_servers port first clients clients a)) })

module _ (c : CoreState) (more : List Object) (deep : Deep c) (members : (a b : ℕ) → HasMember more a b → HasMember c.objects a b)
    (set : (a : ℕ) → IsSet more a → IsSet c.objects a ⊎ (c.next ≡ a)) where
  chain_from_given : (id : ℕ) (sets : List ℕ) → id < c.next → ChainFrom more id sets → ChainFrom c.objects id sets
  chain_from_given id [] less chain = elim (set id chain) [ inl was ↦ was | inr new ↦ absurd (omega (arith, new, less)) ]
  chain_from_given id (next ∷ sets) less chain =
      let was : HasMember c.objects id next = members id next chain.0 in
      (was, chain_from_given next sets (deep.given id next was) chain.1)

  short_with : HasShortChains more
  short_with first [] chain = omega arith
  short_with first (next ∷ sets) chain =
      let was : HasMember c.objects first next = members first next chain.0 in
      deep.short first (next ∷ sets) (was, chain_from_given next sets (deep.given first next was) chain.1)

-- a new set: it has no members, and is none's
pub deep_new_set : (c : CoreState) → Deep c → Deep (added (body.Set (record { members = [] })) c)
deep_new_set c deep =
    let one : Object = record { id = c.next; body = body.Set (record { members = [] }) } in
    let more : List Object = c.objects ++ one ∷ [] in
    let At : Option Object → ℕ → Type 0 = λ o a. ((x : ℕ) → is_in (members_of (as_set o)) x ≡ true → is_in (members_of (set_of c.objects a)) x ≡ true)
    × (is_some (as_set o) ≡ true → (is_some (set_of c.objects a) ≡ true) ⊎ (c.next ≡ a)) in
    let fresh : (a : ℕ) (v : Bool) → (c.next == a) ≡ v → At (cond v (Some one) None) a =
    λ a v. elim v as (λ w. (c.next == a) ≡ w → At (cond w (Some one) None) a) [
      | true ↦ (λ e. (λ x is. absurd (cc), λ is. let same : c.next ≡ a = grind (arith, tests) in inr same))
      | false ↦ (λ e. (λ x is. absurd (cc), λ is. absurd (cc)))
    ] in
    let either : (a : ℕ) (o : Option Object) → object_of c.objects a ≡ o → At (option_or o (cond (c.next == a) (Some one) None)) a =
    λ a o. elim o as (λ v. object_of c.objects a ≡ v → At (option_or v (cond (c.next == a) (Some one) None)) a) [
      | None ↦ (λ is. fresh a (c.next == a) refl)
      | Some object ↦ (λ is. (
        λ x k. subst (λ (w : Option Object). is_in (members_of (as_set w)) x ≡ true) (sym is) k,
        λ k. inl (subst (λ (w : Option Object). is_some (as_set w) ≡ true) (sym is) k),
      ))
    ] in
    let at : (a : ℕ) → At (object_of more a) a =
    λ a. subst (λ (o : Option Object). At o a) (sym (found_is more a ∙ found_append c.objects (one ∷ []) a)) (either a (found c.objects a) (found_is c.objects a)) in
    record {
      short = short_with c more deep (λ a b holds. (at a).0 b holds) (λ a is. (at a).1 is);
      given = λ a b holds. omega (arith, deep.given a b ((at a).0 b holds));
    }
