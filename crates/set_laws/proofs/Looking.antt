-- The events of an object depend on no more sets than the longest chain from it has.
use Rattle.std.proofs.Common.{◌≡◌, ◌<◌, ℕ, zero, suc, ◌==◌, ◌||◌, ◌⊎◌, inl, inr, true, not, List, [], ◌∷◌, length, map, Option, Some, None, refl, sym, ◌∙◌, ap, arith, tests}
use Rattle.std.specs.Prelude.{bit_and}
use Rattle.std.specs.List.{list_any}
use Rattle.kernel_values.specs.declared.state.Body.{Body}
use Rattle.kernel_values.specs.declared.state.Body.TheVariants as body
use Rattle.kernel_values.specs.declared.state.Member.{Member}
use Rattle.kernel_values.specs.declared.state.Object.{Object}
use Rattle.kernel_types.specs.Events.{body_events, chain_limit, events_of, events_within, is_ready_member, object_events, ready_event, where_marked}
use Rattle.kernel_types.specs.Objects.{as_set, object_of, set_in}
use Rattle.kernel_types.specs.Reach.{is_in}
use Rattle.kernel_types.specs.Sets.{members_of}
use Rattle.set_laws.specs.Chains.{ChainFrom, HasShortChains}
use Rattle.set_laws.proofs.Counting.{among_first, among_later, holder_is_set}

any_same : (f g : ℕ → ℕ) (ms : List Member) → ((x : ℕ) → is_in (map (λ member. member.object) ms) x ≡ true → f x ≡ g x)
    → list_any (is_ready_member f) ms ≡ list_any (is_ready_member g) ms
any_same f g [] same = refl
any_same f g (m ∷ ms) same =
    let all : List ℕ = map (λ member. member.object) ms in
    let itself : (m.object == m.object) ≡ true = grind (arith, tests) in
    let here : f m.object ≡ g m.object = same m.object (among_first m.object all m.object itself) in
    let first : is_ready_member f m ≡ is_ready_member g m = ap (λ (n : ℕ). not (bit_and n m.mask.0 == 0)) here in
    let rest : list_any (is_ready_member f) ms ≡ list_any (is_ready_member g) ms = any_same f g ms (λ x is. same x (among_later m.object all x is)) in
    ap (λ v. v || list_any (is_ready_member f) ms) first ∙ ap (λ v. is_ready_member g m || v) rest

seen_in : (f g : ℕ → ℕ) (b : Body) → ((x : ℕ) → is_in (members_of (set_in b)) x ≡ true → f x ≡ g x) → body_events f b ≡ body_events g b
seen_in f g (body.Set set) same = ap (λ v. where_marked v ready_event) (any_same f g set.members same)
seen_in f g (body.Port port) same = refl
seen_in f g (body.End end) same = refl
seen_in f g (body.Memory memory) same = refl

seen : (f g : ℕ → ℕ) (o : Option Object) → ((x : ℕ) → is_in (members_of (as_set o)) x ≡ true → f x ≡ g x) → object_events f o ≡ object_events g o
seen f g None same = refl
seen f g (Some object) same = seen_in f g object.body same

-- one set further
further : (objects : List Object) (n id : ℕ) → ((sets : List ℕ) → ChainFrom objects id sets → length sets < n) → events_within (suc n) objects id ≡ events_within (suc (suc n)) objects id
further objects zero id few =
    seen (events_within 0 objects) (events_within 1 objects) (object_of objects id) (λ x is. absurd (omega (arith, few [] (holder_is_set objects id x is))))
further objects (suc n) id few =
    seen (events_within (suc n) objects) (events_within (suc (suc n)) objects) (object_of objects id)
    (λ x is. further objects n x (λ sets chain. omega (arith, few (x ∷ sets) (is, chain))))

all_the_way : (objects : List Object) (id : ℕ) → HasShortChains objects → (depth : ℕ) → 8 < depth → events_within depth objects id ≡ events_of objects id
unfolding events_of chain_limit
all_the_way objects id short zero deep = absurd (omega (arith, deep))
all_the_way objects id short (suc zero) deep = absurd (omega (arith, deep))
all_the_way objects id short (suc (suc n)) deep =
    let split : (n ≡ 7) ⊎ (8 < suc n) = grind arith in
    elim split [
      | inl same ↦ ap (λ (k : ℕ). events_within (suc (suc k)) objects id) same
      | inr more ↦ sym (further objects n id (λ sets chain. omega (arith, short id sets chain, more))) ∙ all_the_way objects id short (suc n) more
    ]

pub sees_no_more : (objects : List Object) (id depth : ℕ) → HasShortChains objects → 8 < depth → events_within depth objects id ≡ events_of objects id
sees_no_more objects id depth short deep = all_the_way objects id short depth deep
