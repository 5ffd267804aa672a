-- The events of a set in the model, by the events of its members' objects.
use Rattle.std.proofs.Common.{◌≡◌, ℕ, zero, suc, ◌+◌, ◌<◌, ◌==◌, not, Bool, true, false, List, [], ◌∷◌, map, Option, Some, None, refl, sym, ap, ◌∙◌, arith, lit<, bit_and}
use Rattle.std.specs.List.{list_any}
use Rattle.kernel_values.specs.declared.state.Object.{Object}
use Rattle.kernel_values.specs.declared.state.Body.{Body}
use Rattle.kernel_values.specs.declared.state.Body.TheVariants as body
use Rattle.kernel_values.specs.declared.state.HandleSet.{HandleSet}
use Rattle.kernel_types.specs.Objects.{set_of, as_set, set_in, object_of}
use Rattle.kernel_types.specs.Events.{events_of, events_within, object_events, body_events, chain_limit, is_ready_member, where_marked, ready_event}
use Rattle.set_laws.specs.Chains.{HasShortChains}
use Rattle.handle_set.specs.declared.records.TrackedMember.{TrackedMember}
use Rattle.handle_set.specs.declared.settle.OpenSet.{OpenSet}
use Rattle.handle_set.specs.Sets.{ready_events, is_ready_by, IsOfSets}
use Rattle.handle_set.specs.Chains.{member_of, set_value}
use Rattle.ready_laws.specs.Standing.{StandsFor}

set_body : (events : ℕ → ℕ) (set : HandleSet) (b : Body) → set_in b ≡ Some set → body_events events b ≡ where_marked (list_any (is_ready_member events) set.members) ready_event
set_body events set (body.Port port) is = absurd (cc)
set_body events set (body.End end) is = absurd (cc)
set_body events set (body.Set other) is = let same : other ≡ set = cc in ap (λ (s : HandleSet). where_marked (list_any (is_ready_member events) s.members) ready_event) same
set_body events set (body.Memory memory) is = absurd (cc)

pub set_events : (events : ℕ → ℕ) (set : HandleSet) (o : Option Object) → as_set o ≡ Some set → object_events events o ≡ where_marked (list_any (is_ready_member events) set.members) ready_event
set_events events set None is = absurd (cc)
set_events events set (Some object) is = set_body events set object.body is

any_member : (events : ℕ → ℕ) (members : List TrackedMember) → list_any (is_ready_member events) (map member_of members) ≡ list_any (is_ready_by events) members
any_member events [] = refl
any_member events (x ∷ xs) = rw (any_member events xs) refl

marked : (b : Bool) → where_marked b ready_event ≡ (ready_events b).0
marked true = refl
marked false = refl

pub further : (objects : List Object) (id : ℕ) → ((depth : ℕ) → 8 < depth → events_within depth objects id ≡ events_of objects id) → events_of objects id ≡ object_events (events_of objects) (object_of objects id)
unfolding events_of chain_limit
further objects id more = sym (more 10 (lit< tt))

pub of_sets : ((objects : List Object) (id depth : ℕ) → HasShortChains objects → 8 < depth → events_within depth objects id ≡ events_of objects id) → (objects : List Object) (sets : List OpenSet) → HasShortChains objects → StandsFor objects sets → IsOfSets (events_of objects) sets
of_sets more objects sets short stands k s at =
    further objects s.id (λ depth high. more objects s.id depth short high)
    ∙ set_events (events_of objects) (set_value s) (object_of objects s.id) (stands.members k s at)
    ∙ ap (λ b. where_marked b ready_event) (any_member (events_of objects) s.members)
    ∙ marked (list_any (is_ready_by (events_of objects)) s.members)
