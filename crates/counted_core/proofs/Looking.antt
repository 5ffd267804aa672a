-- What is looked up in a store is what is looked up among its objects.
use Rattle.std.proofs.Common.{◌≡◌, ℕ, zero, suc, ◌-◌, ◌<◌, List, Option, Some, None, refl, sym, ◌∙◌, ap, arith}
use Rattle.std.specs.Option.{option_map}
use Rattle.kernel_values.specs.declared.state.Body.{Body}
use Rattle.kernel_types.specs.Events.{body_events, events_within, object_events}
use Rattle.kernel_laws.proofs.Found.{found_is}
use Rattle.object_store.specs.Stock.{Held, held_at, value_at}
use Rattle.counted_core.specs.Held.{object_of_held, objects_of}
use Rattle.counted_core.proofs.Drops.{held_found}

abbrev events_in : (ℕ → ℕ) → Option Body → ℕ
events_in events None = 0
events_in events (Some b) = body_events events b

events_held : (events : ℕ → ℕ) (o : Option (Held Body)) → object_events events (option_map object_of_held o) ≡ events_in events (option_map (λ (h : Held Body). h.value) o)
events_held events None = refl
events_held events (Some h) = refl

pub events_above : (depth : ℕ) (items : List (Held Body)) (id : ℕ) → 0 < depth
    → events_within depth (objects_of items) id ≡ events_in (events_within (depth - 1) (objects_of items)) (value_at items id)
events_above zero items id h = absurd (omega arith)
events_above (suc depth) items id h =
    let e : suc depth - 1 ≡ depth = omega arith in
    ap (object_events (events_within depth (objects_of items))) (found_is (objects_of items) id ∙ held_found items id)
    ∙ (events_held (events_within depth (objects_of items)) (held_at items id) ∙ ap (λ d. events_in (events_within d (objects_of items)) (value_at items id)) (sym e))
