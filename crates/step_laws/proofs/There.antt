-- Objects that were just made are there, by the numbers that were next.
use Rattle.std.proofs.Common.{◌≡◌, ℕ, zero, suc, ◌+◌, ◌==◌, ◌&&◌, ◌||◌, Bool, true, false, List, [], ◌∷◌, ◌++◌, map, Option, Some, None, refl, ◌∙◌, ap, arith, tests}
use Rattle.std.proofs.lemmas.List.Folds.{list_any-append}
use Rattle.std.specs.List.{list_any}
use Rattle.std.specs.Option.{option_map}
use Rattle.std.specs.Prelude.{slice_get}
use Rattle.kernel_values.specs.declared.state.Body.{Body}
use Rattle.kernel_values.specs.declared.state.Body.TheVariants as body
use Rattle.kernel_values.specs.declared.state.Connector.{Connector}
use Rattle.kernel_values.specs.declared.state.Connector.TheVariants as connector
use Rattle.kernel_values.specs.declared.state.CoreState.{CoreState}
use Rattle.kernel_values.specs.declared.state.EndState.TheVariants as end_state
use Rattle.kernel_values.specs.declared.state.Object.{Object}
use Rattle.kernel_values.specs.declared.state.Port.{Port}
use Rattle.kernel_types.specs.Connects.{pending_pair, waiting_client}
use Rattle.kernel_types.specs.Objects.{added, changed, is_there, map_at, new_end, on_body, on_port, place_of, set_if}
use Rattle.kernel_types.specs.Ports.{admitted, decided, new_server, publish, server_end, server_of}
use Rattle.step_laws.specs.SmallChanges.{IsMade, is_of_app, is_of_bridge}

pub map_at_later : {X : Type 0} (f : X → X) (x : X) (xs : List X) (at : ℕ) → map_at f (x ∷ xs) (suc at) ≡ x ∷ map_at f xs at
map_at_later f x xs at =
    let Q : Option _ → Type 0 = λ o. set_if (x ∷ xs) (suc at) o ≡ x ∷ set_if xs at o in
    let go : (o : Option _) → Q o = λ o. elim o as (λ v. Q v) [ None ↦ refl | Some y ↦ refl ] in
    go (option_map f (slice_get xs at))

there_later : (f : Body → Body) (objects : List Object) (at id : ℕ) → is_there (map_at (on_body f) objects at) id ≡ is_there objects id
there_later f [] at id = refl
there_later f (object ∷ objects) zero id = refl
there_later f (object ∷ objects) (suc at) id =
    ap (λ (l : List Object). is_there l id) (map_at_later (on_body f) object objects at) ∙ ap (λ b. (object.id == id) || b) (there_later f objects at id)

pub there_changed : (f : Body → Body) (objects : List Object) (at id : ℕ) → is_there (changed f objects at) id ≡ is_there objects id
there_changed f objects at id = there_later f objects (place_of objects at) id

there_between : (before : List Object) (object : Object) (behind : List Object) → is_there (before ++ object ∷ behind) object.id ≡ true
there_between [] object behind =
    let same : (object.id == object.id) ≡ true = grind (arith, tests) in
    ap (λ b. b || is_there behind object.id) same
there_between (first ∷ before) object behind =
    let rest : is_there (before ++ object ∷ behind) object.id ≡ true = there_between before object behind in
    elim (first.id == object.id) as (λ b. (b || is_there (before ++ object ∷ behind) object.id) ≡ true) [ true ↦ refl | false ↦ rest ]

-- the number is one of an object of this kind

kind_between : (such : Body → Bool) (before : List Object) (object : Object) (behind : List Object) → such object.body ≡ true
    → list_any (λ other. other.id == object.id && such other.body) (before ++ object ∷ behind) ≡ true
kind_between such [] object behind is =
    let same : (object.id == object.id) ≡ true = grind (arith, tests) in
    ap (λ b. (b && such object.body) || list_any (λ other. other.id == object.id && such other.body) behind) same
    ∙ ap (λ b. b || list_any (λ other. other.id == object.id && such other.body) behind) is
kind_between such (first ∷ before) object behind is =
    let rest : list_any (λ other. other.id == object.id && such other.body) (before ++ object ∷ behind) ≡ true = kind_between such before object behind is in
    elim (first.id == object.id && such first.body) as (λ b. (b || list_any (λ other. other.id == object.id && such other.body) (before ++ object ∷ behind)) ≡ true) [ true ↦ refl | false ↦ rest ]

-- a change that leaves the kinds of objects
kind_later : (such : Body → Bool) (f : Body → Body) → ((b : Body) → such (f b) ≡ such b) → (objects : List Object) (at id : ℕ)
    → list_any (λ other. other.id == id && such other.body) (map_at (on_body f) objects at) ≡ list_any (λ other. other.id == id && such other.body) objects
kind_later such f same [] at id = refl
kind_later such f same (object ∷ objects) zero id = ap (λ b. (object.id == id && b) || list_any (λ other. other.id == id && such other.body) objects) (same object.body)
kind_later such f same (object ∷ objects) (suc at) id =
    ap (λ (l : List Object). list_any (λ other. other.id == id && such other.body) l) (map_at_later (on_body f) object objects at)
    ∙ ap (λ b. (object.id == id && such object.body) || b) (kind_later such f same objects at id)

pub new_made : (such : Body → Bool) (made : Body) (c : CoreState) → such made ≡ true → IsMade such (added made c) c.next
new_made such made c is = record {
  given = omega arith;
  there = there_between c.objects (record { id = c.next; body = made }) [];
  made = kind_between such c.objects (record { id = c.next; body = made }) [] is;
}

pub client_made_so : (such : Body → Bool) (client : Connector) (path : List ℕ) (c : CoreState) → such (body.End (new_end None end_state.Waiting (Some path) (Some client) 0 0)) ≡ true
    → IsMade such (waiting_client client path c) c.next
client_made_so such client path c is = new_made such (body.End (new_end None end_state.Waiting (Some path) (Some client) 0 0)) c is

app_alike : (f : Port → Port) (b : Body) → is_of_app (on_port f b) ≡ is_of_app b
app_alike f (body.Port port) = refl
app_alike f (body.End end) = refl
app_alike f (body.Set set) = refl
app_alike f (body.Memory memory) = refl

bridge_alike : (f : Port → Port) (b : Body) → is_of_bridge (on_port f b) ≡ is_of_bridge b
bridge_alike f (body.Port port) = refl
bridge_alike f (body.End end) = refl
bridge_alike f (body.Set set) = refl
bridge_alike f (body.Memory memory) = refl

pair_made : (such : Body → Bool) → ((f : Port → Port) (b : Body) → such (on_port f b) ≡ such b) → (client : Connector) (id : ℕ) (port : Port) (c : CoreState)
    → such (body.End (new_end (Some (c.next + 1)) end_state.Connecting None (Some client) port.bufs port.size)) ≡ true → IsMade such (pending_pair client id port c) c.next
pair_made such alike client id port c is =
    let f : Body → Body = on_port (λ p. record p { pending = p.pending ++ (c.next + 1) ∷ [] }) in
    let one : Object = record { id = c.next; body = body.End (new_end (Some (c.next + 1)) end_state.Connecting None (Some client) port.bufs port.size) } in
    let other : Object = record { id = c.next + 1; body = server_end c.next port.bufs port.size } in
    let first : List Object = c.objects ++ one ∷ [] in
    record {
      given = omega arith;
      there = there_changed f (first ++ other ∷ []) id c.next ∙ (list_any-append (λ (object : Object). object.id == c.next) first (other ∷ [])
          ∙ ap (λ b. b || is_there (other ∷ []) c.next) (there_between c.objects one []));
      made = kind_later such f (alike (λ p. record p { pending = p.pending ++ (c.next + 1) ∷ [] })) (first ++ other ∷ []) (place_of (first ++ other ∷ []) id) c.next
          ∙ (list_any-append (λ (object : Object). object.id == c.next && such object.body) first (other ∷ [])
          ∙ ap (λ b. b || list_any (λ (object : Object). object.id == c.next && such object.body) (other ∷ [])) (kind_between such c.objects one [] is));
    }

pub app_pair_made : (app id : ℕ) (port : Port) (c : CoreState) → IsMade is_of_app (pending_pair (connector.App app) id port c) c.next
app_pair_made app id port c = pair_made is_of_app app_alike (connector.App app) id port c refl

pub bridge_pair_made : (id : ℕ) (port : Port) (c : CoreState) → IsMade is_of_bridge (pending_pair connector.NormalWorld id port c) c.next
bridge_pair_made id port c = pair_made is_of_bridge bridge_alike connector.NormalWorld id port c refl

pub port_made_so : (port : Port) (c : CoreState) → IsMade is_of_app (publish port c) c.next
port_made_so port c =
    let clients : List ℕ = admitted port c.objects in
    let made : Object = record { id = c.next; body = body.Port (record port { pending = map (server_of (c.next + 1) clients) clients }) } in
    let servers : List Object = map (new_server port (c.next + 1) clients) clients in
    record {
      given = omega arith;
      there = there_between (map (decided port (c.next + 1) clients) c.objects) made servers;
      made = kind_between is_of_app (map (decided port (c.next + 1) clients) c.objects) made servers refl;
    }
