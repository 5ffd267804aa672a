-- A port that is published, with its server ends: what is told of an end stays.
use Rattle.std.proofs.Common.{◌≡◌, ◌≤◌, ◌<◌, ℕ, suc, ◌+◌, ◌++◌, ◌==◌, Bool, true, false, cond, not, List, [], ◌∷◌, length, map, Option, Some, None, refl, sym, subst, arith, tests, append_assoc}
use Rattle.std.specs.List.{position_or_len}
use Rattle.kernel_values.specs.declared.state.Object.{Object}
use Rattle.kernel_values.specs.declared.state.Body.TheVariants as body
use Rattle.kernel_values.specs.declared.state.ChannelEnd.{ChannelEnd}
use Rattle.kernel_values.specs.declared.state.Port.{Port}
use Rattle.kernel_values.specs.declared.state.CoreState.{CoreState}
use Rattle.kernel_types.specs.Stories.{Story}
use Rattle.kernel_types.specs.Ports.{admits_client, connecting_end, decided, decided_end, denied_end, new_server, publish_to, server_of, waits_for}
use Rattle.kernel_laws.proofs.Found.{found}
use Rattle.kernel_laws.proofs.Tells.{Tells, StoryFits, IsNew, quiet_end, tells_mapped, tells_appended}

decided_messages : (port : Port) (first : ℕ) (clients : List ℕ) (id : ℕ) (end : ChannelEnd) → (decided_end port first clients id end).messages ≡ end.messages
decided_messages port first clients id end =
    elim (waits_for port.path end) as (λ b. (cond b (cond (admits_client port.flags end.client) (connecting_end (server_of first clients id) port.bufs port.size end) (denied_end end)) end).messages ≡ end.messages) [
      | true ↦ elim (admits_client port.flags end.client) as (λ b. (cond b (connecting_end (server_of first clients id) port.bufs port.size end) (denied_end end)).messages ≡ end.messages) [ true ↦ refl | false ↦ refl ]
      | false ↦ refl
    ]

decided_sent : (port : Port) (first : ℕ) (clients : List ℕ) (id : ℕ) (end : ChannelEnd) → (decided_end port first clients id end).sent ≡ end.sent
decided_sent port first clients id end =
    elim (waits_for port.path end) as (λ b. (cond b (cond (admits_client port.flags end.client) (connecting_end (server_of first clients id) port.bufs port.size end) (denied_end end)) end).sent ≡ end.sent) [
      | true ↦ elim (admits_client port.flags end.client) as (λ b. (cond b (connecting_end (server_of first clients id) port.bufs port.size end) (denied_end end)).sent ≡ end.sent) [ true ↦ refl | false ↦ refl ]
      | false ↦ refl
    ]

-- a number that is in the list has a place there
placed : (x : ℕ) (ys xs : List ℕ) → position_or_len (λ other. other == x) (ys ++ x ∷ xs) < length (ys ++ x ∷ xs)
placed x [] xs =
    let here : (x == x) ≡ true = grind (arith, tests) in
    subst (λ (b : Bool). cond (not b) (1 + position_or_len (λ other. other == x) xs) 0 < suc (length xs)) (sym here) (omega arith)
placed x (y ∷ ys) xs =
    let rest : position_or_len (λ other. other == x) (ys ++ x ∷ xs) < length (ys ++ x ∷ xs) = placed x ys xs in
    elim (y == x) as (λ b. cond (not b) (1 + position_or_len (λ other. other == x) (ys ++ x ∷ xs)) 0 < suc (length (ys ++ x ∷ xs))) [ true ↦ omega arith | false ↦ omega arith ]

-- the server ends of a port that is published are new
pub servers_new : (port : Port) (first e : ℕ) (ys xs : List ℕ) → IsNew first (first + length (ys ++ xs)) e (found (map (new_server port first (ys ++ xs)) xs) e)
servers_new port first e ys [] = tt
servers_new port first e ys (x ∷ xs) =
    let all : List ℕ = ys ++ x ∷ xs in
    let here : position_or_len (λ other. other == x) all < length all = placed x ys xs in
    let moved : (ys ++ x ∷ []) ++ xs ≡ all = append_assoc ys (x ∷ []) xs in
    let rest : IsNew first (first + length all) e (found (map (new_server port first all) xs) e) =
    subst (λ (l : List ℕ). IsNew first (first + length l) e (found (map (new_server port first l) xs) e)) moved (servers_new port first e (ys ++ x ∷ []) xs) in
    let P : Bool → Type 0 = λ b. (server_of first all x == e) ≡ b → IsNew first (first + length all) e (cond b (Some (new_server port first all x)) (found (map (new_server port first all) xs) e)) in
    let go : (b : Bool) → P b = λ b. elim b as (λ v. P v) [
      | true ↦ (λ is. let same : first + position_or_len (λ other. other == x) all ≡ e = grind (arith, tests) in (omega arith, omega arith, (refl, refl)))
      | false ↦ (λ is. rest)
    ] in
    go (server_of first all x == e) refl

pub new_from : (low first high e : ℕ) (o : Option Object) → low ≤ first → IsNew first high e o → IsNew low high e o
new_from low first high e None le new = tt
new_from low first high e (Some object) le new = (omega (arith, new.0), new.1, new.2)

pub publish_tells : (e : ℕ) (story : Story) (c : CoreState) → StoryFits e story c → (port : Port) (clients : List ℕ) → StoryFits e story (publish_to clients port c)
publish_tells e story c t port clients =
    let first : ℕ = c.next + 1 in
    let more : ℕ = c.next + 1 + length clients in
    let one : Object = record { id = c.next; body = body.Port (record port { pending = map (server_of first clients) clients }) } in
    let servers : List Object = map (new_server port first clients) clients in
    let old : Tells e story (map (decided port first clients) c.objects) c.next =
    tells_mapped e story c.objects c.next t (decided port first clients) (λ object. refl)
    (λ object. quiet_end (decided_end port first clients object.id) (decided_messages port first clients object.id) (decided_sent port first clients object.id) object.body) in
    let rest : IsNew c.next more e (found servers e) = new_from c.next first more e (found servers e) (omega arith) (servers_new port first e [] clients) in
    let P : Bool → Type 0 = λ b. (c.next == e) ≡ b → IsNew c.next more e (cond b (Some one) (found servers e)) in
    let go : (b : Bool) → P b = λ b. elim b as (λ v. P v) [
      | true ↦ (λ is. let same : c.next ≡ e = grind (arith, tests) in (omega arith, omega arith, tt))
      | false ↦ (λ is. rest)
    ] in
    tells_appended e story (map (decided port first clients) c.objects) (one ∷ servers) c.next more old (omega arith) (go (c.next == e) refl)
