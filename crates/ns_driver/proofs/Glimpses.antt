-- What frames make of the connection with an address can be told frame by frame.
use Rattle.std.proofs.Common.{◌≡◌, ℕ, suc, ◌+◌, ◌==◌, ◌||◌, Bool, true, false, cond, not, List, [], ◌∷◌, ◌++◌, drop, map, Option, Some, None, Result, Ok, Err, refl, sym, ◌∙◌, ap, subst, arith, tests}
use Rattle.std.specs.List.{find, fold}
use Rattle.std.specs.Option.{option_map, is_some}
use Rattle.std.specs.Prelude.{slice_get}
use Rattle.std.proofs.lemmas.List.Folds.{find_at}
use Rattle.tipc_proto.specs.declared.frames.Frame.{Frame}
use Rattle.tipc_proto.specs.declared.faults.FrameFault.{FrameFault}
use Rattle.tipc_proto.specs.declared.controls.Control.{Control}
use Rattle.tipc_proto.specs.declared.controls.Control.TheVariants.{GoOnline, GoOffline, ConnReq, ConnRsp, DiscReq}
use Rattle.tipc_proto.specs.Frames.{frame_in}
use Rattle.tipc_proto.specs.Controls.{control_in}
use Rattle.kernel_types.specs.Objects.{set_if}
use Rattle.kernel_values.specs.declared.errno.Errno.TheVariants as errno
use Rattle.kernel_values.specs.declared.world.ClientWaitOn.TheVariants as wait_on
use Rattle.kernel_values.specs.declared.world.Connection.{Connection}
use Rattle.kernel_values.specs.declared.world.ConnectionStatus.TheVariants as connection_status
use Rattle.kernel_values.specs.declared.world.Driver.{Driver}
use Rattle.kernel_values.specs.declared.world.World.{World}
use Rattle.kernel_types.specs.Clients.{Acted, is_asked, is_closed, connect_answer, connect_answer_of, receive_answer, receive_from, answer_of_wait, ns_refuses}
use Rattle.kernel_types.specs.Drains.{connection_of, connection_place, connection_changed, status_changed, answered_status, left_status, received_by, with_bytes, deliver_control, deliver_frame, delivered, readable_elements, frame_at, drained, to_normal_drained, from_normal_drained, drained_frames}
use Rattle.kernel_types.specs.Sending.{control_address}
use Rattle.ns_driver.specs.Acts.{bare}
use Rattle.ns_driver.specs.declared.watching.Glimpse.{Glimpse}
use Rattle.ns_driver.specs.Watching.{glimpse_of, is_empty, is_established, answer_seen, end_seen, message_seen, seen_if, control_seen, frame_seen, seen}

-- ---- the connection with an address, after a change of one connection

abbrev found : List Connection → ℕ → Option Connection
found connections a = find (λ connection. connection.address == a) connections

found_is : (connections : List Connection) (a : ℕ) → connection_of connections a ≡ found connections a
found_is connections a = sym (find_at (λ connection. connection.address == a) connections)

changed_cons : (f : Connection → Connection) (c : Connection) (cs : List Connection) (t : ℕ)
    → connection_changed f (c ∷ cs) t ≡ cond (c.address == t) (f c ∷ cs) (c ∷ connection_changed f cs t)
changed_cons f c cs t =
    let n : ℕ = connection_place cs t in
    let later : (next : ℕ) → next ≡ suc n → set_if (c ∷ cs) next (option_map f (slice_get (c ∷ cs) next)) ≡ c ∷ connection_changed f cs t =
    λ next is. subst (λ (k : ℕ). set_if (c ∷ cs) k (option_map f (slice_get (c ∷ cs) k)) ≡ c ∷ connection_changed f cs t) (sym is)
    (elim (option_map f (slice_get cs n)) as (λ o. set_if (c ∷ cs) (suc n) o ≡ c ∷ set_if cs n o) [ None ↦ refl | Some x ↦ refl ]) in
    elim (c.address == t) as (λ b. set_if (c ∷ cs) (cond (not b) (1 + n) 0) (option_map f (slice_get (c ∷ cs) (cond (not b) (1 + n) 0)))
    ≡ cond b (f c ∷ cs) (c ∷ connection_changed f cs t)) [ true ↦ refl | false ↦ later (1 + n) (omega arith) ]

-- three tests of numbers that agree
agree : (x t e : ℕ) (a b d : Bool) → (x == t) ≡ a → (x == e) ≡ b → (t == e) ≡ d → a ≡ true → b ≡ d
agree x t e a b d ha hb hd here =
    let same : x ≡ t = grind (arith, tests) in
    sym hb ∙ (ap (λ n. n == e) same ∙ hd)

differ : (x t e : ℕ) → (x == t) ≡ false → (x == e) ≡ true → (t == e) ≡ true → ⊥
differ x t e ha hb hd =
    let one : x ≡ e = grind (arith, tests) in
    let two : t ≡ e = grind (arith, tests) in
    let same : x ≡ t = one ∙ sym two in
    grind (arith, tests)

found_changed : (f : Connection → Connection) → ((c : Connection) → (f c).address ≡ c.address) → (cs : List Connection) (t e : ℕ)
    → found (connection_changed f cs t) e ≡ cond (t == e) (option_map f (found cs e)) (found cs e)
found_changed f keeps [] t e = let none : Option Connection = None in elim (t == e) as (λ b. none ≡ cond b none none) [ true ↦ refl | false ↦ refl ]
found_changed f keeps (c ∷ cs) t e =
    let os : List Connection = connection_changed f cs t in
    let first : Option Connection = Some (f c) in
    let P : Bool → Bool → Bool → Type 0 = λ a b d. (c.address == t) ≡ a → (c.address == e) ≡ b → (t == e) ≡ d
    → cond a (cond b first (found cs e)) (cond b (Some c) (found os e))
    ≡ cond d (option_map f (cond b (Some c) (found cs e))) (cond b (Some c) (found cs e)) in
    let more : (d : Bool) → (t == e) ≡ d → found os e ≡ cond d (option_map f (found cs e)) (found cs e) =
    λ d is. subst (λ (v : Bool). found os e ≡ cond v (option_map f (found cs e)) (found cs e)) is (found_changed f keeps cs t e) in
    let go : (a b d : Bool) → P a b d = λ a b d. elim a as (λ v. P v b d) [
      | true ↦ elim b as (λ v. P true v d) [
        | true ↦ elim d as (λ v. P true true v) [ true ↦ (λ ha hb hd. refl) | false ↦ (λ ha hb hd. let bad : true ≡ false = agree c.address t e true true false ha hb hd refl in absurd (cc)) ]
        | false ↦ elim d as (λ v. P true false v) [ true ↦ (λ ha hb hd. let bad : false ≡ true = agree c.address t e true false true ha hb hd refl in absurd (cc)) | false ↦ (λ ha hb hd. refl) ]
      ]
      | false ↦ elim b as (λ v. P false v d) [
        | true ↦ elim d as (λ v. P false true v) [ true ↦ (λ ha hb hd. absurd (differ c.address t e ha hb hd)) | false ↦ (λ ha hb hd. refl) ]
        | false ↦ (λ ha hb hd. more d hd)
      ]
    ] in
    let here : ((f c).address == e) ≡ (c.address == e) = ap (λ n. n == e) (keeps c) in
    let head : found (f c ∷ cs) e ≡ cond (c.address == e) first (found cs e) = ap (λ b. cond b first (found cs e)) here in
    let split : found (cond (c.address == t) (f c ∷ cs) (c ∷ os)) e
    ≡ cond (c.address == t) (cond (c.address == e) first (found cs e)) (cond (c.address == e) (Some c) (found os e)) =
    elim (c.address == t) as (λ b. found (cond b (f c ∷ cs) (c ∷ os)) e ≡ cond b (cond (c.address == e) first (found cs e)) (cond (c.address == e) (Some c) (found os e)))
    [ true ↦ head | false ↦ refl ] in
    ap (λ l. found l e) (changed_cons f c cs t) ∙ (split ∙ go (c.address == t) (c.address == e) (t == e) refl refl refl)

-- ---- what is seen of it

abbrev looked : List Connection → ℕ → Option Glimpse
looked cs a = option_map glimpse_of (found cs a)

seen_changed : (f : Connection → Connection) (g : Glimpse → Glimpse) → ((c : Connection) → (f c).address ≡ c.address) → ((c : Connection) → glimpse_of (f c) ≡ g (glimpse_of c))
    → (cs : List Connection) (t a : ℕ) → looked (connection_changed f cs t) a ≡ option_map (seen_if (t == a) g) (looked cs a)
seen_changed f g keeps same cs t a =
    ap (option_map glimpse_of) (found_changed f keeps cs t a)
    ∙ (elim (t == a) as (λ b. option_map glimpse_of (cond b (option_map f (found cs a)) (found cs a)) ≡ option_map (seen_if b g) (looked cs a)) [
      | true ↦ elim (found cs a) as (λ o. option_map glimpse_of (option_map f o) ≡ option_map (seen_if true g) (option_map glimpse_of o)) [ None ↦ refl | Some c ↦ ap (λ (x : Glimpse). let o : Option Glimpse = Some x in o) (same c) ]
      | false ↦ elim (found cs a) as (λ o. option_map glimpse_of o ≡ option_map (seen_if false g) (option_map glimpse_of o)) [ None ↦ refl | Some c ↦ refl ]
    ])

nothing_seen : (o : Option Glimpse) → o ≡ option_map (λ g. g) o
nothing_seen None = refl
nothing_seen (Some g) = refl

message_is : (bytes : List ℕ) (c : Connection) → glimpse_of (received_by bytes c) ≡ message_seen (glimpse_of c)
message_is bytes c =
    let seen_as : Bool → Glimpse = λ b. record { status = c.status; has_message = b } in
    ap seen_as (elim c.status as (λ s. not (is_empty (with_bytes bytes s c.inbox)) ≡ (not (is_empty c.inbox) || is_established s)) [
      | connection_status.Asked ↦ elim c.inbox as (λ i. not (is_empty i) ≡ (not (is_empty i) || false)) [ [] ↦ refl | x ∷ xs ↦ refl ]
      | connection_status.Established remote size ↦ elim c.inbox as (λ i. not (is_empty (i ++ bytes ∷ [])) ≡ (not (is_empty i) || true)) [ [] ↦ refl | x ∷ xs ↦ refl ]
      | connection_status.Denied status ↦ elim c.inbox as (λ i. not (is_empty i) ≡ (not (is_empty i) || false)) [ [] ↦ refl | x ∷ xs ↦ refl ]
      | connection_status.Shut ↦ elim c.inbox as (λ i. not (is_empty i) ≡ (not (is_empty i) || false)) [ [] ↦ refl | x ∷ xs ↦ refl ]
    ])

-- ---- frame by frame

control_step : (a : ℕ) (cs : List Connection) (r : Result Control FrameFault) → looked (deliver_control cs r) a ≡ option_map (control_seen a r) (looked cs a)
control_step a cs (Ok (ConnRsp target status remote size count)) =
    seen_changed (status_changed (answered_status status remote size)) (answer_seen status remote size) (λ c. refl) (λ c. refl) cs target a
control_step a cs (Ok (DiscReq target)) = seen_changed (status_changed left_status) end_seen (λ c. refl) (λ c. refl) cs target a
control_step a cs (Ok GoOnline) = nothing_seen (looked cs a)
control_step a cs (Ok GoOffline) = nothing_seen (looked cs a)
control_step a cs (Ok (ConnReq path)) = nothing_seen (looked cs a)
control_step a cs (Err fault) = nothing_seen (looked cs a)

frame_step : (a : ℕ) (cs : List Connection) (payload : List ℕ) (r : Result Frame FrameFault) → looked (deliver_frame cs payload r) a ≡ option_map (frame_seen a payload r) (looked cs a)
frame_step a cs payload (Ok f) =
    elim (f.dst == control_address) as (λ b. looked (cond b (deliver_control cs (control_in payload)) (connection_changed (received_by payload) cs f.dst)) a
    ≡ option_map (λ g. cond b (control_seen a (control_in payload) g) (seen_if (f.dst == a) message_seen g)) (looked cs a)) [
      | true ↦ control_step a cs (control_in payload)
      | false ↦ seen_changed (received_by payload) message_seen (λ c. refl) (message_is payload) cs f.dst a
    ]
frame_step a cs payload (Err fault) = nothing_seen (looked cs a)

step : (a : ℕ) (cs : List Connection) (bytes : List ℕ) → looked (delivered cs bytes) a ≡ option_map (λ g. seen a g bytes) (looked cs a)
unfolding delivered seen
step a cs bytes = frame_step a cs (drop 16 bytes) (frame_in bytes)

map_twice : (h k : Glimpse → Glimpse) (o : Option Glimpse) → option_map h (option_map k o) ≡ option_map (λ g. h (k g)) o
map_twice h k None = refl
map_twice h k (Some g) = refl

all_steps : (a : ℕ) (cs : List Connection) (frames : List (List ℕ)) → looked (fold delivered cs frames) a ≡ option_map (λ g. fold (seen a) g frames) (looked cs a)
all_steps a cs [] = nothing_seen (looked cs a)
all_steps a cs (bytes ∷ frames) =
    all_steps a (delivered cs bytes) frames
    ∙ ap (option_map (λ g. fold (seen a) g frames)) (step a cs bytes)
    ∙ map_twice (λ g. fold (seen a) g frames) (λ g. seen a g bytes) (looked cs a)

-- ---- the answers of waits, by what is seen

abbrev asked_answer : Option Glimpse → Bool
asked_answer None = false
asked_answer (Some g) = not (is_asked g.status)

abbrev message_answer : Option Glimpse → Bool
message_answer None = false
message_answer (Some g) = g.has_message || is_closed g.status

connect_is : (w : World) (o : Option Connection) → is_some (connect_answer o w) ≡ asked_answer (option_map glimpse_of o)
connect_is w None = refl
connect_is w (Some c) =
    elim c.status as (λ s. is_some (connect_answer_of c s w) ≡ not (is_asked s)) [
      | connection_status.Asked ↦ refl
      | connection_status.Established remote size ↦ refl
      | connection_status.Denied status ↦ refl
      | connection_status.Shut ↦ refl
    ]

abbrev receive_from_closed : Bool → World → Option Acted
receive_from_closed b w = cond b (Some (ns_refuses errno.ChannelClosed w)) None

receive_is : (w : World) (o : Option Connection) → is_some (receive_answer o w) ≡ message_answer (option_map glimpse_of o)
receive_is w None = refl
receive_is w (Some c) =
    elim c.inbox as (λ i. is_some (receive_from c i w) ≡ (not (is_empty i) || is_closed c.status)) [
      | [] ↦ elim (is_closed c.status) as (λ b. is_some (receive_from_closed b w) ≡ (false || b)) [ true ↦ refl | false ↦ refl ]
      | bytes ∷ rest ↦ refl
    ]

drained_connections : (memory : List ℕ) (d : Driver) → (drained (bare memory d)).driver.connections ≡ fold delivered d.connections (map (frame_at memory) (readable_elements (bare memory d)))
unfolding to_normal_drained from_normal_drained drained_frames
drained_connections memory d = refl

looked_after : (memory : List ℕ) (d : Driver) (conn : ℕ) (c : Connection) (g : Glimpse) → connection_of d.connections conn ≡ Some c
    → g ≡ fold (seen conn) (glimpse_of c) (map (frame_at memory) (readable_elements (bare memory d)))
    → option_map glimpse_of (connection_of (drained (bare memory d)).driver.connections conn) ≡ Some g
looked_after memory d conn c g there is =
    let frames = map (frame_at memory) (readable_elements (bare memory d)) in
    ap (λ cs. option_map glimpse_of (connection_of cs conn)) (drained_connections memory d)
    ∙ ap (option_map glimpse_of) (found_is (fold delivered d.connections frames) conn)
    ∙ all_steps conn d.connections frames
    ∙ ap (λ o. option_map (λ g. fold (seen conn) g frames) (option_map glimpse_of o)) (sym (found_is d.connections conn) ∙ there)
    ∙ ap (λ (x : Glimpse). let o : Option Glimpse = Some x in o) (sym is)

nothing_after : (memory : List ℕ) (d : Driver) (conn : ℕ) → connection_of d.connections conn ≡ None
    → option_map glimpse_of (connection_of (drained (bare memory d)).driver.connections conn) ≡ None
nothing_after memory d conn there =
    let frames = map (frame_at memory) (readable_elements (bare memory d)) in
    ap (λ cs. option_map glimpse_of (connection_of cs conn)) (drained_connections memory d)
    ∙ ap (option_map glimpse_of) (found_is (fold delivered d.connections frames) conn)
    ∙ all_steps conn d.connections frames
    ∙ ap (λ o. option_map (λ g. fold (seen conn) g frames) (option_map glimpse_of o)) (sym (found_is d.connections conn) ∙ there)

pub connect_waits : (memory : List ℕ) (d : Driver) (conn : ℕ) (c : Connection) (g : Glimpse) → connection_of d.connections conn ≡ Some c
    → g ≡ fold (seen conn) (glimpse_of c) (map (frame_at memory) (readable_elements (bare memory d)))
    → not (is_asked g.status) ≡ is_some (answer_of_wait (wait_on.Connect conn) (drained (bare memory d)))
unfolding answer_of_wait
connect_waits memory d conn c g there is =
    sym (connect_is (drained (bare memory d)) (connection_of (drained (bare memory d)).driver.connections conn) ∙ ap asked_answer (looked_after memory d conn c g there is))

pub receive_waits : (memory : List ℕ) (d : Driver) (conn : ℕ) (c : Connection) (g : Glimpse) → connection_of d.connections conn ≡ Some c
    → g ≡ fold (seen conn) (glimpse_of c) (map (frame_at memory) (readable_elements (bare memory d)))
    → (g.has_message || is_closed g.status) ≡ is_some (answer_of_wait (wait_on.Receive conn) (drained (bare memory d)))
unfolding answer_of_wait
receive_waits memory d conn c g there is =
    sym (receive_is (drained (bare memory d)) (connection_of (drained (bare memory d)).driver.connections conn) ∙ ap message_answer (looked_after memory d conn c g there is))

pub connect_of_none : (memory : List ℕ) (d : Driver) (conn : ℕ) → connection_of d.connections conn ≡ None
    → false ≡ is_some (answer_of_wait (wait_on.Connect conn) (drained (bare memory d)))
unfolding answer_of_wait
connect_of_none memory d conn there =
    sym (connect_is (drained (bare memory d)) (connection_of (drained (bare memory d)).driver.connections conn) ∙ ap asked_answer (nothing_after memory d conn there))

pub receive_of_none : (memory : List ℕ) (d : Driver) (conn : ℕ) → connection_of d.connections conn ≡ None
    → false ≡ is_some (answer_of_wait (wait_on.Receive conn) (drained (bare memory d)))
unfolding answer_of_wait
receive_of_none memory d conn there =
    sym (receive_is (drained (bare memory d)) (connection_of (drained (bare memory d)).driver.connections conn) ∙ ap message_answer (nothing_after memory d conn there))
