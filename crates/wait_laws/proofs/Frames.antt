-- What the driver makes of a frame, and what is so of every connection after it.
use Rattle.std.proofs.Common.{◌≡◌, ℕ, zero, suc, ◌^◌, ◌<◌, Bool, true, false, cond, List, [], ◌∷◌, length, drop, Option, Some, None, Result, Ok, Err, refl, ap, sym, ◌∙◌, subst, arith}
use Rattle.std.specs.Prelude.{◌==◌, ◌&&◌, nat_lt, slice_get}
use Rattle.std.specs.List.{fold}
use Rattle.std.specs.Option.{option_map}
use Rattle.std.proofs.lemmas.Bool.Decides.{nat_tests}
use Rattle.byteorder.specs.Endian.{little_number}
use Rattle.byteorder.specs.Numbers.{little_number-reads_back}
use Rattle.kernel_values.specs.declared.world.Connection.{Connection}
use Rattle.kernel_types.specs.Drains.{answered_status, connection_changed, connection_place, deliver_control, deliver_frame, delivered, left_status, received_by, status_changed}
use Rattle.kernel_types.specs.Objects.{map_at, set_if}
use Rattle.kernel_types.specs.Sending.{control_address, frame}
use Rattle.tipc_proto.specs.declared.controls.Control.{Control}
use Rattle.tipc_proto.specs.declared.controls.Control.TheVariants.{GoOnline, GoOffline, ConnReq, ConnRsp, DiscReq}
use Rattle.tipc_proto.specs.declared.faults.FrameFault.{FrameFault}
use Rattle.tipc_proto.specs.declared.faults.FrameFault.TheVariants.{Short, Length, BodyLength}
use Rattle.tipc_proto.specs.declared.frames.Frame.{Frame}
use Rattle.tipc_proto.specs.Controls.{body_in, body_length, control_in, four_at, message, request, sized}
use Rattle.tipc_proto.specs.Frames.{fields_of, frame_in, header}
use Rattle.tipc_proto.specs.Names.{name_in}
use Rattle.carry_laws.proofs.Lists.{AllOf}

-- An answer to a request is of type 4, and its status stands at a fixed place.

abbrev Tells : List ℕ → Result Control FrameFault → Type 0
Tells payload (Ok (ConnRsp target status remote size count)) = (four_at 0 payload ≡ 4) × (status ≡ four_at 4 (drop 8 payload))
Tells payload other = Unit {0}

tells_if : (payload : List ℕ) (b : Bool) (one other : Result Control FrameFault) → (b ≡ true → Tells payload one) → (b ≡ false → Tells payload other) → Tells payload (cond b one other)
tells_if payload true one other f g = f refl
tells_if payload false one other f g = g refl

same_number : (n m : ℕ) → (n == m) ≡ true → n ≡ m
same_number n m is = grind (arith, nat_tests)

request_tells : (payload : List ℕ) (r : Result (List ℕ) FrameFault) → Tells payload (request r)
request_tells payload (Ok path) = tt
request_tells payload (Err fault) = tt

body_tells : (payload : List ℕ) → Tells payload (body_in (four_at 0 payload) (drop 8 payload))
unfolding body_in
body_tells payload =
    let body : List ℕ = drop 8 payload in
    tells_if payload (four_at 0 payload == 1) (Ok GoOnline) _ (λ is. tt)
    (λ a. tells_if payload (four_at 0 payload == 2) (Ok GoOffline) _ (λ is. tt)
    (λ b. tells_if payload (four_at 0 payload == 3) (request (name_in body)) _ (λ is. request_tells payload (name_in body))
    (λ c. tells_if payload (four_at 0 payload == 4) (Ok (ConnRsp (four_at 0 body) (four_at 4 body) (four_at 8 body) (four_at 12 body) (four_at 16 body))) (Ok (DiscReq (four_at 0 body)))
    (λ is. (same_number (four_at 0 payload) 4 is, refl)) (λ is. tt))))

sized_tells : (payload : List ℕ) (o : Option ℕ) → Tells payload (sized (four_at 0 payload) (four_at 4 payload) (drop 8 payload) o)
sized_tells payload None = tt
sized_tells payload (Some wanted) =
    tells_if payload ((four_at 4 payload == length (drop 8 payload)) && (four_at 4 payload == wanted)) (body_in (four_at 0 payload) (drop 8 payload)) (Err BodyLength)
    (λ is. body_tells payload) (λ is. tt)

control_tells : (payload : List ℕ) → Tells payload (control_in payload)
unfolding control_in
control_tells payload = tells_if payload (nat_lt (length payload) 8) (Err Short) _ (λ is. tt) (λ is. sized_tells payload (body_length (four_at 0 payload)))

-- The addresses of a frame stand in front.

abbrev pub Addressed : List ℕ → Result Frame FrameFault → Type 0
Addressed bytes (Ok f) = (f.src ≡ little_number 4 bytes) × (f.dst ≡ little_number 4 (drop 4 bytes))
Addressed bytes (Err fault) = Unit {0}

addressed_if : (bytes : List ℕ) (b : Bool) (one other : Result Frame FrameFault) → Addressed bytes one → Addressed bytes other → Addressed bytes (cond b one other)
addressed_if bytes true one other p q = p
addressed_if bytes false one other p q = q

pub frame_addressed : (bytes : List ℕ) → Addressed bytes (frame_in bytes)
unfolding frame_in
frame_addressed bytes =
    addressed_if bytes (nat_lt (length bytes) 16) (Err Short) _ tt (addressed_if bytes _ (Ok (fields_of bytes)) (Err Length) (refl, refl) tt)

-- and those of a frame that was made are its own

pub src_of : (src dst : ℕ) (payload : List ℕ) → src < 2 ^ 32 → little_number 4 (frame src dst payload) ≡ src
unfolding frame header
src_of src dst payload small = little_number-reads_back 4 src (drop 4 (frame src dst payload)) small

pub dst_of : (src dst : ℕ) (payload : List ℕ) → dst < 2 ^ 32 → little_number 4 (drop 4 (frame src dst payload)) ≡ dst
unfolding frame header
dst_of src dst payload small = little_number-reads_back 4 dst (drop 8 (frame src dst payload)) small

pub payload_of : (src dst : ℕ) (payload : List ℕ) → drop 16 (frame src dst payload) ≡ payload
unfolding frame header
payload_of src dst payload = refl

pub kind_of : (kind : ℕ) (body : List ℕ) → kind < 2 ^ 32 → four_at 0 (message kind body) ≡ kind
unfolding message
kind_of kind body small = little_number-reads_back 4 kind (drop 4 (message kind body)) small

pub body_of : (kind : ℕ) (body : List ℕ) → drop 8 (message kind body) ≡ body
unfolding message
body_of kind body = refl

-- A change of one connection.

pub of_map_at : {X : Type 0} (P : X → Type 0) (f : X → X) → ((x : X) → P x → P (f x)) → (xs : List X) (at : ℕ) → AllOf P xs → AllOf P (map_at f xs at)
of_map_at P f keeps [] at all = tt
of_map_at P f keeps (x ∷ xs) zero all = (keeps x all.0, all.1)
of_map_at P f keeps (x ∷ xs) (suc at) all =
    let rest : AllOf P (set_if xs at (option_map f (slice_get xs at))) = of_map_at P f keeps xs at all.1 in
    let Q : Option _ → Type 0 = λ o. AllOf P (set_if xs at o) → AllOf P (set_if (x ∷ xs) (suc at) o) in
    let go : (o : Option _) → Q o = λ o. elim o as (λ v. Q v) [ None ↦ (λ some. (all.0, some)) | Some y ↦ (λ some. (all.0, some)) ] in
    go (option_map f (slice_get xs at)) rest

pub length_map_at : {X : Type 0} (f : X → X) (xs : List X) (at : ℕ) → length (map_at f xs at) ≡ length xs
length_map_at f [] at = refl
length_map_at f (x ∷ xs) zero = refl
length_map_at f (x ∷ xs) (suc at) =
    let rest : length (set_if xs at (option_map f (slice_get xs at))) ≡ length xs = length_map_at f xs at in
    let Q : Option _ → Type 0 = λ o. length (set_if xs at o) ≡ length xs → length (set_if (x ∷ xs) (suc at) o) ≡ suc (length xs) in
    let go : (o : Option _) → Q o = λ o. elim o as (λ v. Q v) [ None ↦ (λ same. refl) | Some y ↦ (λ same. ap suc same) ] in
    go (option_map f (slice_get xs at)) rest

-- What is so of every connection, where the statuses that answers tell are fine.

abbrev pub IsFine : (ℕ → Type 0) → List ℕ → Type 0
IsFine Fine bytes = little_number 4 (drop 4 bytes) ≡ control_address → four_at 0 (drop 16 bytes) ≡ 4 → Fine (four_at 4 (drop 8 (drop 16 bytes)))

module _ (P : Connection → Type 0) (Fine : ℕ → Type 0) (left : (c : Connection) → P c → P (status_changed left_status c))
    (received : (bytes : List ℕ) (c : Connection) → P c → P (received_by bytes c))
    (answered : (status remote size : ℕ) (c : Connection) → Fine status → P c → P (status_changed (answered_status status remote size) c)) where
  control_delivers : (cs : List Connection) (payload : List ℕ) (r : Result Control FrameFault) → Tells payload r → (four_at 0 payload ≡ 4 → Fine (four_at 4 (drop 8 payload)))
      → AllOf P cs → AllOf P (deliver_control cs r)
  control_delivers cs payload (Ok (ConnRsp target status remote size count)) tells fine all =
      of_map_at P (status_changed (answered_status status remote size)) (λ c. answered status remote size c (subst (λ n. Fine n) (sym tells.1) (fine tells.0))) cs (connection_place cs target) all
  control_delivers cs payload (Ok (DiscReq target)) tells fine all = of_map_at P (status_changed left_status) left cs (connection_place cs target) all
  control_delivers cs payload (Ok GoOnline) tells fine all = all
  control_delivers cs payload (Ok GoOffline) tells fine all = all
  control_delivers cs payload (Ok (ConnReq path)) tells fine all = all
  control_delivers cs payload (Err fault) tells fine all = all

  by_dst : (cs : List Connection) (bytes : List ℕ) (f : Frame) (b : Bool) → (f.dst == control_address) ≡ b → f.dst ≡ little_number 4 (drop 4 bytes) → IsFine Fine bytes → AllOf P cs
      → AllOf P (cond b (deliver_control cs (control_in (drop 16 bytes))) (connection_changed (received_by (drop 16 bytes)) cs f.dst))
  by_dst cs bytes f true is dst fine all =
      control_delivers cs (drop 16 bytes) (control_in (drop 16 bytes)) (control_tells (drop 16 bytes)) (fine (sym dst ∙ same_number f.dst control_address is)) all
  by_dst cs bytes f false is dst fine all = of_map_at P (received_by (drop 16 bytes)) (received (drop 16 bytes)) cs (connection_place cs f.dst) all

  frame_delivers : (cs : List Connection) (bytes : List ℕ) (r : Result Frame FrameFault) → Addressed bytes r → IsFine Fine bytes → AllOf P cs → AllOf P (deliver_frame cs (drop 16 bytes) r)
  frame_delivers cs bytes (Ok f) at fine all = by_dst cs bytes f (f.dst == control_address) refl at.1 fine all
  frame_delivers cs bytes (Err fault) at fine all = all

  pub all_delivered : (cs : List Connection) (frames : List (List ℕ)) → AllOf (IsFine Fine) frames → AllOf P cs → AllOf P (fold delivered cs frames)
  unfolding delivered
  all_delivered cs [] fine all = all
  all_delivered cs (bytes ∷ frames) fine all =
      all_delivered (delivered cs bytes) frames fine.1 (frame_delivers cs bytes (frame_in bytes) (frame_addressed bytes) fine.0 all)

-- as many connections as before

length_changed : (f : Connection → Connection) (cs : List Connection) (address : ℕ) → length (connection_changed f cs address) ≡ length cs
length_changed f cs address = length_map_at f cs (connection_place cs address)

length_control : (cs : List Connection) (r : Result Control FrameFault) → length (deliver_control cs r) ≡ length cs
length_control cs (Ok (ConnRsp target status remote size count)) = length_changed (status_changed (answered_status status remote size)) cs target
length_control cs (Ok (DiscReq target)) = length_changed (status_changed left_status) cs target
length_control cs (Ok GoOnline) = refl
length_control cs (Ok GoOffline) = refl
length_control cs (Ok (ConnReq path)) = refl
length_control cs (Err fault) = refl

length_frame : (cs : List Connection) (payload : List ℕ) (r : Result Frame FrameFault) → length (deliver_frame cs payload r) ≡ length cs
length_frame cs payload (Ok f) =
    elim (f.dst == control_address) as (λ b. length (cond b (deliver_control cs (control_in payload)) (connection_changed (received_by payload) cs f.dst)) ≡ length cs) [
      | true ↦ length_control cs (control_in payload)
      | false ↦ length_changed (received_by payload) cs f.dst
    ]
length_frame cs payload (Err fault) = refl

pub length_delivered : (cs : List Connection) (frames : List (List ℕ)) → length (fold delivered cs frames) ≡ length cs
unfolding delivered
length_delivered cs [] = refl
length_delivered cs (bytes ∷ frames) = length_delivered (delivered cs bytes) frames ∙ length_frame cs (drop 16 bytes) (frame_in bytes)
