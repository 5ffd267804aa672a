-- A control message that is read is spelled by its payload, and what is spelled is read again.
use Rattle.std.proofs.Common.{◌≡◌, ℕ, ◌+◌, ◌^◌, ◌<◌, ◌≤◌, Bool, true, false, cond, eqb, ltb, ◌&&◌, List, [], ◌++◌, length, drop, Option, Some, None, Result, Ok, Err, refl, sym, ap, ◌∙◌, subst, ◌⊎◌, inl, inr, arith, lit<}
use Rattle.std.specs.Prelude.{IfOk}
use Rattle.std.proofs.lemmas.Bool.{and_parts, eqb-true, ltb-false, le-ltb, eq-eqb, ne_eqb, cases_eq}
use Rattle.std.proofs.lemmas.List.{length-drop, nil_from_length}
use Rattle.byteorder.specs.Endian.{little_bytes}
use Rattle.byteorder.specs.Numbers.{little_number-reads_back}
use Rattle.kernel_values.specs.Words.{is_path}
use Rattle.kernel_values.specs.declared.items.NoMemory.{NoMemory}
use Rattle.tipc_proto.specs.declared.controls.Control.{Control}
use Rattle.tipc_proto.specs.declared.controls.Control.TheVariants.{GoOnline, GoOffline, ConnReq, ConnRsp, DiscReq}
use Rattle.tipc_proto.specs.declared.faults.FrameFault.{FrameFault}
use Rattle.tipc_proto.specs.declared.faults.FrameFault.TheVariants.{Short, BodyLength, Name}
use Rattle.tipc_proto.specs.Names.{name_field, BreaksAt, name_in}
use Rattle.tipc_proto.specs.Controls.{four_at, message, answer_body, leave_body, IsControl, body_length, request, body_in, sized, control_in}
use Rattle.tipc_proto.proofs.Cases.{passed, held, same_value}
use Rattle.tipc_proto.proofs.NameLaws.{name_takes, name_again, field_long}
use Rattle.tipc_proto.proofs.NamePlaces.{name_breaks}
use Rattle.tipc_proto.proofs.Numbers.{IsBytes, IsBytes-drop, four_at_place, four_below}

-- ---- what is read

message_taken : (payload : List ℕ) → IsBytes payload → 8 ≤ length payload → four_at 4 payload ≡ length (drop 8 payload) → payload ≡ message (four_at 0 payload) (drop 8 payload)
unfolding message
message_taken payload fits le e =
    let body_len = four_at_place 4 payload fits (omega arith) in
    let all = ap (λ (r : List ℕ). little_bytes 4 (four_at 0 payload) ++ r) body_len ∙ four_at_place 0 payload fits (omega arith) in
    sym all ∙ ap (λ (n : ℕ). little_bytes 4 (four_at 0 payload) ++ (little_bytes 4 n ++ drop 8 payload)) e

answer_taken : (body : List ℕ) → IsBytes body → length body ≡ 20 → body ≡ answer_body (four_at 0 body) (four_at 4 body) (four_at 8 body) (four_at 12 body) (four_at 16 body)
unfolding answer_body
answer_taken body fits long =
    let rest : drop 20 body ≡ [] = nil_from_length (drop 20 body) (omega (arith, length-drop 20 body)) in
    let count : little_bytes 4 (four_at 16 body) ≡ drop 16 body = ap (λ (r : List ℕ). little_bytes 4 (four_at 16 body) ++ r) (sym rest) ∙ four_at_place 16 body fits (omega arith) in
    let size = ap (λ (r : List ℕ). little_bytes 4 (four_at 12 body) ++ r) count ∙ four_at_place 12 body fits (omega arith) in
    let remote = ap (λ (r : List ℕ). little_bytes 4 (four_at 8 body) ++ r) size ∙ four_at_place 8 body fits (omega arith) in
    let status = ap (λ (r : List ℕ). little_bytes 4 (four_at 4 body) ++ r) remote ∙ four_at_place 4 body fits (omega arith) in
    sym (ap (λ (r : List ℕ). little_bytes 4 (four_at 0 body) ++ r) status ∙ four_at_place 0 body fits (omega arith))

leave_taken : (body : List ℕ) → IsBytes body → length body ≡ 4 → body ≡ leave_body (four_at 0 body)
unfolding leave_body
leave_taken body fits long =
    let rest : drop 4 body ≡ [] = nil_from_length (drop 4 body) (omega (arith, length-drop 4 body)) in
    sym (ap (λ (r : List ℕ). little_bytes 4 (four_at 0 body) ++ r) (sym rest) ∙ four_at_place 0 body fits (omega arith))

abbrev wants : ℕ → Option ℕ
wants n = Some n

same_length : (m n : ℕ) → wants m ≡ wants n → m ≡ n
same_length m n e = cc

online : (body : List ℕ) (c : Control) → body_length 1 ≡ Some (length body) → body_in 1 body ≡ Ok c → IsControl (message 1 body) c
unfolding body_in
online body c l e = subst (λ (c : Control). IsControl (message 1 body) c) (same_value GoOnline c e) (ap (message 1) (nil_from_length body (sym (same_length 0 (length body) l))))

offline : (body : List ℕ) (c : Control) → body_length 2 ≡ Some (length body) → body_in 2 body ≡ Ok c → IsControl (message 2 body) c
unfolding body_in
offline body c l e = subst (λ (c : Control). IsControl (message 2 body) c) (same_value GoOffline c e) (ap (message 2) (nil_from_length body (sym (same_length 0 (length body) l))))

asked : (body : List ℕ) (c : Control) (r : Result (List ℕ) FrameFault) → length body ≡ 256 → name_in body ≡ r → request r ≡ Ok c → IsControl (message 3 body) c
asked body c (Ok path) long n e =
    let name = name_takes body path long n in
    subst (λ (c : Control). IsControl (message 3 body) c) (same_value (ConnReq path) c e) (ap (message 3) name.0, name.1)
asked body c (Err fault) long n e = absurd cc

requested : (body : List ℕ) (c : Control) → body_length 3 ≡ Some (length body) → body_in 3 body ≡ Ok c → IsControl (message 3 body) c
unfolding body_in
requested body c l e = asked body c (name_in body) (sym (same_length 256 (length body) l)) refl e

answered : (body : List ℕ) (c : Control) → IsBytes body → body_length 4 ≡ Some (length body) → body_in 4 body ≡ Ok c → IsControl (message 4 body) c
unfolding body_in
answered body c fits l e =
    subst (λ (c : Control). IsControl (message 4 body) c) (same_value (ConnRsp (four_at 0 body) (four_at 4 body) (four_at 8 body) (four_at 12 body) (four_at 16 body)) c e)
    (ap (message 4) (answer_taken body fits (sym (same_length 20 (length body) l))), four_below (drop 0 body) (IsBytes-drop 0 body fits), four_below (drop 4 body) (IsBytes-drop 4 body fits), four_below (drop 8 body) (IsBytes-drop 8 body fits), four_below (drop 12 body) (IsBytes-drop 12 body fits), four_below (drop 16 body) (IsBytes-drop 16 body fits))

left : (body : List ℕ) (c : Control) → IsBytes body → body_length 5 ≡ Some (length body) → body_in 5 body ≡ Ok c → IsControl (message 5 body) c
unfolding body_in
left body c fits l e =
    subst (λ (c : Control). IsControl (message 5 body) c) (same_value (DiscReq (four_at 0 body)) c e)
    (ap (message 5) (leave_taken body fits (sym (same_length 4 (length body) l))), four_below (drop 0 body) (IsBytes-drop 0 body fits))

no_length : (kind : ℕ) → (kind ≡ 1 → ⊥) → (kind ≡ 2 → ⊥) → (kind ≡ 3 → ⊥) → (kind ≡ 4 → ⊥) → (kind ≡ 5 → ⊥) → body_length kind ≡ None
no_length kind a b c d e = rw (ne_eqb kind 1 a, ne_eqb kind 2 b, ne_eqb kind 3 c, ne_eqb kind 4 d, ne_eqb kind 5 e) refl

body_takes : (kind : ℕ) (body : List ℕ) (c : Control) → IsBytes body → body_length kind ≡ Some (length body) → body_in kind body ≡ Ok c → IsControl (message kind body) c
body_takes kind body c fits l e =
    let P : ℕ → Type 0 = λ k. body_length k ≡ Some (length body) → body_in k body ≡ Ok c → IsControl (message k body) c in
    elim (cases_eq kind 1) [
      | inl p ↦ subst P (sym p) (online body c) l e
      | inr n1 ↦ elim (cases_eq kind 2) [
        | inl p ↦ subst P (sym p) (offline body c) l e
        | inr n2 ↦ elim (cases_eq kind 3) [
          | inl p ↦ subst P (sym p) (requested body c) l e
          | inr n3 ↦ elim (cases_eq kind 4) [
            | inl p ↦ subst P (sym p) (answered body c fits) l e
            | inr n4 ↦ elim (cases_eq kind 5) [
              | inl p ↦ subst P (sym p) (left body c fits) l e
              | inr n5 ↦ let none = no_length kind n1 n2 n3 n4 n5 in absurd cc
            ]
          ]
        ]
      ]
    ]

sized_takes : (kind body_len : ℕ) (body : List ℕ) (c : Control) (o : Option ℕ) → IsBytes body → body_length kind ≡ o → sized kind body_len body o ≡ Ok c → (body_len ≡ length body) × IsControl (message kind body) c
sized_takes kind body_len body c None fits o e = absurd cc
sized_takes kind body_len body c (Some wanted) fits o e =
    let test = held (eqb body_len (length body) && eqb body_len wanted) (body_in kind body) BodyLength c e in
    let parts = and_parts (eqb body_len (length body)) (eqb body_len wanted) test.0 in
    let whole : body_len ≡ length body = eqb-true body_len (length body) parts.0 in
    let fit : body_len ≡ wanted = eqb-true body_len wanted parts.1 in
    (whole, body_takes kind body c fits (o ∙ ap (λ (n : ℕ). Some n) (sym fit ∙ whole)) test.1)

pub control_takes : (payload : List ℕ) (c : Control) → IsBytes payload → control_in payload ≡ Ok c → IsControl payload c
unfolding control_in
control_takes payload c fits e =
    let kind = four_at 0 payload in
    let body = drop 8 payload in
    let first = passed (ltb (length payload) 8) Short (sized kind (four_at 4 payload) body (body_length kind)) c e in
    let found = sized_takes kind (four_at 4 payload) body c (body_length kind) (IsBytes-drop 8 payload fits) refl first.1 in
    subst (λ (p : List ℕ). IsControl p c) (sym (message_taken payload fits (ltb-false (length payload) 8 first.0) found.0)) found.1

-- ---- what is written is read again

message_again : (kind : ℕ) (body : List ℕ) → kind < 2 ^ 32 → length body < 2 ^ 32 → body_length kind ≡ Some (length body) → control_in (message kind body) ≡ body_in kind body
unfolding control_in message
message_again kind body small short l =
    let kind_is : four_at 0 (message kind body) ≡ kind = little_number-reads_back 4 kind (drop 4 (message kind body)) small in
    let len_is : four_at 4 (message kind body) ≡ length body = little_number-reads_back 4 (length body) body short in
    let enough : ltb (length (message kind body)) 8 ≡ false = le-ltb (length (message kind body)) 8 (omega arith) in
    let same : eqb (length body) (length body) ≡ true = eq-eqb (length body) (length body) refl in
    rw (enough, kind_is, len_is, l, same) refl

answer_again : (target status remote size count : ℕ) → target < 2 ^ 32 → status < 2 ^ 32 → remote < 2 ^ 32 → size < 2 ^ 32 → count < 2 ^ 32
    → body_in 4 (answer_body target status remote size count) ≡ Ok (ConnRsp target status remote size count)
unfolding body_in answer_body
answer_again target status remote size count a b c d e =
    let body = answer_body target status remote size count in
    let target_is : four_at 0 body ≡ target = little_number-reads_back 4 target (drop 4 body) a in
    let status_is : four_at 4 body ≡ status = little_number-reads_back 4 status (drop 8 body) b in
    let remote_is : four_at 8 body ≡ remote = little_number-reads_back 4 remote (drop 12 body) c in
    let size_is : four_at 12 body ≡ size = little_number-reads_back 4 size (drop 16 body) d in
    let count_is : four_at 16 body ≡ count = little_number-reads_back 4 count [] e in
    rw (target_is, status_is, remote_is, size_is, count_is) refl

answer_long : (target status remote size count : ℕ) → length (answer_body target status remote size count) ≡ 20
unfolding answer_body
answer_long target status remote size count = refl

leave_again : (target : ℕ) → target < 2 ^ 32 → body_in 5 (leave_body target) ≡ Ok (DiscReq target)
unfolding body_in leave_body
leave_again target a =
    let target_is : four_at 0 (leave_body target) ≡ target = little_number-reads_back 4 target [] a in
    rw target_is refl

leave_long : (target : ℕ) → length (leave_body target) ≡ 4
unfolding leave_body
leave_long target = refl

request_again : (path : List ℕ) → is_path path ≡ true → body_in 3 (name_field path) ≡ Ok (ConnReq path)
unfolding body_in
request_again path e = rw (name_again path e) refl

pub control_again : (payload : List ℕ) (c : Control) → IsControl payload c → control_in payload ≡ Ok c
unfolding body_in
control_again payload GoOnline h = ap control_in h ∙ message_again 1 [] (lit< tt) (lit< tt) refl
control_again payload GoOffline h = ap control_in h ∙ message_again 2 [] (lit< tt) (lit< tt) refl
control_again payload (ConnReq path) h =
    let long = field_long path h.1 in
    ap control_in h.0 ∙ message_again 3 (name_field path) (lit< tt) (omega arith) (ap (λ (n : ℕ). Some n) (sym long)) ∙ request_again path h.1
control_again payload (ConnRsp target status remote size count) h =
    let long = answer_long target status remote size count in
    ap control_in h.0 ∙ message_again 4 (answer_body target status remote size count) (lit< tt) (omega arith) (ap (λ (n : ℕ). Some n) (sym long)) ∙ answer_again target status remote size count h.1 h.2 h.3 h.4 h.5
control_again payload (DiscReq target) h =
    let long = leave_long target in
    ap control_in h.0 ∙ message_again 5 (leave_body target) (lit< tt) (omega arith) (ap (λ (n : ℕ). Some n) (sym long)) ∙ leave_again target h.1

message_long : (kind : ℕ) (body : List ℕ) → length (message kind body) ≡ 8 + length body
unfolding message
message_long kind body = omega arith

-- no control message is longer than a request
pub control_short : (payload : List ℕ) (c : Control) → IsControl payload c → length payload ≤ 264
control_short payload GoOnline h = omega (arith, ap length h, message_long 1 [])
control_short payload GoOffline h = omega (arith, ap length h, message_long 2 [])
control_short payload (ConnReq path) h = omega (arith, ap length h.0, message_long 3 (name_field path), field_long path h.1)
control_short payload (ConnRsp target status remote size count) h =
    omega (arith, ap length h.0, message_long 4 (answer_body target status remote size count), answer_long target status remote size count)
control_short payload (DiscReq target) h = omega (arith, ap length h.0, message_long 5 (leave_body target), leave_long target)

pub written_short : (r : Result (List ℕ) NoMemory) (c : Control) → IfOk r (λ bytes. IsControl bytes c) → IfOk r (λ bytes. length bytes ≤ 264)
written_short (Ok bytes) c h = control_short bytes c h
written_short (Err refused) c h = tt

pub control_found : (payload : List ℕ) (r : Result Control FrameFault) → IsBytes payload → r ≡ control_in payload → IfOk r (λ c. IsControl payload c)
control_found payload (Ok c) fits e = control_takes payload c fits (sym e)
control_found payload (Err fault) fits e = tt

-- ---- where a name is broken

asked_breaks : (body : List ℕ) (place : ℕ) (r : Result (List ℕ) FrameFault) → length body ≡ 256 → name_in body ≡ r → request r ≡ Err (Name place) → BreaksAt body place
asked_breaks body place (Ok path) long n e = absurd cc
asked_breaks body place (Err fault) long n e =
    let same : fault ≡ Name place = cc in
    name_breaks body place long (n ∙ ap (λ (f : FrameFault). Err f) same)

-- a case that is no request has no such fault
not_here : (b : Bool) (c : Control) (r : Result Control FrameFault) (place : ℕ) → cond b (Ok c) r ≡ Err (Name place) → (b ≡ false) × (r ≡ Err (Name place))
not_here true c r place e = absurd cc
not_here false c r place e = (refl, e)

chosen : (b : Bool) (x y z : Result Control FrameFault) → cond b x y ≡ z → ((b ≡ true) × (x ≡ z)) ⊎ (y ≡ z)
chosen true x y z e = inl (refl, e)
chosen false x y z e = inr e

body_breaks : (kind : ℕ) (body : List ℕ) (place : ℕ) → body_length kind ≡ Some (length body) → body_in kind body ≡ Err (Name place) → BreaksAt body place
unfolding body_in
body_breaks kind body place l e =
    let answer : Control = ConnRsp (four_at 0 body) (four_at 4 body) (four_at 8 body) (four_at 12 body) (four_at 16 body) in
    let fourth : Result Control FrameFault = cond (eqb kind 4) (Ok answer) (Ok (DiscReq (four_at 0 body))) in
    let third : Result Control FrameFault = cond (eqb kind 3) (request (name_in body)) fourth in
    let first = not_here (eqb kind 1) GoOnline (cond (eqb kind 2) (Ok GoOffline) third) place e in
    let second = not_here (eqb kind 2) GoOffline third place first.1 in
    elim (chosen (eqb kind 3) (request (name_in body)) fourth (Err (Name place)) second.1) [
      | inl h ↦ let three : kind ≡ 3 = eqb-true kind 3 h.0 in
          asked_breaks body place (name_in body) (sym (same_length 256 (length body) (ap body_length (sym three) ∙ l))) refl h.1
      | inr h ↦ let other = not_here (eqb kind 4) answer (Ok (DiscReq (four_at 0 body))) place h in absurd cc
    ]

sized_breaks : (kind body_len : ℕ) (body : List ℕ) (place : ℕ) (o : Option ℕ) → body_length kind ≡ o → sized kind body_len body o ≡ Err (Name place) → BreaksAt body place
sized_breaks kind body_len body place None o e = absurd cc
sized_breaks kind body_len body place (Some wanted) o e = by (eqb body_len (length body) && eqb body_len wanted) refl e
  where
    by : (b : Bool) → (eqb body_len (length body) && eqb body_len wanted) ≡ b → cond b (body_in kind body) (Err BodyLength) ≡ Err (Name place) → BreaksAt body place
    by true t e =
        let parts = and_parts (eqb body_len (length body)) (eqb body_len wanted) t in
        let fit : wanted ≡ length body = sym (eqb-true body_len wanted parts.1) ∙ eqb-true body_len (length body) parts.0 in
        body_breaks kind body place (o ∙ ap (λ (n : ℕ). Some n) fit) e
    by false t e = absurd cc

pub control_breaks : (payload : List ℕ) (place : ℕ) → control_in payload ≡ Err (Name place) → BreaksAt (drop 8 payload) place
unfolding control_in
control_breaks payload place e = by (ltb (length payload) 8) e
  where
    by : (b : Bool) → cond b (Err Short) (sized (four_at 0 payload) (four_at 4 payload) (drop 8 payload) (body_length (four_at 0 payload))) ≡ Err (Name place) → BreaksAt (drop 8 payload) place
    by true e = absurd cc
    by false e = sized_breaks (four_at 0 payload) (four_at 4 payload) (drop 8 payload) place (body_length (four_at 0 payload)) refl e
