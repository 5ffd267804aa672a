-- A line fixes its call: the words of a call are read back.
use Rattle.std.proofs.Common.{◌≡◌, ◌<◌, ℕ, zero, suc, ◌^◌, Bool, true, false, cond, List, [], ◌∷◌, ◌++◌, length, drop, get_or, map, refl, sym, ap, ◌∙◌, subst, arith, append_assoc}
use Rattle.std.specs.Prelude.{codes, decimal, nat_lt, ◌==◌, ◌&&◌, bytes_eq, if◌then◌else◌}
use Rattle.std.specs.List.{AllByRecursion, list_all, list_any}
use Rattle.std.proofs.lemmas.Bool.Decides.{nat_tests}
use Rattle.std.proofs.lemmas.Slice.Eq.{bytes_eq-Decides}
use Rattle.kernel_values.specs.Calls.{can_be_spelled}
use Rattle.kernel_values.specs.Words.{is_word, is_printable}
use Rattle.kernel_values.specs.declared.call.Call.{Call}
use Rattle.kernel_values.specs.declared.call.Call.TheVariants as call
use Rattle.kernel_values.specs.declared.call.Timeout.{Timeout}
use Rattle.kernel_values.specs.declared.call.Timeout.TheVariants.{Forever, Millis}
use Rattle.report_text.specs.Calls.{call_words, port_flags_word, connect_flags_word, memory_flags_word, timeout_word}
use Rattle.report_text.specs.Lines.{line_end, spelled, handle_words}
use Rattle.report_text.specs.Plain.{IsWord}
use Rattle.report_text.specs.Within.{IsCallWithin, numbers_of_timeout, numbers_of, bytes_of}
use Rattle.report_text.proofs.Fixing.{word_first, words_off, words_up_to}
use Rattle.report_text.proofs.WordsRead.{is_inner, is_plain, first_of, second_of, word_by, words_by, IsDigit, plain_decimal, no_decimal, number_in, number_again, number_same, number_back, bytes_in, bytes_again, bytes_back, plain_hex}

-- a call that a line can spell, with numbers of its types
pub record IsTold (asked : Call) : Type 0 where
  pub spelled_is : can_be_spelled asked ≡ true
  pub numbers : AllByRecursion (λ number. number < 2 ^ 64) (numbers_of asked)
  pub bytes : AllByRecursion (λ byte. byte < 2 ^ 8) (bytes_of asked)

pub told_by : (asked : Call) → can_be_spelled asked ≡ true → IsCallWithin asked → IsTold asked
told_by asked can within = record { spelled_is = can; numbers = within.numbers; bytes = within.bytes }

-- The words of each kind.

also : {a b : Bool} → a ≡ true → b ≡ true → (a && b) ≡ true
also {a} {b} p q = rw (p, q) refl

plain_if : (b : Bool) (one other : List ℕ) → is_plain one ≡ true → is_plain other ≡ true → is_plain (cond b one other) ≡ true
plain_if true one other p q = p
plain_if false one other p q = q

plain_port_flags : (n : ℕ) → is_plain (port_flags_word n) ≡ true
unfolding is_plain
plain_port_flags n = plain_if (n == 0) _ _ refl (plain_if (n == 1) _ _ refl (plain_if (n == 2) _ _ refl refl))

plain_connect_flags : (n : ℕ) → is_plain (connect_flags_word n) ≡ true
unfolding is_plain
plain_connect_flags n = plain_if (n == 0) _ _ refl (plain_if (n == 1) _ _ refl (plain_if (n == 2) _ _ refl refl))

plain_memory_flags : (n : ℕ) → is_plain (memory_flags_word n) ≡ true
unfolding is_plain
plain_memory_flags n = plain_if (n == 0) _ _ refl refl

plain_timeout : (timeout : Timeout) → is_plain (timeout_word timeout) ≡ true
unfolding is_plain
plain_timeout Forever = refl
plain_timeout (Millis time) = plain_decimal time

printable_inner : (byte : ℕ) → is_printable byte ≡ true → is_inner byte ≡ true
printable_inner byte h = grind (arith, nat_tests)

printable_plain : (bytes : List ℕ) → list_all is_printable bytes ≡ true → list_all is_inner bytes ≡ true
printable_plain [] h = refl
printable_plain (byte ∷ bytes) h =
    also (printable_inner byte (first_of (is_printable byte) (list_all is_printable bytes) h)) (printable_plain bytes (second_of (is_printable byte) (list_all is_printable bytes) h))

plain_path : (path : List ℕ) → is_word path ≡ true → is_plain path ≡ true
unfolding is_plain
plain_path [] h = refl
plain_path (byte ∷ bytes) h = printable_plain (byte ∷ bytes) h

-- The words of a call up to the parts of a send, of which there are as many as its first word tells.

fixed_words : Call → List (List ℕ)
fixed_words (call.Send chan bytes parts) = call_words (call.Send chan bytes [])
fixed_words asked = call_words asked

parts_of : Call → List ℕ
parts_of (call.Send chan bytes parts) = parts
parts_of asked = []

part_words : Call → List (List ℕ)
part_words asked = handle_words (codes "with") (parts_of asked)

in_parts : (asked : Call) → call_words asked ≡ fixed_words asked ++ part_words asked
unfolding fixed_words parts_of part_words call_words
in_parts (call.Send chan bytes parts) = refl
in_parts _ = refl

pub tag_of : Call → List ℕ
tag_of asked = get_or (fixed_words asked) 0 []

tagged : (asked : Call) → fixed_words asked ≡ tag_of asked ∷ drop 1 (fixed_words asked)
unfolding fixed_words tag_of call_words
tagged (call.Send chan bytes parts) = refl
tagged _ = refl

width_in : List ℕ → ℕ
width_in tag =
    (if list_any (bytes_eq tag) (codes "set" ∷ codes "finish" ∷ []) then 1 else
    (if list_any (bytes_eq tag) (codes "accept" ∷ codes "get" ∷ codes "close" ∷ codes "dup" ∷ codes "waitany" ∷ codes "exit" ∷ codes "nconnect" ∷ codes "nclose" ∷ []) then 2 else
    (if list_any (bytes_eq tag) (codes "mread" ∷ codes "mwrite" ∷ []) then 4 else
    (if list_any (bytes_eq tag) (codes "port" ∷ codes "add" ∷ codes "mod" ∷ []) then 5 else
    (if bytes_eq tag (codes "read") then 6 else 3)))))

width_is : (asked : Call) → width_in (tag_of asked) ≡ length (fixed_words asked)
unfolding width_in fixed_words tag_of call_words
width_is (call.Send chan bytes parts) = refl
width_is _ = refl

plain_words : (asked : Call) → can_be_spelled asked ≡ true → list_all is_plain (fixed_words asked) ≡ true
unfolding fixed_words call_words is_plain
plain_words (call.PortCreate path bufs size flags) can =
    also refl (also (plain_path path (first_of (is_word path) (nat_lt flags.0 4) can)) (also (plain_decimal bufs) (also (plain_decimal size) (also (plain_port_flags flags.0) refl))))
plain_words (call.Connect path flags) can = also refl (also (plain_path path (first_of (is_word path) (nat_lt flags.0 4) can)) (also (plain_connect_flags flags.0) refl))
plain_words (call.Accept port) can = also refl (also (plain_decimal port) refl)
plain_words (call.Send chan bytes parts) can = also refl (also (plain_decimal chan) (also (plain_hex bytes) refl))
plain_words (call.Get chan) can = also refl (also (plain_decimal chan) refl)
plain_words (call.Read chan id offset room parts) can =
    also refl (also (plain_decimal chan) (also (plain_decimal id) (also (plain_decimal offset) (also (plain_decimal room) (also (plain_decimal parts) refl)))))
plain_words (call.Put chan id) can = also refl (also (plain_decimal chan) (also (plain_decimal id) refl))
plain_words (call.SetCookie handle cookie) can = also refl (also (plain_decimal handle) (also (plain_decimal cookie) refl))
plain_words (call.Close handle) can = also refl (also (plain_decimal handle) refl)
plain_words (call.Dup handle) can = also refl (also (plain_decimal handle) refl)
plain_words call.SetCreate can = refl
plain_words (call.SetAdd set handle mask cookie) can =
    also refl (also (plain_decimal set) (also (plain_decimal handle) (also (plain_decimal mask.0) (also (plain_decimal cookie) refl))))
plain_words (call.SetDel set label) can = also refl (also (plain_decimal set) (also (plain_decimal label) refl))
plain_words (call.SetMod set label mask cookie) can =
    also refl (also (plain_decimal set) (also (plain_decimal label) (also (plain_decimal mask.0) (also (plain_decimal cookie) refl))))
plain_words (call.MemCreate size flags) can = also refl (also (plain_decimal size) (also (plain_memory_flags flags.0) refl))
plain_words (call.MemRead handle offset len) can = also refl (also (plain_decimal handle) (also (plain_decimal offset) (also (plain_decimal len) refl)))
plain_words (call.MemWrite handle offset bytes) can = also refl (also (plain_decimal handle) (also (plain_decimal offset) (also (plain_hex bytes) refl)))
plain_words (call.Wait handle timeout) can = also refl (also (plain_decimal handle) (also (plain_timeout timeout) refl))
plain_words (call.WaitAny timeout) can = also refl (also (plain_timeout timeout) refl)
plain_words (call.Exit code) can = also refl (also (plain_decimal code) refl)
plain_words call.Finish can = refl
plain_words (call.NsConnect path) can = also refl (also (plain_path path can) refl)
plain_words (call.NsSend conn bytes) can = also refl (also (plain_decimal conn) (also (plain_hex bytes) refl))
plain_words (call.NsRecv conn timeout) can = also refl (also (plain_decimal conn) (also (plain_timeout timeout) refl))
plain_words (call.NsClose conn) can = also refl (also (plain_decimal conn) refl)
plain_words (call.NsPoke addr bytes) can = also refl (also (plain_decimal addr) (also (plain_hex bytes) refl))
plain_words (call.NsKick queue head) can = also refl (also (plain_decimal queue) (also (plain_decimal head) refl))

-- What the words of each kind are read as.

port_flags_in : List ℕ → ℕ
port_flags_in word = (if bytes_eq word (codes "none") then 0 else (if bytes_eq word (codes "ta") then 1 else (if bytes_eq word (codes "ns") then 2 else 3)))

connect_flags_in : List ℕ → ℕ
connect_flags_in word = (if bytes_eq word (codes "sync") then 0 else (if bytes_eq word (codes "sync+wait") then 1 else (if bytes_eq word (codes "async") then 2 else 3)))

memory_flags_in : List ℕ → ℕ
memory_flags_in word = (if bytes_eq word (codes "r") then 0 else 1)

port_flags_again : (n : ℕ) → nat_lt n 4 ≡ true → port_flags_in (port_flags_word n) ≡ n
unfolding port_flags_in
port_flags_again zero h = refl
port_flags_again (suc zero) h = refl
port_flags_again (suc (suc zero)) h = refl
port_flags_again (suc (suc (suc zero))) h = refl
port_flags_again (suc (suc (suc (suc n)))) h = absurd (grind (arith, nat_tests))

connect_flags_again : (n : ℕ) → nat_lt n 4 ≡ true → connect_flags_in (connect_flags_word n) ≡ n
unfolding connect_flags_in
connect_flags_again zero h = refl
connect_flags_again (suc zero) h = refl
connect_flags_again (suc (suc zero)) h = refl
connect_flags_again (suc (suc (suc zero))) h = refl
connect_flags_again (suc (suc (suc (suc n)))) h = absurd (grind (arith, nat_tests))

memory_flags_again : (n : ℕ) → nat_lt n 2 ≡ true → memory_flags_in (memory_flags_word n) ≡ n
unfolding memory_flags_in
memory_flags_again zero h = refl
memory_flags_again (suc zero) h = refl
memory_flags_again (suc (suc n)) h = absurd (grind (arith, nat_tests))

timeout_in : List ℕ → Timeout
timeout_in word = (if bytes_eq word (codes "-1") then Forever else Millis (number_in word))

no_forever : (time : ℕ) (b : Bool) → bytes_eq (decimal time) (codes "-1") ≡ b → b ≡ false
no_forever time true is =
    let digit : IsDigit 45 = no_decimal time (codes "-1") ((bytes_eq-Decides (decimal time) (codes "-1")).0 is) in absurd (omega (arith, digit.0))
no_forever time false is = refl

timeout_again : (timeout : Timeout) → AllByRecursion (λ number. number < 2 ^ 64) (numbers_of_timeout timeout) → timeout_in (timeout_word timeout) ≡ timeout
unfolding timeout_in
timeout_again Forever within = refl
timeout_again (Millis time) within =
    ap (λ (b : Bool). cond b Forever (Millis (number_in (decimal time)))) (no_forever time (bytes_eq (decimal time) (codes "-1")) refl) ∙ ap Millis (number_again time within.0)

timeout_back : (timeout : Timeout) → AllByRecursion (λ number. number < 2 ^ 64) (numbers_of_timeout (timeout_in (timeout_word timeout)))
    → timeout_word (timeout_in (timeout_word timeout)) ≡ timeout_word timeout → timeout_in (timeout_word timeout) ≡ timeout
unfolding timeout_in
timeout_back Forever within same = refl
timeout_back (Millis time) within same =
    let read : timeout_in (decimal time) ≡ Millis (number_in (decimal time)) =
    ap (λ (b : Bool). cond b Forever (Millis (number_in (decimal time)))) (no_forever time (bytes_eq (decimal time) (codes "-1")) refl) in
    read ∙ ap Millis (number_back time (subst (λ t. AllByRecursion (λ number. number < 2 ^ 64) (numbers_of_timeout t)) read within).0 (subst (λ t. timeout_word t ≡ decimal time) read same))

decimals_same : (ms ns : List ℕ) → AllByRecursion (λ number. number < 2 ^ 64) ms → map decimal ms ≡ map decimal ns → ms ≡ ns
decimals_same [] [] within same = refl
decimals_same [] (n ∷ ns) within same = absurd (cc)
decimals_same (m ∷ ms) [] within same = absurd (cc)
decimals_same (m ∷ ms) (n ∷ ns) within same =
    λ i. number_same m n within.0 (ap (λ l. get_or {A = List ℕ} l 0 []) same) i ∷ decimals_same ms ns within.1 (ap (drop 1) same) i

handles_same : (ms ns : List ℕ) → AllByRecursion (λ number. number < 2 ^ 64) ms → handle_words (codes "with") ms ≡ handle_words (codes "with") ns → ms ≡ ns
handles_same [] [] within same = refl
handles_same [] (n ∷ ns) within same = absurd (cc)
handles_same (m ∷ ms) [] within same = absurd (cc)
handles_same (m ∷ ms) (n ∷ ns) within same = decimals_same (m ∷ ms) (n ∷ ns) within (ap (drop 1) same)

parts_within : (asked : Call) → IsTold asked → AllByRecursion (λ number. number < 2 ^ 64) (parts_of asked)
unfolding parts_of
parts_within (call.Send chan bytes parts) t = t.numbers.1
parts_within _ t = tt

word_at : ℕ → List (List ℕ) → List ℕ
word_at place words = get_or words place []

number_at : ℕ → List (List ℕ) → ℕ
number_at place words = number_in (word_at place words)

system_call_in : List (List ℕ) → List ℕ → Call → Call
system_call_in words parts other =
    let is : List ℕ → Bool = bytes_eq (word_at 0 words) in
    (if is (codes "port") then call.PortCreate (word_at 1 words) (number_at 2 words) (number_at 3 words) (record { 0 = port_flags_in (word_at 4 words) }) else
    (if is (codes "connect") then call.Connect (word_at 1 words) (record { 0 = connect_flags_in (word_at 2 words) }) else
    (if is (codes "accept") then call.Accept (number_at 1 words) else
    (if is (codes "send") then call.Send (number_at 1 words) (bytes_in (word_at 2 words)) parts else
    (if is (codes "get") then call.Get (number_at 1 words) else
    (if is (codes "read") then call.Read (number_at 1 words) (number_at 2 words) (number_at 3 words) (number_at 4 words) (number_at 5 words) else
    (if is (codes "put") then call.Put (number_at 1 words) (number_at 2 words) else
    (if is (codes "cookie") then call.SetCookie (number_at 1 words) (number_at 2 words) else
    (if is (codes "close") then call.Close (number_at 1 words) else
    (if is (codes "dup") then call.Dup (number_at 1 words) else
    (if is (codes "set") then call.SetCreate else
    (if is (codes "add") then call.SetAdd (number_at 1 words) (number_at 2 words) (record { 0 = number_at 3 words }) (number_at 4 words) else
    (if is (codes "del") then call.SetDel (number_at 1 words) (number_at 2 words) else
    (if is (codes "mod") then call.SetMod (number_at 1 words) (number_at 2 words) (record { 0 = number_at 3 words }) (number_at 4 words) else
    (if is (codes "memref") then call.MemCreate (number_at 1 words) (record { 0 = memory_flags_in (word_at 2 words) }) else
    (if is (codes "mread") then call.MemRead (number_at 1 words) (number_at 2 words) (number_at 3 words) else
    (if is (codes "mwrite") then call.MemWrite (number_at 1 words) (number_at 2 words) (bytes_in (word_at 3 words)) else
    (if is (codes "wait") then call.Wait (number_at 1 words) (timeout_in (word_at 2 words)) else
    (if is (codes "waitany") then call.WaitAny (timeout_in (word_at 1 words)) else
    (if is (codes "exit") then call.Exit (number_at 1 words) else other))))))))))))))))))))

client_call_in : List (List ℕ) → Call
client_call_in words =
    let is : List ℕ → Bool = bytes_eq (word_at 0 words) in
    (if is (codes "nconnect") then call.NsConnect (word_at 1 words) else
    (if is (codes "nsend") then call.NsSend (number_at 1 words) (bytes_in (word_at 2 words)) else
    (if is (codes "nrecv") then call.NsRecv (number_at 1 words) (timeout_in (word_at 2 words)) else
    (if is (codes "nclose") then call.NsClose (number_at 1 words) else
    (if is (codes "npoke") then call.NsPoke (number_at 1 words) (bytes_in (word_at 2 words)) else
    (if is (codes "nkick") then call.NsKick (number_at 1 words) (number_at 2 words) else call.Finish))))))

call_in : List (List ℕ) → List ℕ → Call
call_in words parts = system_call_in words parts (client_call_in words)

read_again : (asked : Call) → IsTold asked → call_in (fixed_words asked) (parts_of asked) ≡ asked
unfolding call_in system_call_in client_call_in number_at word_at fixed_words parts_of call_words
read_again (call.PortCreate path bufs size flags) t =
    λ i. call.PortCreate path (number_again bufs t.numbers.0 i) (number_again size t.numbers.1.0 i) (record { 0 = port_flags_again flags.0 (second_of (is_word path) (nat_lt flags.0 4) t.spelled_is) i })
read_again (call.Connect path flags) t = λ i. call.Connect path (record { 0 = connect_flags_again flags.0 (second_of (is_word path) (nat_lt flags.0 4) t.spelled_is) i })
read_again (call.Accept port) t = λ i. call.Accept (number_again port t.numbers.0 i)
read_again (call.Send chan bytes parts) t = λ i. call.Send (number_again chan t.numbers.0 i) (bytes_again bytes t.bytes i) parts
read_again (call.Get chan) t = λ i. call.Get (number_again chan t.numbers.0 i)
read_again (call.Read chan id offset room parts) t =
    λ i. call.Read (number_again chan t.numbers.0 i) (number_again id t.numbers.1.0 i) (number_again offset t.numbers.1.1.0 i) (number_again room t.numbers.1.1.1.0 i) (number_again parts t.numbers.1.1.1.1.0 i)
read_again (call.Put chan id) t = λ i. call.Put (number_again chan t.numbers.0 i) (number_again id t.numbers.1.0 i)
read_again (call.SetCookie handle cookie) t = λ i. call.SetCookie (number_again handle t.numbers.0 i) (number_again cookie t.numbers.1.0 i)
read_again (call.Close handle) t = λ i. call.Close (number_again handle t.numbers.0 i)
read_again (call.Dup handle) t = λ i. call.Dup (number_again handle t.numbers.0 i)
read_again call.SetCreate t = refl
read_again (call.SetAdd set handle mask cookie) t =
    λ i. call.SetAdd (number_again set t.numbers.0 i) (number_again handle t.numbers.1.0 i) (record { 0 = number_again mask.0 t.numbers.1.1.0 i }) (number_again cookie t.numbers.1.1.1.0 i)
read_again (call.SetDel set label) t = λ i. call.SetDel (number_again set t.numbers.0 i) (number_again label t.numbers.1.0 i)
read_again (call.SetMod set label mask cookie) t =
    λ i. call.SetMod (number_again set t.numbers.0 i) (number_again label t.numbers.1.0 i) (record { 0 = number_again mask.0 t.numbers.1.1.0 i }) (number_again cookie t.numbers.1.1.1.0 i)
read_again (call.MemCreate size flags) t = λ i. call.MemCreate (number_again size t.numbers.0 i) (record { 0 = memory_flags_again flags.0 t.spelled_is i })
read_again (call.MemRead handle offset len) t = λ i. call.MemRead (number_again handle t.numbers.0 i) (number_again offset t.numbers.1.0 i) (number_again len t.numbers.1.1.0 i)
read_again (call.MemWrite handle offset bytes) t = λ i. call.MemWrite (number_again handle t.numbers.0 i) (number_again offset t.numbers.1.0 i) (bytes_again bytes t.bytes i)
read_again (call.Wait handle timeout) t = λ i. call.Wait (number_again handle t.numbers.0 i) (timeout_again timeout t.numbers.1 i)
read_again (call.WaitAny timeout) t = λ i. call.WaitAny (timeout_again timeout t.numbers i)
read_again (call.Exit code) t = λ i. call.Exit (number_again code t.numbers.0 i)
read_again call.Finish t = refl
read_again (call.NsConnect path) t = refl
read_again (call.NsSend conn bytes) t = λ i. call.NsSend (number_again conn t.numbers.0 i) (bytes_again bytes t.bytes i)
read_again (call.NsRecv conn timeout) t = λ i. call.NsRecv (number_again conn t.numbers.0 i) (timeout_again timeout t.numbers.1 i)
read_again (call.NsClose conn) t = λ i. call.NsClose (number_again conn t.numbers.0 i)
read_again (call.NsPoke addr bytes) t = λ i. call.NsPoke (number_again addr t.numbers.0 i) (bytes_again bytes t.bytes i)
read_again (call.NsKick queue head) t = λ i. call.NsKick (number_again queue t.numbers.0 i) (number_again head t.numbers.1.0 i)

at : (place : ℕ) {words others : List (List ℕ)} → words ≡ others → get_or words place [] ≡ get_or others place []
at place same = ap (λ words. get_or {A = List ℕ} words place []) same

-- The same of a call of which only that a line can spell it is known: where what is read has its words, and numbers of its types.
read_back : (asked : Call) → can_be_spelled asked ≡ true → IsTold (call_in (fixed_words asked) (parts_of asked)) → fixed_words (call_in (fixed_words asked) (parts_of asked)) ≡ fixed_words asked
    → call_in (fixed_words asked) (parts_of asked) ≡ asked
unfolding call_in system_call_in client_call_in number_at word_at fixed_words parts_of call_words
read_back (call.PortCreate path bufs size flags) can t same =
    λ i. call.PortCreate path (number_back bufs t.numbers.0 (at 2 same) i) (number_back size t.numbers.1.0 (at 3 same) i) (record { 0 = port_flags_again flags.0 (second_of (is_word path) (nat_lt flags.0 4) can) i })
read_back (call.Connect path flags) can t same = λ i. call.Connect path (record { 0 = connect_flags_again flags.0 (second_of (is_word path) (nat_lt flags.0 4) can) i })
read_back (call.Accept port) can t same = λ i. call.Accept (number_back port t.numbers.0 (at 1 same) i)
read_back (call.Send chan bytes parts) can t same = λ i. call.Send (number_back chan t.numbers.0 (at 1 same) i) (bytes_back bytes t.bytes (at 2 same) i) parts
read_back (call.Get chan) can t same = λ i. call.Get (number_back chan t.numbers.0 (at 1 same) i)
read_back (call.Read chan id offset room parts) can t same =
    λ i. call.Read (number_back chan t.numbers.0 (at 1 same) i) (number_back id t.numbers.1.0 (at 2 same) i) (number_back offset t.numbers.1.1.0 (at 3 same) i) (number_back room t.numbers.1.1.1.0 (at 4 same) i) (number_back parts t.numbers.1.1.1.1.0 (at 5 same) i)
read_back (call.Put chan id) can t same = λ i. call.Put (number_back chan t.numbers.0 (at 1 same) i) (number_back id t.numbers.1.0 (at 2 same) i)
read_back (call.SetCookie handle cookie) can t same = λ i. call.SetCookie (number_back handle t.numbers.0 (at 1 same) i) (number_back cookie t.numbers.1.0 (at 2 same) i)
read_back (call.Close handle) can t same = λ i. call.Close (number_back handle t.numbers.0 (at 1 same) i)
read_back (call.Dup handle) can t same = λ i. call.Dup (number_back handle t.numbers.0 (at 1 same) i)
read_back call.SetCreate can t same = refl
read_back (call.SetAdd set handle mask cookie) can t same =
    λ i. call.SetAdd (number_back set t.numbers.0 (at 1 same) i) (number_back handle t.numbers.1.0 (at 2 same) i) (record { 0 = number_back mask.0 t.numbers.1.1.0 (at 3 same) i }) (number_back cookie t.numbers.1.1.1.0 (at 4 same) i)
read_back (call.SetDel set label) can t same = λ i. call.SetDel (number_back set t.numbers.0 (at 1 same) i) (number_back label t.numbers.1.0 (at 2 same) i)
read_back (call.SetMod set label mask cookie) can t same =
    λ i. call.SetMod (number_back set t.numbers.0 (at 1 same) i) (number_back label t.numbers.1.0 (at 2 same) i) (record { 0 = number_back mask.0 t.numbers.1.1.0 (at 3 same) i }) (number_back cookie t.numbers.1.1.1.0 (at 4 same) i)
read_back (call.MemCreate size flags) can t same = λ i. call.MemCreate (number_back size t.numbers.0 (at 1 same) i) (record { 0 = memory_flags_again flags.0 can i })
read_back (call.MemRead handle offset len) can t same =
    λ i. call.MemRead (number_back handle t.numbers.0 (at 1 same) i) (number_back offset t.numbers.1.0 (at 2 same) i) (number_back len t.numbers.1.1.0 (at 3 same) i)
read_back (call.MemWrite handle offset bytes) can t same =
    λ i. call.MemWrite (number_back handle t.numbers.0 (at 1 same) i) (number_back offset t.numbers.1.0 (at 2 same) i) (bytes_back bytes t.bytes (at 3 same) i)
read_back (call.Wait handle timeout) can t same = λ i. call.Wait (number_back handle t.numbers.0 (at 1 same) i) (timeout_back timeout t.numbers.1 (at 2 same) i)
read_back (call.WaitAny timeout) can t same = λ i. call.WaitAny (timeout_back timeout t.numbers (at 1 same) i)
read_back (call.Exit code) can t same = λ i. call.Exit (number_back code t.numbers.0 (at 1 same) i)
read_back call.Finish can t same = refl
read_back (call.NsConnect path) can t same = refl
read_back (call.NsSend conn bytes) can t same = λ i. call.NsSend (number_back conn t.numbers.0 (at 1 same) i) (bytes_back bytes t.bytes (at 2 same) i)
read_back (call.NsRecv conn timeout) can t same = λ i. call.NsRecv (number_back conn t.numbers.0 (at 1 same) i) (timeout_back timeout t.numbers.1 (at 2 same) i)
read_back (call.NsClose conn) can t same = λ i. call.NsClose (number_back conn t.numbers.0 (at 1 same) i)
read_back (call.NsPoke addr bytes) can t same = λ i. call.NsPoke (number_back addr t.numbers.0 (at 1 same) i) (bytes_back bytes t.bytes (at 2 same) i)
read_back (call.NsKick queue head) can t same = λ i. call.NsKick (number_back queue t.numbers.0 (at 1 same) i) (number_back head t.numbers.1.0 (at 2 same) i)

-- A line fixes its call.

arrow : List ℕ
arrow = codes "->"

no_arrows : (numbers : List ℕ) → AllByRecursion (λ word. word ≡ arrow → ⊥) (map decimal numbers)
unfolding arrow
no_arrows [] = tt
no_arrows (number ∷ numbers) = (λ same. (let digit : IsDigit 45 = no_decimal number (codes "->") same in omega (arith, digit.0)), no_arrows numbers)

plain_numbers : (numbers : List ℕ) → AllByRecursion IsWord (map decimal numbers)
plain_numbers [] = tt
plain_numbers (number ∷ numbers) = (word_by (decimal number) (plain_decimal number), plain_numbers numbers)

with_no_arrow : codes "with" ≡ arrow → ⊥
unfolding arrow
with_no_arrow same = absurd (cc)

parts_no_arrow : (handles : List ℕ) → AllByRecursion (λ word. word ≡ arrow → ⊥) (handle_words (codes "with") handles)
parts_no_arrow [] = tt
parts_no_arrow (handle ∷ handles) = (with_no_arrow, no_arrows (handle ∷ handles))

parts_plain : (handles : List ℕ) → AllByRecursion IsWord (handle_words (codes "with") handles)
unfolding is_plain
parts_plain [] = tt
parts_plain (handle ∷ handles) = (word_by (codes "with") refl, plain_numbers (handle ∷ handles))

module _ (one two : Call) (p : IsTold one) (q : can_be_spelled two ≡ true) (more others : List (List ℕ)) (a b : List ℕ)
    (same : spelled (call_words one ++ codes "->" ∷ more) ++ line_end ∷ a ≡ spelled (call_words two ++ codes "->" ∷ others) ++ line_end ∷ b) where
  apart : (asked : Call) (rest : List (List ℕ)) → call_words asked ++ codes "->" ∷ rest ≡ fixed_words asked ++ (part_words asked ++ codes "->" ∷ rest)
  apart asked rest = ap (λ words. words ++ codes "->" ∷ rest) (in_parts asked) ∙ append_assoc (fixed_words asked) (part_words asked) (codes "->" ∷ rest)

  in_two : spelled (fixed_words one ++ (part_words one ++ codes "->" ∷ more)) ++ line_end ∷ a ≡ spelled (fixed_words two ++ (part_words two ++ codes "->" ∷ others)) ++ line_end ∷ b
  in_two = ap (λ words. spelled words ++ line_end ∷ a) (sym (apart one more)) ∙ same ∙ ap (λ words. spelled words ++ line_end ∷ b) (apart two others)

  words_one : AllByRecursion IsWord (fixed_words one)
  words_one = words_by (fixed_words one) (plain_words one p.spelled_is)

  words_two : AllByRecursion IsWord (fixed_words two)
  words_two = words_by (fixed_words two) (plain_words two q)

  tag_word : (asked : Call) → AllByRecursion IsWord (fixed_words asked) → IsWord (tag_of asked)
  tag_word asked words = (subst (λ (ws : List (List ℕ)). AllByRecursion IsWord ws) (tagged asked) words).0

  tag_same : tag_of one ≡ tag_of two
  tag_same = (word_first (tag_of one) (tag_of two) (drop 1 (fixed_words one) ++ (part_words one ++ codes "->" ∷ more)) (drop 1 (fixed_words two) ++ (part_words two ++ codes "->" ∷ others)) a b
      (tag_word one words_one) (tag_word two words_two)
      (ap (λ words. spelled (words ++ (part_words one ++ codes "->" ∷ more)) ++ line_end ∷ a) (sym (tagged one)) ∙ in_two
      ∙ ap (λ words. spelled (words ++ (part_words two ++ codes "->" ∷ others)) ++ line_end ∷ b) (tagged two))).0

  cut : (fixed_words one ≡ fixed_words two) × (spelled (part_words one ++ codes "->" ∷ more) ++ line_end ∷ a ≡ spelled (part_words two ++ codes "->" ∷ others) ++ line_end ∷ b)
  cut = words_off (fixed_words one) (fixed_words two) (part_words one ++ codes "->" ∷ more) (part_words two ++ codes "->" ∷ others) a b
      (sym (width_is one) ∙ ap width_in tag_same ∙ width_is two) words_one words_two in_two

  parts_same : part_words one ≡ part_words two
  unfolding part_words arrow is_plain
  parts_same = words_up_to (codes "->") (part_words one) (part_words two) more others a b (word_by (codes "->") refl) (parts_plain (parts_of one)) (parts_plain (parts_of two))
      (parts_no_arrow (parts_of one)) (parts_no_arrow (parts_of two)) cut.1

  -- what is read from the words of the second call is the first
  read_one : call_in (fixed_words two) (parts_of two) ≡ one
  unfolding parts_of part_words
  read_one = ap (λ words. call_in words (parts_of two)) (sym cut.0) ∙ ap (call_in (fixed_words one)) (sym (handles_same (parts_of one) (parts_of two) (parts_within one p) parts_same)) ∙ read_again one p

  pub call_same : one ≡ two
  call_same = sym read_one ∙ read_back two q (subst IsTold (sym read_one) p) (ap fixed_words read_one ∙ cut.0)

-- the first word of a call is not that of any other event
unfoldable pub no_call_word : List ℕ → ℕ
no_call_word word = (if bytes_eq word (codes "resume") then 1 else (if bytes_eq word (codes "->") then 2 else 0))

pub call_word : (asked : Call) → no_call_word (tag_of asked) ≡ 0
unfolding no_call_word fixed_words tag_of call_words
call_word (call.Send chan bytes parts) = refl
call_word _ = refl

pub tag_first : (asked : Call) → call_words asked ≡ tag_of asked ∷ drop 1 (call_words asked)
unfolding fixed_words tag_of call_words
tag_first (call.Send chan bytes parts) = refl
tag_first _ = refl

plain_tag : (asked : Call) → is_plain (tag_of asked) ≡ true
unfolding fixed_words tag_of call_words is_plain
plain_tag (call.Send chan bytes parts) = refl
plain_tag _ = refl

pub tag_plain : (asked : Call) → IsWord (tag_of asked)
tag_plain asked = word_by (tag_of asked) (plain_tag asked)
