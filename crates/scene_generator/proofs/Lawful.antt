-- The scene of a seed keeps every limit.
use Rattle.std.proofs.Common.{◌≡◌, ◌≤◌, ◌<◌, ◌+◌, ◌-◌, ◌*◌, ◌/◌, ◌%◌, ◌^◌, ◌==◌, ◌&&◌, ℕ, Bool, true, false, cond, zero, suc, List, [], ◌∷◌, length, map, refl, ap, ◌∙◌, subst, arith, tests}
use Rattle.std.specs.Prelude.{nat_lt, replicate, sum_by}
use Rattle.std.specs.List.{filter, list_all, range_with_len}
use Rattle.std.proofs.lemmas.List.Sums.{sum_by-cons}
use Rattle.std.proofs.lemmas.List.{length-append, length-replicate}
use Rattle.kernel_values.specs.Calls.{can_be_spelled, payload_of, is_thread_call}
use Rattle.kernel_values.specs.SceneLaw.{IsLawfulScene, commands_of, is_lawful_app, is_lawful_thread_command, payload_of_script, scripts_of}
use Rattle.kernel_values.specs.Words.{is_name}
use Rattle.kernel_values.specs.declared.call.Call.{Call}
use Rattle.kernel_values.specs.declared.call.Call.TheVariants as call
use Rattle.kernel_values.specs.declared.call.Timeout.TheVariants as timeout
use Rattle.scene_generator.specs.Generated.{app_of, call_by, command_at, connected, drawn, drawn_on, generated, is_of, name_of, number_after, script_of, seldom}
use Rattle.scene_generator.proofs.Longer.{one_more}

-- a remainder by four is one of four numbers
four : (P : ℕ → Type 0) → P 0 → P 1 → P 2 → P 3 → (n : ℕ) → n < 4 → P n
four P a b c d zero less = a
four P a b c d (suc zero) less = b
four P a b c d (suc (suc zero)) less = c
four P a b c d (suc (suc (suc zero))) less = d
four P a b c d (suc (suc (suc (suc n)))) less = absurd (omega (arith, less))

quarter : (n : ℕ) → n % 4 < 4
quarter n = omega arith

-- ---- each call may stand in a thread's script, and asks for few bytes

record May (made : Call) : Type 0 where
  stands : (is_thread_call made && can_be_spelled made) ≡ true
  small : payload_of made ≤ 64

may_if : (b : Bool) (one other : Call) → May one → May other → May (cond b one other)
may_if true one other may may_not = may
may_if false one other may may_not = may_not

publishes : (app : ℕ) → app < 4 → May (call.PortCreate (name_of app) 4 64 (record { 0 = 1 }))
publishes = four (λ app. May (call.PortCreate (name_of app) 4 64 (record { 0 = 1 })))
    (record { stands = refl; small = omega arith }) (record { stands = refl; small = omega arith }) (record { stands = refl; small = omega arith }) (record { stands = refl; small = omega arith })

connects : (app : ℕ) → app < 4 → May (connected app)
connects = four (λ app. May (connected app))
    (record { stands = refl; small = omega arith }) (record { stands = refl; small = omega arith }) (record { stands = refl; small = omega arith }) (record { stands = refl; small = omega arith })

sends : (handle v byte : ℕ) → May (call.Send handle (replicate (1 + (v / 128) % 64) byte) [])
sends handle v byte =
    let len : length (replicate (1 + (v / 128) % 64) byte) ≡ 1 + (v / 128) % 64 = length-replicate (1 + (v / 128) % 64) byte in
    record { stands = refl; small = omega (arith, len) }

seldom_may : (handle v : ℕ) → May (seldom handle v)
seldom_may handle v =
    may_if ((v / 8192) % 4 == 0) (connected ((v / 128) % 4)) _ (connects ((v / 128) % 4) (quarter (v / 128)))
    (may_if ((v / 8192) % 4 == 1) (call.Accept 0) _ (record { stands = refl; small = omega arith })
    (may_if ((v / 8192) % 4 == 2) (call.Close (handle + 1)) (call.Dup handle) (record { stands = refl; small = omega arith }) (record { stands = refl; small = omega arith })))

drawn_may : (at handle v : ℕ) → May (drawn_on at handle v)
drawn_may at handle v =
    may_if (nat_lt (v % 10) 3) (call.Send handle (replicate (1 + (v / 128) % 64) (at % 256)) []) _ (sends handle v (at % 256))
    (may_if (nat_lt (v % 10) 5) (call.Get handle) _ (record { stands = refl; small = omega arith })
    (may_if (nat_lt (v % 10) 6) (call.Read handle 1 0 64 0) _ (record { stands = refl; small = omega arith })
    (may_if (nat_lt (v % 10) 8) (call.Put handle 1) _ (record { stands = refl; small = omega arith })
    (may_if (nat_lt (v % 10) 9) (call.Wait handle (timeout.Millis 3)) _ (record { stands = refl; small = omega arith })
    (seldom_may handle v)))))

call_may : (at x : ℕ) → May (call_by at x)
unfolding call_by drawn
call_may at x =
    may_if (nat_lt at 4) (call.PortCreate (name_of (at % 4)) 4 64 (record { 0 = 1 })) _ (publishes (at % 4) (quarter at))
    (may_if (nat_lt at 8) (connected ((at + 1) % 4)) _ (connects ((at + 1) % 4) (quarter (at + 1)))
    (may_if (nat_lt at 12) (call.Accept 0) _ (record { stands = refl; small = omega arith })
    (drawn_may at (((x / 2 ^ 33) / 16) % 8) (x / 2 ^ 33))))

-- ---- the scripts

all_may : (seed : ℕ) (places : List ℕ) → list_all is_lawful_thread_command (map (command_at seed) places) ≡ true
all_may seed [] = refl
all_may seed (at ∷ places) =
    let first : is_lawful_thread_command (command_at seed at) ≡ true = (call_may at (number_after seed (at + 1 - 12))).stands in
    let rest : list_all is_lawful_thread_command (map (command_at seed) places) ≡ true = all_may seed places in
    grind (arith, first, rest, tests)

all_small : (seed : ℕ) (places : List ℕ) → payload_of_script (map (command_at seed) places) ≤ 64 * length (map (command_at seed) places)
all_small seed [] = omega arith
all_small seed (at ∷ places) =
    let first : payload_of (command_at seed at).call ≤ 64 = (call_may at (number_after seed (at + 1 - 12))).small in
    let rest : payload_of_script (map (command_at seed) places) ≤ 64 * length (map (command_at seed) places) = all_small seed places in
    let sum : payload_of_script (map (command_at seed) (at ∷ places)) ≡ payload_of (command_at seed at).call + payload_of_script (map (command_at seed) places) =
    sum_by-cons (λ command. payload_of command.call) (command_at seed at) (map (command_at seed) places) in
    omega (arith, first, rest, sum)

script_small : (seed count app : ℕ) → payload_of_script (script_of seed count app) ≤ 64 * length (script_of seed count app)
script_small seed count app = all_small seed (filter (is_of app) (range_with_len 0 count))

-- a command more in all makes one script one longer

added : (seed n : ℕ) (own : Bool) → length (map (command_at seed) (cond own (n ∷ []) [])) ≡ cond own 1 0
added seed n true = refl
added seed n false = refl

grew : (seed n app : ℕ) → length (script_of seed (n + 1) app) ≡ length (script_of seed n app) + cond (is_of app n) 1 0
grew seed n app =
    let more : length (script_of seed (n + 1) app) ≡ length (script_of seed n app) + length (map (command_at seed) (cond (is_of app n) (n ∷ []) [])) =
    ap length (one_more seed n app) ∙ length-append (script_of seed n app) (map (command_at seed) (cond (is_of app n) (n ∷ []) [])) in
    more ∙ ap (λ k. length (script_of seed n app) + k) (added seed n (is_of app n))

one_of_four : (n : ℕ) → cond (is_of 0 n) 1 0 + cond (is_of 1 n) 1 0 + cond (is_of 2 n) 1 0 + cond (is_of 3 n) 1 0 ≡ 1
unfolding is_of
one_of_four n = four (λ k. cond (k == 0) 1 0 + cond (k == 1) 1 0 + cond (k == 2) 1 0 + cond (k == 3) 1 0 ≡ 1) refl refl refl refl (n % 4) (quarter n)

all_in : (seed n : ℕ) → length (script_of seed n 0) + length (script_of seed n 1) + length (script_of seed n 2) + length (script_of seed n 3) ≡ n
all_in seed zero = refl
all_in seed (suc n) =
    let before : length (script_of seed n 0) + length (script_of seed n 1) + length (script_of seed n 2) + length (script_of seed n 3) ≡ n = all_in seed n in
    let one : cond (is_of 0 n) 1 0 + cond (is_of 1 n) 1 0 + cond (is_of 2 n) 1 0 + cond (is_of 3 n) 1 0 ≡ 1 = one_of_four n in
    let zeroth : length (script_of seed (n + 1) 0) ≡ length (script_of seed n 0) + cond (is_of 0 n) 1 0 = grew seed n 0 in
    let first : length (script_of seed (n + 1) 1) ≡ length (script_of seed n 1) + cond (is_of 1 n) 1 0 = grew seed n 1 in
    let second : length (script_of seed (n + 1) 2) ≡ length (script_of seed n 2) + cond (is_of 2 n) 1 0 = grew seed n 2 in
    let third : length (script_of seed (n + 1) 3) ≡ length (script_of seed n 3) + cond (is_of 3 n) 1 0 = grew seed n 3 in
    let next : n + 1 ≡ suc n = omega arith in
    let all : length (script_of seed (n + 1) 0) + length (script_of seed (n + 1) 1) + length (script_of seed (n + 1) 2) + length (script_of seed (n + 1) 3) ≡ n + 1 =
    omega (arith, before, one, zeroth, first, second, third) in
    subst (λ k. length (script_of seed k 0) + length (script_of seed k 1) + length (script_of seed k 2) + length (script_of seed k 3) ≡ k) next all

-- ---- the scene

few_in_all : (seed count : ℕ) → count ≤ 10000 → commands_of (generated seed count) ≤ 16384
few_in_all seed count few =
    let all : length (script_of seed count 0) + length (script_of seed count 1) + length (script_of seed count 2) + length (script_of seed count 3) ≡ count = all_in seed count in
    let told : commands_of (generated seed count) ≡ 0 + length (script_of seed count 0) + length (script_of seed count 1) + length (script_of seed count 2) + length (script_of seed count 3) = refl in
    omega (arith, all, told, few)

small_in_all : (seed count : ℕ) → count ≤ 10000 → sum_by payload_of_script (scripts_of (generated seed count)) ≤ 16777216
small_in_all seed count few =
    let all : length (script_of seed count 0) + length (script_of seed count 1) + length (script_of seed count 2) + length (script_of seed count 3) ≡ count = all_in seed count in
    let told : sum_by payload_of_script (scripts_of (generated seed count))
    ≡ 0 + payload_of_script (script_of seed count 0) + payload_of_script (script_of seed count 1) + payload_of_script (script_of seed count 2) + payload_of_script (script_of seed count 3) = refl in
    let zeroth : payload_of_script (script_of seed count 0) ≤ 64 * length (script_of seed count 0) = script_small seed count 0 in
    let first : payload_of_script (script_of seed count 1) ≤ 64 * length (script_of seed count 1) = script_small seed count 1 in
    let second : payload_of_script (script_of seed count 2) ≤ 64 * length (script_of seed count 2) = script_small seed count 2 in
    let third : payload_of_script (script_of seed count 3) ≤ 64 * length (script_of seed count 3) = script_small seed count 3 in
    omega (arith, all, told, few, zeroth, first, second, third)

lawful_app : (seed count app : ℕ) → app < 4 → is_lawful_app (app_of seed count app) ≡ true
lawful_app seed count app below =
    let may : list_all is_lawful_thread_command (script_of seed count app) ≡ true = all_may seed (filter (is_of app) (range_with_len 0 count)) in
    let name : is_name (name_of app) ≡ true = four (λ k. is_name (name_of k) ≡ true) refl refl refl refl app below in
    grind (arith, may, name, tests)

pub is_lawful : (seed count : ℕ) → count ≤ 10000 → IsLawfulScene (generated seed count)
is_lawful seed count few = record {
  few_apps = refl;
  few_clients = refl;
  apps = grind (arith, lawful_app seed count 0 (omega arith), lawful_app seed count 1 (omega arith), lawful_app seed count 2 (omega arith), lawful_app seed count 3 (omega arith), tests);
  clients = refl;
  names = refl;
  start_ports = refl;
  queue = refl;
  few_commands = grind (arith, few_in_all seed count few, tests);
  small_payload = grind (arith, small_in_all seed count few, tests);
}
