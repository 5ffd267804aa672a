-- Repeats: what each of their lines does to the reader is what the definition says of it.
use Rattle.std.proofs.Common.{◌≡◌, ℕ, zero, suc, ◌+◌, ◌*◌, Bool, true, false, not, ◌&&◌, cond, List, [], ◌∷◌, ◌++◌, length, Option, Some, None, Result, Ok, Err, refl, sym, ap, subst, ◌∙◌, arith}
use Rattle.std.specs.Prelude.{nat_le}
use Rattle.std.specs.List.{list_all}
use Rattle.std.proofs.lemmas.Bool.{false≢true, le-leb, leb-true}
use Rattle.std.proofs.lemmas.List.{length-append}
use Rattle.std.proofs.lemmas.List.Folds.{list_all-append}
use Rattle.std.proofs.lemmas.List.Sums.{sum_by-append}
use Rattle.kernel_values.specs.Commands.{has_lawful_registers}
use Rattle.kernel_values.specs.Calls.{payload_of}
use Rattle.kernel_values.specs.SceneLaw.{payload_of_script}
use Rattle.kernel_values.specs.declared.scene.Manifest.{Manifest}
use Rattle.kernel_values.specs.declared.script.Command.{Command}
use Rattle.script_lines.specs.declared.fault.SceneKind.{SceneKind}
use Rattle.script_lines.specs.declared.fault.SceneKind.TheVariants.{BadWords, OpenRepeat}
use Rattle.script_lines.specs.declared.words.ScriptWord.TheVariants as says
use Rattle.script_lines.specs.declared.words.CallWord.{CallWord}
use Rattle.script_lines.specs.declared.words.ClientWord.{ClientWord}
use Rattle.script_lines.specs.Numbers.{number, number_within}
use Rattle.script_lines.specs.Gives.{◌>>=◌}
use Rattle.script_lines.specs.Calls.{command_line}
use Rattle.script_lines.specs.ClientCalls.{client_command_line}
use Rattle.scene_lines.specs.declared.reading.Place.TheVariants as place
use Rattle.scene_lines.specs.declared.reading.Registered.{Registered}
use Rattle.scene_lines.specs.declared.reading.Used.{Used}
use Rattle.scene_lines.specs.declared.reading.Reading.{Reading}
use Rattle.scene_lines.specs.Reading.{is_within, with_used, extended, repeat_line, client_repeat_line, times_in, begun, repeat_act, repeated}
use Rattle.script_lines.proofs.Bytes.{and_true}
use Rattle.scene_lines.proofs.Keeping.{repeated_all, repeated_length, repeated_payload}
use Rattle.scene_reader.specs.SceneText.{Line, in_repeat, after_turns, standing, expanded, copies, times_of, given_by, given, fits, passes_limit, word_fault, stays_open}
use Rattle.scene_reader.proofs.Alike.{withins}
use Rattle.scene_reader.proofs.Stable.{OneFate, any_names, any_client_names}
use Rattle.scene_reader.proofs.Expanding.{spoken, command_of, empty, another, standing_under, repeat_under, expanded_at_end, all_passes, quiet_copies}
use Rattle.scene_reader.proofs.Limits.{and_right}
use Rattle.scene_reader.proofs.Following.{Agrees, Between, InThread, InClient, Opened, fit_alone, Follows, outside, of_app, of_thread, of_client, in_lines, in_lines_past, in_client_lines, in_client_lines_past, turning}
use Rattle.scene_reader.proofs.PartSteps.{OnlyErr, after_ok, bad_only}
use Rattle.scene_reader.proofs.ScriptSteps.{Allows, PlaceTells, script_line, one_load, fated_ok, fated_bad, within_lines}

-- ---- a repeat begins

zero_times : (read : Result ℕ SceneKind) → (read >>= (λ n. cond (nat_le 1 n && nat_le n 16384) (Ok n) (Err BadWords))) ≡ Ok 0 → ⊥
zero_times (Ok zero) e = absurd cc
zero_times (Ok (suc n)) e = elim (nat_le 1 (suc n) && nat_le (suc n) 16384) as (λ t. cond {A = Result ℕ SceneKind} t (Ok (suc n)) (Err BadWords) ≡ Ok 0 → ⊥) [
  | true ↦ λ e. let same : suc n ≡ 0 = cc in absurd (omega (arith, same))
  | false ↦ λ e. absurd cc
] e
zero_times (Err kind) e = absurd cc

no_zero : (words : List (List ℕ)) → times_in words ≡ Ok 0 → ⊥
unfolding times_in number_within
no_zero [] e = absurd cc
no_zero (word ∷ []) e = zero_times (number word) e
no_zero (word ∷ other ∷ words) e = absurd cc

all_times : (words : List (List ℕ)) → OnlyErr BadWords (times_in words)
unfolding times_in
all_times [] = refl
all_times (word ∷ []) = bad_only _ (withins 1 16384 word)
all_times (word ∷ other ∷ words) = refl

opens_at : (threaded : Bool) (above : List Line) (number : ℕ) (text : List ℕ) (words : List (List ℕ)) (times : ℕ) (names : List (List ℕ)) → times_in words ≡ Ok (suc times) → Opened threaded (script_line number text says.Repeat words ∷ above) above times number names [] names
opens_at threaded above number text words times names e = record { body = []; opening = script_line number text says.Repeat words; is = refl; opens = refl; told = e; numbered = refl; lines = empty }

abbrev pub open_last : Line → List Line → Option SceneKind
open_last line below = cond (stays_open line below) (Some OpenRepeat) None

begins_lines : (above : List Line) (before : Registered) (used : Used) (name : List ℕ) (manifest : Manifest) (threads : List (List Command)) (script : List Command) (names : List (List ℕ)) (number : ℕ) (text : List ℕ) (words : List (List ℕ)) (times : ℕ) → InThread above before used name manifest threads script names → times_in words ≡ Ok times
    → Follows (script_line number text says.Repeat words ∷ above) (record { place = place.Repeat (record { name = name; manifest = manifest; threads = threads; script = script; names = names; has_thread = true }) (begun number times); before = before; used = used })
begins_lines above before used name manifest threads script names number text words zero h e = absurd (no_zero words e)
begins_lines above before used name manifest threads script names number text words (suc times) h e = in_lines before used name manifest threads script names above times number [] names 0 h (opens_at true above number text words times names e) refl refl

begins_client_lines : (above : List Line) (before : Registered) (used : Used) (name : List ℕ) (script : List Command) (names : List (List ℕ)) (number : ℕ) (text : List ℕ) (words : List (List ℕ)) (times : ℕ) → InClient above before used name script names → times_in words ≡ Ok times
    → Follows (script_line number text says.Repeat words ∷ above) (record { place = place.ClientRepeat (record { name = name; script = script; names = names }) (begun number times); before = before; used = used })
begins_client_lines above before used name script names number text words zero h e = absurd (no_zero words e)
begins_client_lines above before used name script names number text words (suc times) h e = in_client_lines before used name script names above times number [] names 0 h (opens_at false above number text words times names e) refl refl

pub repeat_steps : (above below : List Line) (r : Reading) (number : ℕ) (text : List ℕ) (words : List (List ℕ)) → Follows above r → after_turns above ≡ false
    → PlaceTells above (script_line number text says.Repeat words) (word_fault above (script_line number text says.Repeat words) below) (open_last (script_line number text says.Repeat words) below) r.before r.used (repeat_act number r.place words)
unfolding repeat_act word_fault passes_limit in_repeat
repeat_steps above below r number text words (outside before used h) quiet = rw (h.between.no_repeat, h.stands) refl
repeat_steps above below r number text words (of_app before used name manifest h) quiet = rw (h.between.no_repeat, h.stands) refl
repeat_steps above below r number text words (of_thread before used name manifest threads script names h) quiet =
    rw (h.between.no_repeat, h.stands) (after_ok BadWords (times_in words) _ _ _ _ (all_times words) (λ times e. (refl, begins_lines above before used name manifest threads script names number text words times h e)))
repeat_steps above below r number text words (of_client before used name script names h) quiet =
    rw (h.between.no_repeat, h.stands) (after_ok BadWords (times_in words) _ _ _ _ (all_times words) (λ times e. (refl, begins_client_lines above before used name script names number text words times h e)))
repeat_steps above below r number text words (turning before used turns h) quiet = absurd (false≢true (sym quiet ∙ h.turned))
repeat_steps above below r number text words (in_lines before used name manifest threads script names outer times at commands named payload h o lawful load) quiet = rw (within_lines above r (in_lines before used name manifest threads script names outer times at commands named payload h o lawful load) quiet refl) refl
repeat_steps above below r number text words (in_lines_past before used name manifest threads script names outer times at commands named known kept payload h o past) quiet = rw (within_lines above r (in_lines_past before used name manifest threads script names outer times at commands named known kept payload h o past) quiet refl) refl
repeat_steps above below r number text words (in_client_lines before used name script names outer times at commands named payload h o lawful load) quiet = rw (within_lines above r (in_client_lines before used name script names outer times at commands named payload h o lawful load) quiet refl) refl
repeat_steps above below r number text words (in_client_lines_past before used name script names outer times at commands named known kept payload h o past) quiet = rw (within_lines above r (in_client_lines_past before used name script names outer times at commands named known kept payload h o past) quiet refl) refl

-- ---- its lines

-- where the application or client of an open repeat stands
pub stands_in : (threaded : Bool) (above outer : List Line) (times at : ℕ) (names : List (List ℕ)) (commands : List Command) (named : List (List ℕ)) → Opened threaded above outer times at names commands named → standing above ≡ standing outer
unfolding standing
stands_in threaded above outer times at names commands named o = ap standing o.is ∙ standing_under threaded names o.body commands named (o.opening ∷ outer) o.lines ∙ rw o.opens refl

one_more : (threaded : Bool) (above outer : List Line) (line : Line) (times at : ℕ) (names : List (List ℕ)) (commands : List Command) (named : List (List ℕ)) (read : List (List ℕ) × Command) → Opened threaded above outer times at names commands named → command_of threaded line.word named line.arguments ≡ Ok read
    → Opened threaded (line ∷ above) outer times at names (commands ++ read.1 ∷ []) read.0
one_more threaded above outer line times at names commands named read o e = record { body = line ∷ o.body; opening = o.opening; is = ap (λ all. line ∷ all) o.is; opens = o.opens; told = o.told; numbered = o.numbered; lines = another line o.body commands named read o.lines e }

pub open_yet : (threaded : Bool) (above outer : List Line) (times at : ℕ) (names : List (List ℕ)) (commands : List Command) (named : List (List ℕ)) → Opened threaded above outer times at names commands named → in_repeat above ≡ true
unfolding in_repeat
open_yet threaded above outer times at names commands named o = ap in_repeat o.is ∙ repeat_under threaded names o.body commands named (o.opening ∷ outer) o.lines ∙ rw o.opens refl

alone_more : (commands : List Command) (command : Command) (payload : ℕ) → list_all has_lawful_registers commands ≡ true → payload_of_script commands ≡ payload
    → fit_alone (commands ++ command ∷ []) ≡ (has_lawful_registers command && is_within (with_used (record { commands = length commands; payload = payload }) 1 (payload_of command.call)))
unfolding fit_alone
alone_more commands command payload lawful load =
    let count : length (commands ++ command ∷ []) ≡ length commands + 1 = length-append commands (command ∷ []) in
    let loads : payload_of_script (commands ++ command ∷ []) ≡ payload + payload_of command.call = omega (arith, sum_by-append (λ command. payload_of command.call) commands (command ∷ []), one_load command, load) in
    rw (list_all-append has_lawful_registers commands (command ∷ []), lawful, count, loads, and_right (has_lawful_registers command)) refl

never_true : (b : Bool) → (b ≡ true → ⊥) → b ≡ false
never_true true never = absurd (never refl)
never_true false never = refl

within_less : (c p k q : ℕ) → is_within (record { commands = c + k; payload = p + q }) ≡ true → is_within (record { commands = c; payload = p }) ≡ true
within_less c p k q h =
    let both = and_true (nat_le (c + k) 16384) (nat_le (p + q) 16777216) h in
    rw (le-leb c 16384 (omega (arith, leb-true (c + k) 16384 both.0)), le-leb p 16777216 (omega (arith, leb-true (p + q) 16777216 both.1))) refl

-- what passes a limit alone does so among others
unfit_among : (used : Used) (first more : List Command) → fit_alone first ≡ false → Allows used (first ++ more) ≡ false
unfolding fit_alone
unfit_among used first more past = never_true _ (λ h.
    let both = and_true (list_all has_lawful_registers (first ++ more)) (is_within (with_used used (length (first ++ more)) (payload_of_script (first ++ more)))) h in
    let lawful = (and_true (list_all has_lawful_registers first) (list_all has_lawful_registers more) (sym (list_all-append has_lawful_registers first more) ∙ both.0)).0 in
    let counts : used.commands + length (first ++ more) ≡ length first + (used.commands + length more) = omega (arith, length-append first more) in
    let loads : used.payload + payload_of_script (first ++ more) ≡ payload_of_script first + (used.payload + payload_of_script more) = omega (arith, sum_by-append (λ command. payload_of command.call) first more) in
    let within : is_within (record { commands = length first + (used.commands + length more); payload = payload_of_script first + (used.payload + payload_of_script more) }) ≡ true = subst (λ n. is_within (record { commands = n; payload = payload_of_script first + (used.payload + payload_of_script more) }) ≡ true) counts (subst (λ n. is_within (record { commands = used.commands + length (first ++ more); payload = n }) ≡ true) loads both.1) in
    let alone : (list_all has_lawful_registers first && is_within (record { commands = length first; payload = payload_of_script first })) ≡ true = rw (lawful, within_less (length first) (payload_of_script first) (used.commands + length more) (used.payload + payload_of_script more) within) refl in
    false≢true (sym past ∙ alone))

alone_is : (commands : List Command) → fit_alone commands ≡ Allows (record { commands = 0; payload = 0 }) commands
unfolding fit_alone
alone_is commands =
    let count : 0 + length commands ≡ length commands = omega arith in
    let load : 0 + payload_of_script commands ≡ payload_of_script commands = omega arith in
    rw (count, load) refl

unfit_more : (first more : List Command) → fit_alone first ≡ false → fit_alone (first ++ more) ≡ false
unfit_more first more past = alone_is (first ++ more) ∙ unfit_among (record { commands = 0; payload = 0 }) first more past

fit_lawful : (commands : List Command) → fit_alone commands ≡ true → list_all has_lawful_registers commands ≡ true
unfolding fit_alone
fit_lawful commands h = (and_true (list_all has_lawful_registers commands) _ h).0

load_more : (commands : List Command) (command : Command) (payload : ℕ) → payload_of_script commands ≡ payload → payload_of_script (commands ++ command ∷ []) ≡ payload + payload_of command.call
load_more commands command payload load = omega (arith, sum_by-append (λ command. payload_of command.call) commands (command ∷ []), one_load command, load)

still_open : (above : List Line) (number : ℕ) (text : List ℕ) (word : CallWord) (words : List (List ℕ)) → in_repeat above ≡ true → passes_limit (script_line number text (says.Call word) words ∷ above) ≡ false
unfolding passes_limit in_repeat
still_open above number text word words h = rw h refl

still_open_client : (above : List Line) (number : ℕ) (text : List ℕ) (word : ClientWord) (words : List (List ℕ)) → in_repeat above ≡ true → passes_limit (script_line number text (says.ClientCall word) words ∷ above) ≡ false
unfolding passes_limit in_repeat
still_open_client above number text word words h = rw h refl

extended_by : (test : Bool) (above : List Line) (line : Line) (before : Registered) (used : Used) (name : List ℕ) (manifest : Manifest) (threads : List (List Command)) (script : List Command) (names : List (List ℕ)) (outer : List Line) (times at : ℕ) (commands : List Command) (named : List (List ℕ)) (payload : ℕ) (read : List (List ℕ) × Command)
    → InThread outer before used name manifest threads script names → Opened true (line ∷ above) outer times at names (commands ++ read.1 ∷ []) read.0 → payload_of_script commands ≡ payload → fit_alone (commands ++ read.1 ∷ []) ≡ test
    → Follows (line ∷ above) (record {
      place = place.Repeat (record { name = name; manifest = manifest; threads = threads; script = script; names = read.0; has_thread = true })
          (cond test (record { line = at; times = suc times; body = commands ++ read.1 ∷ []; payload = payload + payload_of read.1.call; is_past = false }) (record { line = at; times = suc times; body = commands; payload = payload; is_past = true }));
      before = before;
      used = used;
    })
extended_by true above line before used name manifest threads script names outer times at commands named payload read h o load fit =
    in_lines before used name manifest threads script names outer times at (commands ++ read.1 ∷ []) read.0 (payload + payload_of read.1.call) h o (fit_lawful (commands ++ read.1 ∷ []) fit) (load_more commands read.1 payload load)
extended_by false above line before used name manifest threads script names outer times at commands named payload read h o load fit =
    in_lines_past before used name manifest threads script names outer times at (commands ++ read.1 ∷ []) read.0 read.0 commands payload h o fit

client_extended_by : (test : Bool) (above : List Line) (line : Line) (before : Registered) (used : Used) (name : List ℕ) (script : List Command) (names : List (List ℕ)) (outer : List Line) (times at : ℕ) (commands : List Command) (named : List (List ℕ)) (payload : ℕ) (read : List (List ℕ) × Command)
    → InClient outer before used name script names → Opened false (line ∷ above) outer times at names (commands ++ read.1 ∷ []) read.0 → payload_of_script commands ≡ payload → fit_alone (commands ++ read.1 ∷ []) ≡ test
    → Follows (line ∷ above) (record {
      place = place.ClientRepeat (record { name = name; script = script; names = read.0 })
          (cond test (record { line = at; times = suc times; body = commands ++ read.1 ∷ []; payload = payload + payload_of read.1.call; is_past = false }) (record { line = at; times = suc times; body = commands; payload = payload; is_past = true }));
      before = before;
      used = used;
    })
client_extended_by true above line before used name script names outer times at commands named payload read h o load fit =
    in_client_lines before used name script names outer times at (commands ++ read.1 ∷ []) read.0 (payload + payload_of read.1.call) h o (fit_lawful (commands ++ read.1 ∷ []) fit) (load_more commands read.1 payload load)
client_extended_by false above line before used name script names outer times at commands named payload read h o load fit =
    in_client_lines_past before used name script names outer times at (commands ++ read.1 ∷ []) read.0 read.0 commands payload h o fit

read_too : (x y : Result (List (List ℕ) × Command) SceneKind) (b : List (List ℕ) × Command) → OneFate x y → y ≡ Ok b → (a : List (List ℕ) × Command) × (x ≡ Ok a)
read_too (Ok a) y b h e = (a, refl)
read_too (Err kind) (Err other) b h e = absurd cc
read_too (Err kind) (Ok y) b h e = absurd h

pub lines_step : (above below : List Line) (before : Registered) (used : Used) (name : List ℕ) (manifest : Manifest) (threads : List (List Command)) (script : List Command) (names : List (List ℕ)) (outer : List Line) (times at : ℕ) (commands : List Command) (named : List (List ℕ)) (payload : ℕ) (number : ℕ) (text : List ℕ) (word : CallWord) (words : List (List ℕ))
    → InThread outer before used name manifest threads script names → Opened true above outer times at names commands named → list_all has_lawful_registers commands ≡ true → payload_of_script commands ≡ payload
    → PlaceTells above (script_line number text (says.Call word) words) (word_fault above (script_line number text (says.Call word) words) below) None before used
    (repeat_line (record { name = name; manifest = manifest; threads = threads; script = script; names = named; has_thread = true }) (record { line = at; times = suc times; body = commands; payload = payload; is_past = false }) word words)
unfolding repeat_line extended word_fault
lines_step above below before used name manifest threads script names outer times at commands named payload number text word words h o lawful load =
    let line = script_line number text (says.Call word) words in
    let fate = any_names named [] word words in
    rw (stands_in true above outer times at names commands named o, h.stands, fated_ok (command_line named word words) (command_line [] word words) fate, still_open above number text word words (open_yet true above outer times at names commands named o))
    (after_ok BadWords (command_line named word words) _ _ _ _ (fated_bad _ _ fate) (λ read e. (
      refl,
      extended_by _ above line before used name manifest threads script names outer times at commands named payload read h (one_more true above outer line times at names commands named read o e) load (alone_more commands read.1 payload lawful load),
    )))

pub past_step : (above below : List Line) (before : Registered) (used : Used) (name : List ℕ) (manifest : Manifest) (threads : List (List Command)) (script : List Command) (names : List (List ℕ)) (outer : List Line) (times at : ℕ) (commands : List Command) (named known : List (List ℕ)) (kept : List Command) (payload : ℕ) (number : ℕ) (text : List ℕ) (word : CallWord) (words : List (List ℕ))
    → InThread outer before used name manifest threads script names → Opened true above outer times at names commands named → fit_alone commands ≡ false
    → PlaceTells above (script_line number text (says.Call word) words) (word_fault above (script_line number text (says.Call word) words) below) None before used
    (repeat_line (record { name = name; manifest = manifest; threads = threads; script = script; names = known; has_thread = true }) (record { line = at; times = suc times; body = kept; payload = payload; is_past = true }) word words)
unfolding repeat_line word_fault
past_step above below before used name manifest threads script names outer times at commands named known kept payload number text word words h o past =
    let line = script_line number text (says.Call word) words in
    rw (stands_in true above outer times at names commands named o, h.stands, still_open above number text word words (open_yet true above outer times at names commands named o))
    (after_ok BadWords (command_line [] word words) _ _ _ _ (fated_bad _ _ (any_names [] [] word words)) (λ other e.
    let read = read_too (command_line named word words) (command_line [] word words) other (any_names named [] word words) e in
    (refl, in_lines_past before used name manifest threads script names outer times at (commands ++ read.0.1 ∷ []) read.0.0 known kept payload h (one_more true above outer line times at names commands named read.0 o read.1) (unfit_more commands (read.0.1 ∷ []) past))))

pub client_lines_step : (above below : List Line) (before : Registered) (used : Used) (name : List ℕ) (script : List Command) (names : List (List ℕ)) (outer : List Line) (times at : ℕ) (commands : List Command) (named : List (List ℕ)) (payload : ℕ) (number : ℕ) (text : List ℕ) (word : ClientWord) (words : List (List ℕ))
    → InClient outer before used name script names → Opened false above outer times at names commands named → list_all has_lawful_registers commands ≡ true → payload_of_script commands ≡ payload
    → PlaceTells above (script_line number text (says.ClientCall word) words) (word_fault above (script_line number text (says.ClientCall word) words) below) None before used
    (client_repeat_line (record { name = name; script = script; names = named }) (record { line = at; times = suc times; body = commands; payload = payload; is_past = false }) word words)
unfolding client_repeat_line extended word_fault
client_lines_step above below before used name script names outer times at commands named payload number text word words h o lawful load =
    let line = script_line number text (says.ClientCall word) words in
    let fate = any_client_names named [] word words in
    rw (stands_in false above outer times at names commands named o, h.stands, fated_ok (client_command_line named word words) (client_command_line [] word words) fate, still_open_client above number text word words (open_yet false above outer times at names commands named o))
    (after_ok BadWords (client_command_line named word words) _ _ _ _ (fated_bad _ _ fate) (λ read e. (
      refl,
      client_extended_by _ above line before used name script names outer times at commands named payload read h (one_more false above outer line times at names commands named read o e) load (alone_more commands read.1 payload lawful load),
    )))

pub client_past_step : (above below : List Line) (before : Registered) (used : Used) (name : List ℕ) (script : List Command) (names : List (List ℕ)) (outer : List Line) (times at : ℕ) (commands : List Command) (named known : List (List ℕ)) (kept : List Command) (payload : ℕ) (number : ℕ) (text : List ℕ) (word : ClientWord) (words : List (List ℕ))
    → InClient outer before used name script names → Opened false above outer times at names commands named → fit_alone commands ≡ false
    → PlaceTells above (script_line number text (says.ClientCall word) words) (word_fault above (script_line number text (says.ClientCall word) words) below) None before used
    (client_repeat_line (record { name = name; script = script; names = known }) (record { line = at; times = suc times; body = kept; payload = payload; is_past = true }) word words)
unfolding client_repeat_line word_fault
client_past_step above below before used name script names outer times at commands named known kept payload number text word words h o past =
    let line = script_line number text (says.ClientCall word) words in
    rw (stands_in false above outer times at names commands named o, h.stands, still_open_client above number text word words (open_yet false above outer times at names commands named o))
    (after_ok BadWords (client_command_line [] word words) _ _ _ _ (fated_bad _ _ (any_client_names [] [] word words)) (λ other e.
    let read = read_too (client_command_line named word words) (client_command_line [] word words) other (any_client_names named [] word words) e in
    (refl, in_client_lines_past before used name script names outer times at (commands ++ read.0.1 ∷ []) read.0.0 known kept payload h (one_more false above outer line times at names commands named read.0 o read.1) (unfit_more commands (read.0.1 ∷ []) past))))

-- ---- the end of a repeat

expanded_closing : (threaded : Bool) (above outer : List Line) (number : ℕ) (text : List ℕ) (words : List (List ℕ)) (times at : ℕ) (names : List (List ℕ)) (commands : List Command) (named : List (List ℕ)) (o : Opened threaded above outer times at names commands named)
    → expanded (script_line number text says.End words ∷ above) ≡ copies (suc times) o.body ++ expanded outer
expanded_closing threaded above outer number text words times at names commands named o =
    let line = script_line number text says.End words in
    let often : times_of o.opening ≡ suc times = rw o.told refl in
    ap (λ all. expanded (line ∷ all)) o.is ∙ expanded_at_end threaded names o.body commands named o.opening line outer o.lines (rw o.opens refl) refl ∙ ap (λ n. copies n o.body ++ expanded outer) often

pub closing : (threaded : Bool) (above outer : List Line) (number : ℕ) (text : List ℕ) (words : List (List ℕ)) (times at : ℕ) (names : List (List ℕ)) (commands : List Command) (named : List (List ℕ)) → Opened threaded above outer times at names commands named → after_turns (expanded outer) ≡ false → (given outer).names ≡ names
    → given (script_line number text says.End words ∷ above) ≡ spoken threaded (given outer) (repeated (suc times) commands) named
unfolding given
closing threaded above outer number text words times at names commands named o quiet is =
    ap given_by (expanded_closing threaded above outer number text words times at names commands named o) ∙ all_passes threaded names o.body commands named (expanded outer) times o.lines quiet is

pub closing_between : (threaded : Bool) (above outer : List Line) (before : Registered) (used : Used) (number : ℕ) (text : List ℕ) (words : List (List ℕ)) (times at : ℕ) (names : List (List ℕ)) (commands : List Command) (named : List (List ℕ)) → Opened threaded above outer times at names commands named → after_turns above ≡ false → after_turns (expanded outer) ≡ false
    → Agrees (given (script_line number text says.End words ∷ above)) before used → Between (script_line number text says.End words ∷ above) before used
unfolding in_repeat after_turns
closing_between threaded above outer before used number text words times at names commands named o quiet none agrees = record {
  some = refl;
  no_repeat = refl;
  no_turns = quiet;
  none_expanded = ap after_turns (expanded_closing threaded above outer number text words times at names commands named o) ∙ quiet_copies threaded names o.body commands named (expanded outer) (suc times) o.lines ∙ none;
  agrees = agrees;
}

pub closing_stands : (threaded : Bool) (above outer : List Line) (number : ℕ) (text : List ℕ) (words : List (List ℕ)) (times at : ℕ) (names : List (List ℕ)) (commands : List Command) (named : List (List ℕ)) → Opened threaded above outer times at names commands named → standing (script_line number text says.End words ∷ above) ≡ standing outer
unfolding standing
closing_stands threaded above outer number text words times at names commands named o = stands_in threaded above outer times at names commands named o

pub end_passes : (above : List Line) (number : ℕ) (text : List ℕ) (words : List (List ℕ)) → passes_limit (script_line number text says.End words ∷ above) ≡ not (fits (given (script_line number text says.End words ∷ above)))
unfolding passes_limit in_repeat
end_passes above number text words = refl

pub repeat_allows : (used : Used) (times : ℕ) (commands : List Command) (payload : ℕ) → list_all has_lawful_registers commands ≡ true → payload_of_script commands ≡ payload
    → Allows used (repeated times commands) ≡ is_within (with_used used (times * length commands) (times * payload))
repeat_allows used times commands payload lawful load = rw (repeated_all has_lawful_registers times commands lawful, repeated_length times commands, repeated_payload times commands, load) refl

pub past_allows : (used : Used) (times : ℕ) (commands : List Command) → fit_alone commands ≡ false → Allows used (repeated (suc times) commands) ≡ false
unfolding repeated
past_allows used times commands past = unfit_among used commands (repeated times commands) past

pub repeat_used : (used : Used) (times : ℕ) (commands : List Command) (payload : ℕ) → payload_of_script commands ≡ payload → with_used used (length (repeated times commands)) (payload_of_script (repeated times commands)) ≡ with_used used (times * length commands) (times * payload)
repeat_used used times commands payload load = rw (repeated_length times commands, repeated_payload times commands, load) refl
