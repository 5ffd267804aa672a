-- The calls of a script on more answers, and one call more.
use Rattle.std.proofs.Common.{◌≡◌, List, [], ◌∷◌, ◌++◌, length, Option, Some, None, refl, ap, arith}
use mathlib.Core.List.{IsPrefix}
use Rattle.kernel_values.specs.declared.call.Call.{Call}
use Rattle.kernel_values.specs.declared.reply.Answer.{Answer}
use Rattle.kernel_values.specs.declared.script.Command.{Command}
use Rattle.kernel_types.specs.Scripts.{Stand, next_call, answered, stand_on, one_if, led_by, calls_from, calls_of, script_begin}

-- no calls begin all calls
prefix_none : (calls : List Call) → IsPrefix [] calls
prefix_none calls = (calls, refl)

led_grows : (next : Option Call) (calls more : List Call) → IsPrefix calls more → IsPrefix (led_by next calls) (led_by next more)
led_grows None calls more p = prefix_none []
led_grows (Some call) calls more p = (p.0, ap (λ cs. call ∷ cs) p.1)

one_leads : (next : Option Call) (calls : List Call) → IsPrefix (one_if next) (led_by next calls)
one_leads None calls = prefix_none []
one_leads (Some call) calls = (calls, refl)

one_whole : (next : Option Call) → one_if next ++ [] ≡ one_if next
one_whole None = refl
one_whole (Some call) = refl

pub calls_grow_from : (script : List Command) (stand : Stand) (answers more : List Answer)
    → IsPrefix (calls_from script stand answers) (calls_from script stand (answers ++ more))
calls_grow_from script stand [] [] = let same : one_if (next_call script stand) ++ [] ≡ one_if (next_call script stand) = one_whole (next_call script stand) in ([], same)
calls_grow_from script stand [] (answer ∷ more) = one_leads (next_call script stand) (calls_from script (answered script stand answer) more)
calls_grow_from script stand (answer ∷ answers) more =
    led_grows (next_call script stand) _ _ (calls_grow_from script (answered script stand answer) answers more)

led_next : (next : Option Call) (rest : List Call) (one : Call) (calls : List Call) (call : Call) → IsPrefix (one ∷ calls) (led_by next rest)
    → (IsPrefix calls rest → IsPrefix (calls ++ call ∷ []) rest) → IsPrefix (one ∷ (calls ++ call ∷ [])) (led_by next rest)
led_next None rest one calls call p longer = absurd (cc (p.1))
led_next (Some first) rest one calls call p longer =
    let q : IsPrefix (calls ++ call ∷ []) rest = longer (p.0, cc (p.1)) in
    (q.0, cc (p.1, q.1))

-- a script's calls that have all their answers, and its next one
pub calls_next_from : (script : List Command) (stand : Stand) (answers : List Answer) (calls : List Call) (call : Call)
    → IsPrefix calls (calls_from script stand answers) → length calls ≡ length answers
    → next_call script (stand_on script stand answers) ≡ Some call → IsPrefix (calls ++ call ∷ []) (calls_from script stand answers)
calls_next_from script stand [] [] call p same next = rw next ([], refl)
calls_next_from script stand [] (one ∷ calls) call p same next = absurd (omega arith)
calls_next_from script stand (answer ∷ answers) [] call p same next = absurd (omega arith)
calls_next_from script stand (answer ∷ answers) (one ∷ calls) call p same next =
    led_next (next_call script stand) (calls_from script (answered script stand answer) answers) one calls call p
    (λ q. calls_next_from script (answered script stand answer) answers calls call q (omega arith) next)

pub stand_more : (script : List Command) (stand : Stand) (answers : List Answer) (answer : Answer)
    → stand_on script stand (answers ++ answer ∷ []) ≡ answered script (stand_on script stand answers) answer
stand_more script stand [] answer = refl
stand_more script stand (first ∷ answers) answer = stand_more script (answered script stand first) answers answer

pub calls_grow : (script : List Command) (answers more : List Answer) → IsPrefix (calls_of script answers) (calls_of script (answers ++ more))
unfolding calls_of
calls_grow script answers more = calls_grow_from script script_begin answers more

pub calls_next : (script : List Command) (answers : List Answer) (calls : List Call) (call : Call)
    → IsPrefix calls (calls_of script answers) → length calls ≡ length answers
    → next_call script (stand_on script script_begin answers) ≡ Some call → IsPrefix (calls ++ call ∷ []) (calls_of script answers)
unfolding calls_of
calls_next script answers calls call p same next = calls_next_from script script_begin answers calls call p same next
