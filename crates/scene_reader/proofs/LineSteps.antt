-- Any line: what it does to the reader is what the definition says of it.
use Rattle.std.proofs.Common.{◌≡◌, ℕ, suc, ◌*◌, true, false, not, inl, inr, cond, List, [], ◌∷◌, ◌++◌, length, map, Option, Some, None, Ok, Err, refl, sym, ap, subst, ◌∙◌}
use Rattle.std.proofs.lemmas.Bool.{false≢true}
use Rattle.kernel_values.specs.declared.scene.Manifest.{Manifest}
use Rattle.script_lines.specs.declared.fault.SceneKind.TheVariants.{TooMany}
use Rattle.script_lines.specs.declared.words.LineWord.{LineWord}
use Rattle.script_lines.specs.declared.words.LineWord.TheVariants as of
use Rattle.script_lines.specs.declared.words.PartWord.{PartWord}
use Rattle.script_lines.specs.declared.words.PartWord.TheVariants as part
use Rattle.script_lines.specs.declared.words.ScriptWord.{ScriptWord}
use Rattle.script_lines.specs.declared.words.ScriptWord.TheVariants as says
use Rattle.script_lines.specs.declared.words.CallWord.{CallWord}
use Rattle.script_lines.specs.declared.words.ClientWord.{ClientWord}
use Rattle.script_lines.specs.Numbers.{number}
use Rattle.script_lines.specs.Gives.{◌>>=◌}
use Rattle.scene_lines.specs.declared.reading.OpenApp.{OpenApp}
use Rattle.scene_lines.specs.declared.reading.OpenClient.{OpenClient}
use Rattle.scene_lines.specs.declared.reading.Place.{Place}
use Rattle.scene_lines.specs.declared.reading.Place.TheVariants as place
use Rattle.scene_lines.specs.declared.reading.Registered.{Registered}
use Rattle.scene_lines.specs.declared.reading.Used.{Used}
use Rattle.scene_lines.specs.declared.reading.Reading.{Reading}
use Rattle.scene_lines.specs.Reading.{no_more, is_within, with_used, app_line, call_act, client_call_act, repeated, after_repeat, closed, client_closed, end_act, queues_act, app_act, client_act, turns_act, part_act, script_act, word_act, known}
use Rattle.scene_reader.specs.SceneText.{Line, after_turns, Given, given, fits, passes_limit, word_fault, with_some_thread}
use Rattle.scene_reader.proofs.Following.{Agrees, InApp, Follows, outside, of_app, of_thread, of_client, in_lines, in_lines_past, in_client_lines, in_client_lines_past, turning, Settles, Repeats, seen}
use Rattle.scene_reader.proofs.PartSteps.{Tells, choose_not, carried, line_with, client_steps, app_steps, turns_steps, queues_steps}
use Rattle.scene_reader.proofs.ScriptSteps.{app_with, client_with, ScriptTells, script_line, thread_spoken, thread_speaks, client_spoken, client_speaks, thread_steps, thread_line, client_script_line}
use Rattle.scene_reader.proofs.RepeatSteps.{open_last, repeat_steps, stands_in, open_yet, lines_step, past_step, client_lines_step, client_past_step, closing, closing_between, closing_stands, end_passes, repeat_allows, past_allows, repeat_used}

-- ---- the end of a repeat

end_steps : (above below : List Line) (r : Reading) (number : ℕ) (text : List ℕ) (words : List (List ℕ)) → Follows above r → after_turns above ≡ false
    → ScriptTells above (script_line number text says.End words) (word_fault above (script_line number text says.End words) below) None r.before (end_act r.used r.place words)
unfolding end_act closed client_closed after_repeat word_fault
end_steps above below r number text words (outside before used h) quiet = rw h.between.no_repeat refl
end_steps above below r number text words (of_app before used name manifest h) quiet = rw h.between.no_repeat refl
end_steps above below r number text words (of_thread before used name manifest threads script names h) quiet = rw h.between.no_repeat refl
end_steps above below r number text words (of_client before used name script names h) quiet = rw h.between.no_repeat refl
end_steps above below r number text words (turning before used turns h) quiet = absurd (false≢true (sym quiet ∙ h.turned))
end_steps above below r number text words (in_lines before used name manifest threads script names outer times at commands named payload h o lawful load) quiet =
    let line = script_line number text says.End words in
    let more = repeated (suc times) commands in
    let next : Given = record (given outer) { apps = h.earlier ++ app_with name manifest (threads ++ (script ++ more) ∷ []) ∷ []; names = named } in
    let made : given (line ∷ above) ≡ next = closing true above outer number text words times at names commands named o h.between.none_expanded h.registers ∙ thread_spoken (given outer) h.earlier name manifest threads script more named h.apps in
    let speaks = thread_speaks (given outer) before used h.earlier name manifest threads script more named h.between.agrees h.apps in
    let later = with_used used (suc times * length commands) (suc times * payload) in
    let test = is_within later in
    let allows = repeat_allows used (suc times) commands payload lawful load in
    let passes : passes_limit (line ∷ above) ≡ not test = end_passes above number text words ∙ ap (λ g. not (fits g)) made ∙ ap not (speaks.fitting ∙ allows) in
    let after : OpenApp = record { name = name; manifest = manifest; threads = threads; script = script ++ more; names = named; has_thread = true } in
    rw (open_yet true above outer times at names commands named o, passes) (choose_not (no_more words) _ _ _ _ _ _ refl (λ none.
    carried _ _ (λ more. Follows (line ∷ above) (record { place = place.App after; before = before; used = more })) _ (cond test (Ok later) (Err TooMany)) (λ more. (more, place.App after))
    (choose_not test _ _ _ _ _ _ refl (λ fit.
    let agrees = subst (λ u. Agrees next before u) (repeat_used used (suc times) commands payload load) (speaks.agrees (allows ∙ fit)) in (
      refl,
      of_thread before later name manifest threads (script ++ more) named (record {
        between = closing_between true above outer before later number text words times at names commands named o quiet h.between.none_expanded (subst (λ g. Agrees g before later) (sym made) agrees);
        stands = closing_stands true above outer number text words times at names commands named o ∙ h.stands;
        earlier = h.earlier;
        apps = ap (λ g. g.apps) made;
        settled = h.settled;
        clients = ap (λ g. g.clients) made ∙ h.clients;
        registers = ap (λ g. g.names) made;
      }),
    ))) (λ more follows. follows)))
end_steps above below r number text words (in_lines_past before used name manifest threads script names outer times at commands named known kept payload h o past) quiet =
    let more = repeated (suc times) commands in
    let made = closing true above outer number text words times at names commands named o h.between.none_expanded h.registers ∙ thread_spoken (given outer) h.earlier name manifest threads script more named h.apps in
    let passes : passes_limit (script_line number text says.End words ∷ above) ≡ true = end_passes above number text words ∙ ap (λ g. not (fits g)) made ∙ ap not ((thread_speaks (given outer) before used h.earlier name manifest threads script more named h.between.agrees h.apps).fitting ∙ past_allows used times commands past) in
    rw (open_yet true above outer times at names commands named o, passes) (choose_not (no_more words) _ _ _ _ _ _ refl (λ none. refl))
end_steps above below r number text words (in_client_lines before used name script names outer times at commands named payload h o lawful load) quiet =
    let line = script_line number text says.End words in
    let more = repeated (suc times) commands in
    let next : Given = record (given outer) { clients = before.clients ++ client_with name (script ++ more) ∷ []; names = named } in
    let made : given (line ∷ above) ≡ next = closing false above outer number text words times at names commands named o h.between.none_expanded h.registers ∙ client_spoken (given outer) before.clients name script more named h.clients in
    let speaks = client_speaks (given outer) before used before.clients name script more named h.between.agrees h.clients in
    let later = with_used used (suc times * length commands) (suc times * payload) in
    let test = is_within later in
    let allows = repeat_allows used (suc times) commands payload lawful load in
    let passes : passes_limit (line ∷ above) ≡ not test = end_passes above number text words ∙ ap (λ g. not (fits g)) made ∙ ap not (speaks.fitting ∙ allows) in
    let after : OpenClient = record { name = name; script = script ++ more; names = named } in
    rw (open_yet false above outer times at names commands named o, passes) (choose_not (no_more words) _ _ _ _ _ _ refl (λ none.
    carried _ _ (λ more. Follows (line ∷ above) (record { place = place.Client after; before = before; used = more })) _ (cond test (Ok later) (Err TooMany)) (λ more. (more, place.Client after))
    (choose_not test _ _ _ _ _ _ refl (λ fit.
    let agrees = subst (λ u. Agrees next before u) (repeat_used used (suc times) commands payload load) (speaks.agrees (allows ∙ fit)) in (
      refl,
      of_client before later name (script ++ more) named (record {
        between = closing_between false above outer before later number text words times at names commands named o quiet h.between.none_expanded (subst (λ g. Agrees g before later) (sym made) agrees);
        stands = closing_stands false above outer number text words times at names commands named o ∙ h.stands;
        apps = ap (λ g. map with_some_thread g.apps) made ∙ h.apps;
        clients = ap (λ g. g.clients) made;
        registers = ap (λ g. g.names) made;
      }),
    ))) (λ more follows. follows)))
end_steps above below r number text words (in_client_lines_past before used name script names outer times at commands named known kept payload h o past) quiet =
    let more = repeated (suc times) commands in
    let made = closing false above outer number text words times at names commands named o h.between.none_expanded h.registers ∙ client_spoken (given outer) before.clients name script more named h.clients in
    let passes : passes_limit (script_line number text says.End words ∷ above) ≡ true = end_passes above number text words ∙ ap (λ g. not (fits g)) made ∙ ap not ((client_speaks (given outer) before used before.clients name script more named h.between.agrees h.clients).fitting ∙ past_allows used times commands past) in
    rw (open_yet false above outer times at names commands named o, passes) (choose_not (no_more words) _ _ _ _ _ _ refl (λ none. refl))

-- ---- calls

unbegun : (above below : List Line) (before : Registered) (used : Used) (name : List ℕ) (manifest : Manifest) (number : ℕ) (text : List ℕ) (word : CallWord) (words : List (List ℕ)) → InApp above before used name manifest
    → ScriptTells above (script_line number text (says.Call word) words) (word_fault above (script_line number text (says.Call word) words) below) None before (app_line used (record { name = name; manifest = manifest; threads = []; script = []; names = []; has_thread = false }) word words)
unfolding app_line word_fault
unbegun above below before used name manifest number text word words h = rw h.stands refl

call_steps : (above below : List Line) (r : Reading) (number : ℕ) (text : List ℕ) (word : CallWord) (words : List (List ℕ)) → Follows above r → after_turns above ≡ false
    → ScriptTells above (script_line number text (says.Call word) words) (word_fault above (script_line number text (says.Call word) words) below) None r.before (call_act r.used r.place word words)
unfolding call_act word_fault
call_steps above below r number text word words (outside before used h) quiet = rw h.stands refl
call_steps above below r number text word words (of_app before used name manifest h) quiet = unbegun above below before used name manifest number text word words h
call_steps above below r number text word words (of_thread before used name manifest threads script names h) quiet = thread_line above below before used name manifest threads script names number text word words h
call_steps above below r number text word words (of_client before used name script names h) quiet = rw h.stands refl
call_steps above below r number text word words (turning before used turns h) quiet = absurd (false≢true (sym quiet ∙ h.turned))
call_steps above below r number text word words (in_lines before used name manifest threads script names outer times at commands named payload h o lawful load) quiet =
    carried _ _ (λ next. Follows (script_line number text (says.Call word) words ∷ above) (record { place = next; before = before; used = used })) _ _ (λ next. (used, next)) (lines_step above below before used name manifest threads script names outer times at commands named payload number text word words h o lawful load) (λ next follows. follows)
call_steps above below r number text word words (in_lines_past before used name manifest threads script names outer times at commands named known kept payload h o past) quiet =
    carried _ _ (λ next. Follows (script_line number text (says.Call word) words ∷ above) (record { place = next; before = before; used = used })) _ _ (λ next. (used, next)) (past_step above below before used name manifest threads script names outer times at commands named known kept payload number text word words h o past) (λ next follows. follows)
call_steps above below r number text word words (in_client_lines before used name script names outer times at commands named payload h o lawful load) quiet = rw (stands_in false above outer times at names commands named o, h.stands) refl
call_steps above below r number text word words (in_client_lines_past before used name script names outer times at commands named known kept payload h o past) quiet = rw (stands_in false above outer times at names commands named o, h.stands) refl

client_call_steps : (above below : List Line) (r : Reading) (number : ℕ) (text : List ℕ) (word : ClientWord) (words : List (List ℕ)) → Follows above r → after_turns above ≡ false
    → ScriptTells above (script_line number text (says.ClientCall word) words) (word_fault above (script_line number text (says.ClientCall word) words) below) None r.before (client_call_act r.used r.place word words)
unfolding client_call_act word_fault
client_call_steps above below r number text word words (outside before used h) quiet = rw h.stands refl
client_call_steps above below r number text word words (of_app before used name manifest h) quiet = rw h.stands refl
client_call_steps above below r number text word words (of_thread before used name manifest threads script names h) quiet = rw h.stands refl
client_call_steps above below r number text word words (of_client before used name script names h) quiet = client_script_line above below before used name script names number text word words h
client_call_steps above below r number text word words (turning before used turns h) quiet = absurd (false≢true (sym quiet ∙ h.turned))
client_call_steps above below r number text word words (in_lines before used name manifest threads script names outer times at commands named payload h o lawful load) quiet = rw (stands_in true above outer times at names commands named o, h.stands) refl
client_call_steps above below r number text word words (in_lines_past before used name manifest threads script names outer times at commands named known kept payload h o past) quiet = rw (stands_in true above outer times at names commands named o, h.stands) refl
client_call_steps above below r number text word words (in_client_lines before used name script names outer times at commands named payload h o lawful load) quiet =
    carried _ _ (λ next. Follows (script_line number text (says.ClientCall word) words ∷ above) (record { place = next; before = before; used = used })) _ _ (λ next. (used, next)) (client_lines_step above below before used name script names outer times at commands named payload number text word words h o lawful load) (λ next follows. follows)
client_call_steps above below r number text word words (in_client_lines_past before used name script names outer times at commands named known kept payload h o past) quiet =
    carried _ _ (λ next. Follows (script_line number text (says.ClientCall word) words ∷ above) (record { place = next; before = before; used = used })) _ _ (λ next. (used, next)) (client_past_step above below before used name script names outer times at commands named known kept payload number text word words h o past) (λ next follows. follows)

-- ---- any word

script_steps : (above below : List Line) (r : Reading) (number : ℕ) (text : List ℕ) (word : ScriptWord) (words : List (List ℕ)) → Follows above r → after_turns above ≡ false
    → ScriptTells above (script_line number text word words) (word_fault above (script_line number text word words) below) (open_last (script_line number text word words) below) r.before (script_act r.used r.place number word words)
unfolding script_act
script_steps above below r number text says.Thread words f quiet = carried _ _ (λ next. Follows (script_line number text says.Thread words ∷ above) (record { place = next; before = r.before; used = r.used })) _ _ (λ next. (r.used, next)) (thread_steps above below r number text words f quiet) (λ next follows. follows)
script_steps above below r number text says.Repeat words f quiet = carried _ _ (λ next. Follows (script_line number text says.Repeat words ∷ above) (record { place = next; before = r.before; used = r.used })) _ _ (λ next. (r.used, next)) (repeat_steps above below r number text words f quiet) (λ next follows. follows)
script_steps above below r number text says.End words f quiet = end_steps above below r number text words f quiet
script_steps above below r number text (says.Call word) words f quiet = call_steps above below r number text word words f quiet
script_steps above below r number text (says.ClientCall word) words f quiet = client_call_steps above below r number text word words f quiet

abbrev PartRule : List Line → List Line → Reading → ℕ → List ℕ → PartWord → List (List ℕ) → Type 0
PartRule above below r number text word words = Tells (word_fault above (line_with number text (of.Part word) words) below) None (λ next. Follows (line_with number text (of.Part word) words ∷ above) (record { place = next.1; before = next.0; used = r.used })) (part_act r.before r.place text word words)

settled_part : (above below : List Line) (r : Reading) (number : ℕ) (text : List ℕ) (word : PartWord) (words : List (List ℕ)) → Follows above r → Settles above r → PartRule above below r number text word words
unfolding part_act
settled_part above below r number text part.Queues words f h = carried _ _ (λ next. Follows (line_with number text (of.Part part.Queues) words ∷ above) (record { place = r.place; before = next; used = r.used })) _ _ (λ next. (next, r.place)) (queues_steps above below r number text words f h) (λ next follows. follows)
settled_part above below r number text part.App words f h = app_steps above below r number text words h
settled_part above below r number text part.Client words f h = client_steps above below r number text words h
settled_part above below r number text part.Turns words f h = turns_steps above below r number text words h

part_in_repeat : (above below : List Line) (r : Reading) (number : ℕ) (text : List ℕ) (word : PartWord) (words : List (List ℕ)) → Repeats above r → PartRule above below r number text word words
unfolding part_act queues_act app_act client_act turns_act word_fault
part_in_repeat above below r number text part.Queues words h = rw (h.place, h.open_yet) refl
part_in_repeat above below r number text part.App words h = rw (h.place, h.open_yet) refl
part_in_repeat above below r number text part.Client words h = rw (h.place, h.open_yet) refl
part_in_repeat above below r number text part.Turns words h = rw (h.place, h.open_yet) refl

part_steps : (above below : List Line) (r : Reading) (number : ℕ) (text : List ℕ) (word : PartWord) (words : List (List ℕ)) → Follows above r → after_turns above ≡ false → PartRule above below r number text word words
part_steps above below r number text word words f quiet = elim (seen above r f quiet) [
  | inl settles ↦ settled_part above below r number text word words f settles
  | inr repeats ↦ part_in_repeat above below r number text word words repeats
]

word_steps : (above below : List Line) (r : Reading) (number : ℕ) (text : List ℕ) (word : LineWord) (words : List (List ℕ)) → Follows above r → after_turns above ≡ false
    → Tells (word_fault above (line_with number text word words) below) (open_last (line_with number text word words) below) (Follows (line_with number text word words ∷ above)) (word_act r number text word words)
unfolding word_act word_fault
word_steps above below r number text of.Scene words f quiet = refl
word_steps above below r number text (of.Part word) words f quiet = carried _ _ (λ (next : Registered × Place). Follows (line_with number text (of.Part word) words ∷ above) (record { place = next.1; before = next.0; used = r.used })) _ _ (λ next. record { place = next.1; before = next.0; used = r.used }) (part_steps above below r number text word words f quiet) (λ next follows. follows)
word_steps above below r number text (of.Script word) words f quiet = carried _ _ (λ (next : Used × Place). Follows (script_line number text word words ∷ above) (record { place = next.1; before = r.before; used = next.0 })) _ _ (λ next. record { place = next.1; before = r.before; used = next.0 }) (script_steps above below r number text word words f quiet) (λ next follows. follows)

-- ---- a line between the header and the turns

pub found_steps : (above below : List Line) (r : Reading) (number : ℕ) (text : List ℕ) (found : Option LineWord) (words : List (List ℕ)) → Follows above r → after_turns above ≡ false
    → Tells (word_fault above (record { number = number; text = text; word = found; arguments = words }) below) (open_last (record { number = number; text = text; word = found; arguments = words }) below) (Follows (record { number = number; text = text; word = found; arguments = words } ∷ above)) (known found >>= (λ word. word_act r number text word words))
unfolding word_fault
found_steps above below r number text None words f quiet = refl
found_steps above below r number text (Some word) words f quiet = word_steps above below r number text word words f quiet
