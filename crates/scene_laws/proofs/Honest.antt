-- A line of a client goes past the driver by its first word alone.
use Rattle.std.proofs.Common.{◌≡◌, ℕ, List, [], ◌∷◌, Ok, refl, subst}
use Rattle.std.specs.Prelude.{IfOk}
use Rattle.kernel_values.specs.Calls.{is_honest_call}
use Rattle.kernel_values.specs.declared.call.Call.{Call}
use Rattle.kernel_values.specs.declared.script.Command.{Command}
use Rattle.script_lines.specs.declared.registers.Registers.{Registers}
use Rattle.script_lines.specs.declared.words.ClientWord.{ClientWord}
use Rattle.script_lines.specs.declared.words.ClientWord.TheVariants as word
use Rattle.script_lines.specs.ClientCalls.{nconnect_line, nsend_line, nrecv_line, nclose_line, npoke_line, nkick_line, client_call_line, client_command_line}
use Rattle.script_lines.specs.Numbers.{number, timeout_word, path_word}
use Rattle.script_lines.specs.Payloads.{bytes_word}
use Rattle.script_lines.specs.Registers.{hand, as_one}
use Rattle.scene_laws.proofs.Results.{after, after_that}
use Rattle.scene_laws.specs.DriverWords.{is_driver_word}

abbrev pub Spells : ClientWord → Registers × Call → Type 0
Spells word spelled = is_honest_call spelled.1 ≡ is_driver_word word

connects : (r : Registers) (words : List (List ℕ)) → IfOk (nconnect_line r words) (Spells word.Connect)
unfolding nconnect_line
connects r [] = tt
connects r (path ∷ rest) = after (Spells word.Connect) (path_word path) _ (λ path. after (Spells word.Connect) (as_one r rest) _ (λ r. refl))

sends : (r : Registers) (words : List (List ℕ)) → IfOk (nsend_line r words) (Spells word.Send)
unfolding nsend_line
sends r (conn ∷ bytes ∷ []) = after (Spells word.Send) (hand r 0 conn) _ (λ conn. after (Spells word.Send) (bytes_word bytes) _ (λ bytes. refl))
sends r [] = tt
sends r (conn ∷ []) = tt
sends r (conn ∷ bytes ∷ more ∷ rest) = tt

receives : (r : Registers) (words : List (List ℕ)) → IfOk (nrecv_line r words) (Spells word.Recv)
unfolding nrecv_line
receives r (conn ∷ timeout ∷ []) = after (Spells word.Recv) (hand r 0 conn) _ (λ conn. after (Spells word.Recv) (timeout_word timeout) _ (λ timeout. refl))
receives r [] = tt
receives r (conn ∷ []) = tt
receives r (conn ∷ timeout ∷ more ∷ rest) = tt

closes : (r : Registers) (words : List (List ℕ)) → IfOk (nclose_line r words) (Spells word.Close)
unfolding nclose_line
closes r (conn ∷ []) = after (Spells word.Close) (hand r 0 conn) _ (λ conn. refl)
closes r [] = tt
closes r (conn ∷ more ∷ rest) = tt

pokes : (r : Registers) (words : List (List ℕ)) → IfOk (npoke_line r words) (Spells word.Poke)
unfolding npoke_line
pokes r (addr ∷ bytes ∷ []) = after (Spells word.Poke) (number addr) _ (λ addr. after (Spells word.Poke) (bytes_word bytes) _ (λ bytes. refl))
pokes r [] = tt
pokes r (addr ∷ []) = tt
pokes r (addr ∷ bytes ∷ more ∷ rest) = tt

kicks : (r : Registers) (words : List (List ℕ)) → IfOk (nkick_line r words) (Spells word.Kick)
unfolding nkick_line
kicks r (queue ∷ head ∷ []) = after (Spells word.Kick) (number queue) _ (λ queue. after (Spells word.Kick) (number head) _ (λ head. refl))
kicks r [] = tt
kicks r (queue ∷ []) = tt
kicks r (queue ∷ head ∷ more ∷ rest) = tt

spells : (r : Registers) (word : ClientWord) (words : List (List ℕ)) → IfOk (client_call_line r word words) (Spells word)
unfolding client_call_line
spells r word.Connect words = connects r words
spells r word.Send words = sends r words
spells r word.Recv words = receives r words
spells r word.Close words = closes r words
spells r word.Poke words = pokes r words
spells r word.Kick words = kicks r words

pub commands : (names : List (List ℕ)) (word : ClientWord) (words : List (List ℕ)) → IfOk (client_command_line names word words) (λ read. is_honest_call read.1.call ≡ is_driver_word word)
unfolding client_command_line
commands names word words = after_that (Spells word) (λ read. is_honest_call read.1.call ≡ is_driver_word word) (client_call_line (record { names = names; reads = []; sets = [] }) word words) _
    (spells (record { names = names; reads = []; sets = [] }) word words) (λ spelled is. is)

pub honest_by_word : (names : List (List ℕ)) (word : ClientWord) (words : List (List ℕ)) (read : List (List ℕ) × Command) → client_command_line names word words ≡ Ok read
    → is_honest_call read.1.call ≡ is_driver_word word
honest_by_word names word words read is = subst (λ rule. IfOk rule (λ read. is_honest_call read.1.call ≡ is_driver_word word)) is (commands names word words)
