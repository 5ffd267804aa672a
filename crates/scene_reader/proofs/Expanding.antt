-- The lines of a repeat, expanded: each copy gives the same commands.
use Rattle.std.proofs.Common.{◌≡◌, ℕ, zero, suc, Bool, true, false, List, [], ◌∷◌, ◌++◌, Option, Some, Result, Ok, Err, refl, sym, ap, ◌∙◌, append_assoc}
use Rattle.std.proofs.lemmas.List.{append-nil}
use Rattle.kernel_values.specs.declared.scene.App.{App}
use Rattle.kernel_values.specs.declared.scene.Client.{Client}
use Rattle.kernel_values.specs.declared.script.Command.{Command}
use Rattle.script_lines.specs.declared.fault.SceneKind.{SceneKind}
use Rattle.script_lines.specs.declared.fault.SceneKind.TheVariants.{OutOfPlace}
use Rattle.script_lines.specs.declared.words.LineWord.{LineWord}
use Rattle.script_lines.specs.declared.words.LineWord.TheVariants as of
use Rattle.script_lines.specs.declared.words.ScriptWord.TheVariants as script
use Rattle.script_lines.specs.Calls.{command_line}
use Rattle.script_lines.specs.ClientCalls.{client_command_line}
use Rattle.scene_lines.specs.Reading.{repeated}
use Rattle.scene_reader.specs.SceneText.{Line, is_repeat, is_end, is_turns, in_repeat, after_turns, standing_with, standing, OpenPart, copies, times_of, expanded_from, expanded, Given, on_last, with_command, with_client_command, with_line, given_by, given}
use Rattle.scene_reader.proofs.Stable.{Begins, again_read, again_read_client, names_grow, client_names_grow}

-- ---- the last of a list

pub on_last_is : {A : Type 0} (f : A → A) (xs : List A) (x : A) → on_last f (xs ++ x ∷ []) ≡ xs ++ f x ∷ []
unfolding on_last
on_last_is f [] x = refl
on_last_is f (y ∷ []) x = refl
on_last_is f (y ∷ z ∷ zs) x = ap (λ rest. y ∷ rest) (on_last_is f (z ∷ zs) x)

on_last_same : {A : Type 0} (f g : A → A) (xs : List A) → ((x : A) → f x ≡ g x) → on_last f xs ≡ on_last g xs
unfolding on_last
on_last_same f g [] h = refl
on_last_same f g (x ∷ []) h = ap (λ y. y ∷ []) (h x)
on_last_same f g (x ∷ y ∷ ys) h = ap (λ rest. x ∷ rest) (on_last_same f g (y ∷ ys) h)

on_last_twice : {A : Type 0} (f g : A → A) (xs : List A) → on_last f (on_last g xs) ≡ on_last (λ x. f (g x)) xs
unfolding on_last
on_last_twice f g [] = refl
on_last_twice f g (x ∷ []) = refl
on_last_twice f g (x ∷ y ∷ []) = refl
on_last_twice f g (x ∷ y ∷ z ∷ zs) = ap (λ rest. x ∷ rest) (on_last_twice f g (y ∷ z ∷ zs))

-- ---- commands behind the last script, of a thread or of a client

-- what a line calls, of a thread's script or of a client's
abbrev pub command_of : Bool → Option LineWord → List (List ℕ) → List (List ℕ) → Result (List (List ℕ) × Command) SceneKind
command_of true (Some (of.Script (script.Call word))) names words = command_line names word words
command_of false (Some (of.Script (script.ClientCall word))) names words = client_command_line names word words
command_of of_thread word names words = Err OutOfPlace

abbrev pub behind_app : List Command → App → App
behind_app more app = record app { threads = on_last (λ commands. commands ++ more) app.threads }

abbrev pub behind_client : List Command → Client → Client
behind_client more client = record client { script = client.script ++ more }

abbrev pub spoken : Bool → Given → List Command → List (List ℕ) → Given
spoken true given more names = record given { apps = on_last (behind_app more) given.apps; names = names }
spoken false given more names = record given { clients = on_last (behind_client more) given.clients; names = names }

spoken_twice : (of_thread : Bool) (given : Given) (first second : List Command) (names others : List (List ℕ)) → spoken of_thread (spoken of_thread given first others) second names ≡ spoken of_thread given (first ++ second) names
spoken_twice true given first second names others =
    let app : (app : App) → behind_app second (behind_app first app) ≡ behind_app (first ++ second) app =
    λ app. ap (λ threads. record app { threads = threads }) (on_last_twice (λ commands. commands ++ second) (λ commands. commands ++ first) app.threads
    ∙ on_last_same (λ commands. (commands ++ first) ++ second) (λ commands. commands ++ (first ++ second)) app.threads (λ commands. append_assoc commands first second)) in
    ap (λ apps. record given { apps = apps; names = names }) (on_last_twice (behind_app second) (behind_app first) given.apps ∙ on_last_same (λ app. behind_app second (behind_app first app)) (behind_app (first ++ second)) given.apps app)
spoken_twice false given first second names others =
    let client : (client : Client) → behind_client second (behind_client first client) ≡ behind_client (first ++ second) client = λ client. ap (λ commands. record client { script = commands }) (append_assoc client.script first second) in
    ap (λ clients. record given { clients = clients; names = names }) (on_last_twice (behind_client second) (behind_client first) given.clients ∙ on_last_same (λ client. behind_client second (behind_client first client)) (behind_client (first ++ second)) given.clients client)

-- ---- a line that calls

pub record Calls (word : Option LineWord) : Type 0 where
  pub no_end : is_end word ≡ false
  pub no_repeat : is_repeat word ≡ false
  pub no_turns : is_turns word ≡ false
  pub stands : (before : OpenPart) → standing_with word before ≡ before

-- it begins and ends nothing, and gives its command
pub calls_of : (of_thread : Bool) (word : Option LineWord) (names words : List (List ℕ)) (read : List (List ℕ) × Command) → command_of of_thread word names words ≡ Ok read → Calls word
calls_of true (Some (of.Script (script.Call word))) names words read e = record { no_end = refl; no_repeat = refl; no_turns = refl; stands = λ before. refl }
calls_of false (Some (of.Script (script.ClientCall word))) names words read e = record { no_end = refl; no_repeat = refl; no_turns = refl; stands = λ before. refl }
calls_of of_thread word names words read e = absurd cc

pub gives_command : (of_thread : Bool) (word : Option LineWord) (line : Line) (given : Given) (read : List (List ℕ) × Command) → command_of of_thread word given.names line.arguments ≡ Ok read → with_line word line given ≡ spoken of_thread given (read.1 ∷ []) read.0
gives_command true (Some (of.Script (script.Call word))) line given read e = ap (with_command given) e
gives_command false (Some (of.Script (script.ClientCall word))) line given read e = ap (with_client_command given) e
gives_command of_thread word line given read e = absurd cc

reads_again : (of_thread : Bool) (word : Option LineWord) (names more words : List (List ℕ)) (read : List (List ℕ) × Command) → command_of of_thread word names words ≡ Ok read → Begins read.0 more → command_of of_thread word more words ≡ Ok (more, read.1)
reads_again true (Some (of.Script (script.Call word))) names more words read e begins = again_read names more word words read e begins
reads_again false (Some (of.Script (script.ClientCall word))) names more words read e begins = again_read_client names more word words read e begins
reads_again of_thread word names more words read e begins = absurd cc

grows : (of_thread : Bool) (word : Option LineWord) (names words : List (List ℕ)) (read : List (List ℕ) × Command) → command_of of_thread word names words ≡ Ok read → Begins names read.0
grows true (Some (of.Script (script.Call word))) names words read e = names_grow names word words read e
grows false (Some (of.Script (script.ClientCall word))) names words read e = client_names_grow names word words read e
grows of_thread word names words read e = absurd cc

-- ---- the lines of a repeat

-- these lines give these commands, in their order, with the names before and after
pub data Body (of_thread : Bool) (names : List (List ℕ)) : List Line → List Command → List (List ℕ) → Type 0 where
  empty : Body of_thread names [] [] names
  another : (line : Line) (body : List Line) (commands : List Command) (named : List (List ℕ)) (read : List (List ℕ) × Command) → Body of_thread names body commands named → command_of of_thread line.word named line.arguments ≡ Ok read
      → Body of_thread names (line ∷ body) (commands ++ read.1 ∷ []) read.0

pub turns_under : (of_thread : Bool) (names : List (List ℕ)) (body : List Line) (commands : List Command) (named : List (List ℕ)) (below : List Line) → Body of_thread names body commands named → after_turns (body ++ below) ≡ after_turns below
unfolding after_turns
turns_under of_thread names body commands named below empty = refl
turns_under of_thread names body commands named below (another line rest before found read b e) = rw (calls_of of_thread line.word found line.arguments read e).no_turns (turns_under of_thread names rest before found below b)

pub standing_under : (of_thread : Bool) (names : List (List ℕ)) (body : List Line) (commands : List Command) (named : List (List ℕ)) (below : List Line) → Body of_thread names body commands named → standing (body ++ below) ≡ standing below
unfolding standing
standing_under of_thread names body commands named below empty = refl
standing_under of_thread names body commands named below (another line rest before found read b e) = (calls_of of_thread line.word found line.arguments read e).stands _ ∙ standing_under of_thread names rest before found below b

pub repeat_under : (of_thread : Bool) (names : List (List ℕ)) (body : List Line) (commands : List Command) (named : List (List ℕ)) (below : List Line) → Body of_thread names body commands named → in_repeat (body ++ below) ≡ in_repeat below
unfolding in_repeat
repeat_under of_thread names body commands named below empty = refl
repeat_under of_thread names body commands named below (another line rest before found read b e) =
    let c = calls_of of_thread line.word found line.arguments read e in
    rw (c.no_repeat, c.no_end) (repeat_under of_thread names rest before found below b)

pub begins_same : (names : List (List ℕ)) → Begins names names
begins_same names = record { rest = []; is = sym (append-nil names) }

begins_then : (a b c : List (List ℕ)) → Begins a b → Begins b c → Begins a c
begins_then a b c h k = record { rest = h.rest ++ k.rest; is = k.is ∙ ap (λ all. all ++ k.rest) h.is ∙ append_assoc a h.rest k.rest }

unchanged : {A : Type 0} (f : A → A) → ((x : A) → f x ≡ x) → (xs : List A) → on_last f xs ≡ xs
unfolding on_last
unchanged f h [] = refl
unchanged f h (x ∷ []) = ap (λ y. y ∷ []) (h x)
unchanged f h (x ∷ y ∷ ys) = ap (λ rest. x ∷ rest) (unchanged f h (y ∷ ys))

nothing_more : (of_thread : Bool) (given : Given) → spoken of_thread given [] given.names ≡ given
nothing_more true given = ap (λ apps. record given { apps = apps }) (unchanged (behind_app []) (λ app. ap (λ threads. record app { threads = threads }) (unchanged (λ commands. commands ++ []) append-nil app.threads)) given.apps)
nothing_more false given = ap (λ clients. record given { clients = clients }) (unchanged (behind_client []) (λ client. ap (λ commands. record client { script = commands }) (append-nil client.script)) given.clients)

pub names_after : (of_thread : Bool) (given : Given) (commands : List Command) (names : List (List ℕ)) → (spoken of_thread given commands names).names ≡ names
names_after true given commands names = refl
names_after false given commands names = refl

-- the first pass over the lines names what they name
pub first_pass : (of_thread : Bool) (names : List (List ℕ)) (body : List Line) (commands : List Command) (named : List (List ℕ)) (below : List Line) → Body of_thread names body commands named
    → after_turns below ≡ false → (given_by below).names ≡ names → given_by (body ++ below) ≡ spoken of_thread (given_by below) commands named
unfolding given_by
first_pass of_thread names body commands named below empty quiet is = sym (nothing_more of_thread (given_by below)) ∙ ap (spoken of_thread (given_by below) []) is
first_pass of_thread names body commands named below (another line rest before found read b e) quiet is =
    let sooner = first_pass of_thread names rest before found below b quiet is in
    let kept : after_turns (rest ++ below) ≡ false = turns_under of_thread names rest before found below b ∙ quiet in
    let last = gives_command of_thread line.word line (spoken of_thread (given_by below) before found) read (rw (names_after of_thread (given_by below) before found) e) in
    rw (kept, sooner) (last ∙ spoken_twice of_thread (given_by below) before (read.1 ∷ []) read.0 found)

-- a later one finds its names there
pass : (of_thread : Bool) (names : List (List ℕ)) (body : List Line) (commands : List Command) (named more : List (List ℕ)) (below : List Line) → Body of_thread names body commands named → Begins named more
    → after_turns below ≡ false → (given_by below).names ≡ more → given_by (body ++ below) ≡ spoken of_thread (given_by below) commands more
unfolding given_by
pass of_thread names body commands named more below empty begins quiet is = sym (nothing_more of_thread (given_by below)) ∙ ap (spoken of_thread (given_by below) []) is
pass of_thread names body commands named more below (another line rest before found read b e) begins quiet is =
    let sooner = pass of_thread names rest before found more below b (begins_then found read.0 more (grows of_thread line.word found line.arguments read e) begins) quiet is in
    let kept : after_turns (rest ++ below) ≡ false = turns_under of_thread names rest before found below b ∙ quiet in
    let last = gives_command of_thread line.word line (spoken of_thread (given_by below) before more) (more, read.1) (rw (names_after of_thread (given_by below) before more) (reads_again of_thread line.word found more line.arguments read e begins)) in
    rw (kept, sooner) (last ∙ spoken_twice of_thread (given_by below) before (read.1 ∷ []) more more)

pub quiet_copies : (of_thread : Bool) (names : List (List ℕ)) (body : List Line) (commands : List Command) (named : List (List ℕ)) (below : List Line) (times : ℕ) → Body of_thread names body commands named → after_turns (copies times body ++ below) ≡ after_turns below
unfolding copies
quiet_copies of_thread names body commands named below zero b = refl
quiet_copies of_thread names body commands named below (suc times) b = ap after_turns (append_assoc body (copies times body) below) ∙ turns_under of_thread names body commands named (copies times body ++ below) b ∙ quiet_copies of_thread names body commands named below times b

one_behind : (times : ℕ) (commands : List Command) → repeated times commands ++ commands ≡ commands ++ repeated times commands
unfolding repeated
one_behind zero commands = sym (append-nil commands)
one_behind (suc times) commands = append_assoc commands (repeated times commands) commands ∙ ap (λ rest. commands ++ rest) (one_behind times commands)

-- all copies of the lines give so many copies of their commands
pub all_passes : (of_thread : Bool) (names : List (List ℕ)) (body : List Line) (commands : List Command) (named : List (List ℕ)) (below : List Line) (times : ℕ) → Body of_thread names body commands named
    → after_turns below ≡ false → (given_by below).names ≡ names → given_by (copies (suc times) body ++ below) ≡ spoken of_thread (given_by below) (repeated (suc times) commands) named
unfolding copies repeated
all_passes of_thread names body commands named below zero b quiet is =
    rw (append-nil body, append-nil commands) (first_pass of_thread names body commands named below b quiet is)
all_passes of_thread names body commands named below (suc times) b quiet is =
    let rest = copies (suc times) body ++ below in
    let sooner = all_passes of_thread names body commands named below times b quiet is in
    let kept : after_turns rest ≡ false = quiet_copies of_thread names body commands named below (suc times) b ∙ quiet in
    let there : (given_by rest).names ≡ named = ap (λ given. given.names) sooner ∙ names_after of_thread (given_by below) (repeated (suc times) commands) named in
    let last = pass of_thread names body commands named named rest b (begins_same named) kept there in
    ap given_by (append_assoc body (copies (suc times) body) below) ∙ last ∙ ap (λ given. spoken of_thread given commands named) sooner
    ∙ spoken_twice of_thread (given_by below) (repeated (suc times) commands) commands named named ∙ ap (λ all. spoken of_thread (given_by below) all named) (one_behind (suc times) commands)

-- ---- where they stand

pub expanded_under : (of_thread : Bool) (names : List (List ℕ)) (body : List Line) (commands : List Command) (named : List (List ℕ)) (below : List Line) → Body of_thread names body commands named → expanded (body ++ below) ≡ body ++ expanded below
unfolding expanded_from
expanded_under of_thread names body commands named below empty = refl
expanded_under of_thread names body commands named below (another line rest before found read b e) =
    rw (calls_of of_thread line.word found line.arguments read e).no_end (ap (λ all. line ∷ all) (expanded_under of_thread names rest before found below b))

closed_under : (of_thread : Bool) (names : List (List ℕ)) (body : List Line) (commands : List Command) (named : List (List ℕ)) (opening : Line) (below held : List Line) → Body of_thread names body commands named → is_repeat opening.word ≡ true
    → expanded_from (Some held) (body ++ opening ∷ below) ≡ copies (times_of opening) (held ++ body) ++ expanded below
unfolding expanded_from
closed_under of_thread names body commands named opening below held empty opens = rw (opens, append-nil held) refl
closed_under of_thread names body commands named opening below held (another line rest before found read b e) opens =
    rw (calls_of of_thread line.word found line.arguments read e).no_repeat
    (closed_under of_thread names rest before found opening below (held ++ line ∷ []) b opens ∙ ap (λ all. copies (times_of opening) all ++ expanded below) (append_assoc held (line ∷ []) rest))

-- an `end` below a repeat's lines
pub expanded_at_end : (of_thread : Bool) (names : List (List ℕ)) (body : List Line) (commands : List Command) (named : List (List ℕ)) (opening last : Line) (below : List Line) → Body of_thread names body commands named → is_repeat opening.word ≡ true → is_end last.word ≡ true
    → expanded (last ∷ body ++ opening ∷ below) ≡ copies (times_of opening) body ++ expanded below
unfolding expanded_from
expanded_at_end of_thread names body commands named opening last below b opens ends = rw ends (closed_under of_thread names body commands named opening below [] b opens)
