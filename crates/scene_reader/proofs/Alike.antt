-- A line read with two lists of names: both readings fail with one fault, or they give one call.
use Rattle.std.proofs.Common.{◌≡◌, ℕ, ◌+◌, Bool, true, false, cond, List, [], ◌∷◌, ◌++◌, length, Result, Ok, Err, refl, subst}
use Rattle.std.specs.Prelude.{◌==◌, nat_eq, nat_le, nat_lt, bytes_eq, codes, drop, ◌&&◌}
use Rattle.std.specs.List.{slice_split, starts_with}
use Rattle.hex.specs.Hex.{decode_of}
use Rattle.hex.specs.declared.error.FromHexError.{FromHexError}
use Rattle.kernel_values.specs.Words.{is_name}
use Rattle.kernel_values.specs.declared.call.Call.{Call}
use Rattle.script_lines.specs.declared.fault.SceneKind.{SceneKind}
use Rattle.script_lines.specs.declared.fault.SceneKind.TheVariants.{BadWords}
use Rattle.script_lines.specs.declared.registers.Registers.{Registers}
use Rattle.script_lines.specs.declared.command_lines.PortWord.TheVariants as for_port
use Rattle.script_lines.specs.declared.message_lines.MessageWord.TheVariants as for_message
use Rattle.script_lines.specs.declared.handle_lines.HandleWord.TheVariants as for_handle
use Rattle.script_lines.specs.declared.memory_lines.MemoryWord.TheVariants as for_memory
use Rattle.script_lines.specs.declared.words.CallWord.{CallWord}
use Rattle.script_lines.specs.declared.words.CallWord.TheVariants as word
use Rattle.script_lines.specs.declared.words.ClientWord.{ClientWord}
use Rattle.script_lines.specs.declared.words.ClientWord.TheVariants as client
use Rattle.script_lines.specs.Gives.{◌>>=◌}
use Rattle.script_lines.specs.Numbers.{number, number_below, cookie, number_within, mask, timeout_word, path_word, port_flags, connect_flags, mem_flags}
use Rattle.script_lines.specs.Payloads.{bytes_word, hex_bytes, decoded, filled, most_bytes}
use Rattle.script_lines.specs.Registers.{place_of, with_name, no_handle, register, hand, with_set, with_sets, as_one, as_some, parts}
use Rattle.script_lines.specs.Calls.{Spelled, any_port_line, any_message_line, any_handle_line, any_memory_line, port_line, connect_line, accept_line, wait_line, waitany_line, send_line, get_line, asked, read_line, put_line, cookie_line, close_line, dup_line, set_line, watched, add_line, del_line, mod_line, memref_line, mread_line, mwrite_line, exit_line, call_line}
use Rattle.script_lines.specs.ClientCalls.{nconnect_line, nsend_line, nrecv_line, nclose_line, npoke_line, nkick_line, client_call_line}

-- a register is read, or set
abbrev pub reading : ℕ → List ℕ → Registers → Registers
reading place name r = record { names = with_name r.names name; reads = r.reads ++ record { place = place; reg = place_of r.names name } ∷ []; sets = r.sets }

abbrev pub setting : List ℕ → Registers → Registers
setting name r = record { names = with_name r.names name; reads = r.reads; sets = r.sets ++ place_of r.names name ∷ [] }

-- what holds between two readings stays, whatever register is named next
pub record Stays (R : Registers → Registers → Type 0) : Type 0 where
  pub reads : (place : ℕ) (name : List ℕ) (r q : Registers) → R r q → R (reading place name r) (reading place name q)
  pub sets : (name : List ℕ) (r q : Registers) → R r q → R (setting name r) (setting name q)

-- ---- a word that is not of its form

abbrev pub OnlyBad : {A : Type 0} → Result A SceneKind → Type 0
OnlyBad (Ok x) = Unit {0}
OnlyBad (Err kind) = kind ≡ BadWords

pub guarded : {A : Type 0} (test : Bool) (x : A) → OnlyBad (cond test (Ok x) (Err BadWords))
guarded true x = tt
guarded false x = refl

pub either_bad : {A : Type 0} (test : Bool) (x y : Result A SceneKind) → OnlyBad x → OnlyBad y → OnlyBad (cond test x y)
either_bad true x y h k = h
either_bad false x y h k = k

pub then_bad : {A B : Type 0} (x : Result A SceneKind) (f : A → Result B SceneKind) → OnlyBad x → ((a : A) → OnlyBad (f a)) → OnlyBad (x >>= f)
then_bad (Ok a) f h next = next a
then_bad (Err kind) f h next = h

belows : (most limit : ℕ) (word : List ℕ) → OnlyBad (number_below most limit word)
unfolding number_below
belows most limit word = guarded _ _

pub numbers : (word : List ℕ) → OnlyBad (number word)
numbers word = belows _ _ word

cookie_numbers : (word : List ℕ) → OnlyBad (cookie word)
cookie_numbers word = belows _ _ word

pub withins : (least most : ℕ) (word : List ℕ) → OnlyBad (number_within least most word)
unfolding number_within
withins least most word = then_bad (number word) _ (numbers word) (λ n. guarded _ n)

masks : (word : List ℕ) → OnlyBad (mask word)
unfolding mask
masks word = then_bad (number_within 0 31 word) _ (withins 0 31 word) (λ bits. tt)

timeouts : (word : List ℕ) → OnlyBad (timeout_word word)
unfolding timeout_word
timeouts word = either_bad (bytes_eq word (codes "-1")) _ _ tt (then_bad (number word) _ (numbers word) (λ millis. tt))

paths : (word : List ℕ) → OnlyBad (path_word word)
unfolding path_word
paths word = guarded _ _

port_flags_bad : (word : List ℕ) → OnlyBad (port_flags word)
unfolding port_flags
port_flags_bad word = either_bad (bytes_eq word (codes "none")) _ _ tt (either_bad (bytes_eq word (codes "ta")) _ _ tt (either_bad (bytes_eq word (codes "ns")) _ _ tt (guarded _ _)))

connect_flags_bad : (word : List ℕ) → OnlyBad (connect_flags word)
unfolding connect_flags
connect_flags_bad word = either_bad (bytes_eq word (codes "sync")) _ _ tt (either_bad (bytes_eq word (codes "sync+wait")) _ _ tt (either_bad (bytes_eq word (codes "async")) _ _ tt (guarded _ _)))

mem_flags_bad : (word : List ℕ) → OnlyBad (mem_flags word)
unfolding mem_flags
mem_flags_bad word = either_bad (bytes_eq word (codes "r")) _ _ tt (guarded _ _)

decodings : (found : Result (List ℕ) FromHexError) → OnlyBad (decoded found)
decodings (Ok bytes) = guarded _ _
decodings (Err fault) = refl

fillings : (parts : List (List ℕ)) → OnlyBad (filled parts)
unfolding filled
fillings (count ∷ value ∷ []) = then_bad (number_within 0 most_bytes count) _ (withins 0 most_bytes count) (λ count. then_bad (number_within 0 255 value) _ (withins 0 255 value) (λ value. tt))
fillings parts = refl

byte_words : (word : List ℕ) → OnlyBad (bytes_word word)
unfolding bytes_word hex_bytes
byte_words word = either_bad (starts_with nat_eq word (codes "hex:")) _ _ (decodings (decode_of (drop 4 word))) (either_bad (starts_with nat_eq word (codes "text:")) _ _ (guarded _ _)
    (either_bad (starts_with nat_eq word (codes "fill:")) _ _ (fillings (slice_split (λ byte. byte == 58) (drop 5 word))) refl))

all_asked : (offset room handles : List ℕ) → OnlyBad (asked offset room handles)
unfolding asked
all_asked offset room handles = then_bad (number offset) _ (numbers offset) (λ offset. then_bad (number_within 0 4096 room) _ (withins 0 4096 room) (λ room. then_bad (number handles) _ (numbers handles) (λ handles. tt)))

all_watched : (words : List (List ℕ)) → OnlyBad (watched words)
unfolding watched
all_watched (bits ∷ value ∷ []) = then_bad (mask bits) _ (masks bits) (λ bits. then_bad (cookie value) _ (cookie_numbers value) (λ value. tt))
all_watched words = refl

-- ---- two readings

abbrev pub Alike : {A : Type 0} → (Registers → Registers → Type 0) → Result (Registers × A) SceneKind → Result (Registers × A) SceneKind → Type 0
Alike R (Ok x) (Ok y) = R x.0 y.0 × (x.1 ≡ y.1)
Alike R (Err kind) (Err other) = (kind ≡ BadWords) × (other ≡ BadWords)
Alike R x y = ⊥

abbrev pub AlikeNamed : (Registers → Registers → Type 0) → Result Registers SceneKind → Result Registers SceneKind → Type 0
AlikeNamed R (Ok r) (Ok q) = R r q
AlikeNamed R (Err kind) (Err other) = (kind ≡ BadWords) × (other ≡ BadWords)
AlikeNamed R x y = ⊥

same : {A B : Type 0} (R : Registers → Registers → Type 0) (x : Result A SceneKind) → OnlyBad x → (f g : A → Result (Registers × B) SceneKind) → ((a : A) → Alike R (f a) (g a)) → Alike R (x >>= f) (x >>= g)
same R (Ok a) bad f g h = h a
same R (Err kind) bad f g h = (bad, bad)

handed : {A B : Type 0} (R : Registers → Registers → Type 0) (x y : Result (Registers × A) SceneKind) (f g : Registers × A → Result (Registers × B) SceneKind) → Alike R x y → ((r q : Registers) (a : A) → R r q → Alike R (f (r, a)) (g (q, a))) → Alike R (x >>= f) (y >>= g)
handed R (Ok x) (Ok y) f g h next = subst (λ a. Alike R (f x) (g (y.0, a))) h.1 (next x.0 y.0 x.1 h.0)
handed R (Err kind) (Err other) f g h next = h
handed R (Ok x) (Err other) f g h next = absurd h
handed R (Err kind) (Ok y) f g h next = absurd h

named : {B : Type 0} (R : Registers → Registers → Type 0) (x y : Result Registers SceneKind) (f g : Registers → Result (Registers × B) SceneKind) → AlikeNamed R x y → ((r q : Registers) → R r q → Alike R (f r) (g q)) → Alike R (x >>= f) (y >>= g)
named R (Ok r) (Ok q) f g h next = next r q h
named R (Err kind) (Err other) f g h next = h
named R (Ok x) (Err other) f g h next = absurd h
named R (Err kind) (Ok y) f g h next = absurd h

named_too : (R : Registers → Registers → Type 0) (x y : Result Registers SceneKind) (f g : Registers → Result Registers SceneKind) → AlikeNamed R x y → ((r q : Registers) → R r q → AlikeNamed R (f r) (g q)) → AlikeNamed R (x >>= f) (y >>= g)
named_too R (Ok r) (Ok q) f g h next = next r q h
named_too R (Err kind) (Err other) f g h next = h
named_too R (Ok x) (Err other) f g h next = absurd h
named_too R (Err kind) (Ok y) f g h next = absurd h

chosen : {B : Type 0} (R : Registers → Registers → Type 0) (test : Bool) (x y a b : Result (Registers × B) SceneKind) → Alike R x y → Alike R a b → Alike R (cond test x a) (cond test y b)
chosen R true x y a b h k = h
chosen R false x y a b h k = k

chosen_named : (R : Registers → Registers → Type 0) (test : Bool) (x y a b : Result Registers SceneKind) → AlikeNamed R x y → AlikeNamed R a b → AlikeNamed R (cond test x a) (cond test y b)
chosen_named R true x y a b h k = h
chosen_named R false x y a b h k = k

-- ---- the words that name registers

registered : List ℕ → Bool → Registers → Result (Registers × ℕ) SceneKind
registered name test r = cond test (Ok (record r { names = with_name r.names name }, place_of r.names name)) (Err BadWords)

read_hand : (R : Registers → Registers → Type 0) → Stays R → (place : ℕ) (name : List ℕ) (test : Bool) (r q : Registers) → R r q
    → Alike R (registered name test r >>= (λ read. Ok (record read.0 { reads = read.0.reads ++ record { place = place; reg = read.1 } ∷ [] }, no_handle))) (registered name test q >>= (λ read. Ok (record read.0 { reads = read.0.reads ++ record { place = place; reg = read.1 } ∷ [] }, no_handle)))
unfolding registered
read_hand R c place name true r q h = (c.reads place name r q h, refl)
read_hand R c place name false r q h = (refl, refl)

hands : (R : Registers → Registers → Type 0) → Stays R → (place : ℕ) (word : List ℕ) (r q : Registers) → R r q → Alike R (hand r place word) (hand q place word)
unfolding hand register registered
hands R c place [] r q h = (refl, refl)
hands R c place (byte ∷ name) r q h = chosen R (byte == 36) _ _ _ _ (read_hand R c place name (is_name name) r q h) (same R (number (byte ∷ name)) (numbers (byte ∷ name)) _ _ (λ n. (h, refl)))

set_one : (R : Registers → Registers → Type 0) → Stays R → (name : List ℕ) (test : Bool) (r q : Registers) → R r q
    → AlikeNamed R (registered name test r >>= (λ named. Ok (record named.0 { sets = named.0.sets ++ named.1 ∷ [] }))) (registered name test q >>= (λ named. Ok (record named.0 { sets = named.0.sets ++ named.1 ∷ [] })))
unfolding registered
set_one R c name true r q h = c.sets name r q h
set_one R c name false r q h = (refl, refl)

one_set : (R : Registers → Registers → Type 0) → Stays R → (name : List ℕ) (r q : Registers) → R r q → AlikeNamed R (with_set r name) (with_set q name)
unfolding with_set register registered
one_set R c name r q h = set_one R c name (is_name name) r q h

some_sets : (R : Registers → Registers → Type 0) → Stays R → (names : List (List ℕ)) (r q : Registers) → R r q → AlikeNamed R (with_sets r names) (with_sets q names)
unfolding with_sets
some_sets R c [] r q h = h
some_sets R c (name ∷ names) r q h = named_too R (with_set r name) (with_set q name) _ _ (one_set R c name r q h) (λ r q h. some_sets R c names r q h)

ones : (R : Registers → Registers → Type 0) → Stays R → (words : List (List ℕ)) (r q : Registers) → R r q → AlikeNamed R (as_one r words) (as_one q words)
unfolding as_one
ones R c [] r q h = h
ones R c (word ∷ []) r q h = (refl, refl)
ones R c (word ∷ name ∷ []) r q h = chosen_named R (bytes_eq word (codes "as")) _ _ _ _ (one_set R c name r q h) (refl, refl)
ones R c (word ∷ name ∷ other ∷ words) r q h = (refl, refl)

somes : (R : Registers → Registers → Type 0) → Stays R → (words : List (List ℕ)) (r q : Registers) → R r q → AlikeNamed R (as_some r words) (as_some q words)
unfolding as_some
somes R c [] r q h = h
somes R c (word ∷ []) r q h = (refl, refl)
somes R c (word ∷ name ∷ names) r q h = chosen_named R (bytes_eq word (codes "as") && nat_lt (length names) 8) _ _ _ _ (some_sets R c (name ∷ names) r q h) (refl, refl)

sent : (R : Registers → Registers → Type 0) → Stays R → (handles : List ℕ) (words : List (List ℕ)) (r q : Registers) → R r q → Alike R (parts r handles words) (parts q handles words)
unfolding parts
sent R c handles [] r q h = (h, refl)
sent R c handles (word ∷ words) r q h = handed R (hand r (length handles + 1) word) (hand q (length handles + 1) word) _ _ (hands R c (length handles + 1) word r q h) (λ r q handle h. sent R c (handles ++ handle ∷ []) words r q h)

-- ---- lines of threads

-- a register is named last, and the call is known
done : (R : Registers → Registers → Type 0) → Stays R → (words : List (List ℕ)) (r q : Registers) (call : Call) → R r q → Alike R (as_one r words >>= (λ r. Ok (r, call))) (as_one q words >>= (λ r. Ok (r, call)))
done R c words r q call h = named R (as_one r words) (as_one q words) _ _ (ones R c words r q h) (λ r q h. (h, refl))

abbrev LineAlike : (Registers → List (List ℕ) → Spelled) → Type 1
LineAlike line = (R : Registers → Registers → Type 0) → Stays R → (words : List (List ℕ)) (r q : Registers) → R r q → Alike R (line r words) (line q words)

ports : LineAlike port_line
unfolding port_line
ports R c (path ∷ bufs ∷ size ∷ flags ∷ rest) r q h = same R (path_word path) (paths path) _ _ (λ path. same R (number bufs) (numbers bufs) _ _ (λ bufs. same R (number size) (numbers size) _ _ (λ size. same R (port_flags flags) (port_flags_bad flags) _ _ (λ flags. done R c rest r q _ h))))
ports R c words r q h = (refl, refl)

connects : LineAlike connect_line
unfolding connect_line
connects R c (path ∷ flags ∷ rest) r q h = same R (path_word path) (paths path) _ _ (λ path. same R (connect_flags flags) (connect_flags_bad flags) _ _ (λ flags. done R c rest r q _ h))
connects R c words r q h = (refl, refl)

accepts : LineAlike accept_line
unfolding accept_line
accepts R c (port ∷ rest) r q h = handed R (hand r 0 port) (hand q 0 port) _ _ (hands R c 0 port r q h) (λ r q port h. done R c rest r q _ h)
accepts R c words r q h = (refl, refl)

waits : LineAlike wait_line
unfolding wait_line
waits R c (handle ∷ timeout ∷ rest) r q h = handed R (hand r 0 handle) (hand q 0 handle) _ _ (hands R c 0 handle r q h) (λ r q handle h. same R (timeout_word timeout) (timeouts timeout) _ _ (λ timeout. done R c rest r q _ h))
waits R c words r q h = (refl, refl)

waits_any : LineAlike waitany_line
unfolding waitany_line
waits_any R c (timeout ∷ rest) r q h = same R (timeout_word timeout) (timeouts timeout) _ _ (λ timeout. done R c rest r q _ h)
waits_any R c words r q h = (refl, refl)

sends : LineAlike send_line
unfolding send_line
sends R c (chan ∷ bytes ∷ handles) r q h = chosen R (nat_le (length handles) 16) _ _ _ _ (handed R (hand r 0 chan) (hand q 0 chan) _ _ (hands R c 0 chan r q h) (λ r q chan h. same R (bytes_word bytes) (byte_words bytes) _ _ (λ bytes. handed R (parts r [] handles) (parts q [] handles) _ _ (sent R c [] handles r q h) (λ r q sent h. (h, refl))))) (refl, refl)
sends R c words r q h = (refl, refl)

gets : LineAlike get_line
unfolding get_line
gets R c (chan ∷ rest) r q h = handed R (hand r 0 chan) (hand q 0 chan) _ _ (hands R c 0 chan r q h) (λ r q chan h. done R c rest r q _ h)
gets R c words r q h = (refl, refl)

reads : LineAlike read_line
unfolding read_line
reads R c (chan ∷ id ∷ offset ∷ room ∷ handles ∷ rest) r q h = handed R (hand r 0 chan) (hand q 0 chan) _ _ (hands R c 0 chan r q h) (λ r q chan h. handed R (hand r 1 id) (hand q 1 id) _ _ (hands R c 1 id r q h)
    (λ r q id h. same R (asked offset room handles) (all_asked offset room handles) _ _ (λ asked. named R (as_some r rest) (as_some q rest) _ _ (somes R c rest r q h) (λ r q h. (h, refl)))))
reads R c words r q h = (refl, refl)

puts : LineAlike put_line
unfolding put_line
puts R c (chan ∷ id ∷ []) r q h = handed R (hand r 0 chan) (hand q 0 chan) _ _ (hands R c 0 chan r q h) (λ r q chan h. handed R (hand r 1 id) (hand q 1 id) _ _ (hands R c 1 id r q h) (λ r q id h. (h, refl)))
puts R c words r q h = (refl, refl)

cookies : LineAlike cookie_line
unfolding cookie_line
cookies R c (handle ∷ value ∷ []) r q h = handed R (hand r 0 handle) (hand q 0 handle) _ _ (hands R c 0 handle r q h) (λ r q handle h. same R (cookie value) (cookie_numbers value) _ _ (λ value. (h, refl)))
cookies R c words r q h = (refl, refl)

closes : LineAlike close_line
unfolding close_line
closes R c (handle ∷ []) r q h = handed R (hand r 0 handle) (hand q 0 handle) _ _ (hands R c 0 handle r q h) (λ r q handle h. (h, refl))
closes R c words r q h = (refl, refl)

dups : LineAlike dup_line
unfolding dup_line
dups R c (handle ∷ rest) r q h = handed R (hand r 0 handle) (hand q 0 handle) _ _ (hands R c 0 handle r q h) (λ r q handle h. done R c rest r q _ h)
dups R c words r q h = (refl, refl)

sets : LineAlike set_line
unfolding set_line
sets R c rest r q h = done R c rest r q _ h

adds : LineAlike add_line
unfolding add_line
adds R c (set ∷ handle ∷ rest) r q h = handed R (hand r 0 set) (hand q 0 set) _ _ (hands R c 0 set r q h) (λ r q set h. handed R (hand r 1 handle) (hand q 1 handle) _ _ (hands R c 1 handle r q h) (λ r q handle h. same R (watched rest) (all_watched rest) _ _ (λ watched. (h, refl))))
adds R c words r q h = (refl, refl)

dels : LineAlike del_line
unfolding del_line
dels R c (set ∷ label ∷ []) r q h = handed R (hand r 0 set) (hand q 0 set) _ _ (hands R c 0 set r q h) (λ r q set h. handed R (hand r 1 label) (hand q 1 label) _ _ (hands R c 1 label r q h) (λ r q label h. (h, refl)))
dels R c words r q h = (refl, refl)

mods : LineAlike mod_line
unfolding mod_line
mods R c (set ∷ label ∷ rest) r q h = handed R (hand r 0 set) (hand q 0 set) _ _ (hands R c 0 set r q h) (λ r q set h. handed R (hand r 1 label) (hand q 1 label) _ _ (hands R c 1 label r q h) (λ r q label h. same R (watched rest) (all_watched rest) _ _ (λ watched. (h, refl))))
mods R c words r q h = (refl, refl)

memrefs : LineAlike memref_line
unfolding memref_line
memrefs R c (size ∷ flags ∷ rest) r q h = same R (number size) (numbers size) _ _ (λ size. same R (mem_flags flags) (mem_flags_bad flags) _ _ (λ flags. done R c rest r q _ h))
memrefs R c words r q h = (refl, refl)

mreads : LineAlike mread_line
unfolding mread_line
mreads R c (handle ∷ offset ∷ len ∷ []) r q h = handed R (hand r 0 handle) (hand q 0 handle) _ _ (hands R c 0 handle r q h) (λ r q handle h. same R (number offset) (numbers offset) _ _ (λ offset. same R (number_within 0 most_bytes len) (withins 0 most_bytes len) _ _ (λ len. (h, refl))))
mreads R c words r q h = (refl, refl)

mwrites : LineAlike mwrite_line
unfolding mwrite_line
mwrites R c (handle ∷ offset ∷ bytes ∷ []) r q h = handed R (hand r 0 handle) (hand q 0 handle) _ _ (hands R c 0 handle r q h) (λ r q handle h. same R (number offset) (numbers offset) _ _ (λ offset. same R (bytes_word bytes) (byte_words bytes) _ _ (λ bytes. (h, refl))))
mwrites R c words r q h = (refl, refl)

exits : LineAlike exit_line
unfolding exit_line
exits R c (code ∷ []) r q h = same R (number code) (numbers code) _ _ (λ code. (h, refl))
exits R c words r q h = (refl, refl)

pub calls : (call : CallWord) → LineAlike (λ r. call_line r call)
unfolding call_line any_port_line any_message_line any_handle_line any_memory_line
calls (word.Port for_port.Port) = ports
calls (word.Port for_port.Connect) = connects
calls (word.Port for_port.Accept) = accepts
calls (word.Port for_port.Wait) = waits
calls (word.Port for_port.WaitAny) = waits_any
calls (word.Port for_port.Exit) = exits
calls (word.Message for_message.Send) = sends
calls (word.Message for_message.Get) = gets
calls (word.Message for_message.Read) = reads
calls (word.Message for_message.Put) = puts
calls (word.Handle for_handle.Cookie) = cookies
calls (word.Handle for_handle.Close) = closes
calls (word.Handle for_handle.Dup) = dups
calls (word.Handle for_handle.Set) = sets
calls (word.Handle for_handle.Add) = adds
calls (word.Handle for_handle.Del) = dels
calls (word.Handle for_handle.Mod) = mods
calls (word.Memory for_memory.Create) = memrefs
calls (word.Memory for_memory.Read) = mreads
calls (word.Memory for_memory.Write) = mwrites

-- ---- lines of clients

nconnects : LineAlike nconnect_line
unfolding nconnect_line
nconnects R c (path ∷ rest) r q h = same R (path_word path) (paths path) _ _ (λ path. done R c rest r q _ h)
nconnects R c words r q h = (refl, refl)

nsends : LineAlike nsend_line
unfolding nsend_line
nsends R c (conn ∷ bytes ∷ []) r q h = handed R (hand r 0 conn) (hand q 0 conn) _ _ (hands R c 0 conn r q h) (λ r q conn h. same R (bytes_word bytes) (byte_words bytes) _ _ (λ bytes. (h, refl)))
nsends R c words r q h = (refl, refl)

nrecvs : LineAlike nrecv_line
unfolding nrecv_line
nrecvs R c (conn ∷ timeout ∷ []) r q h = handed R (hand r 0 conn) (hand q 0 conn) _ _ (hands R c 0 conn r q h) (λ r q conn h. same R (timeout_word timeout) (timeouts timeout) _ _ (λ timeout. (h, refl)))
nrecvs R c words r q h = (refl, refl)

ncloses : LineAlike nclose_line
unfolding nclose_line
ncloses R c (conn ∷ []) r q h = handed R (hand r 0 conn) (hand q 0 conn) _ _ (hands R c 0 conn r q h) (λ r q conn h. (h, refl))
ncloses R c words r q h = (refl, refl)

npokes : LineAlike npoke_line
unfolding npoke_line
npokes R c (addr ∷ bytes ∷ []) r q h = same R (number addr) (numbers addr) _ _ (λ addr. same R (bytes_word bytes) (byte_words bytes) _ _ (λ bytes. (h, refl)))
npokes R c words r q h = (refl, refl)

nkicks : LineAlike nkick_line
unfolding nkick_line
nkicks R c (queue ∷ head ∷ []) r q h = same R (number queue) (numbers queue) _ _ (λ queue. same R (number head) (numbers head) _ _ (λ head. (h, refl)))
nkicks R c words r q h = (refl, refl)

pub client_calls : (call : ClientWord) → LineAlike (λ r. client_call_line r call)
unfolding client_call_line
client_calls client.Connect = nconnects
client_calls client.Send = nsends
client_calls client.Recv = nrecvs
client_calls client.Close = ncloses
client_calls client.Poke = npokes
client_calls client.Kick = nkicks
