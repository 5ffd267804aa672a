-- Lines read again, when the names that they gave are there already, or with any names at all.
use Rattle.std.proofs.Common.{◌≡◌, ℕ, ◌+◌, ◌<◌, Bool, true, false, not, cond, eqb, List, [], ◌∷◌, ◌++◌, length, Result, Ok, Err, refl, sym, ap, subst, ◌∙◌, append_assoc, arith}
use Rattle.std.specs.Prelude.{◌==◌, bytes_eq}
use Rattle.std.specs.List.{position_or_len}
use Rattle.std.proofs.lemmas.Bool.{eqb-true, eqb-false, ne_eqb}
use Rattle.std.proofs.lemmas.List.{append-nil, length-append}
use Rattle.std.proofs.lemmas.List.Sums.{prefix_len-le-length}
use Rattle.std.proofs.lemmas.Slice.Eq.{bytes_eq-Decides}
use Rattle.kernel_values.specs.declared.call.Call.{Call}
use Rattle.kernel_values.specs.declared.script.Command.{Command}
use Rattle.script_lines.specs.declared.fault.SceneKind.{SceneKind}
use Rattle.script_lines.specs.declared.fault.SceneKind.TheVariants.{BadWords}
use Rattle.script_lines.specs.declared.registers.Registers.{Registers}
use Rattle.script_lines.specs.declared.words.CallWord.{CallWord}
use Rattle.script_lines.specs.declared.words.ClientWord.{ClientWord}
use Rattle.script_lines.specs.Gives.{◌>>=◌}
use Rattle.script_lines.specs.Registers.{place_of, with_name}
use Rattle.script_lines.specs.Calls.{Spelled, command_line}
use Rattle.script_lines.specs.ClientCalls.{client_command_line}
use Rattle.scene_reader.proofs.Alike.{Stays, Alike, calls, client_calls}

-- ---- the place of a name

pub found_in : {A : Type 0} (p : A → Bool) (xs ys : List A) → position_or_len p xs < length xs → position_or_len p (xs ++ ys) ≡ position_or_len p xs
found_in p [] ys h = absurd (omega (arith, h))
found_in p (x ∷ xs) ys h = elim (p x) as (λ t. cond (not t) (1 + position_or_len p xs) 0 < length (x ∷ xs) → cond (not t) (1 + position_or_len p (xs ++ ys)) 0 ≡ cond (not t) (1 + position_or_len p xs) 0) [
  | true ↦ λ h. refl
  | false ↦ λ h. ap (λ n. 1 + n) (found_in p xs ys (omega (arith, h)))
] h

absent_in : {A : Type 0} (p : A → Bool) (xs ys : List A) (y : A) → position_or_len p xs ≡ length xs → p y ≡ true → position_or_len p (xs ++ y ∷ ys) ≡ length xs
absent_in p [] ys y h e = rw e refl
absent_in p (x ∷ xs) ys y h e = elim (p x) as (λ t. cond (not t) (1 + position_or_len p xs) 0 ≡ length (x ∷ xs) → cond (not t) (1 + position_or_len p (xs ++ y ∷ ys)) 0 ≡ length (x ∷ xs)) [
  | true ↦ λ h. absurd (omega (arith, h))
  | false ↦ λ h. omega (arith, absent_in p xs ys y (omega (arith, h)) e)
] h

same_word : (name : List ℕ) → bytes_eq name name ≡ true
same_word name = (bytes_eq-Decides name name).1 refl

-- ---- lines read again

abbrev pub Begins : List (List ℕ) → List (List ℕ) → Type 0
Begins names more = record { rest : List (List ℕ); is : more ≡ names ++ rest }

abbrev pub AsBefore : List (List ℕ) → Registers → Registers → Type 0
AsBefore more r q = Begins r.names more → record { names : q.names ≡ more; reads : q.reads ≡ r.reads; sets : q.sets ≡ r.sets }

record Known (names more : List (List ℕ)) (name : List ℕ) : Type 0 where
  before : Begins names more
  place : place_of more name ≡ place_of names name
  kept : with_name more name ≡ more

not_longer : (more : List (List ℕ)) (name : List ℕ) → place_of more name < length more → with_name more name ≡ more
not_longer more name h = rw (ne_eqb (place_of more name) (length more) (λ e. omega (arith, h, e))) refl

known_by : (names rest : List (List ℕ)) (name : List ℕ) (t : Bool) → eqb (place_of names name) (length names) ≡ t → Known names (cond t (names ++ name ∷ []) names ++ rest) name
unfolding place_of
known_by names rest name true e =
    let last = eqb-true (place_of names name) (length names) e in
    let whole : (names ++ name ∷ []) ++ rest ≡ names ++ name ∷ rest = append_assoc names (name ∷ []) rest in
    let found : place_of ((names ++ name ∷ []) ++ rest) name ≡ length names = ap (λ all. place_of all name) whole ∙ absent_in (λ other. bytes_eq other name) names rest name last (same_word name) in
    record {
      before = record { rest = name ∷ rest; is = whole };
      place = found ∙ sym last;
      kept = not_longer ((names ++ name ∷ []) ++ rest) name (omega (arith, found, length-append (names ++ name ∷ []) rest, length-append names (name ∷ [])));
    }
known_by names rest name false e =
    let inside : place_of names name < length names = omega (arith, eqb-false (place_of names name) (length names) e, prefix_len-le-length (λ other. not (bytes_eq other name)) names) in
    let found = found_in (λ other. bytes_eq other name) names rest inside in
    record {
      before = record { rest = rest; is = refl };
      place = found;
      kept = not_longer (names ++ rest) name (omega (arith, found, inside, length-append names rest));
    }

known : (names more : List (List ℕ)) (name : List ℕ) → Begins (with_name names name) more → Known names more name
known names more name h = subst (λ all. Known names all name) (sym h.is) (known_by names h.rest name (eqb (place_of names name) (length names)) refl)

again : (more : List (List ℕ)) → Stays (AsBefore more)
again more = record {
  reads = λ place name r q h begins.
      let k = known r.names more name begins in
      let old = h k.before in
      record {
        names = rw old.names k.kept;
        reads = rw (old.names, old.reads, k.place) refl;
        sets = old.sets;
      };
  sets = λ name r q h begins.
      let k = known r.names more name begins in
      let old = h k.before in
      record {
        names = rw old.names k.kept;
        reads = old.reads;
        sets = rw (old.names, old.sets, k.place) refl;
      };
}

abbrev named_call : Registers × Call → Result (List (List ℕ) × Command) SceneKind
named_call spelled = Ok (spelled.0.names, record { call = spelled.1; reads = spelled.0.reads; sets = spelled.0.sets })

reread : (more : List (List ℕ)) (x y : Spelled) (read : List (List ℕ) × Command) → Alike (AsBefore more) x y → (x >>= named_call) ≡ Ok read → Begins read.0 more → (y >>= named_call) ≡ Ok (more, read.1)
reread more (Ok a) (Ok b) read h e begins =
    let is : (a.0.names, record { call = a.1; reads = a.0.reads; sets = a.0.sets }) ≡ read = cc in
    let old = h.0 (subst (λ found. Begins found.0 more) (sym is) begins) in
    rw (old.names, old.reads, old.sets, ← h.1) (ap (λ found. Ok (more, found.1)) is)
reread more (Err kind) y read h e begins = absurd cc
reread more (Ok a) (Err other) read h e begins = absurd h

-- a line that is read again names nothing new, and calls the same
pub again_read : (names more : List (List ℕ)) (word : CallWord) (words : List (List ℕ)) (read : List (List ℕ) × Command) → command_line names word words ≡ Ok read → Begins read.0 more → command_line more word words ≡ Ok (more, read.1)
unfolding command_line
again_read names more word words read e begins = reread more _ _ read (calls word (AsBefore more) (again more) words _ _ (λ begins. record { names = refl; reads = refl; sets = refl })) e begins

pub again_read_client : (names more : List (List ℕ)) (word : ClientWord) (words : List (List ℕ)) (read : List (List ℕ) × Command) → client_command_line names word words ≡ Ok read → Begins read.0 more → client_command_line more word words ≡ Ok (more, read.1)
unfolding client_command_line
again_read_client names more word words read e begins = reread more _ _ read (client_calls word (AsBefore more) (again more) words _ _ (λ begins. record { names = refl; reads = refl; sets = refl })) e begins

-- ---- with any names

anything : Stays (λ r q. Unit {0})
anything = record { reads = λ place name r q h. tt; sets = λ name r q h. tt }

-- both give a command, of one payload, or both have bad words
abbrev pub OneFate : Result (List (List ℕ) × Command) SceneKind → Result (List (List ℕ) × Command) SceneKind → Type 0
OneFate (Ok read) (Ok other) = Unit {0}
OneFate (Err kind) (Err other) = (kind ≡ BadWords) × (other ≡ BadWords)
OneFate x y = ⊥

fated : (x y : Spelled) → Alike (λ r q. Unit {0}) x y → OneFate (x >>= named_call) (y >>= named_call)
fated (Ok a) (Ok b) h = tt
fated (Err kind) (Err other) h = h
fated (Ok a) (Err other) h = absurd h
fated (Err kind) (Ok b) h = absurd h

pub any_names : (names others : List (List ℕ)) (word : CallWord) (words : List (List ℕ)) → OneFate (command_line names word words) (command_line others word words)
unfolding command_line
any_names names others word words = fated _ _ (calls word (λ r q. Unit {0}) anything words _ _ tt)

pub any_client_names : (names others : List (List ℕ)) (word : ClientWord) (words : List (List ℕ)) → OneFate (client_command_line names word words) (client_command_line others word words)
unfolding client_command_line
any_client_names names others word words = fated _ _ (client_calls word (λ r q. Unit {0}) anything words _ _ tt)

-- ---- names are only added

abbrev GrownFrom : List (List ℕ) → Registers → Registers → Type 0
GrownFrom base r q = Begins base r.names

longer : (base names : List (List ℕ)) (name : List ℕ) (t : Bool) → Begins base names → Begins base (cond t (names ++ name ∷ []) names)
longer base names name true h = record { rest = h.rest ++ name ∷ []; is = ap (λ all. all ++ name ∷ []) h.is ∙ append_assoc base h.rest (name ∷ []) }
longer base names name false h = h

grows : (base : List (List ℕ)) → Stays (GrownFrom base)
grows base = record {
  reads = λ place name r q h. longer base r.names name (place_of r.names name == length r.names) h;
  sets = λ name r q h. longer base r.names name (place_of r.names name == length r.names) h;
}

grown : (base : List (List ℕ)) (x : Spelled) (read : List (List ℕ) × Command) → Alike (GrownFrom base) x x → (x >>= named_call) ≡ Ok read → Begins base read.0
grown base (Ok a) read h e =
    let is : (a.0.names, record { call = a.1; reads = a.0.reads; sets = a.0.sets }) ≡ read = cc in
    subst (λ found. Begins base found.0) is h.0
grown base (Err kind) read h e = absurd cc

pub names_grow : (names : List (List ℕ)) (word : CallWord) (words : List (List ℕ)) (read : List (List ℕ) × Command) → command_line names word words ≡ Ok read → Begins names read.0
unfolding command_line
names_grow names word words read e = grown names _ read (calls word (GrownFrom names) (grows names) words _ _ (record { rest = []; is = sym (append-nil names) })) e

pub client_names_grow : (names : List (List ℕ)) (word : ClientWord) (words : List (List ℕ)) (read : List (List ℕ) × Command) → client_command_line names word words ≡ Ok read → Begins names read.0
unfolding client_command_line
client_names_grow names word words read e = grown names _ read (client_calls word (GrownFrom names) (grows names) words _ _ (record { rest = []; is = sym (append-nil names) })) e
