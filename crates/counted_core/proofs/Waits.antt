-- How changes of threads change what waits name.
use Rattle.std.proofs.Common.{◌≡◌, ℕ, zero, suc, ◌+◌, ◌-◌, ◌<◌, ◌≤◌, ◌^◌, Bool, true, cond, ◌==◌, List, [], ◌∷◌, ◌++◌, length, map, Some, refl, sym, ◌∙◌, ap, subst, arith, tests}
use Rattle.std.specs.Prelude.{slice_get, slice_set}
use Rattle.std.specs.List.{flat_map, fold}
use Rattle.std.proofs.lemmas.List.{length-append}
use Rattle.std.proofs.lemmas.List.Sums.{sum_by-cons}
use Rattle.kernel_values.specs.declared.state.Activity.{Activity}
use Rattle.kernel_values.specs.declared.state.Activity.TheVariants as activity
use Rattle.kernel_values.specs.declared.state.Application.{Application}
use Rattle.kernel_values.specs.declared.state.Body.{Body}
use Rattle.kernel_values.specs.declared.state.CoreState.{CoreState}
use Rattle.kernel_values.specs.declared.state.Thread.{Thread}
use Rattle.kernel_values.specs.declared.state.WaitOn.{WaitOn}
use Rattle.kernel_values.specs.declared.state.WaitOn.TheVariants as wait_on
use Rattle.kernel_types.specs.Applications.{ended_activity}
use Rattle.kernel_types.specs.CoreStep.{cancelled_activity}
use Rattle.kernel_types.specs.Names.{Name, activity_names, names_of, root, table_names, wait_names, waited_names}
use Rattle.kernel_types.specs.Objects.{is_there}
use Rattle.kernel_types.specs.Threads.{activity_changed, running_activity}
use Rattle.object_store.specs.Stock.{Held, IsSoundFrom, names_at, total_names, unnamed}
use Rattle.counted_core.specs.Held.{IsOwed, objects_of, tally, times}
use Rattle.counted_core.specs.Sending.{named_more}
use Rattle.counted_core.specs.Sweeping.{core_of, rooted}
use Rattle.counted_core.specs.Waiting.{IsExact, IsWaitable, waited_in}
use Rattle.counted_core.proofs.Naming.{AllNamed, IsLacking, More, name_one, names_all}
use Rattle.counted_core.proofs.Owing.{Settled, settles}
use Rattle.counted_core.proofs.Roots.{rooted_split}
use Rattle.counted_core.proofs.Sweeps.{both_names, first_name}
use Rattle.counted_core.proofs.Totals.{Recounted, less_total_one}

-- what a change of one item makes of a measure of what all of them name
pub part_names : {X : Type 0} (f : X → List Name) (m : List Name → ℕ) → ((one other : List Name) → m (one ++ other) ≡ m one + m other) → (xs : List X) (at : ℕ) (a b : X) (x y : ℕ)
    → slice_get xs at ≡ Some a → m (f b) + x ≡ m (f a) + y → m (flat_map f (slice_set xs at b)) + x ≡ m (flat_map f xs) + y
part_names f m both [] at a b x y is change = absurd (cc is)
part_names f m both (first ∷ xs) zero a b x y is change =
    let same : first ≡ a = cc in
    let here : m (f b) + x ≡ m (f first) + y = subst (λ z. m (f b) + x ≡ m (f z) + y) (sym same) change in
    omega (arith, here, both (f b) (flat_map f xs), both (f first) (flat_map f xs))
part_names f m both (first ∷ xs) (suc at) a b x y is change =
    let more : m (flat_map f (slice_set xs at b)) + x ≡ m (flat_map f xs) + y = part_names f m both xs at a b x y is change in
    omega (arith, more, both (f first) (flat_map f (slice_set xs at b)), both (f first) (flat_map f xs))

set_length : {X : Type 0} (xs : List X) (at : ℕ) (b : X) → length (slice_set xs at b) ≡ length xs
set_length [] at b = refl
set_length (x ∷ xs) zero b = refl
set_length (x ∷ xs) (suc at) b = let more : length (slice_set xs at b) ≡ length xs = set_length xs at b in omega (arith, more)

object_times : (o : ℕ) (ns : List Name) → times (map (λ n. n.object) ns) o ≡ names_of ns o
object_times o [] = refl
object_times o (n ∷ ns) =
    let one : times (n.object ∷ map (λ k. k.object) ns) o ≡ cond (n.object == o) 1 0 + times (map (λ k. k.object) ns) o = sum_by-cons (λ y. cond (y == o) 1 0) n.object (map (λ k. k.object) ns) in
    let more : times (map (λ k. k.object) ns) o ≡ names_of ns o = object_times o ns in
    omega (arith, one, more, first_name o n ns)

object_length : (ns : List Name) → length (map (λ n. n.object) ns) ≡ length ns
object_length [] = refl
object_length (n ∷ ns) = let more : length (map (λ k. k.object) ns) ≡ length ns = object_length ns in omega (arith, more)

-- A wait names at most one object.

waited_most : (on : WaitOn) → length (waited_names on) ≤ 1
waited_most (wait_on.Object object handle cookie) = omega arith
waited_most (wait_on.Connect end handle) = omega arith
waited_most wait_on.Any = omega arith

activity_most : (does : Activity) → length (activity_names does) ≤ 1
activity_most activity.Off = omega arith
activity_most (activity.Running start) = omega arith
activity_most (activity.Waiting start wait) = waited_most wait.on
activity_most (activity.Ended start) = omega arith

waits_most : (threads : List Thread) → length (flat_map wait_names threads) ≤ length threads
waits_most [] = omega arith
waits_most (thread ∷ threads) =
    let split : length (wait_names thread ++ flat_map wait_names threads) ≡ length (wait_names thread) + length (flat_map wait_names threads) = length-append (wait_names thread) (flat_map wait_names threads) in
    omega (arith, split, activity_most thread.activity, waits_most threads)

waits_fewer : (threads : List Thread) (at : ℕ) (a : Thread) → slice_get threads at ≡ Some a → wait_names a ≡ [] → length (flat_map wait_names threads) + 1 ≤ length threads
waits_fewer [] at a is none = absurd (cc is)
waits_fewer (thread ∷ threads) zero a is none =
    let same : thread ≡ a = cc in
    let here : wait_names thread ≡ [] = ap wait_names same ∙ none in
    let split : length (wait_names thread ++ flat_map wait_names threads) ≡ length (flat_map wait_names threads) = ap (λ l. length (l ++ flat_map wait_names threads)) here in
    omega (arith, split, waits_most threads)
waits_fewer (thread ∷ threads) (suc at) a is none =
    let split : length (wait_names thread ++ flat_map wait_names threads) ≡ length (wait_names thread) + length (flat_map wait_names threads) = length-append (wait_names thread) (flat_map wait_names threads) in
    omega (arith, split, activity_most thread.activity, waits_fewer threads at a is none)

-- the name of a wait that begins can be counted
pub wait_room : (threads : List Thread) (items : List (Held Body)) (at : ℕ) (a : Thread) → slice_get threads at ≡ Some a → wait_names a ≡ [] → IsWaitable threads items → total_names items < 2 ^ 64 - 1
wait_room threads items at a is none room =
    let may : total_names items + length threads < 2 ^ 64 + length (flat_map wait_names threads) = room in
    let few : length (flat_map wait_names threads) + 1 ≤ length threads = waits_fewer threads at a is none in
    let less : total_names items + 1 < 2 ^ 64 = omega (arith, may, few) in
    omega (arith, less)

-- Changes that leave what is waited for.

pub same_item : {X : Type 0} (xs : List X) (at : ℕ) (x : X) → slice_get xs at ≡ Some x → slice_set xs at x ≡ xs
same_item [] at x is = refl
same_item (y ∷ xs) zero x is = let same : y ≡ x = cc in ap (λ z. z ∷ xs) (sym same)
same_item (y ∷ xs) (suc at) x is = ap (λ l. y ∷ l) (same_item xs at x is)

pub set_waits : (threads : List Thread) (at : ℕ) (a b : Thread) → slice_get threads at ≡ Some a → wait_names b ≡ wait_names a → flat_map wait_names (slice_set threads at b) ≡ flat_map wait_names threads
set_waits [] at a b is same = refl
set_waits (thread ∷ threads) zero a b is same =
    let first : thread ≡ a = cc in
    ap (λ l. l ++ flat_map wait_names threads) (same ∙ ap wait_names (sym first))
set_waits (thread ∷ threads) (suc at) a b is same = ap (λ l. wait_names thread ++ l) (set_waits threads at a b is same)

pub same_waits : (apps : List Application) (threads others : List Thread) (items : List (Held Body)) (next clock : ℕ) (bridged : List ℕ)
    → flat_map wait_names others ≡ flat_map wait_names threads → length others ≡ length threads → IsExact (core_of apps threads items next clock bridged) items
    → IsExact (core_of apps others items next clock bridged) items
same_waits apps threads others items next clock bridged same long exact =
    let P : List Name → Type 0 = λ ns. (o : ℕ) → names_at items o ≡ names_of (flat_map table_names apps ++ map root bridged ++ ns) o + tally (objects_of items) o + 0 + cond (is_there (objects_of items) o) 1 0 in
    let may : total_names items + length threads < 2 ^ 64 + length (flat_map wait_names threads) = exact.waitable in
    let as_many : length (flat_map wait_names others) ≡ length (flat_map wait_names threads) = ap length same in
    let room : total_names items + length others < 2 ^ 64 + length (flat_map wait_names others) = omega (arith, may, as_many, long) in
    record { counted = record { counts = subst P (sym same) exact.counted.counts }; waitable = room }

-- one thread does something else, and waits for what it waited for
pub set_same_waits : (apps : List Application) (threads : List Thread) (items : List (Held Body)) (next clock : ℕ) (bridged : List ℕ) (at : ℕ) (a b : Thread)
    → slice_get threads at ≡ Some a → wait_names b ≡ wait_names a → IsExact (core_of apps threads items next clock bridged) items
    → IsExact (core_of apps (slice_set threads at b) items next clock bridged) items
set_same_waits apps threads items next clock bridged at a b is same exact =
    same_waits apps threads (slice_set threads at b) items next clock bridged (set_waits threads at a b is same) (set_length threads at b) exact

cancelled_names : (does : Activity) → activity_names (cancelled_activity does) ≡ activity_names does
cancelled_names activity.Off = refl
cancelled_names (activity.Running start) = refl
cancelled_names (activity.Waiting start wait) = refl
cancelled_names (activity.Ended start) = refl

cancelled_waits : (threads : List Thread) → flat_map wait_names (map (activity_changed cancelled_activity) threads) ≡ flat_map wait_names threads
cancelled_waits [] = refl
cancelled_waits (thread ∷ threads) =
    ap (λ l. l ++ flat_map wait_names (map (activity_changed cancelled_activity) threads)) (cancelled_names thread.activity)
    ∙ ap (λ l. wait_names thread ++ l) (cancelled_waits threads)

map_length : {X Y : Type 0} (f : X → Y) (xs : List X) → length (map f xs) ≡ length xs
map_length f [] = refl
map_length f (x ∷ xs) = let more : length (map f xs) ≡ length xs = map_length f xs in omega (arith, more)

pub cancels : (apps : List Application) (threads : List Thread) (items : List (Held Body)) (next clock : ℕ) (bridged : List ℕ)
    → IsExact (core_of apps threads items next clock bridged) items → IsExact (core_of apps (map (activity_changed cancelled_activity) threads) items next clock bridged) items
cancels apps threads items next clock bridged exact =
    same_waits apps threads (map (activity_changed cancelled_activity) threads) items next clock bridged (cancelled_waits threads) (map_length (activity_changed cancelled_activity) threads) exact

pub running_names : (does : Activity) → activity_names (running_activity does) ≡ []
running_names activity.Off = refl
running_names (activity.Running start) = refl
running_names (activity.Waiting start wait) = refl
running_names (activity.Ended start) = refl

pub ended_names : (does : Activity) → activity_names (ended_activity does) ≡ []
ended_names activity.Off = refl
ended_names (activity.Running start) = refl
ended_names (activity.Waiting start wait) = refl
ended_names (activity.Ended start) = refl

-- What a wait named goes.

one_debt : (roots : ℕ → ℕ) (object : ℕ) (items : List (Held Body)) → IsOwed roots items (object ∷ []) → total_names (unnamed items object) + 1 ≤ total_names items
one_debt roots object items owed =
    let here : (object == object) ≡ true = grind (arith, tests) in
    let one : times (object ∷ []) object ≡ 1 + 0 = sum_by-cons (λ y. cond (y == object) 1 0) object [] ∙ ap (λ (b : Bool). cond b 1 0 + 0) here in
    let is : names_at items object ≡ roots object + tally (objects_of items) object + times (object ∷ []) object + cond (is_there (objects_of items) object) 1 0 = owed.counts object in
    less_total_one items object (omega (arith, one, is))

debt_total : (roots : ℕ → ℕ) (on : WaitOn) (items : List (Held Body)) → IsOwed roots items (map (λ n. n.object) (waited_names on))
    → total_names (fold unnamed items (map (λ n. n.object) (waited_names on))) + length (waited_names on) ≤ total_names items
debt_total roots (wait_on.Object object handle cookie) items owed = one_debt roots object items owed
debt_total roots (wait_on.Connect end handle) items owed = one_debt roots end items owed
debt_total roots wait_on.Any items owed = omega arith

waited_total : (roots : ℕ → ℕ) (does : Activity) (items : List (Held Body)) → IsOwed roots items (waited_in does) → total_names (fold unnamed items (waited_in does)) + length (activity_names does) ≤ total_names items
waited_total roots activity.Off items owed = omega arith
waited_total roots (activity.Running start) items owed = omega arith
waited_total roots (activity.Waiting start wait) items owed = debt_total roots wait.on items owed
waited_total roots (activity.Ended start) items owed = omega arith

-- a thread does something that names nothing
pub leaves : (apps : List Application) (threads : List Thread) (items : List (Held Body)) (next clock : ℕ) (bridged : List ℕ) (at : ℕ) (a b : Thread)
    → slice_get threads at ≡ Some a → wait_names b ≡ [] → IsSoundFrom 0 items next → IsExact (core_of apps threads items next clock bridged) items
    → Recounted (core_of apps (slice_set threads at b) (fold unnamed items (waited_in a.activity)) next clock bridged) items (fold unnamed items (waited_in a.activity))
leaves apps threads items next clock bridged at a b is none sound exact =
    let c : CoreState = core_of apps threads items next clock bridged in
    let d : CoreState = core_of apps (slice_set threads at b) items next clock bridged in
    let debts : List ℕ = waited_in a.activity in
    let out : List (Held Body) = fold unnamed items debts in
    let owed : IsOwed (rooted d) items debts = record {
      counts = λ o.
          let was : names_at items o ≡ rooted c o + tally (objects_of items) o + 0 + cond (is_there (objects_of items) o) 1 0 = exact.counted.counts o in
          let paid : names_of (wait_names b) o ≡ 0 = ap (λ l. names_of l o) none in
          let owes : times debts o ≡ names_of (wait_names a) o = object_times o (wait_names a) in
          let change : names_of (flat_map wait_names (slice_set threads at b)) o + times debts o ≡ names_of (flat_map wait_names threads) o + 0 =
          part_names wait_names (λ l. names_of l o) (both_names o) threads at a b (times debts o) 0 is (omega (arith, paid, owes)) in
          omega (arith, was, change, rooted_split c o, rooted_split d o);
    } in
    let settled : Settled (rooted d) next items out = settles (rooted d) next debts items sound owed in
    let total : total_names out + length (wait_names a) ≤ total_names items = waited_total (rooted d) a.activity items owed in
    let no_wait : length (wait_names b) ≡ 0 = ap length none in
    let fewer : length (flat_map wait_names (slice_set threads at b)) + length (wait_names a) ≡ length (flat_map wait_names threads) + 0 =
    part_names wait_names length length-append threads at a b (length (wait_names a)) 0 is (omega (arith, no_wait)) in
    let may : total_names items + length threads < 2 ^ 64 + length (flat_map wait_names threads) = exact.waitable in
    let room : total_names out + length (slice_set threads at b) < 2 ^ 64 + length (flat_map wait_names (slice_set threads at b)) = omega (arith, total, fewer, may, set_length threads at b) in
    record { same = settled.same; exact = record { counted = settled.owed; waitable = room } }

-- a thread that named nothing begins to wait for an object
pub waits_for : (apps : List Application) (threads : List Thread) (items : List (Held Body)) (next clock : ℕ) (bridged : List ℕ) (at object : ℕ) (a b : Thread)
    → slice_get threads at ≡ Some a → wait_names a ≡ [] → wait_names b ≡ root object ∷ [] → is_there (objects_of items) object ≡ true → IsSoundFrom 0 items next
    → IsExact (core_of apps threads items next clock bridged) items
    → Recounted (core_of apps (slice_set threads at b) (named_more items object) next clock bridged) items (named_more items object)
waits_for apps threads items next clock bridged at object a b is none one there sound exact =
    let c : CoreState = core_of apps threads items next clock bridged in
    let d : CoreState = core_of apps (slice_set threads at b) items next clock bridged in
    let lacking : IsLacking (rooted d) items (object ∷ []) = record {
      counts = λ o.
          let was : names_at items o ≡ rooted c o + tally (objects_of items) o + 0 + cond (is_there (objects_of items) o) 1 0 = exact.counted.counts o in
          let lacks : times (object ∷ []) o ≡ names_of (wait_names b) o = object_times o (root object ∷ []) ∙ sym (ap (λ l. names_of l o) one) in
          let no_name : names_of (wait_names a) o ≡ 0 = ap (λ l. names_of l o) none in
          let change : names_of (flat_map wait_names (slice_set threads at b)) o + 0 ≡ names_of (flat_map wait_names threads) o + times (object ∷ []) o =
          part_names wait_names (λ l. names_of l o) (both_names o) threads at a b 0 (times (object ∷ []) o) is (omega (arith, lacks, no_name)) in
          omega (arith, was, change, rooted_split c o, rooted_split d o);
    } in
    let all : AllNamed (rooted d) next items (named_more items object) = names_all (rooted d) next (object ∷ []) items sound lacking
    (λ o h. let same : object ≡ o = grind (arith, tests) in subst (λ n. is_there (objects_of items) n ≡ true) same there) in
    let more : More 0 next object items = name_one 0 next object items sound in
    let total : total_names (named_more items object) ≤ total_names items + 1 = more.total in
    let no_wait : length (wait_names a) ≡ 0 = ap length none in
    let one_wait : length (wait_names b) ≡ 1 = ap length one in
    let longer : length (flat_map wait_names (slice_set threads at b)) + 0 ≡ length (flat_map wait_names threads) + 1 =
    part_names wait_names length length-append threads at a b 0 1 is (omega (arith, no_wait, one_wait)) in
    let may : total_names items + length threads < 2 ^ 64 + length (flat_map wait_names threads) = exact.waitable in
    let room : total_names (named_more items object) + length (slice_set threads at b) < 2 ^ 64 + length (flat_map wait_names (slice_set threads at b)) = omega (arith, total, longer, may, set_length threads at b) in
    record { same = all.same; exact = record { counted = all.owed; waitable = room } }
