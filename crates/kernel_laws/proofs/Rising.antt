-- Object numbers rise, and none is given twice.
use Rattle.std.proofs.Common.{◌≡◌, ◌≤◌, ◌<◌, ℕ, ◌+◌, ◌++◌, ◌==◌, ◌||◌, Bool, true, false, cond, not, List, [], ◌∷◌, length, map, Option, Some, None, refl, sym, ◌∙◌, subst, ap, arith, tests, append_assoc, append-nil, length-append}
use Rattle.std.specs.List.{filter, position_or_len}
use Rattle.std.specs.Option.{option_map, option_or, is_some}
use Rattle.kernel_values.specs.SceneLaw.{SceneValue}
use Rattle.kernel_values.specs.declared.entry.Entry.{Entry}
use Rattle.kernel_values.specs.declared.entry.Event.{Event}
use Rattle.kernel_values.specs.declared.state.Body.{Body}
use Rattle.kernel_values.specs.declared.state.Object.{Object}
use Rattle.kernel_values.specs.declared.state.Port.{Port}
use Rattle.kernel_values.specs.declared.state.CoreState.{CoreState}
use Rattle.kernel_values.specs.declared.state.State.{State}
use Rattle.kernel_types.specs.Applications.{application_ended, started}
use Rattle.kernel_types.specs.History.{state_after}
use Rattle.kernel_types.specs.Objects.{changed, is_there, on_body, on_set}
use Rattle.kernel_types.specs.Opening.{opening}
use Rattle.kernel_types.specs.Ports.{admitted, decided, end_is_admitted, new_server, publish, server_of}
use Rattle.kernel_types.specs.CoreStep.{core_idle}
use Rattle.kernel_types.specs.Step.{Stepped, step}
use Rattle.kernel_laws.specs.Numbers.{HasRisingNumbers, IsSpent, RisesFrom}
use Rattle.kernel_laws.proofs.Found.{changed_cons, found, found_append, found_changed, found_filter, found_map}
use Rattle.kernel_laws.proofs.Publishing.{servers_new}
use Rattle.kernel_laws.proofs.Starts.{same_ended, same_idle, same_started}
use Rattle.kernel_laws.proofs.Tells.{IsNew}
use Rattle.kernel_values.specs.declared.call.Call.{Call}
use Rattle.kernel_values.specs.declared.entry.Seqs.{Seqs}
use Rattle.kernel_values.specs.declared.reply.Answer.{Answer}
use Rattle.step_laws.specs.Walks.{IsWalk, ThreadChange, after_thread}
use Rattle.step_laws.specs.Walks.ThreadChange.{app_over, app_started, member_added, set_made}
use Rattle.kernel_types.specs.Sets.{new_member, with_member}
use Rattle.step_laws.proofs.Invariants.{Invariant, holds_along, step_keeps, walk_keeps}
use Rattle.step_laws.proofs.Shapes.{Shape, by_shapes, shaped, swept_by_shapes}
use Rattle.step_laws.proofs.Shapes.Shape.{of_all, of_apps, of_fewer, of_more, of_one, of_port}

-- Rising numbers.

pub lower : (low from : ℕ) (objects : List Object) (high : ℕ) → low ≤ from → RisesFrom from objects high → RisesFrom low objects high
lower low from [] high le rises = omega arith
lower low from (object ∷ objects) high le rises = (omega (arith, rises.0), rises.1)

pub rises_changed : (f : Body → Body) (low : ℕ) (objects : List Object) (high id : ℕ) → RisesFrom low objects high → RisesFrom low (changed f objects id) high
rises_changed f low [] high id rises = rises
rises_changed f low (object ∷ objects) high id rises =
    subst (λ os. RisesFrom low os high) (sym (changed_cons f object objects id))
    (elim (object.id == id) as (λ b. RisesFrom low (cond b (on_body f object ∷ objects) (object ∷ changed f objects id)) high) [
      | true ↦ (rises.0, rises.1)
      | false ↦ (rises.0, rises_changed f (object.id + 1) objects high id rises.1)
    ])

pub rises_mapped : (h : Object → Object) → ((object : Object) → (h object).id ≡ object.id) → (low : ℕ) (objects : List Object) (high : ℕ) → RisesFrom low objects high
    → RisesFrom low (map h objects) high
rises_mapped h keeps low [] high rises = rises
rises_mapped h keeps low (object ∷ objects) high rises = (
  omega (arith, keeps object, rises.0),
  subst (λ (n : ℕ). RisesFrom (n + 1) (map h objects) high) (sym (keeps object)) (rises_mapped h keeps (object.id + 1) objects high rises.1),
)

pub rises_filtered : (p : Object → Bool) (low : ℕ) (objects : List Object) (high : ℕ) → RisesFrom low objects high → RisesFrom low (filter p objects) high
rises_filtered p low [] high rises = rises
rises_filtered p low (object ∷ objects) high rises =
    let rest : RisesFrom (object.id + 1) (filter p objects) high = rises_filtered p (object.id + 1) objects high rises.1 in
    elim (p object) as (λ b. RisesFrom low (cond b (object ∷ filter p objects) (filter p objects)) high) [
      | true ↦ (rises.0, rest)
      | false ↦ lower low (object.id + 1) (filter p objects) high (omega (arith, rises.0)) rest
    ]

pub rises_appended : (low : ℕ) (objects : List Object) (middle : ℕ) (more : List Object) (high : ℕ) → RisesFrom low objects middle → RisesFrom middle more high
    → RisesFrom low (objects ++ more) high
rises_appended low [] middle more high rises others = lower low middle more high rises others
rises_appended low (object ∷ objects) middle more high rises others = (rises.0, rises_appended (object.id + 1) objects middle more high rises.1 others)

-- the ends that wait for a port have rising numbers too, so the k-th of their server ends has the k-th number

abbrev pub Ascends : ℕ → List ℕ → Type 0
Ascends low [] = Unit {0}
Ascends low (n ∷ ns) = (low ≤ n) × Ascends (n + 1) ns

lower_numbers : (low from : ℕ) (ns : List ℕ) → low ≤ from → Ascends from ns → Ascends low ns
lower_numbers low from [] le up = tt
lower_numbers low from (n ∷ ns) le up = (omega (arith, up.0), up.1)

pub admitted_ascend : (p : Object → Bool) (low : ℕ) (objects : List Object) (high : ℕ) → RisesFrom low objects high → Ascends low (map (λ object. object.id) (filter p objects))
admitted_ascend p low [] high rises = tt
admitted_ascend p low (object ∷ objects) high rises =
    let rest : Ascends (object.id + 1) (map (λ o. o.id) (filter p objects)) = admitted_ascend p (object.id + 1) objects high rises.1 in
    elim (p object) as (λ b. Ascends low (map (λ o. o.id) (cond b (object ∷ filter p objects) (filter p objects)))) [
      | true ↦ (rises.0, rest)
      | false ↦ lower_numbers low (object.id + 1) (map (λ o. o.id) (filter p objects)) (omega (arith, rises.0)) rest
    ]

later : (low x : ℕ) (ys xs : List ℕ) → Ascends low (ys ++ x ∷ xs) → low ≤ x
later low x [] xs up = up.0
later low x (y ∷ ys) xs up = omega (arith, up.0, later (y + 1) x ys xs up.1)

place_is : (low x : ℕ) (ys xs : List ℕ) → Ascends low (ys ++ x ∷ xs) → position_or_len (λ other. other == x) (ys ++ x ∷ xs) ≡ length ys
place_is low x [] xs up =
    let here : (x == x) ≡ true = grind (arith, tests) in
    ap (λ b. cond (not b) (1 + position_or_len (λ other. other == x) xs) 0) here
place_is low x (y ∷ ys) xs up =
    let n : ℕ = position_or_len (λ other. other == x) (ys ++ x ∷ xs) in
    let below : y + 1 ≤ x = later (y + 1) x ys xs up.1 in
    let other : (y == x) ≡ false = grind (arith, tests) in
    ap (λ b. cond (not b) (1 + n) 0) other ∙ omega (arith, place_is (y + 1) x ys xs up.1)

pub servers_rise : (port : Port) (first low : ℕ) (ys xs : List ℕ) → Ascends low (ys ++ xs) → RisesFrom (first + length ys) (map (new_server port first (ys ++ xs)) xs) (first + length (ys ++ xs))
servers_rise port first low ys [] up = omega (arith, ap (λ (ns : List ℕ). length ns) (append-nil ys))
servers_rise port first low ys (x ∷ xs) up =
    let all : List ℕ = ys ++ x ∷ xs in
    let place : position_or_len (λ other. other == x) all ≡ length ys = place_is low x ys xs up in
    let moved : (ys ++ x ∷ []) ++ xs ≡ all = append_assoc ys (x ∷ []) xs in
    let rest : RisesFrom (first + length (ys ++ x ∷ [])) (map (new_server port first all) xs) (first + length all) =
    subst (λ (l : List ℕ). RisesFrom (first + length (ys ++ x ∷ [])) (map (new_server port first l) xs) (first + length l)) moved
    (servers_rise port first low (ys ++ x ∷ []) xs (subst (λ (l : List ℕ). Ascends low l) (sym moved) up)) in (
      omega (arith, place),
      lower (server_of first all x + 1) (first + length (ys ++ x ∷ [])) (map (new_server port first all) xs) (first + length all)
          (omega (arith, place, length-append ys (x ∷ []))) rest,
    )

abbrev pub Rises : CoreState → Type 0
Rises c = RisesFrom 0 c.objects c.next

rises_published : (c : CoreState) → Rises c → (port : Port) → Rises (publish port c)
unfolding admitted
rises_published c rises port =
    let first : ℕ = c.next + 1 in
    let clients : List ℕ = admitted port c.objects in
    let up : Ascends 0 clients = admitted_ascend (λ object. end_is_admitted port object.body) 0 c.objects c.next rises in
    let servers : RisesFrom first (map (new_server port first clients) clients) (first + length clients) =
    lower first (first + 0) (map (new_server port first clients) clients) (first + length clients) (omega arith) (servers_rise port first 0 [] clients up) in
    rises_appended 0 (map (decided port first clients) c.objects) c.next _ (first + length clients)
    (rises_mapped (decided port first clients) (λ object. refl) 0 c.objects c.next rises) (omega arith, servers)

rises_same : (c d : CoreState) → (d.objects ≡ c.objects) × (d.next ≡ c.next) → Rises c → Rises d
rises_same c d same rises = subst (λ (n : ℕ). RisesFrom 0 d.objects n) (sym same.1) (subst (λ objects. RisesFrom 0 objects c.next) (sym same.0) rises)

shape_rises : (c : CoreState) → Rises c → (shape : Shape c) → Rises (shaped c shape)
shape_rises c k (of_apps apps) = k
shape_rises c k (of_one f id) = rises_changed f 0 c.objects c.next id k
shape_rises c k (of_all f) = rises_mapped (on_body f) (λ object. refl) 0 c.objects c.next k
shape_rises c k (of_fewer p) = rises_filtered (λ object. p object.id) 0 c.objects c.next k
shape_rises c k (of_more b) = rises_appended 0 c.objects c.next _ (c.next + 1) k (omega arith, omega arith)
shape_rises c k (of_port port) = rises_published c k port

thread_rises : (app thread : ℕ) (asked : Call) (said : Answer) (c : CoreState) → Rises c → (change : ThreadChange app thread asked said c) → Rises (after_thread app thread asked said c change)
thread_rises app thread asked said c k (set_made is made room) = rises_appended 0 c.objects c.next _ (c.next + 1) k (omega arith, omega arith)
thread_rises app thread asked said c k (member_added held handle mask cookie id set entry is here may) =
    rises_changed (on_set (with_member (new_member handle entry.object mask cookie))) 0 c.objects c.next id k
thread_rises app thread asked said c k (app_started place was there still connects) = rises_same c (started place c) (same_started place c) k
thread_rises app thread asked said c k (app_over ends) = rises_same c (application_ended app c) (same_ended app c) k
thread_rises app thread asked said c k _ = k

pub rising : Invariant
rising = record {
  holds = Rises;
  small = λ by c k made change. by_shapes Rises shape_rises by c k change;
  call = thread_rises;
  resumed = λ thread c k. k;
  served = λ place c k. rises_same c (started place c) (same_started place c) k;
  bridged = λ end c k given. k;
  unbridged = λ end c k. k;
  passed = λ deadline c k. rises_same c (core_idle deadline c) (same_idle c deadline) k;
  swept = swept_by_shapes Rises shape_rises;
}

pub steps_rise : (s : State) (e : Event) (r : Stepped) → HasRisingNumbers s → step s e ≡ Some r → HasRisingNumbers r.state
unfolding rising
steps_rise s e r rises is = step_keeps rising s e r is rises

pub walk_rises : {asked : Option Call} {seqs : Seqs} (c d : CoreState) → IsWalk asked c seqs d → Rises c → Rises d
unfolding rising
walk_rises c d walked k = walk_keeps rising c d walked k

pub histories_rise : (scene : SceneValue) (entries : List Entry) → HasRisingNumbers (state_after (opening scene) entries)
unfolding rising opening
histories_rise scene entries = holds_along rising (opening scene) entries (omega arith)

-- Numbers that are spent.

pub record Spent (number : ℕ) (c : CoreState) : Type 0 where
  pub given : number < c.next
  pub gone : found c.objects number ≡ None

gone_changed : (f : Body → Body) (objects : List Object) (id number : ℕ) → found objects number ≡ None → found (changed f objects id) number ≡ None
gone_changed f objects id number gone =
    let nothing : Option Object = None in
    found_changed f objects id number ∙ (ap (λ o. cond (id == number) (option_map (on_body f) o) o) gone
    ∙ (elim (id == number) as (λ b. cond b nothing nothing ≡ nothing) [ true ↦ refl | false ↦ refl ]))

gone_filtered : (p : ℕ → Bool) (objects : List Object) (number : ℕ) → found objects number ≡ None → found (filter (λ object. p object.id) objects) number ≡ None
gone_filtered p objects number gone =
    let nothing : Option Object = None in
    found_filter p objects number ∙ (ap (λ o. cond (p number) o None) gone
    ∙ (elim (p number) as (λ b. cond b nothing nothing ≡ nothing) [ true ↦ refl | false ↦ refl ]))

-- new objects have other numbers
none_below : (low high number : ℕ) (o : Option Object) → number < low → IsNew low high number o → o ≡ None
none_below low high number None below new = refl
none_below low high number (Some object) below new = absurd (omega (arith, new.0))

gone_appended : (objects more : List Object) (number : ℕ) → found objects number ≡ None → found more number ≡ None → found (objects ++ more) number ≡ None
gone_appended objects more number gone others = found_append objects more number ∙ (ap (λ o. option_or o (found more number)) gone ∙ others)

gone_first : (object : Object) (objects : List Object) (number : ℕ) → number < object.id → found objects number ≡ None → found (object ∷ objects) number ≡ None
gone_first object objects number below gone =
    let other : (object.id == number) ≡ false = grind (arith, tests) in
    ap (λ b. cond b (Some object) (found objects number)) other ∙ gone

spent_published : (number : ℕ) (c : CoreState) → Spent number c → (port : Port) → Spent number (publish port c)
spent_published number c k port =
    let first : ℕ = c.next + 1 in
    let clients : List ℕ = admitted port c.objects in
    let servers : List Object = map (new_server port first clients) clients in
    let below : number < first = omega (arith, k.given) in
    let none_new : found servers number ≡ None = none_below first (first + length clients) number (found servers number) below (servers_new port first number [] clients) in
    let old : found (map (decided port first clients) c.objects) number ≡ None =
    found_map (decided port first clients) (λ object. refl) c.objects number ∙ ap (λ o. option_map (decided port first clients) o) k.gone in
    record {
      given = omega (arith, k.given);
      gone = gone_appended (map (decided port first clients) c.objects) _ number old (gone_first _ servers number k.given none_new);
    }

spent_same : (number : ℕ) (c d : CoreState) → (d.objects ≡ c.objects) × (d.next ≡ c.next) → Spent number c → Spent number d
spent_same number c d same k = record { given = omega (arith, same.1, k.given); gone = ap (λ objects. found objects number) same.0 ∙ k.gone }

shape_spends : (number : ℕ) (c : CoreState) → Spent number c → (shape : Shape c) → Spent number (shaped c shape)
shape_spends number c k (of_apps apps) = record { given = k.given; gone = k.gone }
shape_spends number c k (of_one f id) = record { given = k.given; gone = gone_changed f c.objects id number k.gone }
shape_spends number c k (of_all f) = record { given = k.given; gone = found_map (on_body f) (λ object. refl) c.objects number ∙ ap (λ o. option_map (on_body f) o) k.gone }
shape_spends number c k (of_fewer p) = record { given = k.given; gone = gone_filtered p c.objects number k.gone }
shape_spends number c k (of_more b) = record { given = omega (arith, k.given); gone = gone_appended c.objects _ number k.gone (gone_first _ [] number k.given refl) }
shape_spends number c k (of_port port) = spent_published number c k port

thread_spends : (number app thread : ℕ) (asked : Call) (said : Answer) (c : CoreState) → Spent number c → (change : ThreadChange app thread asked said c)
    → Spent number (after_thread app thread asked said c change)
thread_spends number app thread asked said c k (set_made is made room) =
    record { given = omega (arith, k.given); gone = gone_appended c.objects _ number k.gone (gone_first _ [] number k.given refl) }
thread_spends number app thread asked said c k (member_added held handle mask cookie id set entry is here may) =
    record { given = k.given; gone = gone_changed (on_set (with_member (new_member handle entry.object mask cookie))) c.objects id number k.gone }
thread_spends number app thread asked said c k (app_started place was there still connects) = spent_same number c (started place c) (same_started place c) k
thread_spends number app thread asked said c k (app_over ends) = spent_same number c (application_ended app c) (same_ended app c) k
thread_spends number app thread asked said c k _ = record { given = k.given; gone = k.gone }

spending : ℕ → Invariant
spending number = record {
  holds = Spent number;
  small = λ by c k made change. by_shapes (Spent number) (shape_spends number) by c k change;
  call = thread_spends number;
  resumed = λ thread c k. record { given = k.given; gone = k.gone };
  served = λ place c k. spent_same number c (started place c) (same_started place c) k;
  bridged = λ end c k given. record { given = k.given; gone = k.gone };
  unbridged = λ end c k. record { given = k.given; gone = k.gone };
  passed = λ deadline c k. spent_same number c (core_idle deadline c) (same_idle c deadline) k;
  swept = swept_by_shapes (Spent number) (shape_spends number);
}

there_is : (objects : List Object) (number : ℕ) → is_there objects number ≡ is_some (found objects number)
there_is [] number = refl
there_is (object ∷ objects) number =
    elim (object.id == number) as (λ b. (b || is_there objects number) ≡ is_some (cond b (Some object) (found objects number))) [ true ↦ refl | false ↦ there_is objects number ]

none_found : (o : Option Object) → is_some o ≡ false → o ≡ None
none_found None is = refl
none_found (Some object) is = absurd (cc)

inside : (number : ℕ) (s : State) → IsSpent number s → Spent number s.core
inside number s spent = record { given = spent.given; gone = none_found (found s.core.objects number) (sym (there_is s.core.objects number) ∙ spent.gone) }

outside : (number : ℕ) (s : State) → Spent number s.core → IsSpent number s
outside number s k = record { given = k.given; gone = there_is s.core.objects number ∙ ap is_some k.gone }

pub steps_spend : (s : State) (e : Event) (r : Stepped) (number : ℕ) → step s e ≡ Some r → IsSpent number s → IsSpent number r.state
unfolding spending
steps_spend s e r number is spent = outside number r.state (step_keeps (spending number) s e r is (inside number s spent))

pub histories_spend : (s : State) (entries : List Entry) (number : ℕ) → IsSpent number s → IsSpent number (state_after s entries)
unfolding spending
histories_spend s entries number spent = outside number (state_after s entries) (holds_along (spending number) s entries (inside number s spent))
