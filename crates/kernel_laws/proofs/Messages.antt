-- The numbers in a queue of messages: of the filled ones in order, and how many opened ones have a number.
use Rattle.std.proofs.Common.{◌≡◌, ℕ, suc, ◌+◌, ◌≤◌, ◌==◌, Bool, true, false, cond, not, List, [], ◌∷◌, ◌++◌, map, Option, Some, None, refl, sym, ◌∙◌, ap, subst, arith}
use Rattle.std.specs.List.{filter, find, position_or_len}
use Rattle.std.specs.Option.{option_map}
use Rattle.std.specs.Prelude.{slice_get}
use Rattle.kernel_values.specs.declared.state.Message.{Message}
use Rattle.kernel_types.specs.Objects.{set_if, map_at}
use Rattle.kernel_types.specs.Events.{is_filled, is_unopened}
use Rattle.kernel_types.specs.Messages.{is_opened_as, has_id, opened_as}

-- the numbers of the filled messages, oldest first
abbrev pub filled : List Message → List ℕ
filled messages = map (λ message. message.seq) (filter is_filled messages)

abbrev pub one_if : Bool → ℕ
one_if b = cond b 1 0

abbrev pub one_held : ℕ → ℕ → Option ℕ → ℕ
one_held n seq None = 0
one_held n seq (Some id) = one_if (seq == n)

-- how many opened messages have this number
abbrev pub held : ℕ → List Message → ℕ
held n [] = 0
held n (message ∷ messages) = one_held n message.seq message.opened + held n messages

-- how often a number is in a list
abbrev pub times : ℕ → List ℕ → ℕ
times n [] = 0
times n (x ∷ xs) = one_if (x == n) + times n xs

pub times_push : (n : ℕ) (xs : List ℕ) (x : ℕ) → times n (xs ++ x ∷ []) ≡ times n xs + one_if (x == n)
times_push n [] x = omega arith
times_push n (y ∷ ys) x = omega (arith, times_push n ys x)

-- one more filled message
pub filled_push : (messages : List Message) (message : Message) → message.opened ≡ None → filled (messages ++ message ∷ []) ≡ filled messages ++ message.seq ∷ []
filled_push [] message new = ap (λ b. map (λ (m : Message). m.seq) (cond b (message ∷ []) [])) (ap is_unopened new)
filled_push (first ∷ messages) message new =
    elim (is_filled first) as (λ b. map (λ (m : Message). m.seq) (cond b (first ∷ filter is_filled (messages ++ message ∷ [])) (filter is_filled (messages ++ message ∷ [])))
    ≡ map (λ (m : Message). m.seq) (cond b (first ∷ filter is_filled messages) (filter is_filled messages)) ++ message.seq ∷ []) [
      | true ↦ ap (λ ns. first.seq ∷ ns) (filled_push messages message new)
      | false ↦ filled_push messages message new
    ]

held_new : (n seq : ℕ) (opened : Option ℕ) → opened ≡ None → one_held n seq opened ≡ 0
held_new n seq opened new = ap (one_held n seq) new

pub held_push : (n : ℕ) (messages : List Message) (message : Message) → message.opened ≡ None → held n (messages ++ message ∷ []) ≡ held n messages
held_push n [] message new = omega (arith, held_new n message.seq message.opened new)
held_push n (first ∷ messages) message new = ap (λ k. one_held n first.seq first.opened + k) (held_push n messages message new)

-- the oldest filled message is opened

abbrev pub opened_first : ℕ → List Message → List Message
opened_first id messages = map_at (opened_as id) messages (position_or_len is_filled messages)

opened_cons : (id : ℕ) (first : Message) (messages : List Message)
    → opened_first id (first ∷ messages) ≡ cond (is_filled first) (opened_as id first ∷ messages) (first ∷ opened_first id messages)
opened_cons id first messages =
    let n : ℕ = position_or_len is_filled messages in
    let later : (next : ℕ) → next ≡ suc n → set_if (first ∷ messages) next (option_map (opened_as id) (slice_get (first ∷ messages) next)) ≡ first ∷ opened_first id messages =
    λ next is. subst (λ (k : ℕ). set_if (first ∷ messages) k (option_map (opened_as id) (slice_get (first ∷ messages) k)) ≡ first ∷ opened_first id messages) (sym is)
    (elim (option_map (opened_as id) (slice_get messages n)) as (λ o. set_if (first ∷ messages) (suc n) o ≡ first ∷ set_if messages n o) [ None ↦ refl | Some x ↦ refl ]) in
    elim (is_filled first) as (λ b. set_if (first ∷ messages) (cond (not b) (1 + n) 0) (option_map (opened_as id) (slice_get (first ∷ messages) (cond (not b) (1 + n) 0)))
    ≡ cond b (opened_as id first ∷ messages) (first ∷ opened_first id messages)) [ true ↦ refl | false ↦ later (1 + n) (omega arith) ]

-- what the opening of a message does to the numbers
pub record Opens (id : ℕ) (message : Message) (messages : List Message) : Type 0 where
  pub first : filled messages ≡ message.seq ∷ filled (opened_first id messages)
  pub more : (n : ℕ) → held n (opened_first id messages) ≡ held n messages + one_if (message.seq == n)

unheld : (n seq : ℕ) (opened : Option ℕ) → is_unopened opened ≡ true → one_held n seq opened ≡ 0
unheld n seq None filled = refl
unheld n seq (Some id) filled = absurd (cc)

pub opens : (id : ℕ) (message : Message) (messages : List Message) → find is_filled messages ≡ Some message → Opens id message messages
opens id message [] is = absurd (cc)
opens id message (first ∷ messages) is =
    let P : Bool → Type 0 = λ b. is_filled first ≡ b → cond b (Some first) (find is_filled messages) ≡ Some message → Opens id message (first ∷ messages) in
    let go : (b : Bool) → P b = λ b. elim b as (λ v. P v) [
      | true ↦ (λ here same.
          let eq : first ≡ message = cc in
          let cons : opened_first id (first ∷ messages) ≡ opened_as id first ∷ messages = opened_cons id first messages ∙ ap (λ b. cond b (opened_as id first ∷ messages) (first ∷ opened_first id messages)) here in
          record {
            first = ap (λ b. map (λ (m : Message). m.seq) (cond b (first ∷ filter is_filled messages) (filter is_filled messages))) here
                ∙ (ap (λ (m : Message). m.seq ∷ filled messages) eq ∙ ap (λ ms. message.seq ∷ filled ms) (sym cons));
            more = λ n. ap (held n) cons ∙ (ap (λ (m : Message). one_if (m.seq == n) + held n messages) eq ∙ omega (arith, unheld n first.seq first.opened here));
          })
      | false ↦ (λ there same.
          let rest : Opens id message messages = opens id message messages same in
          let cons : opened_first id (first ∷ messages) ≡ first ∷ opened_first id messages = opened_cons id first messages ∙ ap (λ b. cond b (opened_as id first ∷ messages) (first ∷ opened_first id messages)) there in
          let skip : (ms : List Message) → filled (first ∷ ms) ≡ filled ms = λ ms. ap (λ b. map (λ (m : Message). m.seq) (cond b (first ∷ filter is_filled ms) (filter is_filled ms))) there in
          record {
            first = skip messages ∙ (rest.first ∙ (ap (λ ns. message.seq ∷ ns) (sym (skip (opened_first id messages))) ∙ ap (λ ms. message.seq ∷ filled ms) (sym cons)));
            more = λ n. ap (held n) cons ∙ omega (arith, rest.more n);
          })
    ] in
    go (is_filled first) refl is

-- a message that was opened under an id is retired

abbrev pub retired_as : ℕ → List Message → List Message
retired_as id messages = filter (λ message. not (is_opened_as id message)) messages

pub record Retires (id : ℕ) (message : Message) (messages : List Message) : Type 0 where
  pub others : filled (retired_as id messages) ≡ filled messages
  pub fewer : (n : ℕ) → held n (retired_as id messages) + one_if (message.seq == n) ≤ held n messages

kept_is_unopened : (id : ℕ) (opened : Option ℕ) → has_id id opened ≡ true → is_unopened opened ≡ false
kept_is_unopened id None is = absurd (cc)
kept_is_unopened id (Some other) is = refl

one_held_if : (n seq id : ℕ) (opened : Option ℕ) → has_id id opened ≡ true → one_held n seq opened ≡ one_if (seq == n)
one_held_if n seq id None is = absurd (cc)
one_held_if n seq id (Some other) is = refl

pub filled_retired : (id : ℕ) (messages : List Message) → filled (retired_as id messages) ≡ filled messages
filled_retired id [] = refl
filled_retired id (first ∷ messages) =
    let P : Bool → Type 0 = λ b. is_opened_as id first ≡ b → filled (cond (not b) (first ∷ retired_as id messages) (retired_as id messages)) ≡ filled (first ∷ messages) in
    let go : (b : Bool) → P b = λ b. elim b as (λ v. P v) [
      | true ↦ (λ is. filled_retired id messages ∙ ap (λ b. map (λ (m : Message). m.seq) (cond b (first ∷ filter is_filled messages) (filter is_filled messages))) (sym (kept_is_unopened id first.opened is)))
      | false ↦ (λ is. elim (is_filled first) as (λ b. map (λ (m : Message). m.seq) (cond b (first ∷ filter is_filled (retired_as id messages)) (filter is_filled (retired_as id messages)))
          ≡ map (λ (m : Message). m.seq) (cond b (first ∷ filter is_filled messages) (filter is_filled messages))) [
            | true ↦ ap (λ ns. first.seq ∷ ns) (filled_retired id messages)
            | false ↦ filled_retired id messages
          ])
    ] in
    go (is_opened_as id first) refl

pub held_retired : (n id : ℕ) (messages : List Message) → held n (retired_as id messages) ≤ held n messages
held_retired n id [] = omega arith
held_retired n id (first ∷ messages) =
    elim (is_opened_as id first) as (λ b. held n (cond (not b) (first ∷ retired_as id messages) (retired_as id messages)) ≤ held n (first ∷ messages)) [
      | true ↦ omega (arith, held_retired n id messages)
      | false ↦ omega (arith, held_retired n id messages)
    ]

held_retired_one : (n id : ℕ) (message : Message) (messages : List Message) → find (is_opened_as id) messages ≡ Some message
    → held n (retired_as id messages) + one_if (message.seq == n) ≤ held n messages
held_retired_one n id message [] is = absurd (cc)
held_retired_one n id message (first ∷ messages) is =
    let P : Bool → Type 0 = λ b. is_opened_as id first ≡ b → cond b (Some first) (find (is_opened_as id) messages) ≡ Some message
    → held n (cond (not b) (first ∷ retired_as id messages) (retired_as id messages)) + one_if (message.seq == n) ≤ held n (first ∷ messages) in
    let go : (b : Bool) → P b = λ b. elim b as (λ v. P v) [
      | true ↦ (λ here same.
          let eq : first ≡ message = cc in
          let one : one_held n first.seq first.opened ≡ one_if (first.seq == n) = one_held_if n first.seq id first.opened here in
          subst (λ (m : Message). held n (retired_as id messages) + one_if (m.seq == n) ≤ held n (first ∷ messages)) eq (omega (arith, one, held_retired n id messages)))
      | false ↦ (λ there same. omega (arith, held_retired_one n id message messages same))
    ] in
    go (is_opened_as id first) refl is

pub retires : (id : ℕ) (message : Message) (messages : List Message) → find (is_opened_as id) messages ≡ Some message → Retires id message messages
retires id message messages is = record { others = filled_retired id messages; fewer = λ n. held_retired_one n id message messages is }
