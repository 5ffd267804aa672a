-- What is told of one end so far, against the queue of that end; and what a send, an opening and a retirement do to both.
use Rattle.std.proofs.Common.{◌≡◌, ℕ, zero, suc, ◌+◌, ◌<◌, ◌≤◌, ◌==◌, true, false, List, [], ◌∷◌, ◌++◌, length, Option, Some, None, refl, sym, ◌∙◌, ap, subst, arith, tests, length-append, get_or}
use Rattle.std.specs.List.{Contains, IsDistinct, AllByRecursion, range_with_len, find}
use Rattle.std.specs.Prelude.{nat_eq, nat_lt}
use Rattle.std.proofs.lemmas.List.FromFn.{get_or-range_with_len}
use Rattle.std.proofs.lemmas.List.Elements.{All-from_recursion}
use Rattle.kernel_values.specs.declared.state.Message.{Message}
use Rattle.kernel_types.specs.Stories.{Story, IsInOrder}
use Rattle.kernel_types.specs.Events.{is_filled}
use Rattle.kernel_types.specs.Messages.{is_opened_as}
use Rattle.kernel_laws.proofs.Messages.{filled, held, times, times_push, one_if, filled_push, held_push, opened_first, opens, Opens, retired_as, retires, Retires}

-- what the law needs to know of an end
pub record Queue : Type 0 where
  pub messages : List Message
  pub sent : ℕ

abbrev pub held_in : ℕ → Option Queue → ℕ
held_in n None = 0
held_in n (Some queue) = held n queue.messages

-- the queue waits with the numbers from `opened` on, and all that were sent are `sent`
pub record Waits (opened sent : ℕ) (queue : Queue) : Type 0 where
  pub sent_is : queue.sent ≡ sent
  pub count : opened + length (filled queue.messages) ≡ sent
  pub filled_are : filled queue.messages ≡ range_with_len opened (length (filled queue.messages))

abbrev pub WaitsIf : ℕ → ℕ → Option Queue → Type 0
WaitsIf opened sent None = Unit {0}
WaitsIf opened sent (Some queue) = Waits opened sent queue

abbrev pub one_below : ℕ → ℕ → ℕ
one_below n limit = one_if (nat_lt n limit)

-- the numbers sent and opened are those from 0 on; each number was retired or is held open at most once, and only if it was opened
pub record Tale (story : Story) (queue : Option Queue) : Type 0 where
  pub sent : story.sent ≡ range_with_len 0 (length story.sent)
  pub opened : story.opened ≡ range_with_len 0 (length story.opened)
  pub few : length story.opened ≤ length story.sent
  pub once : (n : ℕ) → times n story.retired + held_in n queue ≤ one_below n (length story.opened)
  pub waits : WaitsIf (length story.opened) (length story.sent) queue

range_more : (a n : ℕ) → range_with_len a (suc n) ≡ range_with_len a n ++ (a + n) ∷ []
range_more a zero = ap (λ k. k ∷ []) (omega arith)
range_more a (suc n) =
    let moved : (a + 1) + n ≡ a + suc n = omega arith in
    ap (λ ks. a ∷ ks) (range_more (a + 1) n ∙ ap (λ k. range_with_len (a + 1) n ++ k ∷ []) moved)

length_push : (xs : List ℕ) (x : ℕ) → length (xs ++ x ∷ []) ≡ suc (length xs)
length_push xs x = length-append xs (x ∷ []) ∙ omega arith

-- a list of the numbers from `a` on, with the next one
range_push : (a : ℕ) (xs : List ℕ) (x : ℕ) → xs ≡ range_with_len a (length xs) → x ≡ a + length xs → xs ++ x ∷ [] ≡ range_with_len a (length (xs ++ x ∷ []))
range_push a xs x is next =
    ap (λ ys. ys ++ x ∷ []) is ∙ (ap (λ k. range_with_len a (length xs) ++ k ∷ []) next ∙ (sym (range_more a (length xs)) ∙ ap (range_with_len a) (sym (length_push xs x))))

-- Sent.

pub told_sent : (story : Story) (queue : Queue) (message : Message) → message.opened ≡ None → message.seq ≡ queue.sent → Tale story (Some queue)
    → Tale (record story { sent = story.sent ++ queue.sent ∷ [] }) (Some (record { messages = queue.messages ++ message ∷ []; sent = queue.sent + 1 }))
told_sent story queue message new seq tale =
    let ms : List Message = queue.messages in
    let waits : Waits (length story.opened) (length story.sent) queue = tale.waits in
    let all : filled (ms ++ message ∷ []) ≡ filled ms ++ message.seq ∷ [] = filled_push ms message new in
    let longer : length (filled (ms ++ message ∷ [])) ≡ suc (length (filled ms)) = ap (λ ns. length ns) all ∙ length_push (filled ms) message.seq in
    let next : message.seq ≡ length story.opened + length (filled ms) = omega (arith, seq, waits.sent_is, waits.count) in
    record {
      sent = range_push 0 story.sent queue.sent tale.sent (omega (arith, waits.sent_is));
      opened = tale.opened;
      few = omega (arith, length_push story.sent queue.sent, tale.few);
      once = λ n. omega (arith, held_push n ms message new, tale.once n);
      waits = record {
        sent_is = omega (arith, length_push story.sent queue.sent, waits.sent_is);
        count = omega (arith, length_push story.sent queue.sent, longer, waits.count);
        filled_are = all ∙ (range_push (length story.opened) (filled ms) message.seq waits.filled_are next ∙ ap (λ ns. range_with_len (length story.opened) (length ns)) (sym all));
      };
    }

-- Opened.

-- the first of the numbers from `o` on, and the others
range_first : (o x : ℕ) (xs : List ℕ) → x ∷ xs ≡ range_with_len o (suc (length xs)) → (x ≡ o) × (xs ≡ range_with_len (o + 1) (length xs))
range_first o x xs is = (cc, cc)

once_opened : (n o seq t h : ℕ) → seq ≡ o → t + h ≤ one_below n o → t + (h + one_if (seq == n)) ≤ one_below n (suc o)
once_opened n o seq t h is le =
    let P : ℕ → Type 0 = λ s. t + (h + one_if (s == n)) ≤ one_below n (suc o) in
    subst P (sym is) (grind (arith, tests))

pub told_opened : (story : Story) (queue : Queue) (message : Message) (id : ℕ) → find is_filled queue.messages ≡ Some message → Tale story (Some queue)
    → Tale (record story { opened = story.opened ++ message.seq ∷ [] }) (Some (record queue { messages = opened_first id queue.messages }))
told_opened story queue message id is tale =
    let ms : List Message = queue.messages in
    let waits : Waits (length story.opened) (length story.sent) queue = tale.waits in
    let one : Opens id message ms = opens id message ms is in
    let rest : List ℕ = filled (opened_first id ms) in
    let longer : length (filled ms) ≡ suc (length rest) = ap (λ ns. length ns) one.first in
    let ends : (message.seq ≡ length story.opened) × (rest ≡ range_with_len (length story.opened + 1) (length rest)) =
    range_first (length story.opened) message.seq rest (sym one.first ∙ (waits.filled_are ∙ ap (range_with_len (length story.opened)) longer)) in
    let more : length (story.opened ++ message.seq ∷ []) ≡ suc (length story.opened) = length_push story.opened message.seq in
    record {
      sent = tale.sent;
      opened = range_push 0 story.opened message.seq tale.opened (omega (arith, ends.0));
      few = omega (arith, more, longer, waits.count);
      once = λ n. subst (λ (k : ℕ). times n story.retired + held n (opened_first id ms) ≤ one_below n k) (sym more)
          (subst (λ (h : ℕ). times n story.retired + h ≤ one_below n (suc (length story.opened))) (sym (one.more n))
          (once_opened n (length story.opened) message.seq (times n story.retired) (held n ms) ends.0 (tale.once n)));
      waits = record {
        sent_is = waits.sent_is;
        count = omega (arith, more, longer, waits.count);
        filled_are = ends.1 ∙ ap (λ k. range_with_len k (length rest)) (omega (arith, more));
      };
    }

-- Retired.

pub told_retired : (story : Story) (queue : Queue) (message : Message) (id : ℕ) → find (is_opened_as id) queue.messages ≡ Some message → Tale story (Some queue)
    → Tale (record story { retired = story.retired ++ message.seq ∷ [] }) (Some (record queue { messages = retired_as id queue.messages }))
told_retired story queue message id is tale =
    let ms : List Message = queue.messages in
    let waits : Waits (length story.opened) (length story.sent) queue = tale.waits in
    let one : Retires id message ms = retires id message ms is in
    record {
      sent = tale.sent;
      opened = tale.opened;
      few = tale.few;
      once = λ n. omega (arith, times_push n story.retired message.seq, one.fewer n, tale.once n);
      waits = record {
        sent_is = waits.sent_is;
        count = omega (arith, ap (λ ns. length ns) one.others, waits.count);
        filled_are = one.others ∙ (waits.filled_are ∙ ap (λ ns. range_with_len (length story.opened) (length ns)) (sym one.others));
      };
    }

-- A queue that is gone, and one that begins.

pub told_gone : (story : Story) (queue : Option Queue) → Tale story queue → Tale story None
told_gone story queue tale = record {
  sent = tale.sent;
  opened = tale.opened;
  few = tale.few;
  once = λ n. omega (arith, tale.once n);
  waits = tt;
}

abbrev pub untold : Story
untold = record { sent = []; opened = []; retired = [] }

-- a queue without messages, to which none was sent
abbrev pub IsFresh : Option Queue → Type 0
IsFresh None = Unit {0}
IsFresh (Some queue) = (queue.messages ≡ []) × (queue.sent ≡ 0)

pub told_begun : (queue : Option Queue) → IsFresh queue → Tale untold queue
told_begun None fresh = record { sent = refl; opened = refl; few = omega arith; once = λ n. omega arith; waits = tt }
told_begun (Some queue) fresh =
    let none : filled queue.messages ≡ [] = ap filled fresh.0 in
    record {
      sent = refl;
      opened = refl;
      few = omega arith;
      once = λ n. omega (arith, ap (held n) fresh.0);
      waits = record {
        sent_is = fresh.1;
        count = omega (arith, ap (λ ns. length ns) none);
        filled_are = none ∙ ap (λ ns. range_with_len 0 (length ns)) (sym none);
      };
    }

-- The story that is told is in order.

apart : (x : ℕ) (xs : List ℕ) → times x xs ≡ 0 → AllByRecursion (λ y. nat_eq x y ≡ false) xs
apart x [] none = tt
apart x (y ∷ ys) none = (grind (arith, tests), apart x ys (omega arith))

distinct : (xs : List ℕ) → ((n : ℕ) → times n xs ≤ 1) → IsDistinct nat_eq xs
unfolding IsDistinct
distinct [] once = tt
distinct (x ∷ xs) once =
    let here : (x == x) ≡ true = grind (arith, tests) in
    let one : one_if (x == x) ≡ 1 = ap one_if here in
    (apart x xs (omega (arith, one, once x)), distinct xs (λ n. omega (arith, once n)))

-- every number of the list is below the limit
bounded : (limit : ℕ) (xs : List ℕ) → ((n : ℕ) → times n xs ≤ one_below n limit) → AllByRecursion (λ x. x < limit) xs
bounded limit [] once = tt
bounded limit (x ∷ xs) once =
    let here : (x == x) ≡ true = grind (arith, tests) in
    let one : one_if (x == x) ≡ 1 = ap one_if here in
    let some : 1 ≤ one_below x limit = omega (arith, one, once x) in
    (grind (arith, tests), bounded limit xs (λ n. omega (arith, once n)))

within : (numbers xs : List ℕ) → numbers ≡ range_with_len 0 (length numbers) → AllByRecursion (λ x. x < length numbers) xs → AllByRecursion (Contains numbers) xs
within numbers [] is below = tt
within numbers (x ∷ xs) is below =
    let at : get_or numbers x x ≡ x = ap (λ ns. get_or ns x x) is ∙ (get_or-range_with_len 0 (length numbers) x x below.0 ∙ omega arith) in
    ((x, below.0, at), within numbers xs is below.1)

pub in_order : (story : Story) (queue : Option Queue) → Tale story queue → IsInOrder story
in_order story queue tale =
    let once : (n : ℕ) → times n story.retired ≤ one_below n (length story.opened) = λ n. omega (arith, tale.once n) in
    let at_most_one : (n : ℕ) → one_below n (length story.opened) ≤ 1 = λ n. elim (nat_lt n (length story.opened)) as (λ b. one_if b ≤ 1) [ true ↦ omega arith | false ↦ omega arith ] in
    record {
      sent = tale.sent;
      opened = tale.opened;
      few = tale.few;
      retired = All-from_recursion (Contains story.opened) story.retired (within story.opened story.retired tale.opened (bounded (length story.opened) story.retired once));
      once = distinct story.retired (λ n. omega (arith, once n, at_most_one n));
    }
