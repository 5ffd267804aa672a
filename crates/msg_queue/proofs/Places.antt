-- What keeps the places in order, and what a change of the places makes of the messages.
use Rattle.std.proofs.Common.{◌≡◌, ◌≢◌, ◌||◌, ℕ, zero, suc, ◌+◌, ◌<◌, ◌≤◌, Bool, true, false, not, cond, List, [], ◌∷◌, ◌++◌, length, find, get_or, set, slice_get, Option, Some, None, refl, sym, ap, ◌∙◌, subst, arith}
use Rattle.std.proofs.lemmas.Bool.Decides.{nat_tests}
use Rattle.std.specs.List.{list_any, position, position_or_len, remove}
use Rattle.std.specs.Vec.{vec_capacity}
use Rattle.kernel_values.specs.declared.state.Message.{Message}
use Rattle.msg_queue.specs.declared.place.Place.{Place}
use Rattle.msg_queue.specs.Messages.{has_id, is_filled, is_opened_as, without_opened, opened_as, free_id, with_opened}
use Rattle.msg_queue.specs.Places.{message_of, messages_of, AllHold, IdsApart}
use Rattle.msg_queue.proofs.Searches.{found_message, found_place, no_message, no_place, none_any, some_any, position_some, get_past}

-- a search that found a place, or none
module _ (t : Message → Bool) (ps qs : List Place) (same : qs ≡ ps) where
  pub found_here : (at : ℕ) (p : Place) → Some at ≡ position (λ q. t (message_of q)) qs → p ≡ get_or ps at p → find t (messages_of ps) ≡ Some (message_of p)
  found_here at p is here =
      let P : List Place → Type 0 = λ l. Some at ≡ position (λ q. t (message_of q)) l in
      found_message t ps at p (sym (subst P same is)) ∙ ap (λ q. Some (message_of q)) (sym here)

  pub within_here : (at : ℕ) → Some at ≡ position (λ q. t (message_of q)) qs → at < length ps
  within_here at is =
      let P : List Place → Type 0 = λ l. Some at ≡ position (λ q. t (message_of q)) l in
      (position_some (λ q. t (message_of q)) ps at (sym (subst P same is))).1

  pub place_here : (at : ℕ) → Some at ≡ position (λ q. t (message_of q)) qs → position_or_len t (messages_of ps) ≡ at
  place_here at is =
      let P : List Place → Type 0 = λ l. Some at ≡ position (λ q. t (message_of q)) l in
      found_place t ps at (sym (subst P same is))

  pub some_here : (at : ℕ) → Some at ≡ position (λ q. t (message_of q)) qs → list_any t (messages_of ps) ≡ true
  some_here at is =
      let P : List Place → Type 0 = λ l. Some at ≡ position (λ q. t (message_of q)) l in
      some_any t ps at (sym (subst P same is))

  pub none_here : None ≡ position (λ q. t (message_of q)) qs → find t (messages_of ps) ≡ None
  none_here is =
      let P : List Place → Type 0 = λ l. None ≡ position (λ q. t (message_of q)) l in
      no_message t ps (sym (subst P same is))

  pub nowhere_here : None ≡ position (λ q. t (message_of q)) qs → position_or_len t (messages_of ps) ≡ length (messages_of ps)
  nowhere_here is =
      let P : List Place → Type 0 = λ l. None ≡ position (λ q. t (message_of q)) l in
      no_place t ps (sym (subst P same is))

  pub no_any_here : None ≡ position (λ q. t (message_of q)) qs → list_any t (messages_of ps) ≡ false
  no_any_here is =
      let P : List Place → Type 0 = λ l. None ≡ position (λ q. t (message_of q)) l in
      none_any t ps (sym (subst P same is))

-- room for bytes
pub hold_at : (size : ℕ) (ps : List Place) (at : ℕ) (d : Place) → AllHold size ps → at < length ps → (size ≤ vec_capacity (get_or ps at d).bytes) × (length (get_or ps at d).bytes.items ≤ size)
hold_at size [] at d hold within = absurd (omega arith)
hold_at size (p ∷ ps) zero d hold within = (hold.0, hold.1)
hold_at size (p ∷ ps) (suc at) d hold within = hold_at size ps at d hold.2 (omega arith)

pub hold_push : (size : ℕ) (ps : List Place) (p : Place) → AllHold size ps → size ≤ vec_capacity p.bytes → length p.bytes.items ≤ size → AllHold size (ps ++ p ∷ [])
hold_push size [] p hold room short = (room, short, tt)
hold_push size (q ∷ ps) p hold room short = (hold.0, hold.1, hold_push size ps p hold.2 room short)

pub hold_front : (size : ℕ) (ps : List Place) (p : Place) → AllHold size (ps ++ p ∷ []) → AllHold size ps × (size ≤ vec_capacity p.bytes) × (length p.bytes.items ≤ size)
hold_front size [] p hold = (tt, hold.0, hold.1)
hold_front size (q ∷ ps) p hold =
    let rest = hold_front size ps p hold.2 in
    ((hold.0, hold.1, rest.0), rest.1, rest.2)

pub hold_set : (size : ℕ) (ps : List Place) (at : ℕ) (p : Place) → AllHold size ps → size ≤ vec_capacity p.bytes → length p.bytes.items ≤ size → AllHold size (set ps at p)
hold_set size [] at p hold room short = tt
hold_set size (q ∷ ps) zero p hold room short = (room, short, hold.2)
hold_set size (q ∷ ps) (suc at) p hold room short = (hold.0, hold.1, hold_set size ps at p hold.2 room short)

pub hold_remove : (size : ℕ) (ps : List Place) (at : ℕ) → AllHold size ps → AllHold size (remove ps at)
hold_remove size [] zero hold = tt
hold_remove size [] (suc at) hold = tt
hold_remove size (p ∷ ps) zero hold = hold.2
hold_remove size (p ∷ ps) (suc at) hold = (hold.0, hold.1, hold_remove size ps at hold.2)

-- the messages of changed places
pub messages_push : (ps : List Place) (p : Place) → messages_of (ps ++ p ∷ []) ≡ messages_of ps ++ message_of p ∷ []
messages_push [] p = refl
messages_push (q ∷ ps) p = ap (λ l. message_of q ∷ l) (messages_push ps p)

pub messages_set : (ps : List Place) (at : ℕ) (p : Place) → set (messages_of ps) at (message_of p) ≡ messages_of (set ps at p)
messages_set [] at p = refl
messages_set (q ∷ ps) zero p = refl
messages_set (q ∷ ps) (suc at) p = ap (λ l. message_of q ∷ l) (messages_set ps at p)

get_message : (ps : List Place) (at : ℕ) (d : Place) → at < length ps → slice_get (messages_of ps) at ≡ Some (message_of (get_or ps at d))
get_message [] at d within = absurd (omega arith)
get_message (p ∷ ps) zero d within = refl
get_message (p ∷ ps) (suc at) d within = get_message ps at d (omega arith)

pub opened_set : (ps : List Place) (at : ℕ) (d p : Place) → at < length ps → position_or_len is_filled (messages_of ps) ≡ at → message_of p ≡ opened_as (free_id (messages_of ps)) (message_of (get_or ps at d)) → with_opened (messages_of ps) ≡ messages_of (set ps at p)
opened_set ps at d p within first is =
    rw (first, get_message ps at d within) (ap (set (messages_of ps) at) (sym is) ∙ messages_set ps at p)

pub opened_none : (ms : List Message) → position_or_len is_filled ms ≡ length ms → with_opened ms ≡ ms
opened_none ms none = rw (none, get_past ms) refl

-- ids of changed places
none_front : (a b : Bool) → (a || b) ≡ false → (a ≡ false) × (b ≡ false)
none_front true b is = absurd (cc)
none_front false b is = (refl, is)

none_both : (a b : Bool) → a ≡ false → b ≡ false → (a || b) ≡ false
none_both true b first rest = absurd (cc)
none_both false b first rest = rest

module _ (t : Message → Bool) where
  none_push : (ps : List Place) (p : Place) → list_any t (messages_of ps) ≡ false → t (message_of p) ≡ false → list_any t (messages_of (ps ++ p ∷ [])) ≡ false
  none_push [] p none last = none_both (t (message_of p)) false last refl
  none_push (q ∷ ps) p none last =
      let both = none_front (t (message_of q)) (list_any t (messages_of ps)) none in
      none_both (t (message_of q)) _ both.0 (none_push ps p both.1 last)

  none_set : (ps : List Place) (at : ℕ) (p : Place) → list_any t (messages_of ps) ≡ false → t (message_of p) ≡ false → list_any t (messages_of (set ps at p)) ≡ false
  none_set [] at p none here = refl
  none_set (q ∷ ps) zero p none here = none_both (t (message_of p)) _ here (none_front (t (message_of q)) (list_any t (messages_of ps)) none).1
  none_set (q ∷ ps) (suc at) p none here =
      let both = none_front (t (message_of q)) (list_any t (messages_of ps)) none in
      none_both (t (message_of q)) _ both.0 (none_set ps at p both.1 here)

  none_remove : (ps : List Place) (at : ℕ) → list_any t (messages_of ps) ≡ false → list_any t (messages_of (remove ps at)) ≡ false
  none_remove [] zero none = refl
  none_remove [] (suc at) none = refl
  none_remove (q ∷ ps) zero none = (none_front (t (message_of q)) (list_any t (messages_of ps)) none).1
  none_remove (q ∷ ps) (suc at) none =
      let both = none_front (t (message_of q)) (list_any t (messages_of ps)) none in
      none_both (t (message_of q)) _ both.0 (none_remove ps at both.1)

-- an id is one number
id_of : (o : Option ℕ) (id : ℕ) → has_id id o ≡ true → o ≡ Some id
id_of None id is = absurd (cc)
id_of (Some n) id is = let same : n ≡ id = grind (arith, nat_tests) in ap (λ k. Some k) same

has_own : (o : Option ℕ) (id : ℕ) → o ≡ Some id → has_id id o ≡ true
has_own None id is = absurd (cc)
has_own (Some n) id is = let same : n ≡ id = cc in grind (arith, nat_tests)

has_no : (o : Option ℕ) (id : ℕ) → o ≡ None → has_id id o ≡ false
has_no None id is = refl
has_no (Some n) id is = absurd (cc)

has_other_id : (o : Option ℕ) (id other : ℕ) → o ≡ Some id → other ≢ id → has_id other o ≡ false
has_other_id None id other is differs = refl
has_other_id (Some n) id other is differs = let same : n ≡ id = cc in grind (arith, nat_tests)

pub apart_push : (ps : List Place) (p : Place) → IdsApart ps → p.opened ≡ None → IdsApart (ps ++ p ∷ [])
apart_push [] p apart new = ((λ id is. absurd (cc)), tt)
apart_push (q ∷ ps) p apart new =
    ((λ id is. none_push (is_opened_as id) ps p (apart.0 id is) (has_no p.opened id new)), apart_push ps p apart.1 new)

pub apart_set : (ps : List Place) (at : ℕ) (p : Place) (id : ℕ) → IdsApart ps → p.opened ≡ Some id → list_any (is_opened_as id) (messages_of ps) ≡ false → IdsApart (set ps at p)
apart_set [] at p id apart is free = tt
apart_set (q ∷ ps) zero p id apart is free =
    let rest = (none_front (is_opened_as id (message_of q)) (list_any (is_opened_as id) (messages_of ps)) free).1 in (
      (λ other own.
          let both : Some other ≡ Some id = sym own ∙ is in
          let same : other ≡ id = cc in
          let P : ℕ → Type 0 = λ k. list_any (is_opened_as k) (messages_of ps) ≡ false in
          subst P (sym same) rest),
      apart.1,
    )
apart_set (q ∷ ps) (suc at) p id apart is free =
    let both = none_front (is_opened_as id (message_of q)) (list_any (is_opened_as id) (messages_of ps)) free in (
      (λ other own.
          none_set (is_opened_as other) ps at p (apart.0 other own) (has_other_id p.opened id other is (λ same.
          let mine = has_own q.opened id (own ∙ ap (λ k. Some k) same) in
          let crossed : true ≡ false = sym mine ∙ both.0 in
          cc))),
      apart_set ps at p id apart.1 is both.1,
    )

pub apart_remove : (ps : List Place) (at : ℕ) → IdsApart ps → IdsApart (remove ps at)
apart_remove [] zero apart = tt
apart_remove [] (suc at) apart = tt
apart_remove (q ∷ ps) zero apart = apart.1
apart_remove (q ∷ ps) (suc at) apart =
    ((λ id is. none_remove (is_opened_as id) ps at (apart.0 id is)), apart_remove ps at apart.1)

-- nothing is retired where no message has the id
pub others_only : (id : ℕ) (ms : List Message) → list_any (is_opened_as id) ms ≡ false → without_opened id ms ≡ ms
others_only id [] none = refl
others_only id (m ∷ ms) none =
    let both = none_front (is_opened_as id m) (list_any (is_opened_as id) ms) none in
    rw both.0 (ap (λ l. m ∷ l) (others_only id ms both.1))

-- a message is retired by taking its place out
pub retired_is : (id : ℕ) (ps : List Place) (at : ℕ) → IdsApart ps → at < length ps → position_or_len (is_opened_as id) (messages_of ps) ≡ at → without_opened id (messages_of ps) ≡ messages_of (remove ps at)
retired_is id [] at apart within is = absurd (omega arith)
retired_is id (p ∷ ps) at apart within is = by_test (is_opened_as id (message_of p)) refl is at within refl (retired_is id ps)
  where
    here : (at : ℕ) → 0 ≡ at → messages_of ps ≡ messages_of (remove (p ∷ ps) at)
    here zero e = refl
    here (suc k) e = absurd (omega arith)

    there : (at : ℕ) → 1 + position_or_len (is_opened_as id) (messages_of ps) ≡ at → at < suc (length ps) → ((k : ℕ) → IdsApart ps → k < length ps → position_or_len (is_opened_as id) (messages_of ps) ≡ k → without_opened id (messages_of ps) ≡ messages_of (remove ps k)) → message_of p ∷ without_opened id (messages_of ps) ≡ messages_of (remove (p ∷ ps) at)
    there zero e below rest = absurd (omega arith)
    there (suc k) e below rest = ap (λ l. message_of p ∷ l) (rest k apart.1 (omega arith) (omega arith))

    by_test : (b : Bool) → is_opened_as id (message_of p) ≡ b → cond (not b) (1 + position_or_len (is_opened_as id) (messages_of ps)) 0 ≡ at → (n : ℕ) → n < suc (length ps) → n ≡ at → ((k : ℕ) → IdsApart ps → k < length ps → position_or_len (is_opened_as id) (messages_of ps) ≡ k → without_opened id (messages_of ps) ≡ messages_of (remove ps k)) → cond (not b) (message_of p ∷ without_opened id (messages_of ps)) (without_opened id (messages_of ps)) ≡ messages_of (remove (p ∷ ps) at)
    by_test true test e n below same rest =
        others_only id (messages_of ps) (apart.0 id (id_of p.opened id test)) ∙ here at e
    by_test false test e n below same rest = there at e (omega arith) rest
