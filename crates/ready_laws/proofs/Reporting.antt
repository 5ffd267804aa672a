-- A wait has something to report exactly where its object has an event; `waitany` where an entry's object has one.
use Rattle.std.proofs.Common.{◌≡◌, ℕ, ◌<◌, ◌==◌, ◌||◌, ◌++◌, not, cond, Bool, true, false, List, [], ◌∷◌, map, Option, Some, None, refl, sym, ap, ◌∙◌, slice_get}
use Rattle.std.specs.List.{list_any, find, filter}
use Rattle.std.specs.Option.{is_some}
use Rattle.kernel_values.specs.declared.state.Object.{Object}
use Rattle.kernel_values.specs.declared.state.HandleSet.{HandleSet}
use Rattle.kernel_values.specs.declared.state.Member.{Member}
use Rattle.kernel_values.specs.declared.state.TableEntry.{TableEntry}
use Rattle.kernel_values.specs.declared.state.CoreState.{CoreState}
use Rattle.kernel_values.specs.declared.state.WaitOn.TheVariants as wait_on
use Rattle.kernel_types.specs.Objects.{set_of, object_of}
use Rattle.kernel_types.specs.Tables.{table_of}
use Rattle.kernel_types.specs.Events.{events_of, events_within, object_events, is_ready_member, where_marked, ready_event}
use Rattle.kernel_types.specs.Reports.{Reported, cleared, plain_report, member_report, set_or_plain_report, entry_report, any_report, report_of, has_events, in_turn, is_after, last_of}
use Rattle.set_laws.specs.Chains.{HasShortChains}
use Rattle.ready_laws.proofs.Ofsets.{set_events, further}

found_some : {X : Type 0} (p : X → Bool) (xs : List X) → is_some (find p xs) ≡ list_any p xs
found_some p [] = refl
found_some p (x ∷ xs) = by_test (p x) (found_some p xs)
  where
    by_test : (b : Bool) → is_some (find p xs) ≡ list_any p xs → is_some (cond b (Some x) (find p xs)) ≡ (b || list_any p xs)
    by_test true rest = refl
    by_test false rest = rest

member_some : (c : CoreState) (id : ℕ) (member : Option Member) → is_some (member_report c id member) ≡ is_some member
member_some c id None = refl
member_some c id (Some member) = refl

entry_some : (c : CoreState) (app : ℕ) (entry : Option TableEntry) → is_some (entry_report c app entry) ≡ is_some entry
entry_some c app None = refl
entry_some c app (Some entry) = refl

option_unless : {X : Type 0} (b : Bool) (x : X) → is_some (cond b None (Some x)) ≡ not b
option_unless true x = refl
option_unless false x = refl

plain_some : (c : CoreState) (id handle cookie events : ℕ) → is_some (plain_report c id handle cookie events) ≡ not (events == 0)
plain_some c id handle cookie events =
    let reported : Reported = record { handle = handle; events = events; cookie = cookie; core = cleared events id c } in
    option_unless (events == 0) reported

ready_some : (b : Bool) → b ≡ not (where_marked b ready_event == 0)
ready_some true = refl
ready_some false = refl

object_some : ((objects : List Object) (id depth : ℕ) → HasShortChains objects → 8 < depth → events_within depth objects id ≡ events_of objects id) → (c : CoreState) → HasShortChains c.objects → (id handle cookie : ℕ) (o : Option HandleSet) → set_of c.objects id ≡ o → is_some (set_or_plain_report c id handle cookie o) ≡ not (events_of c.objects id == 0)
object_some more c short id handle cookie None is = plain_some c id handle cookie (events_of c.objects id)
object_some more c short id handle cookie (Some set) is =
    member_some c id (find (is_ready_member (events_of c.objects)) set.members)
    ∙ found_some (is_ready_member (events_of c.objects)) set.members
    ∙ ready_some (list_any (is_ready_member (events_of c.objects)) set.members)
    ∙ ap (λ (n : ℕ). not (n == 0)) (sym (further c.objects id (λ depth high. more c.objects id depth short high) ∙ set_events (events_of c.objects) set (object_of c.objects id) is))

any_append : {X : Type 0} (p : X → Bool) (xs ys : List X) → list_any p (xs ++ ys) ≡ (list_any p xs || list_any p ys)
any_append p [] ys = refl
any_append p (x ∷ xs) ys = by_test (p x) (any_append p xs ys)
  where
    by_test : (b : Bool) → list_any p (xs ++ ys) ≡ (list_any p xs || list_any p ys) → (b || list_any p (xs ++ ys)) ≡ ((b || list_any p xs) || list_any p ys)
    by_test true rest = refl
    by_test false rest = rest

any_parts : {X : Type 0} (p q : X → Bool) (xs : List X) → (list_any p (filter q xs) || list_any p (filter (λ x. not (q x)) xs)) ≡ list_any p xs
any_parts p q [] = refl
any_parts p q (x ∷ xs) = by_test (p x) refl (q x) (any_parts p q xs)
  where
    swap : (a b : Bool) → (a || true) ≡ true
    swap true b = refl
    swap false b = refl

    by_test : (b : Bool) → p x ≡ b → (d : Bool) → (list_any p (filter q xs) || list_any p (filter (λ y. not (q y)) xs)) ≡ list_any p xs → (list_any p (cond d (x ∷ filter q xs) (filter q xs)) || list_any p (cond (not d) (x ∷ filter (λ y. not (q y)) xs) (filter (λ y. not (q y)) xs))) ≡ (b || list_any p xs)
    by_test true is true rest = rw is refl
    by_test true is false rest = rw is (swap (list_any p (filter q xs)) true)
    by_test false is true rest = rw is rest
    by_test false is false rest = rw is rest

any_some : (c : CoreState) (app : ℕ) → is_some (any_report c app) ≡ list_any (has_events c.objects) (table_of c app)
any_some c app =
    let last = last_of (slice_get c.apps app) in
    entry_some c app (find (has_events c.objects) (in_turn last (table_of c app)))
    ∙ found_some (has_events c.objects) (in_turn last (table_of c app))
    ∙ any_append (has_events c.objects) (filter (is_after last) (table_of c app)) (filter (λ entry. not (is_after last entry)) (table_of c app))
    ∙ any_parts (has_events c.objects) (is_after last) (table_of c app)

pub object_report : ((objects : List Object) (id depth : ℕ) → HasShortChains objects → 8 < depth → events_within depth objects id ≡ events_of objects id) → (c : CoreState) (app id handle cookie : ℕ) → HasShortChains c.objects → is_some (report_of c app (wait_on.Object id handle cookie)) ≡ not (events_of c.objects id == 0)
unfolding report_of
object_report more c app id handle cookie short = object_some more c short id handle cookie (set_of c.objects id) refl

pub table_report : (c : CoreState) (app : ℕ) → is_some (report_of c app wait_on.Any) ≡ list_any (has_events c.objects) (table_of c app)
unfolding report_of
table_report c app = any_some c app
