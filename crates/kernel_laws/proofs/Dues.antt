-- What the device has to do for an entry, and what it finds by addresses, is of one of its entries.
use Rattle.std.proofs.Common.{ℕ, inl, inr, Bool, true, false, cond, List, [], ◌∷◌, Option, Some, None, refl}
use Rattle.std.specs.Prelude.{slice_get}
use Rattle.std.specs.List.{cons_option, filter_map, find}
use Rattle.kernel_values.specs.declared.state.CoreState.{CoreState}
use Rattle.kernel_values.specs.declared.world.BridgeEntry.{BridgeEntry}
use Rattle.kernel_values.specs.declared.world.Device.{Device}
use Rattle.kernel_values.specs.declared.world.Refusal.{Refusal}
use Rattle.kernel_types.specs.Bridge.{ns_peek, ns_view}
use Rattle.kernel_types.specs.Device.{Due, answered_due, due_of, entry_between, entry_due, is_entry_between, queued_due, unanswered_due}
use Rattle.kernel_types.specs.Device.Due.{answering, denying, going_online, leaving, refusing, sending}
use Rattle.kernel_types.specs.Events.{is_disconnected}
use Rattle.kernel_types.specs.declared.bridge.EndView.{EndView}
use Rattle.kernel_laws.specs.Entries.{IsAmong}

-- What is due of an entry is due of one of the entries.

abbrev pub IsDueOf : List BridgeEntry → Option Due → Type 0
IsDueOf entries (Some (denying entry)) = IsAmong entry entries
IsDueOf entries (Some (leaving entry)) = IsAmong entry entries
IsDueOf entries other = Unit {0}

due_later : (first : BridgeEntry) (entries : List BridgeEntry) (o : Option Due) → IsDueOf entries o → IsDueOf (first ∷ entries) o
due_later first entries None is = tt
due_later first entries (Some going_online) is = tt
due_later first entries (Some (refusing refusal)) is = tt
due_later first entries (Some (answering entry view)) is = tt
due_later first entries (Some (denying entry)) is = inr is
due_later first entries (Some (sending entry bytes)) is = tt
due_later first entries (Some (leaving entry)) is = inr is

unanswered_of : (entry : BridgeEntry) (entries : List BridgeEntry) (view : EndView) → IsDueOf (entry ∷ entries) (unanswered_due entry view)
unanswered_of entry entries view =
    let all : List BridgeEntry = entry ∷ entries in
    let closed : IsDueOf all (cond (is_disconnected view.state) (Some (denying entry)) None) =
    elim (is_disconnected view.state) as (λ b. IsDueOf all (cond b (Some (denying entry)) None)) [ true ↦ inl refl | false ↦ tt ] in
    elim view.accepted as (λ b. IsDueOf all (cond b (Some (answering entry view)) (cond (is_disconnected view.state) (Some (denying entry)) None))) [ true ↦ tt | false ↦ closed ]

answered_of : (entry : BridgeEntry) (entries : List BridgeEntry) (view : EndView) (peeked : Option (List ℕ)) → IsDueOf (entry ∷ entries) (answered_due entry view peeked)
answered_of entry entries view (Some bytes) = tt
answered_of entry entries view None =
    elim (is_disconnected view.state) as (λ b. IsDueOf (entry ∷ entries) (cond b (Some (leaving entry)) None)) [ true ↦ inl refl | false ↦ tt ]

entry_of_due : (c : CoreState) (entry : BridgeEntry) (entries : List BridgeEntry) → IsDueOf (entry ∷ entries) (entry_due c entry)
entry_of_due c entry entries =
    elim entry.answered as (λ b. IsDueOf (entry ∷ entries) (cond b (answered_due entry (ns_view c entry.end) (ns_peek c entry.end)) (unanswered_due entry (ns_view c entry.end)))) [
      | true ↦ answered_of entry entries (ns_view c entry.end) (ns_peek c entry.end)
      | false ↦ unanswered_of entry entries (ns_view c entry.end)
    ]

-- the first of them
first_of : (c : CoreState) (entries : List BridgeEntry) → IsDueOf entries (slice_get (filter_map (entry_due c) entries) 0)
first_of c [] = tt
first_of c (entry ∷ entries) =
    let P : Option Due → Type 0 = λ o. IsDueOf (entry ∷ entries) o → IsDueOf (entry ∷ entries) (slice_get (cons_option o (filter_map (entry_due c) entries)) 0) in
    let go : (o : Option Due) → P o = λ o. elim o as (λ v. P v) [
      | None ↦ (λ is. due_later entry entries (slice_get (filter_map (entry_due c) entries) 0) (first_of c entries))
      | Some due ↦ (λ is. is)
    ] in
    go (entry_due c entry) (entry_of_due c entry entries)

queued_of : (c : CoreState) (entries : List BridgeEntry) (refusals : List Refusal) → IsDueOf entries (queued_due c entries refusals)
queued_of c entries (refusal ∷ refusals) = tt
queued_of c entries [] = first_of c entries

pub due_of_entries : (c : CoreState) (d : Device) → IsDueOf d.entries (due_of c d)
unfolding due_of
due_of_entries c d =
    elim d.online as (λ b. IsDueOf d.entries (cond b (queued_due c d.entries d.refusals) (Some going_online))) [ true ↦ queued_of c d.entries d.refusals | false ↦ tt ]

-- A search finds one of the entries.

abbrev pub IfFound : List BridgeEntry → Option BridgeEntry → Type 0
IfFound entries None = Unit {0}
IfFound entries (Some entry) = IsAmong entry entries

later_found : (first : BridgeEntry) (entries : List BridgeEntry) (o : Option BridgeEntry) → IfFound entries o → IfFound (first ∷ entries) o
later_found first entries None found = tt
later_found first entries (Some entry) found = inr found

pub found_is_among : (secure normal : ℕ) (entries : List BridgeEntry) → IfFound entries (entry_between secure normal entries)
found_is_among secure normal [] = tt
found_is_among secure normal (entry ∷ entries) =
    elim (is_entry_between secure normal entry) as (λ b. IfFound (entry ∷ entries) (cond b (Some entry) (find (is_entry_between secure normal) entries))) [
      | true ↦ inl refl
      | false ↦ later_found entry entries (find (is_entry_between secure normal) entries) (found_is_among secure normal entries)
    ]
