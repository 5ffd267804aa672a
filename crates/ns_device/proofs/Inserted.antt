-- An entry that was put in before its end was known.
use Rattle.std.proofs.Common.{◌≡◌, ◌≤◌, ℕ, Bool, true, false, cond, not, List, [], ◌∷◌, ◌++◌, ◌+◌, length, take, drop, Some, refl, sym, ap, ◌∙◌, arith}
use Rattle.std.proofs.Math.Seq.{set-append_seam}
use Rattle.std.proofs.lemmas.List.{length-take-le}
use Rattle.std.specs.Option.{option_map}
use Rattle.std.specs.Prelude.{nat_lt, slice_get}
use Rattle.std.specs.List.{insert, position_or_len}
use Rattle.kernel_values.specs.declared.world.BridgeEntry.{BridgeEntry}
use Rattle.kernel_values.specs.declared.reply.DeviceReply.TheVariants as reply
use Rattle.kernel_values.specs.declared.state.State.{State}
use Rattle.kernel_values.specs.declared.world.Device.{Device}
use Rattle.kernel_types.specs.Bridge.{ns_connect}
use Rattle.kernel_types.specs.Bridging.{Connected}
use Rattle.kernel_types.specs.Device.{free_secure, new_entry, request_connected, with_entry}
use Rattle.kernel_types.specs.Objects.{map_at, set_if}
use Rattle.kernel_types.specs.Outcome.{no_seqs}
use Rattle.ns_device.specs.declared.told.DeviceOutcome.{DeviceOutcome}
use Rattle.ns_device.specs.Taken.{taken_as, with_end}

got_between : {X : Type 0} (front back : List X) (x : X) → slice_get (front ++ x ∷ back) (length front) ≡ Some x
got_between [] back x = refl
got_between (first ∷ front) back x = got_between front back x

changed_between : {X : Type 0} (f : X → X) (front back : List X) (x : X) → map_at f (front ++ x ∷ back) (length front) ≡ front ++ f x ∷ back
changed_between f front back x =
    ap (λ o. set_if (front ++ x ∷ back) (length front) (option_map f o)) (got_between front back x) ∙ set-append_seam front x back (f x)

-- the item that was inserted, changed in its place
changed_inserted : {X : Type 0} (f : X → X) (xs : List X) (at : ℕ) (x : X) → at ≤ length xs → map_at f (insert xs at x) at ≡ insert xs at (f x)
changed_inserted f xs at x within =
    ap (λ (n : ℕ). map_at f (insert xs at x) n) (sym (length-take-le at xs within)) ∙ changed_between f (take at xs) (drop at xs) x

place_within : {X : Type 0} (p : X → Bool) (xs : List X) → position_or_len p xs ≤ length xs
place_within p [] = omega arith
place_within p (x ∷ xs) =
    elim (p x) as (λ b. cond (not b) (1 + position_or_len p xs) 0 ≤ length (x ∷ xs)) [ true ↦ omega arith | false ↦ omega (arith, place_within p xs) ]

pub entry_is : (secure normal end : ℕ) (entries : List BridgeEntry)
    → map_at (with_end end) (with_entry (new_entry secure normal 0) entries) (position_or_len (λ other. nat_lt secure other.secure) entries)
    ≡ with_entry (new_entry secure normal end) entries
entry_is secure normal end entries =
    changed_inserted (with_end end) entries (position_or_len (λ other. nat_lt secure other.secure) entries) (new_entry secure normal 0)
    (place_within (λ other. nat_lt secure other.secure) entries)

-- a connection that was made
pub connect_is : (s t : State) (d : Device) (src end secure place made remade : ℕ) (path : List ℕ) (entries after : List BridgeEntry)
    → secure ≡ free_secure d.entries
    → entries ≡ with_entry (record { secure = secure; normal = src; end = 0; answered = false }) d.entries
    → place ≡ position_or_len (λ other. nat_lt secure other.secure) d.entries
    → after ≡ map_at (with_end end) entries place
    → Connected path end s t made remade
    → taken_as t.core (record d { entries = after }) (record { reply = reply.TookReq src path; seqs = no_seqs }) ≡ request_connected s.core d src path (ns_connect s.core path)
connect_is s t d src end secure place made remade path entries after secure-is entries-is place-is after-is connected =
    let free : ℕ = free_secure d.entries in
    let front : ℕ = position_or_len (λ other. nat_lt free other.secure) d.entries in
    let told : DeviceOutcome = record { reply = reply.TookReq src path; seqs = no_seqs } in
    let place-there : place ≡ front = place-is ∙ ap (λ (n : ℕ). position_or_len (λ other. nat_lt n other.secure) d.entries) secure-is in
    let entries-there : entries ≡ with_entry (new_entry free src 0) d.entries = entries-is ∙ ap (λ (n : ℕ). with_entry (new_entry n src 0) d.entries) secure-is in
    let after-there : after ≡ with_entry (new_entry free src s.core.next) d.entries =
    after-is
    ∙ ap (λ (n : ℕ). map_at (with_end n) entries place) connected.end_is
    ∙ ap (λ (n : ℕ). map_at (with_end s.core.next) entries n) place-there
    ∙ ap (λ (es : List BridgeEntry). map_at (with_end s.core.next) es front) entries-there
    ∙ entry_is free src s.core.next d.entries in
    ap (λ (es : List BridgeEntry). taken_as t.core (record d { entries = es }) told) after-there
    ∙ sym (ap (request_connected s.core d src path) connected.core_is)
