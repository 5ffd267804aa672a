-- Where each client stands, and what one more entry of the history and each change of the clients keeps of it.
use Rattle.std.proofs.Common.{◌≡◌, ℕ, ◌+◌, List, Some, refl, ap, sym, ◌∙◌, subst, arith, map, inl, inr}
use Rattle.std.proofs.lemmas.Bool.{cases_eq}
use Rattle.std.specs.Prelude.{slice_get}
use Rattle.kernel_values.specs.declared.entry.Entry.{Entry}
use Rattle.kernel_values.specs.declared.world.ClientActivity.{ClientActivity}
use Rattle.kernel_values.specs.declared.world.ClientActivity.TheVariants as activity
use Rattle.kernel_values.specs.declared.world.ClientState.{ClientState}
use Rattle.kernel_types.specs.Clients.{client_cancelled, client_changed}
use Rattle.kernel_types.specs.Objects.{map_at}
use Rattle.kernel_types.specs.Step.{client_status}
use Rattle.run_laws.proofs.Longer.{IsOf, longer}
use Rattle.run_laws.proofs.Places.{map_at_get, map_get}
use Rattle.run_laws.proofs.Standings.{IsSilent, Standings}

pub record ClientStands (S : Standings) (entries : List Entry) (actor : ℕ) (a : ClientActivity) : Type 0 where
  pub known : S.client actor
  pub fits : S.fits entries actor (client_status a)

-- the client `k` is the actor behind as many threads by that number
abbrev pub ClientsStand : Standings → List Entry → ℕ → List ClientState → Type 0
ClientsStand S entries threads clients = (k : ℕ) (client : ClientState) → slice_get clients k ≡ Some client → ClientStands S entries (threads + k) client.activity

-- every wait is cancelled

same_status_cancelled : (a : ClientActivity) → client_status a ≡ client_status (client_cancelled a)
same_status_cancelled (activity.Running start) = refl
same_status_cancelled (activity.Waiting start wait) = refl
same_status_cancelled (activity.Ended start) = refl

module _ (S : Standings) (entries : List Entry) where
  pub cancelled_stand : (threads : ℕ) (clients : List ClientState) → ClientsStand S entries threads clients
      → ClientsStand S entries threads (map (client_changed client_cancelled) clients)
  cancelled_stand threads clients all k client is =
      let from : (x : ClientState) × (slice_get clients k ≡ Some x) × (client_changed client_cancelled x ≡ client) = map_get (client_changed client_cancelled) clients k client is in
      let stands : ClientStands S entries (threads + k) from.0.activity = all k from.0 from.1 in
      subst (λ (x : ClientState). ClientStands S entries (threads + k) x.activity) from.2
      (record { known = stands.known; fits = subst (λ x. S.fits entries (threads + k) x) (same_status_cancelled from.0.activity) stands.fits })

module _ (S : Standings) (entries : List Entry) (entry : Entry) where
  client_longer : (actor : ℕ) (a : ClientActivity) → ((s : ℕ) → IsSilent actor s entry) → ClientStands S entries actor a → ClientStands S (longer S entries entry) actor a
  client_longer actor a silent stands = record { known = stands.known; fits = S.fits_longer entries entry actor (client_status a) silent stands.fits }

  -- of an entry that is of no client
  pub clients_longer : (threads : ℕ) (clients : List ClientState) → ((k s : ℕ) → IsSilent (threads + k) s entry)
      → ClientsStand S entries threads clients → ClientsStand S (longer S entries entry) threads clients
  clients_longer threads clients silent all k client is = client_longer (threads + k) client.activity (silent k) (all k client is)

  -- of an entry of the client `k`, which is in this start

  other_longer : (threads k start : ℕ) (clients : List ClientState) → IsOf (threads + k) start entry → ClientsStand S entries threads clients
      → (j : ℕ) (client : ClientState) → slice_get clients j ≡ Some client → (j ≡ k → ⊥) → ClientStands S (longer S entries entry) (threads + j) client.activity
  other_longer threads k start clients of all j client is other =
      client_longer (threads + j) client.activity (λ s. of.silent (threads + j) s (λ same t. other (omega (arith, same)))) (all j client is)

  abbrev OwnStands : ℕ → ℕ → List ClientState → (ClientActivity → ClientActivity) → Type 0
  OwnStands threads k clients change =
      (client : ClientState) → slice_get clients k ≡ Some client → ClientStands S (longer S entries entry) (threads + k) (change client.activity)

  pub one_stays : (threads k start : ℕ) (clients : List ClientState) → IsOf (threads + k) start entry → OwnStands threads k clients (λ a. a)
      → ClientsStand S entries threads clients → ClientsStand S (longer S entries entry) threads clients
  one_stays threads k start clients of own all j client is = elim (cases_eq j k) [
    | inl same ↦ subst (λ n. ClientStands S (longer S entries entry) (threads + n) client.activity) (sym same) (own client (ap (λ n. slice_get clients n) (sym same) ∙ is))
    | inr other ↦ other_longer threads k start clients of all j client is other
  ]

  pub one_changes : (threads k start : ℕ) (clients : List ClientState) (change : ClientActivity → ClientActivity) → IsOf (threads + k) start entry → OwnStands threads k clients change
      → ClientsStand S entries threads clients → ClientsStand S (longer S entries entry) threads (map_at (client_changed change) clients k)
  one_changes threads k start clients change of own all j client is = elim (map_at_get (client_changed change) clients k j client is) [
    | inl old ↦ other_longer threads k start clients of all j client old.1 old.0
    | inr new ↦ let was : ClientState = new.1 in
        subst (λ (x : ClientState). ClientStands S (longer S entries entry) (threads + j) x.activity) (sym new.3)
        (subst (λ n. ClientStands S (longer S entries entry) (threads + n) (change was.activity)) (sym new.0)
        (own was (ap (λ n. slice_get clients n) (sym new.0) ∙ new.2)))
  ]
