-- What changes of tables and objects leave: the ends that the bridge names, the threads, the clock, and how often each application
-- was started.
use Rattle.std.proofs.Common.{◌≡◌, ◌∙◌, ℕ, zero, suc, true, false, List, [], ◌∷◌, map, Option, Some, None, refl, ap}
use Rattle.std.specs.Prelude.{slice_get, slice_set}
use Rattle.std.specs.Option.{option_map}
use Rattle.kernel_values.specs.declared.state.Application.{Application}
use Rattle.kernel_values.specs.declared.state.CoreState.{CoreState}
use Rattle.kernel_values.specs.declared.state.Object.{Object}
use Rattle.kernel_types.specs.Connects.{accept_client, accepted_end, peer_of}
use Rattle.kernel_types.specs.Objects.{changed, end_changed, end_of, map_at, on_end, port_changed, set_if, with_objects}
use Rattle.kernel_types.specs.Sweep.{kept, pruned, sweep}
use Rattle.step_laws.specs.SmallChanges.{SmallChange, after, after_accept}
use Rattle.step_laws.specs.SmallChanges.SmallChange.{cookie_changed, end_accepted, entry_installed, entry_removed, last_changed, parts_installed}
use Rattle.step_laws.specs.Walks.{SmallRow}
use Rattle.step_laws.proofs.Rows.{row_keeps}

-- How often each application was started.

abbrev pub starts_of : List Application → List ℕ
starts_of apps = map (λ app. app.starts) apps

-- A change of one application that leaves its starts.

set_same : (change : Application → Application) → ((app : Application) → (change app).starts ≡ app.starts) → (apps : List Application) (at : ℕ) (app : Application)
    → slice_get apps at ≡ Some app → starts_of (slice_set apps at (change app)) ≡ starts_of apps
set_same change stays [] at app is = refl
set_same change stays (first ∷ apps) zero app is = ap (λ n. n ∷ starts_of apps) (stays app ∙ ap (λ (a : Application). a.starts) (let found : app ≡ first = cc in found))
set_same change stays (first ∷ apps) (suc at) app is = ap (λ ns. first.starts ∷ ns) (set_same change stays apps at app is)

map_at_by : (change : Application → Application) → ((app : Application) → (change app).starts ≡ app.starts) → (apps : List Application) (at : ℕ) (found : Option Application)
    → slice_get apps at ≡ found → starts_of (set_if apps at (option_map change found)) ≡ starts_of apps
map_at_by change stays apps at None is = refl
map_at_by change stays apps at (Some app) is = set_same change stays apps at app is

pub starts_stay : (change : Application → Application) → ((app : Application) → (change app).starts ≡ app.starts) → (apps : List Application) (at : ℕ)
    → starts_of (map_at change apps at) ≡ starts_of apps
starts_stay change stays apps at = map_at_by change stays apps at (slice_get apps at) refl

-- Tables and objects.

-- what holds whatever the objects are, the acceptance of an end keeps
pub accept_keeps : (P : CoreState → Type 0) → ((c : CoreState) (objects : List Object) → P c → P (with_objects objects c)) → (id server : ℕ) (rest : List ℕ) (c : CoreState) → P c
    → P (after_accept id server rest c)
accept_keeps P any id server rest c k =
    let ends : CoreState = end_changed (accepted_end false) server (port_changed (λ p. record p { pending = rest }) id c) in
    elim (peer_of (end_of c.objects server)) as (λ o. P (accept_client o ends)) [
      | None ↦ any c ends.objects k
      | Some client ↦ any c (changed (on_end (accepted_end true)) ends.objects client) k
    ]

pub record Untouched (c d : CoreState) : Type 0 where
  pub bridged : d.bridged ≡ c.bridged
  pub threads : d.threads ≡ c.threads
  pub clock : d.clock ≡ c.clock
  pub starts : starts_of d.apps ≡ starts_of c.apps

pub untouched : (c : CoreState) → Untouched c c
untouched c = record { bridged = refl; threads = refl; clock = refl; starts = refl }

tabled_leaves : (c b : CoreState) → Untouched c b → (app : ℕ) (change : Application → Application) → ((a : Application) → (change a).starts ≡ a.starts)
    → Untouched c (record b { apps = map_at change b.apps app })
tabled_leaves c b k app change stays = record { bridged = k.bridged; threads = k.threads; clock = k.clock; starts = starts_stay change stays b.apps app ∙ k.starts }

small_leaves : (by : Option ℕ) (c b : CoreState) → Untouched c b → (change : SmallChange by b) → Untouched c (after by b change)
small_leaves by c b k (cookie_changed app of_app handle cookie entry held) = tabled_leaves c b k app _ (λ a. refl)
small_leaves by c b k (entry_removed app of_app handle entry held) = tabled_leaves c b k app _ (λ a. refl)
small_leaves by c b k (entry_installed app of_app object nameable room) = tabled_leaves c b k app _ (λ a. refl)
small_leaves by c b k (parts_installed app of_app id number count end message there is_open room) = tabled_leaves c b k app _ (λ a. refl)
small_leaves by c b k (last_changed app of_app entry first) = tabled_leaves c b k app _ (λ a. refl)
small_leaves by c b k (end_accepted app of_app id server rest port there first room) =
    tabled_leaves c (after_accept id server rest b)
    (accept_keeps (Untouched c) (λ x objects u. record { bridged = u.bridged; threads = u.threads; clock = u.clock; starts = u.starts }) id server rest b k) app _ (λ a. refl)
small_leaves by c b k _ = record { bridged = k.bridged; threads = k.threads; clock = k.clock; starts = k.starts }

pub row_leaves : (by : Option ℕ) (c d : CoreState) → SmallRow by c d → Untouched c d
row_leaves by c d row = row_keeps (SmallChange by) (after by) (λ (x : CoreState). Untouched c x) (small_leaves by c) c d row (untouched c)

pub sweep_leaves : (c : CoreState) → Untouched c (sweep c)
unfolding sweep pruned kept
sweep_leaves c = record { bridged = refl; threads = refl; clock = refl; starts = refl }

-- threads, the clock and starts stay, whatever the bridge names
pub record Calm (c d : CoreState) : Type 0 where
  pub threads : d.threads ≡ c.threads
  pub clock : d.clock ≡ c.clock
  pub starts : starts_of d.apps ≡ starts_of c.apps

pub calm_of : (c d : CoreState) → Untouched c d → Calm c d
calm_of c d k = record { threads = k.threads; clock = k.clock; starts = k.starts }

-- threads and starts stay
pub record Quiet (c d : CoreState) : Type 0 where
  pub threads : d.threads ≡ c.threads
  pub starts : starts_of d.apps ≡ starts_of c.apps

pub quiet : (c : CoreState) → Quiet c c
quiet c = record { threads = refl; starts = refl }

pub quiet_of : (c d : CoreState) → Untouched c d → Quiet c d
quiet_of c d k = record { threads = k.threads; starts = k.starts }
