-- What a device over a core stands for, and what its type keeps.
use Rattle.std.specs.Prelude.{◌≡◌, ℕ, List, Bool, refl}
use Rattle.std.specs.Coded.{Coded, code_by, coded×, coded_ℕ, coded_bool, coded_list}
use Rattle.kernel_values.specs.declared.state.CoreState.{CoreState}
use Rattle.kernel_values.specs.declared.world.BridgeEntry.{BridgeEntry}
use Rattle.kernel_values.specs.declared.world.Device.{Device}
use Rattle.kernel_values.specs.declared.world.Refusal.{Refusal}
use Rattle.virtqueue.specs.declared.queue.Queue.{Queue}
use Rattle.virtqueue.specs.Layout.{IsQueue}
use Rattle.set_laws.specs.Soundness.{NamesAreGiven}
use Rattle.ns_device.specs.Named.{AreNamed}

pub record BridgeValue (C : Type 0) : Type 0 where
  pub core : C
  pub device : Device

-- the queue with this index
pub record IsQueueOf (index : ℕ) (q : Queue) : Type 0 where
  pub queue : IsQueue q
  pub index_is : q.index ≡ index

-- the two queues are those of the device; whatever the core names was given; and the core names the end of each entry, each
-- of which has its own
pub record IsSound (c : CoreState) (d : Device) : Type 0 where
  pub to_normal : IsQueueOf 0 d.to_normal
  pub from_normal : IsQueueOf 1 d.from_normal
  pub given : NamesAreGiven c
  pub named : AreNamed c.bridged d.entries

-- How each is stored: as the tuple of its fields.

abbrev queue_code : Coded Queue
queue_code =
    code_by (ℕ × (ℕ × (ℕ × ℕ))) (coded× coded_ℕ (coded× coded_ℕ (coded× coded_ℕ coded_ℕ))) (λ q. (q.index, (q.n, (q.position, q.used))))
    (λ p. record { index = p.0; n = p.1.0; position = p.1.1.0; used = p.1.1.1 }) (λ _. refl)

abbrev entry_code : Coded BridgeEntry
entry_code =
    code_by (ℕ × (ℕ × (ℕ × Bool))) (coded× coded_ℕ (coded× coded_ℕ (coded× coded_ℕ coded_bool))) (λ e. (e.secure, (e.normal, (e.end, e.answered))))
    (λ p. record { secure = p.0; normal = p.1.0; end = p.1.1.0; answered = p.1.1.1 }) (λ _. refl)

abbrev refusal_code : Coded Refusal
refusal_code = code_by (ℕ × ℕ) (coded× coded_ℕ coded_ℕ) (λ r. (r.target, r.status)) (λ p. record { target = p.0; status = p.1 }) (λ _. refl)

abbrev device_code : Coded Device
device_code =
    code_by (Queue × (Queue × (List BridgeEntry × (List Refusal × (Bool × Bool)))))
    (coded× queue_code (coded× queue_code (coded× (coded_list entry_code) (coded× (coded_list refusal_code) (coded× coded_bool coded_bool)))))
    (λ d. (d.to_normal, (d.from_normal, (d.entries, (d.refusals, (d.online, d.broken))))))
    (λ p. record { to_normal = p.0; from_normal = p.1.0; entries = p.1.1.0; refusals = p.1.1.1.0; online = p.1.1.1.1.0; broken = p.1.1.1.1.1 })
    (λ _. refl)

abbrev pub standing_code : {C : Type 0} → Coded C → Coded (BridgeValue C)
standing_code {C} code = code_by (C × Device) (coded× code device_code) (λ s. (s.core, s.device)) (λ p. record { core = p.0; device = p.1 }) (λ _. refl)
