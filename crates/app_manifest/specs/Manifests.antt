-- What a JSON value says of an application: its UUID, how it starts again, and its start ports.
-- A member that no rule names is of no matter; what is missing is false, or empty.
use Rattle.std.specs.Prelude.{◌≡◌, ℕ, ◌+◌, Bool, false, List, [], ◌∷◌, Option, Some, None, Result, Ok, Err, codes, is_some, option_map, option_and_then, nat_le, if◌then◌else◌}
use Rattle.std.specs.Int.{w128, from_be_bytes}
use Rattle.std.specs.Option.{ok_or}
use Rattle.serde_json.specs.Data.{Data, Items, no_items, item}
use Rattle.serde_json.specs.Find.{get, as_bool, as_str, as_array, as_object}
use Rattle.uuid.specs.Text.{parsed}
use Rattle.kernel_values.specs.Words.{is_path}
use Rattle.kernel_values.specs.declared.scene.Manifest.{Manifest}
use Rattle.kernel_values.specs.declared.scene.StartPort.{StartPort}
use Rattle.app_manifest.specs.declared.faults.ManifestFault.{ManifestFault}
use Rattle.app_manifest.specs.declared.faults.ManifestFault.TheVariants.{NotObject, Uuid, MgmtFlags, StartPorts, NoMemory}

infixl 10 ◌>>=◌
abbrev pub ◌>>=◌ : {A B : Type 0} → Result A ManifestFault → (A → Result B ManifestFault) → Result B ManifestFault
(Ok x) >>= f = f x
(Err fault) >>= f = Err fault

-- an application has at most so many start ports
abbrev pub most_ports : ℕ
most_ports = 8

-- a truth value; a missing one is false
abbrev pub truth_or_missing : Option Data → Option Bool
truth_or_missing None = Some false
truth_or_missing (Some value) = as_bool value

-- two truth values, which an object has as members
abbrev pub two_truths : List ℕ → List ℕ → Data → Option (Bool × Bool)
two_truths first second holder = option_and_then (λ one. option_map (λ two. (one, two)) (truth_or_missing (get second holder)))
    (truth_or_missing (get first holder))

-- the same; where the object is missing, both are false
abbrev pub truths_or_missing : List ℕ → List ℕ → Option Data → Option (Bool × Bool)
truths_or_missing first second None = Some (false, false)
truths_or_missing first second (Some value) = if is_some (as_object value) then two_truths first second value else None

-- `uuid`: one of the texts of a UUID (RFC 9562), as a number with the high byte first
unfoldable pub uuid_in : Data → Option ℕ
uuid_in value = option_map (from_be_bytes w128) (option_and_then parsed (option_and_then as_str (get (codes "uuid") value)))

-- `mgmt_flags`: whether it starts again, and whether its first start waits
unfoldable pub mgmt_flags_in : Data → Option (Bool × Bool)
mgmt_flags_in value = truths_or_missing (codes "restart_on_exit") (codes "deferred_start") (get (codes "mgmt_flags") value)

-- bit 0 lets secure applications connect, bit 1 the normal world
abbrev pub port_bits : Bool × Bool → ℕ
port_bits flags = (if flags.0 then 1 else 0) + (if flags.1 then 2 else 0)

unfoldable pub port_flags_in : Data → Option ℕ
port_flags_in port = option_map port_bits (truths_or_missing (codes "allow_ta_connect") (codes "allow_ns_connect") (get (codes "flags") port))

unfoldable pub path_in : Data → Option (List ℕ)
path_in port = option_and_then (λ name. if is_path name then Some name else None) (option_and_then as_str (get (codes "name") port))

-- an object with a lawful path as its `name`, and `flags`
unfoldable pub start_port_in : Data → Option StartPort
start_port_in port = option_and_then (λ path. option_map (λ bits. record { path = path; flags = record { 0 = bits } }) (port_flags_in port)) (path_in port)

-- the start ports of these items, the first of which has the number k; the fault carries the number of the first bad one
unfoldable pub ports_in : ℕ → Items → Result (List StartPort) ManifestFault
ports_in k no_items = Ok []
ports_in k (item value rest) = if nat_le most_ports k then Err (StartPorts most_ports) else do
  port ← ok_or (start_port_in value) (StartPorts k)
  ports ← ports_in (k + 1) rest
  Ok (port ∷ ports)

-- an array of start ports
abbrev pub ports_or_missing : Option Data → Result (List StartPort) ManifestFault
ports_or_missing None = Ok []
ports_or_missing (Some value) = do
  items ← ok_or (as_array value) (StartPorts most_ports)
  ports_in 0 items

unfoldable pub start_ports_in : Data → Result (List StartPort) ManifestFault
start_ports_in value = ports_or_missing (get (codes "start_ports") value)

-- the manifest, or the first fault
unfoldable pub manifest_in : Data → Result Manifest ManifestFault
manifest_in value = do
  members ← ok_or (as_object value) NotObject
  uuid ← ok_or (uuid_in value) Uuid
  flags ← ok_or (mgmt_flags_in value) MgmtFlags
  ports ← start_ports_in value
  Ok (record { uuid = uuid; restart = flags.0; deferred = flags.1; ports = ports })

-- What a reader answered is what the rule says; that memory ran out says nothing.
abbrev pub Fails : {Y : Type 0} → ManifestFault → Result Y ManifestFault → Type 0
Fails NotObject rule = rule ≡ Err NotObject
Fails Uuid rule = rule ≡ Err Uuid
Fails MgmtFlags rule = rule ≡ Err MgmtFlags
Fails (StartPorts k) rule = rule ≡ Err (StartPorts k)
Fails NoMemory rule = Unit {0}

abbrev pub Reads : {Y : Type 0} → Result Y ManifestFault → Result Y ManifestFault → Type 0
Reads (Ok value) rule = rule ≡ Ok value
Reads (Err fault) rule = Fails fault rule
