-- A manifest that was read has few start ports, all of them lawful.
use Rattle.std.proofs.Common.{◌≡◌, ℕ, ◌+◌, ◌<◌, ◌≤◌, List, [], ◌∷◌, length, Bool, true, false, Option, Some, None, Ok, Err, refl, sym, ap, subst, ◌∙◌, arith, codes}
use Rattle.std.specs.Prelude.{Result, nat_le, nat_lt, option_map, option_and_then, cond, if◌then◌else◌, IsTrue}
use Rattle.std.specs.List.{list_all}
use Rattle.std.specs.Option.{ok_or}
use Rattle.std.specs.Result.{result_ok}
use Rattle.std.proofs.lemmas.Bool.{le-leb}
use Rattle.std.proofs.lemmas.Bool.Decides.{nat_tests}
use Rattle.serde_json.specs.Data.{Data, Items, no_items, item}
use Rattle.serde_json.specs.Find.{get, as_object, as_array, as_str}
use Rattle.serde_json.specs.Read.{read}
use Rattle.kernel_values.specs.Words.{is_path}
use Rattle.kernel_values.specs.SceneLaw.{is_lawful_start_port}
use Rattle.kernel_values.specs.declared.scene.Manifest.{Manifest}
use Rattle.kernel_values.specs.declared.scene.StartPort.{StartPort}
use Rattle.app_manifest.specs.declared.faults.ManifestFault.{ManifestFault}
use Rattle.app_manifest.specs.declared.faults.ManifestFault.TheVariants.{NotObject, Uuid, MgmtFlags, StartPorts}
use Rattle.app_manifest.specs.Manifests.{◌>>=◌, path_in, port_bits, truths_or_missing, port_flags_in, start_port_in, ports_in, ports_or_missing, start_ports_in, uuid_in, mgmt_flags_in, manifest_in}
use Rattle.app_manifest.specs.Spelled.{manifest_text, HasLawfulPorts, ManifestsAreLawful}

bind_ok : {A B : Type 0} (r : Result A ManifestFault) (f : A → Result B ManifestFault) (b : B) → (r >>= f) ≡ Ok b → (a : A) × (r ≡ Ok a) × (f a ≡ Ok b)
bind_ok (Ok a) f b h = (a, refl, h)
bind_ok (Err fault) f b h = absurd (cc)

map_some : {A B : Type 0} (f : A → B) (o : Option A) (b : B) → option_map f o ≡ Some b → (a : A) × (o ≡ Some a) × (f a ≡ b)
map_some f None b h = absurd (cc)
map_some f (Some a) b h = (a, refl, cc)

then_some : {A B : Type 0} (f : A → Option B) (o : Option A) (b : B) → option_and_then f o ≡ Some b → (a : A) × (o ≡ Some a) × (f a ≡ Some b)
then_some f None b h = absurd (cc)
then_some f (Some a) b h = (a, refl, h)

there_is : {A : Type 0} (o : Option A) (fault : ManifestFault) (a : A) → ok_or o fault ≡ Ok a → o ≡ Some a
there_is None fault a h = absurd (cc)
there_is (Some x) fault a h = cc

picked : (b : Bool) (name path : List ℕ) → is_path name ≡ b → (if b then Some name else None) ≡ Some path → is_path path ≡ true
picked true name path e h = let same : path ≡ name = cc in ap is_path same ∙ e
picked false name path e h = absurd (cc)

path_lawful : (d : Data) (path : List ℕ) → path_in d ≡ Some path → is_path path ≡ true
unfolding path_in
path_lawful d path h = let named = then_some (λ name. if is_path name then Some name else None) (option_and_then as_str (get (codes "name") d)) path h in picked (is_path named.0) named.0 path refl named.2

bits_small : (first second : Bool) → nat_lt (port_bits (first, second)) 4 ≡ true
bits_small true true = refl
bits_small true false = refl
bits_small false true = refl
bits_small false false = refl

flags_small : (d : Data) (bits : ℕ) → port_flags_in d ≡ Some bits → nat_lt bits 4 ≡ true
unfolding port_flags_in
flags_small d bits h = let flags = map_some port_bits (truths_or_missing (codes "allow_ta_connect") (codes "allow_ns_connect") (get (codes "flags") d)) bits h in ap (λ n. nat_lt n 4) (sym flags.2) ∙ bits_small flags.0.0 flags.0.1

abbrev with_path : List ℕ → ℕ → StartPort
with_path path bits = record { path = path; flags = record { 0 = bits } }

port_lawful : (d : Data) (port : StartPort) → start_port_in d ≡ Some port → is_lawful_start_port port ≡ true
unfolding start_port_in
port_lawful d port h =
    let path = then_some (λ path. option_map (with_path path) (port_flags_in d)) (path_in d) port h in
    let flags = map_some (with_path path.0) (port_flags_in d) port path.2 in
    ap is_lawful_start_port (sym flags.2) ∙ rw (path_lawful d path.0 path.1, flags_small d flags.0 flags.1) refl

-- with k ports before them there are at most 8
record AreLawful (k : ℕ) (ports : List StartPort) : Type 0 where
  few : length ports + k ≤ 8
  lawful : list_all is_lawful_start_port ports ≡ true

room : (b : Bool) (rest : Result (List StartPort) ManifestFault) (ports : List StartPort) → (if b then Err (StartPorts 8) else rest) ≡ Ok ports → (b ≡ false) × (rest ≡ Ok ports)
room true rest ports h = absurd (cc)
room false rest ports h = (refl, h)

ports_lawful : (k : ℕ) (ds : Items) (ports : List StartPort) → k ≤ 8 → ports_in k ds ≡ Ok ports → AreLawful k ports
unfolding ports_in
ports_lawful k no_items ports small h =
    let none : [] ≡ ports = cc in
    subst (λ ps. AreLawful k ps) none (record { few = omega arith; lawful = refl })
ports_lawful k (item d ds) ports small h =
    let space = room (nat_le 8 k) _ ports h in
    let below : k < 8 = let e = space.0 in grind (arith, nat_tests) in
    let first = bind_ok (ok_or (start_port_in d) (StartPorts k)) _ ports space.1 in
    let others = bind_ok (ports_in (k + 1) ds) _ ports first.2 in
    let whole : first.0 ∷ others.0 ≡ ports = let e = others.2 in cc in
    let rest = ports_lawful (k + 1) ds others.0 (omega arith) others.1 in
    subst (λ ps. AreLawful k ps) whole (record {
      few = omega (arith, rest.few);
      lawful = rw (port_lawful d first.0 (there_is _ _ _ first.1), rest.lawful) refl;
    })

array_lawful : (o : Option Data) (ports : List StartPort) → ports_or_missing o ≡ Ok ports → AreLawful 0 ports
array_lawful None ports h =
    let none : [] ≡ ports = cc in
    subst (λ ps. AreLawful 0 ps) none (record { few = omega arith; lawful = refl })
array_lawful (Some d) ports h =
    let items = bind_ok (ok_or (as_array d) (StartPorts 8)) _ ports h in
    ports_lawful 0 items.0 ports (omega arith) items.2

start_ports_lawful : (d : Data) (ports : List StartPort) → start_ports_in d ≡ Ok ports → AreLawful 0 ports
unfolding start_ports_in
start_ports_lawful d ports h = array_lawful _ ports h

manifest_lawful : (d : Data) (manifest : Manifest) → manifest_in d ≡ Ok manifest → AreLawful 0 manifest.ports
unfolding manifest_in
manifest_lawful d manifest h =
    let members = bind_ok (ok_or (as_object d) NotObject) _ manifest h in
    let uuid = bind_ok (ok_or (uuid_in d) Uuid) _ manifest members.2 in
    let flags = bind_ok (ok_or (mgmt_flags_in d) MgmtFlags) _ manifest uuid.2 in
    let ports = bind_ok (start_ports_in d) _ manifest flags.2 in
    let whole : record { uuid = uuid.0; restart = flags.0.0; deferred = flags.0.1; ports = ports.0 } ≡ manifest = let e = ports.2 in cc in
    subst (λ m. AreLawful 0 m.ports) whole (start_ports_lawful d ports.0 ports.1)

value_of : {A : Type 0} (r : Result A ManifestFault) (a : A) → result_ok r ≡ Some a → r ≡ Ok a
value_of (Ok x) a h = cc
value_of (Err fault) a h = absurd (cc)

pub manifests_lawful : ManifestsAreLawful
unfolding manifest_text
manifests_lawful text manifest h =
    let read_value = then_some _ (read text) manifest h in
    let ports = manifest_lawful read_value.0 manifest (value_of _ manifest read_value.2) in
    record { few = le-leb _ 8 (omega (arith, ports.few)); lawful = ports.lawful }
