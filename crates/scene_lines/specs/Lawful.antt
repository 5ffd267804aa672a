-- What holds of every reading, so that the scene at its end keeps all limits.
use Rattle.std.specs.Prelude.{◌≡◌, ℕ, ◌+◌, Bool, List, ◌++◌, IsTrue, length, map, nat_le, sum_by}
use Rattle.std.specs.List.{flat_map, list_all}
use Rattle.kernel_values.specs.Words.{are_distinct}
use Rattle.kernel_values.specs.SceneLaw.{is_lawful_app, is_lawful_client, is_lawful_thread_command, is_lawful_client_command, is_queue_size, payload_of_script}
use Rattle.kernel_values.specs.declared.scene.App.{App}
use Rattle.kernel_values.specs.declared.scene.Client.{Client}
use Rattle.kernel_values.specs.declared.script.Command.{Command}
use Rattle.scene_lines.specs.declared.reading.Noted.{Noted}
use Rattle.scene_lines.specs.declared.reading.Repeat.{Repeat}
use Rattle.scene_lines.specs.declared.reading.Place.{Place}
use Rattle.scene_lines.specs.declared.reading.Place.TheVariants as place
use Rattle.scene_lines.specs.declared.reading.Registered.{Registered}
use Rattle.scene_lines.specs.declared.reading.Used.{Used}
use Rattle.scene_lines.specs.declared.reading.Reading.{Reading}
use Rattle.scene_lines.specs.Reading.{apps_with, clients_with, is_within, most_apps, most_clients, queue_of}

abbrev pub scripts_in : List App → List (List Command)
scripts_in apps = flat_map (λ app. app.threads) apps

abbrev pub client_scripts : List Client → List (List Command)
client_scripts clients = map (λ client. client.script) clients

abbrev pub paths_in : List App → List (List ℕ)
paths_in apps = flat_map (λ app. map (λ port. port.path) app.manifest.ports) apps

-- the applications and clients keep all limits, and what was noted of them is what they have
pub record KeepsCount (apps : List App) (clients : List Client) (noted : Noted) (used : Used) : Type 0 where
  pub lawful : IsTrue (list_all is_lawful_app apps)
  pub lawful_clients : IsTrue (list_all is_lawful_client clients)
  pub named : map (λ app. app.name) apps ≡ noted.names
  pub clients_named : map (λ client. client.name) clients ≡ noted.client_names
  pub published : paths_in apps ≡ noted.ports
  pub few : IsTrue (nat_le (length noted.names) most_apps)
  pub few_clients : IsTrue (nat_le (length noted.client_names) most_clients)
  pub distinct_names : IsTrue (are_distinct (noted.names ++ noted.client_names))
  pub distinct_ports : IsTrue (are_distinct noted.ports)
  pub queue : IsTrue (is_queue_size (queue_of noted))
  pub commands : sum_by length (scripts_in apps) + sum_by length (client_scripts clients) ≡ used.commands
  pub payload : sum_by payload_of_script (scripts_in apps) + sum_by payload_of_script (client_scripts clients) ≡ used.payload
  pub within : IsTrue (is_within used)

-- the commands of a repeat may stand in its script, and their payload is counted
pub record IsCounted (may_stand : Command → Bool) (repeat : Repeat) : Type 0 where
  pub commands : IsTrue (list_all may_stand repeat.body)
  pub payload : payload_of_script repeat.body ≡ repeat.payload

abbrev pub IsLawfulBody : Place → Type 0
IsLawfulBody (place.Repeat app repeat) = IsCounted is_lawful_thread_command repeat
IsLawfulBody (place.ClientRepeat client repeat) = IsCounted is_lawful_client_command repeat
IsLawfulBody other = Unit {0}

pub record IsLawful (before : Registered) (last : Place) (used : Used) : Type 0 where
  pub keeps : KeepsCount (apps_with before.apps last) (clients_with before.clients last) before.noted used
  pub body : IsLawfulBody last

abbrev pub IsLawfulReading : Reading → Type 0
IsLawfulReading reading = IsLawful reading.before reading.place reading.used
