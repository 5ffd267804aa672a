-- What a scene may hold.
use Rattle.std.specs.Prelude.{ℕ, Bool, List, [], ◌∷◌, ◌++◌, ◌==◌, ◌&&◌, IsTrue, length, nat_lt, nat_le, map, sum_by}
use Rattle.std.specs.List.{flat_map, list_all, list_any}
use Rattle.kernel_values.specs.declared.scene.App.{App}
use Rattle.kernel_values.specs.declared.scene.Client.{Client}
use Rattle.kernel_values.specs.declared.scene.StartPort.{StartPort}
use Rattle.kernel_values.specs.declared.scene.Turn.{Turn}
use Rattle.kernel_values.specs.declared.script.Command.{Command}
use Rattle.kernel_values.specs.Calls.{can_be_spelled, payload_of, is_thread_call, is_client_call}
use Rattle.kernel_values.specs.Words.{is_name, is_path, are_distinct}

pub record SceneValue : Type 0 where
  pub apps : List App
  pub clients : List Client
  pub queue : ℕ
  pub turns : List Turn

abbrev pub is_lawful_start_port : StartPort → Bool
is_lawful_start_port port = is_path port.path && nat_lt port.flags.0 4

abbrev pub is_lawful_thread_command : Command → Bool
is_lawful_thread_command command = is_thread_call command.call && can_be_spelled command.call

abbrev pub is_lawful_client_command : Command → Bool
is_lawful_client_command command = is_client_call command.call && can_be_spelled command.call

-- a name; 1 to 4 threads whose commands are system calls; at most 8 start ports with lawful paths
abbrev pub is_lawful_app : App → Bool
is_lawful_app app = is_name app.name && nat_le 1 (length app.threads) && nat_le (length app.threads) 4
    && list_all (list_all is_lawful_thread_command) app.threads
    && nat_le (length app.manifest.ports) 8 && list_all is_lawful_start_port app.manifest.ports

-- a name, and commands that are calls of the normal world
abbrev pub is_lawful_client : Client → Bool
is_lawful_client client = is_name client.name && list_all is_lawful_client_command client.script

-- every script, the threads' first
abbrev pub scripts_of : SceneValue → List (List Command)
scripts_of scene = flat_map (λ app. app.threads) scene.apps ++ map (λ client. client.script) scene.clients

abbrev pub names_in_scene : SceneValue → List (List ℕ)
names_in_scene scene = map (λ app. app.name) scene.apps ++ map (λ client. client.name) scene.clients

abbrev pub start_ports_of : SceneValue → List (List ℕ)
start_ports_of scene = flat_map (λ app. map (λ port. port.path) app.manifest.ports) scene.apps

abbrev pub commands_of : SceneValue → ℕ
commands_of scene = sum_by length (scripts_of scene)

abbrev pub payload_of_script : List Command → ℕ
payload_of_script script = sum_by (λ command. payload_of command.call) script

-- a power of two from 1 to 256
abbrev pub is_queue_size : ℕ → Bool
is_queue_size size = list_any (λ power. power == size) (1 ∷ 2 ∷ 4 ∷ 8 ∷ 16 ∷ 32 ∷ 64 ∷ 128 ∷ 256 ∷ [])

pub record IsLawfulScene (scene : SceneValue) : Type 0 where
  pub few_apps : IsTrue (nat_le (length scene.apps) 32)
  pub few_clients : IsTrue (nat_le (length scene.clients) 8)
  pub apps : IsTrue (list_all is_lawful_app scene.apps)
  pub clients : IsTrue (list_all is_lawful_client scene.clients)
  pub names : IsTrue (are_distinct (names_in_scene scene))
  pub start_ports : IsTrue (are_distinct (start_ports_of scene))
  pub queue : IsTrue (is_queue_size scene.queue)
  pub few_commands : IsTrue (nat_le (commands_of scene) 16384)
  pub small_payload : IsTrue (nat_le (sum_by payload_of_script (scripts_of scene)) 16777216)
