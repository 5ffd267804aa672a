-- In every history the actors stay what they are.
use Rattle.std.proofs.Common.{◌≡◌, ◌++◌, ℕ, List, [], ◌∷◌, map, length, Option, Some, None, refl, sym, ◌∙◌, subst, ap, arith, length-append}
use Rattle.std.proofs.lemmas.List.{length-map}
use Rattle.kernel_values.specs.declared.entry.Event.{Event}
use Rattle.kernel_values.specs.declared.entry.Entry.{Entry}
use Rattle.kernel_values.specs.declared.state.Thread.{Thread}
use Rattle.kernel_values.specs.declared.world.ClientState.{ClientState}
use Rattle.kernel_values.specs.declared.state.State.{State}
use Rattle.kernel_types.specs.History.{next_state, state_after, state_or}
use Rattle.kernel_types.specs.CoreStep.{status_of}
use Rattle.kernel_types.specs.Step.{Stepped, client_status, step, statuses}
use Rattle.kernel_laws.specs.Actors.{HasSameActors, kinds}
use Rattle.kernel_laws.proofs.Standing.{ClientsStay, StepStands, step_clients, step_stands}

map_map : (threads : List Thread) → map (λ (n : ℕ). Some n) (map (λ (thread : Thread). thread.app) threads) ≡ map (λ (thread : Thread). Some thread.app) threads
map_map [] = refl
map_map (thread ∷ threads) = ap (λ ks. Some thread.app ∷ ks) (map_map threads)

same_kinds : (threads others : List Thread) → map (λ (thread : Thread). thread.app) others ≡ map (λ (thread : Thread). thread.app) threads
    → map (λ (thread : Thread). Some thread.app) others ≡ map (λ (thread : Thread). Some thread.app) threads
same_kinds threads others same = sym (map_map others) ∙ (ap (λ os. map (λ (n : ℕ). Some n) os) same ∙ map_map threads)

stepped_same : (s : State) (o : Option Stepped) → StepStands s o → ClientsStay s o → (r : Stepped) → o ≡ Some r → HasSameActors s r.state
stepped_same s None by clients r is = absurd (cc)
stepped_same s (Some stepped) by clients r is =
    let same : stepped ≡ r = cc in
    let threads : map (λ (thread : Thread). Some thread.app) stepped.state.core.threads ≡ map (λ (thread : Thread). Some thread.app) s.core.threads =
    same_kinds s.core.threads stepped.state.core.threads by.owners_are in
    let here : HasSameActors s stepped.state = record {
      kinds = ap (λ ks. ks ++ map (λ (client : ClientState). None) stepped.state.world.clients) threads
          ∙ ap (λ cs. map (λ (thread : Thread). Some thread.app) s.core.threads ++ cs) clients;
      manifests = by.manifests_are;
    } in
    subst (λ (x : Stepped). HasSameActors s x.state) same here

pub steps_keep : (s : State) (e : Event) (r : Stepped) → step s e ≡ Some r → HasSameActors s r.state
steps_keep s e r is = stepped_same s (step s e) (step_stands s e) (step_clients s e) r is

next_same : (s : State) (o : Option Stepped) → ((r : Stepped) → o ≡ Some r → HasSameActors s r.state) → HasSameActors s (state_or s o)
next_same s None keeps = record { kinds = refl; manifests = refl }
next_same s (Some stepped) keeps = keeps stepped refl

pub histories_keep : (s : State) (entries : List Entry) → HasSameActors s (state_after s entries)
histories_keep s [] = record { kinds = refl; manifests = refl }
histories_keep s (entry ∷ entries) =
    let one : HasSameActors s (next_state s entry.event) = next_same s (step s entry.event) (steps_keep s entry.event) in
    let rest : HasSameActors (next_state s entry.event) (state_after (next_state s entry.event) entries) = histories_keep (next_state s entry.event) entries in
    record { kinds = rest.kinds ∙ one.kinds; manifests = rest.manifests ∙ one.manifests }

pub one_status_each : (s : State) → length (statuses s) ≡ length (kinds s)
unfolding statuses
one_status_each s =
    let f : Thread → _ = λ (thread : Thread). status_of thread.activity in
    let g : ClientState → _ = λ (client : ClientState). client_status client.activity in
    let k : Thread → Option ℕ = λ thread. Some thread.app in
    let n : ClientState → Option ℕ = λ client. None in
    omega (
      arith,
      length-append (map f s.core.threads) (map g s.world.clients),
      length-append (map k s.core.threads) (map n s.world.clients),
      length-map s.core.threads f,
      length-map s.world.clients g,
      length-map s.core.threads k,
      length-map s.world.clients n,
    )
