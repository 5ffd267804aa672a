-- What the next line of a text comes to, and the check of all lines.
use Rattle.std.proofs.Common.{◌≡◌, ◌<◌, ℕ, ◌+◌, Bool, true, false, List, [], ◌∷◌, ◌++◌, length, map, Option, Some, None, refl, sym, ap, ◌∙◌, subst, arith, inl, inr}
use Rattle.std.specs.Prelude.{◌⊎◌, decimal, IfSome, IfNone, option_map, slice_get, if◌then◌else◌}
use Rattle.std.specs.List.{AllByRecursion}
use Rattle.std.proofs.lemmas.List.{length-map}
use Rattle.std.proofs.lemmas.Option.{slice_get_within}
use mathlib.Core.List.{IsPrefix}
use Rattle.kernel_values.specs.SceneLaw.{SceneValue, IsLawfulScene, scripts_of}
use Rattle.kernel_values.specs.declared.entry.Entry.{Entry}
use Rattle.kernel_values.specs.declared.entry.Event.{Event}
use Rattle.kernel_values.specs.declared.entry.Event.TheVariants as event
use Rattle.kernel_values.specs.declared.entry.ActorStatus.TheVariants as status
use Rattle.kernel_values.specs.declared.scene.Turn.{Turn}
use Rattle.kernel_values.specs.declared.state.State.{State}
use Rattle.kernel_types.specs.Facts.{end_facts}
use Rattle.kernel_types.specs.History.{next_state, step_entry}
use Rattle.kernel_types.specs.Kernel.{step_limit}
use Rattle.kernel_types.specs.Opening.{opening}
use Rattle.kernel_types.specs.Step.{statuses}
use Rattle.report_text.specs.Forms.{entry_words}
use Rattle.report_text.specs.Lines.{blank, lined}
use Rattle.report_text.specs.Names.{actor_names}
use Rattle.report_text.specs.Plain.{IsWord}
use Rattle.report_text.proofs.Lawful.{scripts_of_scene}
use Rattle.report_text.proofs.NamesApart.{AreApart, actors_apart, actors_plain}
use Rattle.runners.specs.Places.{AllRan, PlacesFit, first_place}
use Rattle.runners.proofs.Fitting.{fits_first}
use Rattle.run_laws.proofs.Counting.{actors_stay}
use Rattle.runners.proofs.Starting.{actors_many, few_scripts, first_start, get_places}
use Rattle.history_check.specs.declared.actors.Actors.{Actors}
use Rattle.history_check.specs.declared.verdict.Verdict.{Verdict}
use Rattle.history_check.specs.declared.verdict.Verdict.TheVariants as verdict
use Rattle.kernel_values.specs.declared.scene.Turn.TheVariants as turn
use Rattle.history_check.specs.Checking.{CanFollow, Checks, Ends, IsEnd, NoLine, Opens, StandAt, TookEntry, TookLine}
use Rattle.history_check.specs.Fronts.{IsOf, IsOfNobody}
use Rattle.history_check.specs.Matching.{AreAtTheBeginning, Came, CanCome, Matches, IsWithin, NoneCan, SameActors, StandsAfter, Took}
use Rattle.history_check.specs.Verdicts.{IsNo, IsVerdict, IsYes, behind_first_line, line_count}
use Rattle.history_check.proofs.Coming.{begin_runs, resume_waits}
use Rattle.history_check.proofs.Lined.{fewer_lines}
use Rattle.history_check.proofs.Reached.{Reached, begun, is_no, is_yes, legal_more, no_number, state_more, went_on}
use Rattle.history_check.proofs.Turned.{HasName, fronted, nobody, says, turn_is}

abbrev front : ℕ → List ℕ
front k = decimal k ++ blank ∷ []

plain_names : (scene : SceneValue) (actors : Actors) → IsLawfulScene scene → actors.names ≡ actor_names scene → AllByRecursion IsWord actors.names
plain_names scene actors lawful is = subst (λ names. AllByRecursion IsWord names) (sym is) (actors_plain scene lawful)

apart_names : (scene : SceneValue) (actors : Actors) → IsLawfulScene scene → actors.names ≡ actor_names scene → AreApart actors.names
apart_names scene actors lawful is = subst (λ names. AreApart names) (sym is) (actors_apart scene lawful)

-- The next line.

module _ (k : ℕ) (text : List ℕ) (old : Actors) (s : State) (fit : Matches old s) where
  has_name : (names : List (List ℕ)) (plain : AllByRecursion IsWord names) (apart : AreApart names) → names ≡ old.names → (e : Event) (entry : Entry) → step_entry s e ≡ Some entry → HasName names plain apart e
  has_name names plain apart is (event.Begin actor start asked) entry step_is =
      omega (arith, ap length is, fit.names, slice_get_within (statuses s) actor.0 (status.Running start) (begin_runs s actor.0 start asked entry step_is))
  has_name names plain apart is (event.Resume actor start) entry step_is =
      omega (arith, ap length is, fit.names, slice_get_within (statuses s) actor.0 (status.Waiting start) (resume_waits s actor.0 start entry step_is))
  has_name names plain apart is event.Device entry step_is = tt
  has_name names plain apart is event.Idle entry step_is = tt

  pub no_front : (IsPrefix (front k) text → ⊥) → NoLine k text old s
  no_front none scene entries stands other can = none (fronted old.names k other text can.line)

  module _ (said : List ℕ) (text_is : text ≡ front k ++ said) where
    pub no_turn : IsOfNobody old.names said → NoLine k text old s
    no_turn of scene entries stands other can =
        let plain = plain_names scene old stands.lawful stands.names_are in
        let apart = apart_names scene old stands.lawful stands.names_are in
        nobody old.names plain apart other.event said (has_name old.names plain apart refl other.event other can.step_is) (says old.names k other text said can.line text_is) of

    module _ (taken : Turn) (of : IsOf old.names said taken) where
      can_come : (scene : SceneValue) (entries : List Entry) → StandAt scene old entries → (other : Entry) → CanFollow old s entries k text other → CanCome old.scripts s entries taken other
      can_come scene entries stands other can =
          let plain = plain_names scene old stands.lawful stands.names_are in
          let apart = apart_names scene old stands.lawful stands.names_are in
          record {
            of = turn_is old.names plain apart other.event taken said (has_name old.names plain apart refl other.event other can.step_is) (says old.names k other text said can.line text_is) of;
            step_is = can.step_is;
            later = can.later;
            follows = can.follows;
          }

      pub no_step : NoneCan taken old s → NoLine k text old s
      no_step none scene entries stands other can = none entries stands.kept other (can_come scene entries stands other can)

      pub line_taken : (new : Actors) (t : State) (made remade : ℕ) (entry : Entry) (rest : List ℕ) → Took taken old new s t made remade entry → text ≡ lined (entry_words old.names k entry) ++ rest
          → TookLine k text rest old new s t made remade
      line_taken new t made remade entry rest took line_is = record {
        entry = entry;
        line_is = line_is;
        same = took.same;
        step_is = took.step_is;
        state_is = took.state_is;
        made_is = took.made_is;
        kept = took.kept;
        ran = took.ran;
        only = λ scene entries stands other can. took.only entries stands.kept other (can_come scene entries stands other can);
      }

      other_line : (new : Actors) (t : State) (made remade : ℕ) (entry : Entry) → Took taken old new s t made remade entry → (IsPrefix (lined (entry_words old.names k entry)) text → ⊥) → NoLine k text old s
      other_line new t made remade entry took none scene entries stands other can =
          let same : other ≡ entry = took.only entries stands.kept other (can_come scene entries stands other can) in
          none (subst (λ e. IsPrefix (lined (entry_words old.names k e)) text) same can.line)

      pub went : {X : Type 0} (view : X → List ℕ) (new : Actors) (t : State) (made remade : ℕ) (entry : Entry) (line : List ℕ) (r : Option X) → Took taken old new s t made remade entry
          → line ≡ lined (entry_words new.names k entry) → IfSome r (λ rest. text ≡ line ++ view rest) → IfNone r (IsPrefix line text → ⊥) → TookEntry k text old new s t made remade (option_map view r)
      went view new t made remade entry line None took line_is some none = (
        other_line new t made remade entry took (λ p. none (subst (λ l. IsPrefix l text) (sym (line_is ∙ ap (λ names. lined (entry_words names k entry)) took.same.names)) p)),
        inr (said, sym text_is),
      )
      went view new t made remade entry line (Some rest) took line_is some none =
          line_taken new t made remade entry (view rest) took (some ∙ ap (λ l. l ++ view rest) (line_is ∙ ap (λ names. lined (entry_words names k entry)) took.same.names))

      pub came_none : (new : Actors) (t : State) (made remade : ℕ) (r : Option Entry) → r ≡ None → Came taken old new s t made remade r → NoLine k text old s × ((t ≡ s) ⊎ IsPrefix (front k) text)
      came_none new t made remade r is came = (no_step (subst (λ o. Came taken old new s t made remade o) is came), inr (said, sym text_is))

      pub came_some : {X : Type 0} (view : X → List ℕ) (new : Actors) (t : State) (made remade : ℕ) (o : Option Entry) (entry : Entry) (line : List ℕ) (r : Option X) → o ≡ Some entry → Came taken old new s t made remade o
          → line ≡ lined (entry_words new.names k entry) → IfSome r (λ rest. text ≡ line ++ view rest) → IfNone r (IsPrefix line text → ⊥) → TookEntry k text old new s t made remade (option_map view r)
      came_some view new t made remade o entry line r is came line_is some none = went view new t made remade entry line r (subst (λ q. Came taken old new s t made remade q) is came) line_is some none

-- the turn's actor has a name
pub within_of : (actors : Actors) (said : List ℕ) (taken : Turn) → IsOf actors.names said taken → IsWithin actors taken
within_of actors said (turn.Actor actor) of = slice_get_within actors.names actor of.1.name of.1.name_is
within_of actors said turn.Device of = tt
within_of actors said turn.Idle of = tt

pub took_some : {X : Type 0} (view : X → List ℕ) (k : ℕ) (text : List ℕ) (old new : Actors) (s t : State) (made remade : ℕ) (o : Option X) (x : X) → o ≡ Some x → TookEntry k text old new s t made remade (option_map view o)
    → TookLine k text (view x) old new s t made remade
took_some view k text old new s t made remade o x is took = subst (λ q. TookEntry k text old new s t made remade (option_map view q)) is took

pub took_none : {X : Type 0} (view : X → List ℕ) (k : ℕ) (text : List ℕ) (old new : Actors) (s t : State) (made remade : ℕ) (o : Option X) → o ≡ None → TookEntry k text old new s t made remade (option_map view o)
    → NoLine k text old s × ((t ≡ s) ⊎ IsPrefix (front k) text)
took_none view k text old new s t made remade o is took = subst (λ q. TookEntry k text old new s t made remade (option_map view q)) is took

pub limit_is : step_limit ≡ 4294967295
unfolding step_limit
limit_is = refl

-- All lines.

pub record Goes (first : Actors) (begin : State) (behind rest : List ℕ) (actors : Actors) (s : State) (made k : ℕ) : Type 0 where
  pub fit : Matches actors s
  pub made_is : made ≡ k
  pub room : k + line_count rest < step_limit
  pub reached : (scene : SceneValue) → Opens scene first begin → Reached scene behind rest actors s k

pub goes_first : (actors : Actors) (s : State) (behind : List ℕ) (made : ℕ) → Matches actors s → made ≡ 0 → line_count behind < step_limit → Goes actors s behind behind actors s made 0
goes_first actors s behind made fit made_is few = record { fit = fit; made_is = made_is; room = omega (arith, few); reached = λ scene opens. begun scene behind actors s opens }

stands_more : (k : ℕ) (text rest : List ℕ) (old new : Actors) (s t : State) (made remade : ℕ) → StandsAfter old s → TookLine k text rest old new s t made remade → StandsAfter new t
stands_more k text rest old new s t made remade stands took = record {
  scene = stands.scene;
  entries = stands.entries ++ took.entry ∷ [];
  legal = legal_more (opening stands.scene) stands.entries took.entry stands.legal (subst (λ u. step_entry u took.entry.event ≡ Some took.entry) stands.state_is took.step_is);
  state_is = took.state_is ∙ ap (λ u. next_state u took.entry.event) stands.state_is ∙ sym (state_more (opening stands.scene) stands.entries took.entry);
  kept = subst (λ cs. PlacesFit cs new.places.items (stands.entries ++ took.entry ∷ [])) (sym took.same.scripts) (took.kept stands.entries stands.kept);
  ran = took.ran (opening stands.scene) stands.entries stands.state_is stands.ran;
}

fits_more : (old new : Actors) (s t : State) (e : Event) → Matches old s → StandsAfter new t → SameActors old new → length (statuses t) ≡ length (statuses s) → Matches new t
fits_more old new s t e fit stands same many = record {
  stands = stands;
  names = ap length same.names ∙ (fit.names ∙ sym many);
  scripts = ap length same.scripts ∙ (fit.scripts ∙ sym many);
  places = same.many ∙ (fit.places ∙ sym many);
  few = omega (arith, ap length same.names, fit.few);
}

module _ (first : Actors) (begin : State) (behind rest : List ℕ) (actors : Actors) (s : State) (made k : ℕ) (goes : Goes first begin behind rest actors s made k) where
  pub has_room : made < step_limit
  has_room = omega (arith, goes.room, goes.made_is)

  pub goes_on : (after : List ℕ) (new : Actors) (t : State) (remade : ℕ) → TookLine k rest after actors new s t made remade → Goes first begin behind after new t remade (k + 1)
  goes_on after new t remade took = record {
    fit = fits_more actors new s t took.entry.event goes.fit (stands_more k rest after actors new s t made remade goes.fit.stands took) took.same (ap (λ u. length (statuses u)) took.state_is ∙ actors_stay s took.entry.event);
    made_is = omega (arith, took.made_is, goes.made_is);
    room = omega (arith, goes.room, fewer_lines rest after (entry_words actors.names k took.entry) took.line_is);
    reached = λ scene opens. went_on scene behind rest actors s k (goes.reached scene opens) after new t made remade took;
  }

  -- the state at the end is that after the entries, or the text does not end as a report does
  same_end : (t : State) (first_line : List ℕ) → (t ≡ s) ⊎ IsPrefix (front k) rest → IsEnd t k first_line rest → IsEnd s k first_line rest
  same_end t first_line (inl same) e = subst (λ u. IsEnd u k first_line rest) same e
  same_end t first_line (inr number) e = absurd (no_number k rest (end_facts t) number e.last_is)

  back_end : (t : State) (first_line : List ℕ) → (t ≡ s) ⊎ IsPrefix (front k) rest → IsEnd s k first_line rest → IsEnd t k first_line rest
  back_end t first_line (inl same) e = subst (λ u. IsEnd u k first_line rest) (sym same) e
  back_end t first_line (inr number) e = absurd (no_number k rest (end_facts s) number e.last_is)

  pub says_yes : (t : State) (first_line : List ℕ) → NoLine k rest actors s → (t ≡ s) ⊎ IsPrefix (front k) rest → IsEnd t k first_line rest
      → (scene : SceneValue) → Opens scene first begin → (text : List ℕ) → text ≡ first_line ++ behind → behind ≡ behind_first_line text → IsYes scene text k
  says_yes t first_line none stays e scene opens text text_is behind_is =
      is_yes scene behind rest actors s k (goes.reached scene opens) none text first_line text_is behind_is (same_end t first_line stays e)

  pub says_no : (t : State) (first_line : List ℕ) → NoLine k rest actors s → (t ≡ s) ⊎ IsPrefix (front k) rest → (IsEnd t k first_line rest → ⊥)
      → (scene : SceneValue) → Opens scene first begin → (text : List ℕ) → text ≡ first_line ++ behind → behind ≡ behind_first_line text → IsNo scene text k
  says_no t first_line none stays unfinished scene opens text text_is behind_is =
      is_no scene behind rest actors s k (goes.reached scene opens) none text first_line text_is behind_is (λ e. unfinished (back_end t first_line stays e))

  pub verdict_is : (t : State) (first_line : List ℕ) → NoLine k rest actors s × ((t ≡ s) ⊎ IsPrefix (front k) rest) → (ends : Bool) → Ends t k first_line rest ends → (told : Verdict)
      → told ≡ (if ends then verdict.Yes k else verdict.No k) → Checks first begin first_line behind told
  verdict_is t first_line (none, stays) true e told is scene opens text text_is behind_is = subst (λ v. IsVerdict scene text v) (sym is) (says_yes t first_line none stays e scene opens text text_is behind_is)
  verdict_is t first_line (none, stays) false e told is scene opens text text_is behind_is = subst (λ v. IsVerdict scene text v) (sym is) (says_no t first_line none stays e scene opens text text_is behind_is)

-- The actors of a scene at its beginning.

first_ran : (scene : SceneValue) (actors : Actors) → AreAtTheBeginning scene actors → AllRan actors.places.items (opening scene) []
first_ran scene actors begins number place is =
    inl (first_start (scripts_of scene) number place (ap (λ ps. slice_get ps number) (sym begins.places_are) ∙ is))

first_fits : {scene : SceneValue} (actors : Actors) → AreAtTheBeginning scene actors → PlacesFit actors.scripts actors.places.items []
first_fits actors begins number script script_is = (
  first_place script,
  ap (λ ps. slice_get ps number) (begins.places_are ∙ ap (λ cs. map first_place cs) (sym begins.scripts_are)) ∙ get_places actors.scripts number script script_is,
  fits_first number script,
)

pub opening_fits : (scene : SceneValue) (actors : Actors) (s : State) → IsLawfulScene scene → AreAtTheBeginning scene actors → s ≡ opening scene → Matches actors s
opening_fits scene actors s lawful begins state_is =
    let many : length (statuses s) ≡ length (scripts_of scene) = ap (λ t. length (statuses t)) state_is ∙ actors_many scene in
    let named : length actors.names ≡ length (scripts_of scene) = ap length begins.names_are ∙ sym (scripts_of_scene scene) in
    record {
      stands = record {
        scene = scene;
        entries = [];
        legal = tt;
        state_is = state_is;
        kept = first_fits actors begins;
        ran = first_ran scene actors begins;
      };
      names = named ∙ sym many;
      scripts = ap length begins.scripts_are ∙ sym many;
      places = ap length begins.places_are ∙ (length-map (scripts_of scene) first_place ∙ sym many);
      few = omega (arith, named, few_scripts scene lawful);
    }
