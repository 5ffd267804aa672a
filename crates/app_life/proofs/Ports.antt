-- What a map from paths to places has, one port after another.
use Rattle.std.proofs.Common.{◌≡◌, ℕ, ◌+◌, suc, Bool, true, false, cond, ◌||◌, List, [], ◌∷◌, ◌++◌, length, Option, Some, None, refl, ap, sym, subst, ◌∙◌, arith, add-zero}
use Rattle.std.specs.Prelude.{bytes_eq, option_map, option_and_then, is_some, if◌then◌else◌}
use Rattle.std.specs.Option.{option_or}
use Rattle.std.specs.List.{list_any, find, position_from}
use Rattle.std.specs.Global.{Vec}
use Rattle.std.specs.BTreeMap.{BTreeMap, UpdatesBy}
use Rattle.std.specs.Map.{KeepsOthers, IsKeyTest, AreApart, lookup}
use Rattle.std.specs.Ordering.{nat_cmp, is_eq}
use Rattle.std.specs.Cmp.{eq_by_cmp_equiv}
use Rattle.std.specs.Cmp.Lexicographic.{slice_cmp, nat_list_cmp_total, nat_list_eq_equiv, bytes_decides}
use Rattle.std.proofs.lemmas.Map.Text.{is_eq-slice_cmp}
use Rattle.std.proofs.lemmas.Iterator.Adapters.{position_from-zero}
use Rattle.kernel_values.specs.declared.flags.PortFlags.{PortFlags}
use Rattle.kernel_values.specs.declared.scene.Manifest.{Manifest}
use Rattle.kernel_values.specs.declared.scene.StartPort.{StartPort}
use Rattle.kernel_values.specs.declared.state.Application.{Application}
use Rattle.app_life.specs.declared.life.Life.{Life}
use Rattle.app_life.specs.declared.registry.StartPlace.{StartPlace}
use Rattle.app_life.specs.StartPorts.{serving, flags_of, serving_flags}
use Rattle.kernel_types.specs.Applications.{is_start_port, has_start_port}
use Rattle.kernel_types.specs.Connects.{start_flags}
use Rattle.app_life.specs.Inside.{application, applications}
use Rattle.app_life.specs.Places.{place_of, place_if, place_in, place_from, place_at, IsIndex}

option_or-none : {X : Type 0} (a : Option X) → option_or a None ≡ a
option_or-none None = refl
option_or-none (Some x) = refl

option_or-assoc : {X : Type 0} (a b c : Option X) → option_or (option_or a b) c ≡ option_or a (option_or b c)
option_or-assoc None b c = refl
option_or-assoc (Some x) b c = refl

empty : {X : Type 0} (o : Option X) → is_some o ≡ false → o ≡ None
empty None h = refl
empty (Some x) h = cc

full : {X : Type 0} (o p : Option X) → is_some o ≡ true → o ≡ option_or o p
full None p h = cc
full (Some x) p h = refl

-- ---- a map after one more path

apart : (bs cs ks : List ℕ) → bytes_eq bs cs ≡ false → bytes_eq bs ks ≡ true → bytes_eq cs ks ≡ false
apart bs cs ks n y = nat_list_eq_equiv.symm cs ks ∙ sym (nat_list_eq_equiv.congr bs ks cs y) ∙ n

apart_in_order : (bs cs ks : List ℕ) → bytes_eq bs cs ≡ false → is_eq (slice_cmp nat_cmp bs ks) ≡ true → is_eq (slice_cmp nat_cmp cs ks) ≡ false
apart_in_order bs cs ks n y = is_eq-slice_cmp cs ks ∙ apart bs cs ks n (sym (is_eq-slice_cmp bs ks) ∙ y)

other_entries : {K X : Type 0} (eq : K → K → Bool) (test : K → Bool) (old new : List (K × X)) → KeepsOthers eq test old new → (other : K → Bool) → IsKeyTest eq other → AreApart test other → lookup other new ≡ lookup other old
unfolding KeepsOthers
other_entries eq test old new h = h

-- the map has the place at the path from now on, where it had none there
pub added : (old new : BTreeMap (Vec ℕ) StartPlace) (key : Vec ℕ) (app : ℕ) (port : StartPort) → key.items ≡ port.path → is_some (place_at old port.path) ≡ false
    → UpdatesBy (λ x y. slice_cmp nat_cmp x.items y.items) (λ y. slice_cmp nat_cmp key.items y.items) old new (Some (place_of app port))
    → (path : List ℕ) → place_at new path ≡ option_or (place_at old path) (place_if path app port)
added old new key app port same none h path =
    let here : place_at new key.items ≡ Some (place_of app port) = h.1 in
    let P : Bool → Type 0 = λ b. bytes_eq port.path path ≡ b → place_at new path ≡ option_or (place_at old path) (if b then Some (place_of app port) else None) in
    let cases : (b : Bool) → P b = λ b. elim b as P [
      | true ↦ λ y. let e = (bytes_decides port.path path).0 y in subst (λ q. place_at new q ≡ option_or (place_at old q) (Some (place_of app port))) e (rw (empty (place_at old port.path) none) (rw same at here))
      | false ↦ λ n. rw option_or-none (
          other_entries _ _ _ _ h.3 _
          (λ x y. (eq_by_cmp_equiv nat_list_cmp_total).congr path x.items y.items)
          (λ k. apart_in_order key.items path k.items (ap (λ bs. bytes_eq bs path) same ∙ n))
          )
    ] in
    cases (bytes_eq port.path path) refl

-- a path that is there is found at once
pub kept : (starts : BTreeMap (Vec ℕ) StartPlace) (app : ℕ) (port : StartPort) → is_some (place_at starts port.path) ≡ true
    → (path : List ℕ) → place_at starts path ≡ option_or (place_at starts path) (place_if path app port)
kept starts app port some path =
    let P : Bool → Type 0 = λ b. bytes_eq port.path path ≡ b → place_at starts path ≡ option_or (place_at starts path) (if b then Some (place_of app port) else None) in
    let cases : (b : Bool) → P b = λ b. elim b as P [
      | true ↦ λ y. let e = (bytes_decides port.path path).0 y in full (place_at starts path) (Some (place_of app port)) (subst (λ q. is_some (place_at starts q) ≡ true) e some)
      | false ↦ λ n. sym (option_or-none (place_at starts path))
    ] in
    cases (bytes_eq port.path path) refl

-- ---- one more application

place_from-last : (path : List ℕ) (k : ℕ) (ms : List Manifest) (m : Manifest) → place_from path k (ms ++ m ∷ []) ≡ option_or (place_from path k ms) (place_in path (k + length ms) m.ports)
place_from-last path k [] m = rw (option_or-none, add-zero) refl
place_from-last path k (x ∷ ms) m =
    let e : k + 1 + length ms ≡ k + suc (length ms) = omega arith in
    rw (place_from-last path (k + 1) ms m, e, option_or-assoc) refl

pub index_more : (old new : BTreeMap (Vec ℕ) StartPlace) (ms : List Manifest) (m : Manifest) (n : ℕ) → IsIndex old ms → n ≡ length ms
    → ((path : List ℕ) → place_at new path ≡ option_or (place_at old path) (place_in path n m.ports)) → IsIndex new (ms ++ m ∷ [])
index_more old new ms m n h e step = record {
  places = λ path.
      let f : 0 + length ms ≡ n = omega arith in
      rw (place_from-last path 0 ms m, f, ← h.places path) (step path);
}

-- ---- what is found is the first application that has the port

abbrev pub number_of : StartPlace → ℕ
number_of place = place.app.0

abbrev pub place_flags : StartPlace → PortFlags
place_flags place = place.flags

module _ (path : List ℕ) where
  place_in_is : (k : ℕ) (ports : List StartPort) → place_in path k ports ≡ option_map (place_of k) (find (is_start_port path) ports)
  place_in_is k [] = refl
  place_in_is k (port ∷ ports) =
      elim (is_start_port path port) as (λ b. option_or (if b then Some (place_of k port) else None) (place_in path k ports) ≡ option_map (place_of k) (cond b (Some port) (find (is_start_port path) ports)))
      [ true ↦ refl | false ↦ place_in_is k ports ]

  any_is : (ports : List StartPort) → list_any (is_start_port path) ports ≡ is_some (find (is_start_port path) ports)
  any_is [] = refl
  any_is (port ∷ ports) =
      elim (is_start_port path port) as (λ b. (b || list_any (is_start_port path) ports) ≡ is_some (cond b (Some port) (find (is_start_port path) ports)))
      [ true ↦ refl | false ↦ any_is ports ]

  number_like : (k : ℕ) (o : Option StartPort) (rest : Option StartPlace) (later : Option ℕ) → option_map number_of rest ≡ later
      → option_map number_of (option_or (option_map (place_of k) o) rest) ≡ cond (is_some o) (Some k) later
  number_like k None rest later h = h
  number_like k (Some port) rest later h = refl

  numbered : (k : ℕ) (ms : List Manifest) (ls : List Life) → length ms ≡ length ls
      → option_map number_of (place_from path k ms) ≡ position_from (has_start_port path) k (applications ms ls)
  numbered k [] ls e = refl
  numbered k (m ∷ ms) [] e = cc
  numbered k (m ∷ ms) (l ∷ ls) e =
      let f : length ms ≡ length ls = omega arith in
      rw (place_in_is k m.ports, any_is m.ports) (number_like k (find (is_start_port path) m.ports) (place_from path (k + 1) ms) _ (numbered (k + 1) ms ls f))

  pub served : (ms : List Manifest) (ls : List Life) → length ms ≡ length ls → option_map number_of (place_from path 0 ms) ≡ serving path (applications ms ls)
  served ms ls e = numbered 0 ms ls e ∙ sym (position_from-zero (has_start_port path) (applications ms ls))

  flags_like : (k : ℕ) (m : Manifest) (l : Life) (o : Option StartPort) → find (is_start_port path) m.ports ≡ o → (rest : Option StartPlace) (others : Option Application)
      → option_map place_flags rest ≡ option_map flags_of (option_and_then (start_flags path) others)
      → option_map place_flags (option_or (option_map (place_of k) o) rest) ≡ option_map flags_of (option_and_then (start_flags path) (cond (is_some o) (Some (application m l)) others))
  flags_like k m l None is rest others h = h
  flags_like k m l (Some port) is rest others h = rw is refl

  pub flagged : (k : ℕ) (ms : List Manifest) (ls : List Life) → length ms ≡ length ls → option_map place_flags (place_from path k ms) ≡ serving_flags path (applications ms ls)
  flagged k [] ls e = refl
  flagged k (m ∷ ms) [] e = cc
  flagged k (m ∷ ms) (l ∷ ls) e =
      let f : length ms ≡ length ls = omega arith in
      rw (place_in_is k m.ports, any_is m.ports) (flags_like k m l (find (is_start_port path) m.ports) refl (place_from path (k + 1) ms) (find (has_start_port path) (applications ms ls)) (flagged (k + 1) ms ls f))
