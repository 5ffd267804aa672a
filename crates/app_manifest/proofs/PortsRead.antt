-- The start ports read so far, and those to come.
use Rattle.std.proofs.Common.{◌≡◌, ℕ, ◌+◌, ◌<◌, ◌≤◌, List, [], ◌∷◌, ◌++◌, length, get_or, drop, Option, Some, None, Ok, Err, refl, ap, sym, ◌∙◌, append_assoc, arith, true, false}
use Rattle.std.specs.Prelude.{Result, nat_le}
use Rattle.std.proofs.lemmas.List.{at_drop_more, at_drop_all, append-nil}
use Rattle.std.proofs.lemmas.Bool.{le-leb}
use Rattle.std.proofs.lemmas.Bool.Decides.{nat_tests}
use Rattle.serde_json.specs.View.{view, items_view}
use Rattle.serde_json.specs.declared.value.Value.{Value}
use Rattle.kernel_values.specs.declared.scene.StartPort.{StartPort}
use Rattle.app_manifest.specs.declared.faults.ManifestFault.{ManifestFault}
use Rattle.app_manifest.specs.declared.faults.ManifestFault.TheVariants.{StartPorts}
use Rattle.app_manifest.specs.Manifests.{◌>>=◌, ports_in, start_port_in}

abbrev pub behind : List StartPort → Result (List StartPort) ManifestFault → Result (List StartPort) ManifestFault
behind ports (Ok more) = Ok (ports ++ more)
behind ports (Err fault) = Err fault

put_behind : (ports : List StartPort) (port : StartPort) (rest : Result (List StartPort) ManifestFault)
    → behind (ports ++ port ∷ []) rest ≡ behind ports (rest >>= λ more. Ok (port ∷ more))
put_behind ports port (Ok more) = ap Ok (append_assoc ports (port ∷ []) more)
put_behind ports port (Err fault) = refl

-- none is left
pub all_read : (ports : List StartPort) (k : ℕ) (values : List Value) (whole : Result (List StartPort) ManifestFault) → length values ≤ k
    → behind ports (ports_in k (items_view (drop k values))) ≡ whole → whole ≡ Ok ports
unfolding ports_in
all_read ports k values whole h so_far =
    let none : ports_in k (items_view (drop k values)) ≡ Ok [] = at_drop_all (λ vs. ports_in k (items_view vs)) values k h in
    sym so_far ∙ ap (behind ports) none ∙ ap Ok (append-nil ports)

-- the next one is d
module _ (ports : List StartPort) (k : ℕ) (values : List Value) (whole : Result (List StartPort) ManifestFault) (d : Value)
    (next : d ≡ get_or values k d) (within : k < length values)
    (so_far : behind ports (ports_in k (items_view (drop k values))) ≡ whole) where
  met : behind ports (ports_in k (items_view (d ∷ drop (k + 1) values))) ≡ whole
  met = let e = at_drop_more (λ vs. ports_in k (items_view vs)) values k d within in
      ap (λ v. behind ports (ports_in k (items_view (v ∷ drop (k + 1) values)))) next ∙ ap (behind ports) (sym e) ∙ so_far

  pub one_too_many : 8 ≤ k → whole ≡ Err (StartPorts 8)
  unfolding ports_in
  one_too_many h = let full : nat_le 8 k ≡ true = le-leb 8 k h in sym met ∙ rw full refl

  pub bad_one : k < 8 → start_port_in (view d) ≡ None → whole ≡ Err (StartPorts k)
  unfolding ports_in
  bad_one h bad = let room : nat_le 8 k ≡ false = grind (arith, nat_tests) in sym met ∙ rw (room, bad) refl

  pub one_more : (port : StartPort) → k < 8 → start_port_in (view d) ≡ Some port → behind (ports ++ port ∷ []) (ports_in (k + 1) (items_view (drop (k + 1) values))) ≡ whole
  unfolding ports_in
  one_more port h good =
      let room : nat_le 8 k ≡ false = grind (arith, nat_tests) in
      put_behind ports port (ports_in (k + 1) (items_view (drop (k + 1) values))) ∙ (rw (room, good) at met)
