-- A member taken out of a set, and one with another mask.
use Rattle.std.proofs.Common.{◌≡◌, ℕ, zero, suc, ◌==◌, Bool, true, false, cond, not, List, [], ◌∷◌, ◌++◌, map, Option, Some, None, refl, sym, ◌∙◌, ap, subst, arith, tests}
use Rattle.std.specs.Prelude.{slice_get}
use Rattle.std.specs.List.{filter, find, position_or_len}
use Rattle.std.specs.Option.{option_map}
use Rattle.kernel_values.specs.declared.flags.Events.{Events}
use Rattle.kernel_values.specs.declared.state.Body.{Body}
use Rattle.kernel_values.specs.declared.state.Body.TheVariants as body
use Rattle.kernel_values.specs.declared.state.HandleSet.{HandleSet}
use Rattle.kernel_values.specs.declared.state.Member.{Member}
use Rattle.kernel_values.specs.declared.state.Object.{Object}
use Rattle.kernel_types.specs.Objects.{as_set, changed, map_at, on_body, on_set, set_if, set_in, set_of}
use Rattle.kernel_types.specs.Reports.{with_last}
use Rattle.kernel_types.specs.Reach.{is_in}
use Rattle.kernel_types.specs.Sets.{has_label, remasked, with_mask, without_label}
use Rattle.kernel_laws.proofs.Found.{found, found_changed, found_is}
use Rattle.set_laws.proofs.Counting.{among_first, among_later, first_or_later}
use Rattle.set_laws.proofs.Shrinking.{Shrinks, Shrunk, same_set}

in_filtered : (p : Member → Bool) (ms : List Member) (x : ℕ) → is_in (map (λ member. member.object) (filter p ms)) x ≡ true → is_in (map (λ member. member.object) ms) x ≡ true
in_filtered p [] x is = is
in_filtered p (m ∷ ms) x is =
    let rest : List ℕ = map (λ member. member.object) (filter p ms) in
    let all : List ℕ = map (λ member. member.object) ms in
    let P : Bool → Type 0 = λ b. is_in (map (λ member. member.object) (cond b (m ∷ filter p ms) (filter p ms))) x ≡ true → is_in (m.object ∷ all) x ≡ true in
    let go : (b : Bool) → P b = λ b. elim b as (λ v. P v) [
      | true ↦ (λ k. first_or_later m.object rest x (is_in (m.object ∷ all) x ≡ true) k
          (λ same. let test : (m.object == x) ≡ true = grind (arith, tests) in among_first m.object all x test)
          (λ more. among_later m.object all x (in_filtered p ms x more)))
      | false ↦ (λ k. among_later m.object all x (in_filtered p ms x k))
    ] in
    go (p m) is

pub less_without : (label : ℕ) → Shrinks (on_set (without_label label))
less_without label (body.Set set) = record { members = λ x is. in_filtered (λ member. not (has_label label member)) set.members x is; set = λ is. is }
less_without label (body.Port port) = same_set None
less_without label (body.End end) = same_set None
less_without label (body.Memory memory) = same_set None

same_masked : (f : Member → Member) → ((m : Member) → (f m).object ≡ m.object) → (ms : List Member) (at : ℕ)
    → map (λ (member : Member). member.object) (map_at f ms at) ≡ map (λ (member : Member). member.object) ms
same_masked f same [] at = refl
same_masked f same (m ∷ ms) zero = ap (λ y. y ∷ map (λ (member : Member). member.object) ms) (same m)
same_masked f same (m ∷ ms) (suc at) =
    let rest : map (λ (member : Member). member.object) (set_if ms at (option_map f (slice_get ms at))) ≡ map (λ (member : Member). member.object) ms = same_masked f same ms at in
    let Q : Option Member → Type 0 = λ o. map (λ (member : Member). member.object) (set_if ms at o) ≡ map (λ (member : Member). member.object) ms
    → map (λ (member : Member). member.object) (set_if (m ∷ ms) (suc at) o) ≡ map (λ (member : Member). member.object) (m ∷ ms) in
    let go : (o : Option Member) → Q o = λ o. elim o as (λ v. Q v) [ None ↦ (λ is. refl) | Some y ↦ (λ is. ap (λ ys. m.object ∷ ys) is) ] in
    go (option_map f (slice_get ms at)) rest

pub less_remasked : (label : ℕ) (mask : Events) (cookie : ℕ) → Shrinks (on_set (remasked label mask cookie))
less_remasked label mask cookie (body.Set set) = record {
  members = λ x is. subst (λ (xs : List ℕ). is_in xs x ≡ true) (same_masked (with_mask mask cookie) (λ m. refl) set.members (position_or_len (has_label label) set.members)) is;
  set = λ is. is;
}
less_remasked label mask cookie (body.Port port) = same_set None
less_remasked label mask cookie (body.End end) = same_set None
less_remasked label mask cookie (body.Memory memory) = same_set None

-- A member put last.

pub found_member : (p : Member → Bool) (ms : List Member) (found : Member) → find p ms ≡ Some found → is_in (map (λ member. member.object) ms) found.object ≡ true
found_member p [] found is = absurd (cc)
found_member p (m ∷ ms) found is =
    let all : List ℕ = map (λ member. member.object) ms in
    let P : Bool → Type 0 = λ b. cond b (Some m) (find p ms) ≡ Some found → is_in (m.object ∷ all) found.object ≡ true in
    let go : (b : Bool) → P b = λ b. elim b as (λ v. P v) [
      | true ↦ (λ k.
          let same : m ≡ found = cc in
          let equal : m.object ≡ found.object = ap (λ (y : Member). y.object) same in
          let test : (m.object == found.object) ≡ true = grind (arith, tests) in
          among_first m.object all found.object test)
      | false ↦ (λ k. among_later m.object all found.object (found_member p ms found k))
    ] in
    go (p m) is

in_appended : (m : Member) (ms : List Member) (x : ℕ) (P : Type 0) → is_in (map (λ member. member.object) (ms ++ m ∷ [])) x ≡ true
    → (is_in (map (λ member. member.object) ms) x ≡ true → P) → (m.object ≡ x → P) → P
in_appended m [] x P is old new = first_or_later m.object [] x P is new old
in_appended m (y ∷ ys) x P is old new =
    let all : List ℕ = map (λ member. member.object) ys in
    first_or_later y.object (map (λ member. member.object) (ys ++ m ∷ [])) x P is
    (λ same. let test : (y.object == x) ≡ true = grind (arith, tests) in old (among_first y.object all x test))
    (λ more. in_appended m ys x P more (λ k. old (among_later y.object all x k)) new)

last_in_set : (m : Member) (set : HandleSet) → is_in (map (λ member. member.object) set.members) m.object ≡ true → Shrunk (Some (with_last m set)) (Some set)
last_in_set m set has = record {
  members = λ x is. in_appended m (filter (λ other. not (other.label == m.label)) set.members) x (is_in (map (λ member. member.object) set.members) x ≡ true) is
      (λ k. in_filtered (λ other. not (other.label == m.label)) set.members x k)
      (λ same. subst (λ (n : ℕ). is_in (map (λ member. member.object) set.members) n ≡ true) same has);
  set = λ is. refl;
}

last_in_body : (m : Member) (set : HandleSet) → is_in (map (λ member. member.object) set.members) m.object ≡ true → (b : Body) → set_in b ≡ Some set
    → Shrunk (set_in (on_set (with_last m) b)) (set_in b)
last_in_body m set has (body.Set other) is =
    let same : set ≡ other = cc in
    last_in_set m other (subst (λ (s : HandleSet). is_in (map (λ member. member.object) s.members) m.object ≡ true) same has)
last_in_body m set has (body.Port port) is = absurd (cc)
last_in_body m set has (body.End end) is = absurd (cc)
last_in_body m set has (body.Memory memory) is = absurd (cc)

last_in_object : (m : Member) (set : HandleSet) → is_in (map (λ member. member.object) set.members) m.object ≡ true → (o : Option Object) → as_set o ≡ Some set
    → Shrunk (as_set (option_map (on_body (on_set (with_last m))) o)) (as_set o)
last_in_object m set has None is = absurd (cc)
last_in_object m set has (Some object) is = last_in_body m set has object.body is

pub shrunk_last : (m : Member) (set : HandleSet) → is_in (map (λ member. member.object) set.members) m.object ≡ true → (objects : List Object) (id : ℕ) → set_of objects id ≡ Some set
    → (a : ℕ) → Shrunk (as_set (found (changed (on_set (with_last m)) objects id) a)) (as_set (found objects a))
shrunk_last m set has objects id is a =
    let f : Body → Body = on_set (with_last m) in
    let there : as_set (found objects id) ≡ Some set = sym (ap as_set (found_is objects id)) ∙ is in
    let o : Option Object = found objects a in
    let P : Bool → Type 0 = λ b. (id == a) ≡ b → Shrunk (as_set (cond b (option_map (on_body f) o) o)) (as_set o) in
    let go : (b : Bool) → P b = λ b. elim b as (λ v. P v) [
      | true ↦ (λ e.
          let same : id ≡ a = grind (arith, tests) in
          last_in_object m set has o (subst (λ (n : ℕ). as_set (found objects n) ≡ Some set) same there))
      | false ↦ (λ e. same_set (as_set o))
    ] in
    subst (λ (v : Option Object). Shrunk (as_set v) (as_set o)) (sym (found_changed f objects id a)) (go (id == a) refl)
