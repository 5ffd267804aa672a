-- The port that is published under a path is the first value that is a port with that path.
use Rattle.std.proofs.Common.{◌≡◌, ℕ, ◌+◌, ◌<◌, ◌≤◌, Bool, true, false, cond, ◌||◌, ◌==◌, List, [], ◌∷◌, Option, Some, None, refl, sym, ◌∙◌, ap, subst, arith, tests}
use Rattle.std.specs.Prelude.{IfNone, IfSome, slice_get}
use Rattle.std.specs.Option.{is_some, option_map}
use Rattle.kernel_values.specs.declared.state.Body.{Body}
use Rattle.kernel_values.specs.declared.state.Object.{Object}
use Rattle.kernel_values.specs.declared.state.CoreState.{CoreState}
use Rattle.kernel_values.specs.declared.state.Port.{Port}
use Rattle.core_changes.specs.Looks.{look_of_way}
use Rattle.core_changes.specs.declared.looks.WayLook.TheVariants as way
use Rattle.kernel_laws.proofs.Found.{found_is}
use Rattle.kernel_types.specs.Connects.{app_place, way_by_app, way_by_body, way_by_port, way_of}
use Rattle.kernel_types.specs.Objects.{as_port, is_port_at, is_there, object_of, port_in, port_of, published}
use Rattle.object_store.specs.Stock.{Held, IsSoundFrom, held_at}
use Rattle.counted_core.specs.Found.{port_if}
use Rattle.counted_core.specs.Held.{object_of_held, objects_of}
use Rattle.counted_core.specs.Paths.{has_path_at, id_of}
use Rattle.counted_core.proofs.Drops.{held_found}
use Rattle.counted_core.proofs.Loans.{absent_value}
use Rattle.counted_core.proofs.Owing.{below_absent}

abbrev value_in : Option (Held Body) → Option Body
value_in o = option_map (λ (k : Held Body). k.value) o

-- a value past the first
past : (path : List ℕ) (h : Held Body) (rest : List (Held Body)) (o : ℕ) → (h.serial == o) ≡ false → has_path_at path (h ∷ rest) o ≡ has_path_at path rest o
past path h rest o other = ap (λ (b : Bool). is_port_at path (port_if (value_in (cond b (Some h) (held_at rest o))))) other

-- the first value
here : (path : List ℕ) (h : Held Body) (rest : List (Held Body)) → has_path_at path (h ∷ rest) h.serial ≡ is_port_at path (port_in h.value)
here path h rest = let same : (h.serial == h.serial) ≡ true = grind (arith, tests) in ap (λ (b : Bool). is_port_at path (port_if (value_in (cond b (Some h) (held_at rest h.serial))))) same

rest_false : (path : List ℕ) (h : Held Body) (rest : List (Held Body)) (next o : ℕ) → IsSoundFrom (h.serial + 1) rest next → has_path_at path (h ∷ rest) o ≡ false → has_path_at path rest o ≡ false
rest_false path h rest next o sound is =
    let P : Bool → Type 0 = λ b. (h.serial == o) ≡ b → has_path_at path rest o ≡ false in
    let go : (b : Bool) → P b = λ b. elim b as (λ v. P v) [
      | true ↦ (λ e. let eq : h.serial ≡ o = grind (arith, tests) in
          ap (λ v. is_port_at path (port_if v)) (absent_value rest o (below_absent (h.serial + 1) next rest o sound (omega (arith, eq)))))
      | false ↦ (λ e. sym (past path h rest o e) ∙ is)
    ] in
    go (h.serial == o) refl

-- what is there is not below the first number
above_first : (low next : ℕ) (items : List (Held Body)) (o : ℕ) → IsSoundFrom low items next → is_there (objects_of items) o ≡ true → low ≤ o
above_first low next [] o sound is = absurd (cc)
above_first low next (h ∷ rest) o sound is =
    let P : Bool → Type 0 = λ b. (h.serial == o) ≡ b → (b || is_there (objects_of rest) o) ≡ true → low ≤ o in
    let go : (b : Bool) → P b = λ b. elim b as (λ v. P v) [
      | true ↦ (λ e k. let eq : h.serial ≡ o = grind (arith, tests) in let from : low ≤ h.serial = sound.0 in omega (arith, eq, from))
      | false ↦ (λ e k. let more : h.serial + 1 ≤ o = above_first (h.serial + 1) next rest o sound.3 k in let from : low ≤ h.serial = sound.0 in omega (arith, more, from))
    ] in
    go (h.serial == o) refl is

pub none_published : (path : List ℕ) (low next : ℕ) (items : List (Held Body)) → IsSoundFrom low items next → ((o : ℕ) → o < next → has_path_at path items o ≡ false)
    → option_map id_of (published (objects_of items) path) ≡ None
none_published path low next [] sound none = refl
none_published path low next (h ∷ rest) sound none =
    let first : is_port_at path (port_in h.value) ≡ false = sym (here path h rest) ∙ none h.serial sound.1 in
    ap (λ (b : Bool). option_map id_of (cond b (Some (object_of_held h)) (published (objects_of rest) path))) first
    ∙ none_published path (h.serial + 1) next rest sound.3 (λ o lt. rest_false path h rest next o sound.3 (none o lt))

pub first_published : (path : List ℕ) (low next at : ℕ) (items : List (Held Body)) → IsSoundFrom low items next → has_path_at path items at ≡ true → ((o : ℕ) → o < at → has_path_at path items o ≡ false)
    → option_map id_of (published (objects_of items) path) ≡ Some at
first_published path low next at [] sound is least = absurd (cc)
first_published path low next at (h ∷ rest) sound is least =
    let P : Bool → Type 0 = λ b. (h.serial == at) ≡ b → option_map id_of (published (objects_of (h ∷ rest)) path) ≡ Some at in
    let go : (b : Bool) → P b = λ b. elim b as (λ v. P v) [
      | true ↦ (λ e.
          let eq : h.serial ≡ at = grind (arith, tests) in
          let first : is_port_at path (port_in h.value) ≡ true = sym (here path h rest) ∙ subst (λ n. has_path_at path (h ∷ rest) n ≡ true) (sym eq) is in
          ap (λ (b : Bool). option_map id_of (cond b (Some (object_of_held h)) (published (objects_of rest) path))) first ∙ ap (λ n. Some n) eq)
      | false ↦ (λ e.
          let later : has_path_at path rest at ≡ true = sym (past path h rest at e) ∙ is in
          let Q : Bool → Type 0 = λ b. is_there (objects_of rest) at ≡ b → h.serial < at in
          let above : (b : Bool) → Q b = λ b. elim b as (λ v. Q v) [
            | true ↦ (λ there. let from : h.serial + 1 ≤ at = above_first (h.serial + 1) next rest at sound.3 there in omega (arith, from))
            | false ↦ (λ gone. let no : has_path_at path rest at ≡ false = ap (λ v. is_port_at path (port_if v)) (absent_value rest at gone) in let bad : true ≡ false = sym later ∙ no in absurd (cc))
          ] in
          let first : is_port_at path (port_in h.value) ≡ false = sym (here path h rest) ∙ least h.serial (above (is_there (objects_of rest) at) refl) in
          ap (λ (b : Bool). option_map id_of (cond b (Some (object_of_held h)) (published (objects_of rest) path))) first
          ∙ first_published path (h.serial + 1) next at rest sound.3 later (λ o lt. rest_false path h rest next o sound.3 (least o lt)))
    ] in
    go (h.serial == at) refl

-- what the search for the first one finds
pub searched : (path : List ℕ) (next : ℕ) (items : List (Held Body)) (found : Option ℕ) → IsSoundFrom 0 items next
    → IfSome found (λ at. has_path_at path items at ≡ true) → IfSome found (λ at. (o : ℕ) → o < at → has_path_at path items o ≡ false) → IfNone found ((o : ℕ) → o < next → has_path_at path items o ≡ false)
    → found ≡ option_map id_of (published (objects_of items) path)
searched path next items None sound some least none = sym (none_published path 0 next items sound none)
searched path next items (Some at) sound some least none = sym (first_published path 0 next at items sound some least)

object_held : (items : List (Held Body)) (o : ℕ) → object_of (objects_of items) o ≡ option_map object_of_held (held_at items o)
object_held items o = found_is (objects_of items) o ∙ held_found items o

-- it is what stands under its own number
published_there : (path : List ℕ) (at : ℕ) (objects : List Object) → option_map id_of (published objects path) ≡ Some at → is_there objects at ≡ true
published_there path at [] is = absurd (cc)
published_there path at (y ∷ objects) is =
    let P : Bool → Type 0 = λ b. option_map id_of (cond b (Some y) (published objects path)) ≡ Some at → (y.id == at) || is_there objects at ≡ true in
    let go : (b : Bool) → P b = λ b. elim b as (λ v. P v) [
      | true ↦ (λ e. let eq : y.id ≡ at = cc in let test : (y.id == at) ≡ true = grind (arith, tests) in ap (λ t. t || is_there objects at) test)
      | false ↦ (λ e. let more : is_there objects at ≡ true = published_there path at objects e in
          elim (y.id == at) as (λ t. t || is_there objects at ≡ true) [ true ↦ refl | false ↦ more ])
    ] in
    go (is_port_at path (port_in y.body)) is

pub published_held : (path : List ℕ) (low next at : ℕ) (items : List (Held Body)) → IsSoundFrom low items next → option_map id_of (published (objects_of items) path) ≡ Some at
    → option_map object_of_held (held_at items at) ≡ published (objects_of items) path
published_held path low next at [] sound is = absurd (cc)
published_held path low next at (h ∷ rest) sound is =
    let P : Bool → Type 0 = λ b. option_map id_of (cond b (Some (object_of_held h)) (published (objects_of rest) path)) ≡ Some at
    → option_map object_of_held (cond (h.serial == at) (Some h) (held_at rest at)) ≡ cond b (Some (object_of_held h)) (published (objects_of rest) path) in
    let go : (b : Bool) → P b = λ b. elim b as (λ v. P v) [
      | true ↦ (λ e. let eq : h.serial ≡ at = cc in let test : (h.serial == at) ≡ true = grind (arith, tests) in ap (λ (t : Bool). option_map object_of_held (cond t (Some h) (held_at rest at))) test)
      | false ↦ (λ e.
          let more : option_map object_of_held (held_at rest at) ≡ published (objects_of rest) path = published_held path (h.serial + 1) next at rest sound.3 e in
          let there : is_there (objects_of rest) at ≡ true = published_there path at (objects_of rest) e in
          let from : h.serial + 1 ≤ at = above_first (h.serial + 1) next rest at sound.3 there in
          let test : (h.serial == at) ≡ false = grind (arith, tests) in
          ap (λ (t : Bool). option_map object_of_held (cond t (Some h) (held_at rest at))) test ∙ more)
    ] in
    go (is_port_at path (port_in h.value)) is

pub published_object : (path : List ℕ) (next : ℕ) (items : List (Held Body)) (found : Option ℕ) → IsSoundFrom 0 items next → found ≡ option_map id_of (published (objects_of items) path)
    → IfSome found (λ id. object_of (objects_of items) id ≡ published (objects_of items) path)
published_object path next items None sound is = tt
published_object path next items (Some at) sound is = object_held items at ∙ published_held path 0 next at items sound (sym is)

-- and a port

published_port : (path : List ℕ) (objects : List Object) (x : Object) → published objects path ≡ Some x → is_some (port_in x.body) ≡ true
published_port path [] x is = absurd (cc)
published_port path (y ∷ objects) x is =
    let Q : Option Port → Type 0 = λ p. is_port_at path p ≡ true → is_some p ≡ true in
    let some : (p : Option Port) → Q p = λ p. elim p as (λ w. Q w) [ None ↦ (λ e. absurd (cc)) | Some q ↦ (λ e. refl) ] in
    let P : Bool → Type 0 = λ b. is_port_at path (port_in y.body) ≡ b → cond b (Some y) (published objects path) ≡ Some x → is_some (port_in x.body) ≡ true in
    let go : (b : Bool) → P b = λ b. elim b as (λ v. P v) [
      | true ↦ (λ t e. let same : y ≡ x = cc in subst (λ (z : Object). is_some (port_in z.body) ≡ true) same (some (port_in y.body) t))
      | false ↦ (λ t e. published_port path objects x e)
    ] in
    go (is_port_at path (port_in y.body)) refl is

-- where a connect to its path goes

pub way_to : (c : CoreState) (path : List ℕ) (id : ℕ) (port : Port) → object_of c.objects id ≡ published c.objects path → port_of c.objects id ≡ Some port → look_of_way (way_of c path) ≡ way.ToPort port.flags
way_to c path id port same is =
    let found : as_port (published c.objects path) ≡ Some port = sym (ap as_port same) ∙ is in
    let P : Option Object → Type 0 = λ o. as_port o ≡ Some port → look_of_way (way_by_port path c o) ≡ way.ToPort port.flags in
    let go : (o : Option Object) → P o = λ o. elim o as (λ w. P w) [
      | None ↦ (λ e. absurd (cc))
      | Some x ↦ (λ e. ap (λ p. look_of_way (way_by_body x.id p)) e)
    ] in
    go (published c.objects path) found

pub no_port : (c : CoreState) (path : List ℕ) (id : ℕ) → object_of c.objects id ≡ published c.objects path → option_map id_of (published c.objects path) ≡ Some id → port_of c.objects id ≡ None → ⊥
no_port c path id same some none =
    let absent : as_port (published c.objects path) ≡ None = sym (ap as_port same) ∙ none in
    let P : Option Object → Type 0 = λ o. published c.objects path ≡ o → option_map id_of o ≡ Some id → as_port o ≡ None → ⊥ in
    let go : (o : Option Object) → P o = λ o. elim o as (λ w. P w) [
      | None ↦ (λ e s n. absurd (cc))
      | Some x ↦ (λ e s n. let is : is_some (port_in x.body) ≡ true = published_port path c.objects x e in let bad : is_some (port_in x.body) ≡ false = ap is_some n in let clash : true ≡ false = sym is ∙ bad in absurd (cc))
    ] in
    go (published c.objects path) refl some absent

pub way_else : (c : CoreState) (path : List ℕ) → option_map id_of (published c.objects path) ≡ None → way_of c path ≡ way_by_app path (app_place path c) (slice_get c.apps (app_place path c))
way_else c path none =
    let P : Option Object → Type 0 = λ o. option_map id_of o ≡ None → way_by_port path c o ≡ way_by_app path (app_place path c) (slice_get c.apps (app_place path c)) in
    let go : (o : Option Object) → P o = λ o. elim o as (λ w. P w) [ None ↦ (λ e. refl) | Some x ↦ (λ e. absurd (cc)) ] in
    go (published c.objects path) none
