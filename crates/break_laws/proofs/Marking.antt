-- The objects of a state, of which one end has the error mark.
use Rattle.std.proofs.Common.{◌≡◌, ℕ, ◌==◌, inl, inr, Bool, true, false, cond, List, [], ◌∷◌, Option, Some, None, refl, sym, ◌∙◌, ap, subst}
use Rattle.std.specs.Option.{is_some, option_map}
use Rattle.kernel_values.specs.declared.state.Body.TheVariants as body
use Rattle.kernel_values.specs.declared.state.ChannelEnd.{ChannelEnd}
use Rattle.kernel_values.specs.declared.state.Object.{Object}
use Rattle.kernel_laws.proofs.Found.{changed_cons, found, found_changed, found_is}
use Rattle.kernel_types.specs.Bridge.{with_error}
use Rattle.kernel_types.specs.Messages.{has_id}
use Rattle.kernel_types.specs.Names.{named_in}
use Rattle.kernel_types.specs.Objects.{as_memory, as_port, as_set, changed, end_of, is_there, memory_of, object_of, on_body, on_end, port_of, set_of}
use Rattle.count_laws.specs.Thinning.{In}
use Rattle.fit_laws.proofs.Looks.{end_at}
use Rattle.break_laws.specs.Breaks.{pending_in}
use Rattle.break_laws.specs.Held.{held_in}
use Rattle.break_laws.proofs.Looking.{there_is}

-- an object that names what another one did
pub record NamesAs (x y : Object) : Type 0 where
  pub id : y.id ≡ x.id
  pub names : named_in y.body ≡ named_in x.body
  pub pends : pending_in y.body ≡ pending_in x.body
  pub holds : held_in y.body ≡ held_in x.body

same_names : (x : Object) → NamesAs x x
same_names x = record { id = refl; names = refl; pends = refl; holds = refl }

marked_names : (x : Object) → NamesAs x (on_body (on_end with_error) x)
marked_names x =
    elim x.body as (λ b. NamesAs (record x { body = b }) (on_body (on_end with_error) (record x { body = b }))) [
      | body.Port port ↦ record { id = refl; names = refl; pends = refl; holds = refl }
      | body.End end ↦ record { id = refl; names = refl; pends = refl; holds = refl }
      | body.Set set ↦ record { id = refl; names = refl; pends = refl; holds = refl }
      | body.Memory memory ↦ record { id = refl; names = refl; pends = refl; holds = refl }
    ]

pub record Was (objects : List Object) (y : Object) : Type 0 where
  pub x : Object
  pub within : In x objects
  pub same : NamesAs x y

pub record Now (objects : List Object) (x : Object) : Type 0 where
  pub y : Object
  pub within : In y objects
  pub same : NamesAs x y

-- these are the objects of the state, of which the end of this number has the mark
pub record Marked (marked : Option ℕ) (old new : List Object) : Type 0 where
  pub was : (y : Object) → In y new → Was old y
  pub now : (x : Object) → In x old → Now new x
  pub ends : (n : ℕ) → end_of new n ≡ cond (has_id n marked) (option_map with_error (end_of old n)) (end_of old n)
  pub ports : (n : ℕ) → port_of new n ≡ port_of old n
  pub sets : (n : ℕ) → set_of new n ≡ set_of old n
  pub memories : (n : ℕ) → memory_of new n ≡ memory_of old n
  pub there : (n : ℕ) → is_there new n ≡ is_there old n

pub none_marked : (objects : List Object) → Marked None objects objects
none_marked objects = record {
  was = λ y h. record { x = y; within = h; same = same_names y };
  now = λ x h. record { y = x; within = h; same = same_names x };
  ends = λ n. refl;
  ports = λ n. refl;
  sets = λ n. refl;
  memories = λ n. refl;
  there = λ n. refl;
}

-- Kinds that a change of ends leaves.

seen_same : {X : Type 0} (look : Option Object → X) (f : ChannelEnd → ChannelEnd) → ((o : Option Object) → look (option_map (on_body (on_end f)) o) ≡ look o)
    → (objects : List Object) (id n : ℕ) → look (object_of (changed (on_end f) objects id) n) ≡ look (object_of objects n)
seen_same look f same objects id n =
    let old : Option Object = found objects n in
    let g : Option Object → Option Object = option_map (on_body (on_end f)) in
    ap look (found_is (changed (on_end f) objects id) n ∙ found_changed (on_end f) objects id n)
    ∙ (elim (id == n) as (λ b. look (cond b (g old) old) ≡ look old) [ true ↦ same old | false ↦ refl ] ∙ ap look (sym (found_is objects n)))

port_same : (f : ChannelEnd → ChannelEnd) (o : Option Object) → as_port (option_map (on_body (on_end f)) o) ≡ as_port o
port_same f None = refl
port_same f (Some x) = elim x.body as (λ b. as_port (Some (record x { body = on_end f b })) ≡ as_port (Some (record x { body = b }))) [ body.Port port ↦ refl | body.End end ↦ refl | body.Set set ↦ refl | body.Memory memory ↦ refl ]

set_same : (f : ChannelEnd → ChannelEnd) (o : Option Object) → as_set (option_map (on_body (on_end f)) o) ≡ as_set o
set_same f None = refl
set_same f (Some x) = elim x.body as (λ b. as_set (Some (record x { body = on_end f b })) ≡ as_set (Some (record x { body = b }))) [ body.Port port ↦ refl | body.End end ↦ refl | body.Set set ↦ refl | body.Memory memory ↦ refl ]

memory_same : (f : ChannelEnd → ChannelEnd) (o : Option Object) → as_memory (option_map (on_body (on_end f)) o) ≡ as_memory o
memory_same f None = refl
memory_same f (Some x) = elim x.body as (λ b. as_memory (Some (record x { body = on_end f b })) ≡ as_memory (Some (record x { body = b }))) [ body.Port port ↦ refl | body.End end ↦ refl | body.Set set ↦ refl | body.Memory memory ↦ refl ]

some_same : (f : ChannelEnd → ChannelEnd) (o : Option Object) → is_some (option_map (on_body (on_end f)) o) ≡ is_some o
some_same f None = refl
some_same f (Some x) = refl

-- Items.

was_later : (x y : Object) (objects : List Object) → Was objects y → Was (x ∷ objects) y
was_later x y objects w = record { x = w.x; within = inr w.within; same = w.same }

now_later : (x y : Object) (objects : List Object) → Now objects x → Now (y ∷ objects) x
now_later x y objects w = record { y = w.y; within = inr w.within; same = w.same }

was_in : (objects : List Object) (id : ℕ) (y : Object) → In y (changed (on_end with_error) objects id) → Was objects y
was_in [] id y h = absurd h
was_in (x ∷ objects) id y h =
    let f : Object → Object = on_body (on_end with_error) in
    let P : Bool → Type 0 = λ b. In y (cond b (f x ∷ objects) (x ∷ changed (on_end with_error) objects id)) → Was (x ∷ objects) y in
    let first : P true = λ k. elim k [
      | inl e ↦ record { x = x; within = inl refl; same = subst (λ (z : Object). NamesAs x z) e (marked_names x) }
      | inr more ↦ record { x = y; within = inr more; same = same_names y }
    ] in
    let later : P false = λ k. elim k [
      | inl e ↦ record { x = y; within = inl e; same = same_names y }
      | inr more ↦ was_later x y objects (was_in objects id y more)
    ] in
    let go : (b : Bool) → P b = λ b. elim b as (λ v. P v) [ true ↦ first | false ↦ later ] in
    go (x.id == id) (subst (λ (l : List Object). In y l) (changed_cons (on_end with_error) x objects id) h)

now_in : (objects : List Object) (id : ℕ) (x : Object) → In x objects → Now (changed (on_end with_error) objects id) x
now_in [] id x h = absurd h
now_in (z ∷ objects) id x h =
    let f : Object → Object = on_body (on_end with_error) in
    let P : Bool → Type 0 = λ b. Now (cond b (f z ∷ objects) (z ∷ changed (on_end with_error) objects id)) x in
    let here : P true = elim h [
      | inl e ↦ record { y = f z; within = inl refl; same = subst (λ (v : Object). NamesAs v (f z)) e (marked_names z) }
      | inr more ↦ record { y = x; within = inr more; same = same_names x }
    ] in
    let later : P false = elim h [
      | inl e ↦ record { y = x; within = inl e; same = same_names x }
      | inr more ↦ now_later x z (changed (on_end with_error) objects id) (now_in objects id x more)
    ] in
    subst (λ (l : List Object). Now l x) (sym (changed_cons (on_end with_error) z objects id)) (elim (z.id == id) as (λ b. P b) [ true ↦ here | false ↦ later ])

pub one_marked : (objects : List Object) (id : ℕ) → Marked (Some id) objects (changed (on_end with_error) objects id)
one_marked objects id = record {
  was = was_in objects id;
  now = now_in objects id;
  ends = end_at with_error objects id;
  ports = seen_same as_port with_error (port_same with_error) objects id;
  sets = seen_same as_set with_error (set_same with_error) objects id;
  memories = seen_same as_memory with_error (memory_same with_error) objects id;
  there = λ n. there_is (changed (on_end with_error) objects id) n ∙ (seen_same is_some with_error (some_same with_error) objects id n ∙ sym (there_is objects n));
}
