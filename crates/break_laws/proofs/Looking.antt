-- The object of a number, its kinds, and whether it is there, where one object is dropped.
use Rattle.std.proofs.Common.{◌≡◌, ℕ, ◌==◌, ◌||◌, Bool, true, false, cond, List, [], ◌∷◌, map, Option, Some, None, refl, sym, ◌∙◌, ap}
use Rattle.std.specs.Option.{is_some, option_map}
use Rattle.kernel_values.specs.declared.state.Body.TheVariants as body
use Rattle.kernel_values.specs.declared.state.CoreState.{CoreState}
use Rattle.kernel_values.specs.declared.state.Object.{Object}
use Rattle.kernel_laws.proofs.Found.{found, found_filter, found_is, found_map}
use Rattle.kernel_types.specs.Connects.{peer_of}
use Rattle.kernel_types.specs.Objects.{as_end, as_memory, as_port, as_set, end_of, is_there, memory_of, object_of, on_body, on_end, on_port, port_of, set_of}
use Rattle.count_laws.specs.Dropping.{all_cut, all_unlisted, cut_from, dropped, is_other, others, unlisted}

there_found : (objects : List Object) (n : ℕ) → is_there objects n ≡ is_some (found objects n)
there_found [] n = refl
there_found (o ∷ os) n = elim (o.id == n) as (λ b. (b || is_there os n) ≡ is_some (cond b (Some o) (found os n))) [ true ↦ refl | false ↦ there_found os n ]

pub there_is : (objects : List Object) (n : ℕ) → is_there objects n ≡ is_some (object_of objects n)
there_is objects n = there_found objects n ∙ ap is_some (sym (found_is objects n))

-- what becomes of an object that is left
abbrev left : ℕ → Option ℕ → Object → Object
left x peer object = on_body (on_end (cut_from x)) (on_body (on_port (unlisted peer)) object)

as_end_left : (x : ℕ) (peer : Option ℕ) (o : Option Object) → as_end (option_map (left x peer) o) ≡ option_map (cut_from x) (as_end o)
as_end_left x peer None = refl
as_end_left x peer (Some o) =
    elim o.body as (λ b. as_end (Some (record o { body = on_end (cut_from x) (on_port (unlisted peer) b) })) ≡ option_map (cut_from x) (as_end (Some (record o { body = b }))))
    [ body.Port port ↦ refl | body.End end ↦ refl | body.Set set ↦ refl | body.Memory memory ↦ refl ]

as_port_left : (x : ℕ) (peer : Option ℕ) (o : Option Object) → as_port (option_map (left x peer) o) ≡ option_map (unlisted peer) (as_port o)
as_port_left x peer None = refl
as_port_left x peer (Some o) =
    elim o.body as (λ b. as_port (Some (record o { body = on_end (cut_from x) (on_port (unlisted peer) b) })) ≡ option_map (unlisted peer) (as_port (Some (record o { body = b }))))
    [ body.Port port ↦ refl | body.End end ↦ refl | body.Set set ↦ refl | body.Memory memory ↦ refl ]

as_set_left : (x : ℕ) (peer : Option ℕ) (o : Option Object) → as_set (option_map (left x peer) o) ≡ as_set o
as_set_left x peer None = refl
as_set_left x peer (Some o) =
    elim o.body as (λ b. as_set (Some (record o { body = on_end (cut_from x) (on_port (unlisted peer) b) })) ≡ as_set (Some (record o { body = b })))
    [ body.Port port ↦ refl | body.End end ↦ refl | body.Set set ↦ refl | body.Memory memory ↦ refl ]

as_memory_left : (x : ℕ) (peer : Option ℕ) (o : Option Object) → as_memory (option_map (left x peer) o) ≡ as_memory o
as_memory_left x peer None = refl
as_memory_left x peer (Some o) =
    elim o.body as (λ b. as_memory (Some (record o { body = on_end (cut_from x) (on_port (unlisted peer) b) })) ≡ as_memory (Some (record o { body = b })))
    [ body.Port port ↦ refl | body.End end ↦ refl | body.Set set ↦ refl | body.Memory memory ↦ refl ]

there_left : (x : ℕ) (peer : Option ℕ) (o : Option Object) → is_some (option_map (left x peer) o) ≡ is_some o
there_left x peer None = refl
there_left x peer (Some o) = refl

-- what is seen of an object, where only other objects are left
seen : {X : Type 0} (look : Option Object → X) (b : Bool) (o : Option Object) → look (cond b o None) ≡ cond b (look o) (look None)
seen look true o = refl
seen look false o = refl

module _ (c : CoreState) (x : ℕ) where
  abbrev peer : Option ℕ
  peer = peer_of (end_of c.objects x)

  object_left : (n : ℕ) → object_of (dropped x c).objects n ≡ cond (is_other x n) (option_map (left x peer) (object_of c.objects n)) None
  unfolding dropped
  object_left n =
      let cut : Object → Object = on_body (on_end (cut_from x)) in
      let listed : Object → Object = on_body (on_port (unlisted peer)) in
      let rest : List Object = others x c.objects in
      let both : (o : Option Object) → option_map cut (option_map listed o) ≡ option_map (left x peer) o = λ o. elim o as (λ v. option_map cut (option_map listed v) ≡ option_map (left x peer) v) [ None ↦ refl | Some y ↦ refl ] in
      found_is (all_cut x (all_unlisted peer rest)) n
      ∙ (found_map cut (λ o. refl) (map listed rest) n
      ∙ (ap (option_map cut) (found_map listed (λ o. refl) rest n)
      ∙ (both (found rest n)
      ∙ (ap (option_map (left x peer)) (found_filter (is_other x) c.objects n ∙ ap (λ o. cond (is_other x n) o None) (sym (found_is c.objects n)))
      ∙ seen (option_map (left x peer)) (is_other x n) (object_of c.objects n)))))

  pub end_left : (n : ℕ) → end_of (dropped x c).objects n ≡ cond (is_other x n) (option_map (cut_from x) (end_of c.objects n)) None
  end_left n = ap as_end (object_left n) ∙ (seen as_end (is_other x n) (option_map (left x peer) (object_of c.objects n)) ∙ ap (λ o. cond (is_other x n) o None) (as_end_left x peer (object_of c.objects n)))

  pub port_left : (n : ℕ) → port_of (dropped x c).objects n ≡ cond (is_other x n) (option_map (unlisted peer) (port_of c.objects n)) None
  port_left n = ap as_port (object_left n) ∙ (seen as_port (is_other x n) (option_map (left x peer) (object_of c.objects n)) ∙ ap (λ o. cond (is_other x n) o None) (as_port_left x peer (object_of c.objects n)))

  pub set_left : (n : ℕ) → set_of (dropped x c).objects n ≡ cond (is_other x n) (set_of c.objects n) None
  set_left n = ap as_set (object_left n) ∙ (seen as_set (is_other x n) (option_map (left x peer) (object_of c.objects n)) ∙ ap (λ o. cond (is_other x n) o None) (as_set_left x peer (object_of c.objects n)))

  pub memory_left : (n : ℕ) → memory_of (dropped x c).objects n ≡ cond (is_other x n) (memory_of c.objects n) None
  memory_left n = ap as_memory (object_left n) ∙ (seen as_memory (is_other x n) (option_map (left x peer) (object_of c.objects n)) ∙ ap (λ o. cond (is_other x n) o None) (as_memory_left x peer (object_of c.objects n)))

  pub is_left : (n : ℕ) → is_there (dropped x c).objects n ≡ cond (is_other x n) (is_there c.objects n) false
  is_left n =
      there_is (dropped x c).objects n ∙ (ap is_some (object_left n) ∙ (seen is_some (is_other x n) (option_map (left x peer) (object_of c.objects n))
      ∙ ap (λ b. cond (is_other x n) b false) (there_left x peer (object_of c.objects n) ∙ sym (there_is c.objects n))))
