-- Where one object is dropped: what is named still, and by whom.
use Rattle.std.proofs.Common.{◌≡◌, ℕ, ◌==◌, ◌&&◌, ◌||◌, ◌⊎◌, inl, inr, Bool, true, false, not, List, [], ◌∷◌, Option, refl, ◌∙◌, ap, subst, arith, tests}
use Rattle.std.specs.List.{AllByRecursion}
use Rattle.kernel_values.specs.declared.state.Body.{Body}
use Rattle.kernel_values.specs.declared.state.Body.TheVariants as body
use Rattle.kernel_values.specs.declared.state.CoreState.{CoreState}
use Rattle.kernel_values.specs.declared.state.Object.{Object}
use Rattle.kernel_types.specs.Connects.{peer_of}
use Rattle.kernel_types.specs.Messages.{has_id}
use Rattle.kernel_types.specs.Names.{named_in}
use Rattle.kernel_types.specs.Objects.{end_of, on_body, on_end, on_port}
use Rattle.kernel_types.specs.Reach.{is_in}
use Rattle.count_laws.specs.Dropping.{all_unlisted, cut_from, dropped, is_other, others, unlisted}
use Rattle.count_laws.specs.Thinning.{In, IsPending}
use Rattle.count_laws.proofs.Holding.{in_filter, in_map, of_filter, of_map}
use Rattle.break_laws.specs.Breaks.{is_pending, pending_in}
use Rattle.break_laws.specs.Held.{HeldAre, held_in}
use Rattle.break_laws.proofs.Namers.{Namer, in_filtered}
use Rattle.break_laws.proofs.Namers.Namer.{by_bridge, by_object, by_root}

-- What an object names is pending or held.

pub pending_or_held : (b : Body) (n : ℕ) → is_in (named_in b) n ≡ true → (is_in (pending_in b) n ≡ true) ⊎ (is_in (held_in b) n ≡ true)
pending_or_held (body.Port port) n is = inl is
pending_or_held (body.End end) n is = inr is
pending_or_held (body.Set set) n is = inr is
pending_or_held (body.Memory memory) n is = absurd (cc)

pub is_pending_by : (objects : List Object) (x : Object) (n : ℕ) → In x objects → is_in (pending_in x.body) n ≡ true → is_pending objects n ≡ true
is_pending_by [] x n h is = absurd h
is_pending_by (o ∷ objects) x n (inl e) is =
    let here : is_in (pending_in o.body) n ≡ true = ap (λ (v : Object). is_in (pending_in v.body) n) e ∙ is in
    elim (is_in (pending_in o.body) n) as (λ b. b ≡ true → (b || is_pending objects n) ≡ true) [ true ↦ (λ k. refl) | false ↦ (λ k. absurd (cc)) ] here
is_pending_by (o ∷ objects) x n (inr h) is =
    let more : is_pending objects n ≡ true = is_pending_by objects x n h is in
    elim (is_in (pending_in o.body) n) as (λ b. (b || is_pending objects n) ≡ true) [ true ↦ refl | false ↦ more ]

pending_later : (o : Object) (objects : List Object) (n : ℕ) → IsPending objects n → IsPending (o ∷ objects) n
pending_later o objects n p = record { at = p.at; port = p.port; within = inr p.within; is = p.is; lists = p.lists }

pending_here : (o : Object) (objects : List Object) (n : ℕ) (b : Body) → o.body ≡ b → is_in (pending_in b) n ≡ true → IsPending (o ∷ objects) n
pending_here o objects n (body.Port port) is lists = record { at = o; port = port; within = inl refl; is = is; lists = lists }
pending_here o objects n (body.End end) is lists = absurd (cc)
pending_here o objects n (body.Set set) is lists = absurd (cc)
pending_here o objects n (body.Memory memory) is lists = absurd (cc)

pub pends_at : (objects : List Object) (n : ℕ) → is_pending objects n ≡ true → IsPending objects n
pends_at [] n is = absurd (cc)
pends_at (o ∷ objects) n is =
    let P : Bool → Type 0 = λ b. is_in (pending_in o.body) n ≡ b → (b || is_pending objects n) ≡ true → IsPending (o ∷ objects) n in
    let go : (b : Bool) → P b = λ b. elim b as (λ v. P v) [
      | true ↦ (λ lists k. pending_here o objects n o.body refl lists)
      | false ↦ (λ none k. pending_later o objects n (pends_at objects n k))
    ] in
    go (is_in (pending_in o.body) n) refl is

all_in : (P : ℕ → Type 0) (xs : List ℕ) (n : ℕ) → AllByRecursion P xs → is_in xs n ≡ true → P n
all_in P [] n all is = absurd (cc)
all_in P (x ∷ xs) n all is =
    let Q : Bool → Type 0 = λ b. (x == n) ≡ b → (b || is_in xs n) ≡ true → P n in
    let go : (b : Bool) → Q b = λ b. elim b as (λ v. Q v) [
      | true ↦ (λ e k. let same : x ≡ n = grind (arith, tests) in subst P same all.0)
      | false ↦ (λ e k. all_in P xs n all.1 k)
    ] in
    go (x == n) refl is

held_at : (P : ℕ → Type 0) (objects : List Object) (x : Object) → AllByRecursion (λ (object : Object). AllByRecursion P (held_in object.body)) objects → In x objects → AllByRecursion P (held_in x.body)
held_at P [] x all h = absurd h
held_at P (o ∷ objects) x all (inl e) = subst (λ (v : Object). AllByRecursion P (held_in v.body)) e all.0
held_at P (o ∷ objects) x all (inr h) = held_at P objects x all.1 h

pub held_known : (P : ℕ → Type 0) (c : CoreState) (x : Object) (n : ℕ) → HeldAre P c → In x c.objects → is_in (held_in x.body) n ≡ true → P n
held_known P c x n k within holds = all_in P (held_in x.body) n (held_at P c.objects x k.objects within) holds

-- Dropping.

module _ (b : CoreState) (x n : ℕ) where
  abbrev peer : Option ℕ
  peer = peer_of (end_of b.objects x)

  abbrev left : Object → Object
  left y = on_body (on_end (cut_from x)) (on_body (on_port (unlisted peer)) y)

  not_true : (k : Bool) → k ≡ false → not k ≡ true
  not_true true is = absurd (cc)
  not_true false is = refl

  still_names : (y : Body) → is_in (named_in y) n ≡ true → (is_in (pending_in y) n ≡ true → has_id n peer ≡ false) → is_in (named_in (on_end (cut_from x) (on_port (unlisted peer) y))) n ≡ true
  still_names (body.Port port) names kept =
      in_filtered (λ server. not (has_id server peer)) port.pending n ∙ (ap (λ k. not k && is_in port.pending n) (kept names) ∙ names)
  still_names (body.End end) names kept = names
  still_names (body.Set set) names kept = names
  still_names (body.Memory memory) names kept = names

  pub namer_left : ((y : Object) → In y b.objects → y.id ≡ x → is_in (named_in y.body) n ≡ true → ⊥)
      → ((y : Object) → In y b.objects → is_in (pending_in y.body) n ≡ true → has_id n peer ≡ false) → Namer b n → Namer (dropped x b) n
  unfolding dropped
  namer_left mute kept (by_root h) = by_root h
  namer_left mute kept (by_bridge is) = by_bridge is
  namer_left mute kept (by_object y within names) =
      let P : Bool → Type 0 = λ k. (y.id == x) ≡ k → Namer (dropped x b) n in
      let stays : P false = λ e.
      let one : In y (others x b.objects) = in_filter (λ (o : Object). is_other x o.id) b.objects y within (not_true (y.id == x) e) in
      let two : In (on_body (on_port (unlisted peer)) y) (all_unlisted peer (others x b.objects)) = in_map (on_body (on_port (unlisted peer))) (others x b.objects) y one in
      by_object (left y) (in_map (on_body (on_end (cut_from x))) (all_unlisted peer (others x b.objects)) (on_body (on_port (unlisted peer)) y) two) (still_names y.body names (kept y within)) in
      let go : (k : Bool) → P k = λ k. elim k as (λ v. P v) [
        | true ↦ (λ e. let same : y.id ≡ x = grind (arith, tests) in absurd (mute y within same names))
        | false ↦ stays
      ] in
      go (y.id == x) refl

  -- an object that is left, with what it was
  pub record Left (y : Object) : Type 0 where
    pub z : Object
    pub within : In z b.objects
    pub is : left z ≡ y

  pub was_left : (y : Object) → In y (dropped x b).objects → Left y
  unfolding dropped
  was_left y h =
      let one : (v : Object) × In v (all_unlisted peer (others x b.objects)) × (on_body (on_end (cut_from x)) v ≡ y) = of_map (on_body (on_end (cut_from x))) (all_unlisted peer (others x b.objects)) y h in
      let two : (z : Object) × In z (others x b.objects) × (on_body (on_port (unlisted peer)) z ≡ one.0) = of_map (on_body (on_port (unlisted peer))) (others x b.objects) one.0 one.1 in
      record { z = two.0; within = (of_filter (λ (o : Object). is_other x o.id) b.objects two.0 two.1).0; is = ap (on_body (on_end (cut_from x))) two.2 ∙ one.2 }
