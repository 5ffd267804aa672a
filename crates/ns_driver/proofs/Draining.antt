-- What a drain comes to, by what stands in memory before it.
use Rattle.std.proofs.Common.{◌≡◌, ℕ, ◌^◌, ◌<◌, true, List, length, drop, map, min, refl, sym, ap, ◌∙◌, arith}
use Rattle.std.specs.Prelude.{nat_lt}
use Rattle.std.specs.List.{All, fold, filter}
use Rattle.std.proofs.lemmas.Bool.{and_parts, ltb-true}
use Rattle.std.proofs.lemmas.List.Elements.{All-map, All-weaker, filter_passes}
use Rattle.kernel_values.specs.declared.world.Connection.{Connection}
use Rattle.kernel_values.specs.declared.world.Driver.{Driver}
use Rattle.kernel_types.specs.GuestMemory.{UsedElement, ring, given, buffer_count, new_elements, used_idx}
use Rattle.kernel_types.specs.Drains.{is_readable, readable_elements, frame_at, delivered, with_free, freed_places, drained, to_normal_drained, from_normal_drained, drained_frames}
use Rattle.ns_driver.specs.Value.{IsSound}
use Rattle.ns_driver.specs.Acts.{bare}
use Rattle.ns_driver.proofs.Behind.{Sized, drop-given_all, same_idx, same_elements}

pub drained_memory : (memory : List ℕ) (d : Driver) → (drained (bare memory d)).memory ≡ fold (given d.size) memory (map (λ e. e.id) (readable_elements (bare memory d)))
unfolding to_normal_drained from_normal_drained drained_frames
drained_memory memory d = refl

readable_inside : (size : ℕ) (e : UsedElement) → is_readable size e ≡ true → e.id < 32
readable_inside size e t = let below : e.id < min size 32 = ltb-true e.id (min size 32) (and_parts _ _ t).0 in omega arith

given_inside : (memory : List ℕ) (d : Driver) → All (λ place. place < 32) (map (λ e. e.id) (readable_elements (bare memory d)))
given_inside memory d =
    let news = new_elements memory (ring 0 d.size) d.seen_to_normal in
    All-map (λ place. place < 32) (λ (e : UsedElement). e.id) (filter (is_readable d.size) news)
    (All-weaker (λ e. is_readable d.size e ≡ true) (λ (e : UsedElement). e.id < 32) (readable_inside d.size) (filter (is_readable d.size) news) (filter_passes (is_readable d.size) news))

-- the driver after a drain
abbrev pub driver_drained : List ℕ → Driver → Driver
driver_drained memory d = record {
  size = d.size;
  seen_to_normal = used_idx memory 0;
  seen_from_normal = used_idx memory 1;
  free = fold with_free d.free (freed_places (bare memory d));
  connections = fold delivered d.connections (map (frame_at memory) (readable_elements (bare memory d)));
}

abbrev driver_with : List ℕ → Driver → ℕ → List UsedElement → Driver
driver_with memory d idx news = record {
  size = d.size;
  seen_to_normal = used_idx memory 0;
  seen_from_normal = idx;
  free = fold with_free d.free (filter (λ place. nat_lt place (buffer_count d.size)) (map (λ e. e.id) news));
  connections = fold delivered d.connections (map (frame_at memory) (readable_elements (bare memory d)));
}

pub drained_driver : (memory : List ℕ) (d : Driver) → length memory ≡ 2 ^ 20 → IsSound d → (drained (bare memory d)).driver ≡ driver_drained memory d
unfolding to_normal_drained from_normal_drained drained_frames
drained_driver memory d long sound =
    let places = map (λ e. e.id) (readable_elements (bare memory d)) in
    let after = fold (given d.size) memory places in
    let sized : Sized d.size memory = record { low = sound.low; high = sound.high; long = long } in
    let behind : drop 0x5000 after ≡ drop 0x5000 memory = drop-given_all 0x5000 d.size places memory sized (given_inside memory d) (omega arith) in
    ap (λ idx. driver_with memory d idx (new_elements after (ring 1 d.size) d.seen_from_normal)) (same_idx after memory behind)
    ∙ ap (λ news. driver_with memory d (used_idx memory 1) news) (same_elements d.size d.seen_from_normal after memory behind)

pub driver_is : (memory : List ℕ) (d : Driver) (seen0 seen1 : ℕ) (free : List ℕ) (connections : List Connection) → length memory ≡ 2 ^ 20 → IsSound d
    → seen0 ≡ used_idx memory 0 → seen1 ≡ used_idx memory 1 → free ≡ fold with_free d.free (freed_places (bare memory d))
    → connections ≡ fold delivered d.connections (map (frame_at memory) (readable_elements (bare memory d)))
    → record { size = d.size; seen_to_normal = seen0; seen_from_normal = seen1; free = free; connections = connections } ≡ (drained (bare memory d)).driver
driver_is memory d seen0 seen1 free connections long sound e0 e1 ef ec =
    let D : ℕ → ℕ → List ℕ → List Connection → Driver = λ a b f cs. record { size = d.size; seen_to_normal = a; seen_from_normal = b; free = f; connections = cs } in
    ap (λ a. D a seen1 free connections) e0
    ∙ ap (λ b. D (used_idx memory 0) b free connections) e1
    ∙ ap (λ f. D (used_idx memory 0) (used_idx memory 1) f connections) ef
    ∙ ap (λ cs. D (used_idx memory 0) (used_idx memory 1) (fold with_free d.free (freed_places (bare memory d))) cs) ec
    ∙ sym (drained_driver memory d long sound)
