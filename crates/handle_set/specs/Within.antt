-- Whether one set contains another, looked for so many sets deep. No public clause cites this file.
use Rattle.std.specs.Prelude.{ℕ, Bool, ◌==◌, ◌||◌, zero, suc, List}
use Rattle.std.specs.List.{list_any}
use Rattle.kernel_values.specs.declared.state.Object.{Object}
use Rattle.kernel_types.specs.Objects.{set_of}
use Rattle.kernel_types.specs.Sets.{members_of}

abbrev pub is_within : ℕ → List Object → ℕ → ℕ → Bool
is_within zero objects inner outer = outer == inner
is_within (suc depth) objects inner outer = (outer == inner) || list_any (is_within depth objects inner) (members_of (set_of objects outer))
