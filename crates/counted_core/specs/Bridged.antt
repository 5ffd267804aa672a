-- Entries of the bridge that go.
use Rattle.std.specs.Prelude.{◌==◌, ℕ, List, [], ◌∷◌, if◌then◌else◌}

-- what an entry of the bridge names, where it is the end's
unfoldable pub bridged_entry : ℕ → ℕ → List ℕ
bridged_entry end other = (if other == end then other ∷ [] else [])
