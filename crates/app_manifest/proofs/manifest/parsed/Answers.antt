use Rattle.std.proofs.Common.{◌≡◌, Option, Some, None, refl}
use Rattle.app_manifest.proofs.manifest.parsed.Goals as goal

none_from_refusal : {X : Type 0} (found : Option X) → ((x : X) × (found ≡ Some x) → ⊥) → None ≡ found
none_from_refusal None h = refl
none_from_refusal (Some x) h = absurd (h (x, refl))

pub returns-in-Err : goal.returns-in-Err
returns-in-Err c = none_from_refusal _ (λ p. let e = c.in-Err.ensures.ok.1 p in absurd (cc))
