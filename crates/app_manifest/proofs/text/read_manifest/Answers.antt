use Rattle.std.proofs.Common.{refl}
use Rattle.std.proofs.lemmas.Str.{IsUtf8-from_ascii}
use Rattle.app_manifest.specs.Spelled.{manifest_text}
use Rattle.app_manifest.proofs.text.read_manifest.Goals as goal

pub returns-else-is_memory : goal.returns-else-is_memory
unfolding manifest_text
returns-else-is_memory c =
    let no_json = c.in-Err.ensures.err (λ memory. let told = c.is_memory.ensures.1 memory in let not = c.if-is_memory.false in absurd (cc))
    (IsUtf8-from_ascii _ c.requires.ascii) in
    rw no_json refl
