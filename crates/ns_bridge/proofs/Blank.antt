-- The memory that a scene begins with has its length.
use Rattle.std.proofs.Common.{◌≡◌, ℕ, ◌∙◌, length, replicate, refl, sym, ap}
use Rattle.std.proofs.lemmas.List.{length-replicate}
use Rattle.kernel_types.specs.GuestMemory.{memory_size, blank_memory}

size_is : memory_size ≡ 1048576
unfolding memory_size
size_is = refl

pub blank_zeros : (n : ℕ) → n ≡ 1048576 → replicate n 0 ≡ blank_memory
unfolding blank_memory
blank_zeros n e = ap (λ k. replicate k 0) (e ∙ sym size_is)

blank_is : length blank_memory ≡ memory_size
unfolding blank_memory
blank_is = length-replicate memory_size 0

pub blank_long : length blank_memory ≡ 1048576
blank_long = blank_is ∙ size_is
