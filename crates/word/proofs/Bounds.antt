-- Words and fields are below their power of 2. Assumes nothing.
use Rattle.std.proofs.Common.{ℕ, ◌/◌, ◌^◌, ◌<◌, ℤ, pos, negsuc, mod-lt, arith, pow_pos}
use Rattle.word.specs.Word.{Field, field_of, mod_z, word_of}

pub word_below : (k : ℕ) (z : ℤ) → word_of k z < 2 ^ k
unfolding mod_z
word_below k (pos n) = mod-lt n (pow_pos k)
word_below k (negsuc n) = let p : 0 < 2 ^ k = pow_pos k in omega arith

pub field_below : (f : Field) (w : ℕ) → field_of f w < 2 ^ f.width
unfolding field_of
field_below f w = mod-lt (w / 2 ^ f.place) (pow_pos f.width)
