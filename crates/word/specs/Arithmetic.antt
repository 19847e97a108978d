-- What the arithmetic operations give (Manual 3). A register holds a number below 2 ^ 32. Assumes nothing.
use Rattle.std.specs.Prelude.{ℕ, ◌+◌, ◌-◌, ◌*◌, ◌/◌, ◌%◌, ◌^◌, min, max, Bool, ◌||◌, ℤ, pos, ◌+ℤ◌, ◌-ℤ◌, ◌*ℤ◌, neg_ℤ, ◌==◌, int_lt, nat_le}
use Rattle.word.specs.Word.{bit_of, field_of, signed_of, div_z, word_of, extend_of, bitwise_of}
use Rattle.word.specs.declared.Sum.{Sum}
use Rattle.word.specs.declared.Product.{Product}

-- ---- flags

-- a condition register: Z times 4, N times 2, C
abbrev pub flags_of : (z n c : Bool) → ℕ
flags_of z n c = bit_of z * 4 + bit_of n * 2 + bit_of c

-- Z: the 32-bit result is 0; N: its bit 31 is 1; c is the carry
abbrev pub result_flags : (value : ℕ) (c : Bool) → ℕ
result_flags value c = flags_of (value == 0) (nat_le (2 ^ 31) value) c

-- outside signed 32 bits: below -2 ^ 31 or above 2 ^ 31 - 1
abbrev pub outside : ℤ → Bool
outside z = int_lt z (neg_ℤ (pos (2 ^ 31))) || int_lt (pos (2 ^ 31 - 1)) z

-- ---- sums, differences, comparisons

-- the sum, wrapped; C is the carry out; overflow is that the exact sum of the signed readings is outside 32 bits
unfoldable pub add_of : (a b : ℕ) → Sum
add_of a b =
    let value = (a + b) % 2 ^ 32 in
    record { value = value; flags = result_flags value (nat_le (2 ^ 32) (a + b)); overflow = outside (signed_of 32 a +ℤ signed_of 32 b) }

-- a - b, wrapped; C is that a is at least b, unsigned; overflow is that the exact difference of the signed readings is outside 32 bits
unfoldable pub sub_of : (a b : ℕ) → Sum
sub_of a b =
    let value = word_of 32 (pos a -ℤ pos b) in
    record { value = value; flags = result_flags value (nat_le b a); overflow = outside (signed_of 32 a -ℤ signed_of 32 b) }

-- a comparison (cmp, cmpi): Z is equal, N is less as signed, C as of a difference
unfoldable pub cmp_of : (a b : ℕ) → ℕ
cmp_of a b = flags_of (a == b) (int_lt (signed_of 32 a) (signed_of 32 b)) (nat_le b a)

-- ---- products

-- the upper and the lower 32 bits of a word of 64
abbrev pub halves_of : (p : ℕ) → Product
halves_of p = record { high = p / 2 ^ 32; low = p % 2 ^ 32 }

-- the 64-bit product of two integers (muls, mulu, mulus, muli)
unfoldable pub product_of : (x y : ℤ) → Product
product_of x y = halves_of (word_of 64 (x *ℤ y))

-- the low halfword, unsigned and signed
abbrev pub half : (a : ℕ) → ℤ
half a = pos (a % 2 ^ 16)

abbrev pub signed_half : (a : ℕ) → ℤ
signed_half a = signed_of 16 (a % 2 ^ 16)

-- the 32-bit product of two halfwords (muls_16, mulu_16, mulus_16)
unfoldable pub short_product_of : (x y : ℤ) → ℕ
short_product_of x y = word_of 32 (x *ℤ y)

-- ---- shifts and sign extension: by the five lowest bits of s

unfoldable pub sll_of : (a s : ℕ) → ℕ
sll_of a s = a * 2 ^ (s % 32) % 2 ^ 32

unfoldable pub srl_of : (a s : ℕ) → ℕ
srl_of a s = a / 2 ^ (s % 32)

-- the signed reading over 2 ^ s, rounded down: the sign bit comes in from above
unfoldable pub sra_of : (a s : ℕ) → ℕ
sra_of a s = word_of 32 (div_z (signed_of 32 a) (2 ^ (s % 32)))

-- the bit that s names (0 the lowest, 31 the highest) is the sign, and is copied to the bits above it
unfoldable pub sext_of : (a s : ℕ) → ℕ
sext_of a s = extend_of (s % 32 + 1) a

-- ---- bit by bit

unfoldable pub and_of : (a b : ℕ) → ℕ
and_of = bitwise_of min 32

unfoldable pub or_of : (a b : ℕ) → ℕ
or_of = bitwise_of max 32

unfoldable pub xor_of : (a b : ℕ) → ℕ
xor_of = bitwise_of (λ x y. (x + y) % 2) 32

unfoldable pub not_of : (a : ℕ) → ℕ
not_of a = 2 ^ 32 - 1 - a

-- ---- bytes, halfwords and fields

-- the k lowest bits of a above those of b: bytes at k = 8, halfwords at k = 16
unfoldable pub join_of : (k a b : ℕ) → ℕ
join_of k a b = a % 2 ^ k * 2 ^ k + b % 2 ^ k

-- the n-th piece of k bits, 0 the lowest: a byte, a halfword
unfoldable pub piece_of : (k a n : ℕ) → ℕ
piece_of k a n = field_of (record { place = k * n; width = k }) a

-- the field whose length is bits 10 to 5 of s and whose position is bits 4 to 0; bits beyond 31 are zero, and a length over 32 counts as 32
unfoldable pub extract_of : (a s : ℕ) → ℕ
extract_of a s = field_of (record { place = s % 32; width = min 32 (s / 32 % 64) }) a

-- to unfold all of these
unfoldable pub arithmetic : Unit {0}
unfolding add_of sub_of cmp_of product_of short_product_of sll_of srl_of sra_of sext_of and_of or_of xor_of not_of join_of piece_of extract_of
arithmetic = tt
