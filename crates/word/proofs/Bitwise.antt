-- The machine's operations on bits are the definitions', digit by digit. Assumes nothing.
use Rattle.std.proofs.Common.{◌≡◌, ℕ, zero, suc, ◌+◌, ◌-◌, ◌*◌, ◌/◌, ◌%◌, ◌^◌, ◌<◌, min, max, refl, ap, ◌∙◌, ap₂, pow-suc, arith}
use Rattle.std.specs.Int.Bits.{bit_and, bit_or, bit_xor, and_step, or_step, xor_step, differ}
use Rattle.std.specs.Int.Count
use Rattle.std.specs.Int.Count.{ones, ones_step}
use Rattle.std.proofs.lemmas.Nat.{one_shl, and_mask}
use Rattle.word.specs.Word.{bitwise_of}
use Rattle.word.specs.Arithmetic.{and_of, or_of, xor_of, not_of}
use Rattle.word.specs.Flags.{ones_of}

halved : (k n : ℕ) → n < 2 ^ suc k → n / 2 < 2 ^ k
halved k n h = let g : n < 2 ^ k * 2 = rw pow-suc at h in omega arith

none : (n : ℕ) → n < 2 ^ 0 → n ≡ 0
none n h = omega arith

-- an operation that goes digit by digit is the definition at as many digits as the operands have
bitwise_is : (op f : ℕ → ℕ → ℕ) → op 0 0 ≡ 0 → ((a b : ℕ) → op a b ≡ op (a / 2) (b / 2) * 2 + f (a % 2) (b % 2))
    → (k a b : ℕ) → a < 2 ^ k → b < 2 ^ k → op a b ≡ bitwise_of f k a b
unfolding bitwise_of
bitwise_is op f z step zero a b p q = ap₂ op (none a p) (none b q) ∙ z
bitwise_is op f z step (suc k) a b p q =
    step a b ∙ ap (λ (x : ℕ). x * 2 + f (a % 2) (b % 2)) (bitwise_is op f z step k (a / 2) (b / 2) (halved k a p) (halved k b q))

differ_is : (x y : ℕ) → x < 2 → y < 2 → differ x y ≡ (x + y) % 2
differ_is zero y p q = omega arith
differ_is (suc zero) zero p q = refl
differ_is (suc zero) (suc zero) p q = refl
differ_is (suc zero) (suc (suc y)) p q = absurd (omega arith)
differ_is (suc (suc x)) y p q = absurd (omega arith)

pub and_is : (k a b : ℕ) → a < 2 ^ k → b < 2 ^ k → bit_and a b ≡ bitwise_of min k a b
and_is = bitwise_is bit_and min refl and_step

pub or_is : (k a b : ℕ) → a < 2 ^ k → b < 2 ^ k → bit_or a b ≡ bitwise_of max k a b
or_is = bitwise_is bit_or max refl or_step

pub xor_is : (k a b : ℕ) → a < 2 ^ k → b < 2 ^ k → bit_xor a b ≡ bitwise_of (λ x y. (x + y) % 2) k a b
xor_is =
    bitwise_is bit_xor (λ x y. (x + y) % 2) refl
    (λ a b. xor_step a b ∙ ap (λ (d : ℕ). bit_xor (a / 2) (b / 2) * 2 + d) (differ_is (a % 2) (b % 2) (omega arith) (omega arith)))

-- the code's `&`, `|`, `^` and `!` of words
pub and_word : (a b : ℕ) → a < 2 ^ 32 → b < 2 ^ 32 → bit_and a b ≡ and_of a b
unfolding and_of
and_word a b p q = and_is 32 a b p q

pub or_word : (a b : ℕ) → a < 2 ^ 32 → b < 2 ^ 32 → bit_or a b ≡ or_of a b
unfolding or_of
or_word a b p q = or_is 32 a b p q

pub xor_word : (a b : ℕ) → a < 2 ^ 32 → b < 2 ^ 32 → bit_xor a b ≡ xor_of a b
unfolding xor_of
xor_word a b p q = xor_is 32 a b p q

pub not_word : (a : ℕ) → 2 ^ 32 - 1 - a ≡ not_of a
unfolding not_of
not_word a = refl

-- the code's `n.count_ones()`
pub ones_is : (k n : ℕ) → n < 2 ^ k → ones n ≡ ones_of k n
unfolding ones_of ones Rattle.std.specs.Int.Count.ones_in
ones_is zero n h = ap ones (none n h)
ones_is (suc k) n h = ones_step n ∙ ap (λ (x : ℕ). n % 2 + x) (ones_is k (n / 2) (halved k n h))

-- the code's `n & ((1 << k) - 1)`
pub masked : (n k : ℕ) → k < 32 → bit_and n (1 * 2 ^ k % 2 ^ 32 - 1) ≡ n % 2 ^ k
masked n k h = rw (one_shl k 32 h, and_mask n k) refl
