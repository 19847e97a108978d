-- Signed numbers: their words, and what i32 and i64 hold. omega does not read ℤ: each law here takes a statement on ℤ to one on ℕ. Assumes nothing.
use Rattle.std.proofs.Common.{◌≡◌, ℕ, zero, suc, ◌+◌, ◌-◌, ◌*◌, ◌/◌, ◌%◌, ◌^◌, ◌<◌, ◌≤◌, true, ltb, leb, ℤ, pos, negsuc, ◌-ℤ◌, sym, refl, ap, ◌∙◌, true≢false, add_comm, mod-lt, mod-eq_of_lt, mul-le-mul_right, mul-lt-mul_of_pos_right, one-mul, pow-suc, arith, le→leb, ltb→lt, lt→ltb, leb→le, pow_pos, pow-add, to_z-of_z, w32, SFits, to_z, of_z, ltb-false, ltb-true, le-ltb, lt-ltb}
use Rattle.std.proofs.Math.Nat.{mul-mod_left}
use Rattle.std.proofs.lemmas.Nat.{shl-shr, mod-pow-add, mod_low, shr_high}
use Rattle.std.proofs.lemmas.Int.{to_z_pos}
use Rattle.std.proofs.Math.IntN.{sub_ℕ}
use Rattle.std.proofs.Math.Pow.{pow-lt, mod-mod-pow}
use Rattle.std.specs.Int.Signed.{mag, shr_z}
use Rattle.std.specs.Int.{Width}
use mir.Val.{hbits}
use Rattle.word.specs.Choice.{choose◌then◌else◌}
use Rattle.word.specs.Word.{signed_of, mod_z, word_of, is_address}
use Rattle.word.proofs.Tests.{either, same_test}

-- ---- differences of naturals

pub sub_below : (a b : ℕ) → a < b → sub_ℕ a b ≡ negsuc (b - suc a)
sub_below a b h = rw (lt-ltb a b h)

pub sub_above : (a b : ℕ) → b ≤ a → sub_ℕ a b ≡ pos (a - b)
sub_above a b h = rw (le-ltb a b h)

-- by which of the two is the larger
pub sub_either : (P : ℤ → Type 0) (a b : ℕ) → (a < b → P (negsuc (b - suc a))) → (b ≤ a → P (pos (a - b))) → P (sub_ℕ a b)
sub_either P a b f g = either (ltb a b) (λ e. rw e (f (ltb-true a b e))) (λ e. rw e (g (ltb-false a b e)))

pub minus_is : (a b : ℕ) → pos a -ℤ pos b ≡ sub_ℕ a b
minus_is a zero = sym (sub_above a 0 (omega arith) ∙ ap pos (gone a))
  where
    gone : (n : ℕ) → n - 0 ≡ n + 0
    gone n = omega arith
minus_is a (suc b) = refl

-- ---- powers of 2

pub double : (k : ℕ) → 0 < k → 2 ^ k ≡ 2 ^ (k - 1) * 2
double k h = ap (λ (j : ℕ). 2 ^ j) (up k h) ∙ pow-suc 2 (k - 1)
  where
    up : (k : ℕ) → 0 < k → k ≡ suc (k - 1)
    up k h = omega arith

-- 1 shifted by less than the width
pub one_shifted : (w n : ℕ) → n < w → (1 * 2 ^ n) % 2 ^ w ≡ 2 ^ n
one_shifted w n h = rw one-mul (mod-eq_of_lt (pow-lt h))

-- ---- the signed reading of a word of k bits, and the word of a signed number

module _ (k n : ℕ) where
  pub signed_low : n < 2 ^ (k - 1) → signed_of k n ≡ pos n
  unfolding signed_of choose◌then◌else◌
  signed_low h = rw (lt-ltb n (2 ^ (k - 1)) h)

  pub signed_high : 2 ^ (k - 1) ≤ n → signed_of k n ≡ pos n -ℤ pos (2 ^ k)
  unfolding signed_of choose◌then◌else◌
  signed_high h = rw (le-ltb n (2 ^ (k - 1)) h)

  -- of a word of k bits, the k lowest are all
  pub signed_whole : n < 2 ^ k → signed_of k n ≡ signed_of k (n % 2 ^ k)
  signed_whole b = ap (signed_of k) (sym (mod-eq_of_lt b))

  -- by the sign bit
  pub signed_either : (P : ℤ → Type 0) → n < 2 ^ k → (n < 2 ^ (k - 1) → P (pos n)) → (2 ^ (k - 1) ≤ n → P (negsuc (2 ^ k - suc n)))
      → P (signed_of k n)
  signed_either P b f g =
      either (ltb n (2 ^ (k - 1)))
      (λ e. rw (signed_low (ltb-true _ _ e)) (f (ltb-true _ _ e)))
      (λ e. rw (signed_high (ltb-false _ _ e), minus_is n (2 ^ k), sub_below n (2 ^ k) b) (g (ltb-false _ _ e)))

module _ (k : ℕ) (p : 0 < k) where
  -- it is in the range of k bits
  pub signed_range : (n : ℕ) → n < 2 ^ k → mag (signed_of k n) < 2 ^ (k - 1)
  signed_range n b =
      let d : 2 ^ k ≡ 2 ^ (k - 1) * 2 = double k p in
      signed_either k n (λ (z : ℤ). mag z < 2 ^ (k - 1)) b (λ h. h) (λ h. omega arith)

  -- the word of the reading is the word
  pub word_signed : (n : ℕ) → n < 2 ^ k → word_of k (signed_of k n) ≡ n
  unfolding mod_z
  word_signed n b =
      signed_either k n (λ (z : ℤ). word_of k z ≡ n) b (λ h. mod-eq_of_lt b)
      (λ h. ap (λ (m : ℕ). 2 ^ k - suc m) (mod-eq_of_lt (omega arith)) ∙ omega arith)

  -- the reading of the word of a number in range is the number
  pub signed_word : (z : ℤ) → mag z < 2 ^ (k - 1) → signed_of k (word_of k z) ≡ z
  unfolding mod_z
  signed_word (pos n) h =
      let d : 2 ^ k ≡ 2 ^ (k - 1) * 2 = double k p in
      ap (signed_of k) (mod-eq_of_lt (omega arith)) ∙ signed_low k n h
  signed_word (negsuc n) h =
      let d : 2 ^ k ≡ 2 ^ (k - 1) * 2 = double k p in
      let m : n % 2 ^ k ≡ n = mod-eq_of_lt (omega arith) in
      ap (λ (m : ℕ). signed_of k (2 ^ k - suc m)) m
      ∙ signed_high k (2 ^ k - suc n) (omega arith)
      ∙ minus_is (2 ^ k - suc n) (2 ^ k)
      ∙ sub_below (2 ^ k - suc n) (2 ^ k) (omega arith)
      ∙ ap negsuc (omega arith)

-- the word of a natural
pub word_natural : (k n : ℕ) → n < 2 ^ k → word_of k (pos n) ≡ n
unfolding mod_z
word_natural k n b = mod-eq_of_lt b

-- an address is its word
pub address_word : (z : ℤ) → is_address z ≡ true → z ≡ pos (word_of 32 z)
unfolding is_address
address_word (pos n) e = ap pos (sym (word_natural 32 n (ltb-true n (2 ^ 32) e)))
address_word (negsuc n) e = absurd (true≢false (sym e))

-- a product less a number below it, in parts
split_less : (m n h b d : ℕ) → m ≡ d + suc h → b < n → m * n - suc (h * n + b) ≡ d * n + (n - suc b)
split_less m n h b d e l = let f : m * n ≡ (d + suc h) * n = ap (λ (k : ℕ). k * n) e in omega arith

-- the low bits of the word that holds z are the shorter word that does
pub word_low : (j k : ℕ) (z : ℤ) → word_of (j + k) z % 2 ^ k ≡ word_of k z
unfolding mod_z
word_low j k (pos n) = mod-mod-pow n j k
word_low j k (negsuc n) =
    let h = n / 2 ^ k % 2 ^ j in
    let p : h < 2 ^ j = mod-lt (n / 2 ^ k) (pow_pos j) in
    let q : n % 2 ^ k < 2 ^ k = mod-lt n (pow_pos k) in
    rw (mod-pow-add n j k, pow-add 2 j k, split_less (2 ^ j) (2 ^ k) h (n % 2 ^ k) (2 ^ j - suc h) (omega arith) q)
    (mod_low (2 ^ j - suc h) k _ (omega arith))

-- ---- casts

-- the cast of a signed number to a word
pub word_is : (z : ℤ) → SFits w32 z → of_z w32 z ≡ word_of 32 z
unfolding mod_z
word_is (pos n) f = omega (arith, f.sfits)
word_is (negsuc n) f = omega (arith, f.sfits)

-- the cast of a word to a signed number
pub signed_is : (n : ℕ) → n < 2 ^ 32 → to_z w32 n ≡ signed_of 32 n
unfolding signed_of choose◌then◌else◌
signed_is n b = either (ltb n (2 ^ 31)) (λ e. rw e) (λ e. rw (e, minus_is n (2 ^ 32), sub_below n (2 ^ 32) b))

-- a signed result that is handed on: `.ok` of a call is its range
pub back : (w : Width) (z : ℤ) → mag z < 2 ^ hbits w → to_z w (of_z w z) ≡ z
back w z h = to_z-of_z (record { sfits = h })

-- ---- wrapping sums and differences

-- the carry out, from the wrapped sum
pub carry_is : (a b : ℕ) → a < 2 ^ 32 → b < 2 ^ 32 → ltb ((a + b) % 2 ^ 32) a ≡ leb (2 ^ 32) (a + b)
carry_is a b p q =
    same_test (ltb ((a + b) % 2 ^ 32) a) (leb (2 ^ 32) (a + b))
    (λ t. let h : (a + b) % 2 ^ 32 < a = ltb→lt _ _ t in le→leb (2 ^ 32) (a + b) (omega arith))
    (λ t. let h : 2 ^ 32 ≤ a + b = leb→le _ _ t in lt→ltb ((a + b) % 2 ^ 32) a (omega arith))

-- the wrapped difference is the word of the exact one
pub difference_is : (a b : ℕ) → a < 2 ^ 32 → b < 2 ^ 32 → (a + (2 ^ 32 - b)) % 2 ^ 32 ≡ word_of 32 (pos a -ℤ pos b)
unfolding mod_z
difference_is a b p q =
    rw (minus_is a b) (sub_either (λ (z : ℤ). (a + (2 ^ 32 - b)) % 2 ^ 32 ≡ word_of 32 z) a b (λ h. omega arith) (λ h. omega arith))

-- ---- shifts to the top and back

-- the k lowest bits, shifted to the top of a word
top_bits : (j k v : ℕ) → j + k ≡ 32 → v * 2 ^ j % 2 ^ 32 ≡ v % 2 ^ k * 2 ^ j
top_bits j k v e =
    let s : 2 ^ 32 ≡ 2 ^ (k + j) = ap (λ (w : ℕ). 2 ^ w) (sym e ∙ add_comm j k) in
    ap (λ (m : ℕ). v * 2 ^ j % m) s ∙ mod-pow-add (v * 2 ^ j) k j ∙ rw (shl-shr v j, mul-mod_left v (2 ^ j)) (omega arith)

-- half of a word is half of k bits at its top
top_half : (j k : ℕ) → 0 < k → j + k ≡ 32 → 2 ^ 31 ≡ 2 ^ (k - 1) * 2 ^ j
top_half j k p e =
    let s : 31 ≡ k - 1 + j = omega arith in
    ap (λ (w : ℕ). 2 ^ w) s ∙ pow-add 2 (k - 1) j

top_low : (j k u : ℕ) → 0 < k → j + k ≡ 32 → u < 2 ^ (k - 1) → shr_z (to_z w32 (u * 2 ^ j)) (2 ^ j) ≡ pos u
top_low j k u p e h =
    let b : u * 2 ^ j < 2 ^ (k - 1) * 2 ^ j = mul-lt-mul_of_pos_right h (pow_pos j) in
    let c : u * 2 ^ j < 2 ^ 31 = rw (← top_half j k p e) at b in
    rw (to_z_pos w32 (u * 2 ^ j) c) (ap pos (shl-shr u j))

top_high : (j k u : ℕ) → 0 < k → j + k ≡ 32 → u < 2 ^ k → 2 ^ (k - 1) ≤ u → shr_z (to_z w32 (u * 2 ^ j)) (2 ^ j) ≡ negsuc (2 ^ k - suc u)
top_high j k u p e l h =
    let b : 2 ^ (k - 1) * 2 ^ j ≤ u * 2 ^ j = mul-le-mul_right (2 ^ j) h in
    let c : 2 ^ 31 ≤ u * 2 ^ j = rw (← top_half j k p e) at b in
    let s : 2 ^ 32 ≡ 2 ^ k * 2 ^ j = ap (λ (w : ℕ). 2 ^ w) (sym e ∙ add_comm j k) ∙ pow-add 2 k j in
    let m : 2 ^ k * 2 ^ j - suc (u * 2 ^ j + 0) ≡ (2 ^ k - suc u) * 2 ^ j + (2 ^ j - 1) = split_less (2 ^ k) (2 ^ j) u 0 (2 ^ k - suc u) (omega arith) (pow_pos j) in
    let t : 2 ^ 32 - suc (u * 2 ^ j) ≡ (2 ^ k - suc u) * 2 ^ j + (2 ^ j - 1) = omega arith in
    let q : (2 ^ 32 - suc (u * 2 ^ j)) / 2 ^ j ≡ 2 ^ k - suc u = rw t (shr_high (2 ^ k - suc u) j (2 ^ j - 1) (omega (arith, pow_pos j))) in
    rw (le-ltb (u * 2 ^ j) (2 ^ 31) c) (ap negsuc q)

-- shifted down again, the sign bit coming in, they are read as signed
pub shifted_back : (j k v : ℕ) → 0 < k → j + k ≡ 32 → shr_z (to_z w32 (v * 2 ^ j % 2 ^ 32)) (2 ^ j) ≡ signed_of k (v % 2 ^ k)
shifted_back j k v p e =
    let b : v % 2 ^ k < 2 ^ k = mod-lt v (pow_pos k) in
    rw (top_bits j k v e)
    (signed_either k (v % 2 ^ k) (λ (z : ℤ). shr_z (to_z w32 (v % 2 ^ k * 2 ^ j)) (2 ^ j) ≡ z) b (top_low j k (v % 2 ^ k) p e) (top_high j k (v % 2 ^ k) p e b))
