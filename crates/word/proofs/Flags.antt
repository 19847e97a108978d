-- Numbers as sets of flags: one flag set or cleared, the others, and the count. Assumes nothing.
use Rattle.std.proofs.Common.{◌≡◌, ℕ, zero, suc, ◌+◌, ◌-◌, ◌*◌, ◌/◌, ◌%◌, ◌^◌, ◌<◌, ◌≤◌, true, false, not, ◌&&◌, eqb, ltb, List, [], ◌∷◌, length, sym, refl, ap, ◌∙◌, true≢false, le_of_suc-le-suc, not-suc-le-zero, pow-suc, le-div_iff_mul-le, arith, one-mul, pow_pos, ltb-true, lt-ltb, eq-eqb, ne_eqb, eqb-true}
use Rattle.std.specs.Int.Bits.{bit_and, bit_or, or_add_and}
use Rattle.std.proofs.lemmas.Nat.{one_shl, and_comm, and-not, pow_below}
use Rattle.std.proofs.lemmas.Nat.Bits.{and_pow}
use Rattle.std.proofs.lemmas.Bool.{eqb-false, not-true}
use Rattle.std.proofs.Math.Bool.{or-true}
use Rattle.std.proofs.Math.Nat.{pow-succ', div-div-eq-div-mul, add-div_right, zero-div}
use Rattle.word.specs.Choice.{choose◌then◌else◌}
use Rattle.word.specs.Word.{bit_at}
use Rattle.word.proofs.Tests.{either, and_parts}
use Rattle.word.specs.Flags.{ones_of, with_flag, without_flag, flags_at, is_among, distinct_below}

-- ---- digits: flag n is 1 when digit n is

abbrev digit : (n x : ℕ) → ℕ
digit n x = x / 2 ^ n % 2

digit_one : (n x : ℕ) → bit_at n x ≡ true → digit n x ≡ 1
digit_one n x e = eqb-true (digit n x) 1 e

digit_zero : (n x : ℕ) → bit_at n x ≡ false → digit n x ≡ 0
digit_zero n x e =
    let d : digit n x ≡ 1 → ⊥ = eqb-false (digit n x) 1 e in
    omega arith

-- digit suc n is digit n of the half
digit_half : (n x : ℕ) → digit (suc n) x ≡ digit n (x / 2)
digit_half n x = ap (λ (m : ℕ). m % 2) (ap (λ (m : ℕ). x / m) (pow-succ' 2 n) ∙ sym (div-div-eq-div-mul x 2 (2 ^ n)))

half_add : (n x : ℕ) → (x + 2 ^ suc n) / 2 ≡ x / 2 + 2 ^ n
half_add n x = rw pow-suc (omega arith)

odd_add : (n x : ℕ) → (x + 2 ^ suc n) % 2 ≡ x % 2
odd_add n x = rw pow-suc (omega arith)

even_half : (x : ℕ) → digit 0 x ≡ 0 → (x + 1) / 2 ≡ x / 2
even_half x e = omega arith

-- 2 ^ n added where digit n is 0: that digit is 1, the others stay, one more is 1, and the size stays
add_same : (n x : ℕ) → digit n x ≡ 0 → digit n (x + 2 ^ n) ≡ 1
add_same n x e = rw (add-div_right x (pow_pos n)) (omega arith)

add_other : (j n x : ℕ) → (j ≡ n → ⊥) → digit n x ≡ 0 → digit j (x + 2 ^ n) ≡ digit j x
add_other zero zero x d e = absurd (d refl)
add_other zero (suc n) x d e = let o : (x + 2 ^ suc n) % 2 ≡ x % 2 = odd_add n x in omega arith
add_other (suc j) zero x d e = digit_half j (x + 1) ∙ ap (digit j) (even_half x e) ∙ sym (digit_half j x)
add_other (suc j) (suc n) x d e =
    digit_half j (x + 2 ^ suc n)
    ∙ ap (digit j) (half_add n x)
    ∙ add_other j n (x / 2) (λ q. d (ap suc q)) (sym (digit_half n x) ∙ e)
    ∙ sym (digit_half j x)

add_ones : (k n x : ℕ) → n < k → digit n x ≡ 0 → ones_of k (x + 2 ^ n) ≡ suc (ones_of k x)
unfolding ones_of
add_ones zero n x h e = absurd (not-suc-le-zero h)
add_ones (suc k) zero x h e = rw (even_half x e) (omega arith)
add_ones (suc k) (suc n) x h e =
    rw (half_add n x, odd_add n x, add_ones k n (x / 2) (le_of_suc-le-suc h) (sym (digit_half n x) ∙ e)) (omega arith)

add_below : (k n x : ℕ) → n < k → x < 2 ^ k → digit n x ≡ 0 → x + 2 ^ n < 2 ^ k
add_below zero n x h b e = absurd (not-suc-le-zero h)
add_below (suc k) zero x h b e =
    let c : x < 2 ^ k * 2 = rw pow-suc at b in
    rw pow-suc (omega arith)
add_below (suc k) (suc n) x h b e =
    let c : x < 2 ^ k * 2 = rw pow-suc at b in
    let i : x / 2 + 2 ^ n < 2 ^ k = add_below k n (x / 2) (le_of_suc-le-suc h) (omega arith) (sym (digit_half n x) ∙ e) in
    rw (pow-suc 2 n, pow-suc 2 k) (omega arith)

-- where digit n is 1, 2 ^ n can be taken away and added again
digit_most : (n x : ℕ) → digit n x ≡ 1 → 2 ^ n ≤ x
digit_most n x e =
    let q : 1 ≤ x / 2 ^ n = omega arith in
    let m : 1 * 2 ^ n ≤ x = (le-div_iff_mul-le (pow_pos n)).0 q in
    omega arith

again : (n x : ℕ) → digit n x ≡ 1 → x - 2 ^ n + 2 ^ n ≡ x
again n x e = omega (arith, digit_most n x e)

less_same : (n x : ℕ) → digit n x ≡ 1 → digit n (x - 2 ^ n) ≡ 0
less_same n x e =
    let q : x / 2 ^ n ≡ (x - 2 ^ n) / 2 ^ n + 1 = ap (λ (m : ℕ). m / 2 ^ n) (sym (again n x e)) ∙ add-div_right (x - 2 ^ n) (pow_pos n) in
    omega arith

-- ---- one flag set or cleared

module _ (n x : ℕ) where
  and_set : bit_at n x ≡ true → bit_and x (2 ^ n) ≡ 2 ^ n
  and_set e = and_pow x n ∙ rw (digit_one n x e) (one-mul (2 ^ n))

  and_clear : bit_at n x ≡ false → bit_and x (2 ^ n) ≡ 0
  and_clear e = and_pow x n ∙ rw (digit_zero n x e) (omega arith)

  pub with_set : bit_at n x ≡ true → with_flag n x ≡ x
  unfolding with_flag choose◌then◌else◌
  with_set e = rw e

  pub with_clear : bit_at n x ≡ false → with_flag n x ≡ x + 2 ^ n
  unfolding with_flag choose◌then◌else◌
  with_clear e = rw e

  pub without_set : bit_at n x ≡ true → without_flag n x ≡ x - 2 ^ n
  unfolding without_flag choose◌then◌else◌
  without_set e = rw e

  pub without_clear : bit_at n x ≡ false → without_flag n x ≡ x
  unfolding without_flag choose◌then◌else◌
  without_clear e = rw e

  -- the code's `x | (1 << n)`
  pub or_flag : n < 32 → bit_or x (1 * 2 ^ n % 2 ^ 32) ≡ with_flag n x
  or_flag h =
      let o : bit_or x (2 ^ n) + bit_and x (2 ^ n) ≡ x + 2 ^ n = or_add_and x (2 ^ n) in
      rw (one_shl n 32 h)
      (either (bit_at n x)
      (λ e. let a : bit_and x (2 ^ n) ≡ 2 ^ n = and_set e in rw (with_set e) (omega arith))
      (λ e. let a : bit_and x (2 ^ n) ≡ 0 = and_clear e in rw (with_clear e) (omega arith)))

  -- the code's `x & !(1 << n)`
  pub and_not_flag : n < 32 → x < 2 ^ 32 → bit_and x (2 ^ 32 - 1 - 1 * 2 ^ n % 2 ^ 32) ≡ without_flag n x
  and_not_flag h b =
      let o : bit_and (2 ^ 32 - 1 - 2 ^ n) x + bit_and (2 ^ n) x ≡ x = and-not 32 (2 ^ n) x (pow_below n 32 h) b in
      let c : bit_and (2 ^ n) x ≡ bit_and x (2 ^ n) = and_comm (2 ^ n) x in
      let d : bit_and (2 ^ 32 - 1 - 2 ^ n) x ≡ bit_and x (2 ^ 32 - 1 - 2 ^ n) = and_comm (2 ^ 32 - 1 - 2 ^ n) x in
      rw (one_shl n 32 h)
      (either (bit_at n x)
      (λ e. let a : bit_and x (2 ^ n) ≡ 2 ^ n = and_set e in rw (without_set e) (omega arith))
      (λ e. let a : bit_and x (2 ^ n) ≡ 0 = and_clear e in rw (without_clear e) (omega arith)))

  pub with_same : bit_at n (with_flag n x) ≡ true
  with_same =
      either (bit_at n x) (λ e. rw (with_set e) e)
      (λ e. rw (with_clear e) (eq-eqb (digit n (x + 2 ^ n)) 1 (add_same n x (digit_zero n x e))))

  pub with_other : (j : ℕ) → (j ≡ n → ⊥) → bit_at j (with_flag n x) ≡ bit_at j x
  with_other j d =
      either (bit_at n x) (λ e. ap (bit_at j) (with_set e))
      (λ e. rw (with_clear e) (ap (λ (m : ℕ). eqb m 1) (add_other j n x d (digit_zero n x e))))

  pub with_below : (k : ℕ) → n < k → x < 2 ^ k → with_flag n x < 2 ^ k
  with_below k h b =
      either (bit_at n x) (λ e. rw (with_set e) b) (λ e. rw (with_clear e) (add_below k n x h b (digit_zero n x e)))

  pub ones_with : (k : ℕ) → n < k → bit_at n x ≡ false → ones_of k (with_flag n x) ≡ suc (ones_of k x)
  ones_with k h e = rw (with_clear e) (add_ones k n x h (digit_zero n x e))

  pub without_same : bit_at n (without_flag n x) ≡ false
  without_same =
      either (bit_at n x)
      (λ e. rw (without_set e) (ne_eqb (digit n (x - 2 ^ n)) 1 (λ q. omega (arith, less_same n x (digit_one n x e)))))
      (λ e. rw (without_clear e) e)

  pub without_below : (k : ℕ) → x < 2 ^ k → without_flag n x < 2 ^ k
  without_below k b = either (bit_at n x) (λ e. rw (without_set e) (omega arith)) (λ e. rw (without_clear e) b)

-- a flag that was 0, set and cleared
pub without_with : (n x : ℕ) → bit_at n x ≡ false → without_flag n (with_flag n x) ≡ x
without_with n x e =
    let s : bit_at n (x + 2 ^ n) ≡ true = rw (with_clear n x e) at (with_same n x) in
    ap (without_flag n) (with_clear n x e) ∙ without_set n (x + 2 ^ n) s ∙ omega arith

-- a flag that was 1, cleared and set
pub with_without : (n x : ℕ) → bit_at n x ≡ true → with_flag n (without_flag n x) ≡ x
with_without n x e =
    let s : bit_at n (x - 2 ^ n) ≡ false = rw (without_set n x e) at (without_same n x) in
    ap (with_flag n) (without_set n x e) ∙ with_clear n (x - 2 ^ n) s ∙ again n x (digit_one n x e)

pub without_other : (n x j : ℕ) → (j ≡ n → ⊥) → bit_at j (without_flag n x) ≡ bit_at j x
without_other n x j d =
    either (bit_at n x)
    (λ e. sym (with_other n (without_flag n x) j d) ∙ ap (bit_at j) (with_without n x e))
    (λ e. ap (bit_at j) (without_clear n x e))

pub ones_without : (n x k : ℕ) → n < k → bit_at n x ≡ true → ones_of k x ≡ suc (ones_of k (without_flag n x))
ones_without n x k h e = ap (ones_of k) (sym (with_without n x e)) ∙ ones_with n (without_flag n x) k h (without_same n x)

-- ---- the count

pub ones_zero : (k : ℕ) → ones_of k 0 ≡ 0
unfolding ones_of
ones_zero zero = refl
ones_zero (suc k) = rw (ones_zero k)

pub ones_none : (k x : ℕ) → x < 2 ^ k → ones_of k x ≡ 0 → x ≡ 0
unfolding ones_of
ones_none zero x b e = omega arith
ones_none (suc k) x b e =
    let c : x < 2 ^ k * 2 = rw pow-suc at b in
    let q : x / 2 ≡ 0 = ones_none k (x / 2) (omega arith) (omega arith) in
    omega arith

pub ones_most : (k x : ℕ) → ones_of k x ≤ k
unfolding ones_of
ones_most zero x = omega arith
ones_most (suc k) x = let h : ones_of k (x / 2) ≤ k = ones_most k (x / 2) in omega arith

-- ---- the flags of a list

-- one of a list is not one that is none of it
pub apart_among : (ns : List ℕ) (n i : ℕ) → is_among i ns ≡ true → is_among n ns ≡ false → n ≡ i → ⊥
apart_among ns n i a b e = true≢false (sym a ∙ ap (λ (j : ℕ). is_among j ns) (sym e) ∙ b)

pub flags_at_law : (n : ℕ) (ns : List ℕ) → bit_at n (flags_at ns) ≡ is_among n ns
unfolding flags_at is_among
flags_at_law n [] = rw (zero-div (2 ^ n))
flags_at_law n (m ∷ ms) =
    either (eqb m n)
    (λ e. let same : with_flag n (flags_at ms) ≡ with_flag m (flags_at ms) = rw (eqb-true m n e) in rw (e, ← same) (with_same n (flags_at ms)))
    (λ e. rw e (with_other m (flags_at ms) n (λ q. eqb-false m n e (sym q)) ∙ flags_at_law n ms))

-- a list's first, taken off
pub flags_pop : (n : ℕ) (ns : List ℕ) → is_among n ns ≡ false → without_flag n (flags_at (n ∷ ns)) ≡ flags_at ns
unfolding flags_at
flags_pop n ns e = without_with n (flags_at ns) (flags_at_law n ns ∙ e)

-- ---- distinct places

module _ (k n : ℕ) (ns : List ℕ) where
  -- n is below k, none of ns, and they are distinct
  pub record Distinct : Type 0 where
    pub below : n < k
    pub new : is_among n ns ≡ false
    pub rest : distinct_below k ns ≡ true

  pub distinct_first : distinct_below k (n ∷ ns) ≡ true → Distinct
  unfolding distinct_below
  distinct_first e =
      let a = and_parts (ltb n k) (not (is_among n ns) && distinct_below k ns) e in
      let b = and_parts (not (is_among n ns)) (distinct_below k ns) a.1 in
      record { below = ltb-true n k a.0; new = not-true (is_among n ns) b.0; rest = b.1 }

  pub distinct_more : Distinct → distinct_below k (n ∷ ns) ≡ true
  unfolding distinct_below
  distinct_more d = rw (lt-ltb n k d.below, d.new, d.rest)

module _ (k : ℕ) where
  -- as many ones as places
  pub ones_flags : (ns : List ℕ) → distinct_below k ns ≡ true → ones_of k (flags_at ns) ≡ length ns
  unfolding flags_at
  ones_flags [] e = ones_zero k
  ones_flags (n ∷ ns) e =
      let d = distinct_first k n ns e in
      ones_with n (flags_at ns) k d.below (flags_at_law n ns ∙ d.new) ∙ ap suc (ones_flags ns d.rest)

  pub flags_below_all : (ns : List ℕ) → distinct_below k ns ≡ true → flags_at ns < 2 ^ k
  unfolding flags_at
  flags_below_all [] e = pow_pos k
  flags_below_all (n ∷ ns) e =
      let d = distinct_first k n ns e in
      with_below n (flags_at ns) k d.below (flags_below_all ns d.rest)

  pub length_most : (ns : List ℕ) → distinct_below k ns ≡ true → length ns ≤ k
  length_most ns e = omega (arith, ones_flags ns e, ones_most k (flags_at ns))

  -- distinct places, each of them a flag of x, and as many as x has ones: they are x's flags
  pub flags_counted : (ns : List ℕ) (x : ℕ) → x < 2 ^ k → distinct_below k ns ≡ true → ((n : ℕ) → is_among n ns ≡ true → bit_at n x ≡ true)
      → ones_of k x ≡ length ns → flags_at ns ≡ x
  unfolding flags_at is_among
  flags_counted [] x b e f q = sym (ones_none k x b q)
  flags_counted (n ∷ ns) x b e f q =
      let d = distinct_first k n ns e in
      let h : bit_at n x ≡ true = f n (rw (eq-eqb n n refl)) in
      let o : ones_of k x ≡ suc (ones_of k (without_flag n x)) = ones_without n x k d.below h in
      let r : ones_of k (without_flag n x) ≡ length ns = omega arith in
      ap (with_flag n) (flags_counted ns (without_flag n x) (without_below n x k b) d.rest (kept d.new) r) ∙ with_without n x h
    where
      kept : is_among n ns ≡ false → (j : ℕ) → is_among j ns ≡ true → bit_at j (without_flag n x) ≡ true
      kept w j a = without_other n x j (λ s. true≢false (sym a ∙ ap (λ (m : ℕ). is_among m ns) s ∙ w)) ∙ f j (rw a (or-true (eqb n j)))
