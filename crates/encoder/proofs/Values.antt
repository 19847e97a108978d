-- Numbers that fit so many bits, and their bits, whatever the number of bits and the least number. Assumes nothing.
use mathlib.Core.Path.{◌≡◌, refl, sym, ap, ◌∙◌, subst}
use mathlib.Core.Bool.{true, ◌&&◌, true≢false}
use Prim.Native.Nat.{ℕ, zero, suc, ◌+◌, ◌-◌, ◌*◌, ◌/◌, ◌%◌, ◌^◌, ◌≤◌, ◌<◌}
use native.Mathlib.Nat.{add-zero, add-mod-mod, add-mod_right, mul-add-mod_self_right, mod-eq_of_lt, mod-lt}
use native.Mathlib.Omega.{arith}
use lib.IntN.{ℤ, pos, negsuc, neg_ℤ, neg_ℤ-neg_ℤ, ◌+ℤ◌, ◌-ℤ◌, -ℤ-+ℤ_cancel}
use lib.Pow.{pow_pos, split}
use lib.Signed.{mag}
use lib.Dec.{ltb, leb, eqb, ltb→lt, lt→ltb}
use borrow.Author.Tests.{ltb-true, lt-ltb, le-ltb, le-leb, lt-leb, ne_eqb}
use Rattle.word.specs.Word.{signed_of, mod_z, word_of}
use Rattle.word.proofs.Tests.{same_test}
use Rattle.word.proofs.Integers.{double, signed_either, sub_below, sub_above, sub_either, word_low, word_natural, word_signed}
use Rattle.isa.specs.declared.form.Reading.TheVariants.{Natural, Signed, High}
use Rattle.isa.specs.Used.{least_of}
use Rattle.encoder.specs.Encode.{is_below, fits}
use Rattle.encoder.specs.Theorems.{FitsOne, RangesAre}

-- ---- the bits of a number say which of those that fit it is

-- a number that fits is so much more than the least
offset : (k : ℕ) (least z : ℤ) → fits k least z ≡ true → (z ≡ pos (mag (z -ℤ least)) +ℤ least) × (mag (z -ℤ least) < 2 ^ k)
unfolding fits is_below
offset k least z e =
    let d = within (2 ^ k) (z -ℤ least) e in
    (sym (-ℤ-+ℤ_cancel z least) ∙ ap (λ (x : ℤ). x +ℤ least) d.0, d.1)
  where
    within : (m : ℕ) (x : ℤ) → is_below m x ≡ true → (x ≡ pos (mag x)) × (mag x < m)
    within m (pos n) e = (refl, ltb-true n m e)
    within m (negsuc n) e = absurd (true≢false (sym e))

-- the word of a sum
word_sum : (a : ℕ) (least : ℤ) → word_of 32 (pos a +ℤ least) ≡ (word_of 32 least + a) % 2 ^ 32
unfolding mod_z
word_sum a (pos l) = omega arith
word_sum a (negsuc l) = sub_either (λ (x : ℤ). word_of 32 x ≡ (word_of 32 (negsuc l) + a) % 2 ^ 32) a (suc l) (λ h. omega arith) (λ h. omega arith)

-- the k lowest bits of the word that holds z
low_bits : (k : ℕ) (z : ℤ) → k ≤ 32 → word_of 32 z % 2 ^ k ≡ word_of k z
low_bits k z h = let e : 32 - k + k ≡ 32 = omega arith in subst (λ (m : ℕ). word_of m z % 2 ^ k ≡ word_of k z) e (word_low (32 - k) k z)

-- a sum modulo 2 ^ k says its second number
second : (k l a : ℕ) → a < 2 ^ k → (2 ^ k - l % 2 ^ k + (l + a) % 2 ^ k) % 2 ^ k ≡ a
second k l a h =
    let m = 2 ^ k in
    let less = mod-lt l (pow_pos k) in
    let s = split l k in
    let e : m - l % m + (l + a) ≡ l / m * m + a + m = omega arith in
    add-mod-mod (m - l % m) (l + a) m ∙ ap (λ (x : ℕ). x % m) e ∙ add-mod_right (l / m * m + a) m ∙ mul-add-mod_self_right (l / m) m a ∙ mod-eq_of_lt h

pub fits_one : FitsOne
unfolding mod_z
fits_one k least y z h p q e =
    let a = offset k least y p in
    let b = offset k least z q in
    let l = word_of 32 least in
    let bits : (x : ℤ) (n : ℕ) → x ≡ pos n +ℤ least → word_of 32 x % 2 ^ k ≡ (l + n) % 2 ^ k =
    λ x n t. ap (λ (v : ℤ). word_of 32 v % 2 ^ k) t ∙ ap (λ (v : ℕ). v % 2 ^ k) (word_sum n least) ∙ low_bits k (pos (l + n)) h
    in
    let s : (l + mag (y -ℤ least)) % 2 ^ k ≡ (l + mag (z -ℤ least)) % 2 ^ k = sym (bits y _ a.0) ∙ e ∙ bits z _ b.0 in
    let t : mag (y -ℤ least) ≡ mag (z -ℤ least) = sym (second k l _ a.1) ∙ ap (λ (v : ℕ). (2 ^ k - l % 2 ^ k + v) % 2 ^ k) s ∙ second k l _ b.1 in
    a.0 ∙ ap (λ (v : ℕ). pos v +ℤ least) t ∙ sym b.0

-- ---- a number that fits k bits, whose bits are n

pub record Held (k : ℕ) (least z : ℤ) (n : ℕ) : Type 0 where
  pub short : k ≤ 32
  pub fit : fits k least z ≡ true
  pub bits : word_of 32 z % 2 ^ k ≡ n

-- a natural number's word
pub natural_bits : (k n : ℕ) → k ≤ 32 → n < 2 ^ k → word_of 32 (pos n) % 2 ^ k ≡ n
natural_bits k n h b = low_bits k (pos n) h ∙ word_natural k n b

pub natural_held : (k n : ℕ) → k ≤ 32 → n < 2 ^ k → Held k (least_of Natural k) (pos n) n
unfolding fits is_below least_of
natural_held k n h b = record { short = h; fit = lt-ltb (n + 0) (2 ^ k) (omega arith); bits = natural_bits k n h b }

-- a register of three bits
pub high_held : (n : ℕ) → n < 8 → Held 3 (least_of High 3) (pos (n + 24)) n
unfolding fits is_below least_of mod_z
high_held n b =
    record {
      short = omega arith;
      fit = ap (is_below 8) (sub_above (n + 24) 24 (omega arith)) ∙ lt-ltb (n + 24 - 24) 8 (omega arith);
      bits = omega arith;
    }

pub signed_held : (k n : ℕ) → 0 < k → k ≤ 32 → n < 2 ^ k → Held k (least_of Signed k) (signed_of k n) n
unfolding fits is_below least_of
signed_held k n p h b =
    let half = 2 ^ (k - 1) in
    let d : 2 ^ k ≡ half * 2 = double k p in
    record {
      short = h;
      fit =
          signed_either k n (λ (z : ℤ). fits k (neg_ℤ (pos half)) z ≡ true) b
          (λ l. rw (neg_ℤ-neg_ℤ (pos half)) (lt-ltb (n + half) (2 ^ k) (omega arith)))
          (λ l. rw (neg_ℤ-neg_ℤ (pos half)) (ap (is_below (2 ^ k)) (sub_above half (suc (2 ^ k - suc n)) (omega arith)) ∙ lt-ltb (half - suc (2 ^ k - suc n)) (2 ^ k) (omega arith)));
      bits = low_bits k (signed_of k n) h ∙ word_signed k p n b;
    }

-- ---- which numbers fit

-- two tests of naturals are one where each follows from the other
tests_agree : (a b c d : ℕ) → (a < b → c < d) → (c < d → a < b) → ltb a b ≡ ltb c d
tests_agree a b c d f g = same_test (ltb a b) (ltb c d) (λ t. lt→ltb c d (f (ltb→lt a b t))) (λ t. lt→ltb a b (g (ltb→lt c d t)))

pub ranges_are : RangesAre
unfolding fits is_below least_of
ranges_are k n =
    let half = 2 ^ (k - 1) in
    record {
      none = only_zero n;
      natural = ap (λ (m : ℕ). ltb m (2 ^ k)) (add-zero n);
      natural_below = ap (is_below (2 ^ k)) (sub_below 0 (suc n) (omega arith));
      signed = λ p. let d = double k p in rw (neg_ℤ-neg_ℤ (pos half)) (tests_agree (n + half) (2 ^ k) n half (λ h. omega arith) (λ h. omega arith));
      signed_below =
          λ p.
          let d = double k p in
          rw (neg_ℤ-neg_ℤ (pos half))
          (sub_either (λ (z : ℤ). is_below (2 ^ k) z ≡ ltb n half) half (suc n)
          (λ h. sym (le-ltb n half (omega arith)))
          (λ h. lt-ltb (half - suc n) (2 ^ k) (omega arith) ∙ sym (lt-ltb n half (omega arith))));
      high =
          sub_either (λ (z : ℤ). is_below (2 ^ k) z ≡ leb 24 n && ltb n (24 + 2 ^ k)) n 24
          (λ h. rw (lt-leb 24 n h))
          (λ h. rw (le-leb 24 n h) (tests_agree (n - 24) (2 ^ k) n (24 + 2 ^ k) (λ l. omega arith) (λ l. omega arith)));
      high_below = refl;
    }
  where
    only_zero : (n : ℕ) → ltb (n + 0) 1 ≡ eqb n 0
    only_zero zero = refl
    only_zero (suc n) = le-ltb (suc n + 0) 1 (omega arith) ∙ sym (ne_eqb (suc n) 0 (λ e. omega arith))

-- a natural number's fit
pub natural_fits : (k n : ℕ) → fits k (pos 0) (pos n) ≡ ltb n (2 ^ k)
unfolding least_of
natural_fits k n = (ranges_are k n).natural

-- one that fits is read back
pub natural_back : (k n m : ℕ) → k ≤ 32 → fits k (pos 0) (pos n) ≡ true → m ≡ word_of 32 (pos n) % 2 ^ k → m ≡ n
natural_back k n m h f e = e ∙ natural_bits k n h (ltb-true n (2 ^ k) (sym (natural_fits k n) ∙ f))
