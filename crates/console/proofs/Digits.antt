-- Laws of numbers as text. Assumes nothing.
use mathlib.Core.Path.{◌≡◌, refl, sym, ap, ◌∙◌}
use mathlib.Core.List.{List, [], ◌∷◌, ◌++◌, append_assoc}
use Prim.Native.Nat.{ℕ, zero, suc, ◌+◌, ◌-◌, ◌*◌, ◌/◌, ◌%◌, ◌^◌, ◌≤◌, ◌<◌}
use native.Mathlib.Nat.{pow-suc}
use native.Mathlib.Omega.{arith}
use lib.ListN.{length, take, drop, set, length-append}
use lib.Seq.{take-set-le, set_split, drop_at, length-take-le, append_snoc, paste-zero}
use Rattle.codec.specs.Number.{put_at}
use Rattle.std.specs.Prelude.{decimal as std_decimal}
use Rattle.std.proofs.lemmas.Fmt.{decimal_digit, decimal_step}
use Rattle.std.proofs.lemmas.Bool.{cases_lt}
use Rattle.std.proofs.Common.{rules, inl, inr}
use Rattle.console.specs.Digits.{digit_of, digits_of, places_from, places_of, decimal}

-- ---- digits

-- as many as asked for
pub length_digits_of : (base count n : ℕ) → length (digits_of base count n) ≡ count
unfolding digits_of
length_digits_of base zero n = refl
length_digits_of base (suc count) n = length-append (digits_of base count (n / base)) _ ∙ omega (arith, length_digits_of base count (n / base))

-- from a place on, after a store there
drop_set : (l : List ℕ) (i a : ℕ) → i < length l → drop i (set l i a) ≡ a ∷ drop (suc i) l
drop_set l i a h = rw (set_split l i a h) (drop_at (take i l) (a ∷ drop (suc i) l) i (length-take-le i l (omega arith)))

-- a text and a character after it: the character may be stored first
pub put_at_last : (l : List ℕ) (at : ℕ) (s : List ℕ) (a k : ℕ) → length s ≡ k → at + k < length l
    → put_at (set l (at + k) a) at s ≡ put_at l at (s ++ a ∷ [])
put_at_last l at s a k e h =
    let rest = drop (suc (at + k)) l in
    let n : at + length (s ++ a ∷ []) ≡ suc (at + k) = omega (arith, length-append s (a ∷ [])) in
    rw (n, e, take-set-le at l (at + k) a (omega arith), drop_set l (at + k) a h)
    (sym (append_snoc (take at l ++ s) a rest) ∙ ap (λ (x : List ℕ). x ++ rest) (append_assoc (take at l) s (a ∷ [])))

-- no digits change nothing
pub digits_done : (l : List ℕ) (at base i rest : ℕ) → i ≤ 0 → l ≡ put_at l at (digits_of base i rest)
unfolding digits_of
digits_done l at base zero rest h = paste-zero l at []
digits_done l at base (suc i) rest h = absurd (omega arith)

-- one digit more is written
pub digit_more : (l : List ℕ) (at base i rest : ℕ) → 0 < i → at + (i - 1) < length l
    → put_at (set l (at + (i - 1)) (digit_of (rest % base))) at (digits_of base (i - 1) (rest / base)) ≡ put_at l at (digits_of base i rest)
unfolding digits_of
digit_more l at base zero rest p h = absurd (omega arith)
digit_more l at base (suc i) rest p h = let e : suc i - 1 ≡ i = omega arith in rw e (put_at_last l at (digits_of base i (rest / base)) (digit_of (rest % base)) i (length_digits_of base i (rest / base)) (omega arith))

-- ---- places

-- a tenth has one digit fewer
tenth : (n k : ℕ) → n < 10 ^ suc k → n / 10 < 10 ^ k
tenth n k h = let e : n < 10 ^ k * 10 = rw pow-suc at h in omega arith

-- one place below ten, whatever there may be besides
places_first : (more n : ℕ) → n < 10 → places_from more n ≡ 1
unfolding places_from
places_first zero n h = refl
places_first (suc more) n h = search rules

-- else one more than the tenth has
places_next : (more n : ℕ) → 10 ≤ n → places_from (suc more) n ≡ suc (places_from more (n / 10))
unfolding places_from
places_next more n h = search rules

-- no more places than a power of ten above the number has
pub places_le : (more k n : ℕ) → n < 10 ^ suc k → places_from more n ≤ suc k
unfolding places_from
places_le zero k n h = omega arith
places_le (suc more) zero n h = search rules
places_le (suc more) (suc k) n h = search (rules, places_le more k (n / 10) (tenth n (suc k) h))

-- a larger number has no fewer
pub places_mono : (more m n : ℕ) → m ≤ n → places_from more m ≤ places_from more n
unfolding places_from
places_mono zero m n h = omega arith
places_mono (suc more) m n h = search (rules, places_mono more (m / 10) (n / 10) (omega arith))

-- ---- a number in decimal is what std prints

-- its digits are those of its tenth, and one more
written_next : (more n : ℕ) → 10 ≤ n → digits_of 10 (places_from (suc more) n) n ≡ digits_of 10 (places_from more (n / 10)) (n / 10) ++ ((48 + n % 10) ∷ [])
unfolding digits_of digit_of places_from
written_next more n h = search rules

-- below ten it is its digit
written_first : (more n : ℕ) → n < 10 → digits_of 10 (places_from more n) n ≡ (48 + n) ∷ []
unfolding digits_of digit_of places_from
written_first more n h = search (rules, places_first more n h)

-- a number with at most so many digits besides the first
written : (more n : ℕ) → n < 10 ^ suc more → n < 2 ^ 64 → digits_of 10 (places_from more n) n ≡ std_decimal n
written zero n h k = search (rules, written_first 0 n h, decimal_digit n h)
written (suc more) n h k = elim (cases_lt n 10) [ inl b ↦ search (rules, written_first (suc more) n b, decimal_digit n b) | inr b ↦ search (rules, written_next more n b, decimal_step n b k, written more (n / 10) (tenth n (suc more) h)) ]

pub decimal_std : (n : ℕ) → n < 2 ^ 32 → decimal n ≡ std_decimal n
decimal_std n h = written 9 n (omega arith) (omega arith)

pub places_std : (n : ℕ) → n < 2 ^ 32 → length (std_decimal n) ≡ places_of n
places_std n h = ap length (sym (decimal_std n h)) ∙ length_digits_of 10 (places_of n) n
