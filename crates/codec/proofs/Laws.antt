-- The laws of numbers as bytes. Assumes nothing.
use Rattle.std.proofs.Common.{◌≡◌, ℕ, zero, suc, ◌+◌, ◌*◌, ◌/◌, ◌%◌, ◌^◌, ◌≤◌, ◌<◌, List, [], ◌∷◌, ◌++◌, length, take, drop, get_or, set, refl, sym, ap, ◌∙◌, append_assoc, zero-add, add-one, arith, length-append, length-take, length-drop, length-take-le, drop-drop, take-suc, ext_get_or, shr-shr}
use Rattle.std.proofs.lemmas.List.Edits.{sets-eq}
use Rattle.std.proofs.Math.Seq.{take-append_seam, take-append-add, drop-append-add, paste-zero}
use Rattle.std.proofs.Math.Numerals.{unary_clauses}
use borrow.Rule.Slice.PartMut.{put_mid}
use Rattle.codec.specs.Number.{number_of, number_at, bytes_of_number, numbers_of, bytes_of, put_at, over}

-- every element of a list is below a bound
abbrev pub Below : (k : ℕ) (s : List ℕ) → Type 0
Below k s = (i : ℕ) → get_or s i 0 < k

-- ---- one number

-- a number is the one that its bytes stand for
pub number_at_bytes_of_number : (n : ℕ) → n < 2 ^ 32 → number_at (bytes_of_number n) 0 ≡ n
number_at_bytes_of_number n h =
    let e1 : n / 256 / 256 ≡ n / 65536 = shr-shr n 8 8 in
    let e2 : n / 65536 / 256 ≡ n / 16777216 = shr-shr n 16 8 in
    let s0 : n / 256 * 256 + n % 256 ≡ n = omega arith in
    let s1 : n / 65536 * 256 + n / 256 % 256 ≡ n / 256 = omega arith in
    let s2 : n / 16777216 * 256 + n / 65536 % 256 ≡ n / 65536 = omega arith in
    let s3 : n / 16777216 % 256 ≡ n / 16777216 = omega arith in
    rw (s3, s2, s1, s0)

-- bytes are those of the number that they stand for
pub bytes_of_number_number_of : (a b c d : ℕ) → a < 256 → b < 256 → c < 256 → d < 256
    → bytes_of_number (number_of a b c d) ≡ a ∷ b ∷ c ∷ d ∷ []
bytes_of_number_number_of a b c d ha hb hc hd =
    let e1 : number_of a b c d / 16777216 % 256 ≡ a = omega arith in
    let e2 : number_of a b c d / 65536 % 256 ≡ b = omega arith in
    let e3 : number_of a b c d / 256 % 256 ≡ c = omega arith in
    let e4 : number_of a b c d % 256 ≡ d = omega arith in
    cc

-- ---- many numbers

-- reading undoes writing, of 32-bit numbers
pub numbers_of_bytes_of : (ns : List ℕ) → Below (2 ^ 32) ns → numbers_of (bytes_of ns) ≡ ns
unfolding numbers_of bytes_of
numbers_of_bytes_of [] h = refl
numbers_of_bytes_of (n ∷ ns) h = cc (number_at_bytes_of_number n (h 0), numbers_of_bytes_of ns (λ i. h (suc i)))

-- writing undoes reading, of bytes whose count is in fours
pub bytes_of_numbers_of : (s : List ℕ) → length s % 4 ≡ 0 → Below 256 s → bytes_of (numbers_of s) ≡ s
unfolding numbers_of bytes_of
bytes_of_numbers_of [] e h = refl
bytes_of_numbers_of (a ∷ []) e h = absurd (omega arith)
bytes_of_numbers_of (a ∷ b ∷ []) e h = absurd (omega arith)
bytes_of_numbers_of (a ∷ b ∷ c ∷ []) e h = absurd (omega arith)
bytes_of_numbers_of (a ∷ b ∷ c ∷ d ∷ s) e h =
    let q = bytes_of_number_number_of a b c d (h 0) (h 1) (h 2) (h 3) in
    let r = bytes_of_numbers_of s (omega arith) (λ i. h (suc (suc (suc (suc i))))) in
    cc

-- four bytes to a number
pub length_bytes_of : (ns : List ℕ) → length (bytes_of ns) ≡ 4 * length ns
unfolding bytes_of
length_bytes_of [] = refl
length_bytes_of (n ∷ ns) = omega (arith, length_bytes_of ns)

pub length_numbers_of : (s : List ℕ) → length (numbers_of s) ≡ length s / 4
unfolding numbers_of
length_numbers_of [] = refl
length_numbers_of (a ∷ []) = refl
length_numbers_of (a ∷ b ∷ []) = refl
length_numbers_of (a ∷ b ∷ c ∷ []) = refl
length_numbers_of (a ∷ b ∷ c ∷ d ∷ s) = omega (arith, length_numbers_of s)

-- a number of the list is the one in its four bytes
pub get_d_numbers_of : (s : List ℕ) (i : ℕ) → 4 * i + 4 ≤ length s → get_or (numbers_of s) i 0 ≡ number_at s (4 * i)
unfolding numbers_of
get_d_numbers_of [] i h = absurd (omega arith)
get_d_numbers_of (a ∷ []) i h = absurd (omega arith)
get_d_numbers_of (a ∷ b ∷ []) i h = absurd (omega arith)
get_d_numbers_of (a ∷ b ∷ c ∷ []) i h = absurd (omega arith)
get_d_numbers_of (a ∷ b ∷ c ∷ d ∷ s) zero h = refl
get_d_numbers_of (a ∷ b ∷ c ∷ d ∷ s) (suc i) h =
    let r = get_d_numbers_of s i (omega arith) in
    let e : 4 * suc i ≡ suc (suc (suc (suc (4 * i)))) = omega arith in
    rw e (simp unary_clauses (simp unary_clauses at r))

-- the bytes of numbers are bytes
pub bytes_of_lt : (ns : List ℕ) → Below 256 (bytes_of ns)
unfolding bytes_of
bytes_of_lt [] i = omega arith
bytes_of_lt (n ∷ ns) zero = omega arith
bytes_of_lt (n ∷ ns) (suc zero) = omega arith
bytes_of_lt (n ∷ ns) (suc (suc zero)) = omega arith
bytes_of_lt (n ∷ ns) (suc (suc (suc zero))) = omega arith
bytes_of_lt (n ∷ ns) (suc (suc (suc (suc i)))) = bytes_of_lt ns i

-- lists one after the other
pub bytes_of_append : (ms ns : List ℕ) → bytes_of (ms ++ ns) ≡ bytes_of ms ++ bytes_of ns
unfolding bytes_of
bytes_of_append [] ns = refl
bytes_of_append (m ∷ ms) ns = ap (λ (t : List ℕ). bytes_of_number m ++ t) (bytes_of_append ms ns)

pub numbers_of_append : (s t : List ℕ) → length s % 4 ≡ 0 → numbers_of (s ++ t) ≡ numbers_of s ++ numbers_of t
unfolding numbers_of
numbers_of_append [] t e = refl
numbers_of_append (a ∷ []) t e = absurd (omega arith)
numbers_of_append (a ∷ b ∷ []) t e = absurd (omega arith)
numbers_of_append (a ∷ b ∷ c ∷ []) t e = absurd (omega arith)
numbers_of_append (a ∷ b ∷ c ∷ d ∷ s) t e = ap (λ (ns : List ℕ). number_of a b c d ∷ ns) (numbers_of_append s t (omega arith))

-- ---- lent memory

-- the front is what was laid over it
pub take_over : (front s : List ℕ) → take (length front) (over front s) ≡ front
take_over front s = take-append_seam front (drop (length front) s)

-- the length stays
pub length_over : (front s : List ℕ) → length front ≤ length s → length (over front s) ≡ length s
length_over front s h = simp (length-append, length-drop) (omega arith)

-- the store of an element
pub set_put_at : (s : List ℕ) (at a : ℕ) → at < length s → set s at a ≡ put_at s at (a ∷ [])
set_put_at s at a h = sets-eq (a ∷ []) s at (omega arith)

-- what is put just after a front lengthens it
pub put_at_over : (front s t : List ℕ) (at : ℕ) → length front ≡ at → put_at (over front s) at t ≡ over (front ++ t) s
put_at_over front s t at e =
    ap (λ (k : ℕ). put_at (over front s) k t) (sym e)
    ∙ ap (λ (u : List ℕ). u ++ t ++ drop (length front + length t) (over front s)) (take_over front s)
    ∙ ap (λ (u : List ℕ). front ++ t ++ u) (drop-append-add front (drop (length front) s) (length t) ∙ drop-drop (length t) (length front) s)
    ∙ rw length-append

-- to put nothing changes nothing
pub put_at_nothing : (s : List ℕ) (at : ℕ) → put_at s at [] ≡ s
put_at_nothing s at = sym (paste-zero s at [])

-- the length stays
pub length_put_at : (s : List ℕ) (at : ℕ) (t : List ℕ) → at + length t ≤ length s → length (put_at s at t) ≡ length s
length_put_at s at t h = simp (length-append, length-take, length-drop) (omega arith)

-- two lists one after the other are put as one
pub put_at_append : (s : List ℕ) (at : ℕ) (t u : List ℕ) → at ≤ length s → put_at (put_at s at t) (at + length t) u ≡ put_at s at (t ++ u)
put_at_append s at t u h =
    ap (λ (l : List ℕ). put_at l (at + length t) u) (laid t)
    ∙ put_at_over (take at s ++ t) s u (at + length t) (front t)
    ∙ ap (λ (l : List ℕ). over l s) (append_assoc (take at s) t u)
    ∙ sym (laid (t ++ u))
  where
    front : (t : List ℕ) → length (take at s ++ t) ≡ at + length t
    front t = length-append (take at s) t ∙ ap (λ (k : ℕ). k + length t) (length-take-le at s h)

    -- as a front laid over
    laid : (t : List ℕ) → put_at s at t ≡ over (take at s ++ t) s
    laid t = ap (λ (k : ℕ). (take at s ++ t) ++ drop k s) (sym (front t))

-- past a front
pub put_at_skip : (front s t : List ℕ) (at k : ℕ) → length front + at ≡ k → put_at (front ++ s) k t ≡ front ++ put_at s at t
put_at_skip front s t at k e =
    let d : length front + at + length t ≡ length front + (at + length t) = omega arith in
    ap (λ (k : ℕ). put_at (front ++ s) k t) (sym e)
    ∙ ap (λ (l : List ℕ). l ++ t ++ drop (length front + at + length t) (front ++ s)) (take-append-add front s at)
    ∙ ap (λ (l : List ℕ). (front ++ take at s) ++ t ++ l) (ap (λ (k : ℕ). drop k (front ++ s)) d ∙ drop-append-add front s (at + length t))
    ∙ simp append_assoc

-- at the front, it is laid over
pub put_over : (t s : List ℕ) → put_at s 0 t ≡ over t s
put_over t s = ap (λ (k : ℕ). t ++ drop k s) (zero-add (length t))

-- a part that was lent on
pub part_put : (xs ys : List ℕ) (a k : ℕ) → length ys ≡ k → put_mid a k xs ys ≡ put_at xs a ys
part_put xs ys a k e =
    sym (append_assoc (take a xs) ys (drop k (drop a xs))) ∙ ap (λ (s : List ℕ). (take a xs ++ ys) ++ s) (drop-drop k a xs ∙ ap (λ (k : ℕ). drop (a + k) xs) (sym e))

-- ---- one turn of a loop

-- numbers that are each the one in its four bytes are the bytes' numbers
pub read_all : (s ns : List ℕ) → length ns ≡ length s / 4 → ((k : ℕ) → k < length ns → get_or ns k 0 ≡ number_at s (4 * k)) → ns ≡ numbers_of s
read_all s ns e f = ext_get_or 0 ns (numbers_of s) (e ∙ sym (length_numbers_of s)) (λ k h. f k h ∙ sym (get_d_numbers_of s k (omega arith)))

-- one number more is written
pub write_more : (ns t : List ℕ) (i : ℕ) → i < length ns
    → put_at (over (bytes_of (take i ns)) t) (4 * i) (bytes_of_number (get_or ns i 0)) ≡ over (bytes_of (take (i + 1) ns)) t
unfolding bytes_of
write_more ns t i h =
    let e : length (bytes_of (take i ns)) ≡ 4 * i = length_bytes_of (take i ns) ∙ simp length-take (omega arith) in
    rw (add-one i, take-suc ns i 0 h, bytes_of_append) (put_at_over (bytes_of (take i ns)) t (bytes_of_number (get_or ns i 0)) (4 * i) e)
