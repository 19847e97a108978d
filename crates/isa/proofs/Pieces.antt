-- Numbers written into pieces of a word that share no bit are read back, and kept pieces hold what they held, whatever their places and widths.
-- Assumes nothing.
use mathlib.Core.Path.{◌≡◌, refl, sym, ap, ◌∙◌, subst}
use mathlib.Core.Bool.{Bool, true, false, ◌&&◌, true≢false}
use mathlib.Core.List.{List, [], ◌∷◌, ◌++◌, append-nil}
use Prim.Native.Nat.{ℕ, ◌+◌, ◌-◌, ◌*◌, ◌/◌, ◌%◌, ◌^◌, ◌≤◌, ◌<◌}
use native.Mathlib.Nat.{add-mul-div_right, add-mul-mod_self_right, mod-lt, mod-eq_of_lt, div-lt_iff_lt-mul, mul_assoc, add_comm, zero-div, zero-mod}
use native.Mathlib.Omega.{arith}
use lib.Dec.{leb, ltb, eqb}
use lib.Pow.{pow_pos, pow-add, shr-shr, split, high, low, mod-pow-add, mod-mod-pow, field}
use borrow.Author.Tests.{ltb-true, ltb-false, leb-true, leb-false, le-leb, eqb-true}
use Rattle.word.specs.Word.{Field, field_of, bit_at}
use Rattle.word.proofs.Tests.{either, and_parts, and_both, or_parts}
use Rattle.word.proofs.Bounds.{field_below}
use Rattle.isa.specs.Format.{fields_width, fields_of, placed_in, kept_in, has_bit, lie_below, disjoint, disjoint_from, separate}
use Rattle.isa.proofs.Fields.{fields_below}
use Rattle.isa.proofs.Rows.{is_one, are_among}

-- ---- one piece of n bits at place p: v is put into a word w that has zeros there

module _ (p n v w : ℕ) (empty : w / 2 ^ p % 2 ^ n ≡ 0) (fits : v < 2 ^ n) where
  up : (v * 2 ^ p + w) / 2 ^ p ≡ w / 2 ^ p / 2 ^ n * 2 ^ n + v
  up = ap (λ (u : ℕ). u / 2 ^ p) (add_comm (v * 2 ^ p) w) ∙ add-mul-div_right w v (pow_pos p) ∙ ap (λ (u : ℕ). u + v) (let s = split (w / 2 ^ p) n in omega arith)

  -- it is read back
  same : (v * 2 ^ p + w) / 2 ^ p % 2 ^ n ≡ v
  same = rw up (low (w / 2 ^ p / 2 ^ n) n fits)

  higher : (k : ℕ) → (v * 2 ^ p + w) / 2 ^ (p + (n + k)) ≡ w / 2 ^ (p + (n + k))
  higher k =
      let x = v * 2 ^ p + w in
      let e : x / 2 ^ p / 2 ^ n ≡ w / 2 ^ p / 2 ^ n = rw up (high (w / 2 ^ p / 2 ^ n) n fits) in
      sym (shr-shr x p (n + k)) ∙ sym (shr-shr (x / 2 ^ p) n k) ∙ ap (λ (u : ℕ). u / 2 ^ k) e ∙ shr-shr (w / 2 ^ p) n k ∙ shr-shr w p (n + k)

  -- what lies above is as it was
  above : (q : ℕ) → p + n ≤ q → (v * 2 ^ p + w) / 2 ^ q ≡ w / 2 ^ q
  above q h =
      let e : p + (n + (q - (p + n))) ≡ q = omega arith in
      subst (λ (m : ℕ). (v * 2 ^ p + w) / 2 ^ m ≡ w / 2 ^ m) e (higher (q - (p + n)))

lower : (k q m v w : ℕ) → (v * 2 ^ (k + m + q) + w) / 2 ^ q % 2 ^ m ≡ w / 2 ^ q % 2 ^ m
lower k q m v w =
    let d : v * 2 ^ (k + m + q) ≡ v * 2 ^ k * 2 ^ m * 2 ^ q = rw (pow-add 2 (k + m) q, pow-add 2 k m) (simp mul_assoc) in
    rw (d, add_comm (v * 2 ^ k * 2 ^ m * 2 ^ q) w, add-mul-div_right w (v * 2 ^ k * 2 ^ m) (pow_pos q)) (add-mul-mod_self_right (w / 2 ^ q) (v * 2 ^ k) (2 ^ m))

-- what lies below is as it was
below : (p q m v w : ℕ) → q + m ≤ p → (v * 2 ^ p + w) / 2 ^ q % 2 ^ m ≡ w / 2 ^ q % 2 ^ m
below p q m v w h =
    let e : p - (q + m) + m + q ≡ p = omega arith in
    subst (λ (x : ℕ). (v * 2 ^ x + w) / 2 ^ q % 2 ^ m ≡ w / 2 ^ q % 2 ^ m) e (lower (p - (q + m)) q m v w)

-- ---- tests of pieces

disjoint_either : {C : Type 0} (f g : Field) → disjoint f g ≡ true → (f.place + f.width ≤ g.place → C) → (g.place + g.width ≤ f.place → C) → C
unfolding disjoint
disjoint_either f g t first second =
    either (leb (f.place + f.width) g.place) (λ e. first (leb-true _ _ e)) (λ e. second (leb-true _ _ (rw e at t)))

-- a piece that shares no bit with one that is put is as it was
module _ (f g : Field) (v w : ℕ) (empty : field_of g w ≡ 0) (fits : v < 2 ^ g.width) where
  under : f.place + f.width ≤ g.place → field_of f (v * 2 ^ g.place + w) ≡ field_of f w
  unfolding field_of
  under h = below g.place f.place f.width v w h

  over : g.place + g.width ≤ f.place → field_of f (v * 2 ^ g.place + w) ≡ field_of f w
  unfolding field_of
  over h = ap (λ (u : ℕ). u % 2 ^ f.width) (above g.place g.width v w empty fits f.place h)

-- ---- pieces with what goes into them

abbrev pub Filled : Type 0
Filled = Field × ℕ

unfoldable pub sum_of : List Filled → ℕ
sum_of [] = 0
sum_of (x ∷ xs) = x.1 * 2 ^ x.0.place + sum_of xs

unfoldable pub places : List Filled → List Field
places [] = []
places (x ∷ xs) = x.0 ∷ places xs

unfoldable pub Fit : List Filled → Type 0
Fit [] = Unit {0}
Fit (x ∷ xs) = (x.1 < 2 ^ x.0.width) × Fit xs

unfoldable pub Reads : List Filled → (word : ℕ) → Type 0
Reads [] word = Unit {0}
Reads (x ∷ xs) word = (field_of x.0 word ≡ x.1) × Reads xs word

nothing : (f : Field) → field_of f 0 ≡ 0
unfolding field_of
nothing f = rw (zero-div (2 ^ f.place)) (zero-mod (2 ^ f.width))

-- a piece disjoint from all of them is empty
clear : (f : Field) (xs : List Filled) → disjoint_from f (places xs) ≡ true → separate (places xs) ≡ true → Fit xs → field_of f (sum_of xs) ≡ 0
unfolding sum_of places Fit disjoint_from separate
clear f [] t s h = nothing f
clear f (x ∷ xs) t s h =
    let t' = and_parts _ _ t in
    let s' = and_parts _ _ s in
    let empty = clear x.0 xs s'.0 s'.1 h.1 in
    disjoint_either f x.0 t'.0 (under f x.0 x.1 (sum_of xs) empty h.0) (over f x.0 x.1 (sum_of xs) empty h.0) ∙ clear f xs t'.1 s'.1 h.1

-- those that are disjoint from one that is put are as they were
others : (g : Field) (v w : ℕ) (ys : List Filled) → field_of g w ≡ 0 → v < 2 ^ g.width → disjoint_from g (places ys) ≡ true → Reads ys w
    → Reads ys (v * 2 ^ g.place + w)
unfolding places Reads disjoint_from
others g v w [] e h t r = tt
others g v w (y ∷ ys) e h t r =
    let t' = and_parts _ _ t in
    (disjoint_either g y.0 t'.0 (over y.0 g v w e h) (under y.0 g v w e h) ∙ r.0, others g v w ys e h t'.1 r.1)

-- each is read back
pub all_read : (xs : List Filled) → separate (places xs) ≡ true → Fit xs → Reads xs (sum_of xs)
unfolding sum_of places Fit Reads separate field_of
all_read [] s h = tt
all_read (x ∷ xs) s h =
    let s' = and_parts _ _ s in
    let empty = clear x.0 xs s'.0 s'.1 h.1 in
    (same x.0.place x.0.width x.1 (sum_of xs) empty h.0, others x.0 x.1 (sum_of xs) xs empty h.0 s'.0 (all_read xs s'.1 h.1))

-- the sum lies below bit k where all pieces do
pub none_above : (k : ℕ) (xs : List Filled) → lie_below k (places xs) ≡ true → separate (places xs) ≡ true → Fit xs → sum_of xs / 2 ^ k ≡ 0
unfolding sum_of places Fit lie_below separate field_of
none_above k [] t s h = zero-div (2 ^ k)
none_above k (x ∷ xs) t s h =
    let t' = and_parts _ _ t in
    let s' = and_parts _ _ s in
    above x.0.place x.0.width x.1 (sum_of xs) (clear x.0 xs s'.0 s'.1 h.1) h.0 k (leb-true _ _ t'.0)
    ∙ none_above k xs t'.1 s'.1 h.1

-- ---- a number in pieces, before others

unfoldable pub spread : List Field → (n : ℕ) → List Filled → List Filled
spread [] n xs = xs
spread (f ∷ fs) n xs = (f, n / 2 ^ fields_width fs % 2 ^ f.width) ∷ spread fs n xs

pub spread_places : (fs : List Field) (n : ℕ) (xs : List Filled) → places (spread fs n xs) ≡ fs ++ places xs
unfolding spread places
spread_places [] n xs = refl
spread_places (f ∷ fs) n xs = ap (λ (l : List Field). f ∷ l) (spread_places fs n xs)

pub spread_fits : (fs : List Field) (n : ℕ) (xs : List Filled) → Fit xs → Fit (spread fs n xs)
unfolding spread Fit
spread_fits [] n xs h = h
spread_fits (f ∷ fs) n xs h = (mod-lt (n / 2 ^ fields_width fs) (pow_pos f.width), spread_fits fs n xs h)

pub spread_sum : (fs : List Field) (n : ℕ) (xs : List Filled) → sum_of (spread fs n xs) ≡ placed_in fs n + sum_of xs
unfolding spread sum_of placed_in
spread_sum [] n xs = omega arith
spread_sum (f ∷ fs) n xs = let r = spread_sum fs n xs in omega arith

-- where the pieces are read back, so is the number
pub spread_read : (fs : List Field) (n : ℕ) (xs : List Filled) (word : ℕ) → Reads (spread fs n xs) word
    → (fields_of fs word ≡ n % 2 ^ fields_width fs) × Reads xs word
unfolding spread Reads fields_of fields_width
spread_read [] n xs word r = (omega arith, r)
spread_read (f ∷ fs) n xs word r =
    let rest = spread_read fs n xs word r.1 in
    let e : field_of f word * 2 ^ fields_width fs + fields_of fs word ≡ n / 2 ^ fields_width fs % 2 ^ f.width * 2 ^ fields_width fs + n % 2 ^ fields_width fs = cc (rest.0, r.0) in
    (e ∙ sym (mod-pow-add n f.width (fields_width fs)), rest.1)

-- no quotient is left of a word below 2 ^ k
pub no_quotient : (k word : ℕ) → word / 2 ^ k ≡ 0 → word < 2 ^ k
no_quotient k word e =
    let h : word / 2 ^ k < 1 = omega arith in
    let g = (div-lt_iff_lt-mul (pow_pos k)).0 h in
    omega arith

pub placed_below : (k : ℕ) (fs : List Field) (n : ℕ) → lie_below k fs ≡ true → separate fs ≡ true → placed_in fs n < 2 ^ k
unfolding sum_of places Fit
placed_below k fs n l s =
    let filled = spread fs n [] in
    let pieces : places filled ≡ fs = spread_places fs n [] ∙ append-nil fs in
    let sum = spread_sum fs n [] in
    let e = none_above k filled (ap (lie_below k) pieces ∙ l) (ap separate pieces ∙ s) (spread_fits fs n [] tt) in
    let b = no_quotient k (sum_of filled) e in
    omega arith

-- ---- what pieces hold, put back

-- numbers with the same lowest bits are put alike
placed_more : (fs : List Field) (a b : ℕ) → placed_in fs (a * 2 ^ fields_width fs + b) ≡ placed_in fs b
unfolding placed_in fields_width
placed_more [] a b = refl
placed_more (f ∷ fs) a b =
    let w = fields_width fs in
    let e : a * 2 ^ (f.width + w) + b ≡ a * 2 ^ f.width * 2 ^ w + b = rw (pow-add 2 f.width w) (simp mul_assoc) in
    let q : (a * 2 ^ f.width * 2 ^ w + b) / 2 ^ w ≡ b / 2 ^ w + a * 2 ^ f.width = ap (λ (u : ℕ). u / 2 ^ w) (add_comm (a * 2 ^ f.width * 2 ^ w) b) ∙ add-mul-div_right b (a * 2 ^ f.width) (pow_pos w) in
    let top : (a * 2 ^ (f.width + w) + b) / 2 ^ w % 2 ^ f.width ≡ b / 2 ^ w % 2 ^ f.width = rw (e, q) (add-mul-mod_self_right (b / 2 ^ w) a (2 ^ f.width)) in
    let rest : placed_in fs (a * 2 ^ (f.width + w) + b) ≡ placed_in fs b = rw e (placed_more fs (a * 2 ^ f.width) b) in
    cc (top, rest)

pub placed_low : (fs : List Field) (n : ℕ) → placed_in fs n ≡ placed_in fs (n % 2 ^ fields_width fs)
placed_low fs n = ap (placed_in fs) (sym (split n (fields_width fs))) ∙ placed_more fs (n / 2 ^ fields_width fs) (n % 2 ^ fields_width fs)

pub placed_held : (fs : List Field) (word : ℕ) → placed_in fs (fields_of fs word) ≡ kept_in fs word
unfolding placed_in kept_in fields_of
placed_held [] word = refl
placed_held (f ∷ fs) word =
    let w = fields_width fs in
    let top : (field_of f word * 2 ^ w + fields_of fs word) / 2 ^ w % 2 ^ f.width ≡ field_of f word = rw (high (field_of f word) w (fields_below fs word)) (mod-eq_of_lt (field_below f word)) in
    let rest : placed_in fs (field_of f word * 2 ^ w + fields_of fs word) ≡ kept_in fs word = placed_more fs (field_of f word) (fields_of fs word) ∙ placed_held fs word in
    cc (top, rest)

pub kept_append : (fs gs : List Field) (word : ℕ) → kept_in (fs ++ gs) word ≡ kept_in fs word + kept_in gs word
unfolding kept_in
kept_append [] gs word = omega arith
kept_append (f ∷ fs) gs word = omega (arith, kept_append fs gs word)

-- ---- what is kept

-- what each piece holds in a word
unfoldable held_in : List Field → (word : ℕ) → List Filled
held_in [] word = []
held_in (f ∷ fs) word = (f, field_of f word) ∷ held_in fs word

held_places : (fs : List Field) (word : ℕ) → places (held_in fs word) ≡ fs
unfolding held_in places
held_places [] word = refl
held_places (f ∷ fs) word = ap (λ (l : List Field). f ∷ l) (held_places fs word)

held_fits : (fs : List Field) (word : ℕ) → Fit (held_in fs word)
unfolding held_in Fit
held_fits [] word = tt
held_fits (f ∷ fs) word = (field_below f word, held_fits fs word)

held_sum : (fs : List Field) (word : ℕ) → sum_of (held_in fs word) ≡ kept_in fs word
unfolding held_in sum_of kept_in
held_sum [] word = refl
held_sum (f ∷ fs) word = ap (λ (x : ℕ). field_of f word * 2 ^ f.place + x) (held_sum fs word)

-- a bit of a piece, by its number in the piece
bit_in : (word p k n : ℕ) → p ≤ n → n < p + k → word / 2 ^ n % 2 ≡ word / 2 ^ p % 2 ^ k / 2 ^ (n - p) % 2
bit_in word p k n l h =
    let m = n - p in
    let j = k - m in
    let w = word / 2 ^ p in
    let place : p + m ≡ n = omega arith in
    let size : j + m ≡ k = omega arith in
    let one : j - 1 + 1 ≡ j = omega arith in
    let low_bit : w / 2 ^ m % 2 ^ j % 2 ≡ w / 2 ^ m % 2 = subst (λ (i : ℕ). w / 2 ^ m % 2 ^ i % 2 ≡ w / 2 ^ m % 2) one (mod-mod-pow (w / 2 ^ m) (j - 1) 1) in
    let piece : w % 2 ^ k / 2 ^ m ≡ w / 2 ^ m % 2 ^ j = subst (λ (i : ℕ). w % 2 ^ i / 2 ^ m ≡ w / 2 ^ m % 2 ^ j) size (field w j m) in
    sym (ap (λ (x : ℕ). x % 2) piece ∙ low_bit ∙ ap (λ (x : ℕ). x % 2) (shr-shr word p m) ∙ ap (λ (i : ℕ). word / 2 ^ i % 2) place)

module _ (n word other : ℕ) where
  -- a bit of one of the pieces that two words agree on
  used_bit : (fs : List Field) → has_bit n fs ≡ true → Reads (held_in fs word) other → bit_at n other ≡ bit_at n word
  unfolding has_bit held_in Reads field_of
  used_bit [] e r = absurd (true≢false (sym e))
  used_bit (f ∷ fs) e r =
      either (leb f.place n && ltb n (f.place + f.width))
      (λ t.
      let u = and_parts (leb f.place n) (ltb n (f.place + f.width)) t in
      let l : f.place ≤ n = leb-true _ _ u.0 in
      let h : n < f.place + f.width = ltb-true _ _ u.1 in
      ap (λ (x : ℕ). eqb x 1)
      (bit_in other f.place f.width n l h ∙ ap (λ (x : ℕ). x / 2 ^ (n - f.place) % 2) r.0 ∙ sym (bit_in word f.place f.width n l h)))
      (λ t. used_bit fs (rw t at e) r.1)

-- a bit of none of them
bit_apart : (n : ℕ) (fs : List Field) → has_bit n fs ≡ false → disjoint_from (record { place = n; width = 1 }) fs ≡ true
unfolding has_bit disjoint_from disjoint
bit_apart n [] e = refl
bit_apart n (f ∷ fs) e =
    let t = or_parts (leb f.place n && ltb n (f.place + f.width)) (has_bit n fs) e in
    and_both (disjoint (record { place = n; width = 1 }) f) (disjoint_from (record { place = n; width = 1 }) fs)
    (either (leb (n + 1) f.place)
    (λ a. rw a)
    (λ a.
    let b : f.place ≤ n = omega (arith, leb-false (n + 1) f.place a) in
    let c : ltb n (f.place + f.width) ≡ false = sym (ap (λ (x : Bool). x && ltb n (f.place + f.width)) (le-leb f.place n b)) ∙ t.0 in
    rw a (le-leb (f.place + f.width) n (ltb-false n (f.place + f.width) c))))
    (bit_apart n fs t.1)

-- the pieces hold what they held
kept_read : (fs : List Field) (word : ℕ) → separate fs ≡ true → Reads (held_in fs word) (kept_in fs word)
kept_read fs word s = subst (Reads (held_in fs word)) (held_sum fs word) (all_read (held_in fs word) (ap separate (held_places fs word) ∙ s) (held_fits fs word))

pub kept_bit : (fs : List Field) (word n : ℕ) → separate fs ≡ true → bit_at n (kept_in fs word) ≡ has_bit n fs && bit_at n word
unfolding field_of
kept_bit fs word n s =
    let held = held_in fs word in
    let apart : separate (places held) ≡ true = ap separate (held_places fs word) ∙ s in
    either (has_bit n fs)
    (λ t. rw t (used_bit n word (kept_in fs word) fs t (kept_read fs word s)))
    (λ t.
    let none = clear (record { place = n; width = 1 }) held (ap (disjoint_from (record { place = n; width = 1 })) (held_places fs word) ∙ bit_apart n fs t) apart (held_fits fs word) in
    rw t (ap (λ (x : ℕ). eqb x 1) (ap (λ (w : ℕ). w / 2 ^ n % 2) (sym (held_sum fs word)) ∙ none)))

-- what a kept piece holds
kept_piece : (f : Field) (fs : List Field) (word other : ℕ) → is_one f fs ≡ true → Reads (held_in fs word) other → field_of f other ≡ field_of f word
unfolding is_one held_in Reads
kept_piece f [] word other e r = absurd (true≢false (sym e))
kept_piece f (g ∷ gs) word other e r =
    either (eqb f.place g.place && eqb f.width g.width)
    (λ t.
    let u = and_parts (eqb f.place g.place) (eqb f.width g.width) t in
    let place : f.place ≡ g.place = eqb-true f.place g.place u.0 in
    let width : f.width ≡ g.width = eqb-true f.width g.width u.1 in
    let same : f ≡ g = λ i. record { place = place i; width = width i } in
    ap (λ (h : Field). field_of h other) same ∙ r.0 ∙ ap (λ (h : Field). field_of h word) (sym same))
    (λ t. kept_piece f gs word other (rw t at e) r.1)

-- pieces that are among those kept hold what they held
pub kept_fields : (gs fs : List Field) (word : ℕ) → separate fs ≡ true → are_among gs fs ≡ true → fields_of gs (kept_in fs word) ≡ fields_of gs word
unfolding fields_of are_among
kept_fields [] fs word s e = refl
kept_fields (g ∷ gs) fs word s e =
    let t = and_parts (is_one g fs) (are_among gs fs) e in
    let first = kept_piece g fs word (kept_in fs word) t.0 (kept_read fs word s) in
    let rest = kept_fields gs fs word s t.1 in
    cc (first, rest)
