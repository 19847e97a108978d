-- Lists with one element replaced. Assumes nothing.
use mathlib.Core.Path.{◌≡◌, refl, sym, ap, ◌∙◌}
use mathlib.Core.Logic.{◌≢◌}
use mathlib.Core.Bool.{Bool, true, false}
use mathlib.Core.List.{List, [], ◌∷◌}
use mathlib.Core.Option.{Option, none, some}
use Prim.Native.Nat.{ℕ, zero, suc, ◌<◌}
use native.Mathlib.Omega.{arith}
use native.Mathlib.Nat.{not-suc-le-zero, le_of_suc-le-suc}
use lib.ListN.{length, get_or, set, get_elem?}
use lib.Seq.{get_or-set_same, get_or-set_other}
use lib.Dec.{ltb, eqb, eqb-zero-suc, eqb-suc-zero, eqb-suc-suc}
use borrow.Author.Tests.{ltb-true, eqb-false, ne_eqb}

-- what stands at a place, with side conditions that compute at numerals
pub get_same : (l : List ℕ) (i x : ℕ) → ltb i (length l) ≡ true → get_or (set l i x) i 0 ≡ x
get_same l i x h = get_or-set_same l i x 0 (ltb-true i (length l) h)

pub get_other : (l : List ℕ) (i j x : ℕ) → eqb j i ≡ false → get_or (set l i x) j 0 ≡ get_or l j 0
get_other l i j x h = get_or-set_other l i j x 0 (eqb-false j i h)

-- a place set twice, and two places in their order
pub set_again : (l : List ℕ) (i x y : ℕ) → set (set l i x) i y ≡ set l i y
set_again [] i x y = refl
set_again (z ∷ l) zero x y = refl
set_again (z ∷ l) (suc i) x y = ap (λ k. z ∷ k) (set_again l i x y)

pub set_ordered : (l : List ℕ) (i j x y : ℕ) → ltb j i ≡ true → set (set l i x) j y ≡ set (set l j y) i x
set_ordered l i j x y h = go l i j (ltb-true j i h)
  where
    go : (l : List ℕ) (i j : ℕ) → j < i → set (set l i x) j y ≡ set (set l j y) i x
    go [] i j h = refl
    go (z ∷ l) zero j h = absurd (not-suc-le-zero h)
    go (z ∷ l) (suc i) zero h = refl
    go (z ∷ l) (suc i) (suc j) h = ap (λ k. z ∷ k) (go l i j (le_of_suc-le-suc h))

-- what holds of each number by its place still does
pub each_set : (P : ℕ → ℕ → Type 0) (l : List ℕ) (i x : ℕ) → ((j : ℕ) → P j (get_or l j 0)) → P i x → (j : ℕ) → P j (get_or (set l i x) j 0)
each_set P [] i x h b j = h j
each_set P (y ∷ l) zero x h b zero = b
each_set P (y ∷ l) zero x h b (suc j) = h (suc j)
each_set P (y ∷ l) (suc i) x h b zero = h zero
each_set P (y ∷ l) (suc i) x h b (suc j) = each_set (λ n. P (suc n)) l i x (λ n. h (suc n)) b j

-- a list of two, and one with both replaced
pub pair : (l : List ℕ) → length l ≡ 2 → l ≡ get_or l 0 0 ∷ get_or l 1 0 ∷ []
pair [] e = absurd (omega arith)
pair (a ∷ []) e = absurd (omega arith)
pair (a ∷ b ∷ []) e = refl
pair (a ∷ b ∷ c ∷ l) e = absurd (omega arith)

pub pair_set : (l : List ℕ) (a b : ℕ) → length l ≡ 2 → set (set l 0 a) 1 b ≡ a ∷ b ∷ []
pair_set l a b e = rw (pair l e)

module _ {A : Type 0} where
  -- what stands at a place, if anything does, replaced where the test passes
  replaced : Bool → A → Option A → Option A
  replaced true a none = none
  replaced true a (some x) = some a
  replaced false a o = o

  replaced_none : (b : Bool) (a : A) → none ≡ replaced b a none
  unfolding replaced
  replaced_none true a = refl
  replaced_none false a = refl

  at_set : (l : List A) (i j : ℕ) (a : A) → get_elem? (set l i a) j ≡ replaced (eqb i j) a (get_elem? l j)
  unfolding replaced
  at_set [] i j a = replaced_none (eqb i j) a
  at_set (x ∷ l) zero zero a = refl
  at_set (x ∷ l) zero (suc j) a = rw eqb-zero-suc
  at_set (x ∷ l) (suc i) zero a = rw eqb-suc-zero
  at_set (x ∷ l) (suc i) (suc j) a = rw eqb-suc-suc (at_set l i j a)

  -- the other places stay
  pub at_set_other : (l : List A) (i j : ℕ) (a : A) → j ≢ i → get_elem? (set l i a) j ≡ get_elem? l j
  unfolding replaced
  at_set_other l i j a h = at_set l i j a ∙ rw (ne_eqb i j (λ e. h (sym e)))

  -- the same change to two lists that agree at a place
  pub at_set_same : (l k : List A) (i j : ℕ) (a : A) → get_elem? l j ≡ get_elem? k j → get_elem? (set l i a) j ≡ get_elem? (set k i a) j
  at_set_same l k i j a e = at_set l i j a ∙ ap (replaced (eqb i j) a) e ∙ sym (at_set k i j a)

  -- a default for what may be absent
  or_else : Option A → A → A
  or_else none d = d
  or_else (some x) d = x

  get_d_or_else : (l : List A) (n : ℕ) (d : A) → get_or l n d ≡ or_else (get_elem? l n) d
  unfolding or_else
  get_d_or_else [] n d = refl
  get_d_or_else (x ∷ l) zero d = refl
  get_d_or_else (x ∷ l) (suc n) d = get_d_or_else l n d

  pub same_get_d : (l k : List A) (n : ℕ) (d : A) → get_elem? l n ≡ get_elem? k n → get_or l n d ≡ get_or k n d
  same_get_d l k n d e = get_d_or_else l n d ∙ ap (λ o. or_else o d) e ∙ sym (get_d_or_else k n d)
