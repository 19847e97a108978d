-- The questions' tests, as facts. Assumes nothing.
use mathlib.Core.Path.{◌≡◌, refl, sym, ap}
use mathlib.Core.Bool.{Bool, true, false, true≢false, ◌&&◌}
use mathlib.Core.List.{List, [], ◌∷◌}
use Prim.Native.Nat.{ℕ, zero, suc, ◌<◌, ◌^◌}
use native.Mathlib.Numerals.{add-one}
use native.Mathlib.Omega.{arith}
use lib.Dec.{ltb}
use lib.ListN.{get_or}
use borrow.Author.Tests.{ltb-true, lt-ltb}
use Rattle.codec.proofs.Laws.{Below}
use Rattle.word.proofs.Tests.{and_parts, and_both}
use mir.Val.{Fits}
use mir.Syntax.{w32}
use Rattle.std.specs.List.{list_all, enumerate_from}
use Rattle.machine.specs.Control.{register_at, can_hold}
use Rattle.machine.specs.Questions.{implies, all, all_below, all_held}

pub implies_true : (a b : Bool) → (a ≡ true → b ≡ true) → implies a b ≡ true
unfolding implies
implies_true true b f = f refl
implies_true false b f = refl

pub true_implies : (a b : Bool) → implies a b ≡ true → a ≡ true → b ≡ true
unfolding implies
true_implies true b h e = h
true_implies false b h e = absurd (true≢false (sym e))

-- each of a list of tests is passed
infixr 40 ◌also◌
pub data Passed : List Bool → Type 0 where
  no_more : Passed []
  ◌also◌ : {b : Bool} {bs : List Bool} → b ≡ true → Passed bs → Passed (b ∷ bs)

pub all_passed : (bs : List Bool) → all bs ≡ true → Passed bs
unfolding all
all_passed [] e = no_more
all_passed (b ∷ bs) e = let h = and_parts b (all bs) e in h.0 also all_passed bs h.1

pub passed_all : {bs : List Bool} → Passed bs → all bs ≡ true
unfolding all
passed_all no_more = refl
passed_all (◌also◌ {b = b} {bs = bs} e h) = and_both b (all bs) e (passed_all h)

pub below_true : (top : ℕ) (l : List ℕ) → Below top l → all_below top l ≡ true
unfolding all_below
below_true top [] h = refl
below_true top (x ∷ l) h = and_both (ltb x top) (all_below top l) (lt-ltb x top (h 0)) (below_true top l (λ i. h (suc i)))

pub all_words : (l : List ℕ) → ((i : ℕ) → Fits w32 (get_or l i 0)) → all_below (2 ^ 32) l ≡ true
all_words l h = below_true (2 ^ 32) l (λ i. omega (arith, h i))

pub true_below : (top : ℕ) (l : List ℕ) → 0 < top → all_below top l ≡ true → Below top l
unfolding all_below
true_below top [] p h i = p
true_below top (x ∷ l) p h zero = ltb-true x top (and_parts (ltb x top) (all_below top l) h).0
true_below top (x ∷ l) p h (suc i) = true_below top l p (and_parts (ltb x top) (all_below top l) h).1 i

-- ---- all numbers of a list

pub below_listed : (top : ℕ) (l : List ℕ) → list_all (λ x. ltb x top) l ≡ all_below top l
unfolding all_below
below_listed top [] = refl
below_listed top (x ∷ l) = ap (λ (b : Bool). ltb x top && b) (below_listed top l)

-- a number, behind its place, is one that the control register there can hold
abbrev pub held : ℕ × ℕ → Bool
held p = can_hold (register_at p.0) p.1

pub held_listed : (i : ℕ) (l : List ℕ) → list_all held (enumerate_from i l) ≡ all_held i l
unfolding all_held
held_listed i [] = refl
held_listed i (x ∷ l) = rw (add-one i) (ap (λ (b : Bool). held (i, x) && b) (held_listed (suc i) l))
