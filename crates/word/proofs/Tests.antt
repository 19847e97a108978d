-- Cases of a test, tests joined, and choices by a test. Assumes nothing.
use Rattle.std.proofs.Common.{◌≡◌, ℕ, ◌≤◌, Bool, true, false, ◌&&◌, ◌||◌, T, leb, sym, refl, true≢false, arith, leb-true}
use mir.Val.{bool_byte}
use Rattle.word.specs.Choice.{choose◌then◌else◌}

-- by cases of a test
pub either : {A : Type 0} (b : Bool) → (b ≡ true → A) → (b ≡ false → A) → A
either true f g = f refl
either false f g = g refl

pub and_parts : (a b : Bool) → a && b ≡ true → (a ≡ true) × (b ≡ true)
and_parts true b e = (refl, e)
and_parts false b e = absurd (true≢false (sym e))

-- a number between two bounds
pub both_bounds : (low n high : ℕ) → leb low n && leb n high ≡ true → (low ≤ n) × (n ≤ high)
both_bounds low n high e = let t = and_parts (leb low n) (leb n high) e in (leb-true low n t.0, leb-true n high t.1)

pub and_both : (a b : Bool) → a ≡ true → b ≡ true → a && b ≡ true
and_both a b p q = rw (p, q)

pub or_parts : (a b : Bool) → a || b ≡ false → (a ≡ false) × (b ≡ false)
or_parts true b e = absurd (true≢false e)
or_parts false b e = (refl, e)

-- a test that is not true is false
pub false_unless : (b : Bool) → (b ≡ true → ⊥) → b ≡ false
false_unless true h = absurd (h refl)
false_unless false h = refl

-- a bool as a number
pub bool_small : (b : Bool) → bool_byte b ≤ 1
bool_small true = omega arith
bool_small false = omega arith

module _ {A : Type 0} where
  pub if_true : (b : Bool) (x y : A) → b ≡ true → choose◌then◌else◌ b x y ≡ x
  unfolding choose◌then◌else◌
  if_true b x y e = rw e

  pub if_false : (b : Bool) (x y : A) → b ≡ false → choose◌then◌else◌ b x y ≡ y
  unfolding choose◌then◌else◌
  if_false b x y e = rw e

  -- what stands for a false test matters only then
  pub if_else : (b : Bool) (x y z : A) → (b ≡ false → y ≡ z) → choose◌then◌else◌ b x y ≡ choose◌then◌else◌ b x z
  unfolding choose◌then◌else◌
  if_else true x y z f = refl
  if_else false x y z f = f refl

-- what holds of both branches where they are taken holds of a choice
pub if_holds : {A : Type 0} (P : A → Type 0) (b : Bool) {x y : A} → (b ≡ true → P x) → (b ≡ false → P y) → P (choose◌then◌else◌ b x y)
unfolding choose◌then◌else◌
if_holds P true f g = f refl
if_holds P false f g = g refl

-- two tests are one where each follows from the other
pub same_test : (s t : Bool) → (T s → T t) → (T t → T s) → s ≡ t
same_test true true f g = refl
same_test true false f g = absurd (f tt)
same_test false true f g = absurd (g tt)
same_test false false f g = refl
