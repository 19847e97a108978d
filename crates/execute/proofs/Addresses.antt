-- What a data address names: a cell that is there, or a register of the control block; in user mode neither is protected. Assumes nothing.
use mathlib.Core.Path.{◌≡◌, sym, ap, ◌∙◌}
use mathlib.Core.Bool.{Bool, true, false, true≢false, not, ◌&&◌}
use mathlib.Core.List.{List}
use Prim.Native.Nat.{ℕ, ◌+◌, ◌-◌, ◌^◌, ◌≤◌, ◌<◌}
use native.Mathlib.Omega.{arith}
use lib.Dec.{ltb}
use lib.IntN.{ℤ}
use lib.ListN.{length}
use borrow.Author.Tests.{ltb-true}
use Rattle.word.specs.Word.{word_of, is_address}
use Rattle.word.proofs.Tests.{both_bounds, if_holds}
use Rattle.word.proofs.Bounds.{word_below}
use Rattle.machine.specs.Machine.{State, psr, user_mode}
use Rattle.machine.specs.Control.{control_at, protected_cell, CCB_BASE}
use Rattle.execute.specs.View.{Attempt, Found, Raises, Stops, View, in_block, found_at, place_at, view}
use Rattle.execute.specs.declared.data.Location.{Location}
use Rattle.execute.specs.declared.data.Location.TheVariants.{Block, Cell}

-- some data address leads to a location
abbrev pub Reached : View → Location → Type 0
Reached v l = (z : ℤ) × (v.place z ≡ Found l)

open_in : (user b : Bool) → user && b ≡ false → user ≡ true → b ≡ false
open_in true b e u = e
open_in false b e u = absurd (true≢false (sym u))

-- a data cell that an access reaches
pub record CellOf (s : State) (a : ℕ) : Type 0 where
  pub there : a < length s.memory.cells
  pub address : a < 2 ^ 32
  pub outside : in_block (control_at s.machine CCB_BASE) a ≡ false
  pub unprotected : user_mode (psr s.machine) ≡ true → protected_cell s.machine a ≡ false

-- a register of the control block, by its offset
pub record BlockOf (s : State) (n : ℕ) : Type 0 where
  pub offset : n ≤ 255
  pub address : control_at s.machine CCB_BASE + n < 2 ^ 32
  pub unprotected : user_mode (psr s.machine) ≡ true → protected_cell s.machine (control_at s.machine CCB_BASE + n) ≡ false

module _ (s : State) where
  abbrev LocationOf : Location → Type 0
  LocationOf (Block n) = BlockOf s n
  LocationOf (Cell a) = CellOf s a

  abbrev Meant : Attempt Location → Type 0
  Meant (Found l) = LocationOf l
  Meant (Raises c) = Unit {0}
  Meant (Stops n) = Unit {0}

  abbrev Open : ℕ → Type 0
  Open a = user_mode (psr s.machine) ≡ true → protected_cell s.machine a ≡ false

  block_meant : (a : ℕ) → a < 2 ^ 32 → Open a → in_block (control_at s.machine CCB_BASE) a ≡ true → BlockOf s (a - control_at s.machine CCB_BASE)
  unfolding in_block
  block_meant a w u b =
      let base = control_at s.machine CCB_BASE in
      let t = both_bounds base a (base + 255) b in
      let low_end : base ≤ a = t.0 in
      let high_end : a ≤ base + 255 = t.1 in
      let again : a ≡ base + (a - base) = omega arith in
      record { offset = omega arith; address = omega arith; unprotected = λ e. ap (protected_cell s.machine) (sym again) ∙ u e }

  found_meant : (a : ℕ) → a < 2 ^ 32 → Open a → Meant (found_at s a)
  unfolding found_at
  found_meant a w u =
      if_holds Meant (in_block (control_at s.machine CCB_BASE) a) (block_meant a w u) (λ o.
      if_holds Meant (ltb a (length s.memory.cells))
      (λ t. record { there = ltb-true a (length s.memory.cells) t; address = w; outside = o; unprotected = u })
      (λ _. tt))

  place_meant : (z : ℤ) → Meant (place_at s z)
  unfolding place_at
  place_meant z =
      let a = word_of 32 z in
      if_holds Meant (user_mode (psr s.machine) && protected_cell s.machine a) (λ _. tt) (λ p.
      if_holds Meant (not (is_address z)) (λ _. tt) (λ _.
      found_meant a (word_below 32 z) (open_in _ _ p)))

  pub place_cell : (z : ℤ) (a : ℕ) → place_at s z ≡ Found (Cell a) → CellOf s a
  place_cell z a e = rw e at (place_meant z)

  pub place_block : (z : ℤ) (n : ℕ) → place_at s z ≡ Found (Block n) → BlockOf s n
  place_block z n e = rw e at (place_meant z)

-- ---- what a state's view reaches

module _ (program : List ℕ) (s : State) where
  pub reached_cell : (a : ℕ) → Reached (view program s) (Cell a) → CellOf s a
  unfolding view
  reached_cell a r = place_cell s r.0 a r.1

  pub reached_block : (n : ℕ) → Reached (view program s) (Block n) → BlockOf s n
  unfolding view
  reached_block n r = place_block s r.0 n r.1
