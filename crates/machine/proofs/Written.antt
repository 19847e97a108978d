-- A register written: in the set that RSWR names, and never PSR. Assumes nothing.
use Rattle.std.proofs.Common.{◌≡◌, ℕ, ◌%◌, ◌^◌, Bool, true, false, eqb, sym, refl, get_or-set_other}
use borrow.Author.Tests.{eqb-false}
use Rattle.word.specs.Choice.{choose◌then◌else◌}
use Rattle.word.proofs.Tests.{if_holds}
use Rattle.machine.specs.Machine.{Machine, PSR, psr, writes_set2, with_set1, with_set2, with_position, with_register, written}
use Rattle.machine.specs.Apply.{write_register}
use Rattle.machine.specs.declared.position.Position.{Position}

module _ (m : Machine) (n x : ℕ) where
  -- PSR stays
  psr_kept : (second : Bool) → psr (written second n x m) ≡ psr m
  unfolding written with_register choose◌then◌else◌ psr with_set1 with_set2
  psr_kept false = refl
  psr_kept true =
      if_holds (λ (k : Machine). psr k ≡ psr m) (eqb n PSR) (λ _. refl) (λ e. get_or-set_other m.set2 n PSR x 0 (λ q. eqb-false n PSR e (sym q)))

  -- and so does the position
  position_kept : (second : Bool) → (written second n x m).position ≡ m.position
  unfolding written with_register choose◌then◌else◌ with_set1 with_set2
  position_kept false = refl
  position_kept true = if_holds (λ (k : Machine). k.position ≡ m.position) (eqb n PSR) (λ _. refl) (λ _. refl)

  -- another position may come before or after
  moved : (p : Position) (second : Bool) → written second n x (with_position p m) ≡ with_position p (written second n x m)
  unfolding written with_register choose◌then◌else◌ with_set1 with_set2 with_position
  moved p false = refl
  moved p true = go (eqb n PSR)
    where
      go : (b : Bool) → (choose b then with_position p m else with_register true n x (with_position p m)) ≡ with_position p (choose b then m else with_register true n x m)
      go true = refl
      go false = refl

module _ (m : Machine) (d x : ℕ) where
  -- a write leaves PSR and the position
  pub write_psr : psr (write_register d x m) ≡ psr m
  unfolding write_register
  write_psr = psr_kept m (d % 32) (x % 2 ^ 32) (writes_set2 (psr m))

  pub write_position : (write_register d x m).position ≡ m.position
  unfolding write_register
  write_position = position_kept m (d % 32) (x % 2 ^ 32) (writes_set2 (psr m))

  -- and may come before or after another position
  pub write_moved : (p : Position) → write_register d x (with_position p m) ≡ with_position p (write_register d x m)
  unfolding write_register with_position psr
  write_moved p = moved m (d % 32) (x % 2 ^ 32) p (writes_set2 (psr m))
