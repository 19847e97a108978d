-- Where control goes on, with and without a slot, and after a write. Assumes nothing.
use Rattle.std.proofs.Common.{◌≡◌, sym, ap, ◌∙◌, Bool, true, false, Some, None, ℕ, ◌+◌, ◌*◌, ◌%◌, ◌^◌, eqb, ◌≢◌, refl, eq-eqb, ne_eqb}
use Rattle.std.specs.Prelude.{if◌then◌else◌}
use Rattle.machine.specs.Position.{slot_of}
use Rattle.word.specs.Choice.{choose◌then◌else◌}
use Rattle.isa.specs.Decode.{word_bytes}
use Rattle.machine.specs.Machine.{Machine, psr, width_of, with_conditions, with_position}
use Rattle.machine.specs.Apply.{write_register, write_flags, words_on, next_pc, advance_holding}
use Rattle.machine.proofs.Written.{write_psr, write_position, write_moved}

pub in_slot : (m : Machine) → m.position.slot ≡ 1 → next_pc m ≡ m.position.target
unfolding next_pc choose◌then◌else◌
in_slot m e = rw (eq-eqb m.position.slot 1 e)

pub no_slot : (m : Machine) → m.position.slot ≢ 1 → next_pc m ≡ words_on 1 m
unfolding next_pc choose◌then◌else◌
no_slot m e = rw (ne_eqb m.position.slot 1 e)

-- it depends on the position and PSR alone
next_by : (m k : Machine) → k.position ≡ m.position → psr k ≡ psr m → next_pc k ≡ next_pc m
unfolding next_pc words_on
next_by m k p q = λ i. choose◌then◌else◌ (eqb (p i).slot 1) (p i).target (((p i).pc + 1 * word_bytes (width_of (q i))) % 2 ^ 32)

-- no write changes it
pub next_written : (m : Machine) (d x : ℕ) → next_pc (write_register d x m) ≡ next_pc m
next_written m d x = next_by m (write_register d x m) (write_position m d x) (write_psr m d x)

pub next_flags : (m : Machine) (c f : ℕ) → next_pc (write_flags c f m) ≡ next_pc m
unfolding write_flags with_conditions psr
next_flags m c f = next_by m (write_flags c f m) refl refl

-- a register is written before or after a step on that holds a product
pub held_written : (m : Machine) (d x high low : ℕ) → write_register d x (advance_holding high low m) ≡ advance_holding high low (write_register d x m)
unfolding advance_holding
held_written m d x high low =
    write_moved m d x _
    ∙ ap (λ pc. with_position (record { pc = pc; slot = 0; target = 0; held = 1; high = high % 2 ^ 32; low = low % 2 ^ 32 }) (write_register d x m)) (sym (next_written m d x))

-- ---- by the slot that waits

module _ (m : Machine) where
  slot_some : (t : ℕ) → (b : Bool) → eqb m.position.slot 1 ≡ b → (if b then Some m.position.target else None) ≡ Some t → t ≡ next_pc m
  unfolding next_pc choose◌then◌else◌
  slot_some t true e h = let same : m.position.target ≡ t = cc h in rw e (sym same)
  slot_some t false e h = cc h

  slot_none : (b : Bool) → eqb m.position.slot 1 ≡ b → (if b then Some m.position.target else None) ≡ None → words_on 1 m ≡ next_pc m
  unfolding next_pc choose◌then◌else◌
  slot_none true e h = cc h
  slot_none false e h = rw e refl

  pub next_in_slot : (t : ℕ) → slot_of m.position ≡ Some t → t ≡ next_pc m
  unfolding slot_of
  next_in_slot t h = slot_some t (eqb m.position.slot 1) refl h

  pub next_no_slot : slot_of m.position ≡ None → words_on 1 m ≡ next_pc m
  unfolding slot_of
  next_no_slot h = slot_none (eqb m.position.slot 1) refl h
