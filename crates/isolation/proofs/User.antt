-- Updates of the machine in user mode: each changes what is shown only, and by what is shown only. Assumes nothing.
use mathlib.Core.Path.{◌≡◌, refl, sym, ap, ◌∙◌}
use mathlib.Core.Logic.{◌≢◌}
use mathlib.Core.Bool.{Bool, true, false}
use mathlib.Core.List.{List}
use Prim.Native.Nat.{ℕ, ◌/◌, ◌%◌, ◌^◌, ◌<◌}
use native.Mathlib.Omega.{arith}
use lib.ListN.{length, set, get_elem?, length-set}
use lib.Seq.{get_or-set_same}
use Rattle.machine.specs.Machine.{Machine, PSR, psr, user_mode, reads_set2, writes_set2, wide_words, interrupts_enabled, status_of, with_register, written, position_at, with_set1, with_set2, with_conditions, with_position, with_psr}
use Rattle.machine.specs.declared.position.Position.{Position}
use Rattle.word.specs.Choice.{choose◌then◌else◌}
use Rattle.machine.proofs.Bits.{status_kept}
use Rattle.machine.proofs.Lists.{at_set_other}
use Rattle.machine.specs.Apply.{write_register, write_flags, words_on, next_pc, advance, advance_holding, jump_to, enable_interrupts, switch_width}

-- ---- the status in user mode: UM 1, RSRD and RSWR 0

pub user_bit : (q : ℕ) → q % 8 ≡ 1 → user_mode q ≡ true
user_bit q h = let e : q / 2 ^ 0 % 2 ≡ 1 = omega arith in rw e

pub read_bit : (q : ℕ) → q % 8 ≡ 1 → reads_set2 q ≡ false
read_bit q h = let e : q / 2 ^ 1 % 2 ≡ 0 = omega arith in rw e

pub write_bit : (q : ℕ) → q % 8 ≡ 1 → writes_set2 q ≡ false
write_bit q h = let e : q / 2 ^ 2 % 2 ≡ 0 = omega arith in rw e

-- a machine in user mode, PSR being one of its registers
pub record User (m : Machine) : Type 0 where
  pub room : PSR < length m.set2
  pub status : psr m % 8 ≡ 1

-- ---- what is shown of two machines is equal; what is protected stays

pub record Alike (m n : Machine) : Type 0 where
  pub set1 : m.set1 ≡ n.set1
  pub conditions : m.conditions ≡ n.conditions
  pub status : psr m ≡ psr n
  pub position : m.position ≡ n.position

pub record Guarded (m n : Machine) : Type 0 where
  pub set2 : (i : ℕ) → i ≢ PSR → get_elem? n.set2 i ≡ get_elem? m.set2 i
  pub control : n.control ≡ m.control
  pub stack : n.stack ≡ m.stack

-- a value that is taken from what is shown
abbrev pub Public : {A : Type 0} → (Machine → A) → Type 0
Public x = (m n : Machine) → User m → User n → Alike m n → x m ≡ x n

pub record Confined (f : Machine → Machine) : Type 0 where
  pub user : (m : Machine) → User m → User (f m)
  pub guarded : (m : Machine) → User m → Guarded m (f m)
  pub alike : (m n : Machine) → User m → User n → Alike m n → Alike (f m) (f n)

-- one after the other
pub confined_then : {f g : Machine → Machine} → Confined f → Confined g → Confined (λ m. g (f m))
confined_then {f} {g} c d =
    record {
      user = λ m u. d.user (f m) (c.user m u);
      guarded = λ m u.
          let x = c.guarded m u in
          let y = d.guarded (f m) (c.user m u) in
          record { set2 = λ i h. y.set2 i h ∙ x.set2 i h; control = y.control ∙ x.control; stack = y.stack ∙ x.stack };
      alike = λ m n u v a. d.alike (f m) (f n) (c.user m u) (c.user n v) (c.alike m n u v a);
    }

-- ---- one part replaced

confined_set1 : (x : Machine → List ℕ) → Public x → Confined (λ m. with_set1 (x m) m)
unfolding with_set1 psr
confined_set1 x p =
    record {
      user = λ m u. record { room = u.room; status = u.status };
      guarded = λ m u. record { set2 = λ i h. refl; control = refl; stack = refl };
      alike = λ m n u v a. record { set1 = p m n u v a; conditions = a.conditions; status = a.status; position = a.position };
    }

pub confined_conditions : (x : Machine → List ℕ) → Public x → Confined (λ m. with_conditions (x m) m)
unfolding with_conditions psr
confined_conditions x p =
    record {
      user = λ m u. record { room = u.room; status = u.status };
      guarded = λ m u. record { set2 = λ i h. refl; control = refl; stack = refl };
      alike = λ m n u v a. record { set1 = a.set1; conditions = p m n u v a; status = a.status; position = a.position };
    }

confined_position : (x : Machine → Position) → Public x → Confined (λ m. with_position (x m) m)
unfolding with_position psr
confined_position x p =
    record {
      user = λ m u. record { room = u.room; status = u.status };
      guarded = λ m u. record { set2 = λ i h. refl; control = refl; stack = refl };
      alike = λ m n u v a. record { set1 = a.set1; conditions = a.conditions; status = a.status; position = p m n u v a };
    }

psr_written : (q : ℕ) (m : Machine) → User m → psr (with_psr q m) ≡ q
unfolding psr with_psr with_set2
psr_written q m u = get_or-set_same m.set2 PSR q 0 u.room

confined_psr : (x : Machine → ℕ) → ((m : Machine) → x m % 8 ≡ psr m % 8) → Public x → Confined (λ m. with_psr (x m) m)
unfolding with_psr with_set2
confined_psr x h p =
    record {
      user = λ m u. record {
        room = rw (length-set m.set2 PSR (x m)) u.room;
        status = ap (λ q. q % 8) (psr_written (x m) m u) ∙ h m ∙ u.status;
      };
      guarded = λ m u. record { set2 = λ i d. at_set_other m.set2 PSR i (x m) d; control = refl; stack = refl };
      alike = λ m n u v a. record {
        set1 = a.set1;
        conditions = a.conditions;
        status = psr_written (x m) m u ∙ p m n u v a ∙ sym (psr_written (x n) n v);
        position = a.position;
      };
    }

-- ---- the small updates

-- an update that is another one in user mode
confined_as : {f g : Machine → Machine} → ((m : Machine) → User m → f m ≡ g m) → Confined g → Confined f
confined_as e c =
    record {
      user = λ m u. rw (e m u) (c.user m u);
      guarded = λ m u. rw (e m u) (c.guarded m u);
      alike = λ m n u v a. rw (e m u, e n v) (c.alike m n u v a);
    }

-- a register is written in set 1
in_set1 : (n x : ℕ) (m : Machine) (second : Bool) → second ≡ false → written second n x m ≡ with_set1 (set m.set1 n x) m
unfolding written with_register choose◌then◌else◌
in_set1 n x m second e = rw e

pub register_confined : (d : ℕ) (x : Machine → ℕ) → Public x → Confined (λ m. write_register d (x m) m)
unfolding write_register
register_confined d x p =
    confined_as (λ m u. in_set1 (d % 32) (x m % 2 ^ 32) m _ (write_bit (psr m) u.status))
    (confined_set1 (λ m. set m.set1 (d % 32) (x m % 2 ^ 32)) (λ m n u v a. cc (a.set1, p m n u v a)))

pub result_confined : (d x : ℕ) → Confined (write_register d x)
result_confined d x = register_confined d (λ m. x) (λ m n u v a. refl)

pub flags_confined : (c flags : ℕ) → Confined (write_flags c flags)
unfolding write_flags
flags_confined c flags = confined_conditions (λ m. set m.conditions (c % 8) (flags % 8)) (λ m n u v a. ap (λ l. set l (c % 8) (flags % 8)) a.conditions)

pub words_public : (count : ℕ) → Public (words_on count)
unfolding words_on
words_public count m n u v a = cc (a.position, a.status)

next_public : Public next_pc
unfolding next_pc
next_public m n u v a = cc (a.position, words_public 1 m n u v a)

pub advance_confined : Confined advance
unfolding advance
advance_confined = confined_position (λ m. position_at (next_pc m)) (λ m n u v a. ap position_at (next_public m n u v a))

pub holding_confined : (high low : ℕ) → Confined (advance_holding high low)
unfolding advance_holding
holding_confined high low =
    confined_position (λ m. record { pc = next_pc m; slot = 0; target = 0; held = 1; high = high % 2 ^ 32; low = low % 2 ^ 32 })
    (λ m n u v a. ap (λ pc. record { pc = pc; slot = 0; target = 0; held = 1; high = high % 2 ^ 32; low = low % 2 ^ 32 }) (next_public m n u v a))

pub jump_confined : (target : ℕ) → Confined (jump_to target)
unfolding jump_to
jump_confined target =
    confined_position (λ m. record { pc = next_pc m; slot = 1; target = target % 2 ^ 32; held = 0; high = 0; low = 0 })
    (λ m n u v a. ap (λ pc. record { pc = pc; slot = 1; target = target % 2 ^ 32; held = 0; high = 0; low = 0 }) (next_public m n u v a))

-- the status with IL and IE set anew
modes_confined : (wide enabled : ℕ → Bool)
    → Confined (λ m. with_psr (status_of (user_mode (psr m)) (reads_set2 (psr m)) (writes_set2 (psr m)) (wide (psr m)) (enabled (psr m))) m)
modes_confined wide enabled =
    confined_psr _ (λ m. status_kept (psr m) (wide (psr m)) (enabled (psr m)))
    (λ m n u v a. ap (λ q. status_of (user_mode q) (reads_set2 q) (writes_set2 q) (wide q) (enabled q)) a.status)

pub enable_confined : (enabled : Bool) → Confined (enable_interrupts enabled)
unfolding enable_interrupts advance with_position psr
enable_confined enabled = confined_then advance_confined (modes_confined wide_words (λ q. enabled))

pub switch_confined : (wide : Bool) → Confined (switch_width wide)
unfolding switch_width with_position psr
switch_confined wide =
    confined_then (confined_position (λ m. position_at (words_on 3 m)) (λ m n u v a. ap position_at (words_public 3 m n u v a)))
    (modes_confined (λ q. wide) interrupts_enabled)
