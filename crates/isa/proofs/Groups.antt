-- Groups of operations: what the table says of all of a group. Each by one computed test. Assumes nothing.
use mathlib.Core.Path.{◌≡◌, refl}
use mathlib.Core.Bool.{Bool, true, false}
use Prim.Native.Nat.{ℕ, ◌≤◌, ◌<◌}
use native.Mathlib.Omega.{arith}
use Rattle.isa.specs.declared.width.Width.{Width}
use Rattle.isa.specs.declared.width.Width.TheVariants.{Narrow, Wide}
use Rattle.std.specs.Prelude.{None}
use Rattle.isa.specs.Operation.{operation_of, unavailable, properties}
use Rattle.isa.specs.Computed.{instructions}
use Rattle.isa.proofs.Table.{values, agree}

-- nop to cmpi may be used anywhere
pub usable_low : (width : Width) (user : Bool) (n : ℕ) → n < 34 → unavailable (properties (operation_of n)).availability width user ≡ None
unfolding instructions values
usable_low width user n h = agree (λ n. unavailable (properties (operation_of n)).availability width user) (λ n. None) 0 34 (computed width user) n (omega arith) h
  where
    computed : (width : Width) (user : Bool) → values (λ n. unavailable (properties (operation_of n)).availability width user) 0 34 ≡ values (λ n. None) 0 34
    computed Narrow true = refl
    computed Narrow false = refl
    computed Wide true = refl
    computed Wide false = refl

-- and jumps and branches
pub usable_jump : (width : Width) (user : Bool) (n : ℕ) → 36 ≤ n → n < 48 → unavailable (properties (operation_of n)).availability width user ≡ None
unfolding instructions values
usable_jump width user = agree (λ n. unavailable (properties (operation_of n)).availability width user) (λ n. None) 36 12 (computed width user)
  where
    computed : (width : Width) (user : Bool) → values (λ n. unavailable (properties (operation_of n)).availability width user) 36 12 ≡ values (λ n. None) 36 12
    computed Narrow true = refl
    computed Narrow false = refl
    computed Wide true = refl
    computed Wide false = refl

-- nop to lui are no control transfers
pub no_transfer : (n : ℕ) → n < 36 → (properties (operation_of n)).transfer ≡ false
unfolding instructions values
no_transfer n h = agree (λ n. (properties (operation_of n)).transfer) (λ n. false) 0 36 refl n (omega arith) h

-- nor are conb to exbfi
pub no_field_transfer : (n : ℕ) → 58 ≤ n → n < 64 → (properties (operation_of n)).transfer ≡ false
unfolding instructions values
no_field_transfer = agree (λ n. (properties (operation_of n)).transfer) (λ n. false) 58 6 refl

-- jumps and branches are
pub transfers : (n : ℕ) → 36 ≤ n → n < 48 → (properties (operation_of n)).transfer ≡ true
unfolding instructions values
transfers = agree (λ n. (properties (operation_of n)).transfer) (λ n. true) 36 12 refl

-- no nops must follow nop to bnc
pub no_nops : (n : ℕ) → n < 48 → (properties (operation_of n)).nops ≡ 0
unfolding instructions values
no_nops n h = agree (λ n. (properties (operation_of n)).nops) (λ n. 0) 0 48 refl n (omega arith) h

-- nor conb to exbfi
pub no_field_nops : (n : ℕ) → 58 ≤ n → n < 64 → (properties (operation_of n)).nops ≡ 0
unfolding instructions values
no_field_nops = agree (λ n. (properties (operation_of n)).nops) (λ n. 0) 58 6 refl
