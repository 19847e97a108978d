-- The table of operations against its rules, each by one computed test; mnemonic_short is for a listing. Assumes nothing.
use mathlib.Core.Path.{◌≡◌, refl}
use mathlib.Core.Bool.{Bool, true, false, ◌||◌, and-false}
use Prim.Native.Nat.{ℕ, ◌≤◌, ◌<◌}
use native.Mathlib.Omega.{arith}
use lib.Dec.{leb, ltb, eqb}
use lib.ListN.{length}
use borrow.Author.Tests.{leb-true, ltb-true, le-leb, lt-leb, ne_eqb}
use Rattle.word.specs.Choice.{choose◌then◌else◌}
use Rattle.isa.specs.declared.flow.Flow.TheVariants.{Straight}
use Rattle.isa.specs.Operation.{operation_of, width_by, unavailable, code_of, properties}
use Rattle.isa.specs.Computed.{instructions}
use Rattle.isa.specs.Theorems.{Numbered, between, ConditionalIs, TransferIs, nops_by, NopsAre, flow_by, FlowIs, code_at, code_by, UnavailableIs}
use Rattle.isa.proofs.Table.{values, agree, by_number}

-- no number past high is one of low to high
pub not_between : (low high n : ℕ) → high < n → between low high n ≡ false
not_between low high n h = rw (lt-leb n high h) (and-false (leb low n))

-- each row has its own number
pub numbered : Numbered
unfolding instructions values
numbered n h = agree (λ n. (properties (operation_of n)).number) (λ n. n) 0 64 refl n (omega arith) h

-- mnemonics have at most eight bytes
pub mnemonic_short : (n : ℕ) → length (properties (operation_of n)).mnemonic ≤ 8
unfolding instructions values
mnemonic_short n = leb-true _ 8 (by_number (λ o. leb (length (properties o).mnemonic) 8) (λ n. true) refl (λ n h. refl) n)

pub conditional_is : ConditionalIs
unfolding instructions values
conditional_is = by_number (λ o. (properties o).conditional) (λ n. ((between 1 31 n || between 38 39 n) || eqb n 48) || between 58 62 n) refl high
  where
    high : (n : ℕ) → 64 ≤ n → ((between 1 31 n || between 38 39 n) || eqb n 48) || between 58 62 n ≡ false
    high n h = rw (not_between 1 31 n (omega arith), not_between 38 39 n (omega arith), ne_eqb n 48 (λ e. omega arith), not_between 58 62 n (omega arith))

pub transfer_is : TransferIs
unfolding instructions values
transfer_is = by_number (λ o. (properties o).transfer) (λ n. between 36 50 n || eqb n 54) refl high
  where
    high : (n : ℕ) → 64 ≤ n → between 36 50 n || eqb n 54 ≡ false
    high n h = rw (not_between 36 50 n (omega arith), ne_eqb n 54 (λ e. omega arith))

pub nops_are : NopsAre
unfolding instructions values choose◌then◌else◌
nops_are = by_number (λ o. (properties o).nops) nops_by refl high
  where
    high : (n : ℕ) → 64 ≤ n → nops_by n ≡ 0
    high n h = rw (ne_eqb n 48 (λ e. omega arith), ne_eqb n 49 (λ e. omega arith), ne_eqb n 50 (λ e. omega arith), ne_eqb n 54 (λ e. omega arith))

pub flow_is : FlowIs
unfolding instructions values choose◌then◌else◌
flow_is = by_number (λ o. (properties o).flow) flow_by refl high
  where
    high : (n : ℕ) → 64 ≤ n → flow_by n ≡ Straight
    high n h =
        rw (
          ne_eqb n 36 (λ e. omega arith),
          ne_eqb n 37 (λ e. omega arith),
          ne_eqb n 38 (λ e. omega arith),
          ne_eqb n 39 (λ e. omega arith),
          not_between 40 47 n (omega arith),
          ne_eqb n 48 (λ e. omega arith),
          ne_eqb n 49 (λ e. omega arith),
          ne_eqb n 50 (λ e. omega arith),
          ne_eqb n 54 (λ e. omega arith),
          ne_eqb n 55 (λ e. omega arith),
        )

-- at most three
pub nops_few : (n : ℕ) → (properties (operation_of n)).nops < 4
unfolding instructions values
nops_few n = ltb-true _ 4 (by_number (λ o. ltb (properties o).nops 4) (λ n. true) refl (λ n h. refl) n)

pub unavailable_is : UnavailableIs
unfolding instructions values
unavailable_is wide user = by_number (λ o. code_of (unavailable (properties o).availability (width_by wide) user)) (code_by wide user) (computed wide user) high
  where
    computed : (wide user : Bool) → values (code_at (width_by wide) user) 0 64 ≡ values (code_by wide user) 0 64
    computed true true = refl
    computed true false = refl
    computed false true = refl
    computed false false = refl

    high : (n : ℕ) → 64 ≤ n → code_by wide user n ≡ code_by wide user 63
    high n h = rw (le-leb 63 n (omega arith), not_between 34 35 n (omega arith), ne_eqb n 49 (λ e. omega arith), ne_eqb n 51 (λ e. omega arith))
