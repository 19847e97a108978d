-- Where operations lead, by their numbers: a computed test each. Assumes nothing.
use mathlib.Core.Path.{◌≡◌, refl}
use mathlib.Core.Bool.{Bool, true, false, ◌||◌}
use Prim.Native.Nat.{ℕ, ◌≤◌, ◌<◌}
use native.Mathlib.Omega.{arith}
use lib.Dec.{ltb}
use borrow.Author.Tests.{ltb-true, ne_eqb}
use Rattle.word.specs.Choice.{choose◌then◌else◌}
use Rattle.isa.specs.Operation.{operation_of, properties}
use Rattle.isa.specs.Theorems.{between}
use Rattle.isa.specs.Computed.{instructions}
use Rattle.isa.proofs.Table.{values, by_number}
use Rattle.isa.proofs.Rules.{not_between}
use Rattle.reach.specs.Successors.{falls_through, has_target, resume_words, slot_words, succession}
use Rattle.reach.specs.Theorems.{falls_through_by, FallsThroughIs, TargetIs, resume_by, ResumptionIs, slots_by, SlotsAre}

pub falls_through_is : FallsThroughIs
unfolding instructions values succession
falls_through_is conditional = by_number (λ o. falls_through (properties o).flow conditional) (falls_through_by conditional) (computed conditional) high
  where
    computed : (c : Bool) → values (λ n. falls_through (properties (operation_of n)).flow c) 0 64 ≡ values (falls_through_by c) 0 64
    computed true = refl
    computed false = refl

    high : (n : ℕ) → 64 ≤ n → falls_through_by conditional n ≡ falls_through_by conditional 63
    high n h =
        rw (not_between 36 37 n (omega arith), not_between 49 50 n (omega arith), not_between 54 55 n (omega arith), not_between 38 39 n (omega arith), ne_eqb n 48 (λ e. omega arith))

pub target_is : TargetIs
unfolding instructions values succession
target_is = by_number (λ o. has_target (properties o).flow) (λ n. between 36 37 n || between 40 47 n) refl high
  where
    high : (n : ℕ) → 64 ≤ n → between 36 37 n || between 40 47 n ≡ false
    high n h = rw (not_between 36 37 n (omega arith), not_between 40 47 n (omega arith))

pub resumption_is : ResumptionIs
unfolding instructions values succession choose◌then◌else◌
resumption_is keeps = by_number (λ o. resume_words (properties o).flow keeps) (resume_by keeps) (computed keeps) high
  where
    computed : (k : Bool) → values (λ n. resume_words (properties (operation_of n)).flow k) 0 64 ≡ values (resume_by k) 0 64
    computed true = refl
    computed false = refl

    high : (n : ℕ) → 64 ≤ n → resume_by keeps n ≡ 0
    high n h = rw (ne_eqb n 37 (λ e. omega arith), ne_eqb n 39 (λ e. omega arith), ne_eqb n 48 (λ e. omega arith), ne_eqb n 54 (λ e. omega arith))

pub slots_are : SlotsAre
unfolding instructions values succession choose◌then◌else◌
slots_are = by_number (λ o. slot_words (properties o).flow (properties o).nops) slots_by refl high
  where
    high : (n : ℕ) → 64 ≤ n → slots_by n ≡ 0
    high n h = rw (not_between 36 39 n (omega arith), not_between 48 49 n (omega arith), ne_eqb n 54 (λ e. omega arith), ne_eqb n 50 (λ e. omega arith))

pub slot_few : (n : ℕ) → slot_words (properties (operation_of n)).flow (properties (operation_of n)).nops < 4
unfolding instructions values succession
slot_few n = ltb-true _ 4 (by_number (λ o. ltb (slot_words (properties o).flow (properties o).nops) 4) (λ n. true) refl (λ n h. refl) n)
