-- The plain updates of a machine: what most instructions do. Assumes nothing.
use Rattle.std.specs.Prelude.{ℕ, Bool}

pub data Update : Type 0 where
  Next : Update  -- PC goes on, and nothing else
  Result : (dreg value : ℕ) → Update
  ResultFlags : (dreg value flags : ℕ) → Update  -- the flags go to C0
  ResultProduct : (dreg high low : ℕ) → Update  -- the register takes the low half, and the product is held
  Compare : (creg flags : ℕ) → Update
  Conditions : (word : ℕ) → Update  -- all condition registers are taken from a word
  StoreControl : (offset value : ℕ) → Update
  Jump : (target : ℕ) → Update  -- after the slot
  JumpLink : (target : ℕ) → Update  -- the same, with the address after the slot in the link register
  EnableInterrupts : Bool → Update
  SwitchWidth : (wide : Bool) → Update
  UserReturn : Update
  SelectSets : (sets : ℕ) → Update  -- RSRD + 2 × RSWR
