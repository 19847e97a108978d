-- What an instruction does. Assumes nothing.
use Rattle.std.specs.Prelude.{ℕ, Bool}
use Rattle.machine.specs.Update.{Update}
use Rattle.machine.specs.Update as update

pub data Effect : Type 0 where
  Stopped : (number : ℕ) → Effect
  Raised : (code : ℕ) → Effect  -- an exception
  SystemCall : Effect
  InterruptReturn : Effect
  StoreCell : (address value : ℕ) → Effect
  Updates : Update → Effect  -- of the machine, and nothing else

-- ---- the plain updates, by their own names

abbrev pub Next : Effect
Next = Updates update.Next

abbrev pub Result : (dreg value : ℕ) → Effect
Result d x = Updates (update.Result d x)

abbrev pub ResultFlags : (dreg value flags : ℕ) → Effect
ResultFlags d x f = Updates (update.ResultFlags d x f)

abbrev pub ResultProduct : (dreg high low : ℕ) → Effect
ResultProduct d h l = Updates (update.ResultProduct d h l)

abbrev pub Compare : (creg flags : ℕ) → Effect
Compare c f = Updates (update.Compare c f)

abbrev pub Conditions : (word : ℕ) → Effect
Conditions x = Updates (update.Conditions x)

abbrev pub StoreControl : (offset value : ℕ) → Effect
StoreControl n x = Updates (update.StoreControl n x)

abbrev pub Jump : (target : ℕ) → Effect
Jump t = Updates (update.Jump t)

abbrev pub JumpLink : (target : ℕ) → Effect
JumpLink t = Updates (update.JumpLink t)

abbrev pub EnableInterrupts : Bool → Effect
EnableInterrupts e = Updates (update.EnableInterrupts e)

abbrev pub SwitchWidth : (wide : Bool) → Effect
SwitchWidth w = Updates (update.SwitchWidth w)

abbrev pub UserReturn : Effect
UserReturn = Updates update.UserReturn

abbrev pub SelectSets : (sets : ℕ) → Effect
SelectSets n = Updates (update.SelectSets n)
