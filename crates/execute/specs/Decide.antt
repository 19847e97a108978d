-- What the next instruction does: the order of its tests (Manual 4). Assumes nothing.
use Rattle.std.specs.Prelude.{◌≡◌, false, ◌&&◌, ℕ, eqb}
use Rattle.std.specs.Prelude.{Option, None, Some}
use Rattle.word.specs.Choice.{choose◌then◌else◌}
use Rattle.isa.specs.declared.operation.Operation.{Operation}
use Rattle.isa.specs.Operation.{operation_of, properties, unavailable}
use Rattle.isa.specs.Decode.{decode}
use Rattle.isa.specs.declared.instruction.Instruction.{Instruction}
use Rattle.machine.specs.Machine.{user_mode, width_of}
use Rattle.execute.specs.View.{Attempt, View, condition_false, nops_after}
use Rattle.execute.specs.Execute.{on_found, execute}
use Rattle.machine.specs.Effect.{Effect, Stopped, Raised, Next}

-- its own effect, on its two sources
unfoldable pub perform : View → Instruction → Operation → Effect
perform v i op = execute op v i (v.source i.sreg1) (v.source i.sreg2)

-- 02h, if the operation is not available; stop 13 for a control transfer in a slot, its condition true or not (Manual 4.4); a false condition, with
-- which PC goes on and nothing else happens (Manual 4.5); the nops that must follow (Manual 4.6), before stop 15 of reti; its own effect
unfoldable pub if_available : View → Instruction → Operation → Option ℕ → Effect
if_available v i op (Some code) = Raised code
if_available v i op None =
    choose (properties op).transfer && eqb v.position.slot 1 then Stopped 13
    else choose condition_false v i then Next
    else on_found (λ _. perform v i op) (nops_after v (properties op).nops)

-- a decoded instruction: whether its operation is available in this width and mode (code 01h never occurs); then the rest
unfoldable pub instruction : View → Instruction → Effect
instruction v i =
    let op = operation_of i.opcode in
    if_available v i op (unavailable (properties op).availability (width_of v.status) (user_mode v.status))

-- what was fetched: an instruction word of the width that IL says; else the exception or the stop
unfoldable pub fetched_then : View → Attempt ℕ → Effect
fetched_then v = on_found (λ w. instruction v (decode (width_of v.status) w))

-- what the next instruction does
unfoldable pub decide : View → Effect
decide v = fetched_then v v.fetched

-- an instruction that comes to the nops that must follow it, and then to its own effect: available, no control transfer in a slot, its condition
-- not false. For comparisons: no rule uses it
pub record Passes (v : View) (i : Instruction) : Type 0 where
  pub available : unavailable (properties (operation_of i.opcode)).availability (width_of v.status) (user_mode v.status) ≡ None
  pub in_no_slot : (properties (operation_of i.opcode)).transfer && eqb v.position.slot 1 ≡ false
  pub holds : condition_false v i ≡ false

-- to unfold all of these
unfoldable pub deciding : Unit {0}
unfolding perform if_available instruction fetched_then decide
deciding = tt
