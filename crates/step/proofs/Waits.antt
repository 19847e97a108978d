-- What the code asks of a position and of the next word before an interrupt is accepted. Assumes nothing.
use Rattle.std.proofs.Common.{◌≡◌, refl, sym, Bool, true, false, not, ◌&&◌, List, ℕ, eqb, Ok, Some, None}
use Rattle.std.specs.Prelude.{if◌then◌else◌, is_some}
use Rattle.word.specs.declared.Product.{Product}
use Rattle.isa.specs.declared.width.Width.{Width}
use Rattle.isa.specs.Operation.{properties}
use Rattle.isa.specs.Decode.{opcode_of}
use Rattle.machine.specs.Machine.{State, psr, interrupts_enabled, width_of}
use Rattle.machine.specs.declared.position.Position.{Position}
use Rattle.machine.specs.Position.{slot_of, product_of}
use Rattle.execute.specs.View.{Attempt, attempted, view}
use Rattle.step.specs.Interrupt.{is_mulhi, may_accept}

slot_waits : (p : Position) → is_some (slot_of p) ≡ eqb p.slot 1
unfolding slot_of
slot_waits p = go (eqb p.slot 1)
  where
    go : (b : Bool) → is_some (if b then Some p.target else None) ≡ b
    go true = refl
    go false = refl

product_waits : (p : Position) → is_some (product_of p) ≡ eqb p.held 1
unfolding product_of
product_waits p = go (eqb p.held 1)
  where
    go : (b : Bool) → is_some {T = Product} (if b then Some (record { high = p.high; low = p.low }) else None) ≡ b
    go true = refl
    go false = refl

-- an interrupt may be accepted, by what the position holds
pub may_by : (program : List ℕ) (s : State) → let q = psr s.machine in let p = s.machine.position in
    may_accept (view program s)
    ≡ interrupts_enabled q && (not (is_some (slot_of p)) && not (is_some (product_of p) && is_mulhi (width_of q) (view program s).fetched))
unfolding may_accept view
may_by program s = rw (slot_waits s.machine.position, product_waits s.machine.position) refl

-- a word that is fetched
pub mulhi_fetched : (width : Width) (w : ℕ) (fetched : Attempt ℕ) → attempted (Ok w) ≡ fetched → eqb (opcode_of width w) 31 ≡ is_mulhi width fetched
unfolding is_mulhi properties
mulhi_fetched width w fetched e = rw (sym e) refl
