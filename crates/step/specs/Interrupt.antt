-- Requests, and the acceptance of an interrupt (Manual 4.1, 4.2). Assumes nothing.
use Rattle.std.specs.Prelude.{Bool, true, false, not, ◌&&◌, List, [], ◌∷◌, ℕ, zero, suc, ◌+◌, ◌-◌, ◌*◌, ◌%◌, ◌^◌, get_or, ltb, eqb, Option, None, Some}
use Rattle.word.specs.Choice.{choose◌then◌else◌}
use Rattle.word.specs.Word.{bit_at, field_of}
use Rattle.word.specs.Arithmetic.{or_of}
use Rattle.word.specs.Flags.{without_flag}
use Rattle.isa.specs.declared.width.Width.{Width}
use Rattle.isa.specs.declared.operation.Operation.TheVariants.{Mulhi}
use Rattle.isa.specs.Operation.{properties}
use Rattle.isa.specs.Decode.{opcode_of}
use Rattle.machine.specs.Machine.{Machine, State, psr, interrupts_enabled, width_of, status_of, position_at, with_position, with_psr}
use Rattle.machine.specs.Control.{control_at, with_pending, INT_VECTORS, INT_MODE_IL, INT_MODE_UM, INT_MASK, INT_PEND, EXT_INT_PRI, COP_INT_PRI}
use Rattle.machine.specs.Stack.{with_stack}
use Rattle.machine.specs.declared.stack.Entry.{Entry}
use Rattle.execute.specs.View.{Attempt, Found, Raises, Stops, View}

-- ---- requests

-- the step's requests are added to INT_PEND
abbrev pub add_requests : (requests : ℕ) → Machine → Machine
add_requests requests m = with_pending (or_of (control_at m INT_PEND) requests % 2 ^ 12) m

unfoldable pub with_requests : (requests : ℕ) → State → State
with_requests requests s = record { machine = add_requests requests s.machine; memory = s.memory }

-- ---- which source is accepted

-- the priority number of a source, 0 to 3 COP and 4 to 11 EXT: four bits each
unfoldable pub priority : Machine → (source : ℕ) → ℕ
priority m n =
    choose ltb n 4 then field_of (record { place = 4 * n; width = 4 }) (control_at m COP_INT_PRI)
    else field_of (record { place = 4 * (n - 4); width = 4 }) (control_at m EXT_INT_PRI)

-- a priority number is below those of all in service
unfoldable pub below_all : Machine → (number : ℕ) → List Entry → Bool
below_all m p [] = true
below_all m p (e ∷ es) = ltb p (priority m e.source) && below_all m p es

-- pending, INT_MASK 1, and a priority number below all in service
unfoldable pub eligible : Machine → (source : ℕ) → Bool
eligible m n = bit_at n (control_at m INT_PEND) && (bit_at n (control_at m INT_MASK) && below_all m (priority m n) m.stack)

unfoldable pub before : Machine → (source : ℕ) → (best : Option ℕ) → Bool
before m n None = true
before m n (Some b) = ltb (priority m n) (priority m b)

-- of the sources below k the one to accept: smallest priority number first, ties to the lower source
unfoldable pub candidate : Machine → (k : ℕ) → Option ℕ
candidate m zero = None
candidate m (suc k) =
    let b = candidate m k in
    choose eligible m k && before m k b then Some k else b

-- ---- when one is accepted

-- the next word passes the fetch tests, and is mulhi
unfoldable pub is_mulhi : Width → Attempt ℕ → Bool
is_mulhi width (Found w) = eqb (opcode_of width w) (properties Mulhi).number
is_mulhi width (Raises c) = false
is_mulhi width (Stops n) = false

-- IE is 1, no branch slot waits, and not (a product is held and the next word is mulhi)
unfoldable pub may_accept : View → Bool
may_accept v =
    interrupts_enabled v.status
    && (not (eqb v.position.slot 1)
    && not (eqb v.position.held 1 && is_mulhi (width_of v.status) v.fetched))

unfoldable pub accepted_source : View → Machine → Option ℕ
accepted_source v m = choose may_accept v then candidate m 12 else None

-- ---- acceptance

-- IE 0; IL and UM by INT_MODE_IL and INT_MODE_UM (bit 1 is user mode); RSRD and RSWR are 1 for super user mode, else 0
unfoldable pub service_psr : (source : ℕ) → Machine → ℕ
service_psr n m =
    let user = bit_at n (control_at m INT_MODE_UM) in
    status_of user (not user) (not user) (bit_at n (control_at m INT_MODE_IL)) false

-- PC, PSR and C0 as they go on the interrupt stack
unfoldable pub entry_for : (source : ℕ) → Machine → Entry
entry_for n m = record { source = n; address = m.position.pc; psr = psr m; c0 = get_or m.conditions 0 0 }

-- the flag moves from pending to in service; PC takes the vector
unfoldable pub accept : (source : ℕ) → Machine → Machine
accept n m =
    with_position (position_at (control_at m (INT_VECTORS + n)))
    (with_psr (service_psr n m)
    (with_stack (entry_for n m ∷ m.stack)
    (with_pending (without_flag n (control_at m INT_PEND)) m)))

-- to unfold all of these
unfoldable pub interrupting : Unit {0}
unfolding with_requests priority below_all eligible before candidate is_mulhi may_accept accepted_source service_psr entry_for accept
interrupting = tt
