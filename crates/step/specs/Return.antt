-- A change of task in a service routine (Manual 6.3): what is proved of stores to the RETI_ registers, and of reti after them. Assumes nothing.
use Rattle.std.specs.Prelude.{◌≡◌, true, List, [], ◌∷◌, ℕ, ◌%◌, ◌^◌, set}
use Rattle.word.specs.Flags.{is_among, without_flag}
use Rattle.machine.specs.Machine.{Machine, State, position_at, with_conditions, with_position, with_psr}
use Rattle.machine.specs.Control.{control_at, INT_SERV, RETI_ADDR, RETI_PSR, RETI_CR0, RETURNS}
use Rattle.machine.specs.Stack.{with_stack, kept_status}
use Rattle.machine.specs.declared.stack.Entry.{Entry}
use Rattle.machine.specs.Questions.{well_formed}
use Rattle.machine.specs.Effect.{Next, StoreControl, InterruptReturn}
use Rattle.machine.specs.Kind as kind
use Rattle.machine.specs.Apply.{machine_only, apply}

-- with an empty interrupt stack such a store does what nop does (Manual 5.3)
abbrev pub IgnoredWhenEmpty : Type 0
IgnoredWhenEmpty = (offset x : ℕ) (s : State) → is_among offset RETURNS ≡ true → s.machine.stack ≡ [] → apply (StoreControl offset x) s ≡ apply Next s

-- after stores of an address, a PSR and a C0 to the three registers, with no requests, interrupts or clocks in between; with steps' own clocks a
-- case is worked in Worked
abbrev pub after_stores : (address status flags : ℕ) → State → State
after_stores a q c s =
    let stored : (offset x : ℕ) → State → State = λ n x t. (apply (StoreControl n x) t).after in
    stored RETI_CR0 c (stored RETI_PSR q (stored RETI_ADDR a s))

-- what reti makes of a machine with these in the stack's top, and with this rest of the stack
abbrev pub returned_to : (address status flags : ℕ) (rest : List Entry) → Machine → Machine
returned_to a q c es m = with_position (position_at a) (with_psr q (with_conditions (set m.conditions 0 c) (with_stack es m)))

-- after these, reti goes on at that address, with what is kept of that PSR and C0. All else is as without the stores; the flag of the top's source in
-- INT_SERV is cleared
abbrev pub TaskSwitch : Type 0
TaskSwitch =
    (address status flags : ℕ) (s : State) (e : Entry) (es : List Entry) → well_formed s.machine ≡ true → s.machine.stack ≡ e ∷ es
    → (apply InterruptReturn (after_stores address status flags s) ≡ machine_only kind.InterruptReturn (returned_to (address % 2 ^ 32) (kept_status status) (flags % 8) es) s)
    × (control_at (with_stack es s.machine) INT_SERV ≡ without_flag e.source (control_at s.machine INT_SERV))
