-- A well-formed machine, as facts. Assumes nothing.
use mathlib.Core.Path.{◌≡◌, refl, ap, ◌∙◌}
use mathlib.Core.Bool.{true, false, not, ◌&&◌}
use mathlib.Core.List.{List, [], ◌∷◌}
use Prim.Native.Nat.{ℕ, zero, suc, ◌+◌, ◌%◌, ◌^◌, ◌≤◌, ◌<◌}
use native.Mathlib.Omega.{arith}
use native.Mathlib.Nat.{add-zero}
use lib.ListN.{length, get_or, set, length-set}
use lib.Dec.{ltb, eqb, lit<}
use borrow.Author.Tests.{ltb-true, lt-ltb, eqb-true, eq-eqb, not-true}
use Rattle.word.specs.Flags.{is_among, distinct_below}
use Rattle.word.proofs.Tests.{and_parts, and_both}
use Rattle.codec.proofs.Laws.{Below}
use Rattle.machine.specs.Machine.{Machine, psr, user_mode}
use Rattle.machine.specs.Control.{control_at, register_at, can_hold, reset, INT_SERV, RETI_ADDR, RETI_PSR, RETI_CR0}
use Rattle.machine.specs.Words.{REGISTERS, FLAGS, OFFSETS, TIMERS}
use Rattle.machine.specs.Stack.{sources_of, service_flags, shown_top}
use Rattle.machine.specs.declared.position.Position.{Position}
use Rattle.machine.specs.declared.stack.Entry.{Entry}
use Rattle.machine.proofs.Lists.{each_set}
use Rattle.machine.proofs.Table.{beyond_holds, holds_word}
use Rattle.machine.proofs.Shown.{depth_most, service_below}
use Rattle.machine.specs.Questions.{all, all_below, all_held, entries_fit, position_tests, number_tests, question3, sets_fit, modes_fit, question4, stack_tests, question5, form_tests, well_formed}
use Rattle.machine.specs.Computed.{machines}
use Rattle.machine.proofs.Tests.{implies_true, true_implies, Passed, no_more, ◌also◌, all_passed, passed_all, below_true, true_below}

-- ---- lists of numbers

-- n numbers below a bound
pub record Sized (n top : ℕ) (l : List ℕ) : Type 0 where
  pub count : length l ≡ n
  pub range : Below top l

pub sized_set : {n top : ℕ} {l : List ℕ} (i x : ℕ) → Sized n top l → x < top → Sized n top (set l i x)
sized_set {top = top} {l} i x s h =
    record { count = length-set l i x ∙ s.count; range = each_set (λ j y. y < top) l i x s.range h }

-- ---- control registers

-- each holds what it can; past the last one there is 0
pub record Registers (l : List ℕ) : Type 0 where
  pub count : length l ≡ OFFSETS
  pub hold : (i : ℕ) → can_hold (register_at i) (get_or l i 0) ≡ true

pub registers_set : {l : List ℕ} (i x : ℕ) → Registers l → can_hold (register_at i) x ≡ true → Registers (set l i x)
registers_set {l} i x s h =
    record { count = length-set l i x ∙ s.count; hold = each_set (λ j y. can_hold (register_at j) y ≡ true) l i x s.hold h }

-- they are words of 32 bits
pub registers_below : {l : List ℕ} → Registers l → Below (2 ^ 32) l
registers_below {l} s i = holds_word i (get_or l i 0) (s.hold i)

held_all : (i : ℕ) (l : List ℕ) → ((j : ℕ) → can_hold (register_at (i + j)) (get_or l j 0) ≡ true) → all_held i l ≡ true
unfolding all_held
held_all i [] h = refl
held_all i (x ∷ l) h =
    and_both (can_hold (register_at i) x) (all_held (suc i) l) (rw add-zero at (h 0))
    (held_all (suc i) l (λ j. let e : suc i + j ≡ i + suc j = omega arith in rw e (h (suc j))))

all_held_law : (i : ℕ) (l : List ℕ) → i + length l ≡ OFFSETS → all_held i l ≡ true → (j : ℕ) → can_hold (register_at (i + j)) (get_or l j 0) ≡ true
unfolding all_held
all_held_law i [] n h j = beyond_holds (i + j) (omega arith)
all_held_law i (x ∷ l) n h zero = rw add-zero (and_parts (can_hold (register_at i) x) (all_held (suc i) l) h).0
all_held_law i (x ∷ l) n h (suc j) =
    let e : i + suc j ≡ suc i + j = omega arith in
    rw e (all_held_law (suc i) l (omega arith) (and_parts (can_hold (register_at i) x) (all_held (suc i) l) h).1 j)

zero_plus : (j : ℕ) → 0 + j ≡ j
zero_plus j = omega arith

registers_held : {l : List ℕ} → Registers l → all_held 0 l ≡ true
registers_held {l} s = held_all 0 l (λ j. rw zero_plus (s.hold j))

held_registers : (l : List ℕ) → length l ≡ OFFSETS → all_held 0 l ≡ true → Registers l
held_registers l n h = record { count = n; hold = λ j. rw zero_plus at (all_held_law 0 l (omega arith) h j) }

-- ---- a status: PSR, at most 31, and in user mode RSRD and RSWR 0

pub record StatusOk (q : ℕ) : Type 0 where
  pub small : q < 32
  pub sets : user_mode q ≡ true → q % 8 ≡ 1

status_sets : {q : ℕ} → StatusOk q → sets_fit q ≡ true
unfolding sets_fit
status_sets {q} s = implies_true (user_mode q) (eqb (q % 8) 1) (λ u. eq-eqb (q % 8) 1 (s.sets u))

status : (q : ℕ) → ltb q 32 ≡ true → sets_fit q ≡ true → StatusOk q
unfolding sets_fit
status q a b = record { small = ltb-true q 32 a; sets = λ u. eqb-true (q % 8) 1 (true_implies (user_mode q) (eqb (q % 8) 1) b u) }

-- ---- the position

pub record Placed (q : Position) : Type 0 where
  pub address : q.pc < 2 ^ 32
  pub slot : q.slot < 2
  pub target : q.target < 2 ^ 32
  pub held : q.held < 2
  pub high : q.high < 2 ^ 32
  pub low : q.low < 2 ^ 32
  pub no_slot : q.slot ≡ 0 → q.target ≡ 0
  pub no_product : q.held ≡ 0 → (q.high ≡ 0) × (q.low ≡ 0)

placed_passed : {q : Position} → Placed q → Passed (position_tests q)
unfolding position_tests
placed_passed {q} w =
    lt-ltb _ _ w.address also
    lt-ltb _ _ w.slot also
    lt-ltb _ _ w.target also
    implies_true _ _ (λ e. eq-eqb _ _ (w.no_slot (eqb-true _ _ e))) also
    lt-ltb _ _ w.held also
    lt-ltb _ _ w.high also
    lt-ltb _ _ w.low also
    implies_true _ _ (λ e. eq-eqb _ _ (w.no_product (eqb-true _ _ e)).0) also
    implies_true _ _ (λ e. eq-eqb _ _ (w.no_product (eqb-true _ _ e)).1) also
    no_more

passed_placed : (q : Position) → Passed (position_tests q) → Placed q
unfolding position_tests
passed_placed q (pc also slot also target also no_slot also held also high also low also no-high also no-low also no_more) =
    record {
      address = ltb-true q.pc (2 ^ 32) pc;
      slot = ltb-true q.slot 2 slot;
      target = ltb-true q.target (2 ^ 32) target;
      held = ltb-true q.held 2 held;
      high = ltb-true q.high (2 ^ 32) high;
      low = ltb-true q.low (2 ^ 32) low;
      no_slot = λ e. eqb-true q.target 0 (true_implies _ _ no_slot (eq-eqb q.slot 0 e));
      no_product = λ e. (
        eqb-true q.high 0 (true_implies _ _ no-high (eq-eqb q.held 0 e)),
        eqb-true q.low 0 (true_implies _ _ no-low (eq-eqb q.held 0 e)),
      );
    }

-- ---- the stack

pub record EntryOk (e : Entry) : Type 0 where
  pub source : e.source < 12
  pub address : e.address < 2 ^ 32
  pub status : StatusOk e.psr
  pub c0 : e.c0 < 8

-- good entries, no two of one source
pub data Stacked : List Entry → Type 0 where
  empty : Stacked []
  pushed : {e : Entry} {es : List Entry} → EntryOk e → is_among e.source (sources_of es) ≡ false → Stacked es → Stacked (e ∷ es)

stacked_fit : {es : List Entry} → Stacked es → entries_fit es ≡ true
unfolding entries_fit
stacked_fit empty = refl
stacked_fit (pushed {e = e} k n s) =
    and_both _ _ (and_both _ _ (lt-ltb e.address (2 ^ 32) k.address) (and_both _ _ (lt-ltb e.psr 32 k.status.small) (lt-ltb e.c0 8 k.c0))) (stacked_fit s)

stacked_modes : {es : List Entry} → Stacked es → modes_fit es ≡ true
unfolding modes_fit
stacked_modes empty = refl
stacked_modes (pushed k n s) = and_both _ _ (status_sets k.status) (stacked_modes s)

pub stacked_distinct : {es : List Entry} → Stacked es → distinct_below 12 (sources_of es) ≡ true
unfolding distinct_below sources_of
stacked_distinct empty = refl
stacked_distinct (pushed {e = e} k n s) = and_both _ _ (lt-ltb e.source 12 k.source) (and_both _ _ (ap not n) (stacked_distinct s))

pub stacked_depth : {es : List Entry} → Stacked es → length es ≤ 12
stacked_depth {es} s = depth_most es (stacked_distinct s)

pub stacked_flags : {es : List Entry} → Stacked es → service_flags es < 2 ^ 12
stacked_flags {es} s = service_below es (stacked_distinct s)

stacked : (es : List Entry) → entries_fit es ≡ true → modes_fit es ≡ true → distinct_below 12 (sources_of es) ≡ true → Stacked es
unfolding entries_fit modes_fit distinct_below sources_of
stacked [] a b c = empty
stacked (e ∷ es) a b c =
    let f = and_parts (ltb e.address (2 ^ 32) && (ltb e.psr 32 && ltb e.c0 8)) (entries_fit es) a in
    let g = and_parts (ltb e.address (2 ^ 32)) (ltb e.psr 32 && ltb e.c0 8) f.0 in
    let h = and_parts (ltb e.psr 32) (ltb e.c0 8) g.1 in
    let m = and_parts (sets_fit e.psr) (modes_fit es) b in
    let d = and_parts (ltb e.source 12) (not (is_among e.source (sources_of es)) && distinct_below 12 (sources_of es)) c in
    let n = and_parts (not (is_among e.source (sources_of es))) (distinct_below 12 (sources_of es)) d.1 in
    pushed
    record {
      source = ltb-true e.source 12 d.0;
      address = ltb-true e.address (2 ^ 32) g.0;
      status = status e.psr h.0 m.0;
      c0 = ltb-true e.c0 8 h.1;
    }
    (not-true (is_among e.source (sources_of es)) n.0)
    (stacked es f.1 m.1 n.1)

-- ---- the machine

pub record WellFormed (m : Machine) : Type 0 where
  pub set1 : Sized REGISTERS (2 ^ 32) m.set1
  pub set2 : Sized REGISTERS (2 ^ 32) m.set2
  pub conditions : Sized FLAGS 8 m.conditions
  pub control : Registers m.control
  pub status : StatusOk (psr m)
  pub served : control_at m INT_SERV ≡ service_flags m.stack
  pub return_address : control_at m RETI_ADDR ≡ (shown_top m.stack).address
  pub return_status : control_at m RETI_PSR ≡ (shown_top m.stack).psr
  pub return_flags : control_at m RETI_CR0 ≡ (shown_top m.stack).c0
  pub position : Placed m.position
  pub stack : Stacked m.stack
  pub dividers : Sized TIMERS 256 m.dividers

-- the lists have their counts
pub record Counts (m : Machine) : Type 0 where
  pub set1 : length m.set1 ≡ REGISTERS
  pub set2 : length m.set2 ≡ REGISTERS
  pub conditions : length m.conditions ≡ FLAGS
  pub control : length m.control ≡ OFFSETS
  pub dividers : length m.dividers ≡ TIMERS

pub formed_counts : {m : Machine} → WellFormed m → Counts m
formed_counts w =
    record { set1 = w.set1.count; set2 = w.set2.count; conditions = w.conditions.count; control = w.control.count; dividers = w.dividers.count }

passed_formed : (m : Machine) → Counts m → Passed (number_tests m) → all_below 256 m.dividers ≡ true → question4 m ≡ true → Passed (stack_tests m) → WellFormed m
unfolding number_tests question4 stack_tests
passed_formed m c (words1 also words2 also small also flags also hold also place also fit also no_more) divided modes
    (distinct also served also address also psr-shown also c0-shown also no_more) =
    let n = and_parts (sets_fit (psr m)) (modes_fit m.stack) modes in
    record {
      set1 = record { count = c.set1; range = true_below (2 ^ 32) m.set1 (lit< tt) words1 };
      set2 = record { count = c.set2; range = true_below (2 ^ 32) m.set2 (lit< tt) words2 };
      conditions = record { count = c.conditions; range = true_below 8 m.conditions (lit< tt) flags };
      control = held_registers m.control c.control hold;
      status = status (psr m) small n.0;
      served = eqb-true _ _ served;
      return_address = eqb-true _ _ address;
      return_status = eqb-true _ _ psr-shown;
      return_flags = eqb-true _ _ c0-shown;
      position = passed_placed m.position (all_passed (position_tests m.position) place);
      stack = stacked m.stack fit n.1 distinct;
      dividers = record { count = c.dividers; range = true_below 256 m.dividers (lit< tt) divided };
    }

-- the counts, and a yes to 3, 4 and 5
pub questions_formed : (m : Machine) → Counts m → question3 m ≡ true → question4 m ≡ true → question5 m ≡ true → WellFormed m
unfolding question3 question5
questions_formed m c e₃ e₄ e₅ = let t = and_parts (all (number_tests m)) _ e₃ in
    passed_formed m c (all_passed (number_tests m) t.0) t.1 e₄ (all_passed (stack_tests m) e₅)

pub formed_3 : {m : Machine} → WellFormed m → question3 m ≡ true
unfolding question3 number_tests
formed_3 {m} w =
    and_both _ _
    (passed_all (
    below_true _ _ w.set1.range also
    below_true _ _ w.set2.range also
    lt-ltb _ _ w.status.small also
    below_true _ _ w.conditions.range also
    registers_held w.control also
    passed_all (placed_passed w.position) also
    stacked_fit w.stack also
    no_more))
    (below_true _ _ w.dividers.range)

pub formed_4 : {m : Machine} → WellFormed m → question4 m ≡ true
unfolding question4
formed_4 w = and_both _ _ (status_sets w.status) (stacked_modes w.stack)

pub formed_5 : {m : Machine} → WellFormed m → question5 m ≡ true
unfolding question5 stack_tests
formed_5 w =
    passed_all (
    stacked_distinct w.stack also
    eq-eqb _ _ w.served also
    eq-eqb _ _ w.return_address also
    eq-eqb _ _ w.return_status also
    eq-eqb _ _ w.return_flags also
    no_more)

-- ---- the definition says just these facts

pub formed_true : {m : Machine} → WellFormed m → well_formed m ≡ true
unfolding well_formed form_tests
formed_true w =
    passed_all (
    eq-eqb _ _ w.set1.count also
    eq-eqb _ _ w.set2.count also
    eq-eqb _ _ w.conditions.count also
    eq-eqb _ _ w.control.count also
    eq-eqb _ _ w.dividers.count also
    formed_3 w also
    formed_4 w also
    formed_5 w also
    no_more)

tests_formed : (m : Machine) → Passed (form_tests m) → WellFormed m
unfolding form_tests
tests_formed m (set1 also set2 also conditions also control also dividers also e₃ also e₄ also e₅ also no_more) =
    questions_formed m
    record { set1 = eqb-true _ _ set1; set2 = eqb-true _ _ set2; conditions = eqb-true _ _ conditions; control = eqb-true _ _ control; dividers = eqb-true _ _ dividers }
    e₃ e₄ e₅

pub true_formed : (m : Machine) → well_formed m ≡ true → WellFormed m
unfolding well_formed
true_formed m e = tests_formed m (all_passed (form_tests m) e)

-- ---- reset

pub reset_true : well_formed reset ≡ true
unfolding machines
reset_true = refl

pub reset_formed : WellFormed reset
reset_formed = true_formed reset reset_true
