-- Questions 3 to 5 as the code asks them, in their order. Assumes nothing.
use mathlib.Core.Path.{◌≡◌, refl, sym, ap, ◌∙◌}
use mathlib.Core.Logic.{◌≢◌}
use mathlib.Core.Bool.{Bool, true, false, not, ◌&&◌, and-false, and-true, and_assoc}
use mathlib.Core.List.{List, [], ◌∷◌}
use Prim.Native.Nat.{ℕ, ◌%◌, ◌^◌, ◌<◌}
use native.Mathlib.Omega.{arith}
use native.Mathlib.Nat.{mod-one}
use lib.Dec.{ltb, leb, eqb}
use lib.ListN.{length, length-map}
use borrow.Author.Tests.{lt-ltb, eq-eqb, ne_eqb}
use Rattle.std.proofs.Common.{reverse}
use Rattle.std.proofs.lemmas.List.{reverse-append}
use Rattle.std.proofs.lemmas.List.Folds.{list_all-append}
use Rattle.word.specs.Choice.{choose◌then◌else◌}
use Rattle.word.specs.Flags.{ones_of, distinct_below}
use Rattle.machine.specs.Machine.{Machine, psr}
use Rattle.machine.specs.Control.{registers, register_at, control_at, largest, holds_as, can_hold, INT_SERV, RETI_ADDR, RETI_PSR, RETI_CR0}
use Rattle.machine.specs.Stack.{sources_of, service_flags, shown_top}
use Rattle.machine.specs.declared.position.Position.{Position}
use Rattle.machine.specs.declared.stack.Entry.{Entry}
use Rattle.machine.proofs.Widths.{no_zeros, not_constant, limit_below}
use Rattle.machine.specs.Questions.{implies, all, all_below, all_held, entries_fit, position_tests, number_tests, question3, sets_fit, modes_fit, question4, stack_tests, question5, Read, Refused, Accepted, ask_machine, read_by}
use Rattle.machine.specs.EntryTests.{ranges_fit, mode_fits, source_fits}
use Rattle.std.specs.List.{list_all}
use Rattle.machine.proofs.Formed.{Counts, WellFormed, formed_3, formed_4, formed_5, questions_formed}
use Rattle.machine.proofs.Distinct.{flags_small, distinct_counted}

-- ---- question 3

-- the position's numbers are words
pub position_words : (p : Position) → p.pc < 2 ^ 32 → p.target < 2 ^ 32 → p.high < 2 ^ 32 → p.low < 2 ^ 32
    → ltb p.slot 2 && implies (eqb p.slot 0) (eqb p.target 0)
    && (ltb p.held 2 && implies (eqb p.held 0) (eqb p.high 0) && implies (eqb p.held 0) (eqb p.low 0)) ≡ all (position_tests p)
unfolding all position_tests
position_words p a b c d =
    simp (lt-ltb p.pc (2 ^ 32) a, lt-ltb p.target (2 ^ 32) b, lt-ltb p.high (2 ^ 32) c, lt-ltb p.low (2 ^ 32) d, and_assoc, and-true)

-- and so is an entry's address
pub entry_words : (e : Entry) → e.address < 2 ^ 32 → ltb e.psr 32 && ltb e.c0 8 ≡ ranges_fit e
entry_words e h = rw (lt-ltb e.address (2 ^ 32) h) refl

range_entries : (es : List Entry) → entries_fit es ≡ list_all ranges_fit es
unfolding entries_fit
range_entries [] = refl
range_entries (e ∷ es) = ap (λ (b : Bool). ranges_fit e && b) (range_entries es)

-- the order of entries does not matter
pub all_reversed : (f : Entry → Bool) (l : List Entry) → list_all f (reverse l) ≡ list_all f l
all_reversed f [] = refl
all_reversed f (x ∷ l) =
    ap (list_all f) (reverse-append (x ∷ []) l) ∙ list_all-append f (reverse l) (x ∷ []) ∙ turned (f x) (list_all f (reverse l)) (list_all f l) (all_reversed f l)
  where
    turned : (a b c : Bool) → b ≡ c → b && (a && true) ≡ a && c
    turned true b c e = and-true b ∙ e
    turned false b c e = and-false b

-- and so are the registers
pub numbers_words : (m : Machine) (l : List Entry) → reverse l ≡ m.stack → all_below (2 ^ 32) m.set1 ≡ true → all_below (2 ^ 32) m.set2 ≡ true
    → ltb (psr m) 32 && all_below 8 m.conditions && all_held 0 m.control && all (position_tests m.position) && list_all ranges_fit l && all_below 256 m.dividers
    ≡ question3 m
unfolding question3 number_tests all
numbers_words m l s a b =
    let e : list_all ranges_fit l ≡ entries_fit m.stack = sym (all_reversed ranges_fit l) ∙ ap (list_all ranges_fit) s ∙ sym (range_entries m.stack) in
    simp (e, a, b, and_assoc, and-true)

-- CCB_BASE's low byte is 0, FPU_STATUS is 0, CORE_VER_ID 1, and the others hold what has their bits
module _ (n x : ℕ) (h : x < 2 ^ 32) where
  pub held_base : n ≡ 0x00 → eqb (x % 256) 0 ≡ can_hold (register_at n) x
  unfolding can_hold register_at registers holds_as
  held_base e = rw e (simp (lt-ltb x (2 ^ 32) h, and-true))

  pub held_status : n ≡ 0x2B → eqb x 0 ≡ can_hold (register_at n) x
  unfolding can_hold register_at registers holds_as
  held_status e = rw e (simp (lt-ltb x (2 ^ 32) h, mod-one x))

  pub held_version : n ≡ 0x2C → eqb x 1 ≡ can_hold (register_at n) x
  unfolding can_hold register_at registers holds_as
  held_version e = rw e (simp (lt-ltb x (2 ^ 32) h, mod-one x))

pub held_others : (n x most : ℕ) → most ≡ largest (register_at n) → n < 45 → (n ≡ 0x00 → ⊥) → (n ≡ 0x2B → ⊥) → (n ≡ 0x2C → ⊥) → leb x most ≡ can_hold (register_at n) x
unfolding can_hold
held_others n x most e l z s v =
    let h : n < 0x2B = omega arith in
    rw e (limit_below (register_at n) x
    ∙ sym (rw (no_zeros n z, not_constant n x h, mod-one x) (and-true (ltb x (2 ^ (register_at n).width)))))

-- ---- question 4

mode_entries : (es : List Entry) → modes_fit es ≡ list_all mode_fits es
unfolding modes_fit
mode_entries [] = refl
mode_entries (e ∷ es) = ap (λ (b : Bool). sets_fit e.psr && b) (mode_entries es)

pub modes_entries : (m : Machine) (l : List Entry) → reverse l ≡ m.stack → sets_fit (psr m) && list_all mode_fits l ≡ question4 m
unfolding question4
modes_entries m l s =
    let e : list_all mode_fits l ≡ modes_fit m.stack = sym (all_reversed mode_fits l) ∙ ap (list_all mode_fits) s ∙ sym (mode_entries m.stack) in
    ap (λ (b : Bool). sets_fit (psr m) && b) e

-- ---- question 5

source_entries : (es : List Entry) → list_all source_fits es ≡ all_below 12 (sources_of es)
unfolding all_below sources_of
source_entries [] = refl
source_entries (e ∷ es) = ap (λ (b : Bool). ltb e.source 12 && b) (source_entries es)

pub service_small : (es : List Entry) → list_all source_fits es ≡ true → service_flags es < 2 ^ 12
unfolding service_flags
service_small es e = flags_small 12 (sources_of es) (sym (source_entries es) ∙ e)

-- all different: as many ones as entries
different_entries : (es : List Entry) → distinct_below 12 (sources_of es) ≡ list_all source_fits es && eqb (ones_of 12 (service_flags es)) (length es)
unfolding service_flags sources_of
different_entries es =
    distinct_counted 12 (sources_of es) ∙ rw (source_entries es, length-map es (λ (e : Entry). e.source))

module _ (m : Machine) where
  pub sources_refused : list_all source_fits m.stack ≡ false → false ≡ question5 m
  unfolding question5 stack_tests all
  sources_refused e = rw (different_entries m.stack, e)

  pub service_refused : control_at m INT_SERV ≢ service_flags m.stack → false ≡ question5 m
  unfolding question5 stack_tests all
  service_refused n = rw (ne_eqb _ _ n) (sym (and-false (distinct_below 12 (sources_of m.stack))))

  -- the ones of INT_SERV itself
  pub service_counted : list_all source_fits m.stack ≡ true → control_at m INT_SERV ≡ service_flags m.stack
      → eqb (ones_of 12 (control_at m INT_SERV)) (length m.stack)
      && eqb (control_at m RETI_ADDR) (shown_top m.stack).address && eqb (control_at m RETI_PSR) (shown_top m.stack).psr
      && eqb (control_at m RETI_CR0) (shown_top m.stack).c0 ≡ question5 m
  unfolding question5 stack_tests all
  service_counted s e =
      let served : eqb (control_at m INT_SERV) (service_flags m.stack) ≡ true = eq-eqb _ _ e in
      let different : distinct_below 12 (sources_of m.stack) ≡ eqb (ones_of 12 (control_at m INT_SERV)) (length m.stack) = different_entries m.stack ∙ rw (s, e) in
      simp (different, served, and_assoc, and-true)

-- ---- the number of the first no

module _ (m : Machine) where
  pub refused_3 : question3 m ≡ false → read_by 3 m ≡ ask_machine m
  unfolding ask_machine read_by choose◌then◌else◌
  refused_3 a = rw a

  pub refused_4 : question3 m ≡ true → question4 m ≡ false → read_by 4 m ≡ ask_machine m
  unfolding ask_machine read_by choose◌then◌else◌
  refused_4 a b = rw (a, b)

  pub refused_5 : question3 m ≡ true → question4 m ≡ true → question5 m ≡ false → read_by 5 m ≡ ask_machine m
  unfolding ask_machine read_by choose◌then◌else◌
  refused_5 a b c = rw (a, b, c)

  pub refused_none : question3 m ≡ true → question4 m ≡ true → question5 m ≡ true → read_by 0 m ≡ ask_machine m
  unfolding ask_machine read_by choose◌then◌else◌
  refused_none a b c = rw (a, b, c)

-- ---- accepted: well formed

pub ask_machine_formed : {m : Machine} → WellFormed m → ask_machine m ≡ Accepted m
unfolding ask_machine choose◌then◌else◌
ask_machine_formed w = rw (formed_3 w, formed_4 w, formed_5 w)

-- what is accepted was not refused
question_yes : (b : Bool) (n : ℕ) (r : Read) (m : Machine) → choose◌then◌else◌ (not b) (Refused n) r ≡ Accepted m → (b ≡ true) × (r ≡ Accepted m)
unfolding choose◌then◌else◌
question_yes true n r m e = (refl, e)
question_yes false n r m e = absurd (let z : ◌≡◌ {A = ℕ} 0 1 = cc in omega arith)

pub machine_asked : (x m : Machine) → Counts x → ask_machine x ≡ Accepted m → (x ≡ m) × WellFormed x
unfolding ask_machine
machine_asked x m c e =
    let q₃ = question_yes (question3 x) 3 _ m e in
    let q₄ = question_yes (question4 x) 4 _ m q₃.1 in
    let q₅ = question_yes (question5 x) 5 _ m q₄.1 in
    let a : Accepted x ≡ Accepted m = q₅.1 in
    (cc, questions_formed x c q₃.0 q₄.0 q₅.0)
