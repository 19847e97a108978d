-- A machine's numbers and their sections: what is written is read back, what was read is written back. Assumes nothing.
use mathlib.Core.Path.{◌≡◌, refl, sym, ap, ◌∙◌}
use mathlib.Core.List.{List, [], ◌∷◌, ◌++◌, append-nil, append_assoc, reverse, reverse-reverse}
use Prim.Native.Nat.{ℕ, zero, suc, ◌+◌, ◌*◌, ◌≤◌, ◌<◌}
use native.Mathlib.Omega.{arith}
use native.Mathlib.Nat.{add-zero}
use native.Mathlib.Numerals.{add-one}
use lib.ListN.{length, get_or, take, drop, length-append, length-reverse, length-drop, take-append-drop}
use lib.Seq.{drop-length, take_at, drop_at, take-add, take-take, drop-drop, drop-cons, get_or-drop}
use Rattle.machine.specs.Machine.{Machine, with_dividers}
use Rattle.machine.specs.Words.{REGISTERS, FLAGS, OFFSETS, PLACES, TIMERS, DIVIDERS, section, position_of, entries_of, machine_of}
use Rattle.machine.specs.declared.stack.Entry.{Entry}
use Rattle.machine.proofs.Flat.{section_length, depth_is}
use Rattle.image.specs.Image.{position_numbers, entry_numbers, section_numbers, image_numbers, SET1_AT, SET2_AT, CONDITIONS_AT, CONTROL_AT, POSITION_AT, STACK_AT, count_of, dividers_at, machine_with, machine_in}
use Rattle.machine.proofs.Formed.{Counts}

-- words whose sections have their counts
pub record Counted (ws : List ℕ) : Type 0 where
  pub set1 : count_of SET1_AT ws ≡ REGISTERS
  pub set2 : count_of SET2_AT ws ≡ REGISTERS
  pub conditions : count_of CONDITIONS_AT ws ≡ FLAGS
  pub control : count_of CONTROL_AT ws ≡ OFFSETS
  pub position : count_of POSITION_AT ws ≡ PLACES

-- the words of a machine have the order of an image's numbers up to the stack
pub same_order : (ns : List ℕ) → machine_of ns ≡ machine_with (section DIVIDERS TIMERS ns) ns
unfolding machine_with machine_of
same_order ns = refl

-- ---- position and entries

-- the elements of a list from a place on, one by one
elements : (k at : ℕ) → List ℕ → List ℕ
elements zero at l = []
elements (suc k) at l = get_or l at 0 ∷ elements k (suc at) l

elements_section : (k at : ℕ) (l : List ℕ) → at + k ≤ length l → elements k at l ≡ section at k l
unfolding elements
elements_section zero at l h = refl
elements_section (suc k) at l h =
    ap (λ (t : List ℕ). get_or l at 0 ∷ t) (elements_section k (suc at) l (omega arith)) ∙ ap (take (suc k)) (sym (drop-cons l at 0 (omega arith)))

position_numbers_position_of : (l : List ℕ) → 6 ≤ length l → position_numbers (position_of l) ≡ take 6 l
unfolding position_numbers position_of elements
position_numbers_position_of l h = elements_section 6 0 l h

entry_numbers_entries_of : (n : ℕ) (l : List ℕ) → 4 * n ≤ length l → entry_numbers (entries_of n l) ≡ take (4 * n) l
unfolding entry_numbers entries_of elements
entry_numbers_entries_of zero l h = refl
entry_numbers_entries_of (suc n) l h =
    let e : 4 + 4 * n ≡ 4 * suc n = omega arith in
    let r : entry_numbers (entries_of n (drop 4 l)) ≡ take (4 * n) (drop 4 l) = entry_numbers_entries_of n (drop 4 l) (rw length-drop (omega arith)) in
    ap (λ (t : List ℕ). elements 4 0 l ++ t) r
    ∙ ap (λ (t : List ℕ). t ++ take (4 * n) (drop 4 l)) (elements_section 4 0 l (omega arith))
    ∙ sym (take-add 4 (4 * n) l)
    ∙ ap (λ (k : ℕ). take k l) e

entries_of_entry_numbers : (es : List Entry) (t : List ℕ) → entries_of (length es) (entry_numbers es ++ t) ≡ es
unfolding entries_of entry_numbers
entries_of_entry_numbers [] t = refl
entries_of_entry_numbers (e ∷ es) t = ap (λ (r : List Entry). e ∷ r) (entries_of_entry_numbers es t)

pub length_entry_numbers : (es : List Entry) → length (entry_numbers es) ≡ 4 * length es
unfolding entry_numbers
length_entry_numbers [] = refl
length_entry_numbers (e ∷ es) = omega (arith, length_entry_numbers es)

-- ---- what is written is read back

module _ (ws : List ℕ) (at : ℕ) {c : ℕ} {q : List ℕ} (e : drop at ws ≡ c ∷ q) where
  count_read : get_or ws at 0 ≡ c
  count_read = ap (λ (k : ℕ). get_or ws k 0) (sym (add-zero at)) ∙ sym (get_or-drop at ws 0 0) ∙ ap (λ (l : List ℕ). get_or l 0 0) e

  after_count : drop (suc at) ws ≡ q
  after_count = ap (λ (k : ℕ). drop k ws) (sym (add-one at)) ∙ sym (drop-drop 1 at ws) ∙ ap (drop 1) e

-- at a place stands a section: its count, its numbers, and what follows
record Section (ws : List ℕ) (at n : ℕ) (p q : List ℕ) : Type 0 where
  starts : drop at ws ≡ n ∷ p ++ q
  size : length p ≡ n

section_read : {ws : List ℕ} {at n : ℕ} {p q : List ℕ} → Section ws at n p q → section (suc at) n ws ≡ p
section_read {ws} {at} {n} {p} {q} s = ap (take n) (after_count ws at s.starts) ∙ take_at p q n s.size

next : {ws : List ℕ} {at n : ℕ} {p q : List ℕ} → Section ws at n p q → drop (suc at + n) ws ≡ q
next {ws} {at} {n} {p} {q} s = sym (drop-drop n (suc at) ws) ∙ ap (drop n) (after_count ws at s.starts) ∙ drop_at p q n s.size

-- the stack is bottom first in an image
stack_read : (es : List Entry) (t : List ℕ) {n : ℕ} {l : List ℕ} → n ≡ length es → l ≡ entry_numbers (reverse es) ++ t → reverse (entries_of n l) ≡ es
stack_read es t d e = rw (e, d, ← length-reverse es, entries_of_entry_numbers (reverse es) t) (reverse-reverse es)

-- the sections up to the stack, and what follows them
pub append_section_numbers : (m : Machine) (t : List ℕ)
    → section_numbers m ++ t ≡ 32 ∷ m.set1 ++ (32 ∷ m.set2 ++ (8 ∷ m.conditions ++ (45 ∷ m.control ++ (6 ∷ position_numbers m.position ++ (length m.stack ∷ entry_numbers (reverse m.stack) ++ t)))))
unfolding section_numbers
append_section_numbers m t = simp append_assoc

pub length_section_numbers : (m : Machine) → Counts m → length (section_numbers m) ≡ STACK_AT + 4 * length m.stack
unfolding section_numbers position_numbers
length_section_numbers m c = simp (length-append, length_entry_numbers, length-reverse) (omega (arith, c.set1, c.set2, c.conditions, c.control))

module _ (m : Machine) (c : Counts m) (t : List ℕ) where
  abbrev numbers : List ℕ
  numbers = section_numbers m ++ t

  rest₆ : List ℕ
  rest₆ = length m.stack ∷ entry_numbers (reverse m.stack) ++ t

  rest₅ : List ℕ
  rest₅ = 6 ∷ position_numbers m.position ++ rest₆

  rest₄ : List ℕ
  rest₄ = 45 ∷ m.control ++ rest₅

  rest₃ : List ℕ
  rest₃ = 8 ∷ m.conditions ++ rest₄

  rest₂ : List ℕ
  rest₂ = 32 ∷ m.set2 ++ rest₃

  section₁ : Section numbers 0 32 m.set1 rest₂
  unfolding rest₂ rest₃ rest₄ rest₅ rest₆
  section₁ = record { starts = append_section_numbers m t; size = c.set1 }

  section₂ : Section numbers 33 32 m.set2 rest₃
  unfolding rest₂
  section₂ = record { starts = next section₁; size = c.set2 }

  section₃ : Section numbers 66 8 m.conditions rest₄
  unfolding rest₃
  section₃ = record { starts = next section₂; size = c.conditions }

  section₄ : Section numbers 75 45 m.control rest₅
  unfolding rest₄
  section₄ = record { starts = next section₃; size = c.control }

  section₅ : Section numbers 121 6 (position_numbers m.position) rest₆
  unfolding rest₅ position_numbers
  section₅ = record { starts = next section₄; size = refl }

  section₆ : drop 128 numbers ≡ length m.stack ∷ entry_numbers (reverse m.stack) ++ t
  unfolding rest₆
  section₆ = next section₅

  -- the counts stand at their places
  pub counted_numbers : Counted numbers
  counted_numbers =
      record {
        set1 = count_read numbers 0 section₁.starts;
        set2 = count_read numbers 33 section₂.starts;
        conditions = count_read numbers 66 section₃.starts;
        control = count_read numbers 75 section₄.starts;
        position = count_read numbers 121 section₅.starts;
      }

  pub depth_numbers : count_of STACK_AT numbers ≡ length m.stack
  depth_numbers = count_read numbers 128 section₆

  -- what follows the last entry
  pub numbers_after : drop (STACK_AT + 4 * count_of STACK_AT numbers) numbers ≡ t
  numbers_after = rw depth_numbers (drop_at (section_numbers m) t (STACK_AT + 4 * length m.stack) (length_section_numbers m c))

  -- the machine is read back
  pub machine_with_numbers : (ds : List ℕ) → machine_with ds numbers ≡ with_dividers ds m
  unfolding machine_with with_dividers position_of position_numbers
  machine_with_numbers ds = λ i. record {
    set1 = section_read section₁ i;
    set2 = section_read section₂ i;
    conditions = section_read section₃ i;
    control = section_read section₄ i;
    position = position_of (section_read section₅ i);
    stack = stack_read m.stack t depth_numbers (after_count numbers 128 section₆) i;
    dividers = ds;
  }

module _ (m : Machine) (c : Counts m) where
  -- the section behind the stack
  last_section : Section (image_numbers m) (STACK_AT + 4 * count_of STACK_AT (image_numbers m)) TIMERS m.dividers []
  unfolding image_numbers
  last_section =
      record { starts = numbers_after m c (TIMERS ∷ m.dividers) ∙ ap (λ (l : List ℕ). TIMERS ∷ l) (sym (append-nil m.dividers)); size = c.dividers }

  pub last_count : count_of (dividers_at (image_numbers m)) (image_numbers m) ≡ TIMERS
  last_count = count_read (image_numbers m) (STACK_AT + 4 * count_of STACK_AT (image_numbers m)) last_section.starts

  pub machine_in_image_numbers : machine_in (image_numbers m) ≡ m
  unfolding machine_in image_numbers with_dividers
  machine_in_image_numbers =
      ap (λ (ds : List ℕ). machine_with ds (image_numbers m)) (section_read last_section) ∙ machine_with_numbers m c (TIMERS ∷ m.dividers) m.dividers

  pub length_image_numbers : length (image_numbers m) ≡ STACK_AT + 1 + TIMERS + 4 * length m.stack
  unfolding image_numbers
  length_image_numbers = simp length-append (omega (arith, length_section_numbers m c, c.dividers))

-- ---- what was read is written back

-- the stack has as many entries as its count says
pub depth_machine_with : (ds ns : List ℕ) → length (machine_with ds ns).stack ≡ count_of STACK_AT ns
unfolding machine_with machine_of
depth_machine_with ds ns = depth_is ns

-- the lists have their counts where the words are enough
pub counts_machine_with : (ds ws : List ℕ) → length ds ≡ TIMERS → STACK_AT ≤ length ws → Counts (machine_with ds ws)
unfolding machine_with
counts_machine_with ds ws e h =
    record {
      set1 = section_length ws SET1_AT 32 (omega arith);
      set2 = section_length ws SET2_AT 32 (omega arith);
      conditions = section_length ws CONDITIONS_AT 8 (omega arith);
      control = section_length ws CONTROL_AT 45 (omega arith);
      dividers = e;
    }

-- from a place on: a count, a section, and what follows
join : (ws : List ℕ) (at n c : ℕ) {p t : List ℕ} → at < length ws → c ≡ get_or ws at 0 → p ≡ section (suc at) n ws → t ≡ drop (suc at + n) ws
    → c ∷ p ++ t ≡ drop at ws
join ws at n c h e f g =
    rw (e, f, g, ← drop-drop n (suc at) ws, take-append-drop n (drop (suc at) ws)) (sym (drop-cons ws at 0 h))

module _ (ds ws : List ℕ) (c : Counted ws) (long : STACK_AT + 4 * count_of STACK_AT ws ≤ length ws) where
  position_back : position_numbers (machine_with ds ws).position ≡ section POSITION_AT 6 ws
  unfolding machine_with
  position_back =
      let n : length (section POSITION_AT 6 ws) ≡ 6 = section_length ws POSITION_AT 6 (omega arith) in
      position_numbers_position_of (section POSITION_AT 6 ws) (omega arith) ∙ take-take 6 6 (drop POSITION_AT ws) (omega arith)

  entries_back : entry_numbers (reverse (machine_with ds ws).stack) ≡ section STACK_AT (4 * count_of STACK_AT ws) ws
  unfolding machine_with
  entries_back =
      ap entry_numbers (reverse-reverse (entries_of (count_of STACK_AT ws) (drop STACK_AT ws)))
      ∙ entry_numbers_entries_of (count_of STACK_AT ws) (drop STACK_AT ws) (rw length-drop (omega arith))

  -- with the words past the last entry
  pub all_words : section_numbers (machine_with ds ws) ++ drop (STACK_AT + 4 * count_of STACK_AT ws) ws ≡ ws
  unfolding machine_with
  all_words =
      append_section_numbers (machine_with ds ws) (drop (STACK_AT + 4 * count_of STACK_AT ws) ws)
      ∙ join ws 0 32 32 (omega arith) (sym c.set1) refl
      (join ws 33 32 32 (omega arith) (sym c.set2) refl
      (join ws 66 8 8 (omega arith) (sym c.conditions) refl
      (join ws 75 45 45 (omega arith) (sym c.control) refl
      (join ws 121 6 6 (omega arith) (sym c.position) position_back
      (join ws 128 (4 * count_of STACK_AT ws) _ (omega arith) (depth_machine_with ds ws) entries_back refl)))))

-- with the section behind the stack
pub image_numbers_machine_in : (ws : List ℕ) → Counted ws → length ws ≡ STACK_AT + 1 + TIMERS + 4 * count_of STACK_AT ws → count_of (dividers_at ws) ws ≡ TIMERS → image_numbers (machine_in ws) ≡ ws
unfolding image_numbers machine_in machine_with
image_numbers_machine_in ws c n e =
    let at = STACK_AT + 4 * count_of STACK_AT ws in
    let ds = section (suc at) TIMERS ws in
    let size : suc at + TIMERS ≡ length ws = omega arith in
    let end : drop (suc at + TIMERS) ws ≡ [] = ap (λ (k : ℕ). drop k ws) size ∙ drop-length ws in
    let last : TIMERS ∷ ds ≡ drop at ws = ap (λ (l : List ℕ). TIMERS ∷ l) (sym (append-nil ds)) ∙ join ws at TIMERS TIMERS (omega arith) (sym e) refl (sym end) in
    ap (λ (l : List ℕ). section_numbers (machine_with ds ws) ++ l) last ∙ all_words ds ws c (omega arith)
