-- The image as the code writes it: the machine's words with the five counts in their places and the last section behind the entries. Assumes nothing.
use mathlib.Core.Path.{◌≡◌, refl, sym, ap, ◌∙◌}
use mathlib.Core.Bool.{true}
use mathlib.Core.List.{List, [], ◌∷◌, ◌++◌}
use Prim.Native.Nat.{ℕ, suc, ◌+◌, ◌*◌, ◌≤◌, ◌<◌}
use native.Mathlib.Omega.{arith}
use lib.Dec.{lit<}
use lib.ListN.{length, get_or, set, take, drop, length-append, length-set}
use lib.Seq.{length-take-le, take_at, get_or-set_other, drop-set-lt, sets-eq}
use Rattle.codec.specs.Number.{bytes_of, over}
use Rattle.machine.specs.Machine.{Machine}
use Rattle.machine.specs.Words.{SET1, SET2, CONDITIONS, CONTROL, POSITION, SOURCES, TIMERS, DEPTH, ENTRIES, DIVIDERS, WORDS, section, machine_of}
use Rattle.machine.proofs.Lists.{get_same, get_other, pair}
use Rattle.machine.proofs.Flat.{apart, store_apart, dividers_length, depth_is, section_length}
use Rattle.machine.proofs.Formed.{Counts}
use Rattle.image.specs.Image.{section_numbers, image_numbers, write_image, machine_with}
use Rattle.image.proofs.Sections.{Counted, same_order, length_section_numbers, counts_machine_with, all_words}

-- ---- the counts

-- the words with the five counts in their places
abbrev pub with_counts : (words : List ℕ) → List ℕ
with_counts w = set (set (set (set (set w 0 32) 33 32) 66 8) 75 45) 121 6

-- and with the last section's numbers from a place on, as the code stores them
abbrev pub laid : (words : List ℕ) (at first second : ℕ) → List ℕ
laid w at a b = set (set (set (with_counts w) at TIMERS) (at + 1) a) (at + 2) b

-- a store between the sections leaves the machine
between : (w : List ℕ) (i v : ℕ) → i < DEPTH → apart i 1 SET1 32 ≡ true → apart i 1 SET2 32 ≡ true → apart i 1 CONDITIONS 8 ≡ true
    → apart i 1 CONTROL 45 ≡ true → apart i 1 POSITION 6 ≡ true → apart i 1 DIVIDERS TIMERS ≡ true → machine_of (set w (i + 0) v) ≡ machine_of w
unfolding machine_of
between w i v h a b c d e f =
    let l : i + 0 < ENTRIES = omega arith in
    simp (store_apart w v i 1 0 (lit< tt), get_or-set_other w (i + 0) DEPTH v 0 (λ q. omega arith), drop-set-lt ENTRIES w (i + 0) v l)

machine_counted : (w : List ℕ) → machine_of (with_counts w) ≡ machine_of w
machine_counted w =
    between _ 121 6 (lit< tt) refl refl refl refl refl refl
    ∙ between _ 75 45 (lit< tt) refl refl refl refl refl refl
    ∙ between _ 66 8 (lit< tt) refl refl refl refl refl refl
    ∙ between _ 33 32 (lit< tt) refl refl refl refl refl refl
    ∙ between _ 0 32 (lit< tt) refl refl refl refl refl refl

counted : (w : List ℕ) → length w ≡ WORDS → Counted (with_counts w)
counted w h =
    record {
      set1 = simp (get_other, get_same, h);
      set2 = simp (get_other, get_same, length-set, h);
      conditions = simp (get_other, get_same, length-set, h);
      control = simp (get_other, get_same, length-set, h);
      position = simp (get_same, length-set, h);
    }

-- words are enough for the lists' counts
machine_counts : (w : List ℕ) → length w ≡ WORDS → Counts (machine_of w)
machine_counts w h = rw (same_order w) (counts_machine_with (section DIVIDERS TIMERS w) w (section_length w DIVIDERS TIMERS (omega arith)) (omega arith))

module _ (w : List ℕ) (h : length w ≡ WORDS) (l : length (machine_of w).stack ≤ SOURCES) where
  abbrev size : ℕ
  size = ENTRIES + 4 * length (machine_of w).stack

  -- the words up to the last entry are the sections' numbers
  counted_sections : take size (with_counts w) ≡ section_numbers (machine_of w)
  counted_sections =
      let c = with_counts w in
      let m : machine_of c ≡ machine_of w = machine_counted w in
      let d : get_or c DEPTH 0 ≡ length (machine_of w).stack = sym (depth_is c) ∙ rw m in
      let long : ENTRIES + 4 * get_or c DEPTH 0 ≤ length c = rw d (simp length-set (omega arith)) in
      let whole = all_words (section DIVIDERS TIMERS c) c (counted w h) long in
      let same : machine_with (section DIVIDERS TIMERS c) c ≡ machine_of w = sym (same_order c) ∙ m in
      let parts : section_numbers (machine_of w) ++ drop size c ≡ c = rw (same, d) at whole in
      ap (take size) (sym parts) ∙ take_at (section_numbers (machine_of w)) (drop size c) size (length_section_numbers (machine_of w) (machine_counts w h))

  -- with the last section's numbers stored behind them they are the image's
  image_numbers_law : take (size + 3) (laid w size (get_or (machine_of w).dividers 0 0) (get_or (machine_of w).dividers 1 0)) ≡ image_numbers (machine_of w)
  unfolding image_numbers
  image_numbers_law =
      let c = with_counts w in
      let ds = (machine_of w).dividers in
      let last = TIMERS ∷ get_or ds 0 0 ∷ get_or ds 1 0 ∷ [] in
      let p : size + 1 ≡ suc size = omega arith in
      let q : size + 2 ≡ suc (suc size) = omega arith in
      let room : size + 3 ≤ length c = simp length-set (omega arith) in
      let n : length (take size c ++ last) ≡ size + 3 = length-append (take size c) last ∙ ap (λ (k : ℕ). k + 3) (length-take-le size c (omega arith)) in
      ap (take (size + 3)) (rw (p, q) (sets-eq last c size room))
      ∙ take_at (take size c ++ last) (drop (size + 3) c) (size + 3) n
      ∙ rw (counted_sections, ← pair ds (dividers_length w h))

-- words that say a machine, with the counts and the last section stored, are its image's numbers
pub image_written : (m : Machine) (w s : List ℕ) → machine_of w ≡ m → length w ≡ WORDS → length m.stack ≤ SOURCES
    → over (bytes_of (take (ENTRIES + 4 * length m.stack + 3) (laid w (ENTRIES + 4 * length m.stack) (get_or m.dividers 0 0) (get_or m.dividers 1 0)))) s ≡ over (write_image m) s
unfolding write_image
image_written m w s e h l = rw (← e) (ap (λ (n : List ℕ). over (bytes_of n) s) (image_numbers_law w h (rw e l)))
