-- Flat words read and written: entries one by one, and each section at once. Assumes nothing.
use mathlib.Core.Path.{◌≡◌, refl, sym, ap, ◌∙◌}
use mathlib.Core.Bool.{true}
use mathlib.Core.List.{List, [], ◌∷◌, ◌++◌, reverse, reverse-append}
use Prim.Native.Nat.{ℕ, ◌+◌, ◌*◌, ◌≤◌, ◌<◌}
use native.Mathlib.Omega.{arith}
use native.Mathlib.Nat.{add-zero}
use native.Mathlib.Numerals.{add-one}
use lib.ListN.{length, get_or, set, take, drop}
use lib.Seq.{get_or-drop, drop-drop, sets, sets-eq, length-sets}
use Rattle.std.proofs.lemmas.List.{take_more, take_more_set, take_all}
use Rattle.codec.specs.Number.{put_at}
use Rattle.machine.specs.Machine.{Machine, with_set1, with_set2, with_conditions, with_control, with_position, with_dividers}
use Rattle.machine.specs.Words.{SOURCES, SET1, SET2, CONDITIONS, CONTROL, POSITION, DEPTH, ENTRIES, DIVIDERS, WORDS, section, position_of, entry_of, words_of, entries_of, machine_of}
use Rattle.machine.specs.declared.position.Position.{Position}
use Rattle.machine.specs.declared.stack.Entry.{Entry}
use Rattle.machine.proofs.Flat.{apart, fill_in, fill_apart, stack_below, stack_past, stack_of, stack_as, stack_filled, depth_past, entries_more, in_row}

-- ---- entries read

-- the entry in the four words from a place on
entry_at : (w : List ℕ) (at : ℕ) → entry_of (drop at w) ≡ record { source = get_or w at 0; address = get_or w (at + 1) 0; psr = get_or w (at + 2) 0; c0 = get_or w (at + 3) 0 }
entry_at w at = simp (get_or-drop at w 0 0, get_or-drop at w 1 0, get_or-drop at w 2 0, get_or-drop at w 3 0, add-zero)

-- one entry more
pub read_more : (es : List Entry) (w : List ℕ) (i : ℕ) → i < length es → take i es ≡ entries_of i (drop ENTRIES w)
    → take (i + 1) (set es i (record { source = get_or w (ENTRIES + 4 * i) 0; address = get_or w (ENTRIES + 4 * i + 1) 0; psr = get_or w (ENTRIES + 4 * i + 2) 0; c0 = get_or w (ENTRIES + 4 * i + 3) 0 }))
    ≡ entries_of (i + 1) (drop ENTRIES w)
read_more es w i h e =
    let x : Entry = record { source = get_or w (ENTRIES + 4 * i) 0; address = get_or w (ENTRIES + 4 * i + 1) 0; psr = get_or w (ENTRIES + 4 * i + 2) 0; c0 = get_or w (ENTRIES + 4 * i + 3) 0 } in
    take_more_set es i x h
    ∙ ap (λ l. l ++ (x ∷ [])) e
    ∙ sym (rw (add-one i) (entries_more i (drop ENTRIES w) ∙ rw (drop-drop (4 * i) ENTRIES w) (ap (λ y. entries_of i (drop ENTRIES w) ++ (y ∷ [])) (entry_at w (ENTRIES + 4 * i)))))

-- ---- entries written

module _ (w : List ℕ) (es : List Entry) (i : ℕ) (d : Entry) (long : length w ≡ WORDS) (few : length es ≤ SOURCES) (h : i < length es) where
  abbrev e : Entry
  e = get_or es i d

  abbrev place : ℕ
  place = ENTRIES + 4 * i

  abbrev written : List ℕ
  written = set (set (set (set w place e.source) (place + 1) e.address) (place + 2) e.psr) (place + 3) e.c0

  -- one entry more, the last that far and so the top
  pub write_more : stack_of i w ≡ reverse (take i es) → stack_of (i + 1) written ≡ reverse (take (i + 1) es)
  write_more q =
      rw (in_row w place e.source e.address e.psr e.c0, take_more es i d h, reverse-append (take i es) (e ∷ []), add-one i)
      (stack_filled w i e long (omega arith) ∙ ap (λ l. e ∷ l) q)

  pub depth_kept : get_or written DEPTH 0 ≡ get_or w DEPTH 0
  depth_kept = rw (in_row w place e.source e.address e.psr e.c0) (depth_past w place (words_of e) (omega arith))

-- all entries
pub stack_written : (w : List ℕ) (es : List Entry) (stack : List Entry) (n : ℕ) → get_or w DEPTH 0 ≡ n → n ≡ length es → stack_of n w ≡ reverse (take n es) → reverse es ≡ stack
    → (machine_of w).stack ≡ stack
stack_written w es stack n a b c e = stack_as w n a ∙ c ∙ ap (λ k. reverse (take k es)) b ∙ ap reverse (take_all (length es) es (omega arith)) ∙ e

-- ---- sections filled

put_sets : (w : List ℕ) (start : ℕ) (vs : List ℕ) → start + length vs ≤ length w → put_at w start vs ≡ sets w start vs
put_sets w start vs h = sym (sets-eq vs w start h)

module _ (w : List ℕ) (start n : ℕ) (vs : List ℕ) (e : length vs ≡ n) where
  filled_in : start + n ≤ length w → section start n (sets w start vs) ≡ vs
  filled_in h = ap (λ k. section start k (sets w start vs)) (sym e) ∙ fill_in w start vs (omega (arith, e, h))

  filled_apart : (m k : ℕ) → apart start n m k ≡ true → section m k (sets w start vs) ≡ section m k w
  filled_apart m k h = fill_apart w start vs m k (ap (λ j. apart start j m k) e ∙ h)

put_length : (w : List ℕ) (start n : ℕ) (vs : List ℕ) → length w ≡ WORDS → length vs ≡ n → start + n ≤ WORDS → length (put_at w start vs) ≡ WORDS
put_length w start n vs h e l = rw (put_sets w start vs (omega (arith, h, e, l))) (length-sets w start vs ∙ h)

module _ (w l : List ℕ) (h : length w ≡ WORDS) where
  set1_put : length l ≡ 32 → machine_of (put_at w SET1 l) ≡ with_set1 l (machine_of w)
  unfolding machine_of with_set1
  set1_put size = ap machine_of (put_sets w SET1 l (omega (arith, h, size))) ∙ simp (filled_in w SET1 32 l size (omega (arith, h)), filled_apart w SET1 32 l size, stack_below w SET1 l (omega (arith, size)))

  set2_put : length l ≡ 32 → machine_of (put_at w SET2 l) ≡ with_set2 l (machine_of w)
  unfolding machine_of with_set2
  set2_put size = ap machine_of (put_sets w SET2 l (omega (arith, h, size))) ∙ simp (filled_in w SET2 32 l size (omega (arith, h)), filled_apart w SET2 32 l size, stack_below w SET2 l (omega (arith, size)))

  conditions_put : length l ≡ 8 → machine_of (put_at w CONDITIONS l) ≡ with_conditions l (machine_of w)
  unfolding machine_of with_conditions
  conditions_put size = ap machine_of (put_sets w CONDITIONS l (omega (arith, h, size))) ∙ simp (filled_in w CONDITIONS 8 l size (omega (arith, h)), filled_apart w CONDITIONS 8 l size, stack_below w CONDITIONS l (omega (arith, size)))

  control_put : length l ≡ 45 → machine_of (put_at w CONTROL l) ≡ with_control l (machine_of w)
  unfolding machine_of with_control
  control_put size = ap machine_of (put_sets w CONTROL l (omega (arith, h, size))) ∙ simp (filled_in w CONTROL 45 l size (omega (arith, h)), filled_apart w CONTROL 45 l size, stack_below w CONTROL l (omega (arith, size)))

  position_put : length l ≡ 6 → machine_of (put_at w POSITION l) ≡ with_position (position_of l) (machine_of w)
  unfolding machine_of with_position
  position_put size = ap machine_of (put_sets w POSITION l (omega (arith, h, size))) ∙ simp (filled_in w POSITION 6 l size (omega (arith, h)), filled_apart w POSITION 6 l size, stack_below w POSITION l (omega (arith, size)))

  dividers_put : length (machine_of w).stack ≤ SOURCES → length l ≡ 2 → machine_of (put_at w DIVIDERS l) ≡ with_dividers l (machine_of w)
  unfolding machine_of with_dividers
  dividers_put few size = ap machine_of (put_sets w DIVIDERS l (omega (arith, h, size))) ∙ simp (filled_in w DIVIDERS 2 l size (omega (arith, h)), filled_apart w DIVIDERS 2 l size, stack_past w DIVIDERS l few (omega arith))

-- all sections but the stack
module _ (w set1 set2 conditions control : List ℕ) (p : Position) (stack : List Entry) (dividers : List ℕ)
    (h : length w ≡ WORDS) (a : length set1 ≡ 32) (b : length set2 ≡ 32) (c : length conditions ≡ 8) (d : length control ≡ 45) (e : length dividers ≡ 2) where
  abbrev numbers : List ℕ
  numbers = p.pc ∷ p.slot ∷ p.target ∷ p.held ∷ p.high ∷ p.low ∷ []

  abbrev w1 : List ℕ
  w1 = put_at w SET1 set1

  abbrev w2 : List ℕ
  w2 = put_at w1 SET2 set2

  abbrev w3 : List ℕ
  w3 = put_at w2 CONDITIONS conditions

  abbrev w4 : List ℕ
  w4 = put_at w3 CONTROL control

  abbrev w5 : List ℕ
  w5 = put_at w4 POSITION numbers

  pub filled : length stack ≤ SOURCES → (machine_of w).stack ≡ stack
      → machine_of (put_at w5 DIVIDERS dividers)
      ≡ record { set1 = set1; set2 = set2; conditions = conditions; control = control; position = p; stack = stack; dividers = dividers }
  unfolding with_set1 with_set2 with_conditions with_control with_position with_dividers position_of
  filled few s =
      let l1 = put_length w SET1 32 set1 h a (omega arith) in
      let l2 = put_length w1 SET2 32 set2 l1 b (omega arith) in
      let l3 = put_length w2 CONDITIONS 8 conditions l2 c (omega arith) in
      let l4 = put_length w3 CONTROL 45 control l3 d (omega arith) in
      let l5 = put_length w4 POSITION 6 numbers l4 refl (omega arith) in
      let m5 = position_put w4 numbers l4 refl
      ∙ ap (with_position p) (control_put w3 control l3 d
      ∙ ap (with_control control) (conditions_put w2 conditions l2 c
      ∙ ap (with_conditions conditions) (set2_put w1 set2 l1 b
      ∙ ap (with_set2 set2) (set1_put w set1 h a)))) in
      let kept : (machine_of w5).stack ≡ stack = ap (λ (m : Machine). m.stack) m5 ∙ s in
      dividers_put w5 dividers l5 (rw kept few) e ∙ ap (with_dividers dividers) m5
      ∙ ap (λ es. record { set1 = set1; set2 = set2; conditions = conditions; control = control; position = p; stack = es; dividers = dividers }) s
