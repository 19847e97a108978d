-- The words that are free: words say the same machine exactly where they agree at each place that is not. Assumes nothing.
use mathlib.Core.Path.{◌≡◌, refl, sym, ap, ◌∙◌}
use mathlib.Core.Logic.{◌≢◌}
use mathlib.Core.Bool.{Bool, true, false, ◌&&◌, and-true, and-false}
use mathlib.Core.List.{List, [], ◌∷◌, reverse, reverse-reverse}
use Prim.Native.Nat.{ℕ, zero, suc, ◌+◌, ◌-◌, ◌*◌, ◌≤◌, ◌<◌}
use native.Mathlib.Omega.{arith}
use lib.Dec.{leb, ltb, eqb}
use lib.ListN.{length, get_or, drop, length-take, length-drop, get_or-eq_default}
use lib.Seq.{get_or-drop, ext_get_or}
use borrow.Author.Tests.{ltb-true, ltb-false, leb-false, lt-leb, lt-ltb, le-ltb, eqb-false, ne_eqb}
use Rattle.word.specs.Flags.{is_among}
use Rattle.word.proofs.Tests.{either, and_parts, or_parts}
use Rattle.machine.specs.Machine.{Machine}
use Rattle.machine.specs.Words.{SET1, SET2, CONDITIONS, CONTROL, POSITION, TIMERS, DEPTH, ENTRIES, DIVIDERS, WORDS, section, position_of, entry_of, entries_of, machine_of, COUNTS, is_free}
use Rattle.machine.specs.Theorems.{FreePlaces}
use Rattle.machine.specs.declared.position.Position.{Position}
use Rattle.machine.specs.declared.stack.Entry.{Entry}
use Rattle.machine.proofs.Flat.{section_at, apart, split_apart, entries_front, stack_by, depth_is}

-- ---- places

-- no place of a list lies in a section
apart_from : (start count : ℕ) → List ℕ → Bool
apart_from start count [] = true
apart_from start count (m ∷ ms) = apart m 1 start count && apart_from start count ms

not_among : (start count n : ℕ) (ms : List ℕ) → apart_from start count ms ≡ true → start ≤ n → n < start + count → is_among n ms ≡ false
unfolding apart_from is_among
not_among start count n [] e l h = refl
not_among start count n (m ∷ ms) e l h =
    let t = and_parts (apart m 1 start count) _ e in
    rw (split_apart m 1 start count t.0 (λ p. ne_eqb m n (λ q. omega arith)) (λ p. ne_eqb m n (λ q. omega arith)))
    (not_among start count n ms t.1 l h)

-- a place past the last entry of a machine with so many, and before the dividers
abbrev unused : (depth place : ℕ) → Bool
unused d n = leb (ENTRIES + 4 * d) n && ltb n DIVIDERS

used_entry : (d n : ℕ) → n < ENTRIES + 4 * d → unused d n ≡ false
used_entry d n h = rw (lt-leb (ENTRIES + 4 * d) n h)

used_divider : (d n : ℕ) → DIVIDERS ≤ n → unused d n ≡ false
used_divider d n h = rw (le-ltb n DIVIDERS h) (and-false (leb (ENTRIES + 4 * d) n))

entry_used : (d n : ℕ) → unused d n ≡ false → n < DIVIDERS → n < ENTRIES + 4 * d
entry_used d n e h = leb-false _ _ (sym (and-true _) ∙ (rw (lt-ltb n DIVIDERS h) at e))

not_free : (d start count n : ℕ) → apart_from start count COUNTS ≡ true → start ≤ n → n < start + count → unused d n ≡ false → is_free d n ≡ false
unfolding is_free
not_free d start count n e l h b = rw (not_among start count n COUNTS e l h) b

-- ---- words that agree, and equal sections

module _ (w k : List ℕ) where
  -- the words agree in sections that do at each place,
  agreeing : (start count : ℕ) → ((j : ℕ) → j < count → get_or (section start count w) j 0 ≡ get_or (section start count k) j 0)
      → (n : ℕ) → start ≤ n → n < start + count → get_or w n 0 ≡ get_or k n 0
  agreeing start count e n l h =
      let i : n ≡ start + (n - start) = omega arith in
      let j : n - start < count = omega arith in
      rw i (sym (section_at w start count (n - start) j) ∙ e (n - start) j ∙ section_at k start count (n - start) j)

  -- and in equal sections;
  listed : (start count : ℕ) → section start count w ≡ section start count k → (n : ℕ) → start ≤ n → n < start + count → get_or w n 0 ≡ get_or k n 0
  listed start count e = agreeing start count (λ j _. ap (λ (l : List ℕ). get_or l j 0) e)

  -- sections are equal whose words agree
  equal : (start count : ℕ) → length w ≡ length k → ((n : ℕ) → start ≤ n → n < start + count → get_or w n 0 ≡ get_or k n 0)
      → section start count w ≡ section start count k
  equal start count s e =
      ext_get_or 0 _ _ (simp (length-take, length-drop, s))
      (λ j h.
      let b = length-take count (drop start w) in
      let l : j < count = omega arith in
      section_at w start count j l ∙ e (start + j) (omega arith) (omega arith) ∙ sym (section_at k start count j l))

-- equal positions are of numbers that agree, and so are equal entries
same_position : (l k : List ℕ) → position_of l ≡ position_of k → (j : ℕ) → j < 6 → get_or l j 0 ≡ get_or k j 0
unfolding position_of
same_position l k e zero h = ap (λ (p : Position). p.pc) e
same_position l k e (suc zero) h = ap (λ (p : Position). p.slot) e
same_position l k e (suc (suc zero)) h = ap (λ (p : Position). p.target) e
same_position l k e (suc (suc (suc zero))) h = ap (λ (p : Position). p.held) e
same_position l k e (suc (suc (suc (suc zero)))) h = ap (λ (p : Position). p.high) e
same_position l k e (suc (suc (suc (suc (suc zero))))) h = ap (λ (p : Position). p.low) e
same_position l k e (suc (suc (suc (suc (suc (suc j)))))) h = absurd (omega arith)

same_entry : (l k : List ℕ) → entry_of l ≡ entry_of k → (j : ℕ) → j < 4 → get_or l j 0 ≡ get_or k j 0
same_entry l k e zero h = ap (λ (x : Entry). x.source) e
same_entry l k e (suc zero) h = ap (λ (x : Entry). x.address) e
same_entry l k e (suc (suc zero)) h = ap (λ (x : Entry). x.psr) e
same_entry l k e (suc (suc (suc zero))) h = ap (λ (x : Entry). x.c0) e
same_entry l k e (suc (suc (suc (suc j)))) h = absurd (omega arith)

same_entries : (d : ℕ) (l k : List ℕ) → entries_of d l ≡ entries_of d k → (j : ℕ) → j < 4 * d → get_or l j 0 ≡ get_or k j 0
unfolding entries_of
same_entries zero l k e j h = absurd (omega arith)
same_entries (suc d) l k e j h =
    either (ltb j 4)
    (λ t. same_entry l k (cc) j (ltb-true j 4 t))
    (λ t.
    let a : 4 ≤ j = ltb-false j 4 t in
    let i : j ≡ 4 + (j - 4) = omega arith in
    rw (i, ← get_or-drop 4 l (j - 4) 0, ← get_or-drop 4 k (j - 4) 0) (same_entries d (drop 4 l) (drop 4 k) (cc) (j - 4) (omega arith)))

-- ---- the machine

-- a place of no count is none of the five
between_counts : (n : ℕ) → is_among n COUNTS ≡ false → (0 ≢ n) × (33 ≢ n) × (66 ≢ n) × (75 ≢ n) × (121 ≢ n)
unfolding is_among
between_counts n e =
    let a = or_parts (eqb 0 n) _ e in
    let b = or_parts (eqb 33 n) _ a.1 in
    let c = or_parts (eqb 66 n) _ b.1 in
    let d = or_parts (eqb 75 n) _ c.1 in
    let f = or_parts (eqb 121 n) _ d.1 in
    (eqb-false 0 n a.0, eqb-false 33 n b.0, eqb-false 66 n c.0, eqb-false 75 n d.0, eqb-false 121 n f.0)

by_order : {A : Type 0} (n b : ℕ) → (n < b → A) → (b ≤ n → A) → A
by_order n b f g = either (ltb n b) (λ t. f (ltb-true n b t)) (λ t. g (ltb-false n b t))

-- words that say the same machine agree at each place that is not free
module _ (w k : List ℕ) (p : length w ≡ WORDS) (q : length k ≡ WORDS) (e : machine_of w ≡ machine_of k) where
  abbrev d : ℕ
  d = get_or w DEPTH 0

  same_depth : d ≡ get_or k DEPTH 0
  same_depth = sym (depth_is w) ∙ ap (λ (m : Machine). length m.stack) e ∙ depth_is k

  same_stack : entries_of d (section ENTRIES (4 * d) w) ≡ entries_of d (section ENTRIES (4 * d) k)
  unfolding machine_of
  same_stack =
      entries_front d (drop ENTRIES w)
      ∙ sym (reverse-reverse (entries_of d (drop ENTRIES w)))
      ∙ ap (λ (m : Machine). reverse m.stack) e
      ∙ reverse-reverse (entries_of (get_or k DEPTH 0) (drop ENTRIES k))
      ∙ rw (← same_depth) (sym (entries_front d (drop ENTRIES k)))

  agree : (n : ℕ) → is_free d n ≡ false → get_or w n 0 ≡ get_or k n 0
  unfolding machine_of is_free
  agree n f =
      let x = between_counts n (or_parts (is_among n COUNTS) _ f).0 in
      by_order n DIVIDERS
      (λ c.
      let h = entry_used d n (or_parts (is_among n COUNTS) _ f).1 c in
      by_order n SET2 (λ b. listed w k SET1 32 (ap (λ (m : Machine). m.set1) e) n (omega arith) (omega arith))
      (λ a. by_order n CONDITIONS (λ b. listed w k SET2 32 (ap (λ (m : Machine). m.set2) e) n (omega arith) (omega arith))
      (λ a. by_order n CONTROL (λ b. listed w k CONDITIONS 8 (ap (λ (m : Machine). m.conditions) e) n (omega arith) (omega arith))
      (λ a. by_order n POSITION (λ b. listed w k CONTROL 45 (ap (λ (m : Machine). m.control) e) n (omega arith) (omega arith))
      (λ a. by_order n DEPTH (λ b. agreeing w k POSITION 6 (same_position _ _ (ap (λ (m : Machine). m.position) e)) n (omega arith) (omega arith))
      (λ a. by_order n ENTRIES (λ b. let i : n ≡ DEPTH = omega arith in rw i same_depth)
      (λ a. agreeing w k ENTRIES (4 * d) (same_entries d _ _ same_stack) n a h)))))))
      (λ c.
      by_order n WORDS (λ b. listed w k DIVIDERS TIMERS (ap (λ (m : Machine). m.dividers) e) n c b)
      (λ a. get_or-eq_default w 0 (omega arith) ∙ sym (get_or-eq_default k 0 (omega arith))))

-- and words that agree there say the same
module _ (w k : List ℕ) (s : length w ≡ length k) (a : (n : ℕ) → is_free (get_or w DEPTH 0) n ≡ false → get_or w n 0 ≡ get_or k n 0) where
  abbrev depth : ℕ
  depth = get_or w DEPTH 0

  said_by : (start count : ℕ) → apart_from start count COUNTS ≡ true → ((n : ℕ) → start ≤ n → n < start + count → unused depth n ≡ false)
      → section start count w ≡ section start count k
  said_by start count e f = equal w k start count s (λ n b h. a n (not_free depth start count n e b h (f n b h)))

  said : (start count : ℕ) → apart_from start count COUNTS ≡ true → start + count ≤ ENTRIES + 4 * depth → section start count w ≡ section start count k
  said start count e l = said_by start count e (λ n b h. used_entry depth n (omega arith))

  depth_said : depth ≡ get_or k DEPTH 0
  unfolding apart_from
  depth_said = a DEPTH (not_free depth DEPTH 1 DEPTH refl (omega arith) (omega arith) (used_entry depth DEPTH (omega arith)))

  same : machine_of w ≡ machine_of k
  unfolding machine_of apart_from
  same =
      let set1 = said SET1 32 refl (omega arith) in
      let set2 = said SET2 32 refl (omega arith) in
      let conditions = said CONDITIONS 8 refl (omega arith) in
      let control = said CONTROL 45 refl (omega arith) in
      let position = said POSITION 6 refl (omega arith) in
      let stack : (machine_of w).stack ≡ (machine_of k).stack =
      stack_by depth k w (said ENTRIES (4 * depth) refl (omega arith)) ∙ rw depth_said
      in
      let dividers = said_by DIVIDERS TIMERS refl (λ n b h. used_divider depth n b) in
      λ i. record { set1 = set1 i; set2 = set2 i; conditions = conditions i; control = control i; position = position_of (position i); stack = stack i; dividers = dividers i }

pub free_places : FreePlaces
free_places w k a b = (agree w k a b, same w k (a ∙ sym b))
