-- Flat words and the machine that they say: its sections, stated once by start and count, and its stack. Assumes nothing.
use mathlib.Core.Path.{◌≡◌, refl, sym, ap, ◌∙◌}
use mathlib.Core.Bool.{Bool, true, false, ◌||◌}
use mathlib.Core.List.{List, [], ◌∷◌, ◌++◌, reverse, reverse-append, append_assoc}
use Prim.Native.Nat.{ℕ, zero, suc, ◌+◌, ◌-◌, ◌*◌, ◌≤◌, ◌<◌}
use native.Mathlib.Omega.{arith}
use native.Mathlib.Numerals.{add-one}
use lib.Dec.{leb, lit<}
use lib.ListN.{length, get_or, set, take, drop, length-drop, length-reverse}
use lib.Seq.{drop-set-add, drop-set-lt, take-set-le, get_or-set_same, get_or-set_other, get_or-take, get_or-drop, drop-drop, length-take-le, sets, sets-eq, length-sets, take_at, drop_at}
use borrow.Author.Tests.{leb-true}
use Rattle.machine.specs.Machine.{Machine, with_dividers}
use Rattle.machine.specs.Stack.{popped}
use Rattle.machine.specs.Words.{SOURCES, TIMERS, DEPTH, ENTRIES, DIVIDERS, WORDS, section, entry_of, words_of, entries_of, machine_of, with_entries}
use Rattle.machine.specs.declared.stack.Entry.{Entry}

-- ---- one section

-- an element of a section
pub section_at : (w : List ℕ) (start count j : ℕ) → j < count → get_or (section start count w) j 0 ≡ get_or w (start + j) 0
section_at w m n j h = get_or-take n (drop m w) j 0 h ∙ get_or-drop m w j 0

pub section_length : (w : List ℕ) (start count : ℕ) → start + count ≤ length w → length (section start count w) ≡ count
section_length w m n h = length-take-le n (drop m w) (rw (length-drop m w) (omega arith))

-- a store past the end of a section leaves it, and so does one before its start
store_past : (w : List ℕ) (start count i v : ℕ) → start + count ≤ i → section start count (set w i v) ≡ section start count w
store_past w m n i v h =
    let e : i ≡ m + (i - m) = omega arith in
    rw e (ap (take n) (drop-set-add m w (i - m) v) ∙ take-set-le n (drop m w) (i - m) v (omega arith))

store_short : (w : List ℕ) (start count i v : ℕ) → i < start → section start count (set w i v) ≡ section start count w
store_short w m n i v h = ap (take n) (drop-set-lt m w i v h)

-- one of two sections begins where the other has ended
abbrev pub apart : (start count m n : ℕ) → Bool
apart start count m n = leb (start + count) m || leb (m + n) start

pub split_apart : {A : Type 0} (start count m n : ℕ) → apart start count m n ≡ true → (start + count ≤ m → A) → (m + n ≤ start → A) → A
split_apart {A} start count m n e f g = go (leb (start + count) m) (leb (m + n) start) refl refl e
  where
    go : (a b : Bool) → leb (start + count) m ≡ a → leb (m + n) start ≡ b → a || b ≡ true → A
    go true b p q e = f (leb-true _ _ p)
    go false true p q e = g (leb-true _ _ q)
    go false false p q e = absurd (let z : ◌≡◌ {A = ℕ} 0 1 = cc in omega arith)

-- a store at element j of a section leaves each section apart
module _ (w : List ℕ) (v start count j : ℕ) (h : j < count) where
  pub store_apart : (m n : ℕ) → apart start count m n ≡ true → section m n (set w (start + j) v) ≡ section m n w
  store_apart m n e =
      split_apart start count m n e (λ l. store_short w m n (start + j) v (omega arith)) (λ l. store_past w m n (start + j) v (omega arith))

-- stores in a row fill a section, and leave each section apart
pub fill_in : (w : List ℕ) (start : ℕ) (vs : List ℕ) → start + length vs ≤ length w → section start (length vs) (sets w start vs) ≡ vs
fill_in w start vs h =
    let rest = drop (start + length vs) w in
    rw (sets-eq vs w start h, append_assoc (take start w) vs rest, drop_at (take start w) (vs ++ rest) start (length-take-le start w (omega arith)))
    (take_at vs rest (length vs) refl)

fill_short : (w : List ℕ) (start count i : ℕ) (vs : List ℕ) → i + length vs ≤ start → section start count (sets w i vs) ≡ section start count w
fill_short w m n i [] h = refl
fill_short w m n i (v ∷ vs) h = fill_short (set w i v) m n (suc i) vs (omega arith) ∙ store_short w m n i v (omega arith)

fill_past : (w : List ℕ) (start count i : ℕ) (vs : List ℕ) → start + count ≤ i → section start count (sets w i vs) ≡ section start count w
fill_past w m n i [] h = refl
fill_past w m n i (v ∷ vs) h = fill_past (set w i v) m n (suc i) vs (omega arith) ∙ store_past w m n i v h

pub fill_apart : (w : List ℕ) (start : ℕ) (vs : List ℕ) (m n : ℕ) → apart start (length vs) m n ≡ true → section m n (sets w start vs) ≡ section m n w
fill_apart w start vs m n e = split_apart start (length vs) m n e (fill_short w m n start vs) (fill_past w m n start vs)

-- ---- the machine

-- its sections are whole
module _ (w : List ℕ) (h : length w ≡ WORDS) where
  pub dividers_length : length (machine_of w).dividers ≡ TIMERS
  unfolding machine_of
  dividers_length = section_length w DIVIDERS TIMERS (omega arith)

-- stores below the stack's count leave the stack
pub stack_below : (w : List ℕ) (i : ℕ) (vs : List ℕ) → i + length vs ≤ DEPTH → (machine_of (sets w i vs)).stack ≡ (machine_of w).stack
unfolding machine_of
stack_below w i [] h = refl
stack_below w i (v ∷ vs) h =
    stack_below (set w i v) (suc i) vs (omega arith)
    ∙ rw (get_or-set_other w i DEPTH v 0 (λ e. omega arith), drop-set-lt ENTRIES w i v (omega arith))

-- ---- entries of the stack

length_entries : (n : ℕ) (l : List ℕ) → length (entries_of n l) ≡ n
unfolding entries_of
length_entries zero l = refl
length_entries (suc n) l = ap suc (length_entries n (drop 4 l))

-- n entries lie in the first 4 × n words
pub entries_front : (n : ℕ) (l : List ℕ) → entries_of n (take (4 * n) l) ≡ entries_of n l
unfolding entries_of
entries_front zero l = refl
entries_front (suc n) l =
    let e : 4 * suc n ≡ suc (suc (suc (suc (4 * n)))) = omega arith in
    rw e (go l (entries_front n (drop 4 l)))
  where
    go : (l : List ℕ) → entries_of n (take (4 * n) (drop 4 l)) ≡ entries_of n (drop 4 l) → entries_of (suc n) (take (suc (suc (suc (suc (4 * n))))) l) ≡ entries_of (suc n) l
    go [] h = refl
    go (a ∷ []) h = refl
    go (a ∷ b ∷ []) h = refl
    go (a ∷ b ∷ c ∷ []) h = refl
    go (a ∷ b ∷ c ∷ d ∷ l) h = ap (λ es. record { source = a; address = b; psr = c; c0 = d } ∷ es) h

-- one more entry is the last
pub entries_more : (n : ℕ) (l : List ℕ) → entries_of (suc n) l ≡ entries_of n l ++ (entry_of (drop (4 * n) l) ∷ [])
unfolding entries_of
entries_more zero l = refl
entries_more (suc n) l =
    let e : 4 * suc n ≡ 4 + 4 * n = omega arith in
    rw (e, ← drop-drop (4 * n) 4 l) (ap (λ es. entry_of l ∷ es) (entries_more n (drop 4 l)))

entry_front : (l : List ℕ) → entry_of (take 4 l) ≡ entry_of l
entry_front [] = refl
entry_front (a ∷ []) = refl
entry_front (a ∷ b ∷ []) = refl
entry_front (a ∷ b ∷ c ∷ []) = refl
entry_front (a ∷ b ∷ c ∷ d ∷ l) = refl

-- ---- the stack of so many entries

-- the stack of n entries
abbrev pub stack_of : (n : ℕ) (words : List ℕ) → List Entry
stack_of n w = reverse (entries_of n (drop ENTRIES w))

-- its top is the last four words
pub stack_top_law : (n : ℕ) (w : List ℕ) → stack_of (suc n) w ≡ entry_of (section (ENTRIES + 4 * n) 4 w) ∷ stack_of n w
stack_top_law n w =
    ap reverse (entries_more n (drop ENTRIES w))
    ∙ reverse-append (entries_of n (drop ENTRIES w)) (entry_of (drop (4 * n) (drop ENTRIES w)) ∷ [])
    ∙ rw (drop-drop (4 * n) ENTRIES w) (ap (λ e. e ∷ stack_of n w) (sym (entry_front (drop (ENTRIES + 4 * n) w))))

-- it depends on its entries' words alone
pub stack_by : (n : ℕ) (w k : List ℕ) → section ENTRIES (4 * n) k ≡ section ENTRIES (4 * n) w → stack_of n k ≡ stack_of n w
stack_by n w k e = ap reverse (sym (entries_front n (drop ENTRIES k)) ∙ ap (entries_of n) e ∙ entries_front n (drop ENTRIES w))

pub depth_is : (w : List ℕ) → length (machine_of w).stack ≡ get_or w DEPTH 0
unfolding machine_of
depth_is w = length-reverse (entries_of (get_or w DEPTH 0) (drop ENTRIES w)) ∙ length_entries (get_or w DEPTH 0) (drop ENTRIES w)

module _ (w : List ℕ) where
  pub stack_as : (n : ℕ) → get_or w DEPTH 0 ≡ n → (machine_of w).stack ≡ stack_of n w
  unfolding machine_of
  stack_as n e = rw e

  -- the top's four words
  stack_some : (n : ℕ) → get_or w DEPTH 0 ≡ suc n → (machine_of w).stack ≡ entry_of (section (ENTRIES + 4 * n) 4 w) ∷ stack_of n w
  stack_some n e = stack_as (suc n) e ∙ stack_top_law n w

-- ---- stores to the stack

-- another count
pub depth_stored : (w : List ℕ) (n : ℕ) → length w ≡ WORDS → machine_of (set w DEPTH n) ≡ with_entries (stack_of n w) (machine_of w)
unfolding machine_of with_entries
depth_stored w n h = simp (store_apart w n DEPTH 1 0 (lit< tt), get_or-set_same w DEPTH n 0 (omega arith), drop-set-lt ENTRIES w DEPTH n (lit< tt))

-- a count one below pops an entry
pub popped_to : (w : List ℕ) (n : ℕ) → length w ≡ WORDS → get_or w DEPTH 0 ≡ suc n → machine_of (set w DEPTH n) ≡ with_entries (popped (machine_of w).stack) (machine_of w)
unfolding popped
popped_to w n h q = depth_stored w n h ∙ ap (λ es. with_entries (popped es) (machine_of w)) (sym (stack_some w n q))

-- stores past the stack's count and before the dividers leave all but the stack
fill_high : (w : List ℕ) (i : ℕ) (vs : List ℕ) → ENTRIES ≤ i → (m n : ℕ) → leb (m + n) ENTRIES ≡ true → section m n (sets w i vs) ≡ section m n w
fill_high w i vs h m n e = let l : m + n ≤ ENTRIES = leb-true _ _ e in fill_past w m n i vs (omega arith)

fill_entries : (w : List ℕ) (i : ℕ) (vs : List ℕ) (es : List Entry) → ENTRIES ≤ i → i + length vs ≤ DIVIDERS
    → with_entries es (machine_of (sets w i vs)) ≡ with_entries es (machine_of w)
unfolding machine_of with_entries
fill_entries w i vs es h k = simp (fill_high w i vs h, fill_short w DIVIDERS TIMERS i vs k)

pub depth_past : (w : List ℕ) (i : ℕ) (vs : List ℕ) → ENTRIES ≤ i → get_or (sets w i vs) DEPTH 0 ≡ get_or w DEPTH 0
depth_past w i vs h =
    sym (section_at (sets w i vs) DEPTH 1 0 (lit< tt)) ∙ ap (λ (s : List ℕ). get_or s 0 0) (fill_past w DEPTH 1 i vs (omega arith)) ∙ section_at w DEPTH 1 0 (lit< tt)

pub in_row : (w : List ℕ) (i a b c d : ℕ) → set (set (set (set w i a) (i + 1) b) (i + 2) c) (i + 3) d ≡ sets w i (a ∷ b ∷ c ∷ d ∷ [])
in_row w i a b c d =
    let p : i + 1 ≡ suc i = omega arith in
    let q : i + 2 ≡ suc (suc i) = omega arith in
    let r : i + 3 ≡ suc (suc (suc i)) = omega arith in
    rw (p, q, r)

-- the four words of an entry past n others are the top
module _ (w : List ℕ) (n : ℕ) (e : Entry) (h : length w ≡ WORDS) (room : n < 12) where
  abbrev after : List ℕ
  after = sets w (ENTRIES + 4 * n) (words_of e)

  pub stack_filled : stack_of (suc n) after ≡ e ∷ stack_of n w
  stack_filled =
      rw (stack_top_law n after, fill_in w (ENTRIES + 4 * n) (words_of e) (omega arith))
      (ap (λ es. e ∷ es) (stack_by n w after (fill_past w ENTRIES (4 * n) (ENTRIES + 4 * n) (words_of e) (omega arith))))

  -- past the last entry, and with a count one above, they push it
  pub pushed_to : get_or w DEPTH 0 ≡ n → machine_of (set after DEPTH (n + 1)) ≡ with_entries (e ∷ (machine_of w).stack) (machine_of w)
  pushed_to q =
      rw (add-one n)
      (depth_stored after (suc n) (length-sets w (ENTRIES + 4 * n) (words_of e) ∙ h)
      ∙ ap (λ es. with_entries es (machine_of after)) (stack_filled ∙ ap (λ es. e ∷ es) (sym (stack_as w n q)))
      ∙ fill_entries w (ENTRIES + 4 * n) (words_of e) (e ∷ (machine_of w).stack) (omega arith) (omega arith))

  -- in place of the last entry they replace it
  pub replaced_to : get_or w DEPTH 0 ≡ suc n → machine_of after ≡ with_entries (e ∷ popped (machine_of w).stack) (machine_of w)
  unfolding popped with_entries
  replaced_to q =
      ap (λ es. with_entries es (machine_of after)) (stack_as after (suc n) (depth_past w (ENTRIES + 4 * n) (words_of e) (omega arith) ∙ q) ∙ stack_filled)
      ∙ fill_entries w (ENTRIES + 4 * n) (words_of e) (e ∷ stack_of n w) (omega arith) (omega arith)
      ∙ ap (λ es. with_entries (e ∷ popped es) (machine_of w)) (sym (stack_some w n q))

-- stores past the last entry leave the stack
pub stack_past : (w : List ℕ) (i : ℕ) (vs : List ℕ) → length (machine_of w).stack ≤ SOURCES → DIVIDERS ≤ i → (machine_of (sets w i vs)).stack ≡ (machine_of w).stack
unfolding machine_of
stack_past w i vs h l =
    let n = get_or w DEPTH 0 in
    let k : n ≤ SOURCES = rw (depth_is w) at h in
    stack_as (sets w i vs) n (depth_past w i vs (omega arith)) ∙ stack_by n w (sets w i vs) (fill_past w ENTRIES (4 * n) i vs (omega arith)) ∙ sym (stack_as w n refl)

-- ---- the dividers

-- those that a machine has
pub same_dividers : (m : Machine) (l : List ℕ) → m.dividers ≡ l → with_dividers l m ≡ m
unfolding with_dividers
same_dividers m l e = λ i. record { set1 = m.set1; set2 = m.set2; conditions = m.conditions; control = m.control; position = m.position; stack = m.stack; dividers = sym e i }
