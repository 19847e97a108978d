-- An image is read back as the machine that it was written from; an accepted one is written again as it was; one of the earlier layout with dividers 0 behind it.
-- Assumes nothing.
use mathlib.Core.Path.{◌≡◌, refl, sym, ap, ◌∙◌}
use mathlib.Core.Logic.{◌≢◌}
use mathlib.Core.Bool.{Bool, true, false, and-true}
use mathlib.Core.List.{List, [], ◌∷◌, ◌++◌, append-nil, reverse, reverse_aux}
use Prim.Native.Nat.{ℕ, zero, suc, ◌+◌, ◌*◌, ◌^◌, ◌≤◌, ◌<◌}
use native.Mathlib.Omega.{arith}
use lib.ListN.{length, get_or, drop}
use lib.Seq.{drop-length}
use native.Mathlib.Nat.{lt_of_lt_of_le, lt_of_le_of_lt}
use lib.Dec.{lit<, lit≤}
use borrow.Author.Tests.{leb-true, eqb-true, eq-eqb, ne_eqb, le-leb}
use Rattle.word.specs.Choice.{choose◌then◌else◌}
use Rattle.codec.specs.Number.{numbers_of, bytes_of}
use Rattle.codec.proofs.Laws.{Below, numbers_of_bytes_of, bytes_of_numbers_of, bytes_of_append, length_bytes_of, length_numbers_of}
use Rattle.word.proofs.Tests.{and_parts, and_both}
use Rattle.machine.specs.Machine.{Machine}
use Rattle.machine.specs.Control.{reset}
use Rattle.machine.specs.Words.{SOURCES, TIMERS, ZEROS, section}
use Rattle.machine.specs.declared.position.Position.{Position}
use Rattle.machine.specs.declared.stack.Entry.{Entry}
use Rattle.machine.proofs.Flat.{section_length, same_dividers}
use Rattle.machine.specs.Questions.{all, all_below, question3, Accepted}
use Rattle.image.specs.Image.{position_numbers, entry_numbers, section_numbers, image_numbers, write_image, STACK_AT, count_of, dividers_at, machine_with, machine_in, bytes_to_stack, LAST, image_bytes, LONGEST, section_tests, fits_to_stack, question2, read_where, read_image}
use Rattle.image.specs.Earlier.{earlier_in, earlier2, read_earlier, extended, EarlierAsked, EarlierReadBack, EarlierExtended, LayoutsApart}
use Rattle.image.specs.RoundTrip.{ImageLength, ImageSizes, ReadBack, WrittenBack}
use Rattle.machine.proofs.Tests.{Passed, no_more, ◌also◌, all_passed, passed_all}
use Rattle.machine.proofs.Asked.{ask_machine_formed, machine_asked}
use Rattle.machine.proofs.Formed.{Placed, Stacked, empty, pushed, stacked_depth, Counts, WellFormed, registers_below, formed_counts, true_formed, reset_formed}
use Rattle.image.proofs.Sections.{Counted, append_section_numbers, counted_numbers, depth_numbers, last_count, machine_with_numbers, machine_in_image_numbers, length_section_numbers, length_image_numbers, counts_machine_with, all_words, image_numbers_machine_in}

-- ---- the numbers of a well-formed machine have 32 bits

-- each of a list is below 2 ^ 32
infixr 40 ◌onto◌
data Words : List ℕ → Type 0 where
  none : Words []
  ◌onto◌ : {x : ℕ} {l : List ℕ} → x < 2 ^ 32 → Words l → Words (x ∷ l)

words_below : {l : List ℕ} → Words l → Below (2 ^ 32) l
words_below none i = lit< tt
words_below (h onto w) zero = h
words_below (h onto w) (suc i) = words_below w i

words_append : (l : List ℕ) {r : List ℕ} → Below (2 ^ 32) l → Words r → Words (l ++ r)
words_append [] b w = w
words_append (x ∷ l) b w = b 0 onto words_append l (λ i. b (suc i)) w

position_words : {q : Position} {r : List ℕ} → Placed q → Words r → Words (position_numbers q ++ r)
unfolding position_numbers
position_words p w = p.address onto lt_of_lt_of_le p.slot (lit≤ tt) onto p.target onto lt_of_lt_of_le p.held (lit≤ tt) onto p.high onto p.low onto w

-- entries laid onto others, as `reverse` does
entry_words_law : {es : List Entry} (r : List Entry) → Stacked es → Words (entry_numbers r) → Words (entry_numbers (reverse_aux es r))
unfolding entry_numbers
entry_words_law r empty w = w
entry_words_law r (pushed {e = e} k n s) w =
    entry_words_law (e ∷ r) s
    (lt_of_lt_of_le k.source (lit≤ tt) onto k.address onto lt_of_lt_of_le k.status.small (lit≤ tt) onto lt_of_lt_of_le k.c0 (lit≤ tt) onto w)

below_words : (l : List ℕ) → Below (2 ^ 32) l → Words l
below_words [] b = none
below_words (x ∷ l) b = b 0 onto below_words l (λ i. b (suc i))

tail_below : {m : Machine} (t : List ℕ) → WellFormed m → Words t → Below (2 ^ 32) (section_numbers m ++ t)
unfolding entry_numbers
tail_below {m} t w k =
    rw (append_section_numbers m t)
    (words_below (lit< tt onto words_append m.set1 w.set1.range (lit< tt onto words_append m.set2 w.set2.range
    (lit< tt onto words_append m.conditions (λ i. lt_of_lt_of_le (w.conditions.range i) (lit≤ tt)) (lit< tt onto words_append m.control (registers_below w.control)
    (lit< tt onto position_words w.position (lt_of_le_of_lt (stacked_depth w.stack) (lit< tt) onto
    words_append (entry_numbers (reverse m.stack)) (words_below (entry_words_law [] w.stack none)) k)))))))

sections_below : {m : Machine} → WellFormed m → Below (2 ^ 32) (section_numbers m)
sections_below {m} w = rw (append-nil (section_numbers m)) at (tail_below [] w none)

pub image_numbers_below : {m : Machine} → WellFormed m → Below (2 ^ 32) (image_numbers m)
unfolding image_numbers
image_numbers_below {m} w = tail_below (TIMERS ∷ m.dividers) w (lit< tt onto below_words m.dividers (λ i. lt_of_lt_of_le (w.dividers.range i) (lit≤ tt)))

-- ---- its length and its bytes

-- 528 bytes, and 16 for each entry
pub image_length : {m : Machine} → Counts m → length (write_image m) ≡ image_bytes (length m.stack)
unfolding write_image
image_length {m} c = omega (arith, length_bytes_of (image_numbers m), length_image_numbers m c)

pub length_write_image : ImageLength
unfolding ImageLength
length_write_image m e = image_length (formed_counts (true_formed m e))

pub image_sizes : ImageSizes
image_sizes = record { shortest = refl; entry = λ n. omega arith; longest = refl }

-- at most 12 entries
pub write_image_longest : {m : Machine} → WellFormed m → length (write_image m) ≤ LONGEST
write_image_longest w = omega (arith, image_length (formed_counts w), stacked_depth w.stack)

-- where the longest image has room, one of fewer entries has
pub room_enough : {n room : ℕ} → n ≤ SOURCES → LONGEST ≤ room → image_bytes n ≤ room
room_enough h l = omega arith

-- ---- what is written is read back

numbers_of_write_image : {m : Machine} → WellFormed m → numbers_of (write_image m) ≡ image_numbers m
unfolding write_image
numbers_of_write_image {m} w = numbers_of_bytes_of (image_numbers m) (image_numbers_below w)

sections_pass : (ns : List ℕ) (bytes behind : ℕ) → Counted ns → count_of STACK_AT ns ≤ SOURCES → bytes ≡ bytes_to_stack (count_of STACK_AT ns) + behind
    → all (section_tests behind bytes ns) ≡ true
unfolding section_tests
sections_pass ns bytes behind c d e =
    passed_all (
    eq-eqb _ _ e also
    le-leb (count_of STACK_AT ns) SOURCES d also
    eq-eqb _ _ c.set1 also
    eq-eqb _ _ c.set2 also
    eq-eqb _ _ c.conditions also
    eq-eqb _ _ c.control also
    eq-eqb _ _ c.position also
    no_more)

write_image_2 : {m : Machine} → WellFormed m → question2 (write_image m) ≡ true
unfolding question2 image_numbers
write_image_2 {m} w =
    let k = formed_counts w in
    let last = TIMERS ∷ m.dividers in
    let d : count_of STACK_AT (image_numbers m) ≡ length m.stack = depth_numbers m k last in
    rw (numbers_of_write_image w)
    (and_both _ _
    (sections_pass (image_numbers m) (length (write_image m)) LAST (counted_numbers m k last) (rw d (stacked_depth w.stack)) (image_length k ∙ sym (ap image_bytes d)))
    (eq-eqb _ TIMERS (last_count m k)))

-- decode after encode
pub read_back : {m : Machine} → WellFormed m → read_image (write_image m) ≡ Accepted m
unfolding read_where choose◌then◌else◌
read_back {m} w = rw (write_image_2 w, numbers_of_write_image w, machine_in_image_numbers m (formed_counts w)) (ask_machine_formed w)

pub read_image_write_image : ReadBack
unfolding ReadBack
read_image_write_image m e = read_back (true_formed m e)

-- ---- an accepted image is well formed, and is what its machine writes

-- the numbers of an image with its sections up to the stack, and so many bytes behind them
pub record Sectioned (behind : ℕ) (image : List ℕ) : Type 0 where
  pub deep : count_of STACK_AT (numbers_of image) ≤ SOURCES
  pub counted : Counted (numbers_of image)
  pub exact : length image ≡ bytes_to_stack (count_of STACK_AT (numbers_of image)) + behind

pub sectioned : (behind : ℕ) (image : List ℕ) → fits_to_stack behind image ≡ true → Sectioned behind image
unfolding section_tests
sectioned behind image q = go (all_passed (section_tests behind (length image) (numbers_of image)) q)
  where
    go : Passed (section_tests behind (length image) (numbers_of image)) → Sectioned behind image
    go (exact also deep also set1 also set2 also conditions also control also position also no_more) =
        record {
          deep = leb-true _ SOURCES deep;
          counted = record { set1 = eqb-true _ 32 set1; set2 = eqb-true _ 32 set2; conditions = eqb-true _ 8 conditions; control = eqb-true _ 45 control; position = eqb-true _ 6 position };
          exact = eqb-true _ _ exact;
        }

-- with other bytes behind them it does not fit
other_length : (a b : ℕ) (image : List ℕ) → a ≢ b → fits_to_stack a image ≡ true → fits_to_stack b image ≡ false
unfolding section_tests all
other_length a b image n q =
    let s = sectioned a image q in
    rw (ne_eqb (length image) (bytes_to_stack (count_of STACK_AT (numbers_of image)) + b) (λ e. n (omega (arith, s.exact))))

-- question 2: the sections up to the stack, and the last one
pub all_sections : (image : List ℕ) → question2 image ≡ true → Sectioned LAST image × (count_of (dividers_at (numbers_of image)) (numbers_of image) ≡ TIMERS)
unfolding question2
all_sections image q =
    let t = and_parts (fits_to_stack LAST image) _ q in
    (sectioned LAST image t.0, eqb-true _ TIMERS t.1)

pub earlier_sections : (image : List ℕ) → earlier2 image ≡ true → Sectioned 0 image
unfolding earlier2
earlier_sections image q = sectioned 0 image q

-- what was accepted: the sections are there, and the machine that they say is well formed
pub record ReadAs (fits : Bool) (x m : Machine) : Type 0 where
  pub sections : fits ≡ true
  pub machine : x ≡ m
  pub formed : WellFormed m

read_as : (fits : Bool) (x m : Machine) → (fits ≡ true → Counts x) → read_where fits x ≡ Accepted m → ReadAs fits x m
unfolding read_where choose◌then◌else◌
read_as true x m c e = let a = machine_asked x m (c refl) e in record { sections = refl; machine = a.0; formed = rw a.0 at a.1 }
read_as false x m c e = absurd (let z : ◌≡◌ {A = ℕ} 0 1 = cc in omega arith)

pub accepted : (image : List ℕ) (m : Machine) → read_image image ≡ Accepted m → ReadAs (question2 image) (machine_in (numbers_of image)) m
unfolding machine_in
accepted image m = read_as (question2 image) (machine_in (numbers_of image)) m (λ q.
    let ns = numbers_of image in
    let s = (all_sections image q).0 in
    let n = section_length ns (dividers_at ns) TIMERS (omega (arith, length_numbers_of image, s.exact)) in
    counts_machine_with (section (dividers_at ns) TIMERS ns) ns n (omega (arith, length_numbers_of image, s.exact)))

pub accepted_formed : (image : List ℕ) (m : Machine) → read_image image ≡ Accepted m → WellFormed m
accepted_formed image m e = (accepted image m e).formed

-- encode after decode
pub write_image_read_image : WrittenBack
unfolding WrittenBack write_image
write_image_read_image image m b e =
    let r = accepted image m e in
    let ws = numbers_of image in
    let s = all_sections image r.sections in
    let back : image_numbers m ≡ ws = ap image_numbers (sym r.machine) ∙ image_numbers_machine_in ws s.0.counted (omega (arith, length_numbers_of image, s.0.exact)) s.1 in
    ap bytes_of back ∙ bytes_of_numbers_of image (omega (arith, s.0.exact)) b

-- ---- the earlier layout

accepted_earlier : (image : List ℕ) (m : Machine) → read_earlier image ≡ Accepted m → ReadAs (earlier2 image) (earlier_in (numbers_of image)) m
unfolding earlier_in
accepted_earlier image m = read_as (earlier2 image) (earlier_in (numbers_of image)) m (λ q.
    let s = earlier_sections image q in
    counts_machine_with ZEROS (numbers_of image) refl (omega (arith, length_numbers_of image, s.exact)))

pub earlier_asked : EarlierAsked
unfolding question3 earlier_in machine_with all_below
earlier_asked ns = and-true _

module _ (image : List ℕ) (m : Machine) (r : ReadAs (earlier2 image) (earlier_in (numbers_of image)) m) where
  no_dividers : m.dividers ≡ ZEROS
  unfolding earlier_in machine_with
  no_dividers = ap (λ (x : Machine). x.dividers) (sym r.machine)

  -- its numbers are the sections up to the stack
  same_numbers : section_numbers m ≡ numbers_of image
  unfolding earlier_in
  same_numbers =
      let ns = numbers_of image in
      let s = earlier_sections image r.sections in
      let size : STACK_AT + 4 * count_of STACK_AT ns ≡ length ns = omega (arith, length_numbers_of image, s.exact) in
      let end : drop (STACK_AT + 4 * count_of STACK_AT ns) ns ≡ [] = ap (λ (k : ℕ). drop k ns) size ∙ drop-length ns in
      ap section_numbers (sym r.machine)
      ∙ sym (append-nil (section_numbers (earlier_in ns)))
      ∙ ap (λ (l : List ℕ). section_numbers (earlier_in ns) ++ l) (sym end)
      ∙ all_words ZEROS ns s.counted (omega (arith, length_numbers_of image, s.exact))

  written_extended : ((i : ℕ) → get_or image i 0 < 256) → write_image m ≡ extended image
  unfolding write_image image_numbers
  written_extended b =
      let s = earlier_sections image r.sections in
      rw (same_numbers, no_dividers, bytes_of_append (numbers_of image) (TIMERS ∷ ZEROS))
      (ap (λ (l : List ℕ). l ++ bytes_of (TIMERS ∷ ZEROS)) (bytes_of_numbers_of image (omega (arith, s.exact)) b))

pub earlier_extended : EarlierExtended
earlier_extended image m b e =
    let r = accepted_earlier image m e in
    let bytes = written_extended image m r b in
    record { bytes = bytes; read = rw (← bytes) (read_back r.formed); zeros = no_dividers image m r }

-- what the earlier layout gave of a machine
module _ {m : Machine} (w : WellFormed m) where
  abbrev ns : List ℕ
  ns = section_numbers m ++ []

  saved_numbers : numbers_of (bytes_of (section_numbers m)) ≡ ns
  saved_numbers = numbers_of_bytes_of (section_numbers m) (sections_below w) ∙ sym (append-nil (section_numbers m))

  saved_2 : earlier2 (bytes_of (section_numbers m)) ≡ true
  unfolding earlier2 section_tests
  saved_2 =
      let c = formed_counts w in
      let d = depth_numbers m c [] in
      let n = length_bytes_of (section_numbers m) ∙ ap (λ (k : ℕ). 4 * k) (length_section_numbers m c) in
      rw saved_numbers (sections_pass ns (length (bytes_of (section_numbers m))) 0 (counted_numbers m c []) (rw d (stacked_depth w.stack)) (rw d (omega (arith, n))))

  saved_read : m.dividers ≡ ZEROS → read_earlier (bytes_of (section_numbers m)) ≡ Accepted m
  unfolding read_where choose◌then◌else◌ earlier_in
  saved_read z =
      rw (saved_2, saved_numbers, machine_with_numbers m (formed_counts w) [] ZEROS, same_dividers m ZEROS z) (ask_machine_formed w)

pub earlier_read_back : EarlierReadBack
earlier_read_back m e z = saved_read (true_formed m e) z

pub layouts_apart : LayoutsApart
unfolding read_where question2 earlier2 choose◌then◌else◌
layouts_apart image =
    record {
      earlier = λ e. rw (other_length 0 LAST image (λ z. omega arith) e);
      now = λ e. rw (other_length LAST 0 image (λ z. omega arith) (and_parts (fits_to_stack LAST image) _ e).0);
    }

-- ---- reset

pub reset_accepted : read_image (write_image reset) ≡ Accepted reset
reset_accepted = read_back reset_formed
