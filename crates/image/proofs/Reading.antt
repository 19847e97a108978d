-- Question 2 as the code asks it, and the words that it reads from an image. Assumes nothing.
use mathlib.Core.Path.{◌≡◌, refl, sym, ap, ◌∙◌}
use mathlib.Core.Bool.{Bool, true, false, ◌&&◌, and-true, and-false, and_assoc}
use mathlib.Core.List.{List, [], ◌∷◌, ◌++◌, append_assoc}
use Prim.Native.Nat.{ℕ, suc, ◌+◌, ◌-◌, ◌*◌, ◌/◌, ◌≤◌, ◌<◌}
use native.Mathlib.Omega.{arith}
use native.Mathlib.Nat.{add-zero}
use native.Mathlib.Numerals.{add-one}
use lib.Dec.{eqb, lit<}
use lib.ListN.{length, get_or, set, drop, length-append, length-drop}
use borrow.Author.Tests.{le-leb, lt-leb, ne_eqb}
use Rattle.word.specs.Choice.{choose◌then◌else◌}
use Rattle.word.proofs.Tests.{and_parts}
use Rattle.codec.specs.Number.{number_at, numbers_of, over}
use Rattle.codec.proofs.Laws.{get_d_numbers_of, length_numbers_of}
use Rattle.machine.specs.Machine.{Machine, with_dividers}
use Rattle.machine.specs.Words.{DIVIDERS, DEPTH, SOURCES, TIMERS, ZEROS, WORDS, section, machine_of}
use Rattle.machine.proofs.Lists.{pair}
use Rattle.machine.proofs.Flat.{depth_is, fill_in, fill_apart, stack_past, section_at, section_length}
use Rattle.machine.specs.Questions.{all, ask_machine}
use Rattle.image.specs.Image.{section_numbers, STACK_AT, count_of, dividers_at, machine_with, machine_in, bytes_to_stack, LAST, section_tests, fits_to_stack, ToStack, question2, read_where}
use Rattle.image.specs.Earlier.{earlier2}
use Rattle.image.proofs.Sections.{depth_machine_with, counts_machine_with, machine_with_numbers, all_words}
use Rattle.image.proofs.Image.{Sectioned, sectioned, all_sections}

-- ---- question 2

module _ (behind : ℕ) (s : List ℕ) where
  pub sections_short : length s < bytes_to_stack 0 → false ≡ fits_to_stack behind s
  unfolding section_tests all
  sections_short h = simp (ne_eqb (length s) (bytes_to_stack (count_of STACK_AT (numbers_of s)) + behind) (λ e. omega arith))

  pub sections_deep : bytes_to_stack 0 ≤ length s → 12 < number_at s 512 → false ≡ fits_to_stack behind s
  unfolding section_tests all
  sections_deep h d = simp (get_d_numbers_of s 128 h, lt-leb (number_at s 512) 12 d, and-false)

  pub sections_counted : bytes_to_stack 0 ≤ length s → number_at s 512 ≤ 12
      → eqb (length s) (bytes_to_stack (number_at s 512) + behind) && eqb (number_at s 0) 32 && eqb (number_at s 132) 32 && eqb (number_at s 264) 8
      && eqb (number_at s 300) 45 && eqb (number_at s 484) 6 ≡ fits_to_stack behind s
  unfolding section_tests all
  sections_counted h d =
      simp (
        get_d_numbers_of s 128 h,
        get_d_numbers_of s 0 (omega arith),
        get_d_numbers_of s 33 (omega arith),
        get_d_numbers_of s 66 (omega arith),
        get_d_numbers_of s 75 (omega arith),
        get_d_numbers_of s 121 (omega arith),
        le-leb (number_at s 512) 12 d,
        and_assoc,
        and-true,
      )

module _ (s : List ℕ) where
  pub sections_long : fits_to_stack LAST s ≡ true → 528 ≤ length s
  sections_long e = omega (arith, (sectioned LAST s e).exact)

  pub sections_last : fits_to_stack LAST s ≡ true → eqb (number_at s (length s - LAST)) TIMERS ≡ question2 s
  unfolding question2
  sections_last e =
      let z = sectioned LAST s e in
      let at = STACK_AT + 4 * count_of STACK_AT (numbers_of s) in
      let same : length s - LAST ≡ 4 * at = omega (arith, z.exact) in
      rw (e, get_d_numbers_of s at (omega (arith, z.exact)), same)

  pub sections_none : fits_to_stack LAST s ≡ false → false ≡ question2 s
  unfolding question2
  sections_none e = rw e

-- ---- an image that passes question 2, of either layout

pub question2_stack : (s : List ℕ) → question2 s ≡ true → ToStack s
unfolding question2
question2_stack s e = record { behind = LAST; most = omega arith; fits = (and_parts (fits_to_stack LAST s) _ e).0 }

pub earlier2_stack : (s : List ℕ) → earlier2 s ≡ true → ToStack s
unfolding earlier2
earlier2_stack s e = record { behind = 0; most = omega arith; fits = e }

pub question2_long : (s : List ℕ) → question2 s ≡ true → 528 ≤ length s
question2_long s e = omega (arith, (all_sections s e).0.exact)

pub few_numbers : (s : List ℕ) → ToStack s → length s / 4 ≤ WORDS
few_numbers s t = let z = sectioned t.behind s t.fits in omega (arith, t.most, z.exact, z.deep)

-- both dividers stored in words
dividers_stored : (w : List ℕ) (a b : ℕ) → length w ≡ WORDS → length (machine_of w).stack ≤ SOURCES
    → machine_of (set (set w DIVIDERS a) (DIVIDERS + 1) b) ≡ with_dividers (a ∷ b ∷ []) (machine_of w)
unfolding machine_of with_dividers
dividers_stored w a b h few =
    let ds = a ∷ b ∷ [] in
    simp (fill_in w DIVIDERS ds (omega arith), fill_apart w DIVIDERS ds, stack_past w DIVIDERS ds few (omega arith))

-- its numbers, laid over the words
module _ (s w : List ℕ) (t : ToStack s) (h : length w ≡ WORDS) where
  abbrev ns : List ℕ
  ns = numbers_of s

  fits : Sectioned t.behind s
  fits = sectioned t.behind s t.fits

  over_long : length (over ns w) ≡ WORDS
  over_long = rw (length-append, length-drop) (omega (arith, length_numbers_of s, few_numbers s t))

  -- the machine with any dividers is the one that the image's numbers say
  read_front : (ds : List ℕ) → length ds ≡ TIMERS → machine_with ds (over ns w) ≡ machine_with ds ns
  unfolding with_dividers machine_with
  read_front ds e =
      let z = fits in
      let long : STACK_AT + 4 * count_of STACK_AT ns ≤ length ns = omega (arith, length_numbers_of s, z.exact) in
      let m = machine_with ds ns in
      let rest = drop (STACK_AT + 4 * count_of STACK_AT ns) ns in
      let whole : over ns w ≡ section_numbers m ++ (rest ++ drop (length ns) w) =
      ap (λ (l : List ℕ). l ++ drop (length ns) w) (sym (all_words ds ns z.counted long)) ∙ append_assoc (section_numbers m) rest (drop (length ns) w)
      in
      ap (machine_with ds) whole ∙ machine_with_numbers m (counts_machine_with ds ns e (omega arith)) (rest ++ drop (length ns) w) ds

  -- and so are the words with any two
  with_words : (ds : List ℕ) → length ds ≡ TIMERS → with_dividers ds (machine_of (over ns w)) ≡ machine_with ds ns
  unfolding with_dividers machine_of machine_with
  with_words ds e = read_front ds e

  stack_few : length (machine_of (over ns w)).stack ≤ SOURCES
  unfolding with_dividers
  stack_few =
      let same = ap (λ (m : Machine). length m.stack) (with_words ZEROS refl) in
      omega (arith, same, depth_machine_with ZEROS ns, fits.deep)

  module _ (a b : ℕ) where
    -- the words with two dividers stored
    abbrev stored : List ℕ
    stored = set (set (over ns w) DIVIDERS a) (DIVIDERS + 1) b

    pub read_words : machine_of stored ≡ machine_with (a ∷ b ∷ []) ns
    read_words = dividers_stored (over ns w) a b over_long stack_few ∙ with_words (a ∷ b ∷ []) refl

    pub read_deep : get_or stored DEPTH 0 ≤ SOURCES
    read_deep =
        let same = ap (λ (m : Machine). length m.stack) read_words in
        omega (arith, depth_is stored, same, depth_machine_with (a ∷ b ∷ []) ns, fits.deep)

-- the last section's two numbers
pub read_dividers : (s : List ℕ) → question2 s ≡ true → machine_with (number_at s (length s - 8) ∷ number_at s (length s - 4) ∷ []) (numbers_of s) ≡ machine_in (numbers_of s)
unfolding machine_in
read_dividers s e =
    let ns = numbers_of s in
    let z = (all_sections s e).0 in
    let at = dividers_at ns in
    let first : length s - 8 ≡ 4 * at = omega (arith, z.exact) in
    let second : length s - 4 ≡ 4 * suc at = omega (arith, z.exact) in
    let ds = section at TIMERS ns in
    let two : ds ≡ get_or ns at 0 ∷ get_or ns (suc at) 0 ∷ [] =
    pair ds (section_length ns at TIMERS (omega (arith, length_numbers_of s, z.exact))) ∙ rw (section_at ns at TIMERS 0 (lit< tt), section_at ns at TIMERS 1 (lit< tt), add-zero at, add-one at)
    in
    rw (first, second, ← get_d_numbers_of s at (omega (arith, z.exact)), ← get_d_numbers_of s (suc at) (omega (arith, z.exact)), ← two)

-- ---- questions 3 to 5 of it

pub said_deep : (ds s : List ℕ) → ToStack s → length (machine_with ds (numbers_of s)).stack ≤ SOURCES
said_deep ds s t = omega (arith, (sectioned t.behind s t.fits).deep, depth_machine_with ds (numbers_of s))

-- what is asked of words that say its machine is asked of it
pub said_asked : (fits : Bool) (x m : Machine) → fits ≡ true → m ≡ x → ask_machine m ≡ read_where fits x
unfolding read_where choose◌then◌else◌
said_asked fits x m e same = rw (same, e)
