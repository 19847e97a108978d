-- The statements of specs/Theorems, proved. Assumes nothing.
use mathlib.Core.Path.{◌≡◌, refl, sym, ap, subst, ◌∙◌}
use mathlib.Core.Logic.{◌≢◌}
use mathlib.Core.List.{List, [], ◌∷◌, ◌++◌, append_assoc}
use Prim.Native.Nat.{ℕ, zero, suc, ◌+◌, ◌*◌, ◌%◌, ◌≤◌, ◌<◌}
use native.Mathlib.Nat.{zero-add, add-zero, mul-zero, mul-suc}
use native.Mathlib.Omega.{arith}
use lib.Dec.{leb, eqb}
use lib.ListN.{length, take, drop, length-append}
use lib.Seq.{take_at, drop_at, drop-append-add, drop-drop}
use borrow.Author.Tests.{leb-true, leb-false, eqb-true, eqb-false}
use Rattle.word.specs.Choice.{choose◌then◌else◌}
use Rattle.word.proofs.Tests.{either}
use Rattle.codec.specs.Number.{over}
use Rattle.codec.proofs.Laws.{length_over}
use Rattle.isa.specs.declared.width.Width.{Width}
use Rattle.isa.specs.Operation.{operation_of}
use Rattle.isa.specs.Decode.{word_bytes, word_at, decode}
use Rattle.isa.specs.Shown.{shown_roles}
use Rattle.machine.specs.Machine.{MOST_MEMORY}
use Rattle.console.specs.Digits.{blank, newline, hex8}
use Rattle.listing.specs.Line.{joined, operands_text, name_text, condition_text, padded, columns, word_line}
use Rattle.listing.specs.Listing.{LINE_BYTES, lines_from, words_in, Listed, listed, listing_call}
use Rattle.listing.specs.Theorems.{LineColumns, FormlessShown, RefusedKeeps, Listable, Lines, ListedLines, AskedInOrder}
use Rattle.listing.proofs.Texts.{length_padded}
use Rattle.listing.proofs.Columns.{fifth, fourth, third, second, first, from_right}
use Rattle.listing.proofs.Lines.{word_text, parts_fit, length_line}
use Rattle.listing.proofs.Calls.{too_long_law, not_whole_law, too_short_law, listable}

-- ---- a line

-- a column and the character after it
here : (n next : ℕ) (c s : List ℕ) → length c ≤ n → take (suc n) (padded n c ++ (next ∷ s)) ≡ padded n c ++ next ∷ []
here n next c s h =
    let p = padded n c in
    let l : length (p ++ next ∷ []) ≡ suc n = length-append p (next ∷ []) ∙ omega (arith, length_padded n c h) in
    ap (take (suc n)) (sym (append_assoc p (next ∷ []) s)) ∙ take_at (p ++ next ∷ []) s (suc n) l

-- what stands past a column and the blank after it
beyond : (n at k : ℕ) (line c s : List ℕ) → drop at line ≡ padded n c ++ (blank ∷ s) → length c ≤ n → at + suc n ≡ k → drop k line ≡ s
beyond n at k line c s e h j =
    let l : length (padded n c) + 1 ≡ suc n = omega (arith, length_padded n c h) in
    ap (λ (k : ℕ). drop k line) (sym j) ∙ sym (drop-drop (suc n) at line) ∙ ap (drop (suc n)) e ∙ ap (λ (k : ℕ). drop k (padded n c ++ (blank ∷ s))) (sym l) ∙ drop-append-add (padded n c) (blank ∷ s) 1

pub line_columns : LineColumns
unfolding word_line
line_columns width address word =
    let f = parts_fit width address word in
    let i = decode width word in
    let a = hex8 address in
    let w = word_text width word in
    let c = condition_text i in
    let n = name_text width (operation_of i.opcode) in
    let o = operands_text width i in
    let line = columns a w c n o in
    let at₁ : drop 0 line ≡ first a w c n o = from_right a w c n o in
    let at₂ : drop 9 line ≡ second w c n o = beyond 8 0 9 line a (second w c n o) at₁ f.address refl in
    let at₃ : drop 18 line ≡ third c n o = beyond 8 9 18 line w (third c n o) at₂ f.word refl in
    let at₄ : drop 25 line ≡ fourth n o = beyond 6 18 25 line c (fourth n o) at₃ f.condition refl in
    let at₅ : drop 34 line ≡ fifth o = beyond 8 25 34 line n (fifth o) at₄ f.name refl in
    record {
      size = length_line width address word;
      address = record { fits = f.address; shown = ap (take 9) at₁ ∙ here 8 blank a (second w c n o) f.address };
      word = record { fits = f.word; shown = ap (take 9) at₂ ∙ here 8 blank w (third c n o) f.word };
      condition = record { fits = f.condition; shown = ap (take 7) at₃ ∙ here 6 blank c (fourth n o) f.condition };
      name = record { fits = f.name; shown = ap (take 9) at₄ ∙ here 8 blank n (fifth o) f.name };
      operands = record { fits = f.operands; shown = ap (take 14) at₅ ∙ here 13 newline o [] f.operands };
    }

pub formless_shown : FormlessShown
unfolding name_text operands_text shown_roles joined choose◌then◌else◌
formless_shown width i e = record { name = rw e; operands = rw e }

-- ---- a call

pub asked_in_order : AskedInOrder
asked_in_order width program text =
    record {
      too_long = λ h. sym (too_long_law width program text h);
      not_whole = λ h d. sym (not_whole_law width program text h d);
      too_short = λ h e l. sym (too_short_law width program text h e l);
      others = λ y. ap (λ (l : Listed). l.answer) (sym (listable width program text y.size y.whole y.room));
    }

-- which answer a call gives
module _ (width : Width) (program text : List ℕ) where
  by_answer : (P : Listed → Type 0) → P (listed 1 text) → P (listed 16 text) → P (listed 17 text)
      → (Listable width program text → P (listed 0 (over (lines_from width program 0 (words_in width program)) text))) → P (listing_call width program text)
  by_answer P p₁ p₁₆ p₁₇ p₀ =
      either (leb (length program) MOST_MEMORY)
      (λ s.
      let size = leb-true (length program) MOST_MEMORY s in
      either (eqb (length program % word_bytes width) 0)
      (λ t.
      let whole = eqb-true (length program % word_bytes width) 0 t in
      either (leb (LINE_BYTES * words_in width program) (length text))
      (λ r.
      let room = leb-true (LINE_BYTES * words_in width program) (length text) r in
      subst P (listable width program text size whole room) (p₀ (record { size = size; whole = whole; room = room })))
      (λ r. subst P (too_short_law width program text size whole (leb-false (LINE_BYTES * words_in width program) (length text) r)) p₁₇))
      (λ t. subst P (not_whole_law width program text size (eqb-false (length program % word_bytes width) 0 t)) p₁₆))
      (λ s. subst P (too_long_law width program text (leb-false (length program) MOST_MEMORY s)) p₁)

pub refused_keeps : RefusedKeeps
refused_keeps width program text =
    by_answer width program text (λ l. l.answer ≢ 0 → l.text ≡ text) (λ d. refl) (λ d. refl) (λ d. refl) (λ y d. absurd (d refl))

-- ---- the lines

length_lines : (width : Width) (program : List ℕ) (a count : ℕ) → length (lines_from width program a count) ≡ LINE_BYTES * count
unfolding lines_from
length_lines width program a zero = omega arith
length_lines width program a (suc count) =
    length-append (word_line width a (word_at width program a)) (lines_from width program (a + word_bytes width) count)
    ∙ omega (arith, length_line width a (word_at width program a), length_lines width program (a + word_bytes width) count)

-- line n of them, whatever follows
line_at : (width : Width) (program rest : List ℕ) (a count n : ℕ) → n < count
    → take LINE_BYTES (drop (LINE_BYTES * n) (lines_from width program a count ++ rest)) ≡ word_line width (a + word_bytes width * n) (word_at width program (a + word_bytes width * n))
unfolding lines_from
line_at width program rest a zero n h = absurd (omega arith)
line_at width program rest a (suc count) zero h =
    let line = word_line width a (word_at width program a) in
    let lines = lines_from width program (a + word_bytes width) count in
    rw (mul-zero (word_bytes width), add-zero a)
    (ap (take LINE_BYTES) (append_assoc line lines rest) ∙ take_at line (lines ++ rest) LINE_BYTES (length_line width a (word_at width program a)))
line_at width program rest a (suc count) (suc n) h =
    let line = word_line width a (word_at width program a) in
    let lines = lines_from width program (a + word_bytes width) count in
    let k : LINE_BYTES * suc n ≡ length line + LINE_BYTES * n = omega (arith, length_line width a (word_at width program a)) in
    let next : a + word_bytes width + word_bytes width * n ≡ a + word_bytes width * suc n = omega (arith, mul-suc (word_bytes width) n) in
    ap (λ (s : List ℕ). take LINE_BYTES (drop (LINE_BYTES * suc n) s)) (append_assoc line lines rest)
    ∙ ap (λ (k : ℕ). take LINE_BYTES (drop k (line ++ (lines ++ rest)))) k
    ∙ ap (take LINE_BYTES) (drop-append-add line (lines ++ rest) (LINE_BYTES * n))
    ∙ line_at width program rest (a + word_bytes width) count n (omega arith)
    ∙ ap (λ (b : ℕ). word_line width b (word_at width program b)) next

pub listed_lines : ListedLines
listed_lines width program text =
    by_answer width program text (λ l. l.answer ≡ 0 → Listable width program text × Lines width program text l.text)
    (λ e. absurd (omega arith)) (λ e. absurd (omega arith)) (λ e. absurd (omega arith))
    (λ y e.
    let words = words_in width program in
    let lines = lines_from width program 0 words in
    let n = length_lines width program 0 words in (
      y,
      record {
        size = length_over lines text (omega (arith, n, y.room));
        line = λ k h. line_at width program (drop (length lines) text) 0 words k h ∙ ap (λ (b : ℕ). word_line width b (word_at width program b)) (zero-add (word_bytes width * k));
        beyond = drop_at lines (drop (length lines) text) (LINE_BYTES * words) n ∙ ap (λ (k : ℕ). drop k text) n;
      },
    ))
