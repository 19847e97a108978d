-- The columns of a line, filled one after the other. Assumes nothing.
use mathlib.Core.Path.{◌≡◌, refl, sym, ap, ◌∙◌}
use mathlib.Core.List.{List, [], ◌∷◌, ◌++◌, append_assoc, append-nil}
use Prim.Native.Nat.{ℕ, zero, suc, ◌+◌, ◌-◌, ◌≤◌}
use native.Mathlib.Nat.{zero-add}
use native.Mathlib.Omega.{arith}
use lib.ListN.{length, drop, replicate, length-append, length-replicate}
use lib.Seq.{drop-append-le}
use Rattle.codec.specs.Number.{put_at}
use Rattle.codec.proofs.Laws.{put_at_nothing, put_at_skip}
use Rattle.console.specs.Digits.{blank, newline}
use Rattle.listing.specs.Line.{joined, padded, columns}
use Rattle.listing.specs.Parts.{spaced}
use Rattle.listing.proofs.Texts.{length_padded}

-- ---- one column

drop_replicate : (k n : ℕ) → k ≤ n → drop k (replicate n blank) ≡ replicate (n - k) blank
drop_replicate zero n h = let e : n ≡ n - 0 = omega arith in ap (λ (m : ℕ). replicate m blank) e
drop_replicate (suc k) zero h = absurd (omega arith)
drop_replicate (suc k) (suc n) h = let e : suc n - suc k ≡ n - k = omega arith in drop_replicate k n (omega arith) ∙ ap (λ (m : ℕ). replicate m blank) (sym e)

-- a text in an empty column
fill : (n : ℕ) (t rest : List ℕ) → length t ≤ n → put_at (padded n [] ++ rest) 0 t ≡ padded n t ++ rest
unfolding padded
fill n t rest h =
    let l : length t ≤ length (replicate n blank) = rw (length-replicate n blank) h in
    let e : n - 0 ≡ n = omega arith in
    ap (λ (m : ℕ). t ++ drop (0 + length t) (replicate m blank ++ rest)) e
    ∙ ap (λ (k : ℕ). t ++ drop k (replicate n blank ++ rest)) (zero-add (length t))
    ∙ ap (λ (s : List ℕ). t ++ s) (drop-append-le (length t) (replicate n blank) rest l ∙ ap (λ (s : List ℕ). s ++ rest) (drop_replicate (length t) n h))
    ∙ sym (append_assoc t (replicate (n - length t) blank) rest)

-- the same, from the blank before the column on
fill_after : (n : ℕ) (t rest : List ℕ) → length t ≤ n → put_at (blank ∷ (padded n [] ++ rest)) 0 (blank ∷ t) ≡ blank ∷ (padded n t ++ rest)
fill_after n t rest h =
    let e : 0 + suc (length t) ≡ suc (0 + length t) = omega arith in
    ap (λ (k : ℕ). (blank ∷ t) ++ drop k (blank ∷ (padded n [] ++ rest))) e ∙ ap (λ (s : List ℕ). blank ∷ s) (fill n t rest h)

-- what is put past a column and the blank after it
within : (n at k : ℕ) (c s t after : List ℕ) → length c ≤ n → n + 1 + at ≡ k → put_at s at t ≡ after → put_at (padded n c ++ (blank ∷ s)) k t ≡ padded n c ++ (blank ∷ after)
within n at k c s t after h e f =
    put_at_skip (padded n c) (blank ∷ s) t (1 + at) k (omega (arith, length_padded n c h))
    ∙ ap (λ (l : List ℕ). padded n c ++ l) (put_at_skip (blank ∷ []) s t at (1 + at) refl ∙ ap (λ (l : List ℕ). blank ∷ l) f)

-- ---- the line, from the right

abbrev pub fifth : (o : List ℕ) → List ℕ
fifth o = padded 13 o ++ newline ∷ []

abbrev pub fourth : (n o : List ℕ) → List ℕ
fourth n o = padded 8 n ++ (blank ∷ fifth o)

abbrev pub third : (c n o : List ℕ) → List ℕ
third c n o = padded 6 c ++ (blank ∷ fourth n o)

abbrev pub second : (w c n o : List ℕ) → List ℕ
second w c n o = padded 8 w ++ (blank ∷ third c n o)

abbrev pub first : (a w c n o : List ℕ) → List ℕ
first a w c n o = padded 8 a ++ (blank ∷ second w c n o)

pub from_right : (a w c n o : List ℕ) → columns a w c n o ≡ first a w c n o
unfolding columns joined
from_right a w c n o =
    let end = newline ∷ [] in
    append_assoc (padded 8 a) _ end
    ∙ ap (λ (s : List ℕ). padded 8 a ++ (blank ∷ s))
    (append_assoc (padded 8 w) _ end
    ∙ ap (λ (s : List ℕ). padded 8 w ++ (blank ∷ s))
    (append_assoc (padded 6 c) _ end
    ∙ ap (λ (s : List ℕ). padded 6 c ++ (blank ∷ s)) (append_assoc (padded 8 n) (blank ∷ padded 13 o) end)))

-- the texts of a line fit their columns
pub record Fit (a w c n o : List ℕ) : Type 0 where
  pub address : length a ≤ 8
  pub word : length w ≤ 8
  pub condition : length c ≤ 6
  pub name : length n ≤ 8
  pub operands : length o ≤ 13

pub length_columns : (a w c n o : List ℕ) → Fit a w c n o → length (columns a w c n o) ≡ 48
length_columns a w c n o f =
    let l₁ = length-append (padded 8 a) (blank ∷ second w c n o) in
    let l₂ = length-append (padded 8 w) (blank ∷ third c n o) in
    let l₃ = length-append (padded 6 c) (blank ∷ fourth n o) in
    let l₄ = length-append (padded 8 n) (blank ∷ fifth o) in
    let l₅ = length-append (padded 13 o) (newline ∷ []) in
    ap length (from_right a w c n o)
    ∙ omega (arith, l₁, l₂, l₃, l₄, l₅, length_padded 8 a f.address, length_padded 8 w f.word, length_padded 6 c f.condition, length_padded 8 n f.name, length_padded 13 o f.operands)

-- ---- its parts, each put into its column

pub put_address : (a : List ℕ) → length a ≤ 8 → put_at (first [] [] [] [] []) 0 a ≡ first a [] [] [] []
put_address a h = fill 8 a (blank ∷ second [] [] [] []) h

pub put_word : (a w : List ℕ) → length a ≤ 8 → length w ≤ 8 → put_at (first a [] [] [] []) 9 w ≡ first a w [] [] []
put_word a w h k = within 8 0 9 a (second [] [] [] []) w (second w [] [] []) h refl (fill 8 w (blank ∷ third [] [] []) k)

pub put_condition : (a w c : List ℕ) → length a ≤ 8 → length w ≤ 8 → length c ≤ 6 → put_at (first a w [] [] []) 18 c ≡ first a w c [] []
put_condition a w c h k l =
    within 8 9 18 a (second w [] [] []) c (second w c [] []) h refl
    (within 8 0 9 w (third [] [] []) c (third c [] []) k refl (fill 6 c (blank ∷ fourth [] []) l))

pub put_name : (a w c n : List ℕ) → length a ≤ 8 → length w ≤ 8 → length c ≤ 6 → length n ≤ 8 → put_at (first a w c [] []) 25 n ≡ first a w c n []
put_name a w c n h k l m =
    within 8 16 25 a (second w c [] []) n (second w c n []) h refl
    (within 8 7 16 w (third c [] []) n (third c n []) k refl
    (within 6 0 7 c (fourth [] []) n (fourth n []) l refl (fill 8 n (blank ∷ fifth []) m)))

-- texts with blanks between them, and with a blank before each
pub spaced_joined : (t : List ℕ) (ts : List (List ℕ)) → spaced (t ∷ ts) ≡ blank ∷ joined (t ∷ ts)
unfolding spaced joined
spaced_joined t [] = ap (λ (s : List ℕ). blank ∷ s) (append-nil t)
spaced_joined t (u ∷ us) = ap (λ (s : List ℕ). blank ∷ t ++ s) (spaced_joined u us)

-- the last part begins with the blank before it
put_last : (a w c n t : List ℕ) → length a ≤ 8 → length w ≤ 8 → length c ≤ 6 → length n ≤ 8 → length t ≤ 13
    → put_at (first a w c n []) 33 (blank ∷ t) ≡ first a w c n t
put_last a w c n t h k l m o =
    within 8 24 33 a (second w c n []) (blank ∷ t) (second w c n t) h refl
    (within 8 15 24 w (third c n []) (blank ∷ t) (third c n t) k refl
    (within 6 8 15 c (fourth n []) (blank ∷ t) (fourth n t) l refl
    (put_at_skip (padded 8 n) (blank ∷ fifth []) (blank ∷ t) 0 8 (omega (arith, length_padded 8 n m)) ∙ ap (λ (s : List ℕ). padded 8 n ++ s) (fill_after 13 t (newline ∷ []) o))))

pub put_operands : (a w c n : List ℕ) (ts : List (List ℕ)) → length a ≤ 8 → length w ≤ 8 → length c ≤ 6 → length n ≤ 8 → length (spaced ts) ≤ 14
    → put_at (first a w c n []) 33 (spaced ts) ≡ first a w c n (joined ts)
unfolding spaced joined
put_operands a w c n [] h k l m o = put_at_nothing (first a w c n []) 33
put_operands a w c n (t ∷ ts) h k l m o =
    let e = spaced_joined t ts in
    ap (λ (s : List ℕ). put_at (first a w c n []) 33 s) e ∙ put_last a w c n (joined (t ∷ ts)) h k l m (omega (arith, ap length e))
