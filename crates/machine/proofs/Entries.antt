-- The stack's entries in their array, the top last. Assumes nothing.
use Rattle.std.proofs.Common.{◌≡◌, refl, ℕ, zero, suc, ◌+◌, ◌-◌, ◌<◌, ◌≤◌, List, [], ◌∷◌, length, take, reverse, get_or, ap, sym, ◌∙◌, arith, Some, None}
use Rattle.std.proofs.lemmas.List.{length-reverse, reverse-append, take_more}
use Rattle.machine.specs.Stack.{popped, shown_top}
use Rattle.machine.specs.Top.{top_of}
use Rattle.machine.specs.declared.stack.Entry.{Entry}

-- a depth above the places is that of all of them
take_used : {A : Type 0} (d : ℕ) (xs : List A) → take d xs ≡ take (length (take d xs)) xs
take_used zero xs = refl
take_used (suc d) [] = refl
take_used (suc d) (x ∷ xs) = ap (λ l. x ∷ l) (take_used d xs)

module _ (d : ℕ) (xs : List Entry) (e : Entry) (n : ℕ) (h : n ≡ length (reverse (take d xs))) where
  used : take d xs ≡ take n xs
  used = take_used d xs ∙ ap (λ k. take k xs) (sym (h ∙ length-reverse (take d xs)))

  pub entries_last : 0 < n → n ≤ length xs → reverse (take d xs) ≡ get_or xs (n - 1) e ∷ reverse (take (n - 1) xs)
  entries_last p b =
      let one_more : n ≡ (n - 1) + 1 = omega arith in
      ap reverse used
      ∙ ap (λ k. reverse (take k xs)) one_more
      ∙ ap reverse (take_more xs (n - 1) e (omega arith))
      ∙ reverse-append (take (n - 1) xs) (get_or xs (n - 1) e ∷ [])

  pub top_last : 0 < n → n ≤ length xs → top_of (reverse (take d xs)) ≡ Some (get_or xs (n - 1) e)
  top_last p b = ap top_of (entries_last p b)

  pub popped_last : 0 < n → n ≤ length xs → popped (reverse (take d xs)) ≡ reverse (take (n - 1) xs)
  unfolding popped
  popped_last p b = ap popped (entries_last p b)

-- ---- the top, and what is shown of it

pub shown_some : (es : List Entry) (e : Entry) → top_of es ≡ Some e → e ≡ shown_top es
unfolding shown_top
shown_some [] e h = cc h
shown_some (f ∷ es) e h = cc h

pub shown_none : (es : List Entry) → top_of es ≡ None → shown_top [] ≡ shown_top es
unfolding shown_top
shown_none [] h = refl
shown_none (f ∷ es) h = cc h

-- ---- how many there are

length_most : {A : Type 0} (d : ℕ) (xs : List A) → length (take d xs) ≤ d
length_most zero xs = omega arith
length_most (suc d) [] = omega arith
length_most (suc d) (x ∷ xs) = omega (arith, length_most d xs)

pub room_left : (d : ℕ) (xs : List Entry) → d < 12 → length (reverse (take d xs)) < 12
room_left d xs h = omega (arith, length-reverse (take d xs), length_most d xs)
