-- Lists of visits, and the addresses that the code hands on. Assumes nothing.
use mathlib.Core.Path.{◌≡◌, refl, ap, ◌∙◌}
use mathlib.Core.Bool.{Bool, true, false}
use mathlib.Core.List.{List, [], ◌∷◌, ◌++◌}
use Prim.Native.Nat.{ℕ, zero, suc, ◌+◌, ◌*◌, ◌%◌, ◌-◌, ◌≤◌, ◌<◌}
use native.Mathlib.Numerals.{add-one}
use native.Mathlib.Omega.{arith}
use lib.ListN.{length, get_or}
use Rattle.std.proofs.Common.{append-nil, append_assoc}
use lib.IntN.{ℤ, pos, negsuc}
use borrow.Author.Tests.{lt-ltb, le-ltb}
use Rattle.word.specs.Choice.{choose◌then◌else◌}
use Rattle.word.specs.Word.{word_of}
use Rattle.word.proofs.Integers.{word_low}
use Rattle.isa.specs.declared.width.Width.{Width}
use Rattle.isa.specs.declared.width.Width.TheVariants.{Narrow, Wide}
use Rattle.isa.specs.Decode.{word_bytes, word_at, decode}
use Rattle.reach.specs.Successors.{is_word, words_among, next_of, target_of, resumption_of, successors}
use Rattle.reach.specs.Search.{Search, visit_all, follow}

-- ---- addresses

-- at most three words are at most twelve bytes
pub near : (width : Width) (words : ℕ) → words < 4 → words * word_bytes width ≤ 12
unfolding word_bytes
near Narrow words h = omega arith
near Wide words h = omega arith

-- the low bit of a signed number is that of its word
pub low_bit : (z : ℤ) → word_of 32 z % 2 ≡ word_of 1 z
low_bit z = word_low 31 1 z

-- ---- lists of words

words_append : (width : Width) (size : ℕ) (xs ys : List ℤ) → words_among width size (xs ++ ys) ≡ words_among width size xs ++ words_among width size ys
unfolding words_among choose◌then◌else◌
words_append width size [] ys = refl
words_append width size (negsuc n ∷ xs) ys = words_append width size xs ys
words_append width size (pos a ∷ xs) ys = go (is_word width size a) (words_append width size xs ys)
  where
    go : (t : Bool) → words_among width size (xs ++ ys) ≡ words_among width size xs ++ words_among width size ys
        → choose◌then◌else◌ t (a ∷ words_among width size (xs ++ ys)) (words_among width size (xs ++ ys)) ≡ choose◌then◌else◌ t (a ∷ words_among width size xs) (words_among width size xs) ++ words_among width size ys
    go true e = ap (λ (l : List ℕ). a ∷ l) e
    go false e = e

-- all that a word leads to, in three lists
pub led_to : (width : Width) (program : List ℕ) (a : ℕ)
    → let i = decode width (word_at width program a) in
    let n = length program in
    words_among width n (next_of width i a) ++ (words_among width n (target_of width i a) ++ (words_among width n (resumption_of width i a) ++ [])) ≡ successors width program a
unfolding successors
led_to width program a =
    let i = decode width (word_at width program a) in
    let n = length program in
    rw (words_append width n (next_of width i a ++ target_of width i a) (resumption_of width i a), words_append width n (next_of width i a) (target_of width i a), append_assoc, append-nil) refl

-- ---- the loop

module _ (successors : ℕ → List ℕ) (size head : ℕ) (s : Search) where
  pub follow_more : head < size → head < length s.found
      → follow successors (size - head) head s ≡ follow successors (size - (head + 1)) (head + 1) (visit_all (successors (get_or s.found head 0)) s)
  unfolding follow choose◌then◌else◌
  follow_more h l =
      let e : size - head ≡ suc (size - (head + 1)) = omega arith in
      ap (λ (left : ℕ). follow successors left head s) e ∙ rw (lt-ltb head (length s.found) l, add-one head)

  pub follow_end : (left : ℕ) → length s.found ≤ head → follow successors left head s ≡ s
  unfolding follow choose◌then◌else◌
  follow_end zero l = refl
  follow_end (suc left) l = rw (le-ltb head (length s.found) l)
