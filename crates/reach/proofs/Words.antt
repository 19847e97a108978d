-- Words of a program: what a word leads to are words, and its slots lie above it. Assumes nothing.
use mathlib.Core.Path.{◌≡◌, refl}
use mathlib.Core.Logic.{◌⊎◌, inl, inr, ◌↔◌}
use mathlib.Core.Bool.{Bool, true, false}
use mathlib.Core.List.{List, [], ◌∷◌}
use Prim.Native.Nat.{ℕ, zero, suc, ◌+◌, ◌%◌, ◌≤◌, ◌<◌}
use native.Mathlib.Omega.{arith}
use lib.Dec.{leb, eqb}
use lib.IntN.{ℤ, pos, negsuc}
use lib.ListN.{length}
use borrow.Author.Tests.{eqb-true, leb-true, eq-eqb, le-leb}
use Rattle.word.specs.Choice.{choose◌then◌else◌}
use Rattle.word.proofs.Tests.{and_parts, and_both}
use Rattle.isa.specs.declared.width.Width.{Width}
use Rattle.isa.specs.Decode.{word_bytes}
use Rattle.isa.proofs.Decoded.{bytes_positive}
use Rattle.reach.specs.Successors.{is_word, words_among, successors, next_addresses, slots}
use Rattle.reach.specs.Theorems.{WholeWord}
use Rattle.reach.specs.Reachable.{Among, InFull, first, further}

-- ---- one word

module _ (width : Width) (size a : ℕ) (e : is_word width size a ≡ true) where
  pub aligned : a % word_bytes width ≡ 0
  unfolding is_word
  aligned = eqb-true (a % word_bytes width) 0 (and_parts (eqb (a % word_bytes width) 0) (leb (a + word_bytes width) size) e).0

  pub wholly : a + word_bytes width ≤ size
  unfolding is_word
  wholly = leb-true (a + word_bytes width) size (and_parts (eqb (a % word_bytes width) 0) (leb (a + word_bytes width) size) e).1

  pub inside : a < size
  inside = let h = wholly in let p = bytes_positive width in omega arith

-- the test says that there is a whole word
pub whole : (width : Width) (size a : ℕ) → (is_word width size a ≡ true) ↔ WholeWord width size a
unfolding is_word
whole width size a = (
  (λ e. record { aligned = aligned width size a e; wholly = wholly width size a e }),
  (λ w. and_both (eqb (a % word_bytes width) 0) (leb (a + word_bytes width) size) (eq-eqb (a % word_bytes width) 0 w.aligned) (le-leb (a + word_bytes width) size w.wholly)),
)

-- ---- lists of words

module _ (width : Width) (size : ℕ) where
  -- one among the words of a list is the first, which then is a word, or among those of the rest
  first_or_rest : (a : ℕ) (zs : List ℤ) (b : ℕ) → Among b (words_among width size (pos a ∷ zs)) → ((is_word width size b ≡ true) × (b ≡ a)) ⊎ Among b (words_among width size zs)
  unfolding words_among choose◌then◌else◌
  first_or_rest a zs b m = go (is_word width size a) refl m
    where
      here : is_word width size a ≡ true → (b ≡ a) ⊎ Among b (words_among width size zs) → ((is_word width size b ≡ true) × (b ≡ a)) ⊎ Among b (words_among width size zs)
      here e (inl same) = inl (rw same e, same)
      here e (inr k) = inr k

      go : (t : Bool) → is_word width size a ≡ t → Among b (choose◌then◌else◌ t (a ∷ words_among width size zs) (words_among width size zs))
          → ((is_word width size b ≡ true) × (b ≡ a)) ⊎ Among b (words_among width size zs)
      go true e k = here e k
      go false e k = inr k

  -- a list of one address
  pub one_word : (a : ℕ) → is_word width size a ≡ true → words_among width size (pos a ∷ []) ≡ a ∷ []
  unfolding words_among choose◌then◌else◌
  one_word a e = rw e

  pub one_absent : (a : ℕ) → is_word width size a ≡ false → words_among width size (pos a ∷ []) ≡ []
  unfolding words_among choose◌then◌else◌
  one_absent a e = rw e

  pub among_word : (zs : List ℤ) (b : ℕ) → Among b (words_among width size zs) → is_word width size b ≡ true
  unfolding words_among
  among_word [] b m = absurd m
  among_word (negsuc n ∷ zs) b m = among_word zs b m
  among_word (pos a ∷ zs) b m = go (first_or_rest a zs b m) (among_word zs b)
    where
      go : ((is_word width size b ≡ true) × (b ≡ a)) ⊎ Among b (words_among width size zs) → (Among b (words_among width size zs) → is_word width size b ≡ true) → is_word width size b ≡ true
      go (inl k) r = k.0
      go (inr k) r = r k

  next_above : (a count b : ℕ) → Among b (words_among width size (next_addresses width a count)) → a < b
  unfolding next_addresses words_among
  next_above a zero b m = absurd m
  next_above a (suc count) b m =
      go (first_or_rest (a + word_bytes width) (next_addresses width (a + word_bytes width) count) b m) (next_above (a + word_bytes width) count b)
    where
      go : ((is_word width size b ≡ true) × (b ≡ a + word_bytes width)) ⊎ Among b (words_among width size (next_addresses width (a + word_bytes width) count))
          → (Among b (words_among width size (next_addresses width (a + word_bytes width) count)) → a + word_bytes width < b) → a < b
      go (inl k) r = let e = k.1 in let p = bytes_positive width in omega arith
      go (inr k) r = let h = r k in omega arith

-- ---- where a word leads

module _ (width : Width) (program : List ℕ) where
  pub successors_words : (a b : ℕ) → Among b (successors width program a) → is_word width (length program) b ≡ true
  unfolding successors
  successors_words a b m = among_word width (length program) _ b m

  pub slots_words : (a b : ℕ) → Among b (slots width program a) → is_word width (length program) b ≡ true
  unfolding slots
  slots_words a b m = among_word width (length program) _ b m

  pub slots_above : (a b : ℕ) → Among b (slots width program a) → a < b
  unfolding slots
  slots_above a b m = next_above width (length program) a _ b m

  -- what is reached in full from a word is a word
  pub in_full_word : (start b : ℕ) → is_word width (length program) start ≡ true → InFull (successors width program) start b → is_word width (length program) b ≡ true
  in_full_word start b e first = e
  in_full_word start b e (further {a} r m) = successors_words a b m
