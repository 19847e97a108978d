-- Sources are all different exactly when their flags have as many ones as there are sources. Assumes nothing.
use mathlib.Core.Path.{◌≡◌, refl, sym, ap, ◌∙◌}
use mathlib.Core.Bool.{Bool, true, false, not, ◌&&◌}
use mathlib.Core.List.{List, [], ◌∷◌}
use Prim.Native.Nat.{ℕ, suc, ◌^◌, ◌≤◌, ◌<◌}
use native.Mathlib.Omega.{arith}
use lib.Dec.{ltb, eqb, eqb-suc-suc}
use lib.Pow.{pow_pos}
use lib.ListN.{length}
use borrow.Author.Tests.{ltb-true, ne_eqb}
use Rattle.word.specs.Word.{bit_at}
use Rattle.word.specs.Flags.{ones_of, with_flag, flags_at, is_among, distinct_below}
use Rattle.word.proofs.Tests.{and_parts, either}
use Rattle.word.proofs.Flags.{with_set, with_below, ones_zero, ones_with, flags_at_law}
use Rattle.machine.specs.Questions.{all_below}

module _ (k : ℕ) where
  -- the flags of places below k are below 2 ^ k
  pub flags_small : (ns : List ℕ) → all_below k ns ≡ true → flags_at ns < 2 ^ k
  unfolding all_below flags_at
  flags_small [] b = pow_pos k
  flags_small (n ∷ ns) b =
      let h = and_parts (ltb n k) (all_below k ns) b in
      with_below n (flags_at ns) k (ltb-true n k h.0) (flags_small ns h.1)

  -- a place more is one more of the ones, or none
  ones_new : (n x : ℕ) → n < k → bit_at n x ≡ false → ones_of k (with_flag n x) ≡ suc (ones_of k x)
  ones_new n x h e = ones_with n x k h e

  ones_again : (n x : ℕ) → bit_at n x ≡ true → ones_of k (with_flag n x) ≡ ones_of k x
  ones_again n x e = ap (ones_of k) (with_set n x e)

  -- there are at most as many ones as places
  ones_fewer : (ns : List ℕ) → all_below k ns ≡ true → ones_of k (flags_at ns) ≤ length ns
  unfolding all_below flags_at
  ones_fewer [] b = rw (ones_zero k) (omega arith)
  ones_fewer (n ∷ ns) b =
      let h = and_parts (ltb n k) (all_below k ns) b in
      let l = ones_fewer ns h.1 in
      either (bit_at n (flags_at ns))
      (λ e. rw (ones_again n (flags_at ns) e) (omega arith))
      (λ e. rw (ones_new n (flags_at ns) (ltb-true n k h.0) e) (omega arith))

  pub distinct_counted : (ns : List ℕ) → distinct_below k ns ≡ all_below k ns && eqb (ones_of k (flags_at ns)) (length ns)
  unfolding distinct_below all_below flags_at
  distinct_counted [] = rw (ones_zero k)
  distinct_counted (n ∷ ns) = go (ltb n k) (is_among n ns) (all_below k ns) refl refl refl (distinct_counted ns)
    where
      go : (b a r : Bool) → ltb n k ≡ b → is_among n ns ≡ a → all_below k ns ≡ r
          → distinct_below k ns ≡ all_below k ns && eqb (ones_of k (flags_at ns)) (length ns)
          → b && (not a && distinct_below k ns) ≡ b && r && eqb (ones_of k (with_flag n (flags_at ns))) (suc (length ns))
      go false a r p q s d = refl
      go true true false p q s d = refl
      go true true true p q s d =
          sym (rw (ones_again n (flags_at ns) (flags_at_law n ns ∙ q)) (ne_eqb (ones_of k (flags_at ns)) (suc (length ns)) (λ e. omega (arith, ones_fewer ns s))))
      go true false r p q s d =
          rw (ones_new n (flags_at ns) (ltb-true n k p) (flags_at_law n ns ∙ q), eqb-suc-suc) (d ∙ rw s)
