-- The operands of an instruction, one after the other. Assumes nothing.
use mathlib.Core.Path.{◌≡◌, refl, sym, ap, ◌∙◌}
use mathlib.Core.List.{List, [], ◌∷◌, ◌++◌, map, append_assoc, append-nil}
use Prim.Native.Nat.{ℕ, zero, suc, ◌+◌, ◌≤◌}
use native.Mathlib.Omega.{arith}
use lib.Seq.{take_all}
use lib.ListN.{length, take, length-append}
use Rattle.std.specs.Prelude.{Some, None}
use Rattle.std.specs.List.{slice_get}
use Rattle.isa.specs.declared.form.Role.{Role}
use Rattle.console.specs.Digits.{blank}
use Rattle.listing.specs.Parts.{spaced}

-- a role is not no role
none_some : {r : Role} → None ≡ Some r → ⊥
none_some e = grind arith

some_same : {s r : Role} → Some s ≡ Some r → s ≡ r
some_same e = grind arith

module _ (f : Role → List ℕ) where
  -- those of the first k roles
  abbrev pub first_operands : (rs : List Role) (k : ℕ) → List ℕ
  first_operands rs k = spaced (map f (take k rs))

  -- one operand more, where there is one
  pub next_operand : (rs : List Role) (k : ℕ) (r : Role) → slice_get rs k ≡ Some r → first_operands rs (suc k) ≡ first_operands rs k ++ (blank ∷ f r)
  unfolding spaced
  next_operand [] zero r e = absurd (none_some e)
  next_operand [] (suc k) r e = absurd (none_some e)
  next_operand (s ∷ rs) zero r e = ap (λ (r : Role). blank ∷ f r ++ []) (some_same e) ∙ append-nil (blank ∷ f r)
  next_operand (s ∷ rs) (suc k) r e =
      ap (λ (t : List ℕ). (blank ∷ f s) ++ t) (next_operand rs k r e) ∙ sym (append_assoc (blank ∷ f s) (first_operands rs k) (blank ∷ f r))

  -- and where there is none
  pub no_operand : (rs : List Role) (k : ℕ) → slice_get rs k ≡ None → first_operands rs (suc k) ≡ first_operands rs k
  unfolding spaced
  no_operand [] zero e = refl
  no_operand [] (suc k) e = refl
  no_operand (s ∷ rs) zero e = absurd (none_some (sym e))
  no_operand (s ∷ rs) (suc k) e = ap (λ (t : List ℕ). (blank ∷ f s) ++ t) (no_operand rs k e)

  -- where all have room, one more has
  pub operand_room : (rs : List Role) (k : ℕ) (r : Role) → slice_get rs k ≡ Some r
      → length (first_operands rs k) + suc (length (f r)) ≤ length (spaced (map f rs))
  unfolding spaced
  operand_room [] zero r e = absurd (none_some e)
  operand_room [] (suc k) r e = absurd (none_some e)
  operand_room (s ∷ rs) zero r e = omega (arith, ap (λ (r : Role). length (f r)) (some_same e), length-append (blank ∷ f s) (spaced (map f rs)))
  operand_room (s ∷ rs) (suc k) r e =
      omega (arith, operand_room rs k r e, length-append (blank ∷ f s) (first_operands rs k), length-append (blank ∷ f s) (spaced (map f rs)))

  pub all_operands : (rs : List Role) (k : ℕ) → length rs ≤ k → first_operands rs k ≡ spaced (map f rs)
  all_operands rs k h = ap (λ (s : List Role). spaced (map f s)) (take_all k rs h)
