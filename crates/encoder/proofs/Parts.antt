-- The parts of a choice: written into pieces that share no bit, each number is read back. Assumes nothing.
use mathlib.Core.Path.{◌≡◌, refl, sym, ap, ◌∙◌, subst}
use mathlib.Core.Bool.{Bool, true, ◌&&◌, and_assoc}
use mathlib.Core.List.{List, [], ◌∷◌, ◌++◌}
use Prim.Native.Nat.{ℕ, ◌+◌, ◌/◌, ◌^◌}
use native.Mathlib.Omega.{arith}
use Rattle.word.specs.Word.{Field, word_of}
use Rattle.isa.specs.Format.{placed_in, lie_below, separate}
use Rattle.isa.proofs.Pieces.{Filled, sum_of, places, Fit, Reads, all_read, none_above, spread, spread_places, spread_fits, spread_sum, spread_read, no_quotient}
use Rattle.encoder.specs.Encode.{Part, part_fits, all_fit, written}
use Rattle.encoder.specs.Theorems.{pieces_of, AllHold, WrittenRead, WrittenBelow}

-- ---- parts one after the other

pub hold_append : (ps qs : List Part) (word : ℕ) → AllHold (ps ++ qs) word → AllHold ps word × AllHold qs word
unfolding AllHold
hold_append [] qs word h = (tt, h)
hold_append (p ∷ ps) qs word h = let r = hold_append ps qs word h.1 in ((h.0, r.0), r.1)

pub fit_append : (ps qs : List Part) → all_fit (ps ++ qs) ≡ all_fit ps && all_fit qs
unfolding all_fit
fit_append [] qs = refl
fit_append (p ∷ ps) qs = ap (λ (b : Bool). part_fits p && b) (fit_append ps qs) ∙ sym (and_assoc (part_fits p) (all_fit ps) (all_fit qs))

pub written_append : (ps qs : List Part) → written (ps ++ qs) ≡ written ps + written qs
unfolding written
written_append [] qs = omega arith
written_append (p ∷ ps) qs = omega (arith, written_append ps qs)

-- ---- their pieces

unfoldable filled : List Part → List Filled
filled [] = []
filled (p ∷ ps) = spread p.fields (word_of 32 p.number) (filled ps)

filled_places : (ps : List Part) → places (filled ps) ≡ pieces_of ps
unfolding filled places pieces_of
filled_places [] = refl
filled_places (p ∷ ps) = spread_places p.fields (word_of 32 p.number) (filled ps) ∙ ap (λ (l : List Field). p.fields ++ l) (filled_places ps)

filled_fits : (ps : List Part) → Fit (filled ps)
unfolding filled Fit
filled_fits [] = tt
filled_fits (p ∷ ps) = spread_fits p.fields (word_of 32 p.number) (filled ps) (filled_fits ps)

filled_sum : (ps : List Part) → sum_of (filled ps) ≡ written ps
unfolding filled sum_of written
filled_sum [] = refl
filled_sum (p ∷ ps) = spread_sum p.fields (word_of 32 p.number) (filled ps) ∙ ap (λ (x : ℕ). placed_in p.fields (word_of 32 p.number) + x) (filled_sum ps)

filled_hold : (ps : List Part) (word : ℕ) → Reads (filled ps) word → AllHold ps word
unfolding filled Reads AllHold
filled_hold [] word r = tt
filled_hold (p ∷ ps) word r =
    let h = spread_read p.fields (word_of 32 p.number) (filled ps) word r in
    (h.0, filled_hold ps word h.1)

separate_filled : (ps : List Part) → separate (pieces_of ps) ≡ true → separate (places (filled ps)) ≡ true
separate_filled ps t = ap separate (filled_places ps) ∙ t

pub written_read : WrittenRead
written_read ps t = subst (AllHold ps) (filled_sum ps) (filled_hold ps (sum_of (filled ps)) (all_read (filled ps) (separate_filled ps t) (filled_fits ps)))

pub written_below : WrittenBelow
written_below k ps l t =
    no_quotient k (written ps)
    (ap (λ (x : ℕ). x / 2 ^ k) (sym (filled_sum ps))
    ∙ none_above k (filled ps) (ap (lie_below k) (filled_places ps) ∙ l) (separate_filled ps t) (filled_fits ps))
