-- The fields of operands as the code has them: two pieces at most, short, inside the word. Assumes nothing.
use mathlib.Core.Path.{◌≡◌, refl, sym}
use mathlib.Core.Bool.{Bool, true, ◌&&◌}
use mathlib.Core.List.{List, [], ◌∷◌}
use Prim.Native.Nat.{ℕ, zero, suc, ◌+◌, ◌*◌, ◌/◌, ◌%◌, ◌^◌, ◌≤◌, ◌<◌}
use native.Mathlib.Nat.{add-zero, div-one, mod-one}
use native.Mathlib.Omega.{arith}
use lib.Dec.{leb, ltb, eqb}
use lib.ListN.{length}
use Rattle.std.specs.Prelude.{slice_index_or}
use borrow.Author.Tests.{ltb-true, leb-true, eqb-true}
use Rattle.word.specs.Word.{Field}
use Rattle.word.proofs.Tests.{and_parts}
use Rattle.isa.specs.declared.operation.Operation.{Operation}
use Rattle.isa.specs.declared.operation.Operation.TheVariants.{Nop}
use Rattle.isa.specs.declared.width.Width.{Width}
use Rattle.isa.specs.declared.width.Width.TheVariants.{Narrow, Wide}
use Rattle.isa.specs.declared.form.Reading.{Reading}
use Rattle.isa.specs.declared.form.Reading.TheVariants.{Natural, Signed, High}
use Rattle.isa.specs.declared.operands.OperandField.{OperandField}
use Rattle.isa.specs.Format.{fields_width, placed_in, lie_below, separate}
use Rattle.isa.specs.Used.{shown_fields, shown_reading}
use Rattle.isa.specs.Computed.{instructions}
use Rattle.isa.specs.Places.{lower_piece, upper_piece, field_with, field_at, fields_at, bits_of, put_into, Placeable}
use Rattle.isa.proofs.Pieces.{placed_below}

-- ---- fields of at most two pieces

two_width : (fs : List Field) → length fs ≤ 2 → fields_width fs ≡ (lower_piece fs).width + (upper_piece fs).width
unfolding fields_width lower_piece upper_piece
two_width [] h = refl
two_width (f ∷ []) h = refl
two_width (f ∷ g ∷ []) h = omega arith
two_width (f ∷ g ∷ e ∷ fs) h = absurd (omega arith)

two_placed : (fs : List Field) (n : ℕ) → length fs ≤ 2
    → placed_in fs n ≡ n / 2 ^ (lower_piece fs).width % 2 ^ (upper_piece fs).width * 2 ^ (upper_piece fs).place + n % 2 ^ (lower_piece fs).width * 2 ^ (lower_piece fs).place
unfolding placed_in fields_width lower_piece upper_piece
two_placed [] n h = omega arith
two_placed (f ∷ []) n h = let p = mod-one (n / 2 ^ f.width) in rw (div-one n, p) (omega arith)
two_placed (f ∷ g ∷ []) n h = rw (add-zero g.width, div-one n) (omega arith)
two_placed (f ∷ g ∷ e ∷ fs) n h = absurd (omega arith)

two_inside : (k : ℕ) (fs : List Field) → length fs ≤ 2 → lie_below k fs ≡ true
    → ((lower_piece fs).place + (lower_piece fs).width ≤ k) × ((upper_piece fs).place + (upper_piece fs).width ≤ k)
unfolding lie_below lower_piece upper_piece
two_inside k [] h e = (omega arith, omega arith)
two_inside k (f ∷ []) h e = (leb-true (f.place + f.width) k (and_parts (leb (f.place + f.width) k) true e).0, omega arith)
two_inside k (f ∷ g ∷ []) h e =
    let t = and_parts (leb (f.place + f.width) k) (leb (g.place + g.width) k && true) e in
    (leb-true (g.place + g.width) k (and_parts (leb (g.place + g.width) k) true t.1).0, leb-true (f.place + f.width) k t.0)
two_inside k (f ∷ g ∷ d ∷ fs) h e = absurd (omega arith)

-- ---- the operands of every operation

-- a signed field has a bit, a register of 16-bit words three
unfoldable read_so : Reading → (bits : ℕ) → Bool
read_so Natural k = true
read_so Signed k = leb 1 k
read_so High k = eqb k 3

-- the fields of an operand: short and disjoint pieces inside the word, two at most
unfoldable sizes : Width → Operation → (k : ℕ) → Bool
sizes width o k =
    let fs = shown_fields width o k in
    (leb (length fs) 2 && leb (fields_width fs) 25)
    && ((lie_below 32 fs && separate fs)
    && ((ltb (lower_piece fs).place 32 && ltb (upper_piece fs).place 32)
    && read_so (shown_reading width o k) (fields_width fs)))

-- so they are, computed of every operation
all_sizes : (width : Width) (o : Operation) → sizes width o 0 && (sizes width o 1 && (sizes width o 2 && sizes width o 3)) ≡ true
unfolding instructions sizes read_so
all_sizes Narrow Nop = refl
all_sizes Wide Nop = refl
all_sizes Narrow _ = refl
all_sizes Wide _ = refl

size_at : (width : Width) (o : Operation) (k : ℕ) → k < 4 → sizes width o k ≡ true
size_at width o zero h = (and_parts (sizes width o 0) _ (all_sizes width o)).0
size_at width o (suc zero) h = (and_parts (sizes width o 1) _ (and_parts (sizes width o 0) _ (all_sizes width o)).1).0
size_at width o (suc (suc zero)) h = (and_parts (sizes width o 2) (sizes width o 3) (and_parts (sizes width o 1) _ (and_parts (sizes width o 0) _ (all_sizes width o)).1).1).0
size_at width o (suc (suc (suc zero))) h = (and_parts (sizes width o 2) (sizes width o 3) (and_parts (sizes width o 1) _ (and_parts (sizes width o 0) _ (all_sizes width o)).1).1).1
size_at width o (suc (suc (suc (suc k)))) h = absurd (omega arith)

-- what holds of the field of operand k, as the code has it
pub record FieldIs (width : Width) (o : Operation) (k : ℕ) : Type 0 where
  pub placeable : Placeable (field_at width o k)
  pub bits : bits_of (field_at width o k) ≡ fields_width (shown_fields width o k)
  pub placed : (n : ℕ) → put_into (field_at width o k) n ≡ placed_in (shown_fields width o k) n
  pub three : shown_reading width o k ≡ High → fields_width (shown_fields width o k) ≡ 3

pub field_is : (width : Width) (o : Operation) (k : ℕ) → k < 4 → FieldIs width o k
unfolding sizes read_so field_with
field_is width o k l =
    let fs = shown_fields width o k in
    let t = and_parts (leb (length fs) 2 && leb (fields_width fs) 25) _ (size_at width o k l) in
    let a = and_parts (leb (length fs) 2) _ t.0 in
    let u = and_parts (lie_below 32 fs && separate fs) _ t.1 in
    let b = and_parts (lie_below 32 fs) _ u.0 in
    let v = and_parts (ltb (lower_piece fs).place 32 && ltb (upper_piece fs).place 32) _ u.1 in
    let d = and_parts (ltb (lower_piece fs).place 32) _ v.0 in
    let two = leb-true (length fs) 2 a.0 in
    let size = two_width fs two in
    let inside = two_inside 32 fs two b.0 in
    record {
      placeable =
          record {
            short = omega (arith, leb-true (fields_width fs) 25 a.1);
            place = ltb-true _ 32 d.0;
            inside = inside.0;
            upper = ltb-true _ 32 d.1;
            upper_inside = inside.1;
            below = λ n. omega (arith, placed_below 32 fs n b.0 b.1, two_placed fs n two);
            signed = λ e. omega (arith, leb-true 1 (fields_width fs) (rw e at v.1));
          };
      bits = sym size;
      placed = λ n. sym (two_placed fs n two);
      three = λ e. eqb-true (fields_width fs) 3 (rw e at v.1);
    }

pub placeable_at : (width : Width) (o : Operation) (k : ℕ) {fs : List OperandField} (d : OperandField) → fs ≡ fields_at width o → k < 4 → Placeable (slice_index_or fs k d)
placeable_at width o zero d e h = rw e (field_is width o 0 (omega arith)).placeable
placeable_at width o (suc zero) d e h = rw e (field_is width o 1 (omega arith)).placeable
placeable_at width o (suc (suc zero)) d e h = rw e (field_is width o 2 (omega arith)).placeable
placeable_at width o (suc (suc (suc zero))) d e h = rw e (field_is width o 3 (omega arith)).placeable
placeable_at width o (suc (suc (suc (suc k)))) d e h = absurd (omega arith)
