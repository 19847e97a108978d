-- The fields of each row of the table, in both widths, by one computed test. Assumes nothing.
use mathlib.Core.Path.{◌≡◌, refl}
use mathlib.Core.Bool.{Bool, true, false, ◌&&◌, ◌||◌}
use mathlib.Core.List.{List, [], ◌∷◌, ◌++◌}
use Prim.Native.Nat.{ℕ, ◌*◌, ◌≤◌}
use lib.Dec.{leb, eqb}
use borrow.Author.Tests.{leb-true}
use Rattle.word.specs.Word.{Field}
use Rattle.word.specs.Choice.{choose◌then◌else◌}
use Rattle.word.proofs.Tests.{either, and_parts}
use Rattle.isa.specs.declared.operation.Operation.{Operation}
use Rattle.isa.specs.declared.width.Width.{Width}
use Rattle.isa.specs.declared.width.Width.TheVariants.{Narrow, Wide}
use Rattle.isa.specs.Operation.{operation_of, properties}
use Rattle.isa.specs.Format.{fields_width, lie_below, separate, operation_field, Immediate, layout_of}
use Rattle.isa.specs.Decode.{word_bytes}
use Rattle.isa.specs.Used.{guard_fields, used_fields}
use Rattle.isa.specs.Computed.{instructions}
use Rattle.isa.proofs.Table.{values, by_number}

-- the bits of a register's number
unfoldable pub register_width : Width → ℕ
register_width Narrow = 3
register_width Wide = 5

-- a signed immediate has 1 to 25 bits, another one at most 24
unfoldable pub immediate_fits : Immediate → Bool
immediate_fits i = choose i.signed then leb 1 (fields_width i.fields) && leb (fields_width i.fields) 25 else leb (fields_width i.fields) 24

-- the fields that an operation reads, shown or not
unfoldable pub read_fields : Width → Operation → (given : Bool) → List Field
read_fields width o given =
    let l = layout_of width (properties o).form in
    operation_field width ++ (guard_fields width o given ++ (l.dreg ++ (l.sreg1 ++ (l.sreg2 ++ l.immediate.fields))))

-- each of some pieces is one of others
unfoldable pub is_one : Field → List Field → Bool
is_one f [] = false
is_one f (g ∷ gs) = (eqb f.place g.place && eqb f.width g.width) || is_one f gs

unfoldable pub are_among : List Field → List Field → Bool
are_among [] gs = true
are_among (f ∷ fs) gs = is_one f gs && are_among fs gs

-- the fields used lie inside the word, share no bit, and are all that the operation reads
pub record UsedSound (width : Width) (o : Operation) (given : Bool) : Type 0 where
  pub inside : lie_below (8 * word_bytes width) (used_fields width o given) ≡ true
  pub apart : separate (used_fields width o given) ≡ true
  pub read : are_among (read_fields width o given) (used_fields width o given) ≡ true

-- what holds of a row in a width
pub record Sound (width : Width) (o : Operation) : Type 0 where
  pub dreg : fields_width (layout_of width (properties o).form).dreg ≤ register_width width
  pub sreg1 : fields_width (layout_of width (properties o).form).sreg1 ≤ register_width width
  pub sreg2 : fields_width (layout_of width (properties o).form).sreg2 ≤ register_width width
  pub immediate : immediate_fits (layout_of width (properties o).form).immediate ≡ true
  pub used : (given : Bool) → UsedSound width o given

-- the same as tests
unfoldable used_sound : Width → Operation → (given : Bool) → Bool
used_sound width o given =
    let fs = used_fields width o given in
    lie_below (8 * word_bytes width) fs && (separate fs && are_among (read_fields width o given) fs)

used_sound_is : (width : Width) (o : Operation) (given : Bool) → used_sound width o given ≡ true → UsedSound width o given
unfolding used_sound
used_sound_is width o given e =
    let t = and_parts _ _ e in
    let u = and_parts _ _ t.1 in
    record { inside = t.0; apart = u.0; read = u.1 }

unfoldable sound : Width → Operation → Bool
sound width o =
    let l = layout_of width (properties o).form in
    (leb (fields_width l.dreg) (register_width width) && (leb (fields_width l.sreg1) (register_width width) && leb (fields_width l.sreg2) (register_width width)))
    && (immediate_fits l.immediate && (used_sound width o true && used_sound width o false))

sound_is : (width : Width) (o : Operation) → sound width o ≡ true → Sound width o
unfolding sound
sound_is width o e =
    let all = and_parts _ _ e in
    let registers = and_parts _ _ all.0 in
    let sources = and_parts _ _ registers.1 in
    let others = and_parts _ _ all.1 in
    let used = and_parts _ _ others.1 in
    record {
      dreg = leb-true _ _ registers.0;
      sreg1 = leb-true _ _ sources.0;
      sreg2 = leb-true _ _ sources.1;
      immediate = others.0;
      used = λ (given : Bool). either given (λ t. rw t (used_sound_is width o true used.0)) (λ t. rw t (used_sound_is width o false used.1));
    }

computed : (width : Width) → values (λ n. sound width (operation_of n)) 0 64 ≡ values (λ n. true) 0 64
unfolding instructions values register_width immediate_fits read_fields is_one are_among used_sound sound
computed Narrow = refl
computed Wide = refl

-- every row is sound in both widths
pub rows_sound : (width : Width) (n : ℕ) → Sound width (operation_of n)
rows_sound width n = sound_is width (operation_of n) (by_number (sound width) (λ n. true) (computed width) (λ n h. refl) n)
