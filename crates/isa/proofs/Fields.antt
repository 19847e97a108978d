-- Fields in pieces. Assumes nothing.
use mathlib.Core.List.{List, [], ◌∷◌}
use Prim.Native.Nat.{ℕ, ◌+◌, ◌*◌, ◌/◌, ◌^◌, ◌<◌}
use native.Mathlib.Nat.{div-lt_iff_lt-mul}
use native.Mathlib.Omega.{arith}
use lib.Pow.{pow_pos, pow-add, high}
use Rattle.word.specs.Word.{Field, field_of}
use Rattle.word.proofs.Bounds.{field_below}
use Rattle.isa.specs.Format.{fields_width, fields_of}

-- what pieces hold fits their bits
pub fields_below : (fs : List Field) (word : ℕ) → fields_of fs word < 2 ^ fields_width fs
unfolding fields_of fields_width
fields_below [] word = omega arith
fields_below (f ∷ fs) word =
    let above : (field_of f word * 2 ^ fields_width fs + fields_of fs word) / 2 ^ fields_width fs < 2 ^ f.width =
    rw (high (field_of f word) (fields_width fs) (fields_below fs word)) (field_below f word)
    in
    rw (pow-add 2 f.width (fields_width fs)) ((div-lt_iff_lt-mul (pow_pos (fields_width fs))).0 above)
