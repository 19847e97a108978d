-- What an operand is to its operation, as one character. Assumes nothing.
use Rattle.std.specs.Prelude.{ℕ, eqb}
use Rattle.word.specs.Choice.{choose◌then◌else◌}
use Rattle.isa.specs.declared.form.Role.{Role}
use Rattle.isa.specs.declared.form.Role.TheVariants.{Dreg, Sreg1, Sreg2, Creg, Imm, Length, Position}

-- the role of a letter: 0, 1, 2, c, i and l; any other character counts as Position's
unfoldable pub role_of : (letter : ℕ) → Role
role_of b =
    choose eqb b 48 then Dreg
    else choose eqb b 49 then Sreg1
    else choose eqb b 50 then Sreg2
    else choose eqb b 99 then Creg
    else choose eqb b 105 then Imm
    else choose eqb b 108 then Length
    else Position
