-- The word that was fetched lies inside the program, so its address is below the most that a program has. Assumes nothing.
use native.Mathlib.Omega.{arith}
use Rattle.machine.specs.Machine.{memory_of}
use Rattle.execute.proofs.Reported.{word_inside}
use Rattle.execute.proofs.instruction.next_instruction.Goals as goal

pub execute_word-requires : goal.execute_word-requires
execute_word-requires c =
    let inside = word_inside c.args.program.now c.args.m.now (memory_of c.args.cells.now) c.in_ok-word.word (c.in_ok-word.ensures _) in
    (omega arith, c.requires.1)
