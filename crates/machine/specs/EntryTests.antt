-- What questions 3, 4 and 5 ask of a stack entry. Assumes nothing.
use Rattle.std.specs.Prelude.{Bool, ◌&&◌, ◌^◌, ltb}
use Rattle.machine.specs.Words.{SOURCES}
use Rattle.machine.specs.Questions.{sets_fit}
use Rattle.machine.specs.declared.stack.Entry.{Entry}

abbrev pub ranges_fit : Entry → Bool
ranges_fit e = ltb e.address (2 ^ 32) && (ltb e.psr 32 && ltb e.c0 8)

abbrev pub mode_fits : Entry → Bool
mode_fits e = sets_fit e.psr

abbrev pub source_fits : Entry → Bool
source_fits e = ltb e.source SOURCES
