-- The numbers of the refusals (Manual 9). Assumes nothing.
use Rattle.std.specs.Prelude.{ℕ, Result, Ok, Err}
use Rattle.machine.specs.declared.refusal.Refusal.{Refusal}
use Rattle.machine.specs.declared.refusal.Refusal.TheVariants.{MemoryTooLong, NotAnImage, NumberUnfit, ModeUnfit, StackUnfit, RequestUnfit, LimitTooLarge, BufferTooShort, PartOfWord, TextTooShort, FormUnknown, OperandUnfit, StartUnfit, MapTooShort}

abbrev pub number_of : Refusal → ℕ
number_of MemoryTooLong = 1
number_of NotAnImage = 2
number_of NumberUnfit = 3
number_of ModeUnfit = 4
number_of StackUnfit = 5
number_of RequestUnfit = 6
number_of LimitTooLarge = 7
number_of BufferTooShort = 8
number_of PartOfWord = 16
number_of TextTooShort = 17
number_of FormUnknown = 18
number_of OperandUnfit = 19
number_of StartUnfit = 27
number_of MapTooShort = 28

-- what an answer says in numbers: 0, or the refusal's
abbrev pub refused_by : {A : Type 0} → Result A Refusal → ℕ
refused_by (Ok x) = 0
refused_by (Err why) = number_of why
