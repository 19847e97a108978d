-- Answers as numbers, for C (Manual 14.1). Assumes nothing.
use Rattle.std.specs.Prelude.{Bool, List, ℕ, ◌+◌, ◌^◌, ℤ}
use Rattle.machine.specs.Machine.{Memory}
use Rattle.emulator.specs.Run.{Reply, RefusedWith, RanFor, Outcome}
use Rattle.encoder.specs.Encode.{Choice, Encoding, Encodes, RefusedWith as EncodingRefused, guard_by}
use Rattle.coffee.specs.declared.CoffeeAnswer.{CoffeeAnswer}

-- ---- a run call

-- the refusal's number; or 0, the steps done and the ending
unfoldable pub answer_numbers : Reply → CoffeeAnswer
answer_numbers (RefusedWith n) = record { refusal = n; steps = 0; ending = 0 }
answer_numbers (RanFor steps ending) = record { refusal = 0; steps = steps; ending = ending }

-- the answer, and the caller's buffer and memory after the call
pub record Shown : Type 0 where
  pub answer : CoffeeAnswer
  pub buffer : List ℕ
  pub memory : Memory

abbrev pub shown : CoffeeAnswer → (buffer : List ℕ) → Memory → Shown
shown answer buffer memory = record { answer = answer; buffer = buffer; memory = memory }

-- what a run call gives, its answer as numbers
abbrev pub in_numbers : Outcome → Shown
in_numbers o = shown (answer_numbers o.answer) o.buffer o.memory

-- ---- an encoding

-- what a word is to be made from, in numbers; without a condition, creg and condition are no part of it
abbrev pub choice_by : (operation : ℕ) (conditional : Bool) (creg condition : ℕ) (a b c d : ℤ) → Choice
choice_by operation conditional creg condition a b c d =
    record { operation = operation; guard = guard_by conditional creg condition; first = a; second = b; third = c; fourth = d }

-- the word, which has at most 32 bits; or 2 ^ 32 and the refusal's number
unfoldable pub encoding_number : Encoding → ℕ
encoding_number (Encodes word) = word
encoding_number (EncodingRefused n) = 2 ^ 32 + n
