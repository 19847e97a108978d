-- What the run program prints for its two files (Manual 15.1). Assumes nothing.
use Rattle.std.specs.Prelude.{List, [], ℕ, replicate}
use Rattle.codec.specs.Number.{numbers_of}
use Rattle.machine.specs.Machine.{Memory, memory_of}
use Rattle.machine.specs.Control.{reset}
use Rattle.image.specs.Image.{write_image, machine_in, LONGEST}
use Rattle.emulator.specs.Run.{Call, Reply, RefusedWith, RanFor, Outcome, run_call}
use Rattle.console.specs.Limit.{limit_number}
use Rattle.console.specs.Line.{ran_text, refusal_text}

-- the program counter that an image at the front of a buffer says
unfoldable pub pc_of : (buffer : List ℕ) → ℕ
pc_of buffer = (machine_in (numbers_of buffer)).position.pc

-- steps, ending and PC, in 8 hexadecimal digits, of the image that the call left, and a newline; of a refusal its number alone and a newline
unfoldable pub answer_text : Reply → (buffer : List ℕ) → List ℕ
answer_text (RefusedWith n) buffer = refusal_text n
answer_text (RanFor steps ending) buffer = ran_text steps ending (pc_of buffer)

-- 4,096 cells of 0
abbrev pub zero_memory : Memory
zero_memory = memory_of (replicate 4096 0)

-- no requests, the limit that limit.txt says, and a buffer that is long enough for every image
unfoldable pub call_of : (text : List ℕ) → Call
call_of text = record { requests = []; limit = limit_number text; buffer = replicate LONGEST 0 }

-- that call of the program in code.bin, from reset, with those cells
unfoldable pub outcome_of : (code text : List ℕ) → Outcome
outcome_of code text = run_call code (write_image reset) zero_memory (call_of text)

-- what the run program prints, `code` and `text` being the bytes of code.bin and limit.txt
unfoldable pub report_of : (code text : List ℕ) → List ℕ
report_of code text = answer_text (outcome_of code text).answer (outcome_of code text).buffer

-- to unfold all of these
unfoldable pub reporting : Unit {0}
unfolding pc_of answer_text call_of outcome_of report_of
reporting = tt
