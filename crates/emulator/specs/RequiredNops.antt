-- Calls on programs that have the nops that must follow swm, scall, retu and reti (Manual 4.6). No definition of a call rests on these. Assumes nothing.
use Rattle.std.specs.Prelude.{◌≡◌, false, List, ℕ, zero, suc, get_or}
use Rattle.machine.specs.Machine.{State}
use Rattle.step.specs.Step.{is_stop, step}
use Rattle.step.specs.RequiredNops.{step_unchecked, NopsFollow}
use Rattle.emulator.specs.Run.{run_by, run}

-- the nops follow at every step of a call that has done `done` steps and may do `left` more
unfoldable pub NopsFollowIn : (program requests : List ℕ) (left done : ℕ) → State → Type 0
NopsFollowIn program requests zero done s = Unit {0}
NopsFollowIn program requests (suc left) done s =
    let q = get_or requests done 0 in
    let t = step program s q in
    NopsFollow program s q × (is_stop t.kind ≡ false → NopsFollowIn program requests left (suc done) t.after)

-- where its nops are there and not protected, a program runs as it does where nobody looks at them: the call has the same steps, and so the same
-- result (Run: `result_from`)
abbrev pub RunsAsBefore : Type 0
RunsAsBefore =
    (program requests : List ℕ) (left done : ℕ) (s : State) → NopsFollowIn program requests left done s
    → run program requests left done s ≡ run_by (step_unchecked program) requests left done s
