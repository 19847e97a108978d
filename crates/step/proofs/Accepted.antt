-- Which interrupt is accepted: a pending one that is not masked, with a priority number below those of all in service, hence one not in service. Assumes nothing.
use mathlib.Core.Path.{◌≡◌, refl, sym, ap}
use mathlib.Core.Bool.{true, false, ◌&&◌}
use mathlib.Core.List.{List, [], ◌∷◌}
use Prim.Native.Nat.{ℕ, zero, suc, ◌<◌}
use native.Mathlib.Omega.{arith}
use lib.Dec.{eqb}
use borrow.Author.Tests.{ltb-true, eqb-true}
use Rattle.std.proofs.lemmas.Option.{none-some}
use Rattle.std.specs.Prelude.{Option, None, Some, IfSome}
use Rattle.word.specs.Word.{bit_at}
use Rattle.word.specs.Flags.{is_among}
use Rattle.word.proofs.Tests.{either, and_parts, if_holds}
use Rattle.machine.specs.Machine.{Machine}
use Rattle.machine.specs.Control.{control_at, INT_MASK, INT_PEND}
use Rattle.machine.specs.Stack.{sources_of}
use Rattle.machine.specs.declared.stack.Entry.{Entry}
use Rattle.execute.specs.View.{View}
use Rattle.step.specs.Theorems.{Accepted, CandidateAccepted}
use Rattle.step.specs.Interrupt.{priority, below_all, eligible, before, candidate, may_accept, accepted_source}

-- no number is below itself: a source whose priority number is below those of all in service is none of them
urgent_new : (m : Machine) (n : ℕ) (es : List Entry) → below_all m (priority m n) es ≡ true → is_among n (sources_of es) ≡ false
unfolding below_all sources_of is_among
urgent_new m n [] h = refl
urgent_new m n (e ∷ es) h =
    let t = and_parts _ (below_all m (priority m n) es) h in
    let l : priority m n < priority m e.source = ltb-true _ _ t.0 in
    either (eqb e.source n)
    (λ q. let same : priority m e.source ≡ priority m n = ap (priority m) (eqb-true e.source n q) in absurd (omega arith))
    (λ q. rw q (urgent_new m n es t.1))

pub candidate_eligible : (m : Machine) (k n : ℕ) → candidate m k ≡ Some n → (n < k) × (eligible m n ≡ true)
unfolding candidate
candidate_eligible m zero n = λ e. absurd (none-some _ e)
candidate_eligible m (suc k) n =
    if_holds (λ (o : Option ℕ). o ≡ Some n → (n < suc k) × (eligible m n ≡ true)) (eligible m k && before m k (candidate m k))
    (λ b e. let same : k ≡ n = cc in (omega arith, rw same at (and_parts (eligible m k) (before m k (candidate m k)) b).0))
    (λ _ e. let r = candidate_eligible m k n e in let l : n < k = r.0 in (omega arith, r.1))

pub candidate_accepted : CandidateAccepted
unfolding eligible
candidate_accepted m n e =
    let c = candidate_eligible m 12 n e in
    let a = and_parts (bit_at n (control_at m INT_PEND)) _ c.1 in
    let b = and_parts (bit_at n (control_at m INT_MASK)) (below_all m (priority m n) m.stack) a.1 in
    record { below = c.0; pending = a.0; unmasked = b.0; urgent = b.1; new = urgent_new m n m.stack b.1 }

pub source_accepted : (v : View) (m : Machine) (n : ℕ) → accepted_source v m ≡ Some n → Accepted m n
unfolding accepted_source
source_accepted v m n =
    if_holds (λ (o : Option ℕ). o ≡ Some n → Accepted m n) (may_accept v) (λ _. candidate_accepted m n) (λ _ e. absurd (none-some _ e))

pub candidate_fits : (m : Machine) (o : Option ℕ) → o ≡ candidate m 12 → IfSome o (λ n. Accepted m n)
candidate_fits m None e = tt {0}
candidate_fits m (Some n) e = candidate_accepted m n (sym e)
