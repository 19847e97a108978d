-- The stack of interrupts in service: its depth, its flags, and the control registers that show it. Assumes nothing.
use mathlib.Core.Path.{◌≡◌, refl, sym, ◌∙◌}
use mathlib.Core.Bool.{true, false}
use mathlib.Core.List.{List, ◌∷◌}
use Prim.Native.Nat.{ℕ, ◌^◌, ◌≤◌, ◌<◌}
use native.Mathlib.Omega.{arith}
use lib.ListN.{length, get_or, length-set, length-map}
use lib.Seq.{set-get_or}
use Rattle.word.specs.Flags.{with_flag, without_flag, flags_at, is_among, distinct_below}
use Rattle.word.proofs.Flags.{ones_flags, flags_below_all, length_most, flags_pop}
use Rattle.machine.proofs.Lists.{get_same, get_other, set_again, set_ordered}
use Rattle.machine.specs.Machine.{Machine}
use Rattle.machine.specs.Control.{control_at, INT_SERV, RETI_ADDR, RETI_PSR, RETI_CR0}
use Rattle.machine.specs.Stack.{sources_of, service_flags, shown_top, show_stack, StackShown}
use Rattle.machine.specs.Theorems.{OnesDepth}
use Rattle.machine.specs.declared.stack.Entry.{Entry}

length_sources : (es : List Entry) → length (sources_of es) ≡ length es
unfolding sources_of
length_sources es = length-map es (λ (e : Entry). e.source)

-- ---- different sources below 12

module _ (es : List Entry) (d : distinct_below 12 (sources_of es) ≡ true) where
  pub depth_most : length es ≤ 12
  depth_most = omega (arith, length_sources es, length_most 12 (sources_of es) d)

  pub service_below : service_flags es < 2 ^ 12
  unfolding service_flags
  service_below = flags_below_all 12 (sources_of es) d

pub ones_depth : OnesDepth
unfolding service_flags
ones_depth es d = ones_flags 12 (sources_of es) d ∙ length_sources es

-- ---- an entry pushed and popped

pub flags_pushed : (e : Entry) (es : List Entry) → service_flags (e ∷ es) ≡ with_flag e.source (service_flags es)
unfolding service_flags sources_of flags_at
flags_pushed e es = refl

pub flags_popped : (e : Entry) (es : List Entry) → is_among e.source (sources_of es) ≡ false → service_flags es ≡ without_flag e.source (service_flags (e ∷ es))
unfolding service_flags sources_of
flags_popped e es n = sym (flags_pop e.source (sources_of es) n)

-- ---- the control block that shows a stack

module _ (es : List Entry) (l : List ℕ) where
  module _ (n : length l ≡ 45) where
    pub shown_flags : get_or (show_stack es l) INT_SERV 0 ≡ service_flags es
    unfolding show_stack
    shown_flags = simp (get_other, get_same, n)

    pub shown_address : get_or (show_stack es l) RETI_ADDR 0 ≡ (shown_top es).address
    unfolding show_stack
    shown_address = simp (get_other, get_same, length-set, n)

    pub shown_psr : get_or (show_stack es l) RETI_PSR 0 ≡ (shown_top es).psr
    unfolding show_stack
    shown_psr = simp (get_other, get_same, length-set, n)

    pub shown_c0 : get_or (show_stack es l) RETI_CR0 0 ≡ (shown_top es).c0
    unfolding show_stack
    shown_c0 = simp (get_same, length-set, n)

-- shown anew, a stack leaves nothing of the one that was shown before
pub show_again : (es fs : List Entry) (l : List ℕ) → show_stack es (show_stack fs l) ≡ show_stack es l
unfolding show_stack
show_again es fs l = simp (set_ordered, set_again) (rw (set_ordered _ RETI_CR0 RETI_PSR _ _ refl) (simp set_again))

-- a stack is shown where INT_SERV and the RETI_ registers each hold what shows it, and its sources are different
pub stack_shown : {m : Machine}
    → control_at m INT_SERV ≡ service_flags m.stack
    → control_at m RETI_ADDR ≡ (shown_top m.stack).address
    → control_at m RETI_PSR ≡ (shown_top m.stack).psr
    → control_at m RETI_CR0 ≡ (shown_top m.stack).c0
    → distinct_below 12 (sources_of m.stack) ≡ true
    → StackShown m
unfolding show_stack
stack_shown {m} flags address status c0 d =
    record {
      shown = rw (← flags, ← address, ← status, ← c0) (simp set-get_or);
      distinct = d;
    }
