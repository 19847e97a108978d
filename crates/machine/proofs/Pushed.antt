-- An entry that is pushed, popped or replaced, and the flags in service. Assumes nothing.
use Rattle.std.proofs.Common.{◌≡◌, refl, sym, ap, ◌∙◌, ℕ, ◌<◌, List, [], ◌∷◌, length, get_or, true, arith, Some, None}
use Rattle.word.specs.Flags.{with_flag, without_flag, distinct_below}
use Rattle.word.proofs.Flags.{distinct_first}
use Rattle.machine.specs.Machine.{Machine}
use Rattle.machine.specs.Control.{control_at, INT_SERV}
use Rattle.machine.specs.Stack.{popped, sources_of, service_flags, StackShown, with_stack, return_stored, top_stored}
use Rattle.machine.specs.Top.{top_of, SourceFits, flags_left}
use Rattle.machine.specs.declared.stack.Entry.{Entry}
use Rattle.machine.proofs.Shown.{depth_most, flags_pushed, flags_popped, shown_flags}

module _ (e : Entry) (es : List Entry) (d : distinct_below 12 (sources_of (e ∷ es)) ≡ true) where
  pub push_room : length es < 12
  push_room = omega (arith, depth_most (e ∷ es) d)

  pub push_source : e.source < 32
  unfolding sources_of
  push_source = omega (arith, (distinct_first 12 e.source (sources_of es) d).below)

pub push_shown : (e : Entry) (es : List Entry) (served : ℕ) → served ≡ service_flags es → with_flag e.source served ≡ service_flags (e ∷ es)
push_shown e es served h = ap (with_flag e.source) h ∙ sym (flags_pushed e es)

pub pop_source : (es : List Entry) → distinct_below 12 (sources_of es) ≡ true → SourceFits (top_of es)
unfolding sources_of
pop_source [] d = tt {0}
pop_source (e ∷ es) d = omega (arith, (distinct_first 12 e.source (sources_of es) d).below)

pub pop_shown : (es : List Entry) (served : ℕ) → distinct_below 12 (sources_of es) ≡ true → served ≡ service_flags es → flags_left served (top_of es) ≡ service_flags (popped es)
unfolding sources_of popped
pop_shown [] served d h = h
pop_shown (e ∷ es) served d h = ap (without_flag e.source) h ∙ sym (flags_popped e es (distinct_first 12 e.source (sources_of es) d).new)

-- ---- a stack that is shown

-- INT_SERV has the flags of the sources in service
pub shown_served : (m : Machine) → length m.control ≡ 45 → StackShown m → control_at m INT_SERV ≡ service_flags m.stack
shown_served m n s = ap (λ l. get_or l INT_SERV 0) (sym s.shown) ∙ shown_flags m.stack m.control n

pub top_some : (es : List Entry) (e : Entry) → top_of es ≡ Some e → 0 < length es
top_some [] e h = cc h
top_some (f ∷ es) e h = omega arith

module _ (offset x : ℕ) where
  -- its source stays
  pub stored_flags : (es : List Entry) (e : Entry) → top_of es ≡ Some e → service_flags es ≡ service_flags (return_stored offset x e ∷ popped es)
  unfolding service_flags sources_of popped return_stored
  stored_flags [] e h = cc h
  stored_flags (f ∷ es) e h = let same : f ≡ e = cc h in rw same refl

  pub stored_some : (es : List Entry) (e : Entry) (m : Machine) → top_of es ≡ Some e → with_stack (return_stored offset x e ∷ popped es) m ≡ top_stored offset x es m
  unfolding top_stored popped
  stored_some [] e m h = cc h
  stored_some (f ∷ es) e m h = let same : f ≡ e = cc h in rw same refl

  -- with an empty stack a store is ignored
  pub stored_none : (es : List Entry) (m : Machine) → top_of es ≡ None → top_stored offset x es m ≡ m
  unfolding top_stored
  stored_none [] m h = refl
  stored_none (f ∷ es) m h = cc h
