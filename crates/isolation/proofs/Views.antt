-- In user mode what a decision may use is the same on two machines that agree on what is not protected. Assumes nothing.
use mathlib.Core.Path.{◌≡◌, refl, sym, ap, ◌∙◌, fun_ext}
use mathlib.Core.Bool.{Bool, true, false, true≢false, ◌&&◌}
use mathlib.Core.List.{List}
use Prim.Native.Nat.{ℕ, zero, suc, ◌+◌, ◌*◌, ◌≤◌}
use native.Mathlib.Omega.{arith}
use lib.ListN.{get_or, get_elem?}
use lib.Dec.{leb, ltb}
use lib.IntN.{ℤ}
use borrow.Author.Tests.{le-leb}
use Rattle.word.specs.Choice.{choose◌then◌else◌}
use Rattle.word.specs.Word.{word_of}
use Rattle.word.proofs.Tests.{both_bounds, and_both, or_parts, false_unless, if_false, if_else}
use Rattle.isa.specs.Decode.{word_bytes}
use Rattle.machine.specs.Machine.{Machine, State, psr, user_mode, width_of, set_by}
use Rattle.machine.specs.Control.{control_at, within, protected_cell, CCB_BASE, DMEM_BOUND_LO, DMEM_BOUND_HI, IMEM_BOUND_LO, IMEM_BOUND_HI}
use Rattle.machine.proofs.Lists.{same_get_d}
use Rattle.execute.specs.View.{Attempt, Found, Raises, Stops, map_found, any_within, byte_then, bytes_at, read_at, fetch_at, in_block, found_at, place_at, held_at, view}
use Rattle.execute.specs.declared.data.Location.{Location}
use Rattle.execute.specs.declared.data.Location.TheVariants.{Block, Cell}
use Rattle.execute.proofs.Addresses.{place_cell, place_block}
use Rattle.isolation.proofs.User.{read_bit, write_bit}
use Rattle.isolation.proofs.States.{Mode, Low, mode_user}

-- ---- program memory

-- two programs agree outside of a range
unfoldable pub SameBytes : (low high : ℕ) (p q : List ℕ) → Type 0
SameBytes low high p q = (a : ℕ) → within low high a ≡ false → get_elem? p a ≡ get_elem? q a

module _ (low high : ℕ) (p q : List ℕ) (h : SameBytes low high p q) where
  bytes_same : (n a w : ℕ) → any_within low high a n ≡ false → bytes_at p n a w ≡ bytes_at q n a w
  unfolding SameBytes any_within bytes_at
  bytes_same zero a w e = refl
  bytes_same (suc n) a w e =
      let o = or_parts (within low high a) (any_within low high (suc a) n) e in
      ap (λ b. byte_then b (λ x. bytes_at p n (suc a) (w * 256 + x))) (h a o.0)
      ∙ ap (byte_then (get_elem? q a)) (fun_ext (λ x. bytes_same n (suc a) (w * 256 + x) o.1))

  read_same : (n a : ℕ) → read_at p low high true n a ≡ read_at q low high true n a
  unfolding read_at
  read_same n a = if_else _ _ _ _ (λ e. bytes_same n a 0 e)

  fetch_same : (n pc : ℕ) → fetch_at p low high true n pc ≡ fetch_at q low high true n pc
  unfolding fetch_at
  fetch_same n pc = if_else _ _ _ _ (λ _. read_same n pc)

-- ---- data memory

-- a block wholly within the bounds: outside of the bounds is outside of the block
outside_block : (low high base a : ℕ) → low ≤ base → base + 255 ≤ high → within low high a ≡ false → in_block base a ≡ false
unfolding within in_block
outside_block low high base a l h e =
    false_unless (leb base a && leb a (base + 255)) (λ t.
    let b = both_bounds base a (base + 255) t in
    let above : base ≤ a = b.0 in
    let below : a ≤ base + 255 = b.1 in
    true≢false (sym (and_both (leb low a) (leb a high) (le-leb low a (omega arith)) (le-leb a high (omega arith))) ∙ e))

-- outside of the bounds both find the same: a cell, or nothing
found_same : (s t : State) → Mode s → Mode t → Low s t → (a : ℕ) → protected_cell s.machine a ≡ false → found_at s a ≡ found_at t a
unfolding found_at
found_same s t i j l a e =
    let m = s.machine in
    let n = t.machine in
    let low : control_at m DMEM_BOUND_LO ≤ control_at n CCB_BASE = rw l.dmem_low j.block_low in
    let high : control_at n CCB_BASE + 255 ≤ control_at m DMEM_BOUND_HI = rw l.dmem_high j.block_high in
    if_false _ _ _ (outside_block _ _ (control_at m CCB_BASE) a i.block_low i.block_high e)
    ∙ ap (λ count. choose◌then◌else◌ (ltb a count) (Found (Cell a)) (Stops 12)) l.data_size
    ∙ sym (if_false _ _ _ (outside_block _ _ (control_at n CCB_BASE) a low high e))

place_same : (s t : State) → Mode s → Mode t → Low s t → (z : ℤ) → place_at s z ≡ place_at t z
unfolding place_at
place_same s t i j l z =
    let a = word_of 32 z in
    let guard : user_mode (psr s.machine) && protected_cell s.machine a ≡ user_mode (psr t.machine) && protected_cell t.machine a =
    cc (l.shown.status, l.dmem_low, l.dmem_high) in
    rw (← guard)
    (if_else _ _ _ _ (λ e. if_else _ _ _ _ (λ _.
    found_same s t i j l a (rw (mode_user i) at e))))

-- no register of such a block is unprotected
pub no_block : (low high base n : ℕ) → low ≤ base → base + 255 ≤ high → n ≤ 255 → within low high (base + n) ≡ false → ⊥
unfolding within
no_block low high base n l h b e =
    true≢false (sym (and_both _ _ (le-leb low (base + n) (omega arith)) (le-leb (base + n) high (omega arith))) ∙ e)

held_same : (s t : State) → Mode s → Low s t → (z : ℤ) (l : Location) → place_at s z ≡ Found l → held_at s l ≡ held_at t l
unfolding held_at
held_same s t i l z (Block n) e =
    let b = place_block s z n e in
    absurd (no_block _ _ _ n i.block_low i.block_high b.offset (b.unprotected (mode_user i)))
held_same s t i l z (Cell a) e =
    let c = place_cell s z a e in
    same_get_d s.memory.cells t.memory.cells a 0 (l.shown.cells a (c.unprotected (mode_user i)))

load_same : (s t : State) → Mode s → Low s t → (z : ℤ) (a : Attempt Location) → place_at s z ≡ a → map_found (held_at s) a ≡ map_found (held_at t) a
unfolding map_found
load_same s t i l z (Found x) e = ap Found (held_same s t i l z x e)
load_same s t i l z (Raises c) e = refl
load_same s t i l z (Stops n) e = refl

-- ---- registers

set1_used : (b : Bool) (m : Machine) → b ≡ false → set_by b m ≡ m.set1
unfolding set_by
set1_used b m e = rw e

-- ---- the view

pub view_same : (p q : List ℕ) (s t : State) → Mode s → Mode t → Low s t
    → SameBytes (control_at s.machine IMEM_BOUND_LO) (control_at s.machine IMEM_BOUND_HI) p q → view p s ≡ view q t
unfolding view
view_same p q s t i j l h =
    let m = s.machine in
    let n = t.machine in
    let um : user_mode (psr m) ≡ true = mode_user i in
    let un : user_mode (psr n) ≡ true = mode_user j in
    let fetched : (view p s).fetched ≡ (view q t).fetched =
    cc (fetch_same _ _ p q h (word_bytes (width_of (psr m))) m.position.pc, um, un, l.shown.status, l.imem_low, l.imem_high, l.shown.position) in
    let following : (k : ℕ) → (view p s).following k ≡ (view q t).following k = λ k.
    cc (read_same _ _ p q h (word_bytes (width_of (psr m))) (m.position.pc + k * word_bytes (width_of (psr m))), um, un, l.shown.status, l.imem_low, l.imem_high, l.shown.position) in
    let source : (x : ℕ) → (view p s).source x ≡ (view q t).source x = λ x.
    ap (λ r. get_or r x 0) (set1_used _ m (read_bit (psr m) i.user.status) ∙ l.shown.set1 ∙ sym (set1_used _ n (read_bit (psr n) j.user.status))) in
    let target : (x : ℕ) → (view p s).target x ≡ (view q t).target x = λ x.
    ap (λ r. get_or r x 0) (set1_used _ m (write_bit (psr m) i.user.status) ∙ l.shown.set1 ∙ sym (set1_used _ n (write_bit (psr n) j.user.status))) in
    let place : (z : ℤ) → (view p s).place z ≡ (view q t).place z = place_same s t i j l in
    let load : (z : ℤ) → (view p s).load z ≡ (view q t).load z = λ z. cc (load_same s t i l z _ refl, place z) in
    let closed : (x : ℕ) → (view p s).closed x ≡ (view q t).closed x = λ x. cc (l.shown.status, l.imem_low, l.imem_high) in
    λ d. record {
      status = l.shown.status d;
      position = l.shown.position d;
      conditions = l.shown.conditions d;
      nested = l.nested d;
      fetched = fetched d;
      following = λ k. following k d;
      source = λ x. source x d;
      target = λ x. target x d;
      place = λ z. place z d;
      load = λ z. load z d;
      closed = λ x. closed x d;
    }
