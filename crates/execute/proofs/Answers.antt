-- The exceptions and stops that a view shows: codes and numbers of those that are listed. Assumes nothing.
use mathlib.Core.Path.{◌≡◌, refl}
use mathlib.Core.List.{List}
use Prim.Native.Nat.{ℕ, zero, suc, ◌+◌, ◌<◌}
use lib.Dec.{eqb}
use lib.IntN.{ℤ}
use mathlib.Core.Bool.{Bool, true, ◌||◌}
use Rattle.word.specs.Flags.{is_among}
use Rattle.word.proofs.Tests.{if_holds}
use Rattle.isa.specs.declared.width.Width.{Width}
use Rattle.isa.specs.Theorems.{between}
use Rattle.machine.specs.Machine.{State}
use Rattle.execute.specs.View.{Attempt, Found, Raises, Stops, map_found, found_then, fetch_at, found_at, place_at, View, view, nops_from}
use Rattle.execute.proofs.Bytes.{Read, word, closed, missing, word_read}
use Rattle.machine.specs.Kind.{STOPS}

-- a code of an exception: of a test of an instruction, or E0h + n of trap n (Manual 4.9)
pub data Code (c : ℕ) : Type 0 where
  tests : eqb c 0x00 || between 0x02 0x09 c ≡ true → Code c
  traps : (n : ℕ) → n < 32 → c ≡ 224 + n → Code c

-- an exception has such a code, a stop a number of the list
abbrev pub Numbered : {A : Type 0} → Attempt A → Type 0
Numbered (Found x) = Unit {0}
Numbered (Raises c) = Code c
Numbered (Stops n) = is_among n STOPS ≡ true

-- each that a view shows
pub record AnswersNumbered (v : View) : Type 0 where
  pub fetch : Numbered v.fetched
  pub after : (k : ℕ) → Numbered (v.following k)
  pub access : (z : ℤ) → Numbered (v.place z)
  pub loading : (z : ℤ) → Numbered (v.load z)

read_numbered : {a : Attempt ℕ} → Read a → Numbered a
unfolding is_among
read_numbered (word w) = tt
read_numbered closed = tests refl
read_numbered missing = refl

fetch_numbered : (program : List ℕ) (low high : ℕ) (user : Bool) (n pc : ℕ) → Numbered (fetch_at program low high user n pc)
unfolding fetch_at
fetch_numbered program low high user n pc = if_holds Numbered _ (λ _. tests refl) (λ _. read_numbered (word_read program low high user n pc))

place_numbered : (s : State) (z : ℤ) → Numbered (place_at s z)
unfolding place_at found_at is_among
place_numbered s z =
    if_holds Numbered _ (λ _. tests refl) (λ _.
    if_holds Numbered _ (λ _. tests refl) (λ _.
    if_holds Numbered _ (λ _. tt) (λ _.
    if_holds Numbered _ (λ _. tt) (λ _. refl))))

map_numbered : {A B : Type 0} (f : A → B) (t : Attempt A) → Numbered t → Numbered (map_found f t)
unfolding map_found
map_numbered f (Found x) h = tt
map_numbered f (Raises c) h = h
map_numbered f (Stops n) h = h

pub view_numbered : (program : List ℕ) (s : State) → AnswersNumbered (view program s)
unfolding view
view_numbered program s =
    record {
      fetch = fetch_numbered program _ _ _ _ _;
      after = λ k. read_numbered (word_read program _ _ _ _ _);
      access = place_numbered s;
      loading = λ z. map_numbered _ (place_at s z) (place_numbered s z);
    }

-- the nops that must follow

then_numbered : {A B : Type 0} (a : Attempt A) (f : A → Attempt B) → Numbered a → ((x : A) → Numbered (f x)) → Numbered (found_then a f)
unfolding found_then
then_numbered (Found x) f n h = h x
then_numbered (Raises c) f n h = n
then_numbered (Stops k) f n h = n

pub nops_numbered : (width : Width) (following : ℕ → Attempt ℕ) → ((k : ℕ) → Numbered (following k)) → (k count : ℕ) → Numbered (nops_from width following k count)
unfolding nops_from is_among
nops_numbered width following h k zero = tt
nops_numbered width following h k (suc count) =
    then_numbered (following k) _ (h k) (λ w. if_holds Numbered _ (λ _. nops_numbered width following h (suc k) count) (λ _. refl))
