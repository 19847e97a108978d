-- The bytes of an instruction word: which are protected, which are there. Assumes nothing.
use mathlib.Core.Path.{◌≡◌, refl, sym, ap, ◌∙◌}
use mathlib.Core.Bool.{Bool, true, false, not, ◌&&◌, and-true, and-false, and_assoc, and_comm, true≢false}
use mathlib.Core.List.{List, [], ◌∷◌}
use mathlib.Core.Option.{Option, none, some}
use Prim.Native.Nat.{ℕ, zero, suc, ◌+◌, ◌-◌, ◌*◌, ◌%◌, ◌^◌, ◌≤◌, ◌<◌}
use native.Mathlib.Nat.{zero-mul, zero-add}
use native.Mathlib.Numerals.{towards_suc}
use native.Mathlib.Omega.{arith}
use lib.Dec.{leb, ltb, eqb}
use lib.ListN.{length, get_or, get_elem?}
use borrow.Author.Tests.{leb-true, leb-false, le-leb, lt-leb, ltb-true, ltb-false, eqb-true}
use Rattle.word.specs.Choice.{choose◌then◌else◌}
use Rattle.word.proofs.Tests.{either, and_parts, both_bounds, false_unless, if_holds}
use Rattle.isa.specs.declared.width.Width.{Width}
use Rattle.isa.specs.declared.width.Width.TheVariants.{Narrow, Wide}
use Rattle.isa.specs.Decode.{word_bytes, word_at}
use Rattle.machine.specs.Control.{within}
use Rattle.execute.specs.Theorems.{FetchedWord}
use Rattle.execute.specs.View.{Attempt, Found, Raises, Stops, any_within, byte_then, bytes_at, read_at, fetch_at}

-- ---- protection

-- the addresses from a to a + n meet the bounds
some_within : (low high a n : ℕ) → low ≤ high → low ≤ a + n → a ≤ high → any_within low high a (suc n) ≡ true
unfolding any_within within
some_within low high a zero h l k = let e : low ≤ a = omega arith in simp (le-leb low a e, le-leb a high k)
some_within low high a (suc n) h l k =
    either (leb low a)
    (λ e. simp (e, le-leb a high k))
    (λ e. let f : a < low = leb-false low a e in rw e (some_within low high (suc a) n h (omega arith) (omega arith)))

-- none of them is within the bounds
none_within : (low high a n : ℕ) → ((x : ℕ) → a ≤ x → x < a + n → within low high x ≡ false) → any_within low high a n ≡ false
unfolding any_within
none_within low high a zero f = refl
none_within low high a (suc n) f =
    rw (f a (omega arith) (omega arith)) (none_within low high (suc a) n (λ x l h. f x (omega arith) (omega arith)))

-- one of them is, and so the two ranges overlap
one_within : (low high a n x : ℕ) → a ≤ x → x < a + n → within low high x ≡ true → (leb low high && leb low (a + (n - 1))) && leb a high ≡ true
unfolding within
one_within low high a n x l k w =
    let t = both_bounds low x high w in
    let from : low ≤ x = t.0 in
    let to : x ≤ high = t.1 in
    rw (le-leb low high (omega arith), le-leb low (a + (n - 1)) (omega arith), le-leb a high (omega arith))

-- one of n addresses is within bounds exactly where the two ranges overlap
overlap : (low high a n : ℕ) → 0 < n → (leb low high && leb low (a + (n - 1))) && leb a high ≡ any_within low high a n
overlap low high a zero p = absurd (omega arith)
overlap low high a (suc n) p =
    either ((leb low high && leb low (a + (suc n - 1))) && leb a high)
    (λ e.
    let t = and_parts (leb low high && leb low (a + (suc n - 1))) (leb a high) e in
    let u = and_parts (leb low high) (leb low (a + (suc n - 1))) t.0 in
    let l = leb-true low (a + (suc n - 1)) u.1 in
    e ∙ sym (some_within low high a n (leb-true low high u.0) (omega arith) (leb-true a high t.1)))
    (λ e. e ∙ sym (none_within low high a (suc n) (λ x l k. false_unless (within low high x) (λ w. true≢false (sym (one_within low high a (suc n) x l k w) ∙ e)))))

-- past the upper bound none is within; below it the code's test says whether the ranges overlap
pub overlap_past : (user : Bool) (low high a n : ℕ) → 0 < n → high < a → false ≡ user && any_within low high a n
overlap_past user low high a n p h = rw (← (overlap low high a n p), lt-leb a high h, and-false (leb low high && leb low (a + (n - 1)))) (sym (and-false user))

pub overlap_test : (user : Bool) (low high a n : ℕ) → 0 < n → a ≤ high → (user && leb low (a + (n - 1))) && leb low high ≡ user && any_within low high a n
overlap_test user low high a n p h =
    rw (← (overlap low high a n p), le-leb a high h, and-true (leb low high && leb low (a + (n - 1))))
    (and_assoc user (leb low (a + (n - 1))) (leb low high) ∙ ap (λ t. user && t) (and_comm (leb low (a + (n - 1))) (leb low high)))

-- ---- alignment

-- what is not misaligned is aligned
pub aligned_at : (n a : ℕ) (r : Bool) → r ≡ not (eqb (a % n) 0) → r ≡ false → a % n ≡ 0
aligned_at n a r e f = either (eqb (a % n) 0) (eqb-true (a % n) 0) (λ t. absurd (true≢false (sym (e ∙ ap not t) ∙ f)))

-- ---- presence

element_there : (l : List ℕ) (i : ℕ) → i < length l → get_elem? l i ≡ some (get_or l i 0)
element_there [] i h = absurd (omega arith)
element_there (x ∷ l) zero h = refl
element_there (x ∷ l) (suc i) h = element_there l i (omega arith)

element_absent : (l : List ℕ) (i : ℕ) → length l ≤ i → get_elem? l i ≡ none
element_absent [] i h = refl
element_absent (x ∷ l) zero h = absurd (omega arith)
element_absent (x ∷ l) (suc i) h = element_absent l i (omega arith)

-- the number of n bytes from a on, below those of w
unfoldable pub bytes_from : (program : List ℕ) (n a w : ℕ) → ℕ
bytes_from program zero a w = w
bytes_from program (suc n) a w = bytes_from program n (suc a) (w * 256 + get_or program a 0)

-- all bytes are there
pub bytes_there : (program : List ℕ) (n a w : ℕ) → a + n ≤ length program → bytes_at program n a w ≡ Found (bytes_from program n a w)
unfolding bytes_at byte_then bytes_from
bytes_there program zero a w h = refl
bytes_there program (suc n) a w h =
    rw (element_there program a (omega arith)) (bytes_there program n (suc a) (w * 256 + get_or program a 0) (omega arith))

-- one is absent
pub bytes_absent : (program : List ℕ) (n a w : ℕ) → 0 < n → length program < a + n → bytes_at program n a w ≡ Stops 11
unfolding bytes_at byte_then
bytes_absent program zero a w p h = absurd (omega arith)
bytes_absent program (suc n) a w p h =
    either (ltb a (length program))
    (λ t. let l = ltb-true a (length program) t in rw (element_there program a l) (bytes_absent program n (suc a) _ (omega arith) (omega arith)))
    (λ t. rw (element_absent program a (ltb-false a (length program) t)))

-- a word is fetched only where all bytes are there
not_fetched : (b c : Bool) (f : Attempt ℕ) (w : ℕ) → f ≡ Stops 11 → (choose b then Raises 0x05 else choose c then Raises 0x00 else f) ≡ Found w → ⊥
unfolding choose◌then◌else◌
not_fetched true c f w a e = let z : ◌≡◌ {A = ℕ} 0 1 = cc in omega arith
not_fetched false true f w a e = let z : ◌≡◌ {A = ℕ} 0 1 = cc in omega arith
not_fetched false false f w a e = let z : ◌≡◌ {A = ℕ} 0 1 = cc in omega arith

pub fetched_inside : (program : List ℕ) (low high : ℕ) (user : Bool) (n pc w : ℕ) → 0 < n
    → fetch_at program low high user n pc ≡ Found w → pc + n ≤ length program
unfolding fetch_at read_at
fetched_inside program low high user n pc w p e =
    either (leb (pc + n) (length program)) (leb-true (pc + n) (length program))
    (λ t. absurd (not_fetched _ _ _ w (bytes_absent program n pc 0 p (leb-false (pc + n) (length program) t)) e))

-- the word whose bytes are there is that of `word_at`
pub fetched_word : FetchedWord
unfolding word_bytes word_at bytes_from
fetched_word Narrow program a h = rw (bytes_there program 2 a 0 h) (simp (zero-mul, zero-add, towards_suc))
fetched_word Wide program a h = rw (bytes_there program 4 a 0 h) (simp (zero-mul, zero-add, towards_suc))

-- ---- reading

-- what a word read may be
pub data Read : Attempt ℕ → Type 0 where
  word : (w : ℕ) → Read (Found w)
  closed : Read (Raises 0x00)
  missing : Read (Stops 11)

byte_read : (b : Option ℕ) (f : ℕ → Attempt ℕ) → ((x : ℕ) → Read (f x)) → Read (byte_then b f)
unfolding byte_then
byte_read none f h = missing
byte_read (some x) f h = h x

bytes_read : (program : List ℕ) (n a w : ℕ) → Read (bytes_at program n a w)
unfolding bytes_at
bytes_read program zero a w = word w
bytes_read program (suc n) a w = byte_read (get_elem? program a) _ (λ x. bytes_read program n (suc a) (w * 256 + x))

pub word_read : (program : List ℕ) (low high : ℕ) (user : Bool) (n a : ℕ) → Read (read_at program low high user n a)
unfolding read_at
word_read program low high user n a = if_holds Read _ (λ _. closed) (λ _. bytes_read program n a 0)

-- ---- lengths

-- a word at an aligned address lies below 2 ^ 32
pub aligned_fits : (width : Width) (n a : ℕ) → n ≡ word_bytes width → a < 2 ^ 32 → a % n ≡ 0 → a + n ≤ 2 ^ 32
unfolding word_bytes
aligned_fits Narrow n a e h z = rw e (let t : a % 2 ≡ 0 = rw e at z in omega arith)
aligned_fits Wide n a e h z = rw e (let t : a % 4 ≡ 0 = rw e at z in omega arith)

-- up to four words have at most sixteen bytes
pub words_on_law : (width : Width) (k : ℕ) → k < 4 → k * word_bytes width + word_bytes width ≤ 16
unfolding word_bytes
words_on_law Narrow k h = omega arith
words_on_law Wide k h = omega arith
