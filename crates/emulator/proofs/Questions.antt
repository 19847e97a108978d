-- The questions in order: the first no gives the call's refusal, and a call without one starts. Assumes nothing.
use mathlib.Core.Path.{◌≡◌, refl, sym, ap, ◌∙◌}
use mathlib.Core.Bool.{Bool, true, false, not, true≢false}
use mathlib.Core.List.{List, [], ◌∷◌, ◌++◌}
use Prim.Native.Nat.{ℕ, zero, suc, ◌+◌, ◌-◌, ◌≤◌, ◌<◌, suc-le-suc}
use native.Mathlib.Omega.{arith}
use native.Mathlib.Nat.{le_of_suc-le-suc}
use lib.Dec.{leb, lit<, lit≤}
use lib.ListN.{length, get_or}
use borrow.Author.Tests.{leb-true, le-leb}
use Rattle.word.specs.Choice.{choose◌then◌else◌}
use Rattle.word.proofs.Tests.{and_parts, and_both}
use Rattle.codec.specs.Number.{numbers_of}
use Rattle.machine.specs.Machine.{Machine, MOST_MEMORY, Memory}
use Rattle.machine.specs.Questions.{question3, question4, question5, Refused, Accepted, ask_machine, read_by}
use Rattle.machine.proofs.Tests.{Passed, no_more, ◌also◌, below_true, true_below}
use Rattle.image.specs.Image.{LONGEST, machine_in, question2, read_where, read_image}
use Rattle.emulator.specs.Run.{Call, MOST_STEPS, answers, first_no, No, Start, asked_by, ask, asked}
use Rattle.emulator.specs.Questions.{FirstNoAt, FirstNo, AllYes, Questions}

-- ---- the first no of a list

-- there is none where all are yes
pub none_passed : (n : ℕ) (bs : List Bool) → first_no (suc n) bs ≡ 0 → Passed bs
unfolding first_no choose◌then◌else◌
none_passed n [] e = no_more
none_passed n (true ∷ bs) e = refl also none_passed (suc n) bs e
none_passed n (false ∷ bs) e = absurd (omega arith)

pub passed_none : {bs : List Bool} (n : ℕ) → Passed bs → first_no n bs ≡ 0
unfolding first_no choose◌then◌else◌
passed_none n no_more = refl
passed_none n (e also h) = rw e (passed_none (suc n) h)

-- what follows it is not asked
pub first_among : (n : ℕ) (bs cs : List Bool) → (first_no n bs ≡ 0 → ⊥) → first_no n (bs ++ cs) ≡ first_no n bs
unfolding first_no choose◌then◌else◌
first_among n [] cs z = absurd (z refl)
first_among n (true ∷ bs) cs z = first_among (suc n) bs cs z
first_among n (false ∷ bs) cs z = refl

-- k answers are yes, and the next is no
pub record NoAfter (bs : List Bool) (k : ℕ) : Type 0 where
  before : (i : ℕ) → i < k → get_or bs i true ≡ true
  no : get_or bs k true ≡ false

yes_before : (bs : List Bool) (k : ℕ) → ((i : ℕ) → i < k → get_or bs i true ≡ true) → (i : ℕ) → i < suc k → get_or (true ∷ bs) i true ≡ true
yes_before bs k f zero h = refl
yes_before bs k f (suc i) h = f i (le_of_suc-le-suc h)

pub first_after : (n : ℕ) (bs : List Bool) (x : ℕ) → first_no (suc n) bs ≡ suc x → (k : ℕ) × (x ≡ n + k) × (k < length bs) × NoAfter bs k
unfolding first_no choose◌then◌else◌
first_after n [] x e = absurd (omega arith)
first_after n (true ∷ bs) x e =
    let r = first_after (suc n) bs x e in
    (suc r.0, omega (arith, r.1), suc-le-suc r.2, record { before = yes_before bs r.0 r.3.before; no = r.3.no })
first_after n (false ∷ bs) x e = (0, omega arith, omega arith, record { before = λ i h. absurd (omega arith); no = refl })

after_first : (n : ℕ) (bs : List Bool) (k : ℕ) → NoAfter bs k → first_no n bs ≡ n + k
unfolding first_no choose◌then◌else◌
after_first n [] k f = absurd (true≢false f.no)
after_first n (true ∷ bs) zero f = absurd (true≢false f.no)
after_first n (true ∷ bs) (suc k) f =
    let r = after_first (suc n) bs k (record { before = λ i h. f.before (suc i) (suc-le-suc h); no = f.no }) in
    omega (arith, r)
after_first n (false ∷ bs) zero f = omega arith
after_first n (false ∷ bs) (suc k) f = absurd (true≢false (sym (f.before 0 (omega arith))))

-- the same by number, from 1 on
pub number_first : (bs : List Bool) → length bs ≤ 8 → (n : ℕ) → first_no 1 bs ≡ n → 1 ≤ n → FirstNoAt bs n
number_first bs l zero e h = absurd (omega arith)
number_first bs l (suc x) e h =
    let r = first_after 0 bs x e in
    let f = r.3 in
    let same : suc x - 1 ≡ r.0 = omega (arith, r.1) in
    record { least = h; most = omega (arith, r.1, r.2); before = λ k a b. f.before (k - 1) (omega (arith, r.1)); no = rw same f.no }

first_number : (bs : List Bool) (n : ℕ) → FirstNoAt bs n → first_no 1 bs ≡ n
first_number bs n f =
    let early : (i : ℕ) → i < n - 1 → get_or bs i true ≡ true = λ i h. (
    let same : suc i - 1 ≡ i = omega arith in
    rw same at (f.before (suc i) (omega arith) (omega arith))
    ) in
    let r = after_first 1 bs (n - 1) (record { before = early; no = f.no }) in
    omega (arith, r, f.least)

-- ---- what the first no says

pub asked_no : (n : ℕ) (m : Machine) → (n ≡ 0 → ⊥) → asked_by n m ≡ No n
unfolding asked_by
asked_no zero m z = absurd (z refl)
asked_no (suc n) m z = refl

no_asked : (k n : ℕ) (m : Machine) → asked_by k m ≡ No n → (k ≡ n) × (1 ≤ n)
unfolding asked_by
no_asked zero n m e = absurd (let z : ◌≡◌ {A = ℕ} 0 1 = cc in omega arith)
no_asked (suc k) n m e = let same : suc k ≡ n = cc in (same, omega arith)

start_asked : (k : ℕ) (x m : Machine) → asked_by k x ≡ Start m → (k ≡ 0) × (x ≡ m)
unfolding asked_by
start_asked zero x m e = (refl, cc)
start_asked (suc k) x m e = absurd (let z : ◌≡◌ {A = ℕ} 0 1 = cc in omega arith)

-- ---- 2 to 5, of an image

-- the answers to 2 to 5, by that to 2 and the machine that the image says
abbrev pub of_read : (fits : Bool) → Machine → List Bool
of_read fits m = fits ∷ question3 m ∷ question4 m ∷ question5 m ∷ []

-- those of an image, and its machine
abbrev pub said : (image : List ℕ) → Machine
said image = machine_in (numbers_of image)

abbrev pub of_image : (image : List ℕ) → List Bool
of_image image = of_read (question2 image) (said image)

first_of_four : (a b c d : Bool) (m : Machine)
    → choose◌then◌else◌ a (choose◌then◌else◌ (not b) (Refused 3) (choose◌then◌else◌ (not c) (Refused 4) (choose◌then◌else◌ (not d) (Refused 5) (Accepted m)))) (Refused 2)
    ≡ read_by (first_no 2 (a ∷ b ∷ c ∷ d ∷ [])) m
unfolding first_no read_by choose◌then◌else◌
first_of_four true true true true m = refl
first_of_four true true true false m = refl
first_of_four true true false d m = refl
first_of_four true false c d m = refl
first_of_four false b c d m = refl

-- reading asks them in order
pub read_first : (fits : Bool) (m : Machine) → read_where fits m ≡ read_by (first_no 2 (of_read fits m)) m
unfolding read_where ask_machine
read_first fits m = first_of_four fits (question3 m) (question4 m) (question5 m) m

said_by : (n k : ℕ) (x m : Machine) → read_by n x ≡ read_by k m → (n ≡ k) × (n ≡ 0 → x ≡ m)
unfolding read_by
said_by zero zero x m e = (refl, λ _. cc)
said_by zero (suc k) x m e = absurd (let z : ◌≡◌ {A = ℕ} 0 1 = cc in omega arith)
said_by (suc n) zero x m e = absurd (let z : ◌≡◌ {A = ℕ} 0 1 = cc in omega arith)
said_by (suc n) (suc k) x m e = (cc, λ z. absurd (omega arith))

-- what reading said of the image: the number of its first no, and the machine where there is none
pub read_says : (image : List ℕ) (n : ℕ) (m : Machine) → read_by n m ≡ read_image image → (n ≡ first_no 2 (of_image image)) × (n ≡ 0 → m ≡ said image)
read_says image n m e = said_by n (first_no 2 (of_image image)) m (said image) (e ∙ read_first (question2 image) (said image))

-- ---- a call that is not refused

module _ (p image : List ℕ) (memory : Memory) (c : Call) where
  abbrev given : List Bool
  given = answers (length p) (length memory.cells) image c.requests c.limit (length c.buffer)

  pub asked_yes : (m : Machine) → asked p image memory c ≡ Start m → AllYes p image memory c m
  unfolding asked ask answers read_by
  asked_yes m e =
      let s = start_asked (first_no 1 given) (said image) m e in
      go s.1 (none_passed 0 given s.0)
    where
      go : said image ≡ m → Passed given → AllYes p image memory c m
      go same (one also two also three also four also five also six also seven also eight also no_more) =
          let sizes = and_parts (leb (length p) MOST_MEMORY) (leb (length memory.cells) MOST_MEMORY) one in
          record {
            program_size = leb-true (length p) MOST_MEMORY sizes.0;
            data_size = leb-true (length memory.cells) MOST_MEMORY sizes.1;
            read = read_first (question2 image) (said image) ∙ rw (passed_none 2 (two also three also four also five also no_more), same);
            requests = λ i. le_of_suc-le-suc (true_below 0x1000 c.requests (lit< tt) six i);
            limit = leb-true c.limit MOST_STEPS seven;
            room = leb-true LONGEST (length c.buffer) eight;
          }

  yes_asked : (m : Machine) → AllYes p image memory c m → asked p image memory c ≡ Start m
  unfolding asked ask answers asked_by read_by
  yes_asked m y =
      let r = read_says image 0 m (sym y.read) in
      let all = go (none_passed 1 (of_image image) (sym r.0)) in
      rw (passed_none 1 all) (ap Start (sym (r.1 refl)))
    where
      go : Passed (of_image image) → Passed given
      go (two also three also four also five also no_more) =
          and_both (leb (length p) MOST_MEMORY) (leb (length memory.cells) MOST_MEMORY) (le-leb (length p) MOST_MEMORY y.program_size) (le-leb (length memory.cells) MOST_MEMORY y.data_size) also
          two also three also four also five also
          below_true 0x1000 c.requests (λ i. suc-le-suc (y.requests i)) also
          le-leb c.limit MOST_STEPS y.limit also
          le-leb LONGEST (length c.buffer) y.room also no_more

  eight : length given ≤ 8
  unfolding answers
  eight = lit≤ tt

pub questions : Questions
unfolding Questions
questions p image memory c m = (asked_yes p image memory c m, yes_asked p image memory c m)

-- ---- a call that is refused

pub first_no_law : FirstNo
unfolding FirstNo asked ask
first_no_law p image memory c n =
    let bs = given p image memory c in (
      λ e. (
          let k = no_asked (first_no 1 bs) n (said image) e in
          number_first bs (eight p image memory c) n k.0 k.1
          ),
      λ f. rw (first_number bs n f) (asked_no n (said image) (λ z. omega (arith, f.least))),
    )
