-- The search finds exactly what is reached, each but once, in any graph of numbers. Assumes nothing.
use mathlib.Core.Path.{◌≡◌, refl, sym, ap, ◌∙◌, subst}
use mathlib.Core.Logic.{◌⊎◌, inl, inr, ◌≢◌, ◌↔◌}
use mathlib.Core.Bool.{Bool, true, false}
use mathlib.Core.List.{List, [], ◌∷◌, ◌++◌}
use Prim.Native.Nat.{ℕ, zero, suc, ◌+◌, ◌≤◌, ◌<◌}
use native.Mathlib.Omega.{arith}
use lib.ListN.{length, get_or, set, replicate, length-append, length-set, length-replicate, get_or-append, get_or-eq_default}
use lib.Seq.{get_or-set_same, get_or-set_other, get_or-append_seam, get_or_at}
use lib.Dec.{ltb, eqb}
use borrow.Author.Tests.{eqb-true, eqb-false, ltb-true, ltb-false}
use Rattle.word.specs.Choice.{choose◌then◌else◌}
use Rattle.reach.specs.Reachable.{Among, InFull, first, further}
use Rattle.reach.specs.Search.{Search, visit, visit_all, follow, blank, searched}

-- ---- marks

-- how many marks are 1, where all are 0 or 1
abbrev pub sum : List ℕ → ℕ
sum [] = 0
sum (m ∷ l) = m + sum l

abbrev pub Bits : List ℕ → Type 0
Bits l = (i : ℕ) → (get_or l i 0 ≡ 0) ⊎ (get_or l i 0 ≡ 1)

sum_set : (l : List ℕ) (i : ℕ) → get_or l i 0 ≡ 0 → i < length l → sum (set l i 1) ≡ suc (sum l)
sum_set [] i e h = let z : ⊥ = omega arith in absurd z
sum_set (m ∷ l) zero e h = omega arith
sum_set (m ∷ l) (suc i) e h = let r = sum_set l i e (omega arith) in omega arith

sum_most : (l : List ℕ) → Bits l → sum l ≤ length l
sum_most [] b = omega arith
sum_most (m ∷ l) b = go (b 0) (sum_most l (λ i. b (suc i)))
  where
    go : (m ≡ 0) ⊎ (m ≡ 1) → sum l ≤ length l → m + sum l ≤ suc (length l)
    go (inl e) r = omega arith
    go (inr e) r = omega arith

zeros : (n b : ℕ) → ◌≡◌ {A = ℕ} (get_or (replicate n 0) b 0) 0
zeros zero b = get_or-eq_default [] 0 {n = b} (omega arith)
zeros (suc n) zero = refl
zeros (suc n) (suc b) = zeros n b

-- a mark after one more is set
pub after_set : (m : List ℕ) (b : ℕ) → b < length m → (P : ℕ → Type 0) (c : ℕ) → (c ≡ b → P 1) → (c ≢ b → P (get_or m c 0)) → P (get_or (set m b 1) c 0)
after_set m b h P c f g = go (eqb c b) refl
  where
    go : (x : Bool) → eqb c b ≡ x → P (get_or (set m b 1) c 0)
    go true e = let c=b : c ≡ b = eqb-true c b e in subst P (sym (ap (λ (n : ℕ). get_or (set m b 1) n 0) c=b ∙ get_or-set_same m b 1 0 h)) (f c=b)
    go false e = let d = eqb-false c b e in subst P (sym (get_or-set_other m b c 1 0 d)) (g d)

sum_zeros : (n : ℕ) → sum (replicate n 0) ≡ 0
sum_zeros zero = refl
sum_zeros (suc n) = let r = sum_zeros n in omega arith

-- ---- one search

-- what holds of a search at any time
pub record Sound (edges : ℕ → List ℕ) (size start : ℕ) (s : Search) : Type 0 where
  pub length_marks : length s.marks ≡ size
  pub bits : Bits s.marks
  pub count : sum s.marks ≡ length s.found
  pub reached : (b : ℕ) → get_or s.marks b 0 ≡ 1 → InFull edges start b
  pub listed : (k : ℕ) → k < length s.found → get_or s.marks (get_or s.found k 0) 0 ≡ 1
  pub place : (b : ℕ) → get_or s.marks b 0 ≡ 1 → (k : ℕ) × (k < length s.found) × (get_or s.found k 0 ≡ b)
  pub different : (j k : ℕ) → j < k → k < length s.found → get_or s.found j 0 ≢ get_or s.found k 0

module _ (edges : ℕ → List ℕ) (size start : ℕ) where
  -- t goes on from s
  record Later (s t : Search) : Type 0 where
    marked : (b : ℕ) → get_or s.marks b 0 ≡ 1 → get_or t.marks b 0 ≡ 1
    longer : length s.found ≤ length t.found
    kept : (k : ℕ) → k < length s.found → get_or t.found k 0 ≡ get_or s.found k 0

  same : (s : Search) → Later s s
  same s = record { marked = λ b e. e; longer = omega arith; kept = λ k h. refl }

  after : (s t u : Search) → Later s t → Later t u → Later s u
  after s t u p q =
      record {
        marked = λ b e. q.marked b (p.marked b e);
        longer = let x = p.longer in let y = q.longer in omega arith;
        kept = λ k h. (let x = p.longer in q.kept k (omega arith)) ∙ p.kept k h;
      }

  -- no more are found than there are numbers
  pub found_few : {s : Search} → Sound edges size start s → length s.found ≤ size
  found_few {s} i = omega (arith, i.count, sum_most s.marks i.bits, i.length_marks)

  -- ---- a visit of one that is reached

  record Visited (b : ℕ) (s t : Search) : Type 0 where
    sound : Sound edges size start t
    later : Later s t
    now_marked : get_or t.marks b 0 ≡ 1

  module _ (s : Search) (i : Sound edges size start s) (b : ℕ) (h : b < size) (r : InFull edges start b) where
    abbrev t : Search
    t = record { marks = set s.marks b 1; found = s.found ++ b ∷ [] }

    inside : b < length s.marks
    inside = rw i.length_marks h

    t_length : length (s.found ++ b ∷ []) ≡ suc (length s.found)
    t_length = length-append s.found (b ∷ []) ∙ omega arith

    -- a mark after it
    mark_at : (P : ℕ → Type 0) (c : ℕ) → (c ≡ b → P 1) → (c ≢ b → P (get_or s.marks c 0)) → P (get_or (set s.marks b 1) c 0)
    mark_at = after_set s.marks b inside

    -- a found one after it
    found_at : (P : ℕ → Type 0) (k : ℕ) → k < length (s.found ++ b ∷ []) → (k < length s.found → P (get_or s.found k 0)) → P b → P (get_or (s.found ++ b ∷ []) k 0)
    found_at P k l f g = go (ltb k (length s.found)) refl
      where
        go : (x : Bool) → ltb k (length s.found) ≡ x → P (get_or (s.found ++ b ∷ []) k 0)
        go true e = let h' = ltb-true k (length s.found) e in subst P (sym (get_or-append s.found (b ∷ []) 0 k h')) (f h')
        go false e =
            let h' = ltb-false k (length s.found) e in
            let n = t_length in
            let k= : length s.found ≡ k = omega arith in
            subst P (sym (get_or_at s.found b [] 0 k k=)) g

    new : get_or s.marks b 0 ≡ 0 → Visited b s t
    new z =
        record {
          sound =
              record {
                length_marks = length-set s.marks b 1 ∙ i.length_marks;
                bits = λ c. mark_at (λ (m : ℕ). (m ≡ 0) ⊎ (m ≡ 1)) c (λ e. inr refl) (λ d. i.bits c);
                count = sum_set s.marks b z inside ∙ ap suc i.count ∙ sym t_length;
                reached = λ c. mark_at (λ (m : ℕ). m ≡ 1 → InFull edges start c) c (λ e m. subst (InFull edges start) (sym e) r) (λ d m. i.reached c m);
                listed = λ k l. found_at (λ (c : ℕ). get_or (set s.marks b 1) c 0 ≡ 1) k l
                    (λ l'. mark_at (λ (m : ℕ). m ≡ 1) (get_or s.found k 0) (λ e. refl) (λ d. i.listed k l')) (get_or-set_same s.marks b 1 0 inside);
                place = λ c. mark_at (λ (m : ℕ). m ≡ 1 → (k : ℕ) × (k < length (s.found ++ b ∷ [])) × (get_or (s.found ++ b ∷ []) k 0 ≡ c)) c
                    (λ e m. (length s.found, (let n = t_length in omega arith), get_or-append_seam s.found b [] 0 ∙ sym e))
                    (λ d m. let p = i.place c m in (p.0, (let n = t_length in let q = p.1 in omega arith), get_or-append s.found (b ∷ []) 0 p.0 p.1 ∙ p.2));
                different = λ j k l m.
                    let n = t_length in
                    let h : j < length s.found = omega arith in
                    let at_j = get_or-append s.found (b ∷ []) 0 j h in
                    found_at (λ (c : ℕ). get_or (s.found ++ b ∷ []) j 0 ≢ c) k m (λ h e. i.different j k l h (sym at_j ∙ e))
                    (λ e.
                    let one = i.listed j h in
                    let zero = ap (λ (c : ℕ). get_or s.marks c 0) (sym at_j ∙ e) ∙ z in
                    omega arith);
              };
          later =
              record {
                marked = λ c m. mark_at (λ (x : ℕ). x ≡ 1) c (λ e. refl) (λ d. m);
                longer = let n = t_length in omega arith;
                kept = λ k l. get_or-append s.found (b ∷ []) 0 k l;
              };
          now_marked = get_or-set_same s.marks b 1 0 inside;
        }

    visited : Visited b s (visit b s)
    unfolding visit choose◌then◌else◌
    visited = go (eqb (get_or s.marks b 0) 1) refl
      where
        go : (x : Bool) → eqb (get_or s.marks b 0) 1 ≡ x → Visited b s (visit b s)
        go true e = rw e (record { sound = i; later = same s; now_marked = eqb-true _ 1 e })
        go false e = rw e (new (zero_of (i.bits b)))
          where
            zero_of : (get_or s.marks b 0 ≡ 0) ⊎ (get_or s.marks b 0 ≡ 1) → get_or s.marks b 0 ≡ 0
            zero_of (inl z) = z
            zero_of (inr o) = absurd (eqb-false _ 1 e o)

  -- ---- visits of a list of reached ones

  record AllVisited (bs : List ℕ) (s t : Search) : Type 0 where
    sound : Sound edges size start t
    later : Later s t
    all_marked : (b : ℕ) → Among b bs → get_or t.marks b 0 ≡ 1

  all_visited : (bs : List ℕ) (s : Search) → Sound edges size start s → ((b : ℕ) → Among b bs → (b < size) × InFull edges start b) → AllVisited bs s (visit_all bs s)
  unfolding visit_all
  all_visited [] s i r = record { sound = i; later = same s; all_marked = λ b m. absurd m }
  all_visited (b ∷ bs) s i r =
      let h = r b (inl refl) in
      let v = visited s i b h.0 h.1 in
      let w = all_visited bs (visit b s) v.sound (λ c m. r c (inr m)) in
      record {
        sound = w.sound;
        later = after s (visit b s) (visit_all bs (visit b s)) v.later w.later;
        all_marked = λ c m. either c m v w;
      }
    where
      either : (c : ℕ) → (c ≡ b) ⊎ Among c bs → Visited b s (visit b s) → AllVisited bs (visit b s) (visit_all bs (visit b s)) → get_or (visit_all bs (visit b s)).marks c 0 ≡ 1
      either c (inl e) v w = w.later.marked c (rw e v.now_marked)
      either c (inr m) v w = w.all_marked c m

  -- ---- the whole search

  -- what the first h of those found lead to is marked
  Closed : (h : ℕ) → Search → Type 0
  Closed h s = (k : ℕ) → k < h → (b : ℕ) → Among b (edges (get_or s.found k 0)) → get_or s.marks b 0 ≡ 1

  record Finished (s t : Search) : Type 0 where
    sound : Sound edges size start t
    later : Later s t
    closed : Closed (length t.found) t

  module _ (inside-edges : (a b : ℕ) → Among b (edges a) → b < size) where
    expanded : (s : Search) → Sound edges size start s → (k : ℕ) → k < length s.found → AllVisited (edges (get_or s.found k 0)) s (visit_all (edges (get_or s.found k 0)) s)
    expanded s i k l =
        all_visited (edges (get_or s.found k 0)) s i
        (λ b m. (inside-edges (get_or s.found k 0) b m, further (i.reached (get_or s.found k 0) (i.listed k l)) m))

    followed : (left h : ℕ) (s : Search) → Sound edges size start s → Closed h s → size ≤ left + h → Finished s (follow edges left h s)
    unfolding follow choose◌then◌else◌ Closed
    followed zero h s i c l =
        let n = found_few i in
        record { sound = i; later = same s; closed = λ k lk. c k (omega arith) }
    followed (suc left) h s i c l = go (ltb h (length s.found)) refl
        (λ lt. let v = expanded s i h lt in followed left (suc h) (visit_all (edges (get_or s.found h 0)) s) v.sound (closed_more lt v) (omega arith))
      where
        closed_more : h < length s.found → AllVisited (edges (get_or s.found h 0)) s (visit_all (edges (get_or s.found h 0)) s)
            → (k : ℕ) → k < suc h → (b : ℕ) → Among b (edges (get_or (visit_all (edges (get_or s.found h 0)) s).found k 0)) → get_or (visit_all (edges (get_or s.found h 0)) s).marks b 0 ≡ 1
        closed_more lt v k lk b m = at (eqb k h) refl
          where
            at : (x : Bool) → eqb k h ≡ x → get_or (visit_all (edges (get_or s.found h 0)) s).marks b 0 ≡ 1
            at true e =
                let k=h = eqb-true k h e in
                v.all_marked b (subst (λ (a : ℕ). Among b (edges a)) (v.later.kept k (rw k=h lt) ∙ ap (λ (n : ℕ). get_or s.found n 0) k=h) m)
            at false e =
                let d = eqb-false k h e in
                let less : k < h = omega arith in
                v.later.marked b (c k less b (subst (λ (a : ℕ). Among b (edges a)) (v.later.kept k (omega arith)) m))

        go : (x : Bool) → ltb h (length s.found) ≡ x
            → (h < length s.found → Finished (visit_all (edges (get_or s.found h 0)) s) (follow edges left (suc h) (visit_all (edges (get_or s.found h 0)) s)))
            → Finished s (follow edges (suc left) h s)
        go true e rest =
            let lt = ltb-true h (length s.found) e in
            let f = rest lt in
            rw e (record { sound = f.sound; later = after s (visit_all (edges (get_or s.found h 0)) s) _ (expanded s i h lt).later f.later; closed = f.closed })
        go false e rest = let g = ltb-false h (length s.found) e in rw e (record { sound = i; later = same s; closed = λ k lk. c k (omega arith) })

    -- what a found one leads to may be found next
    pub expanded_sound : (s : Search) → Sound edges size start s → (k : ℕ) → k < length s.found → Sound edges size start (visit_all (edges (get_or s.found k 0)) s)
    expanded_sound s i k l = (expanded s i k l).sound

    module _ (start-inside : start < size) where
      none : (b : ℕ) → ◌≡◌ {A = ℕ} (get_or (replicate size 0) b 0) 1 → ⊥
      none b e = let z = zeros size b in omega arith

      empty : Sound edges size start (blank size)
      empty =
          record {
            length_marks = length-replicate size 0;
            bits = λ b. inl (zeros size b);
            count = sum_zeros size;
            reached = λ b e. absurd (none b e);
            listed = λ k l. absurd (let z : ⊥ = omega arith in z);
            place = λ b e. absurd (none b e);
            different = λ j k l m. absurd (let z : ⊥ = omega arith in z);
          }

      begun : Visited start (blank size) (visit start (blank size))
      begun = visited (blank size) empty start start-inside first

      ended : Finished (visit start (blank size)) (searched edges size start)
      unfolding searched Closed
      ended = followed size 0 (visit start (blank size)) begun.sound (λ k l. absurd (let z : ⊥ = omega arith in z)) (omega arith)

      complete : (b : ℕ) → InFull edges start b → get_or (searched edges size start).marks b 0 ≡ 1
      unfolding Closed
      complete b first = ended.later.marked start begun.now_marked
      complete b (further {a} r m) =
          let p = ended.sound.place a (complete a r) in
          ended.closed p.0 p.1 b (subst (λ (x : ℕ). Among b (edges x)) (sym p.2) m)

      pub begun_sound : Sound edges size start (visit start (blank size))
      begun_sound = begun.sound

      pub searched_sound : Sound edges size start (searched edges size start)
      searched_sound = ended.sound

      -- a number is marked where it is reached, and nowhere else
      pub exact : (b : ℕ) → (get_or (searched edges size start).marks b 0 ≡ 1) ↔ InFull edges start b
      exact b = (ended.sound.reached b, complete b)
