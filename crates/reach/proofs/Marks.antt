-- The second pass marks exactly the slots of what is marked. Assumes nothing.
use mathlib.Core.Path.{◌≡◌, refl, sym, ap, ◌∙◌, subst}
use mathlib.Core.Logic.{◌⊎◌, inl, inr, ◌≢◌, ◌↔◌}
use mathlib.Core.Bool.{Bool, true, false}
use mathlib.Core.List.{List, [], ◌∷◌}
use Prim.Native.Nat.{ℕ, zero, suc, ◌+◌, ◌-◌, ◌≤◌, ◌<◌}
use native.Mathlib.Omega.{arith}
use lib.IntN.{ℤ, pos}
use lib.ListN.{length, get_or, set, length-set}
use lib.Dec.{eqb}
use borrow.Author.Tests.{eqb-true, eqb-false}
use Rattle.word.specs.Choice.{choose◌then◌else◌}
use Rattle.isa.specs.declared.width.Width.{Width}
use Rattle.isa.specs.Decode.{word_bytes}
use Rattle.reach.specs.Successors.{is_word, words_among, next_addresses, slots}
use Rattle.reach.specs.Reachable.{Among}
use Rattle.reach.specs.Search.{mark_all, with_slots_of, with_slots, MarksWords}
use Rattle.reach.proofs.Words.{inside, one_word, one_absent, slots_words}
use Rattle.reach.proofs.Graph.{Bits, after_set}

-- b is marked
abbrev pub Marked : List ℕ → (b : ℕ) → Type 0
Marked m b = get_or m b 0 ≡ 1

marked_set : (m : List ℕ) (c b : ℕ) → c < length m → Marked (set m c 1) b ↔ (Marked m b ⊎ (b ≡ c))
marked_set m c b h = after_set m c h (λ (n : ℕ). (n ≡ 1) ↔ (Marked m b ⊎ (b ≡ c))) b (λ e. ((λ _. inr e), (λ _. refl))) (λ d. ((λ k. inl k), back d))
  where
    back : b ≢ c → Marked m b ⊎ (b ≡ c) → Marked m b
    back d (inl k) = k
    back d (inr e) = absurd (d e)

pub length_all : (bs m : List ℕ) → length (mark_all bs m) ≡ length m
unfolding mark_all
length_all [] m = refl
length_all (b ∷ bs) m = length_all bs (set m b 1) ∙ length-set m b 1

Inside : List ℕ → (size : ℕ) → Type 0
Inside bs size = (b : ℕ) → Among b bs → b < size

marked_all : (bs m : List ℕ) (b : ℕ) → Inside bs (length m) → Marked (mark_all bs m) b ↔ (Marked m b ⊎ Among b bs)
unfolding mark_all Inside
marked_all [] m b h = ((λ k. inl k), back)
  where
    back : Marked m b ⊎ ⊥ → Marked m b
    back (inl k) = k
    back (inr z) = absurd z
marked_all (c ∷ bs) m b h =
    let s = marked_set m c b (h c (inl refl)) in
    let r = marked_all bs (set m c 1) b (λ a k. rw (length-set m c 1) (h a (inr k))) in
    ((λ k. forth s (r.0 k)), (λ k. r.1 (back s k)))
  where
    forth : Marked (set m c 1) b ↔ (Marked m b ⊎ (b ≡ c)) → Marked (set m c 1) b ⊎ Among b bs → Marked m b ⊎ ((b ≡ c) ⊎ Among b bs)
    forth s (inl k) = shift (s.0 k)
      where
        shift : Marked m b ⊎ (b ≡ c) → Marked m b ⊎ ((b ≡ c) ⊎ Among b bs)
        shift (inl x) = inl x
        shift (inr x) = inr (inl x)
    forth s (inr k) = inr (inr k)

    back : Marked (set m c 1) b ↔ (Marked m b ⊎ (b ≡ c)) → Marked m b ⊎ ((b ≡ c) ⊎ Among b bs) → Marked (set m c 1) b ⊎ Among b bs
    back s (inl x) = inl (s.1 (inl x))
    back s (inr (inl x)) = inl (s.1 (inr x))
    back s (inr (inr x)) = inr x

bits_set : (m : List ℕ) (c : ℕ) → c < length m → Bits m → Bits (set m c 1)
bits_set m c h b k = after_set m c h (λ (n : ℕ). (n ≡ 0) ⊎ (n ≡ 1)) k (λ e. inr refl) (λ d. b k)

bits_all : (bs m : List ℕ) → Inside bs (length m) → Bits m → Bits (mark_all bs m)
unfolding mark_all Inside
bits_all [] m h b = b
bits_all (c ∷ bs) m h b = bits_all bs (set m c 1) (λ a k. rw (length-set m c 1) (h a (inr k))) (bits_set m c (h c (inl refl)) b)

pub slot_length : (slots : ℕ → List ℕ) (a : ℕ) (m : List ℕ) → length (with_slots_of slots a m) ≡ length m
unfolding with_slots_of choose◌then◌else◌
slot_length slots a m = go (eqb (get_or m a 0) 1)
  where
    go : (x : Bool) → length (choose◌then◌else◌ x (mark_all (slots a) m) m) ≡ length m
    go true = length_all (slots a) m
    go false = refl

-- ---- marks of words

module _ (width : Width) (size : ℕ) where
  -- a list of addresses, the first of them first
  pub mark_first : (a : ℕ) (zs : List ℤ) (m : List ℕ) → mark_all (words_among width size (pos a ∷ zs)) m ≡ mark_all (words_among width size zs) (mark_all (words_among width size (pos a ∷ [])) m)
  unfolding words_among mark_all choose◌then◌else◌
  mark_first a zs m = go (is_word width size a)
    where
      go : (t : Bool) → mark_all (choose◌then◌else◌ t (a ∷ words_among width size zs) (words_among width size zs)) m ≡ mark_all (words_among width size zs) (mark_all (choose◌then◌else◌ t (a ∷ []) []) m)
      go true = refl
      go false = refl

  pub mark_word : (a : ℕ) (m : List ℕ) → is_word width size a ≡ true → set m a 1 ≡ mark_all (words_among width size (pos a ∷ [])) m
  unfolding mark_all
  mark_word a m e = ap (λ (l : List ℕ). mark_all l m) (sym (one_word width size a e))

  pub mark_absent : (a : ℕ) (m : List ℕ) → is_word width size a ≡ false → m ≡ mark_all (words_among width size (pos a ∷ [])) m
  unfolding mark_all
  mark_absent a m e = ap (λ (l : List ℕ). mark_all l m) (sym (one_absent width size a e))

  -- the next words, where k of `count` are marked
  pub next_marked : (b count k : ℕ) (m : List ℕ) → k < count
      → mark_all (words_among width size (next_addresses width (b + word_bytes width) (count - (k + 1)))) (mark_all (words_among width size (pos (b + word_bytes width) ∷ [])) m)
      ≡ mark_all (words_among width size (next_addresses width b (count - k))) m
  unfolding next_addresses
  next_marked b count k m h =
      let e : count - k ≡ suc (count - (k + 1)) = omega arith in
      sym (mark_first (b + word_bytes width) (next_addresses width (b + word_bytes width) (count - (k + 1))) m)
      ∙ ap (λ (n : ℕ). mark_all (words_among width size (next_addresses width b n)) m) (sym e)

  pub none_left : (b count k : ℕ) (m : List ℕ) → count ≤ k → m ≡ mark_all (words_among width size (next_addresses width b (count - k))) m
  unfolding next_addresses words_among mark_all
  none_left b count k m h =
      let e : count - k ≡ 0 = omega arith in
      ap (λ (n : ℕ). mark_all (words_among width size (next_addresses width b n)) m) (sym e)

-- ---- one address of the pass, and the pass from there

module _ (slots : ℕ → List ℕ) (a : ℕ) (m : List ℕ) where
  pub slots_next : (n : List ℕ) → 0 < a → n ≡ with_slots_of slots (a - 1) m → with_slots slots (a - 1) n ≡ with_slots slots a m
  unfolding with_slots
  slots_next n h e =
      let k : a ≡ suc (a - 1) = omega arith in
      ap (with_slots slots (a - 1)) e ∙ ap (λ (c : ℕ). with_slots slots c m) (sym k)

  pub slots_none : a ≤ 0 → m ≡ with_slots slots a m
  unfolding with_slots
  slots_none h = let e : a ≡ 0 = omega arith in ap (λ (c : ℕ). with_slots slots c m) (sym e)

-- marks stay marks of words
module _ (width : Width) (program : List ℕ) where
  marks_all : (bs m : List ℕ) → ((b : ℕ) → Among b bs → is_word width (length program) b ≡ true) → length m ≡ length program
      → MarksWords width (length program) m → MarksWords width (length program) (mark_all bs m)
  unfolding Inside
  marks_all bs m words l marks b k = go ((marked_all bs m b (λ c among. rw l (inside width (length program) c (words c among)))).0 k)
    where
      go : Marked m b ⊎ Among b bs → is_word width (length program) b ≡ true
      go (inl marked) = marks b marked
      go (inr among) = words b among

  pub slots_keep_words : (a : ℕ) (m n : List ℕ) → n ≡ with_slots_of (slots width program) a m → length m ≡ length program
      → MarksWords width (length program) m → MarksWords width (length program) n
  unfolding with_slots_of choose◌then◌else◌
  slots_keep_words a m n e l marks = subst (MarksWords width (length program)) (sym e) (go (eqb (get_or m a 0) 1))
    where
      go : (x : Bool) → MarksWords width (length program) (choose◌then◌else◌ x (mark_all (slots width program a) m) m)
      go true = marks_all (slots width program a) m (slots_words width program a) l marks
      go false = marks

-- a slot of one that is marked and below count
abbrev pub SlotOf : (slots : ℕ → List ℕ) (count : ℕ) (m : List ℕ) (b : ℕ) → Type 0
SlotOf slots count m b = (a : ℕ) × (a < count) × Marked m a × Among b (slots a)

pub slots_length : (slots : ℕ → List ℕ) (count : ℕ) (m : List ℕ) → length (with_slots slots count m) ≡ length m
unfolding with_slots
slots_length slots zero m = refl
slots_length slots (suc a) m = slots_length slots a (with_slots_of slots a m) ∙ slot_length slots a m

module _ (slots : ℕ → List ℕ) (size : ℕ) (above : (a b : ℕ) → Among b (slots a) → a < b) (inside : (a b : ℕ) → Among b (slots a) → b < size) where
  module _ (a : ℕ) (m : List ℕ) (l : length m ≡ size) where
    abbrev next : List ℕ
    next = mark_all (slots a) m

    marked_next : (b : ℕ) → Marked next b ↔ (Marked m b ⊎ Among b (slots a))
    unfolding Inside
    marked_next b = marked_all (slots a) m b (λ c k. rw l (inside a c k))

    -- what is not above is as it was
    low_same : (c : ℕ) → c ≤ a → Marked next c ↔ Marked m c
    low_same c h = ((λ k. forth ((marked_next c).0 k)), (λ k. (marked_next c).1 (inl k)))
      where
        forth : Marked m c ⊎ Among c (slots a) → Marked m c
        forth (inl k) = k
        forth (inr k) = let z = above a c k in absurd (let y : ⊥ = omega arith in y)

    one_more : (b : ℕ) → Marked m a → (Marked next b ⊎ SlotOf slots a next b) ↔ (Marked m b ⊎ SlotOf slots (suc a) m b)
    one_more b e = (forth, back)
      where
        new : Marked m b ⊎ Among b (slots a) → Marked m b ⊎ SlotOf slots (suc a) m b
        new (inl k) = inl k
        new (inr k) = inr (a, omega arith, e, k)

        forth : Marked next b ⊎ SlotOf slots a next b → Marked m b ⊎ SlotOf slots (suc a) m b
        forth (inl k) = new ((marked_next b).0 k)
        forth (inr k) = let h = k.1 in inr (k.0, omega arith, (low_same k.0 (omega arith)).0 k.2, k.3)

        old : (c : ℕ) → c < suc a → Marked m c → Among b (slots c) → (x : Bool) → eqb c a ≡ x → Marked next b ⊎ SlotOf slots a next b
        old c h k s true f = let c=a = eqb-true c a f in inl ((marked_next b).1 (inr (subst (λ (n : ℕ). Among b (slots n)) c=a s)))
        old c h k s false f = let d = eqb-false c a f in inr (c, omega arith, (low_same c (omega arith)).1 k, s)

        back : Marked m b ⊎ SlotOf slots (suc a) m b → Marked next b ⊎ SlotOf slots a next b
        back (inl k) = inl ((marked_next b).1 (inl k))
        back (inr k) = old k.0 k.1 k.2 k.3 (eqb k.0 a) refl

    none_more : (b : ℕ) → (Marked m a → ⊥) → (Marked m b ⊎ SlotOf slots a m b) ↔ (Marked m b ⊎ SlotOf slots (suc a) m b)
    none_more b d = (forth, back)
      where
        forth : Marked m b ⊎ SlotOf slots a m b → Marked m b ⊎ SlotOf slots (suc a) m b
        forth (inl k) = inl k
        forth (inr k) = let h = k.1 in inr (k.0, omega arith, k.2, k.3)

        old : (c : ℕ) → c < suc a → Marked m c → Among b (slots c) → (x : Bool) → eqb c a ≡ x → Marked m b ⊎ SlotOf slots a m b
        old c h k s true f = absurd (d (subst (Marked m) (eqb-true c a f) k))
        old c h k s false f = let e = eqb-false c a f in inr (c, omega arith, k, s)

        back : Marked m b ⊎ SlotOf slots (suc a) m b → Marked m b ⊎ SlotOf slots a m b
        back (inl k) = inl k
        back (inr k) = old k.0 k.1 k.2 k.3 (eqb k.0 a) refl

  -- what is marked in the end: what was, and the slots of what was
  pub with_slots_law : (count : ℕ) (m : List ℕ) (b : ℕ) → length m ≡ size → Marked (with_slots slots count m) b ↔ (Marked m b ⊎ SlotOf slots count m b)
  unfolding with_slots with_slots_of choose◌then◌else◌
  with_slots_law zero m b l = ((λ k. inl k), back)
    where
      back : Marked m b ⊎ SlotOf slots 0 m b → Marked m b
      back (inl k) = k
      back (inr z) = let h = z.1 in absurd (let y : ⊥ = omega arith in y)
  with_slots_law (suc a) m b l = go (eqb (get_or m a 0) 1) refl (with_slots_law a (mark_all (slots a) m) b (length_all (slots a) m ∙ l)) (with_slots_law a m b l)
    where
      go : (x : Bool) → eqb (get_or m a 0) 1 ≡ x
          → Marked (with_slots slots a (mark_all (slots a) m)) b ↔ (Marked (mark_all (slots a) m) b ⊎ SlotOf slots a (mark_all (slots a) m) b)
          → Marked (with_slots slots a m) b ↔ (Marked m b ⊎ SlotOf slots a m b)
          → Marked (with_slots slots (suc a) m) b ↔ (Marked m b ⊎ SlotOf slots (suc a) m b)
      go true e r q = let o = one_more a m l b (eqb-true _ 1 e) in rw e ((λ k. o.0 (r.0 k)), (λ k. r.1 (o.1 k)))
      go false e r q = let o = none_more a m l b (eqb-false _ 1 e) in rw e ((λ k. o.0 (q.0 k)), (λ k. q.1 (o.1 k)))

  -- marks stay 0 or 1
  pub slots_bits : (count : ℕ) (m : List ℕ) → length m ≡ size → Bits m → Bits (with_slots slots count m)
  unfolding with_slots with_slots_of choose◌then◌else◌ Inside
  slots_bits zero m l b = b
  slots_bits (suc a) m l b = go (eqb (get_or m a 0) 1) (slots_bits a (mark_all (slots a) m) (length_all (slots a) m ∙ l) (bits_all (slots a) m (λ c k. rw l (inside a c k)) b)) (slots_bits a m l b)
    where
      go : (x : Bool) → Bits (with_slots slots a (mark_all (slots a) m)) → Bits (with_slots slots a m) → Bits (with_slots slots a (choose◌then◌else◌ x (mark_all (slots a) m) m))
      go true r q = r
      go false r q = q
