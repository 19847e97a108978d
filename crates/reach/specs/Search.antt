-- A search that finds what is reached in full, and a pass that adds the slots (Manual 13). Assumes nothing.
use Rattle.std.specs.Prelude.{◌≡◌, true, List, [], ◌∷◌, ◌++◌, ℕ, zero, suc, ltb, eqb, length, get_or, set, replicate}
use Rattle.word.specs.Choice.{choose◌then◌else◌}
use Rattle.isa.specs.declared.width.Width.{Width}
use Rattle.reach.specs.Successors.{is_word}

-- ---- what is reached in full

-- what has been found: a mark for each address, 1 where it has been, and those found, in order
pub record Search : Type 0 where
  pub marks : List ℕ
  pub found : List ℕ

-- an address is marked and found, unless it is marked already
unfoldable pub visit : (b : ℕ) → Search → Search
visit b s = choose eqb (get_or s.marks b 0) 1 then s else record { marks = set s.marks b 1; found = s.found ++ b ∷ [] }

-- one after the other
unfoldable pub visit_all : List ℕ → Search → Search
visit_all [] s = s
visit_all (b ∷ bs) s = visit_all bs (visit b s)

-- from the found one of number `head` on, at most `left` of them: what each leads to is visited
unfoldable pub follow : (edges : ℕ → List ℕ) (left head : ℕ) → Search → Search
follow edges zero head s = s
follow edges (suc left) head s =
    choose ltb head (length s.found) then follow edges left (suc head) (visit_all (edges (get_or s.found head 0)) s) else s

-- nothing is found yet
abbrev pub blank : (size : ℕ) → Search
blank size = record { marks = replicate size 0; found = [] }

-- the search from a start, of addresses below `size`
unfoldable pub searched : (edges : ℕ → List ℕ) (size start : ℕ) → Search
searched edges size start = follow edges size 0 (visit start (blank size))

-- ---- slots

-- addresses are marked
unfoldable pub mark_all : List ℕ → (marks : List ℕ) → List ℕ
mark_all [] m = m
mark_all (b ∷ bs) m = mark_all bs (set m b 1)

-- the slots of one address are marked, if it is marked
unfoldable pub with_slots_of : (slots_of : ℕ → List ℕ) (a : ℕ) (marks : List ℕ) → List ℕ
with_slots_of slots_of a m = choose eqb (get_or m a 0) 1 then mark_all (slots_of a) m else m

-- the slots of all that is marked below `count`, from the highest down: slots lie above their word, so a mark made here is never looked at
unfoldable pub with_slots : (slots_of : ℕ → List ℕ) (count : ℕ) (marks : List ℕ) → List ℕ
with_slots slots_of zero m = m
with_slots slots_of (suc a) m = with_slots slots_of a (with_slots_of slots_of a m)

-- every mark is that of a word
abbrev pub MarksWords : Width → (size : ℕ) (marks : List ℕ) → Type 0
MarksWords width size m = (a : ℕ) → get_or m a 0 ≡ 1 → is_word width size a ≡ true

-- to unfold all of these
unfoldable pub searching : Unit {0}
unfolding visit visit_all follow searched mark_all with_slots_of with_slots
searching = tt
