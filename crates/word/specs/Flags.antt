-- Numbers as sets of flags: flag n of a number is its bit n. Assumes nothing.
use Rattle.std.specs.Prelude.{ℕ, zero, suc, ◌+◌, ◌-◌, ◌/◌, ◌%◌, ◌^◌, Bool, true, false, not, ◌&&◌, ◌||◌, List, [], ◌∷◌, ◌==◌, nat_lt}
use Rattle.word.specs.Choice.{choose◌then◌else◌}
use Rattle.word.specs.Word.{bit_at}

-- how many of the k lowest flags are 1
unfoldable pub ones_of : (k flags : ℕ) → ℕ
ones_of zero flags = 0
ones_of (suc k) flags = flags % 2 + ones_of k (flags / 2)

-- flag n set to 1, and cleared to 0
unfoldable pub with_flag : (n flags : ℕ) → ℕ
with_flag n flags = choose bit_at n flags then flags else flags + 2 ^ n

unfoldable pub without_flag : (n flags : ℕ) → ℕ
without_flag n flags = choose bit_at n flags then flags - 2 ^ n else flags

-- the flags whose places a list names
unfoldable pub flags_at : List ℕ → ℕ
flags_at [] = 0
flags_at (n ∷ ns) = with_flag n (flags_at ns)

-- n is one of a list
unfoldable pub is_among : (n : ℕ) → List ℕ → Bool
is_among n [] = false
is_among n (m ∷ ms) = m == n || is_among n ms

-- all are below k, and no two are the same
unfoldable pub distinct_below : (k : ℕ) → List ℕ → Bool
distinct_below k [] = true
distinct_below k (n ∷ ns) = nat_lt n k && (not (is_among n ns) && distinct_below k ns)

-- to unfold all of these
unfoldable pub flag_sets : Unit {0}
unfolding ones_of with_flag without_flag flags_at is_among distinct_below
flag_sets = tt
