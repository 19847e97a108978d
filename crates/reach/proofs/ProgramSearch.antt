-- The search through a program, as a whole and in each turn of the code's loop. Assumes nothing.
use mathlib.Core.Path.{◌≡◌, sym, ap, ◌∙◌}
use mathlib.Core.Logic.{◌↔◌}
use mathlib.Core.Bool.{true}
use mathlib.Core.List.{List}
use Prim.Native.Nat.{ℕ, ◌+◌, ◌-◌, ◌≤◌, ◌<◌}
use native.Mathlib.Nat.{sub-zero}
use native.Mathlib.Omega.{arith}
use lib.ListN.{length, get_or}
use Rattle.isa.specs.declared.width.Width.{Width}
use Rattle.isa.specs.Decode.{word_bytes}
use Rattle.reach.specs.Successors.{is_word, successors}
use Rattle.reach.specs.Reachable.{Among, InFull}
use Rattle.reach.specs.Search.{Search, visit, visit_all, follow, blank, searched, MarksWords}
use Rattle.reach.proofs.Words.{wholly, inside, successors_words, in_full_word}
use Rattle.reach.proofs.Graph.{Sound, found_few, begun_sound, expanded_sound, searched_sound, exact}
use Rattle.reach.proofs.Visits.{follow_more, follow_end}

module _ (width : Width) (program : List ℕ) (start : ℕ) where
  -- what is left of the search goes on from what is found as the whole search does from the start
  pub record Going (head : ℕ) (s : Search) : Type 0 where
    pub sound : Sound (successors width program) (length program) start s
    pub left : follow (successors width program) (length program - head) head s ≡ searched (successors width program) (length program) start

  module _ (word : is_word width (length program) start ≡ true) where
    successors_inside : (a b : ℕ) → Among b (successors width program a) → b < length program
    successors_inside a b m = inside width (length program) b (successors_words width program a b m)

    -- ---- the search as a whole

    pub sound : Sound (successors width program) (length program) start (searched (successors width program) (length program) start)
    sound = searched_sound (successors width program) (length program) start successors_inside (inside width (length program) start word)

    pub in_full : (b : ℕ) → (get_or (searched (successors width program) (length program) start).marks b 0 ≡ 1) ↔ InFull (successors width program) start b
    in_full = exact (successors width program) (length program) start successors_inside (inside width (length program) start word)

    -- every mark is that of a word
    pub marks_words : MarksWords width (length program) (searched (successors width program) (length program) start).marks
    marks_words b k = in_full_word width program start b word ((in_full b).0 k)

    -- ---- the loop

    -- with the start alone
    pub begun : Going 0 (visit start (blank (length program)))
    unfolding searched
    begun =
        record {
          sound = begun_sound (successors width program) (length program) start successors_inside (inside width (length program) start word);
          left = ap (λ (n : ℕ). follow (successors width program) n 0 (visit start (blank (length program)))) (sub-zero (length program));
        }

    module _ (head : ℕ) (marks found : List ℕ) (g : Going head (record { marks = marks; found = found })) where
      -- no more are found than the program has bytes
      pub few : length found ≤ length program
      few = found_few (successors width program) (length program) start g.sound

      module _ (h : head < length found) where
        -- the next one is a word of the program
        pub next_word : get_or found head 0 + word_bytes width ≤ length program
        next_word = wholly width (length program) (get_or found head 0) (in_full_word width program start _ word (g.sound.reached _ (g.sound.listed head h)))

        -- what it leads to is found
        pub more : Going (head + 1) (visit_all (successors width program (get_or found head 0)) (record { marks = marks; found = found }))
        more =
            let s : Search = record { marks = marks; found = found } in
            record {
              sound = expanded_sound (successors width program) (length program) start successors_inside s g.sound head h;
              left = sym (follow_more (successors width program) (length program) head s (omega (arith, few)) h) ∙ g.left;
            }

      -- nothing is left
      pub ended : length found ≤ head → marks ≡ (searched (successors width program) (length program) start).marks
      ended h =
          let s : Search = record { marks = marks; found = found } in
          ap (λ (t : Search). t.marks)
          (sym (follow_end (successors width program) (length program) head s (length program - head) h) ∙ g.left)
