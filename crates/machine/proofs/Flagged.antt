-- The flags of the sources of entries, one after the other. Assumes nothing.
use Rattle.std.proofs.Common.{◌≡◌, sym, ap, ◌∙◌, ℕ, ◌+◌, ◌<◌, List, [], ◌∷◌, length, get_or, take, reverse}
use Rattle.std.proofs.lemmas.List.{reverse-append, take_more}
use Rattle.word.specs.Flags.{with_flag}
use Rattle.machine.specs.Stack.{service_flags}
use Rattle.machine.specs.declared.stack.Entry.{Entry}
use Rattle.machine.proofs.Shown.{flags_pushed}

pub flags_more : (l : List Entry) (i : ℕ) (d : Entry) (flags more : ℕ) → flags ≡ service_flags (reverse (take i l)) → i < length l
    → more ≡ with_flag (get_or l i d).source flags → more ≡ service_flags (reverse (take (i + 1) l))
flags_more l i d flags more e h m =
    m
    ∙ ap (with_flag (get_or l i d).source) e
    ∙ sym (ap (λ k. service_flags (reverse k)) (take_more l i d h)
    ∙ ap service_flags (reverse-append (take i l) (get_or l i d ∷ []))
    ∙ flags_pushed (get_or l i d) (reverse (take i l)))
