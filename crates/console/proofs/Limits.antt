-- Laws of the step limit that a text says. Assumes nothing.
use Rattle.std.proofs.Common.{inl, inr, rules, arith, ◌≡◌, ◌∙◌, sym, ap, Bor, ℕ, suc, ◌+◌, ◌-◌, ◌*◌, ◌≤◌, ◌<◌, List, [], ◌∷◌, length, get_or, take, drop, nat_eq, true, false, Result, Option, Some, None, if◌then◌else◌}
use lib.ListN.{drop_of_length-le}
use lib.Seq.{drop-cons, take_all, length-take-le}
use Rattle.std.proofs.lemmas.Bool.{cases_lt}
use Rattle.std.specs.Str.{IsUtf8}
use Rattle.std.specs.Str.Parse.{ParsesUnsigned}
use Rattle.std.specs.Result.{result_ok}
use Rattle.std.proofs.lemmas.Str.{IsUtf8-from_ascii}
use Rattle.std.proofs.lemmas.Str.Ascii.{IsAscii-from_reads}
use Rattle.std.specs.List.{list_all}
use Rattle.std.specs.Option.{unwrap_or, MatchOption}
use Rattle.std.specs.Cmp.Lexicographic.{pointwise}
use Rattle.std.specs.Char.{is_ascii_digit}
use Rattle.std.proofs.lemmas.Str.Parse.{IsNumeralModel, numerals_by_fold, digit_at, parse_gives, digits_value_short}
use Rattle.console.specs.Digits.{newline}
use Rattle.console.specs.Limit.{is_digit, decimal_from, decimal_of, line_length, limit_of}

-- the number that digits say after `value`, where all characters are digits
abbrev value_from : (value : ℕ) (text : List ℕ) → ℕ
value_from value [] = value
value_from value (b ∷ s) = value_from (value * 10 + (b - 48)) s

own : IsNumeralModel (λ s. list_all is_ascii_digit s ≡ true) (value_from 0)
own = numerals_by_fold _ (search rules) value_from (search rules)

-- digits say a number, and any other text none
read_from : (value : ℕ) (s : List ℕ) → decimal_from value s ≡ (if list_all is_ascii_digit s then Some (value_from value s) else None)
unfolding decimal_from is_digit
read_from value [] = search rules
read_from value (b ∷ s) = search (rules, read_from (value * 10 + (b - 48)) s)

-- too many characters, or one that is no digit
pub refused_long : (s : List ℕ) → 7 < length s → None ≡ decimal_of s
unfolding decimal_of
refused_long s h = search rules

pub refused_other : (s : List ℕ) → list_all is_ascii_digit s ≡ false → None ≡ decimal_of s
unfolding decimal_of
refused_other s e = search (rules, read_from 0 s)

-- at most seven digits are read by std's `parse`
pub parsed : (s : List ℕ) {E : Type 0} (r : Result ℕ E) → length s ≤ 7 → list_all is_ascii_digit s ≡ true → ParsesUnsigned 32 10 s r → result_ok r ≡ decimal_of s
unfolding decimal_of
parsed s r h d p = search (rules, read_from 0 s, parse_gives own 32 s r p d, digits_value_short own s 7 d h)

-- digits are text
digits_utf8 : (s : List ℕ) → list_all is_ascii_digit s ≡ true → IsUtf8 s
digits_utf8 s e = IsUtf8-from_ascii s (IsAscii-from_reads s (length s) (omega arith) (λ k h. search (rules, digit_at s k (own.to s e) h)))

pub digits_text : (s : List ℕ) → list_all is_ascii_digit s ≡ true → (IsUtf8 s → ⊥) → None ≡ decimal_of s
digits_text s e f = absurd (f (digits_utf8 s e))

-- from the last character on, there is it alone
last_kept : (s : List ℕ) → 0 < length s → drop (length s - 1) s ≡ get_or s (length s - 1) 0 ∷ []
last_kept s h = drop-cons s (length s - 1) 0 (omega arith) ∙ ap (λ (x : List ℕ). get_or s (length s - 1) 0 ∷ x) (drop_of_length-le s {i = suc (length s - 1)} (omega arith))

-- a text with a newline at its end, and one without
pub line_ended : (s : List ℕ) → pointwise nat_eq (drop (length s - 1) s) (newline ∷ []) ≡ true → line_length s ≡ length s - 1
unfolding line_length
line_ended [] e = search rules
line_ended (b ∷ s) e = let k = rw (last_kept (b ∷ s) (omega arith)) at e in search rules

pub line_open : (s : List ℕ) → pointwise nat_eq (drop (length s - 1) s) (newline ∷ []) ≡ false → line_length s ≡ length s
unfolding line_length
line_open [] e = search rules
line_open (b ∷ s) e = let k = rw (last_kept (b ∷ s) (omega arith)) at e in search rules

-- what is left without the newline says the limit
pub limit_read : (text : Bor (List ℕ)) (stripped : Option (Bor (List ℕ)))
    → MatchOption stripped (pointwise nat_eq (drop (length text.now - 1) text.now) (newline ∷ []) ≡ false)
    (λ x. (pointwise nat_eq (drop (length text.now - 1) text.now) (newline ∷ []) ≡ true) × (x.now ≡ take (length text.now - 1) text.now) × (length x.now + 1 ≡ length text.now))
    → decimal_of (unwrap_or stripped text).now ≡ limit_of text.now
unfolding limit_of
limit_read text None h = search (rules, line_open text.now h, take_all (length text.now) text.now (omega arith))
limit_read text (Some x) h = search (rules, line_ended)

-- it is all of the text, or all but the last character
line_length_near : (s : List ℕ) → (line_length s ≤ length s) × (length s ≤ line_length s + 1)
unfolding line_length
line_length_near s = search rules

-- a text of nine characters or more says no limit
limit_long : (text : List ℕ) → 8 < length text → limit_of text ≡ None
unfolding limit_of
limit_long text h =
    let near = line_length_near text in
    let n = length-take-le (line_length text) text near.0 in
    sym (refused_long (take (line_length text) text) (omega arith))

-- so the front of a text, of nine characters or more, says the same
pub limit_front : (text : List ℕ) (n : ℕ) → 8 < n → limit_of (take n text) ≡ limit_of text
limit_front text n h = elim (cases_lt n (length text)) [
  | inl m ↦ limit_long (take n text) (omega (arith, length-take-le n text (omega arith))) ∙ sym (limit_long text (omega arith))
  | inr m ↦ ap limit_of (take_all n text m)
]
