-- `push_hex_line` meets its contract: what is written is text. Assumes nothing.
use Rattle.std.proofs.Common.{rules, ◌≡◌, ◌∙◌, sym, ap, ℕ, List, ◌++◌}
use mathlib.Core.List.{append_assoc}
use Rattle.console.proofs.Lines.{hex_written, hex_text}
use Rattle.console.proofs.push_hex_line.Goals as goal

pub unwrap-requires : goal.unwrap-requires
unwrap-requires c = let k = hex_text _ _ c.put_ended.ensures in search rules

pub returns : goal.returns
returns c =
    let m : c.unwrap.result.now ≡ c.put_ended.new.line = (rw c.unwrap.ensures at c.from_utf8.ensures.cases).0 in
    c.push_str.ensures.bytes ∙ ap (λ (x : List ℕ). c.args.line.now.bytes ++ x) (m ∙ hex_written _ _ c.put_ended.ensures) ∙ sym (append_assoc c.args.line.now.bytes _ _)
