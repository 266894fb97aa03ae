-- `text::put_refusal` meets its contract: words, one behind the other. Assumes nothing.
use mathlib.Core.Path.{◌≡◌, ap₂, ◌∙◌}
use mathlib.Core.List.{◌++◌, append_assoc}
use Prim.Native.Nat.{ℕ}
use Rattle.text.specs.Text.{ascii, number, after_word, line, refusal_line}
use Rattle.text.proofs.put.Puts.{both, reworded}
use Rattle.text.proofs.put_refusal.Goals as goal

-- the line of a refusal, word by word
refusal_is : (n reach : ℕ) → ascii "refused " ++ number n ++ ascii " reach " ++ number reach ++ ascii "\n" ≡ refusal_line n reach
unfolding refusal_line line after_word
refusal_is n reach = simp append_assoc

pub returns : goal.returns
returns c =
    reworded (refusal_is _ _ ∙ ap₂ refusal_line (c.from.ensures ∙ c.number.ensures) c.from-2.ensures)
    (both (both (both (both c.put_word.ensures c.put_number.ensures) c.put_word-2.ensures) c.put_number-2.ensures) c.put_word-3.ensures)
