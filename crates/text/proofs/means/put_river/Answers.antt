-- `text::means::put_river` meets its contract: words, one behind the other. Assumes nothing.
use mathlib.Core.Path.{◌≡◌}
use mathlib.Core.List.{◌++◌, append_assoc}
use Prim.Native.Nat.{ℕ}
use lib.IntN.{ℤ}
use Rattle.text.specs.Text.{ascii, number, signed, after_word, line}
use Rattle.text.specs.MeanText.{river_line}
use Rattle.text.proofs.put.Puts.{both, reworded}
use Rattle.text.proofs.means.put_river.Goals as goal

-- the line of a river, word by word
river_is : (units : ℤ) (remainder : ℕ) → ascii "river " ++ signed units ++ ascii " " ++ number remainder ++ ascii "\n" ≡ river_line (record { units = units; remainder = remainder })
unfolding river_line line after_word
river_is units remainder = simp append_assoc

pub returns : goal.returns
returns c =
    reworded (river_is _ _)
    (both (both (both (both c.put_word.ensures c.put_signed.ensures) c.put_word-2.ensures) c.put_number.ensures) c.put_word-3.ensures)
