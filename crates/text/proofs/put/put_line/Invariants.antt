-- `text::put::put_line` meets its contract. The loop's invariant: what remains to be put is the rest of the line. Assumes nothing.
use mathlib.Core.Path.{◌≡◌}
use mathlib.Core.List.{List}
use Prim.Native.Nat.{ℕ, ◌+◌, ◌*◌, ◌≤◌}
use lib.ListN.{length, drop}
use Rattle.river.specs.declared.bytes.Cursor.{Cursor}
use Rattle.text.specs.Text.{line}
use Rattle.text.specs.held.Words.{words_of}
use Rattle.text.proofs.put.Puts.{Remains}
use Rattle.text.proofs.put.put_line.Given as goal

pub record Written (before now : Cursor) (numbers : List ℕ) (i : ℕ) : Type 0 where
  pub room : now.at ≤ before.at + 22 * i
  pub long : length now.out.now ≡ length before.out.now
  pub rest : Remains before (line (words_of numbers)) now (line (drop i (words_of numbers)))

abbrev pub invariant-loop-i : goal.invariant-loop-i
invariant-loop-i l = Written l.initial.text l.text l.numbers l.i
