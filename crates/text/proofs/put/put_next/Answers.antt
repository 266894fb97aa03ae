-- `text::put::put_next` meets its contract: a word, and what stands after it. Assumes nothing.
use Rattle.text.proofs.put.Puts.{both, reworded}
use Rattle.text.proofs.put.Words.{space_after, end_after}
use Rattle.text.proofs.put.put_next.Goals as goal

pub returns-then-i-numbers : goal.returns-then-i-numbers
returns-then-i-numbers c = both c.put_signed.ensures (reworded (space_after c.args.numbers.now c.args.i c.if-i-numbers.true) c.put_word.ensures)

pub returns-else-i-numbers : goal.returns-else-i-numbers
returns-else-i-numbers c =
    both c.put_signed.ensures (reworded (end_after c.args.numbers.now c.args.i c.if-i-numbers.false) c.put_word-else-i-numbers.ensures)
