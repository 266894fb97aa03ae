-- `text::put::put_signed` meets its contract, below zero and from zero on. Assumes nothing.
use mathlib.Core.Path.{sym}
use native.Mathlib.Omega.{arith}
use Rattle.text.proofs.put.Signs.{below, above}
use Rattle.text.proofs.put.Puts.{both, reworded, widened}
use Rattle.text.proofs.put.put_signed.Goals as goal

pub returns-then-stored-lt-STORED_ZERO_WIDE : goal.returns-then-stored-lt-STORED_ZERO_WIDE
returns-then-stored-lt-STORED_ZERO_WIDE c = reworded (sym (below _ c.if-stored-lt-STORED_ZERO_WIDE.true)) (both c.put_word.ensures c.put_number.ensures)

pub returns-else-stored-lt-STORED_ZERO_WIDE : goal.returns-else-stored-lt-STORED_ZERO_WIDE
returns-else-stored-lt-STORED_ZERO_WIDE c =
    widened (omega arith) (reworded (sym (above _ c.if-stored-lt-STORED_ZERO_WIDE.false)) c.put_number-else-stored-lt-STORED_ZERO_WIDE.ensures)
