-- `river::put::put_nitrification` meets its contract: runs of bytes, one behind the other.
-- Assumes nothing.
use Rattle.river.proofs.bytes.Puts.{puts}
use Rattle.river.proofs.put.put_nitrification.Goals as goal

pub returns-in-Some : goal.returns-in-Some
returns-in-Some c = rw c.in-Some.is (puts (puts (puts (puts c.mark.ensures c.narrow.ensures) c.four.ensures) c.four-in-Some.ensures) c.four-in-Some-2.ensures)
