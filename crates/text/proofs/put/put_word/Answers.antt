-- `text::put::put_word` meets its contract: its bytes are put. Assumes nothing.
use native.Mathlib.Omega.{arith}
use Rattle.river.proofs.bytes.Puts.{put_long}
use Rattle.text.proofs.put.put_word.Goals as goal

pub returns : goal.returns
returns c =
    let p = c.bytes.ensures in
    record { put = p; within = omega (arith, p.put.place); long = put_long p.put }
