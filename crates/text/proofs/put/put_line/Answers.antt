-- `text::put::put_line` meets its contract: what remains to be put is the rest of the line, and at the end nothing. Assumes nothing.
use mathlib.Core.Path.{◌∙◌}
use native.Mathlib.Omega.{arith}
use Rattle.text.proofs.put.Puts.{goes_on, ends}
use Rattle.text.proofs.put.Words.{line_from, line_ends}
use Rattle.text.proofs.put.put_line.Goals as goal

pub loop-i-preserved : goal.loop-i-preserved
loop-i-preserved c =
    let h = c.loop-i.invariant in
    let p = c.put_next.ensures in
    record {
      room = omega (arith, p.within, h.room);
      long = p.long ∙ h.long;
      rest = goes_on h.rest (line_from c.args.numbers.now c.loop-i.i (omega arith)) p.put;
    }

pub returns : goal.returns
returns c =
    let h = c.loop-i.invariant in
    let done = line_ends c.args.numbers.now c.loop-i.i (omega arith) in
    record { put = ends (rw done at h.rest); within = omega (arith, h.room); long = h.long }
