-- `report::record::put_plain` meets its contract: runs of bytes, one behind the other. Assumes nothing.
use native.Mathlib.Omega.{arith}
use Rattle.river.proofs.bytes.Puts.{puts, put_long}
use Rattle.report.specs.Record.{encode_plain}
use Rattle.report.proofs.record.put_plain.Goals as goal

pub put_complement-requires-3 : goal.put_complement-requires-3
put_complement-requires-3 c =
    let first = puts (puts (puts (puts c.mark.ensures c.byte.ensures) c.four.ensures) c.four-2.ensures) c.four-3.ensures in
    let so = puts (puts (puts first c.put_complement.ensures) c.two.ensures) c.put_complement-2.ensures in
    omega (arith, c.requires, so.put.place, put_long so.put)

pub byte-requires-2 : goal.byte-requires-2
byte-requires-2 c =
    let first = puts (puts (puts (puts c.mark.ensures c.byte.ensures) c.four.ensures) c.four-2.ensures) c.four-3.ensures in
    let so = puts (puts (puts (puts first c.put_complement.ensures) c.two.ensures) c.put_complement-2.ensures) c.put_complement-3.ensures in
    omega (arith, c.requires, so.put.place, put_long so.put)

pub returns : goal.returns
unfolding encode_plain
returns c =
    let first = puts (puts (puts (puts c.mark.ensures c.byte.ensures) c.four.ensures) c.four-2.ensures) c.four-3.ensures in
    puts (puts (puts (puts (puts first c.put_complement.ensures) c.two.ensures) c.put_complement-2.ensures) c.put_complement-3.ensures) c.byte-2.ensures
