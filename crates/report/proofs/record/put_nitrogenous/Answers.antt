-- `report::record::put_nitrogenous` meets its contract: runs of bytes, one behind the other. Assumes nothing.
use Rattle.river.proofs.bytes.Puts.{puts}
use Rattle.report.specs.Record.{encode_nitrogenous}
use Rattle.report.proofs.record.put_nitrogenous.Goals as goal

pub returns : goal.returns
unfolding encode_nitrogenous
returns c = puts (puts c.mark.ensures c.four.ensures) c.four-2.ensures
