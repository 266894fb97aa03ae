-- `report::record::put_record` meets its contract: the `RP` record and the `RN` record, one behind the other. Assumes nothing.
use mathlib.Core.Path.{◌≡◌, refl}
use native.Mathlib.Omega.{arith}
use lib.ListN.{length}
use Rattle.std.proofs.lemmas.List.{append-nil}
use Rattle.river.proofs.bytes.Puts.{puts, put_long}
use Rattle.report.specs.Record.{encode_plain, encode_record, Figures}
use Rattle.report.specs.held.LineFigures.{figures_in}
use Rattle.report.proofs.record.put_record.Goals as goal

plain_long : (f : Figures) → length (encode_plain f) ≡ 30
unfolding encode_plain
plain_long f = refl

pub put_nitrogenous-requires : goal.put_nitrogenous-requires
put_nitrogenous-requires c =
    let room = rw c.if-nitrified.true at c.requires in
    omega (arith, room, c.put_plain.ensures.put.place, plain_long (figures_in c.args.line), put_long c.put_plain.ensures.put)

pub returns-then-nitrified : goal.returns-then-nitrified
unfolding encode_record
returns-then-nitrified c = rw c.if-nitrified.true (puts c.put_plain.ensures c.put_nitrogenous.ensures)

pub returns-else-nitrified : goal.returns-else-nitrified
unfolding encode_record
returns-else-nitrified c = rw (c.if-nitrified.false, append-nil) c.put_plain.ensures
