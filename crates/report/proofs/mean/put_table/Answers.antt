-- `report::mean::put_table` meets its contract: mean after mean, each has room. Assumes nothing.
use mathlib.Core.Path.{◌≡◌, refl}
use native.Mathlib.Numerals.{add-one}
use native.Mathlib.Omega.{arith}
use lib.ListN.{length}
use Rattle.std.proofs.Common.{rules}
use Rattle.river.proofs.bytes.Puts.{puts, put_at_start, put_long}
use Rattle.report.specs.Report.{first_rows}
use Rattle.report.specs.Mean.{mean_bytes}
use Rattle.report.specs.held.MeanLines.{stored_row}
use Rattle.report.proofs.record.Rows.{rows_length}
use Rattle.report.proofs.mean.put_table.Goals as goal

pub loop-mean-init : goal.loop-mean-init
unfolding first_rows
loop-mean-init c = record { same = refl; put = record { buffer = refl; place = refl } }

pub put_complement-requires : goal.put_complement-requires
put_complement-requires c =
    let v = c.loop-mean.invariant in
    omega (arith, c.requires, c.loop-mean-test.true, v.put.place, put_long v.put, rows_length (stored_row c.args.stored.now) mean_bytes (λ j. refl) c.loop-mean.mean-index)

pub loop-mean-preserved : goal.loop-mean-preserved
unfolding first_rows
loop-mean-preserved c = rw add-one (puts c.loop-mean.invariant c.put_complement.ensures)

pub returns : goal.returns
returns c =
    let v = c.loop-mean.invariant in
    let all : c.loop-mean.mean-index ≡ length c.args.stored.now = omega (arith, c.loop-mean-test.false, c.loop-mean.auto.mean-index-end) in
    let long = rows_length (stored_row c.args.stored.now) mean_bytes (λ j. refl) (length c.args.stored.now) in
    let put = rw all at v.put in
    let written = rw long at (put_at_start put (omega (arith, long, c.requires))) in
    let same = v.same in
    search (rules, written, same)
