-- `text::render` meets its contract, by what reporting answers. Assumes nothing.
use mathlib.Core.Path.{refl}
use Prim.Native.Nat.{◌*◌, ◌≤◌}
use native.Mathlib.Omega.{arith}
use lib.ListN.{length}
use Rattle.io.specs.Counts.{IsPrefixLen}
use Rattle.river.specs.Bytes.{AreBytes}
use Rattle.report.specs.Record.{record_bytes}
use Rattle.report.proofs.Calls.{refusal_told}
use Rattle.report.proofs.Entry.{report_given}
use Rattle.text.specs.Text.{Renders}
use Rattle.text.proofs.Rendering.{records_fit, lines_are, refusal_is, renders}
use Rattle.text.proofs.render.Goals.{in-Ok, in-Err}
use Rattle.text.proofs.render.Goals as goal

fit : (c : goal.After-report-in-Ok-1) → (c.in-Ok.told.count ≤ 128) × (record_bytes c.in-Ok.told.nitrified * c.in-Ok.told.count ≤ length c.report.new.report)
fit c =
    let bytes : AreBytes c.args.file.now = record { below = λ k. (c.type_inv.file k).fits } in
    records_fit bytes _ (report_given _ bytes (rw c.in-Ok.is at c.report.ensures)) c.report.auto.report

pub put_lines-requires-clause-few : goal.put_lines-requires-clause-few
put_lines-requires-clause-few c = (fit c).0

pub put_lines-requires-clause-records : goal.put_lines-requires-clause-records
put_lines-requires-clause-records c = (fit c).1

pub put_lines-requires-clause-room : goal.put_lines-requires-clause-room
put_lines-requires-clause-room c = omega (arith, (fit c).0, c.told-out)

rendered : (c : goal.Joined-report) → Renders c.args.file.now c.args.out.now c.match-report.text.out.now c.match-report.text.at × IsPrefixLen c.match-report.text.at c.match-report.text.out.now
rendered c =
    let bytes : AreBytes c.args.file.now = record { below = λ k. (c.type_inv.file k).fits } in
    elim c.match-report.branch [
      | in-Ok w ↦
          let told = report_given _ bytes (rw w.in-Ok.is at c.report.ensures) in
          let few = (records_fit bytes _ told c.report.auto.report).0 in
          rw w.text-is (renders refl w.put_lines.ensures (lines_are bytes _ told) (omega (arith, few, c.told-out)))
      | in-Err w ↦
          let refused = refusal_told _ (rw w.in-Err.is at c.report.ensures) in
          rw w.text-is (renders refl w.put_refusal.ensures (refusal_is bytes (omega arith) refused) (omega (arith, c.told-out)))
    ]

pub returns-clause-renders : goal.returns-clause-renders
returns-clause-renders c = (rendered c).0

pub returns-clause-prefix_len : goal.returns-clause-prefix_len
returns-clause-prefix_len c = (rendered c).1
