-- `report::lines::report_all` meets its contract: each reach has a place in the report, what it is handed, and one more record and one more entry of
-- the tables. Assumes nothing.
use mathlib.Core.Path.{◌≡◌, ap, ◌∙◌}
use mathlib.Core.Bool.{Bool}
use mathlib.Core.List.{List}
use Prim.Native.Nat.{ℕ, suc, ◌+◌, ◌*◌, ◌≤◌, ◌<◌}
use native.Mathlib.Numerals.{add-one}
use native.Mathlib.Omega.{arith}
use lib.ListN.{length}
use Rattle.std.specs.Prelude.{set}
use Rattle.river.specs.declared.card.Card.{Card}
use Rattle.flows.specs.declared.flow.ReachFlows.{ReachFlows}
use Rattle.flows.specs.declared.head.Brought.{Brought}
use Rattle.flows.proofs.flow.Count.{reaches_counted}
use Rattle.report.specs.Program.{reported_at}
use Rattle.report.specs.Record.{has_nitrification, record_bytes, record_size}
use Rattle.report.specs.Report.{record_of, report_size}
use Rattle.report.specs.held.Lines.{ReachReported}
use Rattle.report.specs.held.Reaches.{SiteOf, PlacedAt}
use Rattle.report.specs.declared.reach.Site.{Site}
use Rattle.report.proofs.record.Encoding.{record_length}
use Rattle.report.proofs.record.Rows.{fill_start, fill_more, row_fits}
use Rattle.report.proofs.lines.Reaches.{none_yet, handed, handed_on}
use Rattle.report.proofs.lines.report_all.Invariants.{Progress}
use Rattle.report.proofs.lines.report_all.Goals as goal

pub loop-i-init : goal.loop-i-init
loop-i-init c = record { reaches = none_yet c.requires.0 c.nothing_brought-by_reach.ensures; filled = fill_start _ _ _ }

-- the record of the next reach has room, what it is handed, and the tables and the report with it
module _ {cards : List Card} {flows : List ReachFlows} {before after : List ℕ} {by_reach : List Brought} {i : ℕ} (p : Progress cards flows before after by_reach i) (l : i < length cards) {size : ℕ} (sized : size ≡ record_size cards) where
  room_for : report_size cards ≤ length before → size * i + record_size cards ≤ length after
  room_for room = rw (sized, p.filled.same) (row_fits (record_size cards) l room)

  abbrev placed : (site : Site) → SiteOf cards flows by_reach i site → {nitrified : Bool} → nitrified ≡ has_nitrification cards → report_size cards ≤ length before → PlacedAt site nitrified (size * i) (length after)
  placed site of n room = record { line = handed p.reaches l site of; nitrification = n; room = room_for room }

  one_more : report_size cards ≤ length before → {next : List ℕ} {brought : Brought} → ReachReported cards i (size * i) after next brought → Progress cards flows before next (set by_reach i brought) (i + 1)
  one_more room done =
      record {
        reaches = handed_on p.reaches l done.hands_on;
        filled =
            rw add-one
            (fill_more (record_of cards) (record_size cards) (λ j. record_length (has_nitrification cards) (reported_at cards (suc j))) p.filled (rw sized at (room_for room)) (rw sized at done.report));
      }

pub report_reach-requires : goal.report_reach-requires
report_reach-requires c =
    let counted = reaches_counted c.args.cards (omega arith) c.reach_count-i-end.ensures in
    placed c.loop-i.invariant (rw counted at c.loop-i-test.true) (c.record_bytes-size.ensures ∙ ap record_bytes c.requires.2) c.site_at-site.result c.site_at-site.ensures c.requires.2 c.requires.1

pub loop-i-preserved : goal.loop-i-preserved
loop-i-preserved c =
    let p = c.loop-i.invariant in
    let counted = reaches_counted c.args.cards (omega arith) c.reach_count-i-end.ensures in
    let l = rw counted at c.loop-i-test.true in
    let sized = c.record_bytes-size.ensures ∙ ap record_bytes c.requires.2 in
    one_more p l sized c.requires.1 (c.report_reach.ensures (placed p l sized c.site_at-site.result c.site_at-site.ensures c.requires.2 c.requires.1))
