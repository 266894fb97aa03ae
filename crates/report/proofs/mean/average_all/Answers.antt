-- `report::mean::average_all` meets its contract: each reach has what it is handed, room among the sums, and its mean in the table. Assumes nothing.
use mathlib.Core.Path.{◌≡◌, ◌∙◌}
use mathlib.Core.Bool.{Bool, true, false, cond}
use mathlib.Core.List.{List}
use Prim.Native.Nat.{ℕ, suc, ◌+◌, ◌*◌, ◌≤◌, ◌<◌}
use native.Mathlib.Numerals.{add-one}
use native.Mathlib.Omega.{arith}
use lib.ListN.{length, set}
use Rattle.river.specs.declared.card.Card.{Card}
use Rattle.flows.specs.declared.flow.ReachFlows.{ReachFlows}
use Rattle.flows.specs.declared.head.Brought.{Brought}
use Rattle.flows.specs.Flow.{card_of, above}
use Rattle.flows.proofs.flow.Count.{reaches_counted}
use Rattle.flows.specs.held.Stored.{stored_limit}
use Rattle.report.specs.Program.{used_above}
use Rattle.report.specs.Mean.{counted_volume_at}
use Rattle.report.specs.held.MeanLines.{volume_limit, ReachAveraged}
use Rattle.report.specs.held.Reaches.{SiteOf}
use Rattle.report.specs.declared.mean.ReachMean.{ReachMean}
use Rattle.report.specs.declared.reach.Site.{Site}
use Rattle.report.specs.declared.weights.Weights.{Weights}
use Rattle.report.proofs.Forest.{reach_accepted}
use Rattle.report.proofs.lines.Reaches.{none_yet, reach_few, reach_tables, handed, used_handed, handed_on}
use Rattle.report.proofs.mean.Tables.{weighs_none, weighs_next, means_none, means_next}
use Rattle.report.proofs.mean.average_all.Invariants.{Progress}
use Rattle.report.proofs.mean.average_all.Goals as goal

pub loop-i-init : goal.loop-i-init
loop-i-init c =
    record {
      reaches = none_yet c.requires c.nothing_brought-by_reach.ensures;
      tabled = means_none _;
      weighed = weighs_none _ c.none-weights.ensures.sum c.none-weights.ensures.volume;
    }

-- a volume that counts is at most the volume
counted_below : (used : Bool) (volume : ℕ) → cond used 0 volume ≤ volume
counted_below true volume = omega arith
counted_below false volume = omega arith

-- the volume of the next reach that counts, and the tables with it
module _ {cards : List Card} {flows : List ReachFlows} {by_reach : List Brought} {stored : List ℕ} {weights : Weights} {i : ℕ} (p : Progress cards flows by_reach stored weights i) (l : i < length cards) where
  volume_few : counted_volume_at cards (suc i) ≤ volume_limit
  volume_few = omega (arith, counted_below (used_above (above cards (suc i))) (card_of cards (suc i)).volume, (reach_accepted cards p.reaches.ready.lawful p.reaches.ready.sound i l).fields.volume)

  module _ (site : Site) (of : SiteOf cards flows by_reach i site) {volume : ℕ} (e : volume ≡ cond site.brought.used 0 site.card.volume) where
    volume_is : volume ≡ counted_volume_at cards (suc i)
    volume_is = e ∙ rw (used_handed p.reaches l site of, of.card)

    one_more :
        {r : ReachMean} {w : Weights} →
        ReachAveraged cards i r →
        r.mean ≤ stored_limit →
        w.sum ≡ weights.sum + volume * r.mean →
        w.volume ≡ weights.volume + volume →
        Progress cards flows (set by_reach i r.brings) (set stored i r.mean) w (i + 1)
    one_more {r} {w} done held sum total =
        record {
          reaches = handed_on p.reaches l done.hands_on;
          tabled = rw add-one (means_next r.mean p.tabled (reach_few (reach_tables p.reaches l)) done.mean);
          weighed = rw add-one (weighs_next r.mean p.weighed volume_few held done.mean (rw volume_is at sum) (rw volume_is at total));
        }

pub loop-i-preserved : goal.loop-i-preserved
loop-i-preserved c =
    let p = c.loop-i.invariant in
    let counted = reaches_counted c.args.cards (omega arith) c.reach_count-i-end.ensures in
    let l = rw counted at c.loop-i-test.true in
    let site = c.site_at-site in
    one_more p l site.result site.ensures c.counted-volume.ensures (c.average_reach-averaged.ensures (handed p.reaches l site.result site.ensures)) (omega arith) c.weigh-weights.ensures.sum c.weigh-weights.ensures.volume
