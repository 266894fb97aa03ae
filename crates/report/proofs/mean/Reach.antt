-- What a reach of an accepted river hands on, and its mean, by the reach along its way. Assumes nothing.
use mathlib.Core.Path.{◌≡◌, refl, sym, ap, ap₂, ◌∙◌}
use mathlib.Core.Bool.{Bool, cond}
use mathlib.Core.List.{List}
use Prim.Native.Nat.{ℕ, suc, ◌+◌, ◌≤◌, ◌<◌}
use native.Mathlib.Omega.{arith}
use lib.IntN.{pos}
use Rattle.river.specs.declared.card.Card.{Card}
use Rattle.river.specs.declared.source.Demand.TheVariants.{Bod, Nitrogenous}
use Rattle.flows.specs.Flow.{card_of, above, flow_at}
use Rattle.flows.specs.held.HeadTable.{brought_by, BroughtWithin}
use Rattle.flows.specs.held.Stored.{oxygen_of, stored_of}
use Rattle.flows.proofs.head.Bringing.{brought_within}
use Rattle.report.specs.Program.{demand_at_head, oxygen_at_head, figures_of, figures_at}
use Rattle.report.specs.Record.{Figures}
use Rattle.report.specs.Status.{is_used}
use Rattle.report.specs.Mean.{mean_oxygen}
use Rattle.report.specs.held.Along.{AlongBelow, AlongReach}
use Rattle.report.specs.held.MeanLines.{ReachAveraged}
use Rattle.report.specs.held.Lines.{brought_by_figures}
use Rattle.report.specs.held.Reaches.{Here, figures_of_reach}
use Rattle.report.specs.declared.reach.Reach.{Reach}
use Rattle.report.specs.declared.reach.Site.{Site}
use Rattle.report.specs.declared.along.ReachAlong.{ReachAlong}
use Rattle.report.specs.declared.mean.ReachMean.{ReachMean}
use Rattle.report.proofs.River.{falls}
use Rattle.report.proofs.lines.Bringing.{stored_of_lem, is_river, flow_here, used_here, ReachHere, figures_here}

-- reach i + 1 along its way: its foot brings what its figures say, in bounds, and its mean
pub record AlongOf (cards : List Card) (i : ℕ) (p : ReachAlong) : Type 0 where
  pub brings : brought_by (flow_at cards (suc i)) p.foot_bod p.foot_nitrogenous p.foot_oxygen (is_used (figures_at cards (suc i)).status) ≡ brought_by_figures (flow_at cards (suc i)) (figures_at cards (suc i))
  pub within : BroughtWithin cards i (brought_by_figures (flow_at cards (suc i)) (figures_at cards (suc i)))
  pub mean : oxygen_of p.mean ≡ mean_oxygen (card_of cards (suc i)) (above cards (suc i))

module _ (site : Site) (p : Here site) {reach : Reach} (of : ReachHere site p reach) where
  -- the reach along its way below its head
  pub along_of_reach : {along : ReachAlong} → AlongReach reach along → along.foot_oxygen < 4_294_967_296 → AlongOf p.cards p.i along
  unfolding figures_of mean_oxygen
  along_of_reach {along} below fits =
      let here = of.head in
      let h = reach.head in
      let card' = card_of p.cards (suc p.i) in
      let up = above p.cards (suc p.i) in
      let Q = flow_at p.cards (suc p.i) in
      let f = figures_at p.cards (suc p.i) in
      let b : AlongBelow card' Q (demand_at_head Bod card' up) (demand_at_head Nitrogenous card' up) (oxygen_at_head card' up) along = rw (of.card, p.own, of.flow, flow_here site p, here.bod, here.nitrogenous, here.oxygen) at below in
      let oxygen : along.foot_oxygen ≡ stored_of f.foot_oxygen = sym (stored_of_lem along.foot_oxygen) ∙ ap stored_of b.foot_oxygen in
      let brings : brought_by Q along.foot_bod along.foot_nitrogenous along.foot_oxygen (is_used f.status) ≡ brought_by_figures Q f = rw (b.foot_bod, b.foot_nitrogenous, oxygen) in
      let t = falls (is_river p.ready) p.i p.within in
      let bod : along.foot_bod ≤ h.bod = rw (b.foot_bod, here.bod) (t Bod) in
      let nitrogenous : along.foot_nitrogenous ≤ h.nitrogenous = rw (b.foot_nitrogenous, here.nitrogenous) (t Nitrogenous) in
      record {
        brings = brings;
        within = rw (← brings) (brought_within (h.bod + h.nitrogenous) along.foot_bod along.foot_nitrogenous refl (omega (arith, bod, nitrogenous)) here.mass (omega arith));
        mean = b.mean;
      }

  -- what is handed on, with the mean as it is reported
  pub reach_averaged :
      {along : ReachAlong} {used : Bool} {r : ReachMean} →
      AlongOf p.cards p.i along →
      used ≡ is_used (figures_of_reach reach).status →
      r.brings ≡ brought_by reach.flow along.foot_bod along.foot_nitrogenous along.foot_oxygen used →
      oxygen_of r.mean ≡ cond reach.used (pos 0) (oxygen_of along.mean) →
      ReachAveraged p.cards p.i r
  reach_averaged {along} way status made mean =
      let used = status ∙ ap (λ (f : Figures). is_used f.status) (figures_here site p of) in
      let brings = made ∙ ap₂ (λ (n : ℕ) (b : Bool). brought_by n along.foot_bod along.foot_nitrogenous along.foot_oxygen b) (of.flow ∙ flow_here site p) used ∙ way.brings in
      record {
        hands_on = record { brings = brings; within = rw brings way.within };
        mean = rw (of.used, used_here site p, way.mean) at mean;
      }
