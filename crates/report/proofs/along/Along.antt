-- A reach along its way: its nitrogenous BOD, the figures of its foot, its mean, and the loss to its bed. Assumes nothing.
use mathlib.Core.Path.{◌≡◌, sym, ap, ap₂, ◌∙◌}
use Prim.Native.Nat.{ℕ, ◌*◌, ◌/◌, ◌≤◌}
use native.Mathlib.Nat.{le_refl, zero-mul}
use native.Mathlib.Omega.{arith}
use Rattle.decay.specs.Exact.{foot}
use Rattle.decay.specs.Fixed.{product}
use Rattle.decay.specs.held.Step.{step_of, mean_step_of}
use Rattle.decay.specs.held.Factors.{AreShares, next_demand, head_factors, next_factors}
use Rattle.decay.specs.held.Mean.{mean_demand, mean_factors, no_factors, factors_plus, demand_averaged, factors_averaged, Summed, DemandSummed, FactorsSummed}
use Rattle.decay.specs.declared.step.Step.{Step}
use Rattle.decay.specs.declared.step.Pace.{Pace}
use Rattle.decay.specs.declared.rates.Rates.{Rates}
use Rattle.decay.specs.declared.factors.DemandFactors.{DemandFactors}
use Rattle.decay.specs.declared.factors.Factors.{Factors}
use Rattle.decay.specs.declared.mean.Sums.{Sums}
use Rattle.decay.proofs.step.Shares.{step_sound, step_loses_nothing}
use Rattle.decay.proofs.step.MeanShares.{mean_step_sound, mean_loses_nothing, mean_fills}
use Rattle.decay.proofs.fixed.Digits.{share_below}
use Rattle.decay.proofs.factors.Instants.{range, demand_kept, demand_range}
use Rattle.decay.proofs.mean.Averages.{factors_summed, mean_demand_kept, mean_range, mean_demand_range}
use Rattle.river.specs.declared.source.Demand.{Demand}
use Rattle.river.specs.declared.source.Demand.TheVariants.{Bod, Nitrogenous}
use Rattle.river.specs.Source.{rate_of}
use Rattle.flows.specs.held.Stored.{oxygen_of}
use Rattle.report.specs.held.Bed.{LossInRange, loss_with}
use Rattle.report.specs.held.Digits.{unit_parts, factors_along, parts_along, demand_along, turned_along, loss_along, oxygen_along}
use Rattle.report.specs.held.Profile.{oxygen_over}
use Rattle.report.specs.held.MeanAlong.{middle, factors_mean, turned_mean, mean_along}
use Rattle.report.specs.held.Along.{demands_along, AlongReady, AlongWith, AlongReach}
use Rattle.report.specs.held.Reaches.{RatesOf, CourseOf}
use Rattle.report.specs.declared.course.Course.{Course}
use Rattle.report.specs.declared.reach.Reach.{Reach}
use Rattle.report.specs.declared.along.ReachAlong.{ReachAlong}
use Rattle.report.specs.declared.along.DemandAlong.{DemandAlong}
use Rattle.report.proofs.bed.Loss.{loss_in_range, mean_loss_in_range}

-- at the rate 0 all of a demand stays
pub idle_along : (r : Rates) (start : ℕ) → r.k1 ≡ 0 → record { foot = record { left = start; turned = 0 }; mean = record { left = start; turned = 0 } } ≡ demands_along r.k1 r.k2 r.volume r.flow start
idle_along r start z =
    let none : r.k1 * r.volume ≡ 0 = rw (z, zero-mul) in
    let s = step_loses_nothing r.k1 r.k2 r.volume r.flow r.pass none in
    let m = mean_loses_nothing r.k1 r.k2 r.volume r.flow r.pass none in
    sym (ap₂ (λ (f d : DemandFactors). record { foot = f; mean = d }) (demand_kept _ s.0 s.1 start foot) (mean_demand_kept _ _ m.0 m.1 s.0 s.1 start))

-- and else its sums give foot and mean
pub demands_made : (r : Rates) (start : ℕ) {step mean_step : Step} (d : Sums DemandFactors) → step ≡ step_of r.k1 r.k2 r.volume r.flow → mean_step ≡ mean_step_of r.k1 r.k2 r.volume r.flow → DemandSummed start step foot d → record { foot = d.reached; mean = next_demand mean_step (demand_averaged d.sum) } ≡ demands_along r.k1 r.k2 r.volume r.flow start
unfolding mean_demand
demands_made r start d e m s = rw (m, s.left, s.turned, s.reached, e)

-- the factors at the foot and the means, from the sums of a course
module _ (course : Course) {first : Factors} (begins : first ≡ head_factors) {f : Sums Factors} (sums : Summed next_factors no_factors factors_plus first course.bod.step foot f) where
  s : FactorsSummed course.bod.step foot f
  s = factors_summed (rw begins at sums)

  pub foot_shares : AreShares f.reached
  foot_shares = rw s.reached (range course.bod.sound foot)

  pub foot_loss : LossInRange f.reached course.bed foot
  foot_loss = rw s.reached (loss_in_range course.bod.sound course.bed_range foot (le_refl foot))

  pub foot_bod_few : product f.reached.left course.start.bod ≤ 1_000_000_000
  foot_bod_few = omega (arith, share_below f.reached.left course.start.bod (omega (arith, foot_shares.bod)), course.start.range.demands)

  module _ (mean : Pace) {demand : DemandAlong} (r : AlongReady course mean.step demand) {g : Factors} (e : g ≡ next_factors mean.step (factors_averaged f.sum)) where
    mean_is : g ≡ mean_factors mean.step course.bod.step
    unfolding mean_factors
    mean_is = e ∙ rw (s.left, s.turned, s.kept)

    pub mean_shares : AreShares g
    mean_shares = rw mean_is (mean_range mean.sound course.bod.sound)

    pub mean_loss : LossInRange g course.bed middle
    mean_loss = rw mean_is (mean_loss_in_range mean.sound course.bod.sound r.fills course.bed_range)

    -- what is made of them
    pub along_made :
        {p : ReachAlong} →
        p.foot_bod ≡ product f.reached.left course.start.bod →
        p.foot_nitrogenous ≡ demand.foot.left / unit_parts →
        oxygen_of p.foot_oxygen ≡ oxygen_over course.start course.bed f.reached demand.foot foot →
        oxygen_of p.mean ≡ oxygen_over course.start course.bed g demand.mean middle →
        p.loss ≡ loss_with f.reached course.bed foot →
        AlongWith course mean.step demand p
    along_made a b c d h =
        record {
          foot_bod = a ∙ ap (λ (x : Factors). product x.left course.start.bod) s.reached;
          foot_nitrogenous = b;
          foot_oxygen = c ∙ ap (λ (x : Factors). oxygen_over course.start course.bed x demand.foot foot) s.reached;
          mean_oxygen = d ∙ ap (λ (x : Factors). oxygen_over course.start course.bed x demand.mean middle) mean_is;
          loss = h ∙ ap (λ (x : Factors). loss_with x course.bed foot) s.reached;
        }

-- a mean step, and a demand along its way, by the rates of a demand along a reach
pub mean_step_along : {demand : Demand} {reach : Reach} {r : Rates} {s : Step} → RatesOf demand reach r → s ≡ mean_step_of r.k1 r.k2 r.volume r.flow → s ≡ mean_step_of (rate_of demand reach.card) reach.card.k2 reach.card.volume reach.flow
mean_step_along of e = rw (of.k1, of.k2, of.volume, of.flow) at e

pub demands_of : {demand : Demand} {reach : Reach} {r : Rates} (start : ℕ) {d : DemandAlong} → RatesOf demand reach r → d ≡ demands_along r.k1 r.k2 r.volume r.flow start → d ≡ demands_along (rate_of demand reach.card) reach.card.k2 reach.card.volume reach.flow start
demands_of start of e = rw (of.k1, of.k2, of.volume, of.flow) at e

-- the course of a reach, the mean step of its BOD and its nitrogenous BOD
module _ (reach : Reach) {course : Course} {mean_step : Step} {demand : DemandAlong} (of : CourseOf reach course) (m : mean_step ≡ mean_step_of reach.card.k1 reach.card.k2 reach.card.volume reach.flow) (d : demand ≡ demands_along (rate_of Nitrogenous reach.card) reach.card.k2 reach.card.volume reach.flow (unit_parts * reach.head.nitrogenous)) where
  -- are what it asks
  pub along_ready : AlongReady course mean_step demand
  along_ready =
      let rates = reach.ready.rates Bod in
      let other = reach.ready.rates Nitrogenous in
      record {
        fills = rw (of.bod_step, m) (mean_fills reach.card.k1 reach.card.k2 reach.card.volume reach.flow rates);
        foot_parts = rw (d, of.nitrogenous) (demand_range (step_sound _ _ _ _ other) (unit_parts * reach.head.nitrogenous) foot);
        mean_parts = rw (d, of.nitrogenous) (mean_demand_range (mean_step_sound _ _ _ _ other) (step_sound _ _ _ _ other) (unit_parts * reach.head.nitrogenous));
      }

  -- and give its figures
  pub along_below : {p : ReachAlong} → AlongWith course mean_step demand p → AlongReach reach p
  unfolding demand_along turned_along loss_along oxygen_along factors_along parts_along mean_along factors_mean turned_mean
  along_below {p} made =
      record {
        foot_bod = rw (of.bod_step, of.bod) at made.foot_bod;
        foot_nitrogenous = rw d at made.foot_nitrogenous;
        foot_oxygen = rw (of.bod_step, of.bod, of.oxygen, of.saturation, of.bed, d) at made.foot_oxygen;
        mean = rw (of.bod_step, of.bod, of.oxygen, of.saturation, of.bed, d, m) at made.mean_oxygen;
        loss = rw (of.bod_step, of.bed) at made.loss;
      }
