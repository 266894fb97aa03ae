-- The figures of a reach from its profile, and the ranges that let them be held in four bytes.
-- Assumes nothing.
use mathlib.Core.Path.{◌≡◌, refl, sym, ap, ◌∙◌}
use Prim.Native.Nat.{ℕ, ◌≤◌, ◌<◌}
use native.Mathlib.Nat.{zero-mul, div-le_of_le-mul}
use native.Mathlib.Omega.{arith}
use lib.IntN.{ℤ}
use Rattle.decay.specs.held.Step.{RatesPass, step_of}
use Rattle.decay.specs.held.Factors.{factors_at}
use Rattle.decay.specs.declared.rates.Rates.{Rates}
use Rattle.decay.specs.declared.step.Step.{Step}
use Rattle.decay.proofs.fixed.Digits.{share_below}
use Rattle.decay.proofs.factors.Instants.{range}
use Rattle.decay.proofs.step.Shares.{step_loses_nothing}
use Rattle.river.specs.declared.card.Card.{Card}
use Rattle.river.specs.declared.source.Demand.{Demand}
use Rattle.river.specs.declared.source.Demand.TheVariants.{Bod}
use Rattle.river.specs.Source.{rate_of}
use Rattle.flows.specs.Saturation.{saturation_of, SaturationInRange}
use Rattle.flows.specs.held.Stored.{oxygen_of}
use Rattle.flows.specs.declared.head.Head.{Head}
use Rattle.flows.proofs.head.Bounds.{saturation_of_small}
use Rattle.report.specs.held.Bed.{bed_of, BedInRange}
use Rattle.report.specs.Program.{Critical, foot}
use Rattle.report.specs.held.Digits.{unit_parts, factors_along, parts_along, demand_along, turned_along, loss_along, oxygen_along}
use Rattle.report.specs.held.Lines.{LineReady, HeadFits}
use Rattle.report.specs.held.Profile.{Profiled, oxygen_after}
use Rattle.report.specs.held.Reaches.{RatesOf, CourseOf, figures_of_reach}
use Rattle.report.specs.held.Start.{StartInRange}
use Rattle.report.specs.held.LineFigures.{figures_in}
use Rattle.report.specs.Status.{status_by}
use Rattle.report.specs.declared.bed.Bed.{Bed}
use Rattle.report.specs.declared.course.Course.{Course}
use Rattle.report.specs.declared.profile.Profile.{Profile}
use Rattle.report.specs.declared.reach.Reach.{Reach}
use Rattle.report.proofs.bed.Loss.{bed_in_range}
use Rattle.report.proofs.Lowest.{lowest_first}
use Rattle.report.proofs.profile.Steps.{lowest_same, parts_within}

-- the ranges of a start
pub start_range : {saturated : ℕ} (card : Card) {head : Head} → HeadFits head → head.oxygen < 4_294_967_296 → SaturationInRange card → saturated ≡ saturation_of card → StartInRange head.bod head.nitrogenous head.oxygen saturated
start_range card f h t e =
    record { demands = f.demands; low = f.low; high = h; saturated = rw e (omega (arith, saturation_of_small card t)) }

-- and its bed
pub start_bed : {step : Step} {bed : Bed} (card : Card) (flow : ℕ) → step ≡ step_of card.k1 card.k2 card.volume flow → bed ≡ bed_of card flow → LineReady card flow → BedInRange step bed
start_bed card flow e b ready = rw (e, b) (bed_in_range card flow (ready.rates Bod) ready.bed)

-- a step by the rates of a demand along a reach
pub step_along : {demand : Demand} {reach : Reach} {rates : Rates} {s : Step} → RatesOf demand reach rates → s ≡ step_of rates.k1 rates.k2 rates.volume rates.flow → s ≡ step_of (rate_of demand reach.card) reach.card.k2 reach.card.volume reach.flow
step_along of e = rw (of.k1, of.k2, of.volume, of.flow) at e

-- a step with the share filled of any demand of the reach is that of a demand
pub filled_alike : {lost spent filled : ℕ} (k k2 volume flow : ℕ) → lost ≡ (step_of k k2 volume flow).lost → spent ≡ (step_of k k2 volume flow).spent → filled ≡ (step_of k k2 volume flow).filled → record { lost = lost; spent = spent; filled = filled } ≡ step_of k k2 volume flow
unfolding step_of
filled_alike k k2 volume flow l s f = rw (l, s, f)

pub filled_same : {demand other : Demand} {reach : Reach} {r t : Rates} {s : Step} → RatesOf demand reach r → RatesOf other reach t → s ≡ step_of r.k1 r.k2 r.volume r.flow → s.filled ≡ (step_of t.k1 t.k2 t.volume t.flow).filled
unfolding step_of
filled_same a b e = rw (e, a.k2, a.volume, a.flow, b.k2, b.volume, b.flow) refl

-- at the rate 0 nothing is lost, and nothing spent
pub idle : (k k2 volume flow : ℕ) → k ≡ 0 → RatesPass k k2 volume flow → (0 ≡ (step_of k k2 volume flow).lost) × (0 ≡ (step_of k k2 volume flow).spent)
idle k k2 volume flow z p =
    let none = step_loses_nothing k k2 volume flow p (rw (z, zero-mul)) in
    (sym none.0, sym none.1)

-- a demand at the foot is at most its head value
module _ {course : Course} {p : Profile} (profiled : Profiled course p) where
  pub foot_bod_below : p.foot_bod ≤ course.start.bod
  foot_bod_below =
      rw profiled.foot_bod (share_below (factors_at course.bod.step foot).left course.start.bod (omega (arith, (range course.bod.sound foot).bod)))

  pub foot_nitrogenous_below : p.foot_nitrogenous ≤ course.start.nitrogenous
  foot_nitrogenous_below = rw profiled.foot_nitrogenous (div-le_of_le-mul unit_parts (omega (arith, parts_within course foot)))

  -- the critical instant is one of the 1,025
  pub critical_within : p.critical_instant ≤ foot
  critical_within = rw profiled.critical_instant (lowest_first (oxygen_after course) foot).within

  -- the course of a reach makes its figures, with the status by its critical oxygen
  module _ {reach : Reach} (of : CourseOf reach course) where
    pub line_figures :
        {status : ℕ} →
        status ≡ status_by reach.used (oxygen_of p.critical_oxygen) →
        figures_in (record {
          depth = reach.depth;
          flow = reach.flow;
          head_bod = reach.head.bod;
          foot_bod = p.foot_bod;
          head_oxygen = reach.head.oxygen;
          critical_instant = p.critical_instant;
          critical_oxygen = p.critical_oxygen;
          foot_oxygen = p.foot_oxygen;
          status = status;
          head_nitrogenous = reach.head.nitrogenous;
          foot_nitrogenous = p.foot_nitrogenous;
        }) ≡ figures_of_reach reach
    unfolding demand_along turned_along loss_along oxygen_along factors_along parts_along
    line_figures told =
        let b = rw (of.bod_step, of.bod) at profiled.foot_bod in
        let n = rw (of.nitrogenous_step, of.nitrogenous) at profiled.foot_nitrogenous in
        let o : ℕ → ℤ = oxygen_along reach.card reach.flow reach.head.bod reach.head.nitrogenous (oxygen_of reach.head.oxygen) in
        let at : (m : ℕ) → oxygen_after course m ≡ o m =
        λ m. rw (of.bod_step, of.nitrogenous_step, of.bod, of.nitrogenous, of.oxygen, of.saturation, of.bed) refl
        in
        let low = lowest_same (oxygen_after course) o at foot in
        cc (b, n, profiled.foot_oxygen.is ∙ at foot, profiled.critical_instant ∙ ap (λ (c : Critical). c.instant) low, profiled.critical_oxygen.is ∙ ap (λ (c : Critical). c.oxygen) low, told)
