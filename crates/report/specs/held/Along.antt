-- A reach along its way as the program holds it: its figures at the foot, its mean oxygen, and where its oxygen is surely nowhere below zero.
use Rattle.std.specs.Prelude.{◌≡◌, Bool, true, ℕ, ◌+◌, ◌/◌, ◌≤◌, ℤ, pos, ◌≤ℤ◌}
use Rattle.decay.specs.Exact.{foot}
use Rattle.decay.specs.Fixed.{product}
use Rattle.decay.specs.held.Mean.{mean_demand_of, mean_factors}
use Rattle.decay.specs.held.Factors.{demand_from, factors_at}
use Rattle.decay.specs.held.Step.{step_of}
use Rattle.decay.specs.declared.step.Step.{Step}
use Rattle.river.specs.declared.card.Card.{Card}
use Rattle.flows.specs.declared.head.Head.{Head}
use Rattle.river.specs.declared.source.Demand.TheVariants.{Bod, Nitrogenous}
use Rattle.flows.specs.held.Stored.{oxygen_of}
use Rattle.report.specs.held.Bed.{loss_with}
use Rattle.report.specs.held.Profile.{start_parts, oxygen_over}
use Rattle.report.specs.declared.course.Course.{Course}
use Rattle.report.specs.declared.reach.Reach.{Reach}
use Rattle.report.specs.held.Digits.{unit_parts, demand_along, loss_along, oxygen_along}
use Rattle.report.specs.held.Lines.{LineReady, HeadFits}
use Rattle.report.specs.held.MeanAlong.{middle, mean_along}
use Rattle.report.specs.declared.along.DemandAlong.{DemandAlong}
use Rattle.report.specs.declared.along.ReachAlong.{ReachAlong}

-- a demand with rate k along a reach with flow Q that starts with so many parts: what it is at the foot, and on average
abbrev pub demands_along : (k k2 volume Q start : ℕ) → DemandAlong
demands_along k k2 volume Q start =
    record {
      foot = demand_from start (step_of k k2 volume Q) foot;
      mean = mean_demand_of start k k2 volume Q;
    }

-- what this asks of a reach: a mean step that fills no more than its step, and parts that are at most those at the head
pub record AlongReady (course : Course) (mean_step : Step) (demand : DemandAlong) : Type 0 where
  pub fills : mean_step.filled ≤ course.bod.step.filled
  pub foot_parts : demand.foot.left + demand.foot.turned ≤ start_parts course.start
  pub mean_parts : demand.mean.left + demand.mean.turned ≤ start_parts course.start

-- the reach along its way then: the demands and oxygen at the foot, oxygen where the means of the factors hold, and the loss to its bed at the foot
pub record AlongWith (course : Course) (mean_step : Step) (demand : DemandAlong) (p : ReachAlong) : Type 0 where
  pub foot_bod : p.foot_bod ≡ product (factors_at course.bod.step foot).left course.start.bod
  pub foot_nitrogenous : p.foot_nitrogenous ≡ demand.foot.left / unit_parts
  pub foot_oxygen : oxygen_of p.foot_oxygen ≡ oxygen_over course.start course.bed (factors_at course.bod.step foot) demand.foot foot
  pub mean_oxygen : oxygen_of p.mean ≡ oxygen_over course.start course.bed (mean_factors mean_step course.bod.step) demand.mean middle
  pub loss : p.loss ≡ loss_with (factors_at course.bod.step foot) course.bed foot

-- a reach with flow Q along its way, with head BOD L, head nitrogenous BOD Ln and head oxygen C: the figures of its foot, its mean, and the loss to its
-- bed at the foot
pub record AlongBelow (card : Card) (Q L Ln : ℕ) (C : ℤ) (p : ReachAlong) : Type 0 where
  pub foot_bod : p.foot_bod ≡ demand_along Bod card Q L foot
  pub foot_nitrogenous : p.foot_nitrogenous ≡ demand_along Nitrogenous card Q Ln foot
  pub foot_oxygen : oxygen_of p.foot_oxygen ≡ oxygen_along card Q L Ln C foot
  pub mean : oxygen_of p.mean ≡ mean_along card Q L Ln C
  pub loss : p.loss ≡ loss_along card Q foot

-- a reach along its way below its head
abbrev pub AlongReach : Reach → ReachAlong → Type 0
AlongReach reach p = AlongBelow reach.card reach.flow reach.head.bod reach.head.nitrogenous (oxygen_of reach.head.oxygen) p

-- this is a reach with this card, some flow and this head along its way
pub record AlongHead (card : Card) (head : Head) (p : ReachAlong) : Type 0 where
  pub flow : ℕ
  pub ready : LineReady card flow
  pub fits : HeadFits head
  pub below : AlongBelow card flow head.bod head.nitrogenous (oxygen_of head.oxygen) p

-- what a test tells: where it is true, oxygen is nowhere below zero along every such reach
abbrev pub TellsNeverBelow : Card → Head → ReachAlong → (told : Bool) → Type 0
TellsNeverBelow card head p told =
    told ≡ true →
    (here : AlongHead card head p) (m : ℕ) →
    m ≤ foot →
    pos 0 ≤ℤ oxygen_along card here.flow head.bod head.nitrogenous (oxygen_of head.oxygen) m
