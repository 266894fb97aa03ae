-- What the program holds of a reach of an accepted river: what it is handed, its course, and what it promises of its head, its line and its record.
use Rattle.std.specs.Prelude.{◌≡◌, Bool, List, ℕ, suc, ◌+◌, ◌≤◌, length}
use Rattle.decay.specs.declared.rates.Rates.{Rates}
use Rattle.decay.specs.held.Step.{step_of}
use Rattle.river.specs.declared.card.Card.{Card}
use Rattle.river.specs.declared.source.Demand.{Demand}
use Rattle.river.specs.declared.source.Demand.TheVariants.{Nitrogenous}
use Rattle.river.specs.Source.{rate_of}
use Rattle.flows.specs.declared.flow.ReachFlows.{ReachFlows}
use Rattle.flows.specs.declared.head.Brought.{Brought}
use Rattle.flows.specs.Flow.{card_of}
use Rattle.flows.specs.Saturation.{saturation_of}
use Rattle.flows.specs.held.FlowTable.{flows_by}
use Rattle.flows.specs.held.HeadTable.{brought_by_feeders}
use Rattle.flows.specs.held.Stored.{oxygen_of}
use Rattle.report.specs.Program.{figures_below}
use Rattle.report.specs.Record.{has_nitrification, Figures, record_size}
use Rattle.report.specs.held.Bed.{bed_of}
use Rattle.report.specs.held.Lines.{LineAt, HeadOfReach, LineOf, ReachReported}
use Rattle.report.specs.declared.course.Course.{Course}
use Rattle.report.specs.declared.reach.Reach.{Reach}
use Rattle.report.specs.declared.reach.Site.{Site}
use Rattle.report.specs.declared.record.Line.{Line}

-- the rates of a demand along a reach
pub record RatesOf (demand : Demand) (reach : Reach) (rates : Rates) : Type 0 where
  pub k1 : rates.k1 ≡ rate_of demand reach.card
  pub k2 : rates.k2 ≡ reach.card.k2
  pub volume : rates.volume ≡ reach.card.volume
  pub flow : rates.flow ≡ reach.flow

-- the course of a reach: the steps of its demands, its head values and saturation, and its bed
pub record CourseOf (reach : Reach) (course : Course) : Type 0 where
  pub bod_step : course.bod.step ≡ step_of reach.card.k1 reach.card.k2 reach.card.volume reach.flow
  pub nitrogenous_step : course.nitrogenous.step ≡ step_of (rate_of Nitrogenous reach.card) reach.card.k2 reach.card.volume reach.flow
  pub bod : course.start.bod ≡ reach.head.bod
  pub nitrogenous : course.start.nitrogenous ≡ reach.head.nitrogenous
  pub oxygen : course.start.oxygen ≡ reach.head.oxygen
  pub saturation : course.start.saturation ≡ saturation_of reach.card
  pub bed : course.bed ≡ bed_of reach.card reach.flow

-- the figures of a reach
abbrev pub figures_of_reach : Reach → Figures
figures_of_reach reach =
    figures_below reach.used reach.card reach.depth reach.flow reach.head.bod reach.head.nitrogenous (oxygen_of reach.head.oxygen)

-- a river and tables that a reach may be of
abbrev pub Here : Site → Type 0
Here site = LineAt site.card site.flows site.brought

-- a site is that of reach i + 1
pub record SiteOf (cards : List Card) (flows : List ReachFlows) (by_reach : List Brought) (i : ℕ) (site : Site) : Type 0 where
  pub card : site.card ≡ card_of cards (suc i)
  pub flows_are : site.flows ≡ flows_by flows i
  pub brought_is : site.brought ≡ brought_by_feeders flows by_reach i

-- a reach below its head: for every such river its head is that of this reach
pub record HeadBy (site : Site) (reach : Reach) : Type 0 where
  pub card : reach.card ≡ site.card
  pub flow : reach.flow ≡ site.flows.flow
  pub depth : reach.depth ≡ site.flows.depth
  pub used : reach.used ≡ site.brought.used
  pub head : (here : Here site) → HeadOfReach here.cards here.i reach.head

-- for every such river the line is that of this reach
abbrev pub LineBy : Site → Line → Type 0
LineBy site line = (here : Here site) → LineOf here.cards here.i line

-- what its record needs too: whether the river has nitrification, and room at a place of a report of some length
pub record PlacedAt (site : Site) (nitrified : Bool) (at long : ℕ) : Type 0 where
  pub line : Here site
  pub nitrification : nitrified ≡ has_nitrification line.cards
  pub room : at + record_size line.cards ≤ long

-- for every such river the call tells this and leaves the report so
abbrev pub ReportedBy : Site → (nitrified : Bool) (at : ℕ) (before after : List ℕ) → Brought → Type 0
ReportedBy site nitrified at before after r =
    (here : PlacedAt site nitrified at (length before)) → ReachReported here.line.cards here.line.i at before after r
