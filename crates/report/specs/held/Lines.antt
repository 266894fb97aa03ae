-- What the program holds between the reaches of an accepted river: what the reaches reported so far bring, and what a reach is handed of it.
-- What a function promises of a reach holds for every river and tables that what it is handed may be of.
use Rattle.std.specs.Prelude.{◌≡◌, List, ℕ, suc, ◌+◌, ◌*◌, ◌≤◌, ◌<◌, length}
use Rattle.std.proofs.lemmas.List.Edits.{sets}
use Rattle.decay.specs.held.Step.{RatesPass}
use Rattle.river.specs.declared.card.Card.{Card}
use Rattle.flows.specs.declared.flow.ReachFlows.{ReachFlows}
use Rattle.flows.specs.declared.head.Brought.{Brought}
use Rattle.flows.specs.declared.head.Head.{Head}
use Rattle.river.specs.declared.source.Demand.{Demand}
use Rattle.river.specs.Card.{Lawful}
use Rattle.river.specs.Source.{rate_of}
use Rattle.flows.specs.Saturation.{SaturationInRange}
use Rattle.river.specs.declared.source.Demand.TheVariants.{Bod, Nitrogenous}
use Rattle.flows.specs.Flow.{Flows, card_of, above, flow_at, mass_at}
use Rattle.flows.specs.held.FlowTable.{flows_by, Tabled}
use Rattle.flows.specs.held.HeadTable.{demand_limit, brought_by, brings_by, brought_by_feeders, BroughtWithin, Carried}
use Rattle.flows.specs.held.Stored.{oxygen_of, stored_of}
use Rattle.report.specs.held.Bed.{BedPasses, loss_limit}
use Rattle.report.specs.Program.{demand_at_head, oxygen_at_head, figures_at}
use Rattle.report.specs.Status.{is_used}
use Rattle.report.specs.Record.{Figures}
use Rattle.report.specs.held.LineFigures.{figures_in}
use Rattle.report.specs.Report.{record_of}
use Rattle.report.specs.declared.record.Line.{Line}

-- what the figures along a reach ask of its card and flow
pub record LineReady (card : Card) (flow : ℕ) : Type 0 where
  pub rates : (d : Demand) → RatesPass (rate_of d card) card.k2 card.volume flow
  pub saturation : SaturationInRange card
  pub bed : BedPasses card flow

-- and of its head: stored oxygen is at least the demands and what a bed may take, together
pub record HeadFits (head : Head) : Type 0 where
  pub demands : head.bod + head.nitrogenous ≤ demand_limit
  pub low : head.bod + head.nitrogenous + loss_limit ≤ head.oxygen

-- what the foot of a reach with this flow and these figures brings
abbrev pub brought_by_figures : (flow : ℕ) → Figures → Brought
brought_by_figures flow f = brought_by flow f.foot_bod f.foot_nitrogenous (stored_of f.foot_oxygen) (is_used f.status)

-- a table of what the first n reaches bring
pub record BroughtTabled (cards : List Card) (by_reach : List Brought) (n : ℕ) : Type 0 where
  pub each : (j : ℕ) → j < n → brings_by by_reach j ≡ brought_by_figures (flow_at cards (suc j)) (figures_at cards (suc j))
  pub carried : Carried cards by_reach n

-- the flows of an accepted river
pub record Ready (cards : List Card) (flows : List ReachFlows) : Type 0 where
  pub lawful : Lawful cards
  pub sound : Flows cards
  pub tabled : Tabled cards (length cards) flows

-- the line of reach i + 1: it has the figures of the reach, and its demands are at most the undecayed BOD
pub record LineOf (cards : List Card) (i : ℕ) (line : Line) : Type 0 where
  pub figures : figures_in line ≡ figures_at cards (suc i)
  pub mass : flow_at cards (suc i) * (line.head_bod + line.head_nitrogenous) ≤ 1000 * mass_at cards (suc i)

-- what a line needs: there is an accepted river with flows and what its reaches bring, one of which has this card, Qu, flow and depth and is brought
-- this
pub record LineAt (card : Card) (reach : ReachFlows) (brought : Brought) : Type 0 where
  pub cards : List Card
  pub flows : List ReachFlows
  pub by_reach : List Brought
  pub i : ℕ
  pub ready : Ready cards flows
  pub brought_tabled : BroughtTabled cards by_reach i
  pub within : i < length cards
  pub own : card ≡ card_of cards (suc i)
  pub upstream_is : reach.upstream ≡ (flows_by flows i).upstream
  pub flow_is : reach.flow ≡ (flows_by flows i).flow
  pub depth_is : reach.depth ≡ (flows_by flows i).depth
  pub brought_is : brought ≡ brought_by_feeders flows by_reach i

-- what the place of reach i + 1 in a river is known by: the river with its flows, and what the reaches before it bring
pub record ReachTables (cards : List Card) (flows : List ReachFlows) (by_reach : List Brought) (i : ℕ) : Type 0 where
  pub ready : Ready cards flows
  pub brought_tabled : BroughtTabled cards by_reach i
  pub within : i < length cards

-- the head of reach i + 1: each demand and oxygen, in the ranges that a line asks, and its demands are at most the undecayed BOD
pub record HeadOfReach (cards : List Card) (i : ℕ) (head : Head) : Type 0 where
  pub bod : head.bod ≡ demand_at_head Bod (card_of cards (suc i)) (above cards (suc i))
  pub nitrogenous : head.nitrogenous ≡ demand_at_head Nitrogenous (card_of cards (suc i)) (above cards (suc i))
  pub oxygen : oxygen_of head.oxygen ≡ oxygen_at_head (card_of cards (suc i)) (above cards (suc i))
  pub fits : HeadFits head
  pub mass : flow_at cards (suc i) * (head.bod + head.nitrogenous) ≤ 1000 * mass_at cards (suc i)

-- what reach i + 1 hands on: what its foot brings, in bounds
pub record HandsOn (cards : List Card) (i : ℕ) (brought : Brought) : Type 0 where
  pub brings : brought ≡ brought_by_figures (flow_at cards (suc i)) (figures_at cards (suc i))
  pub within : BroughtWithin cards i brought

-- that, and the report with its record at a place
pub record ReachReported (cards : List Card) (i at : ℕ) (before after : List ℕ) (r : Brought) : Type 0 where
  pub hands_on : HandsOn cards i r
  pub report : after ≡ sets before at (record_of cards i)
