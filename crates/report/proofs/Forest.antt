-- What an accepted river gives for every reach of the forest above a reach: its card lies in range and passes the flow check.
use mathlib.Core.Bool.{Bool, true, false}
use mathlib.Core.List.{List}
use Prim.Native.Nat.{ℕ, zero, suc, ◌*◌, ◌≤◌, ◌<◌, zero-le}
use native.Mathlib.Omega.{arith}
use lib.ListN.{length, get_or}
use lib.Dec.{eqb}
use Rattle.std.specs.Prelude.{Option, Some, None}
use Rattle.decay.specs.held.Step.{RatesPass}
use Rattle.river.specs.declared.card.Card.{Card}
use Rattle.river.specs.Described.{InRange}
use Rattle.river.specs.Records.{DM, SD}
use Rattle.river.specs.Card.{FieldsInRange, amount_or, Lawful, blank}
use Rattle.river.specs.declared.source.Demand.{Demand}
use Rattle.river.specs.declared.source.Demand.TheVariants.{Bod, Nitrogenous}
use Rattle.river.specs.Source.{rate_of}
use Rattle.flows.specs.Saturation.{SaturationInRange}
use Rattle.river.proofs.range.Ranges.{regular_sludge, asked_at}
use Rattle.river.proofs.source.Ranges.{rate_small}
use Rattle.flows.proofs.head.Bounds.{conditions_in_range}
use Rattle.flows.proofs.flow.Table.{deepest_few}
use Rattle.flows.proofs.flow.Take.{flow_remains, flow_within}
use Rattle.flows.specs.Flow.{Feeders, none, more, joined_if, feeders_among, rate_limit, sludge_of, reach_flow, reach_depth, ReachPasses, Flows}
use Rattle.report.specs.held.Bed.{BedPasses}

-- an accepted reach: its fields lie in range, and it passes the flow check
pub record AcceptedReach (card : Card) (up : Feeders) : Type 0 where
  pub fields : FieldsInRange card
  pub saturation : SaturationInRange card
  pub dam : InRange DM card.dam
  pub sludge : sludge_of card ≤ 65_535
  pub flows : ReachPasses card up

-- check 11 passes the rate of each demand
demand_rule : {card : Card} {up : Feeders} → ReachPasses card up → (d : Demand) → rate_of d card * card.volume ≤ rate_limit * reach_flow card up
demand_rule p Bod = p.decay_rule
demand_rule p Nitrogenous = p.nitrification_rule

-- and so the promise of the factors holds for each demand
pub rates_pass : {card : Card} {up : Feeders} → AcceptedReach card up → (d : Demand) → RatesPass (rate_of d card) card.k2 card.volume (reach_flow card up)
rates_pass a d =
    record {
      k1_range = rate_small a.flows.range_rule d;
      k2_range = a.flows.range_rule.k2;
      volume_range = a.fields.volume;
      flow_above = flow_remains a.flows;
      flow_below = flow_within a.flows;
      k1_short = demand_rule a.flows d;
      k2_short = a.flows.aeration_rule;
    }

-- and its bed passes check 14
pub bed_passes : {card : Card} {up : Feeders} → AcceptedReach card up → BedPasses card (reach_flow card up)
bed_passes a = record { sludge = a.sludge; rule = a.flows.bed_rule }

-- every reach of a forest is accepted
pub data AllAccepted : Feeders → Type 0 where
  no_more : AllAccepted none
  one_more : {card : Card} {up rest : Feeders} → AcceptedReach card up → AllAccepted up → AllAccepted rest → AllAccepted (more card up rest)

joined_accepted : (t : Bool) (card : Card) (up rest : Feeders) → AcceptedReach card up → AllAccepted up → AllAccepted rest → AllAccepted (joined_if t card up rest)
unfolding joined_if
joined_accepted true card up rest own water others = one_more own water others
joined_accepted false card up rest own water others = others

-- a lawful bed's demand has two bytes
demand_small : (a : Option ℕ) → InRange SD a → amount_or 0 a ≤ 65_535
demand_small None h = zero-le
demand_small (Some n) h = h.0.most

-- a river: lawful cards whose flows pass
module _ (cards : List Card) (lawful : Lawful cards) (flows : Flows cards) where
  -- every reach of a river is accepted
  pub reach_accepted : (n : ℕ) → n < length cards → AcceptedReach (get_or cards n blank) (feeders_among cards n (suc n))
  reach_accepted n l =
      let own = (asked_at lawful n l).regular in
      record {
        fields = own.in_range;
        saturation = conditions_in_range own;
        dam = own.dam;
        sludge = demand_small (get_or cards n blank).optionals.sludge (regular_sludge own.optionals);
        flows = flows.each n l;
      }

  -- and so is every reach above it
  pub above_accepted : (n i : ℕ) → n ≤ length cards → AllAccepted (feeders_among cards n i)
  unfolding feeders_among
  above_accepted zero i l = no_more
  above_accepted (suc n) i l =
      joined_accepted (eqb (get_or cards n blank).outlet i) (get_or cards n blank) (feeders_among cards n (suc n)) (feeders_among cards n i) (reach_accepted n l) (above_accepted n (suc n) (omega arith)) (above_accepted n i (omega arith))

  -- no reach is deeper than there are reaches
  pub reach_shallow : (n : ℕ) → n < length cards → reach_depth (feeders_among cards n (suc n)) ≤ 128
  reach_shallow n l = omega (arith, deepest_few cards n (suc n), lawful.few)
