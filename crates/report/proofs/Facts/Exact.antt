-- The exact recurrence as equations of fractions: each mean, the dam and each mixing times the flow that it is divided by.
use mathlib.Core.Path.{◌≡◌}
use mathlib.Core.Bool.{Bool, true, false}
use mathlib.Core.List.{[], ◌∷◌}
use Prim.Native.Nat.{ℕ, ◌+◌, ◌*◌, ◌-◌, ◌<◌}
use lib.Dec.{lit<}
use Rattle.std.specs.Prelude.{Option, Some, None}
use Rattle.decay.specs.Fraction.{Fraction, ◌≈◌, ◌≼◌, of_ℕ, ◌+ᶠ◌, -ᶠ◌, ◌-ᶠ◌, ◌*ᶠ◌, ◌÷◌}
use Rattle.decay.proofs.Algebra.{ring, ring_by, quote, ◌⋅◌, ◌&◌, none as no_equations, ≈_refl, ≈_trans, +ᶠ_cong, *ᶠ_comm, positive_whole, ÷_cancel_pos, ÷_reciprocal, floor_low, floor_high}
use Rattle.river.specs.declared.card.Dam.{Dam}
use Rattle.river.specs.declared.card.Card.{Card}
use Rattle.river.specs.declared.source.Demand.{Demand}
use Rattle.river.specs.declared.source.Source.{Source}
use Rattle.flows.specs.Flow.{Feeders, more, fed, flow_of}
use Rattle.flows.specs.Saturation.{saturation, saturation_thousandths, pressure_of, saturation_of}
use Rattle.report.specs.Recurrence.{exact_saturation, exact_mean, exact_aerated, exact_below_dam, exact_mixed_demand, exact_mixed_oxygen, exact_demand_sum, exact_oxygen_sum}
use Rattle.report.proofs.Forest.{AllAccepted, no_more, one_more}
use Rattle.report.proofs.Facts.Head.{feeders_flow, dam_part}

-- rounded saturation lies less than a unit below saturation
pub saturation_low : (card : Card) → of_ℕ (saturation_of card) ≼ exact_saturation card
unfolding saturation_of saturation exact_saturation
saturation_low card = floor_low (saturation_thousandths card.temperature * pressure_of card) (lit< tt)

pub saturation_high : (card : Card) → exact_saturation card ≼ of_ℕ (saturation_of card) +ᶠ of_ℕ 1
unfolding saturation_of saturation exact_saturation
saturation_high card = floor_high (saturation_thousandths card.temperature * pressure_of card) (lit< tt)

-- a quotient times its divisor
times : (total : Fraction) (d : ℕ) → 0 < d → of_ℕ d *ᶠ (total ÷ of_ℕ d) ≈ total
times total d p = ≈_trans (*ᶠ_comm (of_ℕ d) (total ÷ of_ℕ d)) (÷_cancel_pos total (positive_whole p))

-- a mean times Qu is the sum
mean_fed : (Qu : ℕ) (sum : Fraction) → 0 < Qu → of_ℕ Qu *ᶠ exact_mean true Qu sum ≈ sum
unfolding exact_mean
mean_fed Qu sum p = times sum Qu p

module _ (N : ℕ) where
  pub exact_demand_mean : (d : Demand) {up : Feeders} → AllAccepted up → of_ℕ (flow_of up) *ᶠ exact_mean (fed up) (flow_of up) (exact_demand_sum N d up) ≈ exact_demand_sum N d up
  unfolding fed flow_of exact_mean exact_demand_sum
  exact_demand_mean d no_more = ring [] (search quote depth 40 fits 9999) tt
  exact_demand_mean d (one_more {card} {up} {rest} own above others) =
      mean_fed (flow_of (more card up rest)) (exact_demand_sum N d (more card up rest)) (feeders_flow (one_more own above others))

  pub exact_oxygen_mean : {up : Feeders} → AllAccepted up → of_ℕ (flow_of up) *ᶠ exact_mean (fed up) (flow_of up) (exact_oxygen_sum N up) ≈ exact_oxygen_sum N up
  unfolding fed flow_of exact_mean exact_oxygen_sum
  exact_oxygen_mean no_more = ring [] (search quote depth 40 fits 9999) tt
  exact_oxygen_mean (one_more {card} {up} {rest} own above others) =
      mean_fed (flow_of (more card up rest)) (exact_oxygen_sum N (more card up rest)) (feeders_flow (one_more own above others))

-- a product over a number
pub over_product : (a b d : Fraction) → a *ᶠ b ÷ d ≈ a *ᶠ (b ÷ d)
over_product a b d =
    ring_by (a ∷ b ∷ (b ÷ d) ∷ (a *ᶠ b ÷ d) ∷ (of_ℕ 1 ÷ d) ∷ []) (of_ℕ 1 ⋅ ÷_reciprocal (a *ᶠ b) d & a ⋅ ÷_reciprocal b d & no_equations) (search quote depth 40 fits 9999) tt

-- a dam takes its part of the way to saturation
exact_aerated_lem : (dam : Option Dam) (Cs : Fraction) (Qu : ℕ) (C : Fraction) → exact_aerated dam Cs Qu C ≈ C +ᶠ (Cs -ᶠ C) *ᶠ dam_part true dam Qu
unfolding exact_aerated dam_part
exact_aerated_lem None Cs Qu C = ring (Cs ∷ C ∷ []) (search quote depth 40 fits 9999) tt
exact_aerated_lem (Some dam) Cs Qu C =
    +ᶠ_cong (≈_refl C) (over_product (Cs -ᶠ C) (of_ℕ (dam.share * (Qu - dam.generating))) (of_ℕ (1000 * Qu)))

pub exact_below_dam_lem : (card : Card) (t : Bool) (Qu : ℕ) (C : Fraction) → exact_below_dam card t Qu C ≈ C +ᶠ (exact_saturation card -ᶠ C) *ᶠ dam_part t card.dam Qu
unfolding exact_below_dam dam_part
exact_below_dam_lem card false Qu C =
    ring (exact_saturation card ∷ C ∷ []) (search quote depth 40 fits 9999) tt
exact_below_dam_lem card true Qu C = exact_aerated_lem card.dam (exact_saturation card) Qu C

-- mixing times Qm
pub exact_demand_mixed : (source : Source) (Qu : ℕ) (upstream : Fraction) {Qm : ℕ} → Qm ≡ Qu + source.inflow → 0 < Qm → of_ℕ Qm *ᶠ exact_mixed_demand source Qu upstream ≈ of_ℕ Qu *ᶠ upstream +ᶠ of_ℕ (1000 * source.inflow * source.concentration) +ᶠ of_ℕ (1000000 * source.load)
unfolding exact_mixed_demand
exact_demand_mixed source Qu upstream e p = rw e (times (of_ℕ Qu *ᶠ upstream +ᶠ of_ℕ (1000 * source.inflow * source.concentration) +ᶠ of_ℕ (1000000 * source.load)) (Qu + source.inflow) (rw e at p))

pub exact_oxygen_mixed : (card : Card) (Qu : ℕ) (upstream : Fraction) → 0 < Qu + card.inflow → of_ℕ (Qu + card.inflow) *ᶠ exact_mixed_oxygen card Qu upstream ≈ of_ℕ Qu *ᶠ upstream +ᶠ of_ℕ (1000 * card.inflow * card.inflow_oxygen)
unfolding exact_mixed_oxygen
exact_oxygen_mixed card Qu upstream p = times (of_ℕ Qu *ᶠ upstream +ᶠ of_ℕ (1000 * card.inflow * card.inflow_oxygen)) (Qu + card.inflow) p
