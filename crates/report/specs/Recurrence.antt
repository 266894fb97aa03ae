-- The exact recurrence of the river file paper at the series length N: the steps of a head and the formulas along a reach, with
-- nothing rounded, saturation included. The rates of a card are those in force, rounded as specs/Rates of river has them. A feeder's foot is the
-- feeder's exact foot. Concentrations are in units.
use Rattle.std.specs.Prelude.{Option, Some, None, Bool, true, false, cond, ℕ, ◌+◌, ◌*◌, ◌-◌, eqb}
use Rattle.decay.specs.Fraction.{Fraction, of_ℕ, ◌+ᶠ◌, ◌-ᶠ◌, ◌*ᶠ◌, ◌÷◌}
use Rattle.decay.specs.Exact.{foot, exponent, S, F}
use Rattle.river.specs.declared.card.Dam.{Dam}
use Rattle.river.specs.declared.card.Card.{Card}
use Rattle.river.specs.declared.source.Source.{Source}
use Rattle.flows.specs.Flow.{Feeders, none, more, fed, flow_of, reach_flow, sludge_of}
use Rattle.flows.specs.Saturation.{saturation_thousandths, standard_pressure, pressure_of}
use Rattle.river.specs.declared.source.Demand.{Demand}
use Rattle.river.specs.declared.source.Demand.TheVariants.{Bod, Nitrogenous}
use Rattle.river.specs.Source.{source_of, rate_of}

-- saturation of a reach, at its own temperature and pressure, unrounded
unfoldable pub exact_saturation : Card → Fraction
exact_saturation card = of_ℕ (saturation_thousandths card.temperature * pressure_of card) ÷ of_ℕ (1_000 * standard_pressure)

-- 1. an upstream demand or oxygen: the flow-weighted mean of the feeders' exact foot values, 0 without feeders
unfoldable pub exact_mean : (fed : Bool) (Qu : ℕ) (sum : Fraction) → Fraction
exact_mean false Qu sum = of_ℕ 0
exact_mean true Qu sum = sum ÷ of_ℕ Qu

-- 2. oxygen C below a dam
unfoldable pub exact_aerated : Option Dam → (Cs : Fraction) (Qu : ℕ) (C : Fraction) → Fraction
exact_aerated None Cs Qu C = C
exact_aerated (Some dam) Cs Qu C =
    C +ᶠ (Cs -ᶠ C) *ᶠ of_ℕ (dam.share * (Qu - dam.generating)) ÷ of_ℕ (1_000 * Qu)

-- 2. the dam of a reach, skipped without feeders
unfoldable pub exact_below_dam : Card → (fed : Bool) (Qu : ℕ) (C : Fraction) → Fraction
exact_below_dam card false Qu C = C
exact_below_dam card true Qu C = exact_aerated card.dam (exact_saturation card) Qu C

-- 3. mixing with inflow and load, divided by Qm = Qu + inflow, the flow before the take; 4. the take changes neither figure
unfoldable pub exact_mixed_demand : Source → (Qu : ℕ) (upstream : Fraction) → Fraction
exact_mixed_demand source Qu upstream =
    (of_ℕ Qu *ᶠ upstream +ᶠ of_ℕ (1_000 * source.inflow * source.concentration) +ᶠ of_ℕ (1_000_000 * source.load)) ÷ of_ℕ (Qu + source.inflow)

unfoldable pub exact_mixed_oxygen : Card → (Qu : ℕ) (upstream : Fraction) → Fraction
exact_mixed_oxygen card Qu upstream =
    (of_ℕ Qu *ᶠ upstream +ᶠ of_ℕ (1_000 * card.inflow * card.inflow_oxygen)) ÷ of_ℕ (Qu + card.inflow)

-- a demand at the head of a reach, by its source, whether there are feeders, Qu, and the feeders' sum of Q × exact foot value
unfoldable pub exact_head_demand : Source → (fed : Bool) (Qu : ℕ) (sum : Fraction) → Fraction
exact_head_demand source fed Qu sum = exact_mixed_demand source Qu (exact_mean fed Qu sum)

-- oxygen at the head of a reach, by its card, whether it has feeders, Qu, and the feeders' sum of Q × exact foot oxygen
unfoldable pub exact_head_oxygen : Card → (fed : Bool) (Qu : ℕ) (sum : Fraction) → Fraction
exact_head_oxygen card fed Qu sum = exact_mixed_oxygen card Qu (exact_below_dam card fed Qu (exact_mean fed Qu sum))

-- the recurrence, at one N throughout
module _ (N : ℕ) where
  -- A demand of rate k, k1 for BOD or that of nitrification, along a reach with flow Q, which is that after the take. At instant m its
  -- exponent x is from k, volume and Q, and of its head value L there is left L × S(x); F × L has turned to deficit.
  unfoldable pub exact_demand_along : Demand → Card → (Q : ℕ) (L : Fraction) (m : ℕ) → Fraction
  exact_demand_along d card Q L m = L *ᶠ S N (exponent (rate_of d card) card.volume Q m)

  unfoldable pub exact_turned_along : Demand → Card → (Q : ℕ) (L : Fraction) (m : ℕ) → Fraction
  exact_turned_along d card Q L m = F N (rate_of d card) card.k2 card.volume Q m *ᶠ L

  -- B, the oxygen lost to the sludge bed at instant m: demand × (1 − S(x2)) / k2 mg/L, and if k2 is 0 demand × volume / (86,400 × Q) mg/L, the
  -- volume times m / 1024; 1,000,000 units are a mg/L
  unfoldable pub exact_loss : Card → (Q m : ℕ) → Fraction
  exact_loss card Q m =
      let demand = sludge_of card in
      let x2 = exponent card.k2 card.volume Q m in
      of_ℕ 1_000_000 *ᶠ
      cond (eqb card.k2 0) (of_ℕ (demand * card.volume * m) ÷ of_ℕ (86_400 * 1_024 * Q)) (of_ℕ demand *ᶠ (of_ℕ 1 -ᶠ S N x2) ÷ of_ℕ card.k2)

  -- oxygen at instant m, with head BOD L, head nitrogenous BOD Ln and head oxygen C: Cs − F × L − F × Ln − S(x2) × (Cs − C) − B, each F by
  -- the rate of its demand
  unfoldable pub exact_oxygen_along : Card → (Q : ℕ) (L Ln C : Fraction) (m : ℕ) → Fraction
  exact_oxygen_along card Q L Ln C m =
      let Cs = exact_saturation card in
      let x2 = exponent card.k2 card.volume Q m in
      Cs -ᶠ exact_turned_along Bod card Q L m -ᶠ exact_turned_along Nitrogenous card Q Ln m -ᶠ S N x2 *ᶠ (Cs -ᶠ C) -ᶠ exact_loss card Q m

  -- the sum over the feeders of Q × exact foot value of a demand
  unfoldable pub exact_demand_sum : Demand → Feeders → Fraction
  exact_demand_sum d none = of_ℕ 0
  exact_demand_sum d (more card up rest) =
      let Q = reach_flow card up in
      let L = exact_head_demand (source_of d card) (fed up) (flow_of up) (exact_demand_sum d up) in
      of_ℕ Q *ᶠ exact_demand_along d card Q L foot +ᶠ exact_demand_sum d rest

  -- an exact demand at the head of a reach
  unfoldable pub exact_demand_at_head : Demand → Card → Feeders → Fraction
  exact_demand_at_head d card up = exact_head_demand (source_of d card) (fed up) (flow_of up) (exact_demand_sum d up)

  -- the sum over the feeders of Q × exact foot oxygen
  unfoldable pub exact_oxygen_sum : Feeders → Fraction
  exact_oxygen_sum none = of_ℕ 0
  exact_oxygen_sum (more card up rest) =
      let Q = reach_flow card up in
      let C = exact_head_oxygen card (fed up) (flow_of up) (exact_oxygen_sum up) in
      of_ℕ Q *ᶠ exact_oxygen_along card Q (exact_demand_at_head Bod card up) (exact_demand_at_head Nitrogenous card up) C foot +ᶠ exact_oxygen_sum rest

  -- exact oxygen at the head of a reach
  unfoldable pub exact_oxygen_at_head : Card → Feeders → Fraction
  exact_oxygen_at_head card up = exact_head_oxygen card (fed up) (flow_of up) (exact_oxygen_sum up)

  -- an exact demand and exact oxygen at instant m of a reach
  unfoldable pub exact_demand_at : Demand → Card → Feeders → ℕ → Fraction
  exact_demand_at d card up m = exact_demand_along d card (reach_flow card up) (exact_demand_at_head d card up) m

  unfoldable pub exact_oxygen_at : Card → Feeders → ℕ → Fraction
  exact_oxygen_at card up m =
      exact_oxygen_along card (reach_flow card up) (exact_demand_at_head Bod card up) (exact_demand_at_head Nitrogenous card up) (exact_oxygen_at_head card up) m
