-- "Mean oxygen" of the river file paper, exact at the series length N: the oxygen formula is integrated term by term along the reach, and divided by
-- the travel time. The formula as a sum of powers of the time has the words of specs/Recurrence, with the terms of S and F for S and F.
use Rattle.std.specs.Prelude.{◌≡◌, cond, ℕ, suc, ◌*◌, eqb}
use Rattle.decay.specs.Fraction.{Fraction, of_ℕ, ◌-ᶠ◌, ◌*ᶠ◌, ◌÷◌, ◌≈◌}
use Rattle.decay.specs.Exact.{steps, foot, exponent}
use Rattle.decay.specs.Integral.{value_at, integral, IntegralOf, mean_of, constant, times_time, series_terms, share_terms, all_terms}
use Rattle.river.specs.declared.card.Card.{Card}
use Rattle.river.specs.declared.source.Demand.TheVariants.{Bod, Nitrogenous}
use Rattle.river.specs.Source.{rate_of}
use Rattle.flows.specs.Flow.{Feeders, reach_flow, sludge_of}
use Rattle.report.specs.Recurrence.{exact_saturation, exact_demand_at_head, exact_oxygen_at_head, exact_oxygen_at}

module _ (N : ℕ) where
  -- B, the oxygen lost to the sludge bed: demand × (1 − S(x2)) / k2 mg/L, and if k2 is 0 demand × volume / (86,400 × Q) mg/L at the foot, which it
  -- reaches in equal steps; 1,000,000 units are a mg/L
  unfoldable pub loss_terms : Card → (Q : ℕ) → ℕ → Fraction
  loss_terms card Q j =
      let demand = sludge_of card in
      let y2 = exponent card.k2 card.volume Q 1 in
      of_ℕ 1_000_000 *ᶠ
      cond (eqb card.k2 0) (times_time (constant (of_ℕ (demand * card.volume) ÷ of_ℕ (86_400 * 1_024 * Q))) j) (of_ℕ demand *ᶠ (constant (of_ℕ 1) j -ᶠ series_terms N y2 j) ÷ of_ℕ card.k2)

  -- oxygen: Cs − F × L − F × Ln − S(x2) × (Cs − C) − B, each F by the rate of its demand
  unfoldable pub oxygen_terms : Card → (Q : ℕ) (L Ln C : Fraction) → ℕ → Fraction
  oxygen_terms card Q L Ln C j =
      let Cs = exact_saturation card in
      let y2 = exponent card.k2 card.volume Q 1 in
      constant Cs j -ᶠ share_terms N (rate_of Bod card) card.k2 card.volume Q j *ᶠ L -ᶠ share_terms N (rate_of Nitrogenous card) card.k2 card.volume Q j *ᶠ Ln -ᶠ
      series_terms N y2 j *ᶠ (Cs -ᶠ C) -ᶠ loss_terms card Q j

  -- exact mean oxygen along a reach with flow Q, head BOD L, head nitrogenous BOD Ln and head oxygen C, and the head value for volume 0
  unfoldable pub exact_mean_oxygen_along : Card → (Q : ℕ) (L Ln C : Fraction) → Fraction
  exact_mean_oxygen_along card Q L Ln C = cond (eqb card.volume 0) C (mean_of (all_terms N) (oxygen_terms card Q L Ln C))

  -- the formula at a reach
  abbrev pub oxygen_terms_at : Card → Feeders → ℕ → Fraction
  oxygen_terms_at card up =
      oxygen_terms card (reach_flow card up) (exact_demand_at_head N Bod card up) (exact_demand_at_head N Nitrogenous card up) (exact_oxygen_at_head N card up)

  -- exact mean oxygen of a reach
  unfoldable pub exact_mean_oxygen : Card → Feeders → Fraction
  exact_mean_oxygen card up =
      exact_mean_oxygen_along card (reach_flow card up) (exact_demand_at_head N Bod card up) (exact_demand_at_head N Nitrogenous card up) (exact_oxygen_at_head N card up)

-- What makes it the mean: the terms have the value of the oxygen formula at every whole time, which leaves no other sum of powers; their integral is 0 at the head and has them for its
-- derivative, and the mean is what the integral comes to at the foot, divided by the travel time of 1,024 instants; and the head value for volume 0.
pub record IsMean (N : ℕ) (card : Card) (up : Feeders) : Type 0 where
  pub formula : (m : ℕ) → value_at (all_terms N) (oxygen_terms_at N card up) (of_ℕ m) ≈ exact_oxygen_at N card up m
  pub integrated : IntegralOf (oxygen_terms_at N card up) (integral (oxygen_terms_at N card up))
  pub mean :
      (card.volume ≡ 0 → ⊥) →
      exact_mean_oxygen N card up ≈ value_at (suc (all_terms N)) (integral (oxygen_terms_at N card up)) (of_ℕ foot) ÷ of_ℕ steps
  pub still : card.volume ≡ 0 → exact_mean_oxygen N card up ≈ exact_oxygen_at_head N card up
