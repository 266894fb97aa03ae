-- The allowance by water is at most that by depth: a mean weighed by flow is at most the largest of its values, and inflow water,
-- which counts as zero, only lowers it.
use mathlib.Core.List.{[], ◌∷◌}
use Prim.Native.Nat.{ℕ, ◌+◌, ◌*◌, ◌≤◌, max}
use native.Mathlib.Nat.{le-max_left, le-max_right, mul-le-mul_left}
use native.Mathlib.Omega.{arith}
use Rattle.decay.specs.Fraction.{◌≼◌, of_ℕ, ◌*ᶠ◌}
use Rattle.decay.proofs.Algebra.{quote, certify, slack, number, ◌⊞◌, ◌⊠◌, ÷_le, positive_whole, of_ℕ_mono}
use Rattle.river.specs.declared.card.Card.{Card}
use Rattle.flows.specs.Flow.{Feeders, flow_of, reach_flow, deepest}
use Rattle.report.specs.Distance.{allowance}
use Rattle.report.specs.held.Water.{mean_allowance, allowance_sum, brought_allowance, water_allowance}
use Rattle.report.proofs.Forest.{AcceptedReach, AllAccepted, no_more, one_more}

-- two waters together
joined : (Q R d e u : ℕ) → Q * (u * d + u) + R * (u * e) ≤ (Q + R) * (u * max (1 + d) e)
joined Q R d e u =
    omega (arith, mul-le-mul_left (Q * u) (le-max_left (1 + d) e), mul-le-mul_left (R * u) (le-max_right (1 + d) e))

module _ (units : ℕ) where
  mean_by_depth : {card : Card} {up : Feeders} → AcceptedReach card up → allowance_sum units up ≼ of_ℕ (flow_of up) *ᶠ of_ℕ (units * deepest up) → brought_allowance units card up ≼ of_ℕ (units * deepest up)
  unfolding brought_allowance mean_allowance
  mean_by_depth {card} {up} own h =
      ÷_le (positive_whole own.flows.flowing)
      (certify (allowance_sum units up ∷ of_ℕ (flow_of up) ∷ of_ℕ card.inflow ∷ of_ℕ units ∷ of_ℕ (deepest up) ∷ []) (slack h ⊞ number card.inflow ⊠ number (units * deepest up)) (search quote depth 40 fits 9999) tt)

  sum_by_depth : {up : Feeders} → AllAccepted up → allowance_sum units up ≼ of_ℕ (flow_of up) *ᶠ of_ℕ (units * deepest up)
  unfolding allowance_sum brought_allowance flow_of deepest
  sum_by_depth no_more = certify (of_ℕ units ∷ []) (number 0) (search quote depth 40 fits 9999) tt
  sum_by_depth (one_more {card} {up} {rest} own above others) =
      let Q = reach_flow card up in
      let most = max (1 + deepest up) (deepest rest) in
      certify (of_ℕ Q ∷ of_ℕ (flow_of rest) ∷ of_ℕ units ∷ of_ℕ (deepest up) ∷ of_ℕ (deepest rest) ∷ of_ℕ most ∷ mean_allowance card (flow_of up) (allowance_sum units up) ∷ allowance_sum units rest ∷ [])
      (number Q ⊠ slack (mean_by_depth own (sum_by_depth above)) ⊞ slack (sum_by_depth others) ⊞ slack (of_ℕ_mono (joined Q (flow_of rest) (deepest up) (deepest rest) units))) (search quote depth 40 fits 9999) tt

  -- what is brought to a reach
  pub brought_by_depth : {card : Card} {up : Feeders} → AcceptedReach card up → AllAccepted up → brought_allowance units card up ≼ of_ℕ (units * deepest up)
  brought_by_depth own above = mean_by_depth own (sum_by_depth above)

  -- THEOREM: the allowance of a reach by water is at most that by depth
  pub water_by_depth : {card : Card} {up : Feeders} → AcceptedReach card up → AllAccepted up → water_allowance units card up ≼ allowance units up
  water_by_depth {card} {up} own above =
      certify (brought_allowance units card up ∷ of_ℕ units ∷ of_ℕ (deepest up) ∷ []) (slack (brought_by_depth own above)) (search quote depth 40 fits 9999) tt
