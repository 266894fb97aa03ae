-- What a take leaves of a reach that passes the flow rules: flow and undecayed BOD after it, and that the undecayed BOD falls by no larger
-- a part than the flow does, so that what is bounded before the take is bounded after it.
use Prim.Native.Nat.{ℕ, ◌+◌, ◌-◌, ◌*◌, ◌/◌, ◌<◌, ◌≤◌, min}
use mathlib.Core.Path.{◌≡◌}
use native.Mathlib.Decide.{dec_le}
use native.Mathlib.Nat.{le_trans, min-eq_left, min-eq_right, mul-div-le, mul-le-mul_left, le_of_mul-le-mul_left}
use native.Mathlib.Omega.{arith}
use Rattle.river.specs.declared.card.Card.{Card}
use Rattle.flows.specs.Flow.{flow_limit, mass_limit, Feeders, take_of, mixed_flow, reach_flow, remaining_mass, mixed_mass, reach_mass, ReachPasses}

-- what holds of both numbers holds of the smaller
by_min : (P : ℕ → Type 0) (a b : ℕ) → P a → P b → P (min a b)
by_min P a b p q = go (dec_le a b)
  where
    go : Dec (a ≤ b) → P (min a b)
    go (yes h) = rw (min-eq_left h) p
    go (no h) = let k : b ≤ a = omega arith in rw (min-eq_right k) q

-- where d remains of M after a take that draws w for each litre a second, and r of the flow, d is no smaller a part than r
share_remains : (r take w d : ℕ) → (r + take) * w ≤ d + take * w → r * (d + take * w) ≤ (r + take) * d
share_remains r take w d h =
    let k : r * w ≤ d = omega arith in
    omega (arith, mul-le-mul_left take k)

-- the part of Mm that a take leaves is no smaller than that of Qm
pub remaining_scaled : (take Qm Mm : ℕ) → take < Qm → Mm ≤ mass_limit * Qm → (Qm - take) * Mm ≤ Qm * remaining_mass take Qm Mm
remaining_scaled take Qm Mm l h = by_min (λ m. (Qm - take) * Mm ≤ Qm * m) _ _ fallen cut
  where
    flow : Qm - take + take ≡ Qm
    flow = omega arith

    mass : Mm - take * (Mm / Qm) + take * (Mm / Qm) ≡ Mm
    mass = omega (arith, mul-div-le Mm Qm, mul-le-mul_left (Mm / Qm) (let k : take ≤ Qm = omega arith in k))

    fallen : (Qm - take) * Mm ≤ Qm * (Mm - take * (Mm / Qm))
    fallen =
        rw (flow, mass) at (share_remains (Qm - take) take (Mm / Qm) (Mm - take * (Mm / Qm)) (rw (flow, mass) (mul-div-le Mm Qm)))

    cut : (Qm - take) * Mm ≤ Qm * (mass_limit * (Qm - take))
    cut = omega (arith, mul-le-mul_left (Qm - take) h)

-- so a value that Mm bounds before the take is bounded by M after it, where r remains of the flow
pub still_within : (Qm r Mm remaining k b : ℕ) → 0 < Qm → r * Mm ≤ Qm * remaining → Qm * b ≤ k * Mm → r * b ≤ k * remaining
still_within Qm r Mm remaining k b p h e =
    le_of_mul-le-mul_left (omega (arith, mul-le-mul_left k h, mul-le-mul_left r e)) p

-- THEOREM: without a take, and with a take of 0, flow and undecayed BOD of a reach that passes stay as they are
pub nothing_taken : {card : Card} {up : Feeders} → ReachPasses card up → take_of card ≡ 0 → (reach_flow card up ≡ mixed_flow card up) × (reach_mass card up ≡ mixed_mass card up)
nothing_taken s e = (omega arith, rw e (omega (arith, s.mass_rule)))

module _ {card : Card} {up : Feeders} (s : ReachPasses card up) where
  -- Q after the take
  pub flow_remains : 0 < reach_flow card up
  flow_remains = omega (arith, s.take_rule)

  pub flow_within : reach_flow card up ≤ flow_limit
  flow_within = omega (arith, s.bounded)

  pub flow_and_take : reach_flow card up + take_of card ≡ mixed_flow card up
  flow_and_take = omega (arith, s.take_rule)

  -- M before the take, and after it
  pub mixed_bounded : mixed_mass card up ≤ mass_limit * flow_limit
  mixed_bounded = le_trans s.mass_rule (mul-le-mul_left mass_limit s.bounded)

  pub mass_within : reach_mass card up ≤ mass_limit * reach_flow card up
  mass_within = omega arith

  pub mass_bounded : reach_mass card up ≤ mass_limit * flow_limit
  mass_bounded = le_trans mass_within (mul-le-mul_left mass_limit flow_within)

  pub mass_scaled : reach_flow card up * mixed_mass card up ≤ mixed_flow card up * reach_mass card up
  mass_scaled = remaining_scaled (take_of card) (mixed_flow card up) (mixed_mass card up) s.take_rule s.mass_rule
