-- The allowance that the proof carries down the river: by water, which is at most that by depth.
use Rattle.std.specs.Prelude.{ℕ, ◌+◌}
use Rattle.decay.specs.Fraction.{Fraction, of_ℕ, ◌+ᶠ◌, ◌*ᶠ◌, ◌÷◌}
use Rattle.river.specs.declared.card.Card.{Card}
use Rattle.flows.specs.Flow.{Feeders, none, more, flow_of, reach_flow}

-- the mean of the feeders' allowances, weighed by flow, inflow water counting as zero; sum is that of Q × allowance, each after the feeder's
-- own take, and is divided by Qm = Qu + inflow, the flow before the reach's own
unfoldable pub mean_allowance : Card → (Qu : ℕ) (sum : Fraction) → Fraction
mean_allowance card Qu sum = sum ÷ of_ℕ (Qu + card.inflow)

module _ (units : ℕ) where
  -- the sum over the feeders of Q × allowance
  unfoldable pub allowance_sum : Feeders → Fraction
  allowance_sum none = of_ℕ 0
  allowance_sum (more card up rest) =
      of_ℕ (reach_flow card up) *ᶠ (of_ℕ units +ᶠ mean_allowance card (flow_of up) (allowance_sum up)) +ᶠ allowance_sum rest

  -- the mean that is brought to a reach, and its allowance by water: its own units and that mean
  unfoldable pub brought_allowance : Card → Feeders → Fraction
  brought_allowance card up = mean_allowance card (flow_of up) (allowance_sum up)

  abbrev pub water_allowance : Card → Feeders → Fraction
  water_allowance card up = of_ℕ units +ᶠ brought_allowance card up
