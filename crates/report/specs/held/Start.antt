-- What a reach may start with.
use Rattle.std.specs.Prelude.{ℕ, ◌+◌, ◌≤◌, ◌<◌}
use Rattle.flows.specs.held.HeadTable.{demand_limit}
use Rattle.report.specs.held.Bed.{loss_limit}

-- the ranges in which no number of a reach leaves four bytes; stored oxygen is at least the demands and what a bed may take, together
pub record StartInRange (bod nitrogenous oxygen saturation : ℕ) : Type 0 where
  pub demands : bod + nitrogenous ≤ demand_limit
  pub low : bod + nitrogenous + loss_limit ≤ oxygen
  pub high : oxygen < 4_294_967_296
  pub saturated : saturation ≤ 1_000_000_000
