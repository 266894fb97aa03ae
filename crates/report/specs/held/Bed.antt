-- The sludge bed of a reach as the program reckons it, in units: two numbers, from the card and the flow, and the loss of oxygen at each instant.
use Rattle.std.specs.Prelude.{Bool, true, false, ℕ, ◌+◌, ◌*◌, ◌-◌, ◌/◌, ◌≤◌, eqb}
use Rattle.decay.specs.Exact.{steps, foot}
use Rattle.decay.specs.Fixed.{one, product}
use Rattle.decay.specs.held.Digits.{small}
use Rattle.decay.specs.declared.step.Step.{Step}
use Rattle.decay.specs.declared.factors.Factors.{Factors}
use Rattle.river.specs.declared.card.Card.{Card}
use Rattle.flows.specs.Flow.{sludge_of, bed_limit}
use Rattle.report.specs.declared.bed.Bed.{Bed}

-- The bed of a reach by whether it is without aeration, k2, demand, volume and flow Q. Without aeration its loss is demand × volume / (86,400 × Q) mg/L
-- at the foot, and 1,000,000 / 86,400 is 625 / 54; with aeration its loss comes to 1,000,000 × demand / k2 in the end. Each is rounded down.
unfoldable pub bed_by : (still : Bool) (k2 demand volume Q : ℕ) → Bed
bed_by true k2 demand volume Q = record { eventual = 0; linear = demand * volume * 625 / (54 * Q) }
bed_by false k2 demand volume Q = record { eventual = 1_000_000 * demand / k2; linear = 0 }

-- the bed of a reach with flow Q
unfoldable pub bed_of : Card → (Q : ℕ) → Bed
bed_of card Q = bed_by (eqb card.k2 0) card.k2 (sludge_of card) card.volume Q

-- no bed, or one that takes nothing
abbrev pub no_bed : Bed
no_bed = record { eventual = 0; linear = 0 }

-- the oxygen lost to a bed at instant m, where these factors hold: of the loss in the end the share that the head's deficit has lost too, or
-- m / 1024 of the loss at the foot; each rounded down
unfoldable pub loss_with : Factors → Bed → (m : ℕ) → ℕ
loss_with f bed m = product (one - f.kept) bed.eventual + bed.linear * m / steps

-- what is asked of a reach's card and flow: the demand has two bytes, and check 14 passes
pub record BedPasses (card : Card) (Q : ℕ) : Type 0 where
  pub sludge : sludge_of card ≤ 65_535
  pub rule : sludge_of card * card.volume ≤ bed_limit * Q

-- the most units that check 14 lets a bed take: 432,000 × 1,000,000 / 86,400
abbrev pub loss_limit : ℕ
loss_limit = 5_000_000

-- at instant m, where these factors hold, a bed takes no more than that
pub record LossInRange (f : Factors) (bed : Bed) (m : ℕ) : Type 0 where
  pub eventual : bed.eventual ≤ small
  pub linear : bed.linear ≤ loss_limit
  pub instant : m ≤ foot
  pub loss : loss_with f bed m ≤ loss_limit

-- at no instant of a reach with this step does a bed take more
pub record BedInRange (step : Step) (bed : Bed) : Type 0 where
  pub eventual : bed.eventual ≤ small
  pub loss : steps * step.filled * bed.eventual + one * bed.linear ≤ one * loss_limit
