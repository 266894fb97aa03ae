-- The shares of one step, 1/1024 of a reach's travel time: BOD lost, BOD spent and deficit filled.
use Rattle.std.specs.Prelude.{ℕ, zero, suc, ◌+◌, ◌*◌, ◌/◌, ◌≤◌}
use Rattle.decay.specs.Fixed.{quotient}
use Rattle.decay.specs.declared.step.Step.{Step}
use Rattle.decay.specs.Series.{term_at, with_term, most_terms, series_of}

-- a reach's rates, volume and flow are in range and pass check 11
pub record RatesPass (k1 k2 volume flow : ℕ) : Type 0 where
  pub k1_range : k1 ≤ 20_000
  pub k2_range : k2 ≤ 20_000
  pub volume_range : volume ≤ 1_000_000_000
  pub flow_above : 1 ≤ flow
  pub flow_below : flow ≤ 100_000_000
  pub k1_short : k1 * volume ≤ 345_600 * flow
  pub k2_short : k2 * volume ≤ 345_600 * flow

-- the exponent x of one step at the rate k: k * volume / (86,400 * 1,024 * flow), as a share of one
unfoldable pub exponent_of : ℕ → ℕ → ℕ → ℕ
exponent_of k volume flow = quotient (k * volume) (88_473_600 * flow)

-- the shares of one step: lost stands for 1 - S(x1), spent for F, filled for 1 - S(x2)
unfoldable pub step_of : (k1 k2 volume flow : ℕ) → Step
step_of k1 k2 volume flow =
    let y = exponent_of k1 volume flow in
    let z = exponent_of k2 volume flow in
    record { lost = (series_of y 0).sum; spent = (series_of y z).sum; filled = (series_of z 0).sum }

-- the mean of a series over a step, n terms of it: term j grows with the time to the power j, so that its mean is the term divided by j + 1, rounded down
unfoldable pub mean_sum_of : (y z n : ℕ) → ℕ
mean_sum_of y z zero = 0
mean_sum_of y z (suc i) = with_term (mean_sum_of y z i) (term_at y z i / (i + 2)) i

-- the means over one step of these shares: of what is lost, spent and filled from its head up to each moment of it
unfoldable pub mean_step_of : (k1 k2 volume flow : ℕ) → Step
mean_step_of k1 k2 volume flow =
    let y = exponent_of k1 volume flow in
    let z = exponent_of k2 volume flow in
    record { lost = mean_sum_of y 0 most_terms; spent = mean_sum_of y z most_terms; filled = mean_sum_of z 0 most_terms }
