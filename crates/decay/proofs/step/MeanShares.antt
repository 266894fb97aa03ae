-- Laws of the means over a step: the sum has no difference below zero, no more BOD is spent than lost, and no more deficit filled than in the
-- whole step. Assumes nothing.
use mathlib.Core.Path.{◌≡◌}
use Prim.Native.Nat.{ℕ, zero, suc, ◌+◌, ◌*◌, ◌/◌, ◌≤◌, ◌<◌, zero-le}
use native.Mathlib.Nat.{le_trans, mul-le-mul_right}
use native.Mathlib.Numerals.{add-one}
use native.Mathlib.Omega.{arith}
use Rattle.decay.specs.Fixed.{product}
use Rattle.decay.specs.held.Digits.{small}
use Rattle.decay.specs.held.Step.{RatesPass, exponent_of, mean_sum_of, step_of, mean_step_of}
use Rattle.decay.specs.Series.{term_of, next_terms, terms_at, term_at, with_term, most_terms, series_of}
use Rattle.decay.specs.held.Factors.{SoundStep}
use Rattle.decay.proofs.step.Shares.{first_term, term_alone, terms_fall, series_sum, exponent_small, step_sound, step_loses_nothing, step_fills_nothing}

-- the mean of the first term, and the sum with one more
pub mean_first : (y z : ℕ) → mean_sum_of y z 1 ≡ y / 2
unfolding mean_sum_of with_term
mean_first y z = omega (arith, first_term y z)

pub mean_next : (y z n : ℕ) → with_term (mean_sum_of y z n) (term_at y z n / (n + 2)) n ≡ mean_sum_of y z (n + 1)
unfolding mean_sum_of
mean_next y z n = rw add-one

-- a sum has room for its next term, and stays small
pub record MeanFits (y z n : ℕ) : Type 0 where
  pub lower : term_at y z n / (n + 2) ≤ mean_sum_of y z n
  pub upper : mean_sum_of y z n ≤ small

pub mean_fits : (y z : ℕ) → y ≤ small → z ≤ small → (n : ℕ) → 1 ≤ n → n < most_terms → MeanFits y z n
unfolding mean_sum_of with_term
mean_fits y z hy hz zero h l = absurd (omega arith)
mean_fits y z hy hz (suc zero) h l = omega (arith, first_term y z, terms_fall y z hy hz 0)
mean_fits y z hy hz (suc (suc zero)) h l = omega (arith, first_term y z, terms_fall y z hy hz 0, terms_fall y z hy hz 1)
mean_fits y z hy hz (suc (suc (suc zero))) h l = omega (arith, first_term y z, terms_fall y z hy hz 0, terms_fall y z hy hz 1, terms_fall y z hy hz 2)
mean_fits y z hy hz (suc (suc (suc (suc n)))) h l = absurd (omega arith)

-- the sum as an equation without differences
pub mean_sum : (y z : ℕ) → y ≤ small → z ≤ small → mean_sum_of y z most_terms + term_at y z 1 / 3 + term_at y z 3 / 5 ≡ y / 2 + term_at y z 2 / 4
unfolding mean_sum_of with_term
mean_sum y z hy hz = omega (arith, first_term y z, terms_fall y z hy hz 0, terms_fall y z hy hz 1, terms_fall y z hy hz 2)

-- the mean of a series is at most its sum
mean_below : (y z : ℕ) → y ≤ small → z ≤ small → mean_sum_of y z most_terms ≤ (series_of y z).sum
mean_below y z hy hz =
    let half : 2 * mean_sum_of y z most_terms ≤ y + term_at y z 2 = omega (arith, mean_sum y z hy hz) in
    omega (arith, series_sum y z hy hz, first_term y z, terms_fall y z hy hz 0, terms_fall y z hy hz 2)

-- where a factor is at most 1/128 of another, so is its product
product_falls : (a z : ℕ) {y : ℕ} → 128 * a ≤ y → 128 * product a z ≤ product y z
unfolding product
product_falls a z h = omega (arith, mul-le-mul_right z h)

-- the second part of the third term is far below that of the second term, since the term before it is
back_falls_far : (y z : ℕ) → y ≤ small → z ≤ small → 192 * (terms_at y z 2).back ≤ (terms_at y z 1).back
unfolding term_at terms_at next_terms term_of
back_falls_far y z hy hz = omega (arith, product_falls (term_at y z 1) z (terms_fall y z hy hz 0))

-- no more BOD is spent than lost on average
mean_spent_below : (y z : ℕ) → y ≤ small → z ≤ small → mean_sum_of y z most_terms ≤ mean_sum_of y 0 most_terms
unfolding term_at
mean_spent_below y z hy hz =
    omega (
      arith,
      mean_sum y z hy hz,
      mean_sum y 0 hy zero-le,
      term_alone y z 1,
      term_alone y z 2,
      term_alone y z 3,
      back_falls_far y z hy hz,
    )

-- THEOREM: the means over a step are small, and no more BOD is spent than lost
pub mean_step_sound : (k1 k2 volume flow : ℕ) → RatesPass k1 k2 volume flow → SoundStep (mean_step_of k1 k2 volume flow)
unfolding mean_step_of step_of
mean_step_sound k1 k2 volume flow p =
    let y = exponent_of k1 volume flow in
    let z = exponent_of k2 volume flow in
    let hy = exponent_small k1 volume flow p.k1_short in
    let hz = exponent_small k2 volume flow p.k2_short in
    let s = step_sound k1 k2 volume flow p in
    record {
      lost_small = le_trans (mean_below y 0 hy zero-le) s.lost_small;
      spent_lost = mean_spent_below y z hy hz;
      filled_small = le_trans (mean_below z 0 hz zero-le) s.filled_small;
    }

-- less deficit is filled on average than in the whole step
pub mean_fills : (k1 k2 volume flow : ℕ) → RatesPass k1 k2 volume flow → (mean_step_of k1 k2 volume flow).filled ≤ (step_of k1 k2 volume flow).filled
unfolding mean_step_of step_of
mean_fills k1 k2 volume flow p = mean_below (exponent_of k2 volume flow) 0 (exponent_small k2 volume flow p.k2_short) zero-le

-- a rate of 0 or no volume: nothing is lost and spent, or filled
pub mean_loses_nothing : (k1 k2 volume flow : ℕ) → RatesPass k1 k2 volume flow → k1 * volume ≡ 0 → ((mean_step_of k1 k2 volume flow).lost ≡ 0) × ((mean_step_of k1 k2 volume flow).spent ≡ 0)
unfolding mean_step_of step_of
mean_loses_nothing k1 k2 volume flow p h =
    let y = exponent_of k1 volume flow in
    let z = exponent_of k2 volume flow in
    let hy = exponent_small k1 volume flow p.k1_short in
    let hz = exponent_small k2 volume flow p.k2_short in
    omega (arith, step_loses_nothing k1 k2 volume flow p h, mean_below y 0 hy zero-le, mean_below y z hy hz)

pub mean_fills_nothing : (k1 k2 volume flow : ℕ) → RatesPass k1 k2 volume flow → k2 * volume ≡ 0 → (mean_step_of k1 k2 volume flow).filled ≡ 0
mean_fills_nothing k1 k2 volume flow p h = omega (arith, mean_fills k1 k2 volume flow p, step_fills_nothing k1 k2 volume flow p h)
