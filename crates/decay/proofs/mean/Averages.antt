-- Laws of the averages and the means of the factors: they are shares of one, a mean has lost no more of the deficit than the foot may, and a rate
-- of 0 or no volume keeps them. Assumes nothing.
use mathlib.Core.Path.{◌≡◌, refl, ap, fun_ext, ◌∙◌}
use Prim.Native.Nat.{ℕ, zero, suc, ◌+◌, ◌*◌, ◌≤◌}
use native.Mathlib.Nat.{mul-le-mul_right}
use native.Mathlib.Numerals.{add-one}
use native.Mathlib.Omega.{arith}
use Rattle.decay.specs.Exact.{steps, foot}
use Rattle.decay.specs.Fixed.{one}
use Rattle.decay.specs.held.Step.{RatesPass, step_of, mean_step_of}
use Rattle.decay.specs.held.Factors.{SoundStep, AreShares, next_demand, demand_from, demand_in, head_factors, next_factors, factors_at}
use Rattle.decay.specs.held.Mean.{sum_to, average, average_demand, average_factors, mean_demand, mean_factors, mean_factors_of, walked, total_to, next_sums, no_demand, no_factors, demand_plus, factors_plus, demand_averaged, factors_averaged, Summed, DemandSummed, FactorsSummed}
use Rattle.decay.specs.declared.step.Step.{Step}
use Rattle.decay.specs.declared.factors.DemandFactors.{DemandFactors}
use Rattle.decay.specs.declared.factors.Factors.{Factors}
use Rattle.decay.specs.declared.mean.Sums.{Sums}
use Rattle.decay.proofs.mean.Totals.{sum_most, sums_most, walked_is, total_part}
use Rattle.decay.proofs.fixed.Digits.{share_below}
use Rattle.decay.proofs.step.Shares.{step_loses_nothing}
use Rattle.decay.proofs.step.MeanShares.{mean_loses_nothing, mean_fills_nothing}
use Rattle.decay.proofs.factors.Instants.{product_zero, moved, next_range, range, starts_with_one, demand_range, demand_kept, deficit_lost, deficit_tie}

-- ---- sums and averages

-- the average of one value is that value
sum_same : (c m : ℕ) → sum_to (λ i. c) m ≡ m * c
unfolding sum_to
sum_same c zero = omega arith
sum_same c (suc m) = omega (arith, sum_same c m)

average_same : (c : ℕ) → average (λ i. c) ≡ c
average_same c = omega (arith, sum_same c foot)

-- ---- the sums of a walk from the head

-- at the head nothing is summed, and with each step one more instant is
module _ {T : Type 0} {next : Step → T → T} {none : T} {plus : T → T → T} {start : T} {step : Step} where
  pub sums_begin : Summed next none plus start step 0 (record { reached = start; sum = none })
  unfolding walked total_to
  sums_begin = record { reached = refl; sum = refl }

  pub sums_next : {m : ℕ} {s : Sums T} → Summed next none plus start step m s → Summed next none plus start step (m + 1) (next_sums next plus step s)
  unfolding walked total_to
  sums_next u = rw add-one (record { reached = cc; sum = cc })

  -- the same for a sequence that is walked so, and a part of it
  summed_part : {m : ℕ} {s : Sums T} {v : ℕ → T} → Summed next none plus start step m s → ((m : ℕ) → walked next start step m ≡ v m)
      → (part : T → ℕ) → part none ≡ 0 → ((x y : T) → part (plus x y) ≡ part x + part y) → part s.sum ≡ sum_to (λ i. part (v i)) m
  summed_part {m = m} u same part nothing more =
      ap part (u.sum ∙ ap (λ (v : ℕ → T). total_to none plus v m) (fun_ext same)) ∙ total_part part nothing more _ m

-- the sums of a demand, and of the factors
pub demand_summed : {start m : ℕ} {step : Step} {s : Sums DemandFactors} → Summed next_demand no_demand demand_plus (record { left = start; turned = 0 }) step m s → DemandSummed start step m s
unfolding demand_from
demand_summed {start} {m} {step} u =
    let same : (i : ℕ) → walked next_demand (record { left = start; turned = 0 }) step i ≡ demand_from start step i = walked_is next_demand step (demand_from start step) refl (λ i. refl) in
    record {
      reached = u.reached ∙ same m;
      left = summed_part u same (λ d. d.left) refl (λ x y. refl);
      turned = summed_part u same (λ d. d.turned) refl (λ x y. refl);
    }

pub factors_summed : {m : ℕ} {step : Step} {s : Sums Factors} → Summed next_factors no_factors factors_plus head_factors step m s → FactorsSummed step m s
unfolding factors_at
factors_summed {m} {step} u =
    let same : (i : ℕ) → walked next_factors head_factors step i ≡ factors_at step i = walked_is next_factors step (factors_at step) refl (λ i. refl) in
    record {
      reached = u.reached ∙ same m;
      left = summed_part u same (λ f. f.left) refl (λ x y. refl);
      turned = summed_part u same (λ f. f.turned) refl (λ x y. refl);
      kept = summed_part u same (λ f. f.kept) refl (λ x y. refl);
    }

-- THEOREM: the sums at the foot give the means
pub demand_mean_made : (mean_step : Step) {step : Step} {start : ℕ} {s : Sums DemandFactors} → DemandSummed start step foot s → next_demand mean_step (demand_averaged s.sum) ≡ mean_demand mean_step step start
unfolding mean_demand
demand_mean_made mean_step s = rw (s.left, s.turned)

pub factors_mean_made : (mean_step : Step) {step : Step} {s : Sums Factors} → FactorsSummed step foot s → next_factors mean_step (factors_averaged s.sum) ≡ mean_factors mean_step step
unfolding mean_factors
factors_mean_made mean_step s = rw (s.left, s.turned, s.kept)

-- averages are shares
pub average_demand_range : {step : Step} → SoundStep step → (start : ℕ) → (average_demand start step).left + (average_demand start step).turned ≤ start
average_demand_range {step} sound start = omega (arith, sums_most (demand_from start step) (demand_range sound start) foot)

pub average_range : {step : Step} → SoundStep step → AreShares (average_factors step)
average_range {step} sound =
    record {
      bod = omega (arith, sums_most (λ i. demand_in (factors_at step i)) (λ i. (range sound i).bod) foot);
      deficit = omega (arith, sum_most (λ i. (range sound i).deficit) foot);
    }

-- THEOREM: means are shares
pub mean_demand_range : {mean_step step : Step} → SoundStep mean_step → SoundStep step → (start : ℕ) → (mean_demand mean_step step start).left + (mean_demand mean_step step start).turned ≤ start
unfolding mean_demand
mean_demand_range {step = step} sound_mean sound start =
    let k = moved (average_demand start step) sound_mean in
    omega (arith, average_demand_range sound start)

pub mean_range : {mean_step step : Step} → SoundStep mean_step → SoundStep step → AreShares (mean_factors mean_step step)
unfolding mean_factors
mean_range sound_mean sound = next_range sound_mean (average_range sound)

-- the average of demands, instant by instant
abbrev averaged : (ℕ → DemandFactors) → DemandFactors
averaged d = record { left = average (λ m. (d m).left); turned = average (λ m. (d m).turned) }

-- the demand among the factors starts with one
pub mean_starts_with_one : (mean_step step : Step) → demand_in (mean_factors mean_step step) ≡ mean_demand mean_step step one
unfolding mean_factors next_factors mean_demand
mean_starts_with_one mean_step step = ap (λ (d : ℕ → DemandFactors). next_demand mean_step (averaged d)) (fun_ext (starts_with_one step))

-- at each instant before the foot, none later than 1,023, the head's deficit has lost at most 1,023 filled shares
kept_sum : {step : Step} → SoundStep step → (m : ℕ) → m ≤ foot → m * one ≤ sum_to (λ i. (factors_at step i).kept) m + m * (1_023 * step.filled)
unfolding sum_to
kept_sum sound zero l = omega arith
kept_sum {step} sound (suc m) l =
    let before : m ≤ 1_023 = omega arith in
    omega (arith, kept_sum sound m (omega arith), deficit_lost sound m, mul-le-mul_right step.filled before)

-- on average the head's deficit has lost at most as much as the foot may
pub mean_deficit_lost : {mean_step step : Step} → SoundStep mean_step → SoundStep step → mean_step.filled ≤ step.filled → one ≤ (mean_factors mean_step step).kept + steps * step.filled
unfolding mean_factors next_factors
mean_deficit_lost {mean_step} {step} sound_mean sound h =
    omega (arith, kept_sum sound steps (omega arith), share_below (average_factors step).kept mean_step.filled (average_range sound).deficit)

-- a demand of which nothing is lost stays what it is
pub mean_demand_kept : (mean_step step : Step) → mean_step.lost ≡ 0 → mean_step.spent ≡ 0 → step.lost ≡ 0 → step.spent ≡ 0 → (start : ℕ) → mean_demand mean_step step start ≡ record { left = start; turned = 0 }
unfolding mean_demand demand_from
mean_demand_kept mean_step step a b c d start =
    ap (λ (d : ℕ → DemandFactors). next_demand mean_step (averaged d)) (fun_ext (demand_kept step c d start))
    ∙ ap (next_demand mean_step) (cc (average_same start, average_same 0))
    ∙ demand_kept mean_step a b start 1

-- THEOREM: a rate k1 of 0, or no volume, keeps all BOD on average, and k2 likewise the head's deficit
pub mean_bod_tie : (k1 k2 volume flow : ℕ) → RatesPass k1 k2 volume flow → k1 * volume ≡ 0 → ((mean_factors_of k1 k2 volume flow).left ≡ one) × ((mean_factors_of k1 k2 volume flow).turned ≡ 0)
mean_bod_tie k1 k2 volume flow p h =
    let mean_step = mean_step_of k1 k2 volume flow in
    let step = step_of k1 k2 volume flow in
    let m = mean_loses_nothing k1 k2 volume flow p h in
    let s = step_loses_nothing k1 k2 volume flow p h in
    let e = mean_starts_with_one mean_step step ∙ mean_demand_kept mean_step step m.0 m.1 s.0 s.1 one in
    (ap (λ (d : DemandFactors). d.left) e, ap (λ (d : DemandFactors). d.turned) e)

pub mean_deficit_tie : (k1 k2 volume flow : ℕ) → RatesPass k1 k2 volume flow → k2 * volume ≡ 0 → (mean_factors_of k1 k2 volume flow).kept ≡ one
unfolding mean_factors next_factors
mean_deficit_tie k1 k2 volume flow p h =
    let kept = (average_factors (step_of k1 k2 volume flow)).kept in
    let all : kept ≡ one = ap average (fun_ext (deficit_tie k1 k2 volume flow p h)) ∙ average_same one in
    omega (arith, product_zero kept (mean_step_of k1 k2 volume flow).filled (mean_fills_nothing k1 k2 volume flow p h))
