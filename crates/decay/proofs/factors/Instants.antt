-- Laws of the factors at every instant: they are shares of one, BOD left never rises, the deficit left falls by at most the
-- filled share of one at each step, and a rate of 0 or no volume keeps them.
-- Assumes nothing.
use mathlib.Core.Path.{◌≡◌, refl, ap, ap₂, ◌∙◌}
use Prim.Native.Nat.{ℕ, zero, suc, ◌+◌, ◌*◌, ◌≤◌}
use native.Mathlib.Nat.{le_trans, sub-le, mul-zero, zero-mul, zero-div}
use native.Mathlib.Omega.{arith}
use Rattle.decay.specs.Fixed.{one, product}
use Rattle.decay.specs.held.Step.{RatesPass, step_of}
use Rattle.decay.specs.held.Factors.{SoundStep, AreShares, next_demand, demand_from, demand_in, head_factors, next_factors, factors_at}
use Rattle.decay.specs.declared.step.Step.{Step}
use Rattle.decay.specs.declared.factors.DemandFactors.{DemandFactors}
use Rattle.decay.specs.declared.factors.Factors.{Factors}
use Rattle.decay.proofs.fixed.Digits.{share_below, product_small, product_mono}
use Rattle.decay.proofs.step.Shares.{step_loses_nothing, step_fills_nothing}
use Rattle.decay.proofs.Exponential.{UpTo, here, further, up_to}

-- no share of nothing
pub product_zero : (a b : ℕ) → b ≡ 0 → product a b ≡ 0
unfolding product
product_zero a b h = rw (h, mul-zero) (zero-div one)

product_none : (b : ℕ) → product 0 b ≡ 0
unfolding product
product_none b = rw zero-mul (zero-div one)

-- what one step takes and gives of a demand, in range
pub record Moved (s : Step) (d : DemandFactors) : Type 0 where
  pub lost_left : product d.left s.lost ≤ d.left
  pub spent_lost : product d.left s.spent ≤ product d.left s.lost
  pub filled_turned : product d.turned s.filled ≤ d.turned

pub moved : {s : Step} (d : DemandFactors) → SoundStep s → Moved s d
moved {s} d h =
    record {
      lost_left = omega (arith, product_small d.left s.lost h.lost_small);
      spent_lost = product_mono {a = d.left} {b = s.spent} {c = d.left} {d = s.lost} (omega arith) h.spent_lost;
      filled_turned = omega (arith, product_small d.turned s.filled h.filled_small);
    }

-- and of the head's deficit
pub filled_kept : {s : Step} (kept : ℕ) → SoundStep s → product kept s.filled ≤ kept
filled_kept {s} kept h = omega (arith, product_small kept s.filled h.filled_small)

pub start_range : AreShares head_factors
unfolding head_factors
start_range = omega arith

pub next_range : {s : Step} {f : Factors} → SoundStep s → AreShares f → AreShares (next_factors s f)
unfolding next_factors
next_range {s} {f} h r = let m = moved (demand_in f) h in omega (arith, filled_kept f.kept h)

-- THEOREM: at every instant the factors are shares of one
pub range : {s : Step} → SoundStep s → (m : ℕ) → AreShares (factors_at s m)
unfolding factors_at
range h zero = start_range
range {s} h (suc m) = next_range h (range h m)

-- the demand among them starts with one
pub starts_with_one : (s : Step) (m : ℕ) → demand_in (factors_at s m) ≡ demand_from one s m
unfolding factors_at next_factors head_factors demand_from
starts_with_one s zero = refl
starts_with_one s (suc m) = ap (next_demand s) (starts_with_one s m)

-- what is left and what has turned of a demand are together at most what it starts with
pub demand_range : {s : Step} → SoundStep s → (start m : ℕ) → (demand_from start s m).left + (demand_from start s m).turned ≤ start
unfolding demand_from
demand_range h start zero = omega arith
demand_range {s} h start (suc m) = let k = moved (demand_from start s m) h in omega (arith, demand_range h start m)

-- a demand of which nothing is lost stays what it is
pub demand_kept : (s : Step) → s.lost ≡ 0 → s.spent ≡ 0 → (start m : ℕ) → demand_from start s m ≡ record { left = start; turned = 0 }
unfolding demand_from
demand_kept s h k start zero = refl
demand_kept s h k start (suc m) =
    ap (next_demand s) (demand_kept s h k start m)
    ∙ ap₂ (λ (x y : ℕ). record { left = x; turned = y }) (omega (arith, product_zero start s.lost h)) (omega (arith, product_none s.filled, product_zero start s.spent k))

-- BOD left never rises from an instant to the next
pub left_falls : (s : Step) (m : ℕ) → (factors_at s (suc m)).left ≤ (factors_at s m).left
unfolding factors_at next_factors
left_falls s m = sub-le (factors_at s m).left (product (factors_at s m).left s.lost)

-- nor to any later one
left_falls_to : (s : Step) {m n : ℕ} → UpTo m n → (factors_at s n).left ≤ (factors_at s m).left
left_falls_to s here = omega arith
left_falls_to s (further {N = n} u) = le_trans (left_falls s n) (left_falls_to s u)

-- THEOREM: BOD left never rises from an instant to a later one
pub left_never_rises : (s : Step) {m n : ℕ} → m ≤ n → (factors_at s n).left ≤ (factors_at s m).left
left_never_rises s h = left_falls_to s (up_to h)

-- a step fills at most its filled share of one, so that by instant m the head's deficit has lost at most m of them
pub deficit_lost : {s : Step} → SoundStep s → (m : ℕ) → one ≤ (factors_at s m).kept + m * s.filled
unfolding factors_at next_factors head_factors
deficit_lost h zero = omega arith
deficit_lost {s} h (suc m) =
    omega (arith, deficit_lost h m, filled_kept (factors_at s m).kept h, share_below (factors_at s m).kept s.filled (range h m).deficit)

bod_kept : (s : Step) → s.lost ≡ 0 → s.spent ≡ 0 → (m : ℕ) → ((factors_at s m).left ≡ one) × ((factors_at s m).turned ≡ 0)
bod_kept s h k m =
    let e = starts_with_one s m ∙ demand_kept s h k one m in
    (ap (λ (d : DemandFactors). d.left) e, ap (λ (d : DemandFactors). d.turned) e)

deficit_kept : (s : Step) → s.filled ≡ 0 → (m : ℕ) → (factors_at s m).kept ≡ one
unfolding factors_at next_factors head_factors
deficit_kept s h zero = refl
deficit_kept s h (suc m) =
    let f = factors_at s m in
    omega (arith, deficit_kept s h m, product_zero f.kept s.filled h)

-- THEOREM: a rate k1 of 0, or no volume, keeps all BOD at every instant
pub bod_tie :
    (k1 k2 volume flow : ℕ) →
    RatesPass k1 k2 volume flow →
    k1 * volume ≡ 0 →
    (m : ℕ) →
    ((factors_at (step_of k1 k2 volume flow) m).left ≡ one) × ((factors_at (step_of k1 k2 volume flow) m).turned ≡ 0)
bod_tie k1 k2 volume flow p h =
    let z = step_loses_nothing k1 k2 volume flow p h in
    bod_kept (step_of k1 k2 volume flow) z.0 z.1

-- THEOREM: a rate k2 of 0, or no volume, keeps all of the head's deficit at every instant
pub deficit_tie :
    (k1 k2 volume flow : ℕ) →
    RatesPass k1 k2 volume flow →
    k2 * volume ≡ 0 →
    (m : ℕ) →
    (factors_at (step_of k1 k2 volume flow) m).kept ≡ one
deficit_tie k1 k2 volume flow p h = deficit_kept (step_of k1 k2 volume flow) (step_fills_nothing k1 k2 volume flow p h)
