-- Laws of what is summed over instants: how large sums are, what is walked, and that a part of a total is the sum of that part. Assumes nothing.
use mathlib.Core.Path.{◌≡◌, sym, ap, ◌∙◌}
use Prim.Native.Nat.{ℕ, zero, suc, ◌+◌, ◌*◌, ◌≤◌}
use native.Mathlib.Omega.{arith}
use Rattle.decay.specs.held.Mean.{sum_to, walked, total_to}
use Rattle.decay.specs.declared.factors.DemandFactors.{DemandFactors}
use Rattle.decay.specs.declared.step.Step.{Step}

-- a sum of values that are at most b each
pub sum_most : {f : ℕ → ℕ} {b : ℕ} → ((i : ℕ) → f i ≤ b) → (m : ℕ) → sum_to f m ≤ m * b
unfolding sum_to
sum_most h zero = omega arith
sum_most h (suc m) = omega (arith, sum_most h m, h m)

-- the two sums of demands that are at most b each
pub sums_most : (d : ℕ → DemandFactors) {b : ℕ} → ((i : ℕ) → (d i).left + (d i).turned ≤ b) → (m : ℕ) → sum_to (λ i. (d i).left) m + sum_to (λ i. (d i).turned) m ≤ m * b
unfolding sum_to
sums_most d h zero = omega arith
sums_most d h (suc m) = omega (arith, sums_most d h m, h m)

-- what is walked is any sequence that begins like it and takes the same steps
pub walked_is : {T : Type 0} (next : Step → T → T) {start : T} (step : Step) (v : ℕ → T) → v 0 ≡ start → ((m : ℕ) → v (suc m) ≡ next step (v m)) → (m : ℕ) → walked next start step m ≡ v m
unfolding walked
walked_is next step v begins goes zero = sym begins
walked_is next step v begins goes (suc m) = ap (next step) (walked_is next step v begins goes m) ∙ sym (goes m)

-- a part of a total, as what is left of demands, is the sum of that part
pub total_part : {T : Type 0} {none : T} {plus : T → T → T} (part : T → ℕ) → part none ≡ 0 → ((x y : T) → part (plus x y) ≡ part x + part y) → (v : ℕ → T) (m : ℕ) → part (total_to none plus v m) ≡ sum_to (λ i. part (v i)) m
unfolding total_to sum_to
total_part part nothing more v zero = nothing
total_part part nothing more v (suc m) = more _ _ ∙ ap (λ (n : ℕ). n + part (v m)) (total_part part nothing more v m)
