-- One over a whole number: k × (1 / k) is 1, or 0 where k is 0. The size of d / z for a whole d and a signed z is at most d.
use mathlib.Core.Path.{◌≡◌, sym, ap, subst}
use Prim.Native.Nat.{ℕ, zero, suc, ◌*◌, ◌<◌}
use native.Mathlib.Omega.{arith}
use lib.Dec.{lit≤}
use lib.IntN.{ℤ, pos, negsuc, neg_ℤ, ◌*ℤ◌}
use lib.Signed.{◌≤ℤ◌}
use Rattle.decay.specs.Fraction.{of_ℕ, of_ℤ, over, -ᶠ◌, ◌-ᶠ◌, ◌*ᶠ◌, ◌≈◌, ◌≼◌}
use Rattle.decay.proofs.Algebra.{neg-*ℤ, pos_mono, ≤ℤ_neg}

-- k × (1 / k) = 1
pub over_times : (k : ℕ) → 0 < k → of_ℕ k *ᶠ over 1 (pos k) ≈ of_ℕ 1
unfolding over of_ℤ ◌*ᶠ◌
over_times zero h = absurd (omega arith)
over_times (suc k) h = record { across = ap pos (omega arith) }

pub over_times_le : (k : ℕ) → of_ℕ k *ᶠ over 1 (pos k) ≼ of_ℕ 1
unfolding over of_ℤ ◌*ᶠ◌
over_times_le zero = record { across = pos_mono (lit≤ tt) }
over_times_le (suc k) = record { across = pos_mono (omega arith) }

pub over_nonneg : (k : ℕ) → of_ℕ 0 ≼ over 1 (pos k)
unfolding over of_ℤ
over_nonneg zero = record { across = pos_mono (lit≤ tt) }
over_nonneg (suc k) = record { across = pos_mono (omega arith) }

-- the size of d / z, above and below
neg-≤ : (a b : ℕ) → neg_ℤ (pos a) ≤ℤ pos b
neg-≤ zero b = pos_mono (omega arith)
neg-≤ (suc a) b = record { le = tt }

-- (−a) × b as it stands where fractions are compared
neg_times : (a b : ℕ) → neg_ℤ (pos (a * b)) ≡ neg_ℤ (pos a) *ℤ pos b
neg_times a b = sym (neg-*ℤ (pos a) (pos b))

pub over_le : (d : ℕ) (z : ℤ) → over d z ≼ of_ℕ d
unfolding over of_ℤ
over_le d (pos zero) = record { across = pos_mono (omega arith) }
over_le d (pos (suc z)) = record { across = pos_mono (omega arith) }
over_le d (negsuc z) = record { across = subst (λ (x : ℤ). x ≤ℤ pos (d * suc z)) (neg_times d 1) (neg-≤ (d * 1) (d * suc z)) }

pub over_ge : (d : ℕ) (z : ℤ) → -ᶠ of_ℕ d ≼ over d z
unfolding over of_ℤ -ᶠ◌
over_ge d (pos zero) = record { across = subst (λ (x : ℤ). x ≤ℤ pos 0) (neg_times d 1) (neg-≤ (d * 1) 0) }
over_ge d (pos (suc z)) = record { across = subst (λ (x : ℤ). x ≤ℤ pos (d * 1)) (neg_times d (suc z)) (neg-≤ (d * suc z) (d * 1)) }
over_ge d (negsuc z) =
    record { across = subst (λ (x : ℤ). (neg_ℤ (pos d) *ℤ pos (suc z)) ≤ℤ x) (neg_times d 1) (subst (λ (x : ℤ). x ≤ℤ neg_ℤ (pos (d * 1))) (neg_times d (suc z)) (≤ℤ_neg (pos_mono (omega arith)))) }
