-- The exponents x1 and x2 of a reach: not negative, proportional to the instant, at most 4 where check 11 holds, and at most 1/256 at instant 1.
use mathlib.Core.Path.{refl}
use mathlib.Core.List.{[], ◌∷◌}
use Prim.Native.Nat.{ℕ, suc, ◌*◌, ◌≤◌, ◌<◌}
use native.Mathlib.Nat.{mul-le-mul}
use native.Mathlib.Omega.{arith}
use lib.IntN.{pos}
use Rattle.decay.specs.Fraction.{Fraction, of_ℕ, of_ℤ, over, ◌+ᶠ◌, ◌*ᶠ◌, ◌÷◌, ◌≈◌, ◌≼◌}
use Rattle.decay.specs.Exact.{exponent}
use Rattle.decay.proofs.Algebra.{≈_refl, ≈_sym, of_ℤ-*, quote, ring_by, none, ◌&◌, ◌⋅◌, ≼_of-≈, ≼_trans, nonneg_by, slack, number, ◌⊞◌, ◌⊠◌, multiple, certify, certify_times, of_ℕ_mono, of_ℕ_suc}
use Rattle.decay.proofs.Exponential.Division.{over_times, over_times_le, over_nonneg}

-- n / d is at most c where n is at most c × d, and c × (n / d) at most 1 where c × n is at most d
quotient_le : (n d c : ℕ) → n ≤ c * d → of_ℕ n *ᶠ over 1 (pos d) ≼ of_ℕ c
quotient_le n d c h =
    certify (of_ℕ n ∷ of_ℕ d ∷ of_ℕ c ∷ of_ℕ (c * d) ∷ over 1 (pos d) ∷ [])
    (number c ⊠ slack (over_times_le d) ⊞ slack (of_ℕ_mono h) ⊠ over_nonneg d ⊞ multiple (over 1 (pos d)) (of_ℤ-* (pos c) (pos d))) (search quote depth 40 fits 9999) tt

times_quotient_le : (n d c : ℕ) → c * n ≤ d → of_ℕ c *ᶠ (of_ℕ n *ᶠ over 1 (pos d)) ≼ of_ℕ 1
times_quotient_le n d c h =
    certify (of_ℕ n ∷ of_ℕ d ∷ of_ℕ c ∷ of_ℕ (c * n) ∷ over 1 (pos d) ∷ [])
    (slack (over_times_le d) ⊞ slack (of_ℕ_mono h) ⊠ over_nonneg d ⊞ multiple (over 1 (pos d)) (≈_sym (of_ℤ-* (pos c) (pos n)))) (search quote depth 40 fits 9999) tt

-- ---- exponents

-- 1 / (86,400 × 1,024 × Q)
unfoldable pub moment : ℕ → Fraction
moment Q = over 1 (pos (86_400 * 1_024 * Q))

pub exponent_is : (k v Q m : ℕ) → exponent k v Q m ≈ of_ℕ (k * v * m) *ᶠ moment Q
unfolding exponent moment ◌÷◌ of_ℤ
exponent_is k v Q m = ≈_refl _

pub exponent_nonneg : (k v Q m : ℕ) → of_ℕ 0 ≼ exponent k v Q m
unfolding moment
exponent_nonneg k v Q m = nonneg_by (exponent_is k v Q m) (number (k * v * m) ⊠ over_nonneg (86_400 * 1_024 * Q))

-- an instant more is a step more
pub exponent_suc : (k v Q m : ℕ) → exponent k v Q (suc m) ≈ exponent k v Q m +ᶠ exponent k v Q 1
exponent_suc k v Q m =
    ring_by (exponent k v Q (suc m) ∷ exponent k v Q m ∷ exponent k v Q 1 ∷ of_ℕ k ∷ of_ℕ v ∷ of_ℕ m ∷ of_ℕ (suc m) ∷ moment Q ∷ [])
    (of_ℕ 1 ⋅ exponent_is k v Q (suc m) & of_ℕ 1 ⋅ exponent_is k v Q m & of_ℕ 1 ⋅ exponent_is k v Q 1 & (of_ℕ k *ᶠ of_ℕ v *ᶠ moment Q) ⋅ of_ℕ_suc m & none) (search quote depth 40 fits 9999) tt

pub exponent_zero : (k v Q : ℕ) → exponent k v Q 0 ≈ of_ℕ 0
exponent_zero k v Q = ring_by (exponent k v Q 0 ∷ of_ℕ k ∷ of_ℕ v ∷ moment Q ∷ []) (of_ℕ 1 ⋅ exponent_is k v Q 0 & none) (search quote depth 40 fits 9999) tt

-- the rate and the rest of the exponent
pub exponent_rate : (k v Q m : ℕ) → exponent k v Q m ≈ of_ℕ k *ᶠ (of_ℕ v *ᶠ of_ℕ m *ᶠ moment Q)
exponent_rate k v Q m = ring_by (exponent k v Q m ∷ of_ℕ k ∷ of_ℕ v ∷ of_ℕ m ∷ moment Q ∷ []) (of_ℕ 1 ⋅ exponent_is k v Q m & none) (search quote depth 40 fits 9999) tt

-- check 11
pub exponent_le_4 : (k v Q m : ℕ) → k * v ≤ 345_600 * Q → m ≤ 1024 → exponent k v Q m ≼ of_ℕ 4
unfolding moment
exponent_le_4 k v Q m h l =
    ≼_trans (≼_of-≈ (exponent_is k v Q m)) (quotient_le (k * v * m) (86_400 * 1_024 * Q) 4 (omega (arith, mul-le-mul h l)))

share : of_ℕ 256 *ᶠ (of_ℕ 1 ÷ of_ℕ 256) ≈ of_ℕ 1
unfolding ◌*ᶠ◌ ◌÷◌ over of_ℤ
share = record { across = refl }

pub exponent_step : (k v Q : ℕ) → k * v ≤ 345_600 * Q → exponent k v Q 1 ≼ of_ℕ 1 ÷ of_ℕ 256
unfolding moment
exponent_step k v Q h =
    certify_times 255 (exponent k v Q 1 ∷ of_ℕ (k * v * 1) ∷ over 1 (pos (86_400 * 1_024 * Q)) ∷ (of_ℕ 1 ÷ of_ℕ 256) ∷ [])
    (slack (times_quotient_le (k * v * 1) (86_400 * 1_024 * Q) 256 (omega arith)) ⊞ multiple (of_ℕ 256) (exponent_is k v Q 1) ⊞ multiple (of_ℕ 1) (≈_sym share)) (search quote depth 40 fits 9999) tt

-- what the exponent is a quotient of
pub exponent_scaled : (k v Q m : ℕ) → 0 < Q → of_ℕ (86_400 * 1_024 * Q) *ᶠ exponent k v Q m ≈ of_ℕ (k * v * m)
unfolding moment
exponent_scaled k v Q m h =
    ring_by (exponent k v Q m ∷ of_ℕ (k * v * m) ∷ of_ℕ (86_400 * 1_024 * Q) ∷ over 1 (pos (86_400 * 1_024 * Q)) ∷ []) (of_ℕ (86_400 * 1_024 * Q) ⋅ exponent_is k v Q m & of_ℕ (k * v * m) ⋅ over_times (86_400 * 1_024 * Q) (omega arith) & none) (search quote depth 40 fits 9999) tt
