-- Rounding down: whole multiples are divided exactly, and a rounded quotient times its divisor lies less than the divisor below the dividend.
use mathlib.Core.Path.{◌≡◌, refl, ap}
use mathlib.Core.List.{[], ◌∷◌}
use Prim.Native.Nat.{ℕ, zero, suc, ◌+◌, ◌*◌, ◌<◌}
use native.Mathlib.Nat.{mul-div_cancel_left, div-eq_of_lt-le, suc-mul, mul_comm}
use native.Mathlib.Numerals.{add-one}
use native.Mathlib.Omega.{arith}
use lib.IntN.{ℤ, pos, negsuc, neg_ℤ, ◌-ℤ◌, ◌*ℤ◌}
use lib.Signed.{shr_z}
use Rattle.decay.specs.Fraction.{Fraction, ◌≈◌, ◌≼◌, of_ℕ, of_ℤ, ◌+ᶠ◌, ◌-ᶠ◌, ◌*ᶠ◌}
use Rattle.decay.proofs.Algebra.{quote, certify, slack, number, ◌⊞◌, ≈_refl, ≈_trans, +ᶠ_cong, of_ℤ-+, of_ℤ_neg, floor_times, floor_next}
use Rattle.flows.specs.Head.{floor}

-- a whole multiple is divided exactly
below_multiple : (k n d : ℕ) → 0 < d → n * d + d ≡ k → floor (neg_ℤ (pos k)) d ≡ negsuc n
unfolding floor
below_multiple zero n d p e = absurd (none e)
  where
    none : n * d + d ≡ 0 → ⊥
    none h = omega arith
below_multiple (suc k) n d p e = ap negsuc (div-eq_of_lt-le d (omega arith) (rw (add-one, suc-mul) (omega arith)))

pub floor_multiple : (z : ℤ) (d : ℕ) → 0 < d → floor (pos d *ℤ z) d ≡ z
unfolding floor
floor_multiple (pos n) d p = rw (mul-div_cancel_left n p)
floor_multiple (negsuc n) d p = below_multiple (d * suc n) n d p (rw (mul_comm d (suc n), suc-mul))

-- a quotient times its divisor, rounded down
pub record Rounded (divisor quotient total : Fraction) : Type 0 where
  pub low : divisor *ᶠ quotient ≼ total
  pub high : total ≼ divisor *ᶠ quotient +ᶠ divisor

floor_is : (z : ℤ) (d : ℕ) → floor z d ≡ shr_z z d
unfolding floor
floor_is (pos n) d = refl
floor_is (negsuc n) d = refl

pub floor_rounded : (z : ℤ) (d : ℕ) → 0 < d → Rounded (of_ℕ d) (of_ℤ (floor z d)) (of_ℤ z)
floor_rounded z d p =
    rw (floor_is z d) (record {
      low = certify (of_ℕ d ∷ of_ℤ (shr_z z d) ∷ of_ℤ z ∷ []) (slack (floor_times z d p)) (search quote depth 40 fits 9999) tt;
      high = certify (of_ℕ d ∷ of_ℤ (shr_z z d) ∷ of_ℤ z ∷ []) (slack (floor_next z d p) ⊞ number 1) (search quote depth 40 fits 9999) tt;
    })

-- a difference of whole numbers, embedded
pub of_ℤ_sub : (a b : ℤ) → of_ℤ (a -ℤ b) ≈ of_ℤ a -ᶠ of_ℤ b
of_ℤ_sub a b = ≈_trans (of_ℤ-+ a (neg_ℤ b)) (+ᶠ_cong (≈_refl (of_ℤ a)) (of_ℤ_neg b))
