-- Whole numbers as fractions: sums, products, order, and division rounded down. `quote` reads ofℕ (m + n) and ofℕ (m * n) as sums and products by itself.
use mathlib.Core.Path.{◌≡◌, sym, ◌∙◌, ap, subst, subst₂}
use mathlib.Core.List.{List, [], ◌∷◌}
use Prim.Native.Nat.{ℕ, suc, ◌+◌, ◌-◌, ◌*◌, ◌/◌, ◌≤◌, ◌<◌}
use native.Mathlib.Nat.{div-mul-le_self, lt-div-mul-add}
use native.Mathlib.Numerals.{add-one}
use native.Mathlib.Omega.{arith}
use lib.IntN.{ℤ, pos, negsuc}
use lib.Signed.{◌≤ℤ◌, shr_z}
use Rattle.decay.specs.Fraction.{Fraction, ◌≈◌, ◌≼◌, of_ℤ, of_ℕ, ◌+ᶠ◌, -ᶠ◌, ◌-ᶠ◌, ◌*ᶠ◌, ◌÷◌}
use Rattle.decay.proofs.Algebra.Signed.{*ℤ_idr, pos_mono, pos_reflect}
use Rattle.decay.proofs.Algebra.Normal.{Sides, gap, Vanishes}
use Rattle.decay.proofs.Algebra.Rational.{Fraction-ring, ≈_refl, ≈_trans, -ᶠ_cong, of_ℤ-+, of_ℤ-*, of_ℤ_neg}
use Rattle.decay.proofs.Algebra.Identity.{ring, ring_by, none, ◌&◌, ◌⋅◌, quote, replaced}
use Rattle.decay.proofs.Algebra.Order.{slack, number, ◌⊞◌, certify}
use Rattle.decay.proofs.Algebra.Division.{positive_whole, ÷_le, le-÷}

-- ---- order

pub of_ℤ_mono : {a b : ℤ} → a ≤ℤ b → of_ℤ a ≼ of_ℤ b
unfolding of_ℤ
of_ℤ_mono {a} {b} h = record { across = subst₂ ◌≤ℤ◌ (sym (*ℤ_idr a)) (sym (*ℤ_idr b)) h }

pub of_ℤ_reflect : (a b : ℤ) → of_ℤ a ≼ of_ℤ b → a ≤ℤ b
unfolding of_ℤ
of_ℤ_reflect a b h = subst₂ ◌≤ℤ◌ (*ℤ_idr a) (*ℤ_idr b) h.across

pub of_ℕ_mono : {m n : ℕ} → m ≤ n → of_ℕ m ≼ of_ℕ n
of_ℕ_mono h = of_ℤ_mono (pos_mono h)

pub of_ℕ_reflect : (m n : ℕ) → of_ℕ m ≼ of_ℕ n → m ≤ n
of_ℕ_reflect m n h = pos_reflect (of_ℤ_reflect (pos m) (pos n) h)

pub of_ℤ-≈ : {a b : ℤ} → a ≡ b → of_ℤ a ≈ of_ℤ b
of_ℤ-≈ {a} {b} e = subst (λ z. of_ℤ a ≈ of_ℤ z) e (≈_refl (of_ℤ a))

pub of_ℕ-≈ : {m n : ℕ} → m ≡ n → of_ℕ m ≈ of_ℕ n
of_ℕ-≈ e = of_ℤ-≈ (ap pos e)

pub of_ℤ_injective : (a b : ℤ) → of_ℤ a ≈ of_ℤ b → a ≡ b
unfolding of_ℤ
of_ℤ_injective a b h = sym (*ℤ_idr a) ∙ h.across ∙ *ℤ_idr b

-- an identity of signed numbers, read as one of fractions: `ring_ℤ (of_ℤ a ∷ of_ℤ b ∷ []) (search quote depth 40 fits 9999) tt : a +ℤ b ≡ b +ℤ a`
pub ring_ℤ : (vs : List Fraction) {a b : ℤ} (q : Sides Fraction-ring vs (of_ℤ a) (of_ℤ b)) → Vanishes (gap Fraction-ring vs q) → a ≡ b
ring_ℤ vs {a} {b} q t = of_ℤ_injective a b (ring vs q t)

-- ---- sums, products, negation

pub of_ℕ-+ : (m n : ℕ) → of_ℕ (m + n) ≈ of_ℕ m +ᶠ of_ℕ n
of_ℕ-+ m n = of_ℤ-+ (pos m) (pos n)

pub of_ℕ-* : (m n : ℕ) → of_ℕ (m * n) ≈ of_ℕ m *ᶠ of_ℕ n
of_ℕ-* m n = of_ℤ-* (pos m) (pos n)

pub of_ℕ_suc : (n : ℕ) → of_ℕ (suc n) ≈ of_ℕ n +ᶠ of_ℕ 1
of_ℕ_suc n = ≈_trans (of_ℕ-≈ (sym (add-one n))) (of_ℕ-+ n 1)

-- m − n for n ≤ m
pub of_ℕ_sub : (m n : ℕ) → n ≤ m → of_ℕ (m - n) ≈ of_ℕ m -ᶠ of_ℕ n
of_ℕ_sub m n h =
    let whole : (m - n) + n ≡ m = omega arith in
    ring_by (of_ℕ m ∷ of_ℕ n ∷ of_ℕ (m - n) ∷ []) (of_ℕ 1 ⋅ of_ℕ-≈ whole & none) (search quote depth 40 fits 9999) tt

-- −(n + 1)
pub of_ℤ_negsuc : (n : ℕ) → of_ℤ (negsuc n) ≈ -ᶠ (of_ℕ n +ᶠ of_ℕ 1)
of_ℤ_negsuc n = ≈_trans (of_ℤ_neg (pos (suc n))) (-ᶠ_cong (of_ℕ_suc n))

-- ---- division rounded down, of whole and of signed numbers: 0 ≤ z / d − floor (z / d) < 1
-- `shr_z z d` is the floor of z / d: n / d for n, and −(n / d + 1) for −(n + 1).

times_below : (n d : ℕ) → of_ℕ (n / d) *ᶠ of_ℕ d ≼ of_ℕ n
times_below n d =
    certify (of_ℕ n ∷ of_ℕ d ∷ of_ℕ (n / d) ∷ []) (slack (of_ℕ_mono (div-mul-le_self n d))) (search quote depth 40 fits 9999) tt

below_next : (n d : ℕ) → 0 < d → of_ℕ n +ᶠ of_ℕ 1 ≼ (of_ℕ (n / d) +ᶠ of_ℕ 1) *ᶠ of_ℕ d
below_next n d h =
    certify (of_ℕ n ∷ of_ℕ d ∷ of_ℕ (n / d) ∷ []) (slack (of_ℕ_mono {m = n + 1} {n = (n / d + 1) * d} (omega (arith, lt-div-mul-add {a = n} h)))) (search quote depth 40 fits 9999) tt

-- floor (z / d) × d ≤ z
pub floor_times : (z : ℤ) (d : ℕ) → 0 < d → of_ℤ (shr_z z d) *ᶠ of_ℕ d ≼ of_ℤ z
floor_times (pos n) d h = times_below n d
floor_times (negsuc n) d h =
    certify (of_ℕ n ∷ of_ℕ d ∷ of_ℕ (n / d) ∷ []) (slack (below_next n d h)) (search (quote, replaced (of_ℤ_negsuc n), replaced (of_ℤ_negsuc (n / d))) depth 40 fits 9999) tt

-- z + 1 ≤ (floor (z / d) + 1) × d
pub floor_next : (z : ℤ) (d : ℕ) → 0 < d → of_ℤ z +ᶠ of_ℕ 1 ≼ (of_ℤ (shr_z z d) +ᶠ of_ℕ 1) *ᶠ of_ℕ d
floor_next (pos n) d h = below_next n d h
floor_next (negsuc n) d h =
    certify (of_ℕ n ∷ of_ℕ d ∷ of_ℕ (n / d) ∷ []) (slack (times_below n d)) (search (quote, replaced (of_ℤ_negsuc n), replaced (of_ℤ_negsuc (n / d))) depth 40 fits 9999) tt

pub floor_ℤ_low : (z : ℤ) {d : ℕ} → 0 < d → of_ℤ (shr_z z d) ≼ of_ℤ z ÷ of_ℕ d
floor_ℤ_low z {d} h = le-÷ (positive_whole h) (floor_times z d h)

pub floor_ℤ_high : (z : ℤ) {d : ℕ} → 0 < d → of_ℤ z ÷ of_ℕ d ≼ of_ℤ (shr_z z d) +ᶠ of_ℕ 1
floor_ℤ_high z {d} h =
    ÷_le (positive_whole h) (certify (of_ℤ z ∷ of_ℕ d ∷ of_ℤ (shr_z z d) ∷ []) (slack (floor_next z d h) ⊞ number 1) (search quote depth 40 fits 9999) tt)

pub floor_low : (n : ℕ) {d : ℕ} → 0 < d → of_ℕ (n / d) ≼ of_ℕ n ÷ of_ℕ d
floor_low n = floor_ℤ_low (pos n)

pub floor_high : (n : ℕ) {d : ℕ} → 0 < d → of_ℕ n ÷ of_ℕ d ≼ of_ℕ (n / d) +ᶠ of_ℕ 1
floor_high n = floor_ℤ_high (pos n)
