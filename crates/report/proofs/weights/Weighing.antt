-- The quotient and the remainder of the sum of volume × stored mean are those of the sum of volume × mean, also below zero.
-- Assumes nothing.
use mathlib.Core.Path.{◌≡◌, sym, ap, ◌∙◌}
use Prim.Native.Nat.{ℕ, suc, ◌+◌, ◌*◌, ◌-◌, ◌/◌, ◌%◌, ◌≤◌, ◌<◌}
use native.Mathlib.Nat.{add-mul, suc-mul, add-sub_of_le, div-add-mod', div-le_of_le-mul, mul_comm, mod-eq_of_lt, mod-lt, lt_of_mul-lt-mul_right, mul-add-div_right, mul-add-mod_self_right}
use native.Mathlib.Omega.{arith}
use native.Mathlib.Decide.{dec_le}
use lib.IntN.{ℤ, pos, negsuc, neg_ℤ, sub_ℕ, ◌+ℤ◌, ◌*ℤ◌, +ℤ_comm}
use Rattle.flows.specs.Head.{floor}
use Rattle.flows.specs.held.Stored.{stored_zero, stored_limit, oxygen_of, oxygen_sum_of}
use Rattle.flows.proofs.head.Offset.{sub_pos, sub_neg, minus, floor_offset}
use Rattle.report.specs.Mean.{rest_of, divided_by}

-- ---- long division by chunks of 16 bits

chunks : (n d : ℕ) → n / 65_536 / d * 65_536 * d + (n / 65_536 % d * 65_536 + n % 65_536) ≡ n
chunks n d = omega (arith, div-add-mod' n 65_536, div-add-mod' (n / 65_536) d)

pub long_quotient : (n d : ℕ) → 0 < d → n / 65_536 / d * 65_536 + (n / 65_536 % d * 65_536 + n % 65_536) / d ≡ n / d
long_quotient n d p = sym (mul-add-div_right p (n / 65_536 / d * 65_536) (n / 65_536 % d * 65_536 + n % 65_536)) ∙ ap (λ (m : ℕ). m / d) (chunks n d)

pub long_remainder : (n d : ℕ) → (n / 65_536 % d * 65_536 + n % 65_536) % d ≡ n % d
long_remainder n d = sym (mul-add-mod_self_right (n / 65_536 / d * 65_536) d (n / 65_536 % d * 65_536 + n % 65_536)) ∙ ap (λ (m : ℕ). m % d) (chunks n d)

-- a quotient that fits four bytes
pub quotient_fits : (n volume : ℕ) → n ≤ stored_limit * volume → n / volume ≤ stored_limit
quotient_fits n volume h = div-le_of_le-mul volume (omega (arith, mul_comm stored_limit volume))

-- ---- the quotient of stored means

-- the remainder of a sum of volume × stored oxygen is that of the sum of volume × oxygen
below_zero : (n k d q r : ℕ) → q * d + r ≡ n → r < d → n < k * d → d - 1 - (k * d - suc n) % d ≡ r
below_zero n k d q r e l h =
    let fewer : suc q ≤ k = lt_of_mul-lt-mul_right d (let m : q * d < k * d = omega arith in m) in
    let t : ℕ = k - suc q in
    let whole : k ≡ t + suc q = omega arith in
    let split : k * d - suc n ≡ t * d + (d - 1 - r) = omega (arith, ap (λ (m : ℕ). m * d) whole, add-mul t (suc q) d, suc-mul q d) in
    ap (λ (m : ℕ). d - 1 - m % d) split ∙ ap (λ (m : ℕ). d - 1 - m) (mul-add-mod_self_right t d (d - 1 - r) ∙ mod-eq_of_lt (omega arith)) ∙ omega arith

rest_offset : (n k d : ℕ) → 0 < d → rest_of (sub_ℕ n (k * d)) d ≡ n % d
unfolding rest_of
rest_offset n k d p = by_order (dec_le (k * d) n)
  where
    by_order : Dec (k * d ≤ n) → rest_of (sub_ℕ n (k * d)) d ≡ n % d
    by_order (yes h) =
        ap (λ (z : ℤ). rest_of z d) (sub_pos n (k * d) h) ∙ sym (mul-add-mod_self_right k d (n - k * d)) ∙ ap (λ (m : ℕ). m % d) (add-sub_of_le h)
    by_order (no h) =
        ap (λ (z : ℤ). rest_of z d) (sub_neg n (k * d) (omega arith)) ∙ below_zero n k d (n / d) (n % d) (div-add-mod' n d) (mod-lt n p) (omega arith)

-- THEOREM: the quotient and the remainder of the sum of volume × stored mean are those of the sum of volume × mean, also below zero
pub stored_quotient : (sum volume : ℕ) → 0 < volume → record { units = oxygen_of (sum / volume); remainder = sum % volume } ≡ divided_by (oxygen_sum_of volume sum) volume
unfolding divided_by oxygen_of
stored_quotient sum volume p = rw (floor_offset sum stored_zero volume p, rest_offset sum stored_zero volume p)

-- units × volume + remainder is the sum, and the remainder is below the volume
pub divided_back : (sum : ℤ) (volume : ℕ) → 0 < volume → (divided_by sum volume).units *ℤ pos volume +ℤ pos (divided_by sum volume).remainder ≡ sum
unfolding divided_by floor rest_of
divided_back (pos n) volume p = ap pos (div-add-mod' n volume)
divided_back (negsuc n) volume p = taken (suc (n / volume) * volume) (volume - 1 - n % volume) (omega (arith, suc-mul (n / volume) volume, div-add-mod' n volume, mod-lt n p))
  where
    taken : (a b : ℕ) → a ≡ b + suc n → neg_ℤ (pos a) +ℤ pos b ≡ negsuc n
    taken a b e = +ℤ_comm (neg_ℤ (pos a)) (pos b) ∙ minus b a ∙ sub_neg b a (omega arith) ∙ ap negsuc (omega arith)

pub rest_below : (sum : ℤ) (volume : ℕ) → 0 < volume → (divided_by sum volume).remainder < volume
unfolding divided_by rest_of
rest_below (pos n) volume p = mod-lt n p
rest_below (negsuc n) volume p = omega arith
