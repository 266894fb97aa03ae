-- One step: S and F at exponents up to 1/256 against the first terms of their series.
-- Shown: what is left of S after six terms is at most 2^-56, and what is left of F after d 5 is at most 2^-53.
use mathlib.Core.List.{[], ◌∷◌}
use Prim.Native.Nat.{ℕ, zero, suc, ◌*◌, ◌^◌, ◌≤◌}
use native.Mathlib.Nat.{le_of_suc-le-suc}
use native.Mathlib.Omega.{arith}
use lib.Signed.{le_z_yes}
use Rattle.decay.specs.Fraction.{Fraction, of_ℕ, of_ℤ, over, ◌+ᶠ◌, -ᶠ◌, ◌-ᶠ◌, ◌*ᶠ◌, ◌÷◌, ◌≈◌, ◌≼◌}
use Rattle.decay.specs.Exact.{power, factorial, term, sum, exponent, S, F}
use Rattle.decay.proofs.Algebra.{≈_refl, ≈_sym, quote, ring, ring_by, none, ◌&◌, ◌⋅◌, ≼_trans, slack, number, ◌⊞◌, ◌⊠◌, multiple, certify, certify_times, Small, ÷_nonneg, Within, within, sized, small_minus, small_weaken, ◌⊠ˢ◌, within_by, of_ℕ_suc}
use Rattle.decay.proofs.Exponential.Terms.{e, e_zero, e_suc, e_nonneg, e_mono, term_small, sign}
use Rattle.decay.proofs.Exponential.Tail.{up_to, Dominated, sum_moves, e_tail, sixth_term}
use Rattle.decay.proofs.Exponential.Addition.{small_both}
use Rattle.decay.proofs.Exponential.Exponent.{exponent_nonneg, exponent_step}
use Rattle.decay.proofs.Exponential.Used.{d, d_zero, d_suc, d_nonneg, turned, turned_zero, F-summed}

-- ---- sizes of the terms of F

-- a sign is 1 or −1
sign_size : (j : ℕ) → Small (sign j) (of_ℕ 1)
unfolding sign
sign_size zero = sized (number 1)
sign_size (suc j) = small_minus (sign_size j)

-- 0, x, x c, x c^2 / 2, ..
unfoldable pub majorant : Fraction → Fraction → ℕ → Fraction
majorant x c zero = of_ℕ 0
majorant x c (suc j) = x *ᶠ e c j

sum_majorant : (x c : Fraction) (n : ℕ) → sum (majorant x c) (suc n) ≈ x *ᶠ sum (e c) n
unfolding sum majorant
sum_majorant x c zero = ring (x ∷ []) (search quote depth 40 fits 9999) tt
sum_majorant x c (suc n) = ring_by (x ∷ sum (majorant x c) n ∷ majorant x c n ∷ sum (e c) n ∷ e c n ∷ []) (of_ℕ 1 ⋅ sum_majorant x c n & none) (search quote depth 40 fits 9999) tt

module _ {x y c : Fraction} (x_sign : of_ℕ 0 ≼ x) (y_sign : of_ℕ 0 ≼ y) (x_small : x ≼ c) (y_small : y ≼ c) where
  c_sign : of_ℕ 0 ≼ c
  c_sign = ≼_trans x_sign x_small

  -- d (j + 1) is at most x × c^j / j!
  pub d_small : (j : ℕ) → d x y (suc j) ≼ x *ᶠ e c j
  d_small zero =
      certify (x ∷ y ∷ e x 0 ∷ e c 0 ∷ d x y 0 ∷ d x y 1 ∷ [])
      (multiple x (≈_sym (e_zero c)) ⊞ multiple (of_ℕ 1) (d_suc x y 0) ⊞ multiple x (e_zero x) ⊞ multiple y (d_zero x y)) (search quote depth 40 fits 9999) tt
  d_small (suc j) =
      certify_times (suc j) (of_ℕ (suc j) ∷ of_ℕ (suc (suc j)) ∷ x ∷ y ∷ c ∷ e x (suc j) ∷ e c j ∷ e c (suc j) ∷ d x y (suc j) ∷ d x y (suc (suc j)) ∷ [])
      (x_sign ⊠ slack (e_mono x_sign x_small (suc j)) ⊞ c_sign ⊠ slack (d_small j) ⊞ slack y_small ⊠ d_nonneg x_sign y_sign (suc j) ⊞ multiple (of_ℕ 1) (d_suc x y (suc j)) ⊞ multiple x (≈_sym (e_suc c j)) ⊞ multiple (x *ᶠ e c (suc j)) (≈_sym (of_ℕ_suc (suc j)))) (search quote depth 40 fits 9999) tt

  -- the signed terms of F, and their sums
  pub turned_small : Dominated (turned x y) (majorant x c)
  unfolding turned majorant
  turned_small zero = small_both (turned_zero x y) (≈_refl (of_ℕ 0)) (sized (number 0))
  turned_small (suc j) =
      small_both (ring (sign (suc j) ∷ d x y (suc j) ∷ []) (search quote depth 40 fits 9999) tt) (ring (x ∷ e c j ∷ []) (search quote depth 40 fits 9999) tt)
      (small_minus (sign_size (suc j)) ⊠ˢ small_weaken (sized (d_nonneg x_sign y_sign (suc j))) (d_small j))

-- ---- one step

-- the first terms of F
abbrev pub F-six : Fraction → Fraction → Fraction
F-six x y = d x y 1 -ᶠ d x y 2 +ᶠ d x y 3 -ᶠ d x y 4 +ᶠ d x y 5

turned_six : (x y : Fraction) → sum (turned x y) 6 ≈ F-six x y
unfolding sum turned sign
turned_six x y =
    ring_by (d x y 0 ∷ d x y 1 ∷ d x y 2 ∷ d x y 3 ∷ d x y 4 ∷ d x y 5 ∷ []) (of_ℕ 1 ⋅ d_zero x y & none) (search quote depth 40 fits 9999) tt

-- 1 / 256, the greatest exponent of a step
abbrev step : Fraction
step = of_ℕ 1 ÷ of_ℕ 256

step_small : of_ℕ 2 *ᶠ step ≼ of_ℕ 6
unfolding ◌*ᶠ◌ ◌÷◌ over of_ℤ
step_small = record { across = le_z_yes tt }

sixth_smaller : of_ℕ 2 *ᶠ step ≼ of_ℕ 7
sixth_smaller = certify (step ∷ []) (slack step_small ⊞ number 1) (search quote depth 40 fits 9999) tt

fifth_term : step *ᶠ (of_ℕ 2 *ᶠ e step 5) ≼ of_ℕ 1 ÷ of_ℕ (2 ^ 53)
unfolding e power factorial ◌÷◌ over ◌*ᶠ◌ of_ℤ
fifth_term = record { across = le_z_yes tt }

step_sign : of_ℕ 0 ≼ step
step_sign = ÷_nonneg (number 1) (number 256)

-- what is left after six terms, of S
pub e_past_six : {y : Fraction} {M : ℕ} → of_ℕ 0 ≼ y → y ≼ of_ℕ 1 ÷ of_ℕ 256 → 6 ≤ M → sum (e y) M -ᶠ sum (e y) 6 ≼ of_ℕ 1 ÷ of_ℕ (2 ^ 56)
e_past_six {y} {M} h k l =
    let short : of_ℕ 2 *ᶠ y ≼ of_ℕ 7 = certify (y ∷ step ∷ []) (number 2 ⊠ slack k ⊞ slack sixth_smaller) (search quote depth 40 fits 9999) tt in
    ≼_trans (e_tail h short (up_to l))
    (certify (e y 6 ∷ e step 6 ∷ (of_ℕ 1 ÷ of_ℕ (2 ^ 56)) ∷ []) (number 2 ⊠ slack (e_mono h k 6) ⊞ slack sixth_term) (search quote depth 40 fits 9999) tt)

-- and of F
pub majorant_past_six : {x : Fraction} → of_ℕ 0 ≼ x → x ≼ of_ℕ 1 ÷ of_ℕ 256 → {M : ℕ} → 6 ≤ M → sum (majorant x step) M -ᶠ sum (majorant x step) 6 ≼ of_ℕ 1 ÷ of_ℕ (2 ^ 53)
majorant_past_six h k {M = zero} l = absurd (omega arith)
majorant_past_six {x} h k {M = suc M} l =
    certify (x ∷ step ∷ sum (majorant x step) (suc M) ∷ sum (majorant x step) 6 ∷ sum (e step) M ∷ sum (e step) 5 ∷ e step 5 ∷ (of_ℕ 1 ÷ of_ℕ (2 ^ 53)) ∷ [])
    (h ⊠ slack (e_tail step_sign step_small (up_to (le_of_suc-le-suc l))) ⊞ multiple (of_ℕ 1) (sum_majorant x step M) ⊞ multiple (of_ℕ 1) (≈_sym (sum_majorant x step 5)) ⊞ slack k ⊠ (number 2 ⊠ e_nonneg step_sign 5) ⊞ slack fifth_term)
    (search quote depth 40 fits 9999) tt

-- six terms of S
pub S-short : {y : Fraction} {N : ℕ} → 40 ≤ N → of_ℕ 0 ≼ y → y ≼ of_ℕ 1 ÷ of_ℕ 256 → Within (S N y) (S 6 y) (of_ℕ 1 ÷ of_ℕ (2 ^ 56))
unfolding S
S-short {y} {N} n h k = within (small_weaken (sum_moves (term y) (e y) (term_small h) (up_to (omega arith))) (e_past_six h k (omega arith)))

-- six terms of F, of which the first is 0
pub F-short : {N : ℕ} → 40 ≤ N → (k1 k2 v Q : ℕ) → k1 * v ≤ 345_600 * Q → k2 * v ≤ 345_600 * Q
    → Within (F N k1 k2 v Q 1) (F-six (exponent k1 v Q 1) (exponent k2 v Q 1)) (of_ℕ 1 ÷ of_ℕ (2 ^ 53))
F-short {N} n k1 k2 v Q h1 h2 =
    let x = exponent k1 v Q 1 in
    let y = exponent k2 v Q 1 in
    let x_sign = exponent_nonneg k1 v Q 1 in
    let x_step = exponent_step k1 v Q h1 in
    let s = F-summed N k1 k2 v Q 1 in
    let many : 6 ≤ s.terms = omega (arith, s.enough) in
    within_by s.is_sum (≈_sym (turned_six x y))
    (within (small_weaken (sum_moves (turned x y) (majorant x step) (turned_small x_sign (exponent_nonneg k2 v Q 1) x_step (exponent_step k2 v Q h2)) (up_to many)) (majorant_past_six x_sign x_step many)))
