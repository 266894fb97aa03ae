-- The terms of F without a division by k2 − k1: d j = (x × x^(j−1) / (j−1)! + y × d (j−1)) / j for the exponents x and y.
-- Shown: F is the alternating sum d 1 − d 2 + d 3 − .., to N terms for different rates and one more for equal rates.
use mathlib.Core.Path.{◌≡◌, subst}
use mathlib.Core.List.{[], ◌∷◌}
use Prim.Native.Nat.{ℕ, zero, suc, ◌≤◌}
use native.Mathlib.Omega.{arith}
use lib.IntN.{pos}
use Rattle.decay.specs.Fraction.{Fraction, of_ℕ, of_ℤ, over, ◌+ᶠ◌, -ᶠ◌, ◌-ᶠ◌, ◌*ᶠ◌, ◌÷◌, ◌≈◌, ◌≼◌}
use Rattle.decay.specs.Exact.{term, sum, exponent, S, F}
use Rattle.decay.proofs.Algebra.{≈_refl, ≈_sym, ≈_trans, quote, ring, ring_by, none, ◌&◌, ◌⋅◌, nonneg_by, number, ◌⊞◌, ◌⊠◌, multiple, certify_times, of_ℕ_suc}
use Rattle.decay.proofs.Exponential.Division.{over_times}
use Rattle.decay.proofs.Exponential.Sequence.{Same}
use Rattle.decay.proofs.Exponential.Terms.{cancel-≈, e, e_zero, e_suc, e_nonneg, sign, term_signed}
use Rattle.decay.proofs.Exponential.Exponent.{moment, exponent_rate}
use Rattle.decay.proofs.Exponential.Compose.{ratio, ratio_times, Rates, same_rates, different, rates}

-- the terms
unfoldable pub d : Fraction → Fraction → ℕ → Fraction
d x y zero = of_ℕ 0
d x y (suc j) = (x *ᶠ e x j +ᶠ y *ᶠ d x y j) ÷ of_ℕ (suc j)

pub d_zero : (x y : Fraction) → d x y 0 ≈ of_ℕ 0
unfolding d
d_zero x y = ≈_refl (of_ℕ 0)

divided : (n : ℕ) (a : Fraction) → of_ℕ (suc n) *ᶠ (a ÷ of_ℕ (suc n)) ≈ a
unfolding ◌÷◌ of_ℤ
divided n a = go (over 1 (pos (suc n))) (over_times (suc n) (omega arith))
  where
    go : (r : Fraction) → of_ℕ (suc n) *ᶠ r ≈ of_ℕ 1 → of_ℕ (suc n) *ᶠ (a *ᶠ r) ≈ a
    go r h = ring_by (of_ℕ (suc n) ∷ a ∷ r ∷ []) (a ⋅ h & none) (search quote depth 40 fits 9999) tt

pub d_suc : (x y : Fraction) (j : ℕ) → of_ℕ (suc j) *ᶠ d x y (suc j) ≈ x *ᶠ e x j +ᶠ y *ᶠ d x y j
unfolding d
d_suc x y j = divided j (x *ᶠ e x j +ᶠ y *ᶠ d x y j)

pub d_nonneg : {x y : Fraction} → of_ℕ 0 ≼ x → of_ℕ 0 ≼ y → (j : ℕ) → of_ℕ 0 ≼ d x y j
d_nonneg {x} {y} h k zero = nonneg_by (d_zero x y) (number 0)
d_nonneg {x} {y} h k (suc j) =
    certify_times j (of_ℕ (suc j) ∷ x ∷ y ∷ e x j ∷ d x y j ∷ d x y (suc j) ∷ [])
    (h ⊠ e_nonneg h j ⊞ k ⊠ d_nonneg h k j ⊞ multiple (of_ℕ 1) (≈_sym (d_suc x y j))) (search quote depth 40 fits 9999) tt

-- ---- F is their alternating sum

-- for w = k1 / (k2 − k1)
d_different : (w x y : Fraction) → w *ᶠ (y -ᶠ x) ≈ x → Same (d x y) (λ j. w *ᶠ (e y j -ᶠ e x j))
d_different w x y h zero =
    ring_by (w ∷ d x y 0 ∷ e x 0 ∷ e y 0 ∷ []) (of_ℕ 1 ⋅ d_zero x y & w ⋅ e_zero x & w ⋅ e_zero y & none) (search quote depth 40 fits 9999) tt
d_different w x y h (suc j) =
    cancel-≈ j
    (ring_by (of_ℕ (suc j) ∷ w ∷ x ∷ y ∷ e x j ∷ e x (suc j) ∷ e y j ∷ e y (suc j) ∷ d x y j ∷ d x y (suc j) ∷ []) (of_ℕ 1 ⋅ d_suc x y j & y ⋅ d_different w x y h j & w ⋅ e_suc y j & w ⋅ e_suc x j & e x j ⋅ h & none) (search quote depth 40 fits 9999) tt)

-- for equal rates
d_equal : (x : Fraction) (j : ℕ) → d x x (suc j) ≈ x *ᶠ e x j
d_equal x zero = ring_by (x ∷ e x 0 ∷ d x x 0 ∷ d x x 1 ∷ []) (of_ℕ 1 ⋅ d_suc x x 0 & x ⋅ d_zero x x & none) (search quote depth 40 fits 9999) tt
d_equal x (suc j) =
    cancel-≈ (suc j)
    (ring_by (of_ℕ (suc j) ∷ of_ℕ (suc (suc j)) ∷ x ∷ e x j ∷ e x (suc j) ∷ d x x (suc j) ∷ d x x (suc (suc j)) ∷ []) (of_ℕ 1 ⋅ d_suc x x (suc j) & x ⋅ d_equal x j & x ⋅ e_suc x j & (x *ᶠ e x (suc j)) ⋅ of_ℕ_suc (suc j) & none) (search quote depth 40 fits 9999) tt)

-- d with its sign in F: 0, d 1, −d 2, d 3, ..
unfoldable pub turned : Fraction → Fraction → ℕ → Fraction
turned x y j = -ᶠ (sign j *ᶠ d x y j)

-- what a term of S makes of F, for different and for equal rates
pub term_different : (w x y : Fraction) → w *ᶠ (y -ᶠ x) ≈ x → (j : ℕ) → w *ᶠ (term x j -ᶠ term y j) ≈ turned x y j
unfolding turned
term_different w x y h j =
    ring_by (w ∷ term x j ∷ term y j ∷ sign j ∷ e x j ∷ e y j ∷ d x y j ∷ []) (w ⋅ term_signed x j & w ⋅ term_signed y j & sign j ⋅ d_different w x y h j & none) (search quote depth 40 fits 9999) tt

pub turned_zero : (x y : Fraction) → turned x y 0 ≈ of_ℕ 0
unfolding turned
turned_zero x y = ring_by (sign 0 ∷ d x y 0 ∷ []) (sign 0 ⋅ d_zero x y & none) (search quote depth 40 fits 9999) tt

pub term_equal : (x : Fraction) (j : ℕ) → x *ᶠ term x j ≈ turned x x (suc j)
unfolding turned sign
term_equal x j =
    ring_by (x ∷ term x j ∷ sign j ∷ e x j ∷ d x x (suc j) ∷ []) (x ⋅ term_signed x j & sign j ⋅ d_equal x j & none) (search quote depth 40 fits 9999) tt

turned_different : (w x y : Fraction) → w *ᶠ (y -ᶠ x) ≈ x → (N : ℕ) → w *ᶠ (S N x -ᶠ S N y) ≈ sum (turned x y) N
unfolding S sum
turned_different w x y h zero = ring (w ∷ []) (search quote depth 40 fits 9999) tt
turned_different w x y h (suc N) =
    ring_by (w ∷ sum (term x) N ∷ sum (term y) N ∷ term x N ∷ term y N ∷ turned x y N ∷ sum (turned x y) N ∷ []) (of_ℕ 1 ⋅ turned_different w x y h N & of_ℕ 1 ⋅ term_different w x y h N & none) (search quote depth 40 fits 9999) tt

turned_equal : (x : Fraction) (N : ℕ) → x *ᶠ S N x ≈ sum (turned x x) (suc N)
unfolding S sum
turned_equal x zero = ring_by (x ∷ turned x x 0 ∷ []) (of_ℕ 1 ⋅ turned_zero x x & none) (search quote depth 40 fits 9999) tt
turned_equal x (suc N) =
    ring_by (x ∷ sum (term x) N ∷ term x N ∷ turned x x N ∷ turned x x (suc N) ∷ sum (turned x x) N ∷ []) (of_ℕ 1 ⋅ turned_equal x N & of_ℕ 1 ⋅ term_equal x N & none) (search quote depth 40 fits 9999) tt

-- k1 / (k2 − k1) takes the difference of the exponents to the first
pub ratio_exponent : (k1 k2 v Q m : ℕ) → ¬ (k1 ≡ k2) → ratio k1 k2 *ᶠ (exponent k2 v Q m -ᶠ exponent k1 v Q m) ≈ exponent k1 v Q m
ratio_exponent k1 k2 v Q m h =
    ring_by (ratio k1 k2 ∷ exponent k1 v Q m ∷ exponent k2 v Q m ∷ of_ℕ k1 ∷ of_ℕ k2 ∷ of_ℕ v ∷ of_ℕ m ∷ moment Q ∷ []) (ratio k1 k2 ⋅ exponent_rate k2 v Q m & ratio k1 k2 ⋅ exponent_rate k1 v Q m & of_ℕ 1 ⋅ exponent_rate k1 v Q m & (of_ℕ v *ᶠ of_ℕ m *ᶠ moment Q) ⋅ ratio_times k1 k2 h & none) (search quote depth 40 fits 9999) tt

-- F at instant m is the sum of M terms, for an M that is N or N + 1
pub record Summed (N k1 k2 v Q m : ℕ) : Type 0 where
  pub terms : ℕ
  pub enough : N ≤ terms
  pub is_sum : F N k1 k2 v Q m ≈ sum (turned (exponent k1 v Q m) (exponent k2 v Q m)) terms

pub F-summed : (N k1 k2 v Q m : ℕ) → Summed N k1 k2 v Q m
F-summed N k1 k2 v Q m = go (rates N k1 k2 v Q)
  where
    go : Rates N k1 k2 v Q → Summed N k1 k2 v Q m
    go (same_rates p f) =
        record {
          terms = suc N;
          enough = omega arith;
          is_sum = subst (λ (k : ℕ). F N k1 k2 v Q m ≈ sum (turned (exponent k1 v Q m) (exponent k v Q m)) (suc N)) p (≈_trans (f m) (turned_equal (exponent k1 v Q m) N));
        }
    go (different p f) =
        record {
          terms = N;
          enough = omega arith;
          is_sum = ≈_trans (f m) (turned_different (ratio k1 k2) (exponent k1 v Q m) (exponent k2 v Q m) (ratio_exponent k1 k2 v Q m p) N);
        }
