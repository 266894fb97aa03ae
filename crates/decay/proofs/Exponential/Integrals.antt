-- The integrals of S and F of the specs as sums of the terms of the integral of S, and one instant more of each.
-- Shown: for S up to a remainder below 2^-78, for F below 2^-60.
use mathlib.Core.Path.{◌≡◌, subst}
use mathlib.Core.List.{[], ◌∷◌}
use Prim.Native.Nat.{ℕ, zero, suc, ◌*◌, ◌^◌, ◌≤◌, ◌<◌}
use native.Mathlib.Omega.{arith}
use Rattle.decay.specs.Fraction.{Fraction, of_ℕ, ◌+ᶠ◌, -ᶠ◌, ◌-ᶠ◌, ◌*ᶠ◌, ◌÷◌, ◌≈◌, ◌≼◌}
use Rattle.decay.specs.Exact.{power, term, sum, exponent, S, F}
use Rattle.decay.specs.Integral.{value_at, integral, times_time, series_terms, share_terms, all_terms}
use Rattle.decay.proofs.Algebra.{≈_refl, ≈_sym, ≈_trans, +ᶠ_cong, *ᶠ_cong, -ᶠ_cong, quote, ring, ring_by, none, ◌&◌, ◌⋅◌, slack, number, ◌⊞◌, ◌⊠◌, certify, certify_by, Small, small, sized, small_minus, small_weaken, small_by, ◌⊞ˢ◌, ◌⊠ˢ◌, of_ℕ_mono, of_ℕ_suc}
use Rattle.decay.proofs.Exponential.Sequence.{shift, Same, sum_cong, sum_front}
use Rattle.decay.proofs.Exponential.Terms.{cancel-≈, term_series, S-cong}
use Rattle.decay.proofs.Exponential.Exponent.{exponent_nonneg, exponent_le_4}
use Rattle.decay.proofs.Exponential.Compose.{ratio, ratio_size, Rates, same_rates, different, rates, tiny, tiny_nonneg, room, wide, S-compose, S-at_zero}
use Rattle.decay.proofs.Exponential.Powers.{sum_minus, sum_scale, sum_below, integral_zero, integral_suc, integral_head, integral_difference, value_difference, term_scaled, exponent_times, series_below, series_top, share_same, share_different}
use Rattle.decay.proofs.Exponential.Instants.{piece, piece_zero, piece_suc, piece_terms, upto, upto_cong, instant_more}

-- ---- S

-- the terms of the integral that are not 0, and the last one
kept : (N : ℕ) (y : Fraction) (j : ℕ) → j < suc N → integral (series_terms N y) j ≈ integral (term y) j
kept N y zero h = ≈_trans (integral_zero (series_terms N y)) (≈_sym (integral_zero (term y)))
kept N y (suc j) h = cancel-≈ j (≈_trans (integral_suc (series_terms N y) j) (≈_trans (series_below N y j (omega arith)) (≈_sym (integral_suc (term y) j))))

last : (N : ℕ) (y : Fraction) → integral (series_terms N y) (suc N) ≈ of_ℕ 0
last N y =
    cancel-≈ N (≈_trans (integral_suc (series_terms N y) N) (≈_trans (series_top N y) (ring (of_ℕ (suc N) ∷ []) (search quote depth 40 fits 9999) tt)))

all_kept : (N : ℕ) (y t : Fraction) → value_at (suc N) (integral (series_terms N y)) t ≈ upto N y t
unfolding value_at upto piece
all_kept N y t =
    sum_below (λ j. integral (series_terms N y) j *ᶠ power t j) (λ j. integral (term y) j *ᶠ power t j) (suc N) (λ j h. *ᶠ_cong (kept N y j h) (≈_refl (power t j)))

pub series_integral : (N : ℕ) (y t : Fraction) → value_at (suc (all_terms N)) (integral (series_terms N y)) t ≈ upto N y t
unfolding value_at sum
series_integral N y t =
    ring_by (value_at (suc N) (integral (series_terms N y)) t ∷ integral (series_terms N y) (suc N) ∷ power t (suc N) ∷ upto N y t ∷ []) (of_ℕ 1 ⋅ all_kept N y t & power t (suc N) ⋅ last N y & none) (search quote depth 40 fits 9999) tt

pub upto_head : (n : ℕ) (y : Fraction) → upto n y (of_ℕ 0) ≈ of_ℕ 0
unfolding value_at upto piece
upto_head n y = integral_head (term y) (suc n)

-- y times the integral is what S has lost
pub upto_lost : (n : ℕ) (y t : Fraction) → y *ᶠ upto n y t ≈ of_ℕ 1 -ᶠ S (suc n) (t *ᶠ y)
unfolding upto S
upto_lost n y t =
    let f = piece y t in
    let f0 = piece y (of_ℕ 0) in
    let g = term (t *ᶠ y) in
    let g0 = term (of_ℕ 0 *ᶠ y) in
    ring_by (y ∷ sum f (suc n) ∷ sum f0 (suc n) ∷ sum g (suc n) ∷ sum g0 (suc n) ∷ sum (λ j. f j -ᶠ f0 j) (suc n) ∷ sum (λ j. y *ᶠ (f j -ᶠ f0 j)) (suc n) ∷ sum (λ j. g0 j -ᶠ g j) (suc n) ∷ [])
    (of_ℕ 1 ⋅ sum_scale y (λ j. f j -ᶠ f0 j) (suc n) & y ⋅ sum_minus f f0 (suc n) & of_ℕ 1 ⋅ sum_cong (λ j. y *ᶠ (f j -ᶠ f0 j)) (λ j. g0 j -ᶠ g j) (piece_terms y (of_ℕ 0) t) (suc n) & of_ℕ 1 ⋅ sum_minus g0 g (suc n) & y ⋅ upto_head n y & of_ℕ 1 ⋅ none_lost & none) (search quote depth 40 fits 9999) tt
  where
    none_lost : sum (term (of_ℕ 0 *ᶠ y)) (suc n) ≈ of_ℕ 1
    none_lost = S-at_zero (omega arith) (ring (y ∷ []) (search quote depth 40 fits 9999) tt)

-- ---- F with equal rates

-- y t S has the integral of S, less t S
module _ (N : ℕ) (y t : Fraction) (c : ℕ → Fraction) (h : Same c (λ j. y *ᶠ times_time (series_terms N y) j)) where
  time_piece : (j : ℕ) → j < suc N → integral c (suc j) *ᶠ power t (suc j) ≈ piece y t (suc j) -ᶠ t *ᶠ term (t *ᶠ y) j
  unfolding times_time power
  time_piece zero l =
      ring_by (y ∷ t ∷ c 0 ∷ integral c 1 ∷ piece y t 1 ∷ term (t *ᶠ y) 0 ∷ []) (t ⋅ integral_suc c 0 & t ⋅ h 0 & of_ℕ 1 ⋅ piece_suc y t 0 & none) (search quote depth 40 fits 9999) tt
  time_piece (suc j) l =
      cancel-≈ (suc j)
      (ring_by (y ∷ t ∷ of_ℕ (suc j) ∷ of_ℕ (suc (suc j)) ∷ c (suc j) ∷ series_terms N y j ∷ power t j ∷ integral c (suc (suc j)) ∷ piece y t (suc (suc j)) ∷ term y j ∷ term (t *ᶠ y) j ∷ term (t *ᶠ y) (suc j) ∷ [])
      ((power t j *ᶠ t *ᶠ t) ⋅ integral_suc c (suc j) & (power t j *ᶠ t *ᶠ t) ⋅ h (suc j) & (y *ᶠ power t j *ᶠ t *ᶠ t) ⋅ series_below N y j (omega arith) & (y *ᶠ t *ᶠ t) ⋅ term_scaled y t j & of_ℕ 1 ⋅ piece_suc y t (suc j) & t ⋅ (term_series (t *ᶠ y)).next j & (t *ᶠ term (t *ᶠ y) (suc j)) ⋅ of_ℕ_suc (suc j) & none) (search quote depth 40 fits 9999) tt)

  pub time_integral : value_at (suc (all_terms N)) (integral c) t ≈ upto (suc N) y t -ᶠ t *ᶠ S (suc N) (t *ᶠ y)
  unfolding value_at upto S
  time_integral =
      let f : ℕ → Fraction = λ j. integral c j *ᶠ power t j in
      let g = piece y t in
      let k = term (t *ᶠ y) in
      ring_by (t ∷ integral c 0 ∷ power t 0 ∷ g 0 ∷ sum f (suc (suc N)) ∷ sum g (suc (suc N)) ∷ sum (shift f) (suc N) ∷ sum (shift g) (suc N) ∷ sum k (suc N) ∷ sum (λ j. t *ᶠ k j) (suc N) ∷ sum (λ j. g (suc j) -ᶠ t *ᶠ k j) (suc N) ∷ [])
      (of_ℕ 1 ⋅ sum_front f (suc N) & of_ℕ 1 ⋅ sum_front g (suc N) & power t 0 ⋅ integral_zero c & of_ℕ 1 ⋅ piece_zero y t & of_ℕ 1 ⋅ sum_below (shift f) (λ j. g (suc j) -ᶠ t *ᶠ k j) (suc N) time_piece & of_ℕ 1 ⋅ sum_minus (shift g) (λ j. t *ᶠ k j) (suc N) & of_ℕ 1 ⋅ sum_scale t k (suc N) & none) (search quote depth 40 fits 9999) tt

-- ---- one instant more

pub S-instant : {N n : ℕ} → 40 ≤ n → n ≤ N → (k v Q m : ℕ) → k * v ≤ 345_600 * Q → suc m ≤ 1024
    → let y = exponent k v Q 1 in Small (upto n y (of_ℕ (suc m)) -ᶠ upto n y (of_ℕ m) -ᶠ upto n y (of_ℕ 1) *ᶠ S N (exponent k v Q m)) tiny
S-instant {N} {n} few below k v Q m h l =
    let y = exponent k v Q 1 in
    let four : y +ᶠ of_ℕ m *ᶠ y ≼ of_ℕ 4 =
    certify_by (y ∷ exponent k v Q (suc m) ∷ of_ℕ m ∷ of_ℕ (suc m) ∷ []) (of_ℕ 1 ⋅ exponent_times k v Q (suc m) & y ⋅ of_ℕ_suc m & none) (slack (exponent_le_4 k v Q (suc m) h l)) (search quote depth 40 fits 9999) tt in
    small_by
    (ring_by (upto n y (of_ℕ (suc m)) ∷ upto n y (of_ℕ m +ᶠ of_ℕ 1) ∷ upto n y (of_ℕ m) ∷ upto n y (of_ℕ 1) ∷ S N (exponent k v Q m) ∷ S N (of_ℕ m *ᶠ y) ∷ []) (of_ℕ 1 ⋅ upto_cong n y (of_ℕ_suc m) & upto n y (of_ℕ 1) ⋅ S-cong N (exponent_times k v Q m) & none) (search quote depth 40 fits 9999) tt)
    (instant_more few below (exponent_nonneg k v Q 1) (number m) four)

-- the integral of F from the head to instant m
unfoldable pub whole_f : (N k1 k2 v Q m : ℕ) → Fraction
whole_f N k1 k2 v Q m = value_at (suc (all_terms N)) (integral (share_terms N k1 k2 v Q)) (of_ℕ m)

whole_f_same : (N k1 k2 v Q m : ℕ) → k1 ≡ k2 → whole_f N k1 k2 v Q m ≈ upto (suc N) (exponent k1 v Q 1) (of_ℕ m) -ᶠ of_ℕ m *ᶠ S (suc N) (exponent k1 v Q m)
unfolding whole_f
whole_f_same N k1 k2 v Q m p =
    ≈_trans (time_integral N (exponent k1 v Q 1) (of_ℕ m) (share_terms N k1 k2 v Q) (share_same N k1 k2 v Q p))
    (+ᶠ_cong (≈_refl (upto (suc N) (exponent k1 v Q 1) (of_ℕ m))) (-ᶠ_cong (*ᶠ_cong (≈_refl (of_ℕ m)) (S-cong (suc N) (≈_sym (exponent_times k1 v Q m))))))

whole_f_different : (N k1 k2 v Q m : ℕ) → ¬ (k1 ≡ k2) → whole_f N k1 k2 v Q m ≈ ratio k1 k2 *ᶠ (upto N (exponent k1 v Q 1) (of_ℕ m) -ᶠ upto N (exponent k2 v Q 1) (of_ℕ m))
unfolding whole_f
whole_f_different N k1 k2 v Q m p =
    let c1 = series_terms N (exponent k1 v Q 1) in
    let c2 = series_terms N (exponent k2 v Q 1) in
    ≈_trans (value_difference (ratio k1 k2) (integral (share_terms N k1 k2 v Q)) (integral c1) (integral c2) (integral_difference (ratio k1 k2) (share_terms N k1 k2 v Q) c1 c2 (share_different N k1 k2 v Q p)) (suc (suc N)) (of_ℕ m))
    (*ᶠ_cong (≈_refl (ratio k1 k2)) (+ᶠ_cong (series_integral N (exponent k1 v Q 1) (of_ℕ m)) (-ᶠ_cong (series_integral N (exponent k2 v Q 1) (of_ℕ m)))))

-- the remainder for equal rates
narrow : (m : ℕ) → suc m ≤ 1024 → tiny +ᶠ of_ℕ (suc m) *ᶠ tiny ≼ of_ℕ 1 ÷ of_ℕ (2 ^ 60)
narrow m h =
    certify (of_ℕ (suc m) ∷ tiny ∷ (of_ℕ 1 ÷ of_ℕ (2 ^ 60)) ∷ []) (slack (of_ℕ_mono h) ⊠ tiny_nonneg ⊞ number 38_975 ⊠ tiny_nonneg ⊞ slack room) (search quote depth 40 fits 9999) tt

pub F-instant : {N : ℕ} → 40 ≤ N → (k1 k2 v Q m : ℕ) → k1 ≤ 20_000 → k1 * v ≤ 345_600 * Q → k2 * v ≤ 345_600 * Q → suc m ≤ 1024
    → Small (whole_f N k1 k2 v Q (suc m) -ᶠ whole_f N k1 k2 v Q m -ᶠ (whole_f N k1 k2 v Q 1 *ᶠ S (suc N) (exponent k1 v Q m) +ᶠ upto N (exponent k2 v Q 1) (of_ℕ 1) *ᶠ F (suc N) k1 k2 v Q m)) (of_ℕ 1 ÷ of_ℕ (2 ^ 60))
F-instant {N} n k1 k2 v Q m b h1 h2 l = go (rates (suc N) k1 k2 v Q)
  where
    few : 40 ≤ suc N
    few = omega arith

    below : N ≤ suc N
    below = omega arith

    level : suc N ≤ suc N
    level = omega arith

    go : Rates (suc N) k1 k2 v Q
        → Small (whole_f N k1 k2 v Q (suc m) -ᶠ whole_f N k1 k2 v Q m -ᶠ (whole_f N k1 k2 v Q 1 *ᶠ S (suc N) (exponent k1 v Q m) +ᶠ upto N (exponent k2 v Q 1) (of_ℕ 1) *ᶠ F (suc N) k1 k2 v Q m)) (of_ℕ 1 ÷ of_ℕ (2 ^ 60))
    go (same_rates p f) =
        let x = exponent k1 v Q m in
        let y = exponent k1 v Q 1 in
        let z = exponent k1 v Q (suc m) in
        let y2 = exponent k2 v Q 1 in
        let T = S (suc N) in
        let other : upto N y2 (of_ℕ 1) ≈ upto N y (of_ℕ 1) = subst (λ (k : ℕ). upto N (exponent k v Q 1) (of_ℕ 1) ≈ upto N y (of_ℕ 1)) p (≈_refl (upto N y (of_ℕ 1))) in
        let lost : y *ᶠ upto N y (of_ℕ 1) ≈ of_ℕ 1 -ᶠ T y = ≈_trans (upto_lost N y (of_ℕ 1)) (+ᶠ_cong (≈_refl (of_ℕ 1)) (-ᶠ_cong (S-cong (suc N) (≈_sym (exponent_times k1 v Q 1))))) in
        small_by
        (ring_by (whole_f N k1 k2 v Q (suc m) ∷ whole_f N k1 k2 v Q m ∷ whole_f N k1 k2 v Q 1 ∷ upto (suc N) y (of_ℕ (suc m)) ∷ upto (suc N) y (of_ℕ m) ∷ upto (suc N) y (of_ℕ 1) ∷ upto N y (of_ℕ 1) ∷ upto N y2 (of_ℕ 1) ∷ F (suc N) k1 k2 v Q m ∷ T x ∷ T y ∷ T z ∷ x ∷ y ∷ of_ℕ m ∷ of_ℕ (suc m) ∷ [])
        (of_ℕ 1 ⋅ whole_f_same N k1 k2 v Q (suc m) p & of_ℕ 1 ⋅ whole_f_same N k1 k2 v Q m p & T x ⋅ whole_f_same N k1 k2 v Q 1 p & upto N y2 (of_ℕ 1) ⋅ f m & (x *ᶠ T x) ⋅ other & (T x *ᶠ upto N y (of_ℕ 1)) ⋅ exponent_times k1 v Q m & (of_ℕ m *ᶠ T x) ⋅ lost & (T x *ᶠ T y) ⋅ of_ℕ_suc m & none) (search quote depth 40 fits 9999) tt)
        (small_weaken (S-instant few level k1 v Q m h1 l ⊞ˢ small_minus (sized (number (suc m)) ⊠ˢ small (S-compose few k1 v Q m h1 l))) (narrow m l))
    go (different p f) =
        let y1 = exponent k1 v Q 1 in
        let y2 = exponent k2 v Q 1 in
        let T1 = S (suc N) (exponent k1 v Q m) in
        let T2 = S (suc N) (exponent k2 v Q m) in
        small_by
        (ring_by (whole_f N k1 k2 v Q (suc m) ∷ whole_f N k1 k2 v Q m ∷ whole_f N k1 k2 v Q 1 ∷ upto N y1 (of_ℕ (suc m)) ∷ upto N y1 (of_ℕ m) ∷ upto N y1 (of_ℕ 1) ∷ upto N y2 (of_ℕ (suc m)) ∷ upto N y2 (of_ℕ m) ∷ upto N y2 (of_ℕ 1) ∷ F (suc N) k1 k2 v Q m ∷ T1 ∷ T2 ∷ ratio k1 k2 ∷ [])
        (of_ℕ 1 ⋅ whole_f_different N k1 k2 v Q (suc m) p & of_ℕ 1 ⋅ whole_f_different N k1 k2 v Q m p & T1 ⋅ whole_f_different N k1 k2 v Q 1 p & upto N y2 (of_ℕ 1) ⋅ f m & none) (search quote depth 40 fits 9999) tt)
        (small_weaken (ratio_size k1 k2 ⊠ˢ (S-instant n below k1 v Q m h1 l ⊞ˢ small_minus (S-instant n below k2 v Q m h2 l))) (wide k1 b))
