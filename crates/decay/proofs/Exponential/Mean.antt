-- The means of S and F over a reach from averages over its instants: S and F as sums of powers of the time, their integrals, and what these are
-- over one instant.
use mathlib.Core.List.{[], ◌∷◌}
use Prim.Native.Nat.{ℕ, zero, suc, ◌*◌, ◌^◌, ◌≤◌, ◌<◌}
use native.Mathlib.Omega.{arith}
use lib.Dec.{lit<}
use Rattle.decay.specs.Fraction.{Fraction, of_ℕ, ◌+ᶠ◌, -ᶠ◌, ◌-ᶠ◌, ◌*ᶠ◌, ◌÷◌, ◌≈◌, ◌≼◌}
use Rattle.decay.specs.Exact.{steps, foot, sum, exponent, S, F}
use Rattle.decay.specs.Integral.{value_at, integral, mean_of, IntegralOf, series_terms, share_terms, all_terms, mean_s, mean_f}
use Rattle.decay.proofs.Algebra.{≈_refl, ≈_sym, ≈_trans, +ᶠ_cong, *ᶠ_cong, -ᶠ_cong, quote, ring, ring_by, none, ◌&◌, ◌⋅◌, slack, number, ◌⊞◌, ◌⊠◌, multiple, certify, certify_times, positive_whole, ÷_cancel_pos, ÷_cong, ÷_reciprocal, Small, Within, sized, small_weaken, ◌⊞ˢ◌, within_by, of_ℕ_suc}
use Rattle.decay.proofs.Exponential.Terms.{S-cong}
use Rattle.decay.proofs.Exponential.Addition.{small_both}
use Rattle.decay.proofs.Exponential.Compose.{ratio, Rates, same_rates, different, rates, tiny, tiny_nonneg, room}
use Rattle.decay.proofs.Exponential.Powers.{sum_scale, sum_add, integral_head, integral_suc, value_difference, exponent_times, share_same, share_different, series_value, series_value_all, times_time_value}
use Rattle.decay.proofs.Exponential.Instants.{upto}
use Rattle.decay.proofs.Exponential.Integrals.{upto_head, series_integral, S-instant, whole_f, F-instant}

-- THEOREM: the integral is 0 at the head, and its derivative is what is integrated
pub integral_of : (c : ℕ → Fraction) → IntegralOf c (integral c)
integral_of c = record { at_head = integral_head c; derivative = integral_suc c }

-- THEOREM: S and F at instant m are the values of their sums of powers there
pub S-value : (N k v Q m : ℕ) → value_at (all_terms N) (series_terms N (exponent k v Q 1)) (of_ℕ m) ≈ S N (exponent k v Q m)
S-value N k v Q m = ≈_trans (series_value_all N (exponent k v Q 1) (of_ℕ m)) (S-cong N (≈_sym (exponent_times k v Q m)))

pub F-value : (N k1 k2 v Q m : ℕ) → value_at (all_terms N) (share_terms N k1 k2 v Q) (of_ℕ m) ≈ F N k1 k2 v Q m
F-value N k1 k2 v Q m = go (rates N k1 k2 v Q)
  where
    go : Rates N k1 k2 v Q → value_at (all_terms N) (share_terms N k1 k2 v Q) (of_ℕ m) ≈ F N k1 k2 v Q m
    go (same_rates p f) =
        let y = exponent k1 v Q 1 in
        ≈_trans (times_time_value y (share_terms N k1 k2 v Q) (series_terms N y) (share_same N k1 k2 v Q p) N (of_ℕ m))
        (≈_trans (*ᶠ_cong (≈_sym (exponent_times k1 v Q m)) (≈_trans (series_value N y (of_ℕ m)) (S-cong N (≈_sym (exponent_times k1 v Q m))))) (≈_sym (f m)))
    go (different p f) =
        let y1 = exponent k1 v Q 1 in
        let y2 = exponent k2 v Q 1 in
        ≈_trans (value_difference (ratio k1 k2) (share_terms N k1 k2 v Q) (series_terms N y1) (series_terms N y2) (share_different N k1 k2 v Q p) (suc N) (of_ℕ m))
        (≈_trans (*ᶠ_cong (≈_refl (ratio k1 k2)) (+ᶠ_cong (S-value N k1 v Q m) (-ᶠ_cong (S-value N k2 v Q m)))) (≈_sym (f m)))

-- the integrals over the first instant
unfoldable pub first_s : (N k v Q : ℕ) → Fraction
first_s N k v Q = value_at (suc (all_terms N)) (integral (series_terms N (exponent k v Q 1))) (of_ℕ 1)

unfoldable pub first_f : (N k1 k2 v Q : ℕ) → Fraction
first_f N k1 k2 v Q = value_at (suc (all_terms N)) (integral (share_terms N k1 k2 v Q)) (of_ℕ 1)

-- the average over the instants before the foot
abbrev pub average_of : (ℕ → Fraction) → Fraction
average_of f = sum f steps ÷ of_ℕ steps

-- ---- steps summed up

-- where a differs from one instant to the next by g, up to b
gathered : (a g : ℕ → Fraction) (b : Fraction) → a 0 ≈ of_ℕ 0 → (n : ℕ) → ((m : ℕ) → suc m ≤ n → Small (a (suc m) -ᶠ a m -ᶠ g m) b) → Small (a n -ᶠ sum g n) (of_ℕ n *ᶠ b)
unfolding sum
gathered a g b z zero h =
    small_both (ring_by (a 0 ∷ []) (of_ℕ 1 ⋅ z & none) (search quote depth 40 fits 9999) tt) (ring (b ∷ []) (search quote depth 40 fits 9999) tt) (sized (number 0))
gathered a g b z (suc n) h =
    small_both (ring (a n ∷ a (suc n) ∷ g n ∷ sum g n ∷ []) (search quote depth 40 fits 9999) tt) (ring_by (b ∷ of_ℕ n ∷ of_ℕ (suc n) ∷ []) (b ⋅ of_ℕ_suc n & none) (search quote depth 40 fits 9999) tt)
    (gathered a g b z n (λ m l. h m (omega arith)) ⊞ˢ h n (omega arith))

-- then a at the foot over its time is the average of g, up to b
averaged : (a g : ℕ → Fraction) (b : Fraction) → a 0 ≈ of_ℕ 0 → ((m : ℕ) → suc m ≤ foot → Small (a (suc m) -ᶠ a m -ᶠ g m) b) → Within (a foot ÷ of_ℕ steps) (average_of g) b
averaged a g b z h =
    let s = gathered a g b z foot h in
    let p = ÷_cancel_pos (a foot) (positive_whole {n = steps} (lit< tt)) in
    let q = ÷_cancel_pos (sum g steps) (positive_whole {n = steps} (lit< tt)) in
    record {
      high = certify_times 1_023 (b ∷ a foot ∷ sum g steps ∷ (a foot ÷ of_ℕ steps) ∷ average_of g ∷ []) (slack s.high ⊞ multiple (of_ℕ 1) p ⊞ multiple (of_ℕ 1) (≈_sym q)) (search quote depth 40 fits 9999) tt;
      low = certify_times 1_023 (b ∷ a foot ∷ sum g steps ∷ (a foot ÷ of_ℕ steps) ∷ average_of g ∷ []) (slack s.low ⊞ multiple (of_ℕ 1) (≈_sym p) ⊞ multiple (of_ℕ 1) q) (search quote depth 40 fits 9999) tt;
    }

average_scale : (c : Fraction) (f : ℕ → Fraction) → average_of (λ m. c *ᶠ f m) ≈ average_of f *ᶠ c
average_scale c f =
    ring_by (c ∷ average_of f ∷ average_of (λ m. c *ᶠ f m) ∷ sum f steps ∷ sum (λ m. c *ᶠ f m) steps ∷ (of_ℕ 1 ÷ of_ℕ steps) ∷ [])
    (of_ℕ 1 ⋅ ÷_reciprocal (sum (λ m. c *ᶠ f m) steps) (of_ℕ steps) & c ⋅ ÷_reciprocal (sum f steps) (of_ℕ steps) & (of_ℕ 1 ÷ of_ℕ steps) ⋅ sum_scale c f foot & none) (search quote depth 40 fits 9999) tt

average_add : (f g : ℕ → Fraction) → average_of (λ m. f m +ᶠ g m) ≈ average_of f +ᶠ average_of g
average_add f g =
    ring_by (average_of f ∷ average_of g ∷ average_of (λ m. f m +ᶠ g m) ∷ sum f steps ∷ sum g steps ∷ sum (λ m. f m +ᶠ g m) steps ∷ (of_ℕ 1 ÷ of_ℕ steps) ∷ [])
    (of_ℕ 1 ⋅ ÷_reciprocal (sum (λ m. f m +ᶠ g m) steps) (of_ℕ steps) & of_ℕ 1 ⋅ ÷_reciprocal (sum f steps) (of_ℕ steps) & of_ℕ 1 ⋅ ÷_reciprocal (sum g steps) (of_ℕ steps) & (of_ℕ 1 ÷ of_ℕ steps) ⋅ sum_add f g foot & none) (search quote depth 40 fits 9999) tt

-- ---- the means from averages at one term more

close : tiny ≼ of_ℕ 1 ÷ of_ℕ (2 ^ 60)
close = certify (tiny ∷ (of_ℕ 1 ÷ of_ℕ (2 ^ 60)) ∷ []) (number 39_999 ⊠ tiny_nonneg ⊞ slack room) (search quote depth 40 fits 9999) tt

pub S-mean : {N : ℕ} → 40 ≤ N → (k v Q : ℕ) → 0 < Q → k * v ≤ 345_600 * Q
    → Within (mean_s N k v Q) (average_of (λ m. S (suc N) (exponent k v Q m)) *ᶠ first_s N k v Q) (of_ℕ 1 ÷ of_ℕ (2 ^ 60))
unfolding mean_of first_s
S-mean {N} n k v Q p h =
    within_by (÷_cong (series_integral N y (of_ℕ steps)) (≈_refl (of_ℕ steps)))
    (≈_trans (*ᶠ_cong (≈_refl (average_of (λ m. S (suc N) (exponent k v Q m)))) (series_integral N y (of_ℕ 1))) (≈_sym (average_scale (upto N y (of_ℕ 1)) (λ m. S (suc N) (exponent k v Q m)))))
    (averaged (λ m. upto N y (of_ℕ m)) (λ m. upto N y (of_ℕ 1) *ᶠ S (suc N) (exponent k v Q m)) (of_ℕ 1 ÷ of_ℕ (2 ^ 60)) (upto_head N y) step)
  where
    y : Fraction
    y = exponent k v Q 1

    step : (m : ℕ) → suc m ≤ foot → Small (upto N y (of_ℕ (suc m)) -ᶠ upto N y (of_ℕ m) -ᶠ upto N y (of_ℕ 1) *ᶠ S (suc N) (exponent k v Q m)) (of_ℕ 1 ÷ of_ℕ (2 ^ 60))
    step m l = small_weaken (S-instant n (omega arith) k v Q m h l) close

pub F-mean : {N : ℕ} → 40 ≤ N → (k1 k2 v Q : ℕ) → 0 < Q → k1 ≤ 20_000 → k1 * v ≤ 345_600 * Q → k2 * v ≤ 345_600 * Q
    → Within (mean_f N k1 k2 v Q) (average_of (λ m. S (suc N) (exponent k1 v Q m)) *ᶠ first_f N k1 k2 v Q +ᶠ average_of (λ m. F (suc N) k1 k2 v Q m) *ᶠ first_s N k2 v Q) (of_ℕ 1 ÷ of_ℕ (2 ^ 60))
unfolding mean_of first_s first_f whole_f
F-mean {N} n k1 k2 v Q p b h1 h2 =
    within_by (≈_refl (mean_f N k1 k2 v Q)) (≈_sym right)
    (averaged (whole_f N k1 k2 v Q) (λ m. whole_f N k1 k2 v Q 1 *ᶠ f m +ᶠ upto N y (of_ℕ 1) *ᶠ g m) (of_ℕ 1 ÷ of_ℕ (2 ^ 60)) (integral_head (share_terms N k1 k2 v Q) (suc (all_terms N))) (λ m l. F-instant n k1 k2 v Q m b h1 h2 l))
  where
    y : Fraction
    y = exponent k2 v Q 1

    f : ℕ → Fraction
    f m = S (suc N) (exponent k1 v Q m)

    g : ℕ → Fraction
    g m = F (suc N) k1 k2 v Q m

    right : average_of (λ m. whole_f N k1 k2 v Q 1 *ᶠ f m +ᶠ upto N y (of_ℕ 1) *ᶠ g m) ≈ average_of f *ᶠ first_f N k1 k2 v Q +ᶠ average_of g *ᶠ first_s N k2 v Q
    right =
        ≈_trans (average_add (λ m. whole_f N k1 k2 v Q 1 *ᶠ f m) (λ m. upto N y (of_ℕ 1) *ᶠ g m))
        (+ᶠ_cong (average_scale (whole_f N k1 k2 v Q 1) f) (≈_trans (average_scale (upto N y (of_ℕ 1)) g) (*ᶠ_cong (≈_refl (average_of g)) (≈_sym (series_integral N y (of_ℕ 1))))))
