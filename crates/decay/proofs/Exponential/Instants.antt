-- The integral of S over one instant more, without a division: as series, the integral from the head to s + t is that to s plus e^(−s y) times that to t.
-- Shown: this for the terms, and for the sums of 40 terms or more up to a remainder below 2^-78.
use mathlib.Core.List.{[], ◌∷◌}
use Prim.Native.Nat.{ℕ, zero, suc, ◌^◌, ◌≤◌}
use Rattle.decay.specs.Fraction.{Fraction, of_ℕ, ◌+ᶠ◌, -ᶠ◌, ◌-ᶠ◌, ◌*ᶠ◌, ◌÷◌, ◌≈◌, ◌≼◌}
use Rattle.decay.specs.Exact.{power, term, sum, S}
use Rattle.decay.specs.Integral.{integral}
use Rattle.decay.proofs.Algebra.{≈_refl, ≈_sym, ≈_trans, *ᶠ_cong, quote, ring, ring_by, none, ◌&◌, ◌⋅◌, slack, number, ◌⊞◌, ◌⊠◌, multiple, certify_times, Small, small_minus, small_weaken, small_by, of_ℕ_suc}
use Rattle.decay.proofs.Exponential.Sequence.{shift, derive, conv, Same, sum_cong, conv_cong, conv_scale_l, conv_scale_r, leibniz}
use Rattle.decay.proofs.Exponential.Terms.{cancel-≈, e, e_nonneg, term_series, term_cong, term_small, conv_term}
use Rattle.decay.proofs.Exponential.Tail.{Dominated, past_40, still_small_past_40}
use Rattle.decay.proofs.Exponential.Addition.{rest, rest_suc, rest_moves}
use Rattle.decay.proofs.Exponential.Powers.{sum_minus, integral_zero, integral_suc, term_scaled}

-- the terms of the integral of S, for an exponent y × t, from the head to t
unfoldable pub piece : (y t : Fraction) → ℕ → Fraction
piece y t j = integral (term y) j *ᶠ power t j

pub piece_zero : (y t : Fraction) → piece y t 0 ≈ of_ℕ 0
unfolding piece
piece_zero y t = ring_by (integral (term y) 0 ∷ power t 0 ∷ []) (power t 0 ⋅ integral_zero (term y) & none) (search quote depth 40 fits 9999) tt

pub piece_suc : (y t : Fraction) (j : ℕ) → of_ℕ (suc j) *ᶠ piece y t (suc j) ≈ t *ᶠ term (t *ᶠ y) j
unfolding piece power
piece_suc y t j =
    ring_by (t ∷ of_ℕ (suc j) ∷ integral (term y) (suc j) ∷ power t j ∷ term y j ∷ term (t *ᶠ y) j ∷ []) ((power t j *ᶠ t) ⋅ integral_suc (term y) j & t ⋅ term_scaled y t j & none) (search quote depth 40 fits 9999) tt

-- y times the integral from a to b is what S falls by
pub piece_terms : (y a b : Fraction) (n : ℕ) → y *ᶠ (piece y b n -ᶠ piece y a n) ≈ term (a *ᶠ y) n -ᶠ term (b *ᶠ y) n
piece_terms y a b zero =
    ring_by (y ∷ piece y a 0 ∷ piece y b 0 ∷ term (a *ᶠ y) 0 ∷ term (b *ᶠ y) 0 ∷ []) (y ⋅ piece_zero y a & y ⋅ piece_zero y b & of_ℕ 1 ⋅ (term_series (a *ᶠ y)).first & of_ℕ 1 ⋅ (term_series (b *ᶠ y)).first & none) (search quote depth 40 fits 9999) tt
piece_terms y a b (suc n) =
    cancel-≈ n
    (ring_by (y ∷ a ∷ b ∷ of_ℕ (suc n) ∷ piece y a (suc n) ∷ piece y b (suc n) ∷ term (a *ᶠ y) n ∷ term (b *ᶠ y) n ∷ term (a *ᶠ y) (suc n) ∷ term (b *ᶠ y) (suc n) ∷ []) (y ⋅ piece_suc y a n & y ⋅ piece_suc y b n & of_ℕ 1 ⋅ (term_series (a *ᶠ y)).next n & of_ℕ 1 ⋅ (term_series (b *ᶠ y)).next n & none) (search quote depth 40 fits 9999) tt)

-- the integral from s to s + t is that from the head to t times e^(−s y)
module _ (y s t : Fraction) where
  left : (n : ℕ) → conv (derive (piece y t)) (term (s *ᶠ y)) n ≈ t *ᶠ term ((s +ᶠ t) *ᶠ y) n
  left n =
      ≈_trans (conv_cong (derive (piece y t)) (λ i. t *ᶠ term (t *ᶠ y) i) (term (s *ᶠ y)) (term (s *ᶠ y)) (piece_suc y t) (λ i. ≈_refl (term (s *ᶠ y) i)) n)
      (≈_trans (conv_scale_l t (term (t *ᶠ y)) (term (s *ᶠ y)) n)
      (*ᶠ_cong (≈_refl t) (≈_trans (conv_term (t *ᶠ y) (s *ᶠ y) n) (term_cong (ring (s ∷ t ∷ y ∷ []) (search quote depth 40 fits 9999) tt) n))))

  right : (n : ℕ) → conv (piece y t) (derive (term (s *ᶠ y))) n ≈ (-ᶠ (s *ᶠ y)) *ᶠ conv (piece y t) (term (s *ᶠ y)) n
  right n =
      ≈_trans (conv_cong (piece y t) (piece y t) (derive (term (s *ᶠ y))) (λ i. (-ᶠ (s *ᶠ y)) *ᶠ term (s *ᶠ y) i) (λ i. ≈_refl (piece y t i)) (term_series (s *ᶠ y)).next n)
      (conv_scale_r (-ᶠ (s *ᶠ y)) (piece y t) (term (s *ᶠ y)) n)

  pieces : Same (conv (piece y t) (term (s *ᶠ y))) (λ n. piece y (s +ᶠ t) n -ᶠ piece y s n)
  unfolding conv
  pieces zero =
      ring_by (piece y t 0 ∷ piece y s 0 ∷ piece y (s +ᶠ t) 0 ∷ term (s *ᶠ y) 0 ∷ []) (term (s *ᶠ y) 0 ⋅ piece_zero y t & of_ℕ 1 ⋅ piece_zero y s & of_ℕ 1 ⋅ piece_zero y (s +ᶠ t) & none) (search quote depth 40 fits 9999) tt
  pieces (suc n) =
      cancel-≈ n
      (≈_trans (leibniz (piece y t) (term (s *ᶠ y)) n)
      (ring_by (y ∷ s ∷ t ∷ of_ℕ (suc n) ∷ conv (derive (piece y t)) (term (s *ᶠ y)) n ∷ conv (piece y t) (derive (term (s *ᶠ y))) n ∷ conv (piece y t) (term (s *ᶠ y)) n ∷ piece y s n ∷ piece y (s +ᶠ t) n ∷ piece y s (suc n) ∷ piece y (s +ᶠ t) (suc n) ∷ term (s *ᶠ y) n ∷ term ((s +ᶠ t) *ᶠ y) n ∷ [])
      (of_ℕ 1 ⋅ left n & of_ℕ 1 ⋅ right n & (s *ᶠ y) ⋅ pieces n & s ⋅ piece_terms y s (s +ᶠ t) n & of_ℕ 1 ⋅ piece_suc y s n & of_ℕ 1 ⋅ piece_suc y (s +ᶠ t) n & none) (search quote depth 40 fits 9999) tt))

-- ---- sums

-- the integral of the first n terms of S from the head to t
unfoldable pub upto : (n : ℕ) (y t : Fraction) → Fraction
upto n y t = sum (piece y t) (suc n)

power_cong : {s t : Fraction} → s ≈ t → Same (power s) (power t)
unfolding power
power_cong p zero = ≈_refl (of_ℕ 1)
power_cong p (suc j) = *ᶠ_cong (power_cong p j) p

pub upto_cong : (n : ℕ) (y : Fraction) {s t : Fraction} → s ≈ t → upto n y s ≈ upto n y t
unfolding upto piece
upto_cong n y {s} {t} p = sum_cong (piece y s) (piece y t) (λ j. *ᶠ_cong (≈_refl (integral (term y) j)) (power_cong p j)) (suc n)

-- a term over the first instant is at most that of the positive series
pieces_small : {y : Fraction} → of_ℕ 0 ≼ y → Dominated (shift (piece y (of_ℕ 1))) (e y)
pieces_small {y} h j =
    let s : Small (term (of_ℕ 1 *ᶠ y) j) (e y j) = small_by (term_cong (ring (y ∷ []) (search quote depth 40 fits 9999) tt) j) (term_small h j) in
    record {
      high = certify_times j (of_ℕ j ∷ of_ℕ (suc j) ∷ piece y (of_ℕ 1) (suc j) ∷ term (of_ℕ 1 *ᶠ y) j ∷ e y j ∷ []) (slack s.high ⊞ number j ⊠ e_nonneg h j ⊞ multiple (e y j) (≈_sym (of_ℕ_suc j)) ⊞ multiple (of_ℕ 1) (piece_suc y (of_ℕ 1) j)) (search quote depth 40 fits 9999) tt;
      low = certify_times j (of_ℕ j ∷ of_ℕ (suc j) ∷ piece y (of_ℕ 1) (suc j) ∷ term (of_ℕ 1 *ᶠ y) j ∷ e y j ∷ []) (slack s.low ⊞ number j ⊠ e_nonneg h j ⊞ multiple (e y j) (≈_sym (of_ℕ_suc j)) ⊞ multiple (of_ℕ 1) (≈_sym (piece_suc y (of_ℕ 1) j))) (search quote depth 40 fits 9999) tt;
    }

-- an instant more, for N terms of S and n of the integral
pub instant_more : {N n : ℕ} {y s : Fraction} → 40 ≤ n → n ≤ N → of_ℕ 0 ≼ y → of_ℕ 0 ≼ s → y +ᶠ s *ᶠ y ≼ of_ℕ 4
    → Small (upto n y (s +ᶠ of_ℕ 1) -ᶠ upto n y s -ᶠ S N (s *ᶠ y) *ᶠ upto n y (of_ℕ 1)) (of_ℕ 1 ÷ of_ℕ (2 ^ 78))
unfolding upto S rest
instant_more {N} {n} {y} {s} l below p q four =
    let f = piece y (of_ℕ 1) in
    let g = term (s *ᶠ y) in
    small_by
    (ring_by (f 0 ∷ sum f (suc n) ∷ sum g N ∷ sum g (suc n) ∷ sum (conv f g) (suc n) ∷ sum (shift f) n ∷ sum (conv (shift f) g) n ∷ sum (piece y s) (suc n) ∷ sum (piece y (s +ᶠ of_ℕ 1)) (suc n) ∷ [])
    (of_ℕ 1 ⋅ ≈_trans (sum_cong (conv f g) (λ i. piece y (s +ᶠ of_ℕ 1) i -ᶠ piece y s i) (pieces y s (of_ℕ 1)) (suc n)) (sum_minus (piece y (s +ᶠ of_ℕ 1)) (piece y s) (suc n)) & of_ℕ 1 ⋅ rest_suc N f g n & (sum g N -ᶠ sum g (suc n)) ⋅ piece_zero y (of_ℕ 1) & none) (search quote depth 40 fits 9999) tt)
    (small_minus (small_weaken (rest_moves N n (shift f) (pieces_small p) below p (q ⊠ p) (still_small_past_40 (p ⊞ q ⊠ p) four l)) (past_40 (p ⊞ q ⊠ p) four l)))
