-- The integrals of S and F over the first instant, at exponents up to 1/256, against the first terms of their series.
-- Shown: a term is integrated to itself by one more than its number, and what is left after six terms is as small as without the integral.
use mathlib.Core.Path.{◌≡◌, refl, subst}
use mathlib.Core.List.{[], ◌∷◌}
use mathlib.Core.Logic.{◌⊎◌, inl, inr}
use mathlib.Core.Bool.{Bool, true, false, not, cond}
use Prim.Native.Nat.{ℕ, zero, suc, ◌*◌, ◌^◌, ◌≤◌, ◌<◌}
use native.Mathlib.Nat.{le_of_lt}
use native.Mathlib.Omega.{arith}
use lib.Dec.{T, eqb, ltb, nltb→le, lit<}
use Rattle.decay.specs.Fraction.{Fraction, of_ℕ, ◌+ᶠ◌, -ᶠ◌, ◌-ᶠ◌, ◌*ᶠ◌, ◌÷◌, ◌≈◌}
use Rattle.decay.specs.Exact.{power, term, sum, exponent}
use Rattle.decay.specs.Integral.{value_at, integral, times_time, series_terms, share_terms, all_terms}
use Rattle.decay.proofs.Algebra.{≈_refl, ≈_sym, ≈_trans, +ᶠ_cong, *ᶠ_cong, -ᶠ_cong, quote, ring, ring_by, none, ◌&◌, ◌⋅◌, slack, number, ◌⊞◌, ◌⊠◌, multiple, certify_times, positive_whole, ÷_cancel_pos, ÷_cong, ÷_reciprocal, Small, Within, within, sized, small_by, small_weaken, bound_nonneg, within_by, within_weaken, of_ℕ_suc}
use Rattle.decay.proofs.Exponential.Sequence.{sum_cong}
use Rattle.decay.proofs.Exponential.Terms.{e, e_zero, term_small, sign, term_signed}
use Rattle.decay.proofs.Exponential.Tail.{up_to, Dominated, sum_moves}
use Rattle.decay.proofs.Exponential.Exponent.{exponent_nonneg, exponent_step}
use Rattle.decay.proofs.Exponential.Compose.{ratio, tested_same, tested_different}
use Rattle.decay.proofs.Exponential.Used.{d, d_zero, turned, turned_zero, term_different, term_equal, ratio_exponent}
use Rattle.decay.proofs.Exponential.Short.{majorant, turned_small, e_past_six, majorant_past_six}
use Rattle.decay.proofs.Exponential.Mean.{first_s, first_f}

-- ---- integrals over the first instant

-- the terms, each by one more than its number
abbrev spread : (ℕ → Fraction) → ℕ → Fraction
spread c j = c j ÷ of_ℕ (suc j)

power_one : (j : ℕ) → power (of_ℕ 1) j ≈ of_ℕ 1
unfolding power
power_one zero = ≈_refl (of_ℕ 1)
power_one (suc j) = ring_by (power (of_ℕ 1) j ∷ []) (of_ℕ 1 ⋅ power_one j & none) (search quote depth 40 fits 9999) tt

-- the integral of c over the first instant
first_is : (c : ℕ → Fraction) (n : ℕ) → value_at (suc n) (integral c) (of_ℕ 1) ≈ sum (spread c) n
unfolding value_at integral sum
first_is c zero = ring (power (of_ℕ 1) 0 ∷ []) (search quote depth 40 fits 9999) tt
first_is c (suc n) = +ᶠ_cong (first_is c n) (once (spread c n) (power_one (suc n)))
  where
    once : (x : Fraction) {p : Fraction} → p ≈ of_ℕ 1 → x *ᶠ p ≈ x
    once x {p} h = ring_by (x ∷ p ∷ []) (x ⋅ h & none) (search quote depth 40 fits 9999) tt

-- a part of what is small is small
spread_small : (j : ℕ) {x g : Fraction} → Small x g → Small (x ÷ of_ℕ (suc j)) g
spread_small j {x} {g} s =
    let whole = ÷_cancel_pos x (positive_whole {n = suc j} (omega arith)) in
    let more = number j ⊠ bound_nonneg s ⊞ multiple g (≈_sym (of_ℕ_suc j)) in
    record {
      high = certify_times j (of_ℕ (suc j) ∷ of_ℕ j ∷ x ∷ g ∷ (x ÷ of_ℕ (suc j)) ∷ []) (slack s.high ⊞ more ⊞ multiple (of_ℕ 1) whole) (search quote depth 40 fits 9999) tt;
      low = certify_times j (of_ℕ (suc j) ∷ of_ℕ j ∷ x ∷ g ∷ (x ÷ of_ℕ (suc j)) ∷ []) (slack s.low ⊞ more ⊞ multiple (of_ℕ 1) (≈_sym whole)) (search quote depth 40 fits 9999) tt;
    }

-- ---- coefficients that end at N

-- c is f up to N, and from there on f or 0
abbrev CutAt : (N j : ℕ) (f c : Fraction) → Type 0
CutAt N j f c = (c ≈ f) ⊎ ((N ≤ j) × (c ≈ of_ℕ 0))

abbrev Cut : ℕ → (f c : ℕ → Fraction) → Type 0
Cut N f c = (j : ℕ) → CutAt N j (f j) (c j)

module _ {N : ℕ} (f c : ℕ → Fraction) (k : Cut N f c) where
  cut_below : (j : ℕ) → j < N → c j ≈ f j
  cut_below j h = go (k j)
    where
      go : CutAt N j (f j) (c j) → c j ≈ f j
      go (inl e) = e
      go (inr q) = absurd (omega arith)

  cut_small : {g : Fraction} (j : ℕ) → Small (f j) g → Small (c j) g
  cut_small {g} j s = go (k j)
    where
      go : CutAt N j (f j) (c j) → Small (c j) g
      go (inl e) = small_by e s
      go (inr q) = small_by q.1 (small_weaken (sized (number 0)) (bound_nonneg s))

  cut_sum : (n : ℕ) → n ≤ N → sum (spread c) n ≈ sum (spread f) n
  unfolding sum
  cut_sum zero h = ≈_refl (of_ℕ 0)
  cut_sum (suc n) h = +ᶠ_cong (cut_sum n (le_of_lt h)) (÷_cong (cut_below n h) (≈_refl (of_ℕ (suc n))))

  -- the first six terms are those of f, and what is left is at most what is left of the sizes
  cut_short : (g : ℕ → Fraction) {M : ℕ} → Dominated f g → 6 ≤ N → 6 ≤ M → Within (sum (spread c) M) (sum (spread f) 6) (sum g M -ᶠ sum g 6)
  cut_short g {M} s n l =
      within_by (≈_refl (sum (spread c) M)) (≈_sym (cut_sum 6 n)) (within (sum_moves (spread c) g (λ j. spread_small j (cut_small j (s j))) (up_to l)))

-- the coefficients of S, for every exponent at once
abbrev SeriesAt : (N j : ℕ) → Type 0
SeriesAt N j = ((y : Fraction) → series_terms N y j ≈ term y j) ⊎ ((N ≤ j) × ((y : Fraction) → series_terms N y j ≈ of_ℕ 0))

series_at : (N j : ℕ) → SeriesAt N j
unfolding series_terms
series_at N j = go (ltb j N) (nltb→le j N)
  where
    go : (t : Bool) → (T (not t) → N ≤ j) → ((y : Fraction) → cond t (term y j) (of_ℕ 0) ≈ term y j) ⊎ ((N ≤ j) × ((y : Fraction) → cond t (term y j) (of_ℕ 0) ≈ of_ℕ 0))
    go true h = inl (λ y. ≈_refl (term y j))
    go false h = inr (h tt, λ y. ≈_refl (of_ℕ 0))

series_cut : (N : ℕ) (y : Fraction) → Cut N (term y) (series_terms N y)
series_cut N y j = go (series_at N j)
  where
    go : SeriesAt N j → CutAt N j (term y j) (series_terms N y j)
    go (inl f) = inl (f y)
    go (inr q) = inr (q.0, q.1 y)

-- those of F for equal rates
equal_cut : (N : ℕ) (y : Fraction) → Cut N (turned y y) (λ j. y *ᶠ times_time (series_terms N y) j)
unfolding times_time
equal_cut N y zero = inl (ring_by (y ∷ turned y y 0 ∷ []) (of_ℕ 1 ⋅ turned_zero y y & none) (search quote depth 40 fits 9999) tt)
equal_cut N y (suc j) = go (series_at N j)
  where
    go : SeriesAt N j → CutAt N (suc j) (turned y y (suc j)) (y *ᶠ series_terms N y j)
    go (inl f) = inl (≈_trans (*ᶠ_cong (≈_refl y) (f y)) (term_equal y j))
    go (inr q) = inr (omega (arith, q.0), ring_by (y ∷ series_terms N y j ∷ []) (y ⋅ q.1 y & none) (search quote depth 40 fits 9999) tt)

-- and for different ones
different_cut : (N : ℕ) (w x y : Fraction) → w *ᶠ (y -ᶠ x) ≈ x → Cut N (turned x y) (λ j. w *ᶠ (series_terms N x j -ᶠ series_terms N y j))
different_cut N w x y h j = go (series_at N j)
  where
    go : SeriesAt N j → CutAt N j (turned x y j) (w *ᶠ (series_terms N x j -ᶠ series_terms N y j))
    go (inl f) = inl (≈_trans (*ᶠ_cong (≈_refl w) (+ᶠ_cong (f x) (-ᶠ_cong (f y)))) (term_different w x y h j))
    go (inr q) = inr (q.0, ring_by (w ∷ series_terms N x j ∷ series_terms N y j ∷ []) (w ⋅ q.1 x & w ⋅ q.1 y & none) (search quote depth 40 fits 9999) tt)

share_cut : (N k1 k2 v Q : ℕ) → Cut N (turned (exponent k1 v Q 1) (exponent k2 v Q 1)) (share_terms N k1 k2 v Q)
unfolding share_terms ratio
share_cut N k1 k2 v Q = go (eqb k1 k2) refl
  where
    go : (t : Bool) → eqb k1 k2 ≡ t → Cut N (turned (exponent k1 v Q 1) (exponent k2 v Q 1)) (share_terms N k1 k2 v Q)
    go true p j = rw p (subst (λ (k : ℕ). Cut N (turned (exponent k1 v Q 1) (exponent k v Q 1)) (λ i. exponent k1 v Q 1 *ᶠ times_time (series_terms N (exponent k1 v Q 1)) i)) (tested_same p) (equal_cut N (exponent k1 v Q 1)) j)
    go false p j = rw p (different_cut N (ratio k1 k2) (exponent k1 v Q 1) (exponent k2 v Q 1) (ratio_exponent k1 k2 v Q 1 (tested_different p)) j)

-- ---- the first terms

-- a sign stays with a term
spread_signed : (s x : Fraction) (j : ℕ) {t : Fraction} → t ≈ s *ᶠ x → t ÷ of_ℕ (suc j) ≈ s *ᶠ (x ÷ of_ℕ (suc j))
spread_signed s x j {t} h =
    ring_by (s ∷ t ∷ x ∷ (t ÷ of_ℕ (suc j)) ∷ (x ÷ of_ℕ (suc j)) ∷ (of_ℕ 1 ÷ of_ℕ (suc j)) ∷ []) (of_ℕ 1 ⋅ ÷_reciprocal t (of_ℕ (suc j)) & s ⋅ ÷_reciprocal x (of_ℕ (suc j)) & (of_ℕ 1 ÷ of_ℕ (suc j)) ⋅ h & none) (search quote depth 40 fits 9999) tt

first_s_six : (y : Fraction) → sum (spread (term y)) 6 ≈ of_ℕ 1 -ᶠ (e y 1 ÷ of_ℕ 2 -ᶠ e y 2 ÷ of_ℕ 3 +ᶠ e y 3 ÷ of_ℕ 4 -ᶠ e y 4 ÷ of_ℕ 5) -ᶠ e y 5 ÷ of_ℕ 6
unfolding sum sign
first_s_six y =
    ≈_trans (sum_cong (spread (term y)) (λ j. sign j *ᶠ (e y j ÷ of_ℕ (suc j))) (λ j. spread_signed (sign j) (e y j) j (term_signed y j)) 6)
    (ring_by (e y 0 ∷ (e y 0 ÷ of_ℕ 1) ∷ (e y 1 ÷ of_ℕ 2) ∷ (e y 2 ÷ of_ℕ 3) ∷ (e y 3 ÷ of_ℕ 4) ∷ (e y 4 ÷ of_ℕ 5) ∷ (e y 5 ÷ of_ℕ 6) ∷ []) (of_ℕ 1 ⋅ e_zero y & of_ℕ 1 ⋅ ÷_cancel_pos (e y 0) (positive_whole {n = 1} (lit< tt)) & none) (search quote depth 40 fits 9999) tt)

first_f_six : (y z : Fraction) → sum (spread (turned y z)) 6 ≈ d y z 1 ÷ of_ℕ 2 -ᶠ d y z 2 ÷ of_ℕ 3 +ᶠ d y z 3 ÷ of_ℕ 4 -ᶠ d y z 4 ÷ of_ℕ 5 +ᶠ d y z 5 ÷ of_ℕ 6
unfolding sum sign turned
first_f_six y z =
    ≈_trans (sum_cong (spread (turned y z)) (λ j. -ᶠ sign j *ᶠ (d y z j ÷ of_ℕ (suc j))) (λ j. spread_signed (-ᶠ sign j) (d y z j) j (ring (sign j ∷ d y z j ∷ []) (search quote depth 40 fits 9999) tt)) 6)
    (ring_by (d y z 0 ∷ (d y z 0 ÷ of_ℕ 1) ∷ (d y z 1 ÷ of_ℕ 2) ∷ (d y z 2 ÷ of_ℕ 3) ∷ (d y z 3 ÷ of_ℕ 4) ∷ (d y z 4 ÷ of_ℕ 5) ∷ (d y z 5 ÷ of_ℕ 6) ∷ []) (of_ℕ 1 ⋅ d_zero y z & of_ℕ 1 ⋅ ÷_cancel_pos (d y z 0) (positive_whole {n = 1} (lit< tt)) & none) (search quote depth 40 fits 9999) tt)

-- the first instant by the first terms: the terms of S and F, each by one more than its number
pub first_s_short : {N : ℕ} → 40 ≤ N → (k v Q : ℕ) → k * v ≤ 345_600 * Q
    → let y = exponent k v Q 1 in Within (first_s N k v Q) (of_ℕ 1 -ᶠ (e y 1 ÷ of_ℕ 2 -ᶠ e y 2 ÷ of_ℕ 3 +ᶠ e y 3 ÷ of_ℕ 4 -ᶠ e y 4 ÷ of_ℕ 5) -ᶠ e y 5 ÷ of_ℕ 6) (of_ℕ 1 ÷ of_ℕ (2 ^ 56))
unfolding first_s
first_s_short {N} n k v Q h =
    let y = exponent k v Q 1 in
    let sign_y = exponent_nonneg k v Q 1 in
    let many : 6 ≤ N = omega arith in
    let more : 6 ≤ all_terms N = omega arith in
    within_by (first_is (series_terms N y) (all_terms N)) (≈_sym (first_s_six y))
    (within_weaken (cut_short (term y) (series_terms N y) (series_cut N y) (e y) (term_small sign_y) many more) (e_past_six sign_y (exponent_step k v Q h) more))

pub first_f_short : {N : ℕ} → 40 ≤ N → (k1 k2 v Q : ℕ) → k1 * v ≤ 345_600 * Q → k2 * v ≤ 345_600 * Q
    → let y = exponent k1 v Q 1 in let z = exponent k2 v Q 1 in Within (first_f N k1 k2 v Q) (d y z 1 ÷ of_ℕ 2 -ᶠ d y z 2 ÷ of_ℕ 3 +ᶠ d y z 3 ÷ of_ℕ 4 -ᶠ d y z 4 ÷ of_ℕ 5 +ᶠ d y z 5 ÷ of_ℕ 6) (of_ℕ 1 ÷ of_ℕ (2 ^ 53))
unfolding first_f
first_f_short {N} n k1 k2 v Q h1 h2 =
    let y = exponent k1 v Q 1 in
    let z = exponent k2 v Q 1 in
    let y_sign = exponent_nonneg k1 v Q 1 in
    let y_step = exponent_step k1 v Q h1 in
    let many : 6 ≤ N = omega arith in
    let more : 6 ≤ all_terms N = omega arith in
    let small = turned_small y_sign (exponent_nonneg k2 v Q 1) y_step (exponent_step k2 v Q h2) in
    within_by (first_is (share_terms N k1 k2 v Q) (all_terms N)) (≈_sym (first_f_six y z))
    (within_weaken (cut_short (turned y z) (share_terms N k1 k2 v Q) (share_cut N k1 k2 v Q) (majorant y (of_ℕ 1 ÷ of_ℕ 256)) small many more) (majorant_past_six y_sign y_step more))
