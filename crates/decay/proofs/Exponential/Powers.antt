-- Sums of powers of the time by their coefficients: those of S and F, and the integrals.
-- Shown: sums and integrals term by term, the terms of S at a time t, and what the sums of powers of S and F are at it.
use mathlib.Core.Path.{◌≡◌, subst}
use mathlib.Core.List.{[], ◌∷◌}
use mathlib.Core.Bool.{Bool, true, false, cond}
use Prim.Native.Nat.{ℕ, zero, suc, ◌<◌}
use native.Mathlib.Omega.{arith}
use lib.Dec.{T, eqb, eqb→eq, eqb_refl, ltb, ltb→lt, lt→ltb}
use Rattle.decay.specs.Fraction.{Fraction, of_ℕ, ◌+ᶠ◌, -ᶠ◌, ◌-ᶠ◌, ◌*ᶠ◌, ◌÷◌, ◌≈◌}
use Rattle.decay.specs.Exact.{power, term, sum, exponent, S}
use Rattle.decay.specs.Integral.{value_at, integral, times_time, series_terms, share_terms}
use Rattle.decay.proofs.Algebra.{≈_refl, ≈_trans, +ᶠ_cong, *ᶠ_cong, quote, ring, ring_by, none, ◌&◌, ◌⋅◌, positive_whole, ÷_cancel_pos}
use Rattle.decay.proofs.Exponential.Sequence.{Same, sum_cong}
use Rattle.decay.proofs.Exponential.Terms.{cancel-≈, term_series, unique}
use Rattle.decay.proofs.Exponential.Exponent.{moment, exponent_rate}
use Rattle.decay.proofs.Exponential.Compose.{ratio}

-- ---- sums

pub sum_scale : (c : Fraction) (f : ℕ → Fraction) (n : ℕ) → sum (λ j. c *ᶠ f j) n ≈ c *ᶠ sum f n
unfolding sum
sum_scale c f zero = ring (c ∷ []) (search quote depth 40 fits 9999) tt
sum_scale c f (suc n) =
    ring_by (c ∷ f n ∷ sum f n ∷ sum (λ j. c *ᶠ f j) n ∷ []) (of_ℕ 1 ⋅ sum_scale c f n & none) (search quote depth 40 fits 9999) tt

pub sum_add : (f g : ℕ → Fraction) (n : ℕ) → sum (λ j. f j +ᶠ g j) n ≈ sum f n +ᶠ sum g n
unfolding sum
sum_add f g zero = ring [] (search quote depth 40 fits 9999) tt
sum_add f g (suc n) =
    ring_by (f n ∷ g n ∷ sum f n ∷ sum g n ∷ sum (λ j. f j +ᶠ g j) n ∷ []) (of_ℕ 1 ⋅ sum_add f g n & none) (search quote depth 40 fits 9999) tt

pub sum_minus : (f g : ℕ → Fraction) (n : ℕ) → sum (λ j. f j -ᶠ g j) n ≈ sum f n -ᶠ sum g n
unfolding sum
sum_minus f g zero = ring [] (search quote depth 40 fits 9999) tt
sum_minus f g (suc n) =
    ring_by (f n ∷ g n ∷ sum f n ∷ sum g n ∷ sum (λ j. f j -ᶠ g j) n ∷ []) (of_ℕ 1 ⋅ sum_minus f g n & none) (search quote depth 40 fits 9999) tt

-- the first n elements decide
pub sum_below : (f g : ℕ → Fraction) (n : ℕ) → ((j : ℕ) → j < n → f j ≈ g j) → sum f n ≈ sum g n
unfolding sum
sum_below f g zero h = ≈_refl (of_ℕ 0)
sum_below f g (suc n) h = +ᶠ_cong (sum_below f g n (λ j l. h j (omega arith))) (h n (omega arith))

-- ---- integrals

pub integral_zero : (c : ℕ → Fraction) → integral c 0 ≈ of_ℕ 0
unfolding integral
integral_zero c = ≈_refl (of_ℕ 0)

pub integral_suc : (c : ℕ → Fraction) (j : ℕ) → of_ℕ (suc j) *ᶠ integral c (suc j) ≈ c j
unfolding integral
integral_suc c j =
    ring_by (of_ℕ (suc j) ∷ c j ∷ (c j ÷ of_ℕ (suc j)) ∷ []) (of_ℕ 1 ⋅ ÷_cancel_pos (c j) (positive_whole {n = suc j} (omega arith)) & none) (search quote depth 40 fits 9999) tt

-- an integral is 0 at the head, as each of its terms is
head_zero : (c : ℕ → Fraction) (j : ℕ) → integral c j *ᶠ power (of_ℕ 0) j ≈ of_ℕ 0
unfolding power
head_zero c zero = ring_by (integral c 0 ∷ []) (of_ℕ 1 ⋅ integral_zero c & none) (search quote depth 40 fits 9999) tt
head_zero c (suc j) = ring (integral c (suc j) ∷ power (of_ℕ 0) j ∷ []) (search quote depth 40 fits 9999) tt

pub integral_head : (c : ℕ → Fraction) (n : ℕ) → value_at n (integral c) (of_ℕ 0) ≈ of_ℕ 0
unfolding value_at sum
integral_head c zero = ≈_refl (of_ℕ 0)
integral_head c (suc n) = ≈_trans (+ᶠ_cong (integral_head c n) (head_zero c n)) (ring [] (search quote depth 40 fits 9999) tt)

-- w × (f − g), and its integral
pub integral_difference : (w : Fraction) (c f g : ℕ → Fraction) → Same c (λ j. w *ᶠ (f j -ᶠ g j)) → Same (integral c) (λ j. w *ᶠ (integral f j -ᶠ integral g j))
integral_difference w c f g h zero =
    ring_by (w ∷ integral c 0 ∷ integral f 0 ∷ integral g 0 ∷ []) (of_ℕ 1 ⋅ integral_zero c & w ⋅ integral_zero f & w ⋅ integral_zero g & none) (search quote depth 40 fits 9999) tt
integral_difference w c f g h (suc j) =
    cancel-≈ j
    (ring_by (w ∷ of_ℕ (suc j) ∷ c j ∷ f j ∷ g j ∷ integral c (suc j) ∷ integral f (suc j) ∷ integral g (suc j) ∷ []) (of_ℕ 1 ⋅ integral_suc c j & w ⋅ integral_suc f j & w ⋅ integral_suc g j & of_ℕ 1 ⋅ h j & none) (search quote depth 40 fits 9999) tt)

pub value_difference : (w : Fraction) (c f g : ℕ → Fraction) → Same c (λ j. w *ᶠ (f j -ᶠ g j)) → (n : ℕ) (t : Fraction) → value_at n c t ≈ w *ᶠ (value_at n f t -ᶠ value_at n g t)
unfolding value_at sum
value_difference w c f g h zero t = ring (w ∷ []) (search quote depth 40 fits 9999) tt
value_difference w c f g h (suc n) t =
    ring_by (w ∷ c n ∷ f n ∷ g n ∷ power t n ∷ value_at n c t ∷ value_at n f t ∷ value_at n g t ∷ []) (of_ℕ 1 ⋅ value_difference w c f g h n t & power t n ⋅ h n & none) (search quote depth 40 fits 9999) tt

-- ---- the terms of S at the time t

pub term_scaled : (y t : Fraction) → Same (λ j. term y j *ᶠ power t j) (term (t *ᶠ y))
unfolding power
term_scaled y t =
    unique (λ j. term y j *ᶠ power t j) (term (t *ᶠ y))
    (record {
      first = ring_by (term y 0 ∷ []) (of_ℕ 1 ⋅ (term_series y).first & none) (search quote depth 40 fits 9999) tt;
      next = λ n. ring_by (y ∷ t ∷ of_ℕ (suc n) ∷ term y n ∷ term y (suc n) ∷ power t n ∷ []) ((power t n *ᶠ t) ⋅ (term_series y).next n & none) (search quote depth 40 fits 9999) tt;
    })
    (term_series (t *ᶠ y)) (≈_refl (-ᶠ (t *ᶠ y)))

-- the exponent at instant m is m times that at instant 1
pub exponent_times : (k v Q m : ℕ) → exponent k v Q m ≈ of_ℕ m *ᶠ exponent k v Q 1
exponent_times k v Q m =
    ring_by (exponent k v Q m ∷ exponent k v Q 1 ∷ of_ℕ k ∷ of_ℕ v ∷ of_ℕ m ∷ moment Q ∷ []) (of_ℕ 1 ⋅ exponent_rate k v Q m & of_ℕ m ⋅ exponent_rate k v Q 1 & none) (search quote depth 40 fits 9999) tt

-- ---- the coefficients of S and F

chosen : (a b : Fraction) (t : Bool) → T t → cond t a b ≈ a
chosen a b true h = ≈_refl a
chosen a b false h = absurd h

other : (a b : Fraction) (t : Bool) → ¬ T t → cond t a b ≈ b
other a b true h = absurd (h tt)
other a b false h = ≈_refl b

-- the terms of S, and 0 after them
pub series_below : (N : ℕ) (y : Fraction) (j : ℕ) → j < N → series_terms N y j ≈ term y j
unfolding series_terms
series_below N y j h = chosen _ _ (ltb j N) (lt→ltb j N h)

pub series_top : (N : ℕ) (y : Fraction) → series_terms N y N ≈ of_ℕ 0
unfolding series_terms
series_top N y = other _ _ (ltb N N) (λ h. let l = ltb→lt N N h in omega arith)

-- F with equal rates, and with different ones
pub share_same : (N k1 k2 v Q : ℕ) → k1 ≡ k2 → Same (share_terms N k1 k2 v Q) (λ j. exponent k1 v Q 1 *ᶠ times_time (series_terms N (exponent k1 v Q 1)) j)
unfolding share_terms
share_same N k1 k2 v Q p j = chosen _ _ (eqb k1 k2) (subst (λ (k : ℕ). T (eqb k1 k)) p (eqb_refl k1))

pub share_different : (N k1 k2 v Q : ℕ) → ¬ (k1 ≡ k2)
    → Same (share_terms N k1 k2 v Q) (λ j. ratio k1 k2 *ᶠ (series_terms N (exponent k1 v Q 1) j -ᶠ series_terms N (exponent k2 v Q 1) j))
unfolding share_terms ratio
share_different N k1 k2 v Q p j = other _ _ (eqb k1 k2) (λ h. p (eqb→eq k1 k2 h))

-- ---- their values

pub series_value : (N : ℕ) (y t : Fraction) → value_at N (series_terms N y) t ≈ S N (t *ᶠ y)
unfolding value_at S
series_value N y t =
    ≈_trans (sum_below (λ j. series_terms N y j *ᶠ power t j) (λ j. term y j *ᶠ power t j) N (λ j h. *ᶠ_cong (series_below N y j h) (≈_refl (power t j))))
    (sum_cong (λ j. term y j *ᶠ power t j) (term (t *ᶠ y)) (term_scaled y t) N)

-- the term N is 0
pub series_value_all : (N : ℕ) (y t : Fraction) → value_at (suc N) (series_terms N y) t ≈ S N (t *ᶠ y)
unfolding value_at sum
series_value_all N y t =
    ring_by (value_at N (series_terms N y) t ∷ series_terms N y N ∷ power t N ∷ S N (t *ᶠ y) ∷ []) (of_ℕ 1 ⋅ series_value N y t & power t N ⋅ series_top N y & none) (search quote depth 40 fits 9999) tt

-- y t times a sum of powers
pub times_time_value : (y : Fraction) (c d : ℕ → Fraction) → Same c (λ j. y *ᶠ times_time d j) → (n : ℕ) (t : Fraction) → value_at (suc n) c t ≈ t *ᶠ y *ᶠ value_at n d t
unfolding value_at sum power times_time
times_time_value y c d h zero t = ring_by (t ∷ y ∷ c 0 ∷ []) (of_ℕ 1 ⋅ h 0 & none) (search quote depth 40 fits 9999) tt
times_time_value y c d h (suc n) t =
    ring_by (t ∷ y ∷ c (suc n) ∷ d n ∷ power t n ∷ value_at (suc n) c t ∷ value_at n d t ∷ []) (of_ℕ 1 ⋅ times_time_value y c d h n t & (power t n *ᶠ t) ⋅ h (suc n) & none) (search quote depth 40 fits 9999) tt
