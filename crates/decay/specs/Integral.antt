-- The integrals of the river file paper's S and F along a reach, term by term. A sum of powers of the time t is given by its coefficients:
-- c 0 + c 1 × t + c 2 × t^2 + .. The time is counted in instants, so that the head is at 0 and the foot at 1,024, the travel time.
use Rattle.std.specs.Prelude.{cond, ℕ, zero, suc, eqb, ltb}
use Rattle.decay.specs.Fraction.{Fraction, of_ℕ, ◌-ᶠ◌, ◌*ᶠ◌, ◌÷◌, ◌≈◌}
use Rattle.decay.specs.Exact.{steps, foot, exponent, power, term, sum}

-- the value of the first n terms at the time t
unfoldable pub value_at : (n : ℕ) → (ℕ → Fraction) → (t : Fraction) → Fraction
value_at n c t = sum (λ j. c j *ᶠ power t j) n

-- the integral from the head on: that of c j × t^j is c j / (j + 1) × t^(j + 1)
unfoldable pub integral : (ℕ → Fraction) → ℕ → Fraction
integral c zero = of_ℕ 0
integral c (suc j) = c j ÷ of_ℕ (suc j)

-- the integral from head to foot of the first n terms, divided by the travel time
unfoldable pub mean_of : (n : ℕ) → (ℕ → Fraction) → Fraction
mean_of n c = value_at (suc n) (integral c) (of_ℕ foot) ÷ of_ℕ steps

-- i is the integral of c: it is 0 at the head, and its derivative is c, coefficient by coefficient
pub record IntegralOf (c i : ℕ → Fraction) : Type 0 where
  pub at_head : (n : ℕ) → value_at n i (of_ℕ 0) ≈ of_ℕ 0
  pub derivative : (j : ℕ) → of_ℕ (suc j) *ᶠ i (suc j) ≈ c j

-- the same at all times
unfoldable pub constant : Fraction → ℕ → Fraction
constant a zero = a
constant a (suc j) = of_ℕ 0

-- t times a sum of powers
unfoldable pub times_time : (ℕ → Fraction) → ℕ → Fraction
times_time c zero = of_ℕ 0
times_time c (suc j) = c j

-- S(x) with its N terms, for an exponent x that is y × t: (−y)^j / j!, and 0 from N on
unfoldable pub series_terms : ℕ → Fraction → ℕ → Fraction
series_terms N y j = cond (ltb j N) (term y j) (of_ℕ 0)

-- F: x1 × S(x1) if the rates are equal, and otherwise k1 / (k2 − k1) × (S(x1) − S(x2)), the exponents as at instant 1, times t
unfoldable pub share_terms : (N k1 k2 volume Q : ℕ) → ℕ → Fraction
share_terms N k1 k2 volume Q j =
    let y1 = exponent k1 volume Q 1 in
    let y2 = exponent k2 volume Q 1 in
    cond (eqb k1 k2) (y1 *ᶠ times_time (series_terms N y1) j) (of_ℕ k1 ÷ (of_ℕ k2 -ᶠ of_ℕ k1) *ᶠ (series_terms N y1 j -ᶠ series_terms N y2 j))

-- how many terms these have: S has N, and F with equal rates one more
abbrev pub all_terms : ℕ → ℕ
all_terms N = suc N

-- the means of S and of F over a reach
abbrev pub mean_s : (N k volume Q : ℕ) → Fraction
mean_s N k volume Q = mean_of (all_terms N) (series_terms N (exponent k volume Q 1))

abbrev pub mean_f : (N k1 k2 volume Q : ℕ) → Fraction
mean_f N k1 k2 volume Q = mean_of (all_terms N) (share_terms N k1 k2 volume Q)
