-- The series of a step, in the carried digits: their terms, their sums, and how many terms are summed.
use Rattle.std.specs.Prelude.{cond, ◌≡◌, ℕ, zero, suc, ◌+◌, ◌-◌, ◌/◌, ◌%◌, ◌≤◌, ◌<◌, eqb, List, get_or}
use Rattle.decay.specs.Fixed.{product}
use Rattle.decay.specs.declared.step.Terms.{Terms}
use Rattle.decay.specs.declared.step.SeriesSum.{SeriesSum}

-- term j of a series from the term before it: times the exponent, by j
unfoldable pub term_of : ℕ → ℕ → ℕ → ℕ
term_of before y j = product before y / j

-- term j in its two parts: t_j = y * t_(j-1) / j, and w_j = z * (t_(j-1) + w_(j-1)) / j
unfoldable pub next_terms : Terms → ℕ → ℕ → ℕ → Terms
next_terms before y z j =
    record { lost = term_of before.lost y j; back = term_of (before.lost + before.back) z j }

-- term i + 1 in its two parts; the first is t_1 = y, w_1 = 0
unfoldable pub terms_at : ℕ → ℕ → ℕ → Terms
terms_at y z zero = record { lost = y; back = 0 }
terms_at y z (suc i) = next_terms (terms_at y z i) y z (i + 2)

-- term i + 1 of a series, t + w: of F for the exponents y and z, of 1 - S(y) where z is 0, so that no w is there
unfoldable pub term_at : (y z i : ℕ) → ℕ
term_at y z i = (terms_at y z i).lost + (terms_at y z i).back

-- the sum with term i + 1: the first, the third and so on are added, the others taken away
unfoldable pub with_term : (sum t i : ℕ) → ℕ
with_term sum t i = cond (eqb (i % 2) 0) (sum + t) (sum - t)

-- the sum of the first n terms of a series
unfoldable pub sum_of : (y z n : ℕ) → ℕ
sum_of y z zero = 0
sum_of y z (suc i) = with_term (sum_of y z i) (term_at y z i) i

-- a series ends with its fourth term; the fifth would be 0 in the carried digits
abbrev pub most_terms : ℕ
most_terms = 4

-- the terms of a series, in order
pub record AreTerms (y z : ℕ) (terms : List ℕ) : Type 0 where
  pub each : (i : ℕ) → i < most_terms → get_or terms i 0 ≡ term_at y z i

-- how many terms are summed, n of them so far and at most k more: up to the first that is 0 in the carried digits
unfoldable pub count_from : (y z n k : ℕ) → ℕ
count_from y z n zero = n
count_from y z n (suc k) = cond (eqb (term_at y z n) 0) n (count_from y z (suc n) k)

-- a series, which stops at the first term after its leading one that is 0 in the carried digits, or at its end
unfoldable pub series_of : (y z : ℕ) → SeriesSum
series_of y z =
    let count = count_from y z 1 (most_terms - 1) in
    record { sum = sum_of y z count; count = count }

-- What a series answers: the sum of exactly the terms that it counts. After the leading term none of them is 0, and the next is 0 or there
-- is none.
pub record SumsExactly (y z : ℕ) (r : SeriesSum) : Type 0 where
  pub series_is : r ≡ series_of y z
  pub sum_is : r.sum ≡ sum_of y z r.count
  pub leading : 1 ≤ r.count
  pub end : r.count ≤ most_terms
  pub none_zero : (i : ℕ) → 1 ≤ i → i < r.count → 0 < term_at y z i
  pub next_zero : r.count < most_terms → term_at y z r.count ≡ 0
