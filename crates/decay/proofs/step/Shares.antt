-- Laws of a step's series: the terms fall, so that a sum has no difference below zero and a stop at a term of 0 changes no value, and no more
-- BOD is spent than lost. Assumes nothing.
use mathlib.Core.Path.{◌≡◌, refl, sym, ◌∙◌, ap}
use mathlib.Core.Bool.{Bool, true, false, cond}
use mathlib.Core.Logic.{⊎_elim}
use Prim.Native.Nat.{ℕ, zero, suc, ◌+◌, ◌-◌, ◌*◌, ◌/◌, ◌%◌, ◌≤◌, ◌<◌, zero-le}
use native.Mathlib.Nat.{div-le_self, div-mul-le_self, div-le_of_le-mul, eq-or-lt_of_le, le-div_iff_mul-le, le_trans, mul-le-mul, mul-le-mul_right, mul-zero, zero-mul, zero-div}
use native.Mathlib.Numerals.{add-one, add-two}
use native.Mathlib.Omega.{arith}
use lib.Dec.{eqb}
use borrow.Author.Tests.{eqb-true, eqb-false, eq-eqb, ne_eqb}
use Rattle.decay.specs.Fixed.{one, product, quotient}
use Rattle.decay.specs.held.Digits.{small}
use Rattle.decay.specs.held.Step.{RatesPass, exponent_of, step_of}
use Rattle.decay.specs.Series.{term_of, next_terms, terms_at, term_at, with_term, sum_of, most_terms, count_from, series_of, SumsExactly}
use Rattle.decay.specs.held.Factors.{SoundStep}
use Rattle.decay.specs.declared.step.Terms.{Terms}
use Rattle.decay.proofs.fixed.Digits.{product_small, product_mono}

div_mono : {a b j k : ℕ} → 0 < j → a ≤ b → j ≤ k → a / k ≤ b / j
div_mono {a} {b} {j} {k} p h l =
    (le-div_iff_mul-le p).1 (le_trans (mul-le-mul {n₁ = a / k} {n₂ = a / k} (omega arith) l) (le_trans (div-mul-le_self a k) h))

-- a term is at most 1/256 of the one before
carried_term_small : (t y j : ℕ) → y ≤ small → 256 * term_of t y j ≤ t
unfolding term_of
carried_term_small t y j h = omega (arith, product_small t y h, div-le_self (product t y) j)

-- and for term j even less
term_falls : (t y j : ℕ) → y ≤ small → 256 * (j * term_of t y j) ≤ t
unfolding term_of
term_falls t y j h = omega (arith, product_small t y h, div-mul-le_self (product t y) j)

term_mono : {a b : ℕ} (y j k : ℕ) → 0 < j → a ≤ b → j ≤ k → term_of a y k ≤ term_of b y j
unfolding term_of
term_mono {a} {b} y j k p h l = div_mono p (product_mono {a = a} {b = y} {c = b} {d = y} h (omega arith)) l

-- a sum with one more term differs from it by at most that term
record MovedBy (s t r : ℕ) : Type 0 where
  pub lower : s ≤ r + t
  pub upper : r ≤ s + t

with_bounds : (s t i : ℕ) → MovedBy s t (with_term s t i)
unfolding with_term
with_bounds s t i = go (eqb (i % 2) 0)
  where
    go : (even : Bool) → MovedBy s t (cond even (s + t) (s - t))
    go true = omega arith
    go false = omega arith

-- ---- the first terms and the next, and where a series stops

module _ (y z : ℕ) where
  pub first_lost : (terms_at y z 0).lost ≡ y
  unfolding terms_at
  first_lost = refl

  first_back : (terms_at y z 0).back ≡ 0
  unfolding terms_at
  first_back = refl

  pub first_term : term_at y z 0 ≡ y
  unfolding term_at
  first_term = omega (arith, first_lost, first_back)

  pub first_sum : sum_of y z 1 ≡ y
  unfolding sum_of with_term
  first_sum = omega (arith, first_term)

  -- the term after the first n, as the loop makes it
  pub next_term : (n : ℕ) → 1 ≤ n → next_terms (terms_at y z (n - 1)) y z (n + 1) ≡ terms_at y z n
  unfolding terms_at
  next_term zero h = absurd (omega arith)
  next_term (suc n) h = let less_one : suc n - 1 ≡ n = omega arith in rw (add-one, add-two, less_one)

  -- the term that a loop has just made from the one before it, in its two parts and whole
  pub terms_made : (n : ℕ) {terms r : Terms} → terms ≡ terms_at y z (n - 1) → 1 ≤ n → r ≡ next_terms terms y z (n + 1) → r ≡ terms_at y z n
  terms_made n before l e = e ∙ ap (λ (t : Terms). next_terms t y z (n + 1)) before ∙ next_term n l

  pub term_made : (n : ℕ) {terms r : Terms} → terms ≡ terms_at y z (n - 1) → 1 ≤ n → r ≡ next_terms terms y z (n + 1) → r.lost + r.back ≡ term_at y z n
  unfolding term_at
  term_made n before l e = ap (λ (t : Terms). t.lost + t.back) (terms_made n before l e)

  pub next_sum : (n : ℕ) → with_term (sum_of y z n) (term_at y z n) n ≡ sum_of y z (n + 1)
  unfolding sum_of
  next_sum n = rw add-one

  -- n terms are counted: the next is 0, or there is none, or it is counted too
  pub stops_here : (n k : ℕ) → term_at y z n ≡ 0 → count_from y z n k ≡ n
  unfolding count_from
  stops_here n zero h = refl
  stops_here n (suc k) h = rw (eq-eqb (term_at y z n) 0 h)

  pub ends_here : (n m : ℕ) → m ≤ n → count_from y z n (m - n) ≡ n
  unfolding count_from
  ends_here n m h = let none_left : m - n ≡ 0 = omega arith in rw none_left

  pub counts_next : (n m : ℕ) → n < m → (term_at y z n ≡ 0 → ⊥) → count_from y z (n + 1) (m - (n + 1)) ≡ count_from y z n (m - n)
  unfolding count_from
  counts_next n m l h = let one_less : m - n ≡ suc (m - (n + 1)) = omega arith in rw (one_less, ne_eqb (term_at y z n) 0 h, add-one)

  -- the terms that are counted, n of them so far and at most k more
  record CountsFrom (n k c : ℕ) : Type 0 where
    pub from : n ≤ c
    pub to : c ≤ n + k
    pub none_zero : (i : ℕ) → n ≤ i → i < c → 0 < term_at y z i
    pub next_zero : c < n + k → term_at y z c ≡ 0

  -- no further term is counted: the next is 0, or there may be none
  none_further : (n k : ℕ) → (n < n + k → term_at y z n ≡ 0) → CountsFrom n k n
  none_further n k h =
      record { from = omega arith; to = omega arith; none_zero = λ i p l. omega arith; next_zero = h }

  counts_from : (n k : ℕ) → CountsFrom n k (count_from y z n k)
  unfolding count_from
  counts_from n zero = none_further n zero (λ h. omega arith)
  counts_from n (suc k) = go (eqb (term_at y z n) 0) refl (counts_from (suc n) k)
    where
      go : (t : Bool) → eqb (term_at y z n) 0 ≡ t → CountsFrom (suc n) k (count_from y z (suc n) k) → CountsFrom n (suc k) (cond t n (count_from y z (suc n) k))
      go true p rest = none_further n (suc k) (λ h. eqb-true _ _ p)
      go false p rest =
          record {
            from = omega (arith, rest.from);
            to = omega (arith, rest.to);
            none_zero =
                λ i h l.
                ⊎_elim (λ (e : n ≡ i). rw (← e) (omega (arith, eqb-false (term_at y z n) 0 p))) (λ (m : n < i). rest.none_zero i m l) (eq-or-lt_of_le h);
            next_zero = λ h. rest.next_zero (omega arith);
          }

  -- THEOREM: a series is the sum of exactly the terms that it counts
  pub series_exact : SumsExactly y z (series_of y z)
  unfolding series_of
  series_exact =
      let c = counts_from 1 (most_terms - 1) in
      record {
        series_is = refl;
        sum_is = refl;
        leading = c.from;
        end = c.to;
        none_zero = c.none_zero;
        next_zero = c.next_zero;
      }

  -- a term is its two parts together, and without the second exponent its first part alone
  term_parts : (i : ℕ) → term_at y z i ≡ (terms_at y z i).lost + (terms_at y z i).back
  unfolding term_at
  term_parts i = refl

  same_lost : (i : ℕ) → (terms_at y 0 i).lost ≡ (terms_at y z i).lost
  unfolding terms_at next_terms
  same_lost zero = refl
  same_lost (suc i) = ap (λ (t : ℕ). term_of t y (i + 2)) (same_lost i)

  no_back : (i : ℕ) → (terms_at y 0 i).back ≡ 0
  unfolding terms_at next_terms term_of product
  no_back zero = refl
  no_back (suc i) = rw (mul-zero, zero-div one, zero-div (i + 2))

  pub term_alone : (i : ℕ) → term_at y 0 i ≡ (terms_at y z i).lost
  unfolding term_at
  term_alone i = omega (arith, same_lost i, no_back i)

-- ---- terms and sums

module _ (y z : ℕ) (hy : y ≤ small) (hz : z ≤ small) where
  -- the terms fall from one to the next
  pub terms_fall : (i : ℕ) → 128 * term_at y z (suc i) ≤ term_at y z i
  unfolding term_at terms_at next_terms
  terms_fall i =
      let t = terms_at y z i in
      omega (arith, carried_term_small t.lost y (i + 2) hy, carried_term_small (t.lost + t.back) z (i + 2) hz)

  back_falls : (i : ℕ) → (terms_at y z (suc (suc i))).back ≤ (terms_at y z (suc i)).back
  unfolding terms_at next_terms
  back_falls i =
      term_mono z (i + 2) (suc i + 2) (omega arith)
      (omega (arith, terms_fall i, term_parts y z (suc i), term_parts y z i))
      (omega arith)

  lost_by : (i : ℕ) → 256 * ((i + 2) * (terms_at y z (suc i)).lost) ≤ (terms_at y z i).lost
  unfolding terms_at next_terms
  lost_by i = term_falls (terms_at y z i).lost y (i + 2) hy

  back_by : (i : ℕ) → 256 * ((i + 2) * (terms_at y z (suc i)).back) ≤ (terms_at y z i).lost + (terms_at y z i).back
  unfolding terms_at next_terms
  back_by i = term_falls ((terms_at y z i).lost + (terms_at y z i).back) z (i + 2) hz

  -- the fifth term is 0, so that four are all that the carried digits hold
  pub fifth_zero : term_at y z most_terms ≡ 0
  unfolding term_at
  fifth_zero =
      omega (
        arith,
        first_lost y z,
        first_back y z,
        lost_by 0,
        lost_by 1,
        lost_by 2,
        lost_by 3,
        back_by 0,
        back_by 1,
        back_by 2,
        back_by 3,
      )

  pub terms_small : (i : ℕ) → term_at y z i ≤ small
  terms_small zero = omega (arith, first_term y z)
  terms_small (suc i) = omega (arith, terms_small i, terms_fall i)

  -- a sum has room for its next term, and stays small
  pub record SumFits (n : ℕ) : Type 0 where
    pub lower : 2 * term_at y z n ≤ sum_of y z n
    pub upper : sum_of y z n + 2 * term_at y z n ≤ 2 * y

  pub sum_fits : (n : ℕ) → 1 ≤ n → SumFits n
  unfolding sum_of
  sum_fits zero h = omega arith
  sum_fits (suc zero) h = omega (arith, first_sum y z, first_term y z, terms_fall 0)
  sum_fits (suc (suc i)) h =
      let a = with_bounds (sum_of y z (suc i)) (term_at y z (suc i)) (suc i) in
      let r = sum_fits (suc i) (omega arith) in
      omega (arith, r.lower, r.upper, terms_fall (suc i), a.lower, a.upper)

  -- what a stop leaves out adds nothing: after a term of 0 all are 0
  nothing_more : (k n m : ℕ) → n + k ≡ m → term_at y z n ≡ 0 → sum_of y z m ≡ sum_of y z n
  unfolding sum_of
  nothing_more zero n m e h = ap (sum_of y z) {x = m} {y = n} (omega arith)
  nothing_more (suc k) n m e h =
      let a = with_bounds (sum_of y z n) (term_at y z n) n in
      omega (arith, nothing_more k (suc n) m (omega arith) (omega (arith, terms_fall n)), a.lower, a.upper)

  -- THEOREM: a stop changes no value: the sum is that of all terms up to the end
  pub stop_changes_nothing : (series_of y z).sum ≡ sum_of y z most_terms
  stop_changes_nothing =
      let x = series_exact y z in
      let c = (series_of y z).count in
      x.sum_is ∙
      sym
      (nothing_more (most_terms - c) c most_terms (omega (arith, x.end))
      (⊎_elim (λ (e : c ≡ most_terms). rw e fifth_zero) x.next_zero (eq-or-lt_of_le x.end)))

  -- the sum as an equation without differences
  pub series_sum : (series_of y z).sum + term_at y z 1 + term_at y z 3 ≡ y + term_at y z 2
  unfolding sum_of with_term
  series_sum = omega (arith, stop_changes_nothing, first_term y z, terms_fall 0, terms_fall 1, terms_fall 2)

  pub sum_first : (series_of y z).sum ≤ y
  sum_first = omega (arith, series_sum, terms_fall 1)

-- the sum of the terms with their second part is no larger than that of their first
spent_below : (y z : ℕ) → y ≤ small → z ≤ small → (series_of y z).sum ≤ (series_of y 0).sum
spent_below y z hy hz =
    omega (
      arith,
      series_sum y z hy hz,
      series_sum y 0 hy zero-le,
      term_parts y z 1,
      term_parts y z 2,
      term_parts y z 3,
      term_alone y z 1,
      term_alone y z 2,
      term_alone y z 3,
      back_falls y z hy hz 0,
    )

-- check 11 makes the exponent of a step small
pub exponent_small : (k volume flow : ℕ) → k * volume ≤ 345600 * flow → exponent_of k volume flow ≤ small
unfolding exponent_of quotient
exponent_small k volume flow h = div-le_of_le-mul (88473600 * flow) (omega (arith, mul-le-mul_right one h))

-- THEOREM: a step's shares are small, and no more BOD is spent than lost
pub step_sound : (k1 k2 volume flow : ℕ) → RatesPass k1 k2 volume flow → SoundStep (step_of k1 k2 volume flow)
unfolding step_of
step_sound k1 k2 volume flow p =
    let y = exponent_of k1 volume flow in
    let z = exponent_of k2 volume flow in
    let hy = exponent_small k1 volume flow p.k1_short in
    let hz = exponent_small k2 volume flow p.k2_short in
    record {
      lost_small = le_trans (sum_first y 0 hy zero-le) hy;
      spent_lost = spent_below y z hy hz;
      filled_small = le_trans (sum_first z 0 hz zero-le) hz;
    }

-- what a step fills is at most its exponent
pub step_fills : (k1 k2 volume flow : ℕ) → RatesPass k1 k2 volume flow → (step_of k1 k2 volume flow).filled * (88473600 * flow) ≤ k2 * volume * one
unfolding step_of exponent_of quotient
step_fills k1 k2 volume flow p =
    let z = exponent_of k2 volume flow in
    le_trans (mul-le-mul_right (88473600 * flow) (sum_first z 0 (exponent_small k2 volume flow p.k2_short) zero-le)) (div-mul-le_self (k2 * volume * one) (88473600 * flow))

-- a rate of 0 or no volume leaves an exponent of 0, and such a step loses and uses nothing, or fills nothing
pub carried_exponent_zero : (k volume flow : ℕ) → k * volume ≡ 0 → exponent_of k volume flow ≡ 0
unfolding exponent_of quotient
carried_exponent_zero k volume flow h = rw (h, zero-mul) (zero-div (88473600 * flow))

pub step_loses_nothing :
    (k1 k2 volume flow : ℕ) →
    RatesPass k1 k2 volume flow →
    k1 * volume ≡ 0 →
    ((step_of k1 k2 volume flow).lost ≡ 0) × ((step_of k1 k2 volume flow).spent ≡ 0)
unfolding step_of
step_loses_nothing k1 k2 volume flow p h =
    let y = exponent_of k1 volume flow in
    let z = exponent_of k2 volume flow in
    let hy = exponent_small k1 volume flow p.k1_short in
    let hz = exponent_small k2 volume flow p.k2_short in
    omega (arith, carried_exponent_zero k1 volume flow h, sum_first y 0 hy zero-le, sum_first y z hy hz)

pub step_fills_nothing :
    (k1 k2 volume flow : ℕ) → RatesPass k1 k2 volume flow → k2 * volume ≡ 0 → (step_of k1 k2 volume flow).filled ≡ 0
unfolding step_of
step_fills_nothing k1 k2 volume flow p h =
    let z = exponent_of k2 volume flow in
    let hz = exponent_small k2 volume flow p.k2_short in
    omega (arith, carried_exponent_zero k2 volume flow h, sum_first z 0 hz zero-le)
