-- The shares of a step lie within a few units of the exact ones, and so do their means over the step: the terms one by one, then their sums.
-- The exact terms come in by their recurrences alone, e_j = y × e_(j-1) / j and d_j = (y × e_(j-1) + z × d_(j-1)) / j.
use mathlib.Core.Path.{◌≡◌}
use mathlib.Core.List.{[], ◌∷◌}
use Prim.Native.Nat.{ℕ, zero, suc, ◌+◌, ◌≤◌, zero-le}
use native.Mathlib.Numerals.{add-two}
use native.Mathlib.Omega.{arith}
use lib.Dec.{lit≤}
use Rattle.decay.specs.Fraction.{Fraction, of_ℕ, ◌+ᶠ◌, -ᶠ◌, ◌-ᶠ◌, ◌*ᶠ◌, ◌÷◌, ◌≈◌, ◌≼◌}
use Rattle.decay.specs.held.Digits.{small}
use Rattle.decay.specs.held.Step.{mean_sum_of}
use Rattle.decay.specs.Series.{next_terms, terms_at, term_at, series_of, most_terms}
use Rattle.decay.specs.held.Promise.{share}
use Rattle.decay.proofs.Algebra.{≈_refl, ≈_sym, ≈_trans, +ᶠ_cong, *ᶠ_cong, ring, ring_by, ◌⋅◌, ◌&◌, none, quote, ≼_by, slack, number, ◌⊞◌, ◌⊠◌, multiple, certify}
use Rattle.decay.proofs.step.Shares.{first_lost, first_term, term_alone, series_sum}
use Rattle.decay.proofs.step.MeanShares.{mean_sum}
use Rattle.decay.proofs.Accuracy.Units.{eps, share_nonneg, share_sum, share_equal, Floor, term_floor, part_share, Below}
use Rattle.decay.proofs.Accuracy.Series.{Under, Rough, TermNear, next_near, rough_first, rough_near, rough_both, part_below, part_under}

rough_cong : {e e' t t' : Fraction} → e ≈ e' → t ≈ t' → Rough e t → Rough e' t'
rough_cong {e} {e'} {t} {t'} p q h =
    record {
      low = ≼_by (≈_sym q) h.low p;
      high =
          ≼_by (*ᶠ_cong (≈_refl (of_ℕ 64)) (≈_sym p)) h.high (+ᶠ_cong (*ᶠ_cong (≈_refl (of_ℕ 64)) q) (≈_refl (of_ℕ 130 *ᶠ eps)));
      small = ≼_by (*ᶠ_cong (≈_refl (of_ℕ 256)) (≈_sym p)) h.small (≈_refl (of_ℕ 1));
    }

-- the whole-number terms as floors of the ones before
lost_floor :
    (Y Z i : ℕ) →
    Floor (suc (suc i)) (share (terms_at Y Z i).lost *ᶠ share Y) (share (terms_at Y Z (suc i)).lost)
unfolding terms_at next_terms
lost_floor Y Z i = rw add-two (term_floor (terms_at Y Z i).lost Y (suc (suc i)) (omega arith))

back_floor :
    (Y Z i : ℕ) →
    Floor (suc (suc i)) (share (term_at Y Z i) *ᶠ share Z) (share (terms_at Y Z (suc i)).back)
unfolding term_at terms_at next_terms
back_floor Y Z i =
    rw add-two (term_floor ((terms_at Y Z i).lost + (terms_at Y Z i).back) Z (suc (suc i)) (omega arith))

-- the exponents of a step and their whole-number floors
pub record Exponents (Y Z : ℕ) (y z : Fraction) : Type 0 where
  pub near_y : Below y (share Y)
  pub near_z : Below z (share Z)
  pub small_y : of_ℕ 256 *ᶠ y ≼ of_ℕ 1
  pub small_z : of_ℕ 256 *ᶠ z ≼ of_ℕ 1

-- the exact terms, from the first on
pub record ExactTerms (y z : Fraction) (e d : ℕ → Fraction) : Type 0 where
  pub e_first : e 1 ≈ y
  pub e_next : (n : ℕ) → of_ℕ (suc n) *ᶠ e (suc n) ≈ y *ᶠ e n
  pub d_first : d 1 ≈ y
  pub d_next : (n : ℕ) → of_ℕ (suc n) *ᶠ d (suc n) ≈ y *ᶠ e n +ᶠ z *ᶠ d n

-- a sum is right to so many units: L is below X by at most 64ths over, and above it by at most 64ths under
pub record Sum (X L : Fraction) (over under : ℕ) : Type 0 where
  pub high : of_ℕ 64 *ᶠ X ≼ of_ℕ 64 *ᶠ L +ᶠ of_ℕ over *ᶠ eps
  pub low : of_ℕ 64 *ᶠ L ≼ of_ℕ 64 *ᶠ X +ᶠ of_ℕ under *ᶠ eps

-- the sum of four terms, of which the first is the exponent
four_terms :
    (c s : ℕ) (e1 e2 e3 e4 t1 t2 t3 t4 L : Fraction) →
    Below e1 t1 →
    Under c s e2 t2 →
    Under c s e3 t3 →
    Under c s e4 t4 →
    L +ᶠ t2 +ᶠ t4 ≈ t1 +ᶠ t3 →
    Sum (e1 -ᶠ e2 +ᶠ e3 -ᶠ e4) L (64 + c) (c + c)
four_terms c s e1 e2 e3 e4 t1 t2 t3 t4 L h1 h2 h3 h4 sum =
    record {
      high =
          certify (e1 ∷ e2 ∷ e3 ∷ e4 ∷ t1 ∷ t2 ∷ t3 ∷ t4 ∷ L ∷ of_ℕ c ∷ eps ∷ [])
          (number 64 ⊠ slack h1.high ⊞ number 64 ⊠ slack h2.low ⊞ slack h3.high ⊞ number 64 ⊠ slack h4.low ⊞ multiple (of_ℕ 64) (≈_sym sum))
          (search quote depth 40 fits 9999)
          tt;
      low =
          certify (e1 ∷ e2 ∷ e3 ∷ e4 ∷ t1 ∷ t2 ∷ t3 ∷ t4 ∷ L ∷ of_ℕ c ∷ eps ∷ [])
          (number 64 ⊠ slack h1.low ⊞ slack h2.high ⊞ number 64 ⊠ slack h3.low ⊞ slack h4.high ⊞ multiple (of_ℕ 64) sum)
          (search quote depth 40 fits 9999)
          tt;
    }

-- a sum without differences, as shares
share_sums : (a b c d f : ℕ) → a + b + c ≡ d + f → share a +ᶠ share b +ᶠ share c ≈ share d +ᶠ share f
share_sums a b c d f h =
    ≈_trans (≈_sym (≈_trans (share_sum (a + b) c) (+ᶠ_cong (share_sum a b) (≈_refl (share c))))) (≈_trans (share_equal h) (share_sum d f))

module _ (Y Z : ℕ) (y z : Fraction) (e d : ℕ → Fraction) (x : Exponents Y Z y z) (k : ExactTerms y z e d) where
  abbrev t : ℕ → Fraction
  t i = share (terms_at Y Z i).lost

  abbrev v : ℕ → Fraction
  v i = share (terms_at Y Z i).back

  -- the part of d that e does not have
  abbrev w : ℕ → Fraction
  w j = d j -ᶠ e j

  next_lost : (i : ℕ) → Rough (e (suc i)) (t i) → TermNear (e (suc (suc i))) (t (suc i))
  next_lost i h =
      next_near i y (share Y) (e (suc i)) (t i) (e (suc (suc i))) (t (suc i)) x.near_y x.small_y (share_nonneg Y) (share_nonneg (terms_at Y Z i).lost) h (k.e_next (suc i)) (lost_floor Y Z i)

  rough_lost : (i : ℕ) → Rough (e (suc i)) (t i)
  rough_lost zero =
      rough_cong (≈_sym k.e_first) (rw (first_lost Y Z) (≈_refl (share Y))) (rough_first x.near_y x.small_y)
  rough_lost (suc i) = rough_near (share_nonneg (terms_at Y Z (suc i)).lost) (next_lost i (rough_lost i))

  near_lost : (i : ℕ) → TermNear (e (suc (suc i))) (t (suc i))
  near_lost i = next_lost i (rough_lost i)

  w_next : (n : ℕ) → of_ℕ (suc n) *ᶠ w (suc n) ≈ z *ᶠ d n
  w_next n =
      ring_by (of_ℕ (suc n) ∷ y ∷ z ∷ e n ∷ d n ∷ e (suc n) ∷ d (suc n) ∷ []) (of_ℕ 1 ⋅ k.d_next n & of_ℕ 1 ⋅ k.e_next n & none) (search quote depth 40 fits 9999) tt

  next_back : (i : ℕ) → Rough (d (suc i)) (share (term_at Y Z i)) → TermNear (w (suc (suc i))) (v (suc i))
  next_back i h =
      next_near i z (share Z) (d (suc i)) (share (term_at Y Z i)) (w (suc (suc i))) (v (suc i)) x.near_z x.small_z (share_nonneg Z) (share_nonneg (term_at Y Z i)) h (w_next (suc i)) (back_floor Y Z i)

  rough_all : (i : ℕ) → Rough (d (suc i)) (share (term_at Y Z i))
  unfolding term_at
  rough_all zero =
      rough_cong (≈_sym k.d_first) (rw (first_term Y Z) (≈_refl (share Y))) (rough_first x.near_y x.small_y)
  rough_all (suc i) =
      rough_cong (ring (e (suc (suc i)) ∷ d (suc (suc i)) ∷ []) (search quote depth 40 fits 9999) tt)
      (≈_sym (share_sum (terms_at Y Z (suc i)).lost (terms_at Y Z (suc i)).back))
      (rough_both (near_lost i) (next_back i (rough_all i)))

  -- the first term is the exponent
  below_first : {a : Fraction} → a ≈ y → Below a (share Y)
  below_first p =
      record {
        low = ≼_by (≈_refl (share Y)) x.near_y.low (≈_sym p);
        high = ≼_by p x.near_y.high (≈_refl (share Y +ᶠ eps));
      }

  near_alone : (i : ℕ) → TermNear (e (suc (suc i))) (share (term_at Y 0 (suc i)))
  near_alone i = rw (term_alone Y Z (suc i)) (near_lost i)

  pub lost_near : Y ≤ small → Sum (e 1 -ᶠ e 2 +ᶠ e 3 -ᶠ e 4) (share (series_of Y 0).sum) 129 130
  lost_near hY =
      four_terms 65 512 (e 1) (e 2) (e 3) (e 4) (share Y) _ _ _ (share (series_of Y 0).sum) (below_first k.e_first) (near_alone 0) (near_alone 1) (near_alone 2)
      (share_sums _ _ _ _ _ (series_sum Y 0 hY zero-le))

  pub spent_near : Y ≤ small → Z ≤ small → Sum (d 1 -ᶠ d 2 +ᶠ d 3 -ᶠ d 4) (share (series_of Y Z).sum) 194 260
  spent_near hY hZ =
      four_terms 130 256 (d 1) (d 2) (d 3) (d 4) (share Y) _ _ _ (share (series_of Y Z).sum) (below_first k.d_first) (rough_all 1) (rough_all 2) (rough_all 3)
      (share_sums _ _ _ _ _ (series_sum Y Z hY hZ))

  -- the means over the step: each term by one more than its number
  pub mean_lost_near : Y ≤ small → Sum (e 1 ÷ of_ℕ 2 -ᶠ e 2 ÷ of_ℕ 3 +ᶠ e 3 ÷ of_ℕ 4 -ᶠ e 4 ÷ of_ℕ 5) (share (mean_sum_of Y 0 most_terms)) 129 130
  mean_lost_near hY =
      four_terms 65 512 (e 1 ÷ of_ℕ 2) (e 2 ÷ of_ℕ 3) (e 3 ÷ of_ℕ 4) (e 4 ÷ of_ℕ 5) _ _ _ _ (share (mean_sum_of Y 0 most_terms)) (part_below 1 (part_share 1 Y) (below_first k.e_first))
      (part_under 2 (part_share 2 (term_at Y 0 1)) (lit≤ tt) (near_alone 0))
      (part_under 3 (part_share 3 (term_at Y 0 2)) (lit≤ tt) (near_alone 1))
      (part_under 4 (part_share 4 (term_at Y 0 3)) (lit≤ tt) (near_alone 2))
      (share_sums _ _ _ _ _ (mean_sum Y 0 hY zero-le))

  pub mean_spent_near : Y ≤ small → Z ≤ small → Sum (d 1 ÷ of_ℕ 2 -ᶠ d 2 ÷ of_ℕ 3 +ᶠ d 3 ÷ of_ℕ 4 -ᶠ d 4 ÷ of_ℕ 5) (share (mean_sum_of Y Z most_terms)) 194 260
  mean_spent_near hY hZ =
      four_terms 130 256 (d 1 ÷ of_ℕ 2) (d 2 ÷ of_ℕ 3) (d 3 ÷ of_ℕ 4) (d 4 ÷ of_ℕ 5) _ _ _ _ (share (mean_sum_of Y Z most_terms)) (part_below 1 (part_share 1 Y) (below_first k.d_first))
      (part_under 2 (part_share 2 (term_at Y Z 1)) (lit≤ tt) (rough_all 1))
      (part_under 3 (part_share 3 (term_at Y Z 2)) (lit≤ tt) (rough_all 2))
      (part_under 4 (part_share 4 (term_at Y Z 3)) (lit≤ tt) (rough_all 3))
      (share_sums _ _ _ _ _ (mean_sum Y Z hY hZ))
