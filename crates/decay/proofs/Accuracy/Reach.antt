-- The shares of a step of a reach against the river file paper's S and F at one step: within 3 units for BOD lost and deficit filled, 5 for BOD spent.
use mathlib.Core.List.{[], ◌∷◌}
use Prim.Native.Nat.{ℕ, ◌*◌, ◌^◌, ◌≤◌, ◌<◌}
use native.Mathlib.Nat.{mul-one, le_trans}
use lib.Dec.{lit<, lit≤}
use lib.Signed.{le_z_yes}
use Rattle.decay.specs.Fraction.{Fraction, of_ℕ, of_ℤ, over, ◌+ᶠ◌, -ᶠ◌, ◌-ᶠ◌, ◌*ᶠ◌, ◌÷◌, ◌≈◌, ◌≼◌}
use Rattle.decay.specs.Exact.{power, factorial, exponent, S, F}
use Rattle.decay.specs.held.Digits.{small}
use Rattle.decay.specs.held.Step.{RatesPass, exponent_of, step_of}
use Rattle.decay.specs.Series.{series_of}
use Rattle.decay.specs.held.Factors.{SoundStep}
use Rattle.decay.specs.held.Promise.{share}
use Rattle.decay.specs.declared.step.Step.{Step}
use Rattle.decay.proofs.Algebra.{≈_sym, ≈_trans, ring_by, ◌⋅◌, ◌&◌, none, quote, ≼_of-≈, ≼_trans, Nonneg, slack, number, ◌⊞◌, ◌⊠◌, multiple, certify, certify_times, positive_whole, ÷_cancel_pos, of_ℕ-≈, Within}
use Rattle.decay.proofs.step.Shares.{exponent_small, step_sound}
use Rattle.decay.proofs.Accuracy.Units.{eps, eps_nonneg, share_nonneg, share_mono, share_one, Below, exponent_below}
use Rattle.decay.proofs.Accuracy.Step.{Exponents, ExactTerms, Sum, lost_near, spent_near}
use Rattle.decay.proofs.Accuracy.Advance.{StepNear}
use Rattle.decay.proofs.Exponential.{e, e_zero, e_suc, e_nonneg, e_mono, S-six, exponent_nonneg, exponent_step, exponent_scaled, d, d_zero, d_suc, d_nonneg, S-short, F-short, d_small}

-- ---- the exponents of a step

near_exponent : (k v Q : ℕ) → 0 < Q → Below (exponent k v Q 1) (share (exponent_of k v Q))
near_exponent k v Q h =
    exponent_below k v Q (exponent k v Q 1) h (≈_trans (exponent_scaled k v Q 1 h) (of_ℕ-≈ (mul-one (k * v))))

small_exponent : (k v Q : ℕ) → k * v ≤ 345600 * Q → of_ℕ 256 *ᶠ exponent k v Q 1 ≼ of_ℕ 1
small_exponent k v Q h =
    certify (exponent k v Q 1 ∷ (of_ℕ 1 ÷ of_ℕ 256) ∷ []) (number 256 ⊠ slack (exponent_step k v Q h) ⊞ multiple (of_ℕ 1) (÷_cancel_pos (of_ℕ 1) (positive_whole {n = 256} (lit< tt)))) (search quote depth 40 fits 9999) tt

pub exact_terms : (y z : Fraction) → ExactTerms y z (e y) (d y z)
exact_terms y z =
    record {
      e_first = ring_by (y ∷ e y 0 ∷ e y 1 ∷ []) (of_ℕ 1 ⋅ e_suc y 0 & y ⋅ e_zero y & none) (search quote depth 40 fits 9999) tt;
      e_next = e_suc y;
      d_first =
          ring_by (y ∷ z ∷ e y 0 ∷ d y z 0 ∷ d y z 1 ∷ []) (of_ℕ 1 ⋅ d_suc y z 0 & y ⋅ e_zero y & z ⋅ d_zero y z & none) (search quote depth 40 fits 9999) tt;
      d_next = d_suc y z;
    }

-- ---- the tails of the series are small against a unit

pub tail_s : of_ℕ 64 *ᶠ (of_ℕ 1 ÷ of_ℕ (2 ^ 56)) ≼ eps
unfolding ◌÷◌ ◌*ᶠ◌ over of_ℤ eps
tail_s = record { across = le_z_yes tt }

pub tail_f : of_ℕ 64 *ᶠ (of_ℕ 1 ÷ of_ℕ (2 ^ 53)) ≼ eps
unfolding ◌÷◌ ◌*ᶠ◌ over of_ℤ eps
tail_f = record { across = le_z_yes tt }

-- 1 / 256, the greatest exponent of a step
abbrev step : Fraction
step = of_ℕ 1 ÷ of_ℕ 256

-- the first terms that are left out

fifth_e : of_ℕ 64 *ᶠ e step 5 ≼ of_ℕ 9 *ᶠ eps
unfolding e power factorial ◌÷◌ over ◌*ᶠ◌ of_ℤ eps
fifth_e = record { across = le_z_yes tt }

fifth_d : of_ℕ 64 *ᶠ (step *ᶠ e step 4) ≼ of_ℕ 43 *ᶠ eps
unfolding e power factorial ◌÷◌ over ◌*ᶠ◌ of_ℤ eps
fifth_d = record { across = le_z_yes tt }

pub small_e : {y : Fraction} → Nonneg y → y ≼ step → of_ℕ 64 *ᶠ e y 5 ≼ of_ℕ 9 *ᶠ eps
small_e {y} h k =
    certify (e y 5 ∷ e step 5 ∷ eps ∷ []) (number 64 ⊠ slack (e_mono h k 5) ⊞ slack fifth_e) (search quote depth 40 fits 9999) tt

pub small_d : {y z : Fraction} → Nonneg y → Nonneg z → y ≼ step → z ≼ step → of_ℕ 64 *ᶠ d y z 5 ≼ of_ℕ 43 *ᶠ eps
small_d {y} {z} h k p q =
    certify (d y z 5 ∷ y ∷ step ∷ e step 4 ∷ eps ∷ [])
    (number 64 ⊠ slack (d_small h k p q 4) ⊞ number 64 ⊠ slack p ⊠ e_nonneg (≼_trans h p) 4 ⊞ slack fifth_d)
    (search quote depth 40 fits 9999)
    tt

pub within_lost :
    (s s6 X e5 L τ : Fraction) →
    Within s s6 τ →
    s6 ≈ of_ℕ 1 -ᶠ X -ᶠ e5 →
    of_ℕ 64 *ᶠ τ ≼ eps →
    Nonneg e5 →
    of_ℕ 64 *ᶠ e5 ≼ of_ℕ 9 *ᶠ eps →
    Sum X L 129 130 →
    Within s (of_ℕ 1 -ᶠ L) (of_ℕ 3 *ᶠ eps)
within_lost s s6 X e5 L τ w six tail fifth_nonneg fifth sum =
    record {
      high =
          certify_times 63 (s ∷ s6 ∷ X ∷ e5 ∷ L ∷ τ ∷ eps ∷ [])
          (number 64 ⊠ slack w.high ⊞ slack sum.low ⊞ slack tail ⊞ number 64 ⊠ fifth_nonneg ⊞ number 61 ⊠ eps_nonneg ⊞ multiple (of_ℕ 64) six)
          (search quote depth 40 fits 9999)
          tt;
      low =
          certify_times 63 (s ∷ s6 ∷ X ∷ e5 ∷ L ∷ τ ∷ eps ∷ [])
          (number 64 ⊠ slack w.low ⊞ slack sum.high ⊞ slack tail ⊞ slack fifth ⊞ number 53 ⊠ eps_nonneg ⊞ multiple (of_ℕ 64) (≈_sym six))
          (search quote depth 40 fits 9999)
          tt;
    }

pub within_spent :
    (f D d5 U τ : Fraction) →
    Within f (D +ᶠ d5) τ →
    of_ℕ 64 *ᶠ τ ≼ eps →
    Nonneg d5 →
    of_ℕ 64 *ᶠ d5 ≼ of_ℕ 43 *ᶠ eps →
    Sum D U 194 260 →
    Within f U (of_ℕ 5 *ᶠ eps)
within_spent f D d5 U τ w tail fifth_nonneg fifth sum =
    record {
      high =
          certify_times 63 (f ∷ D ∷ d5 ∷ U ∷ τ ∷ eps ∷ [])
          (number 64 ⊠ slack w.high ⊞ slack sum.high ⊞ slack tail ⊞ slack fifth ⊞ number 82 ⊠ eps_nonneg)
          (search quote depth 40 fits 9999)
          tt;
      low =
          certify_times 63 (f ∷ D ∷ d5 ∷ U ∷ τ ∷ eps ∷ [])
          (number 64 ⊠ slack w.low ⊞ slack sum.low ⊞ slack tail ⊞ number 64 ⊠ fifth_nonneg ⊞ number 59 ⊠ eps_nonneg)
          (search quote depth 40 fits 9999)
          tt;
    }

six_terms : (y : Fraction) → S 6 y ≈ of_ℕ 1 -ᶠ (e y 1 -ᶠ e y 2 +ᶠ e y 3 -ᶠ e y 4) -ᶠ e y 5
six_terms y =
    ring_by (S 6 y ∷ e y 1 ∷ e y 2 ∷ e y 3 ∷ e y 4 ∷ e y 5 ∷ []) (of_ℕ 1 ⋅ S-six y & none) (search quote depth 40 fits 9999) tt

-- a small whole number is a share of at most one
small_share_one : {n : ℕ} → n ≤ small → share n ≼ of_ℕ 1
small_share_one {n} h = ≼_trans (share_mono (le_trans h (lit≤ tt))) (≼_of-≈ share_one)

-- a sound step that is near in its three shares is near
pub sound_near :
    (s : Step) {s1 f s2 : Fraction} →
    SoundStep s →
    Within s1 (of_ℕ 1 -ᶠ share s.lost) (of_ℕ 3 *ᶠ eps) →
    Within f (share s.spent) (of_ℕ 5 *ᶠ eps) →
    Within s2 (of_ℕ 1 -ᶠ share s.filled) (of_ℕ 3 *ᶠ eps) →
    StepNear (share s.lost) (share s.spent) (share s.filled) s1 f s2
sound_near s sound lost spent filled =
    record {
      spent_nonneg = share_nonneg s.spent;
      spent_lost = share_mono sound.spent_lost;
      lost_one = small_share_one sound.lost_small;
      filled_nonneg = share_nonneg s.filled;
      filled_one = small_share_one sound.filled_small;
      lost_near = lost;
      spent_near = spent;
      filled_near = filled;
    }

module _ {N k1 k2 v Q : ℕ} (long : 40 ≤ N) (p : RatesPass k1 k2 v Q) where
  pub exponents :
      (k l : ℕ) →
      k * v ≤ 345600 * Q →
      l * v ≤ 345600 * Q →
      Exponents (exponent_of k v Q) (exponent_of l v Q) (exponent k v Q 1) (exponent l v Q 1)
  exponents k l h i =
      record {
        near_y = near_exponent k v Q p.flow_above;
        near_z = near_exponent l v Q p.flow_above;
        small_y = small_exponent k v Q h;
        small_z = small_exponent l v Q i;
      }

  -- the share of a rate by itself, BOD lost or deficit filled: any second rate will do
  rate_near :
      (k : ℕ) →
      k * v ≤ 345600 * Q →
      Within (S N (exponent k v Q 1)) (of_ℕ 1 -ᶠ share (series_of (exponent_of k v Q) 0).sum) (of_ℕ 3 *ᶠ eps)
  rate_near k h =
      let y = exponent k v Q 1 in
      let sign = exponent_nonneg k v Q 1 in
      let short = exponent_step k v Q h in
      within_lost (S N y) (S 6 y) _ (e y 5) _ (of_ℕ 1 ÷ of_ℕ (2 ^ 56)) (S-short long sign short) (six_terms y) tail_s (e_nonneg sign 5) (small_e sign short)
      (lost_near (exponent_of k v Q) (exponent_of k v Q) y y (e y) (d y y) (exponents k k h h) (exact_terms y y) (exponent_small k v Q h))

  -- the share that both rates make: BOD spent
  rates_near : Within (F N k1 k2 v Q 1) (share (series_of (exponent_of k1 v Q) (exponent_of k2 v Q)).sum) (of_ℕ 5 *ᶠ eps)
  rates_near =
      let y = exponent k1 v Q 1 in
      let z = exponent k2 v Q 1 in
      let y_sign = exponent_nonneg k1 v Q 1 in
      let z_sign = exponent_nonneg k2 v Q 1 in
      let y_step = exponent_step k1 v Q p.k1_short in
      let z_step = exponent_step k2 v Q p.k2_short in
      within_spent (F N k1 k2 v Q 1) _ (d y z 5) _ (of_ℕ 1 ÷ of_ℕ (2 ^ 53)) (F-short long k1 k2 v Q p.k1_short p.k2_short) tail_f (d_nonneg y_sign z_sign 5) (small_d y_sign z_sign y_step z_step)
      (spent_near (exponent_of k1 v Q) (exponent_of k2 v Q) y z (e y) (d y z) (exponents k1 k2 p.k1_short p.k2_short) (exact_terms y z) (exponent_small k1 v Q p.k1_short) (exponent_small k2 v Q p.k2_short))

  pub step_near :
      StepNear (share (step_of k1 k2 v Q).lost) (share (step_of k1 k2 v Q).spent) (share (step_of k1 k2 v Q).filled) (S N (exponent k1 v Q 1)) (F N k1 k2 v Q 1) (S N (exponent k2 v Q 1))
  unfolding step_of
  step_near = sound_near (step_of k1 k2 v Q) (step_sound k1 k2 v Q p) (rate_near k1 p.k1_short) rates_near (rate_near k2 p.k2_short)
