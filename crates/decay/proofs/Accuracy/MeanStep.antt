-- The means over a step of a reach against the integrals of S and F over its first instant: as near as the shares of the step are to S and F.
use mathlib.Core.List.{[], ◌∷◌}
use Prim.Native.Nat.{ℕ, ◌*◌, ◌^◌, ◌≤◌}
use lib.Dec.{lit<}
use Rattle.decay.specs.Fraction.{Fraction, of_ℕ, ◌-ᶠ◌, ◌*ᶠ◌, ◌÷◌, ◌≼◌}
use Rattle.decay.specs.Exact.{exponent}
use Rattle.decay.specs.held.Step.{RatesPass, exponent_of, mean_sum_of, mean_step_of}
use Rattle.decay.specs.Series.{most_terms}
use Rattle.decay.specs.held.Promise.{share}
use Rattle.decay.proofs.Algebra.{≈_refl, quote, Nonneg, slack, number, ◌⊞◌, ◌⊠◌, multiple, certify_times, positive_whole, ÷_cancel_pos, ÷_nonneg, Within}
use Rattle.decay.proofs.step.Shares.{exponent_small}
use Rattle.decay.proofs.step.MeanShares.{mean_step_sound}
use Rattle.decay.proofs.Accuracy.Units.{eps}
use Rattle.decay.proofs.Accuracy.Step.{mean_lost_near, mean_spent_near}
use Rattle.decay.proofs.Accuracy.Advance.{StepNear}
use Rattle.decay.proofs.Accuracy.Reach.{exact_terms, tail_s, tail_f, small_e, small_d, within_lost, within_spent, sound_near, exponents}
use Rattle.decay.proofs.Exponential.{e, e_nonneg, exponent_nonneg, exponent_step, d, d_nonneg, first_s, first_f, first_s_short, first_f_short}

-- a sixth of what is small is small
sixth : {x c : Fraction} → Nonneg x → of_ℕ 64 *ᶠ x ≼ c → of_ℕ 64 *ᶠ (x ÷ of_ℕ 6) ≼ c
sixth {x} {c} h k =
    certify_times 5 (x ∷ c ∷ (x ÷ of_ℕ 6) ∷ []) (number 6 ⊠ slack k ⊞ number 320 ⊠ h ⊞ multiple (of_ℕ 64) (÷_cancel_pos x (positive_whole {n = 6} (lit< tt)))) (search quote depth 40 fits 9999) tt

module _ {N k1 k2 v Q : ℕ} (long : 40 ≤ N) (p : RatesPass k1 k2 v Q) where
  -- the mean of what is lost, or filled: any second rate will do
  rate_near : (k : ℕ) → k * v ≤ 345600 * Q → Within (first_s N k v Q) (of_ℕ 1 -ᶠ share (mean_sum_of (exponent_of k v Q) 0 most_terms)) (of_ℕ 3 *ᶠ eps)
  rate_near k h =
      let y = exponent k v Q 1 in
      let sign = exponent_nonneg k v Q 1 in
      let fifth = e_nonneg sign 5 in
      within_lost (first_s N k v Q) _ _ (e y 5 ÷ of_ℕ 6) _ (of_ℕ 1 ÷ of_ℕ (2 ^ 56)) (first_s_short long k v Q h) (≈_refl _) tail_s (÷_nonneg fifth (number 6)) (sixth fifth (small_e sign (exponent_step k v Q h)))
      (mean_lost_near (exponent_of k v Q) (exponent_of k v Q) y y (e y) (d y y) (exponents long p k k h h) (exact_terms y y) (exponent_small k v Q h))

  -- the mean of what is spent
  rates_near : Within (first_f N k1 k2 v Q) (share (mean_sum_of (exponent_of k1 v Q) (exponent_of k2 v Q) most_terms)) (of_ℕ 5 *ᶠ eps)
  rates_near =
      let y = exponent k1 v Q 1 in
      let z = exponent k2 v Q 1 in
      let y_sign = exponent_nonneg k1 v Q 1 in
      let z_sign = exponent_nonneg k2 v Q 1 in
      let fifth = d_nonneg y_sign z_sign 5 in
      within_spent (first_f N k1 k2 v Q) _ (d y z 5 ÷ of_ℕ 6) _ (of_ℕ 1 ÷ of_ℕ (2 ^ 53)) (first_f_short long k1 k2 v Q p.k1_short p.k2_short) tail_f (÷_nonneg fifth (number 6)) (sixth fifth (small_d y_sign z_sign (exponent_step k1 v Q p.k1_short) (exponent_step k2 v Q p.k2_short)))
      (mean_spent_near (exponent_of k1 v Q) (exponent_of k2 v Q) y z (e y) (d y z) (exponents long p k1 k2 p.k1_short p.k2_short) (exact_terms y z) (exponent_small k1 v Q p.k1_short) (exponent_small k2 v Q p.k2_short))

  pub mean_step_near :
      StepNear (share (mean_step_of k1 k2 v Q).lost) (share (mean_step_of k1 k2 v Q).spent) (share (mean_step_of k1 k2 v Q).filled) (first_s N k1 v Q) (first_f N k1 k2 v Q) (first_s N k2 v Q)
  unfolding mean_step_of
  mean_step_near = sound_near (mean_step_of k1 k2 v Q) (mean_step_sound k1 k2 v Q p) (rate_near k1 p.k1_short) rates_near (rate_near k2 p.k2_short)
