-- The promise for the means over a reach: the averages are as near as the factors at the instants, and the means over one step take them one step
-- further, as a step does. BOD left and turned together are within 11,277 units of 2^-44 of the exact means, and the deficit left is within 5,126.
use mathlib.Core.List.{[], ◌∷◌}
use Prim.Native.Nat.{ℕ, zero, suc, ◌*◌, ◌/◌, ◌^◌, ◌≤◌}
use native.Mathlib.Nat.{le_refl, le_of_lt}
use native.Mathlib.Omega.{arith}
use lib.Dec.{lit<}
use lib.Signed.{le_z_yes}
use Rattle.decay.specs.Fraction.{Fraction, of_ℕ, of_ℤ, over, ◌+ᶠ◌, ◌*ᶠ◌, ◌÷◌, ◌≈◌, ◌≼◌}
use Rattle.decay.specs.Exact.{steps, foot, exponent, sum, S, F}
use Rattle.decay.specs.Integral.{mean_s, mean_f}
use Rattle.decay.specs.Fixed.{one}
use Rattle.decay.specs.held.Step.{RatesPass, step_of, mean_step_of}
use Rattle.decay.specs.held.Factors.{demand_from, factors_at}
use Rattle.decay.specs.held.Mean.{sum_to, average_demand, average_factors, mean_demand, mean_demand_of, mean_factors, mean_factors_of}
use Rattle.decay.specs.held.Promise.{share, bod_distance, demand_distance, deficit_distance, MeanDemandAccurate, MeanAccurate}
use Rattle.decay.specs.declared.factors.DemandFactors.{DemandFactors}
use Rattle.decay.proofs.Algebra.{≈_refl, ≈_sym, ring, ring_by, ◌⋅◌, ◌&◌, none, quote, ≼_trans, ≼_of-≈, slack, number, ◌⊞◌, ◌⊠◌, multiple, certify, certify_by, certify_times, positive_whole, ÷_cancel_pos, ÷_reciprocal, ÷_nonneg, Within, within_of-≈, within_weaken, within_by, within_sum, within→distance}
use Rattle.decay.proofs.step.Shares.{step_sound}
use Rattle.decay.proofs.step.MeanShares.{mean_step_sound}
use Rattle.decay.proofs.mean.Averages.{average_demand_range, average_range, mean_starts_with_one}
use Rattle.decay.proofs.Exponential.{first_s, first_f, average_of, S-mean, F-mean}
use Rattle.decay.proofs.Accuracy.{rest, at_last, one_more, bod_weaken, bod_by, bod_of_one, start_of_one, part_near, demand_at_lem, deficit_at, both_near}
use Rattle.decay.proofs.Accuracy.Units.{eps, eps_nonneg, share_nonneg, share_mono, share_sum, share_zero, share_one, part_share}
use Rattle.decay.proofs.Accuracy.Advance.{BodNear, bod_advance, deficit_advance}
use Rattle.decay.proofs.Accuracy.Whole.{left_moves, turned_moves, kept_moves}
use Rattle.decay.proofs.Accuracy.MeanStep.{mean_step_near}

-- ---- sums and averages of what is near

bod_sum :
    {p g s f e p' g' s' f' e' : Fraction} →
    BodNear p g s f e →
    BodNear p' g' s' f' e' →
    BodNear (p +ᶠ p') (g +ᶠ g') (s +ᶠ s') (f +ᶠ f') (e +ᶠ e')
bod_sum {e = e} {e' = e'} b c =
    record {
      u = b.u +ᶠ c.u;
      v = b.v +ᶠ c.v;
      left_near = within_sum b.left_near c.left_near;
      turned_near = within_sum b.turned_near c.turned_near;
      sum = certify (b.u ∷ b.v ∷ c.u ∷ c.v ∷ e ∷ e' ∷ []) (slack b.sum ⊞ slack c.sum) (search quote depth 40 fits 9999) tt;
    }

-- an average is rounded down by at most a unit
average_near : (n : ℕ) {s u : Fraction} → Within (share n) s u → Within (share (n / steps)) (s ÷ of_ℕ steps) (u ÷ of_ℕ steps +ᶠ eps)
average_near n {s} {u} w =
    let t = part_share 1023 n in
    let sf = ÷_cancel_pos s (positive_whole {n = steps} (lit< tt)) in
    let uf = ÷_cancel_pos u (positive_whole {n = steps} (lit< tt)) in
    record {
      high =
          certify_times 1023 (share n ∷ share (n / steps) ∷ s ∷ u ∷ (s ÷ of_ℕ steps) ∷ (u ÷ of_ℕ steps) ∷ eps ∷ []) (slack w.high ⊞ slack t.low ⊞ number 1024 ⊠ eps_nonneg ⊞ multiple (of_ℕ 1) (≈_sym sf) ⊞ multiple (of_ℕ 1) (≈_sym uf)) (search quote depth 40 fits 9999) tt;
      low =
          certify_times 1023 (share n ∷ share (n / steps) ∷ s ∷ u ∷ (s ÷ of_ℕ steps) ∷ (u ÷ of_ℕ steps) ∷ eps ∷ []) (slack w.low ⊞ slack t.high ⊞ eps_nonneg ⊞ multiple (of_ℕ 1) sf ⊞ multiple (of_ℕ 1) (≈_sym uf)) (search quote depth 40 fits 9999) tt;
    }

bod_average : (a b : ℕ) {s f e : Fraction} → BodNear (share a) (share b) s f e → BodNear (share (a / steps)) (share (b / steps)) (s ÷ of_ℕ steps) (f ÷ of_ℕ steps) (e ÷ of_ℕ steps +ᶠ of_ℕ 2 *ᶠ eps)
bod_average a b {e = e} h =
    record {
      u = h.u ÷ of_ℕ steps +ᶠ eps;
      v = h.v ÷ of_ℕ steps +ᶠ eps;
      left_near = average_near a h.left_near;
      turned_near = average_near b h.turned_near;
      sum =
          certify_by (h.u ∷ h.v ∷ e ∷ (h.u ÷ of_ℕ steps) ∷ (h.v ÷ of_ℕ steps) ∷ (e ÷ of_ℕ steps) ∷ (of_ℕ 1 ÷ of_ℕ steps) ∷ eps ∷ []) (of_ℕ 1 ⋅ ÷_reciprocal h.u (of_ℕ steps) & of_ℕ 1 ⋅ ÷_reciprocal h.v (of_ℕ steps) & of_ℕ 1 ⋅ ÷_reciprocal e (of_ℕ steps) & none) (slack h.sum ⊠ ÷_nonneg (number 1) (number steps)) (search quote depth 40 fits 9999) tt;
    }

-- ---- figures

demand_units : of_ℕ (11264 * steps) *ᶠ eps ÷ of_ℕ steps +ᶠ of_ℕ 2 *ᶠ eps ≼ of_ℕ 11266 *ᶠ eps
unfolding ◌÷◌ ◌*ᶠ◌ ◌+ᶠ◌ over of_ℤ eps
demand_units = record { across = le_z_yes tt }

deficit_units : of_ℕ (5120 * steps) *ᶠ eps ÷ of_ℕ steps +ᶠ eps ≼ of_ℕ 5121 *ᶠ eps
unfolding ◌÷◌ ◌*ᶠ◌ ◌+ᶠ◌ over of_ℤ eps
deficit_units = record { across = le_z_yes tt }

few_demand : of_ℕ 20 *ᶠ (of_ℕ 11266 *ᶠ eps) ≼ of_ℕ 1
unfolding ◌*ᶠ◌ over of_ℤ eps
few_demand = record { across = le_z_yes tt }

few_deficit : of_ℕ 20 *ᶠ (of_ℕ 5121 *ᶠ eps) ≼ of_ℕ 1
unfolding ◌*ᶠ◌ over of_ℤ eps
few_deficit = record { across = le_z_yes tt }

demand_figure : of_ℕ 11266 *ᶠ eps +ᶠ of_ℕ 11 *ᶠ eps ≼ demand_distance
unfolding ◌÷◌ ◌*ᶠ◌ ◌+ᶠ◌ over of_ℤ eps
demand_figure = record { across = le_z_yes tt }

bod_figure : of_ℕ 11266 *ᶠ eps +ᶠ of_ℕ 11 *ᶠ eps ≼ bod_distance
unfolding ◌÷◌ ◌*ᶠ◌ ◌+ᶠ◌ over of_ℤ eps
bod_figure = record { across = le_z_yes tt }

deficit_figure : of_ℕ 5121 *ᶠ eps +ᶠ of_ℕ 5 *ᶠ eps ≼ deficit_distance
unfolding ◌÷◌ ◌*ᶠ◌ ◌+ᶠ◌ over of_ℤ eps
deficit_figure = record { across = le_z_yes tt }

-- the exact means are made of S and F at one term more
longer : {N : ℕ} → 40 ≤ N → 40 ≤ suc N
longer h = omega arith

-- ---- a demand

module _ {N k k2 v Q : ℕ} (long : 40 ≤ N) (p : RatesPass k k2 v Q) (start : ℕ) (few_parts : start ≤ one) where
  abbrev at : ℕ → DemandFactors
  at m = demand_from start (step_of k k2 v Q) m

  abbrev average : DemandFactors
  average = average_demand start (step_of k k2 v Q)

  abbrev Sm : ℕ → Fraction
  Sm m = S (suc N) (exponent k v Q m)

  abbrev Fm : ℕ → Fraction
  Fm m = F (suc N) k k2 v Q m

  -- a part of a sum, and of an average
  part_sum : (a b : Fraction) → share start *ᶠ (a +ᶠ b) ≈ share start *ᶠ a +ᶠ share start *ᶠ b
  part_sum a b = ring (share start ∷ a ∷ b ∷ []) (search quote depth 40 fits 9999) tt

  part_average : (a : Fraction) → share start *ᶠ (a ÷ of_ℕ steps) ≈ share start *ᶠ a ÷ of_ℕ steps
  part_average a =
      ring_by (share start ∷ a ∷ (a ÷ of_ℕ steps) ∷ (share start *ᶠ a ÷ of_ℕ steps) ∷ (of_ℕ 1 ÷ of_ℕ steps) ∷ []) (share start ⋅ ÷_reciprocal a (of_ℕ steps) & of_ℕ 1 ⋅ ÷_reciprocal (share start *ᶠ a) (of_ℕ steps) & none) (search quote depth 40 fits 9999) tt

  -- the sums up to an instant: 11,264 units for each
  demand_sum_lem :
      (n : ℕ) →
      n ≤ foot →
      BodNear (share (sum_to (λ m. (at m).left) n)) (share (sum_to (λ m. (at m).turned) n)) (share start *ᶠ sum Sm n) (share start *ᶠ sum Fm n) (of_ℕ (11264 * n) *ᶠ eps)
  unfolding sum_to sum
  demand_sum_lem zero h =
      record { u = of_ℕ 0; v = of_ℕ 0; left_near = within_of-≈ nothing; turned_near = within_of-≈ nothing; sum = certify (eps ∷ []) (number 0) (search quote depth 40 fits 9999) tt }
    where
      nothing : share 0 ≈ share start *ᶠ of_ℕ 0
      nothing = ring_by (share 0 ∷ share start ∷ []) (of_ℕ 1 ⋅ share_zero & none) (search quote depth 40 fits 9999) tt
  demand_sum_lem (suc n) h =
      bod_weaken (one_more 11264 n)
      (bod_by (share_sum (sum_to (λ m. (at m).left) n) (at n).left) (share_sum (sum_to (λ m. (at m).turned) n) (at n).turned) (part_sum (sum Sm n) (Sm n)) (part_sum (sum Fm n) (Fm n))
      (bod_sum (demand_sum_lem n (le_of_lt h)) (bod_weaken (at_last 11 (le_of_lt h)) (demand_at_lem (longer long) p start few_parts n (le_of_lt h)))))

  demand_average : BodNear (share average.left) (share average.turned) (share start *ᶠ average_of Sm) (share start *ᶠ average_of Fm) (of_ℕ 11266 *ᶠ eps)
  demand_average =
      bod_weaken demand_units
      (bod_by (≈_refl _) (≈_refl _) (part_average (sum Sm steps)) (part_average (sum Fm steps))
      (bod_average (sum_to (λ m. (at m).left) steps) (sum_to (λ m. (at m).turned) steps) (demand_sum_lem foot (le_refl foot))))

  average_of_one : share average.left +ᶠ share average.turned ≼ of_ℕ 1
  average_of_one =
      ≼_trans (≼_of-≈ (≈_sym (share_sum average.left average.turned)))
      (≼_trans (share_mono (average_demand_range (step_sound k k2 v Q p) start)) (start_of_one long p start few_parts))

  demand_mean :
      BodNear (share (mean_demand_of start k k2 v Q).left) (share (mean_demand_of start k k2 v Q).turned) (share start *ᶠ mean_s N k v Q) (share start *ᶠ mean_f N k k2 v Q) (of_ℕ 11266 *ᶠ eps +ᶠ of_ℕ 11 *ᶠ eps)
  unfolding mean_demand
  demand_mean =
      let mean_step = mean_step_of k k2 v Q in
      let sound = mean_step_sound k k2 v Q p in
      let c = share start in
      let As = average_of Sm in
      let Af = average_of Fm in
      let S₁ = first_s N k v Q in
      let F₁ = first_f N k k2 v Q in
      let S₂ = first_s N k2 v Q in
      bod_advance (share mean_step.lost) (share mean_step.spent) (share mean_step.filled) S₁ F₁ S₂ (of_ℕ 1 ÷ of_ℕ (2 ^ 60)) (mean_step_near long p) rest
      (share_nonneg average.left)
      (share_nonneg average.turned)
      average_of_one
      few_demand
      demand_average
      (left_moves mean_step average sound)
      (turned_moves mean_step average sound)
      (within_by (≈_refl _) (ring (c ∷ As ∷ S₁ ∷ []) (search quote depth 40 fits 9999) tt) (part_near long p start few_parts (S-mean long k v Q p.flow_above p.k1_short)))
      (within_by (≈_refl _) (ring (c ∷ As ∷ Af ∷ F₁ ∷ S₂ ∷ []) (search quote depth 40 fits 9999) tt) (part_near long p start few_parts (F-mean long k k2 v Q p.flow_above p.k1_range p.k1_short p.k2_short)))

-- ---- the deficit

module _ {N k1 k2 v Q : ℕ} (long : 40 ≤ N) (p : RatesPass k1 k2 v Q) where
  abbrev kept : ℕ → ℕ
  kept m = (factors_at (step_of k1 k2 v Q) m).kept

  abbrev Km : ℕ → Fraction
  Km m = S (suc N) (exponent k2 v Q m)

  -- the sum up to an instant: 5,120 units for each
  deficit_sum : (n : ℕ) → n ≤ foot → Within (share (sum_to kept n)) (sum Km n) (of_ℕ (5120 * n) *ᶠ eps)
  unfolding sum_to sum
  deficit_sum zero h = within_weaken (within_of-≈ share_zero) (certify (eps ∷ []) (number 0) (search quote depth 40 fits 9999) tt)
  deficit_sum (suc n) h =
      within_weaken
      (within_by (share_sum (sum_to kept n) (kept n)) (≈_refl _)
      (within_sum (deficit_sum n (le_of_lt h)) (within_weaken (deficit_at (longer long) p n (le_of_lt h)) (at_last 5 (le_of_lt h)))))
      (one_more 5120 n)

  deficit_average : Within (share (average_factors (step_of k1 k2 v Q)).kept) (average_of Km) (of_ℕ 5121 *ᶠ eps)
  deficit_average = within_weaken (average_near (sum_to kept steps) (deficit_sum foot (le_refl foot))) deficit_units

  deficit_mean : Within (share (mean_factors_of k1 k2 v Q).kept) (mean_s N k2 v Q) (of_ℕ 5121 *ᶠ eps +ᶠ of_ℕ 5 *ᶠ eps)
  unfolding mean_factors
  deficit_mean =
      let mean_step = mean_step_of k1 k2 v Q in
      let f = average_factors (step_of k1 k2 v Q) in
      deficit_advance (share mean_step.lost) (share mean_step.spent) (share mean_step.filled) (first_s N k1 v Q) (first_f N k1 k2 v Q) (first_s N k2 v Q) (of_ℕ 1 ÷ of_ℕ (2 ^ 60)) (mean_step_near long p) rest
      (share_nonneg f.kept)
      (≼_trans (share_mono (average_range (step_sound k1 k2 v Q p)).deficit) (≼_of-≈ share_one))
      few_deficit
      deficit_average
      (kept_moves mean_step f (mean_step_sound k1 k2 v Q p))
      (S-mean long k2 v Q p.flow_above p.k2_short)

-- ---- the promise

-- THEOREM: the mean of a demand of any rate that starts with any number of parts up to one is near the exact one, for every series length from 40
-- up and every reach that check 11 lets through
pub mean_demand_accuracy : {N k k2 volume Q : ℕ} (start : ℕ) → start ≤ one → 40 ≤ N → RatesPass k k2 volume Q → MeanDemandAccurate N start k k2 volume Q
mean_demand_accuracy start few_parts long p = record { near = both_near (demand_mean long p start few_parts) demand_figure }

-- THEOREM: the means of the factors are accurate likewise
pub mean_accuracy : {N k1 k2 volume Q : ℕ} → 40 ≤ N → RatesPass k1 k2 volume Q → MeanAccurate N k1 k2 volume Q
mean_accuracy {N} {k1} {k2} {volume} {Q} long p =
    let bod = bod_of_one (mean_factors_of k1 k2 volume Q) (mean_starts_with_one (mean_step_of k1 k2 volume Q) (step_of k1 k2 volume Q)) (demand_mean long p one (le_refl one)) in
    record {
      bod_near = both_near bod bod_figure;
      deficit_near = ≼_trans (within→distance (deficit_mean long p)) deficit_figure;
    }
