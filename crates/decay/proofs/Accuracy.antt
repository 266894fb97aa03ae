-- The promise of the arithmetic layer. At instant m, BOD left and turned together are within 11 × m units of 2^-44 of the exact ones, and the
-- deficit left is within 5 × m. So at every instant up to 1,024 the former are within 2^-28 and the latter is within 2^-31.
-- A demand that starts with fewer parts than one is within 2^-30.
pub mod Units
pub mod Series
pub mod Step
pub mod Advance
pub mod Whole
pub mod Reach
pub mod MeanStep
use mathlib.Core.Path.{◌≡◌, ap}
use mathlib.Core.List.{[], ◌∷◌}
use Prim.Native.Nat.{ℕ, zero, suc, ◌*◌, ◌^◌, ◌≤◌}
use native.Mathlib.Omega.{arith}
use native.Mathlib.Nat.{le_refl, le_of_lt}
use lib.Dec.{lit≤}
use lib.Signed.{le_z_yes}
use Rattle.decay.specs.Fraction.{Fraction, of_ℕ, of_ℤ, over, ◌+ᶠ◌, ◌*ᶠ◌, ◌÷◌, ◌≈◌, ◌≼◌, distance}
use Rattle.decay.specs.Exact.{exponent, S, F}
use Rattle.decay.specs.held.Step.{RatesPass, step_of}
use Rattle.decay.specs.held.Factors.{demand_from, demand_in, head_factors, factors_at}
use Rattle.decay.specs.held.Promise.{share, factors_of, bod_distance, deficit_distance, Accurate, demand_distance, DemandAccurate}
use Rattle.decay.specs.Fixed.{one}
use Rattle.decay.specs.declared.factors.DemandFactors.{DemandFactors}
use Rattle.decay.specs.declared.factors.Factors.{Factors}
use Rattle.decay.proofs.Algebra.{≈_refl, ≈_sym, ≈_trans, ring, ring_by, ◌⋅◌, ◌&◌, none as no_equations, quote, replaced, ≼_trans, ≼_of-≈, Nonneg, slack, number, ◌⊞◌, ◌⊠◌, multiple, certify, of_ℕ_mono, of_ℕ_suc, Within, small, bound_nonneg, within_of-≈, within_weaken, within_scale, within_by, within→distance}
use Rattle.decay.proofs.step.Shares.{step_sound}
use Rattle.decay.proofs.factors.Instants.{range, starts_with_one, demand_range}
use Units.{eps, eps_nonneg, one_eps, share_is, share_nonneg, share_mono, share_sum, share_equal, share_one}
use Advance.{BodNear, bod_advance, deficit_advance}
use Whole.{left_moves, turned_moves, kept_moves}
use Reach.{step_near}
use Rattle.decay.proofs.Exponential.{S-compose, F-compose, S-start, F-start}

-- ---- figures

-- what composition leaves over is small against a unit
pub rest : of_ℕ 4 *ᶠ (of_ℕ 1 ÷ of_ℕ (2 ^ 60)) ≼ eps
unfolding ◌÷◌ ◌*ᶠ◌ over of_ℤ eps
rest = record { across = le_z_yes tt }

shorter : of_ℕ 1 ÷ of_ℕ (2 ^ 78) ≼ of_ℕ 1 ÷ of_ℕ (2 ^ 60)
unfolding ◌÷◌ ◌*ᶠ◌ over of_ℤ
shorter = record { across = le_z_yes tt }

bod_figure : of_ℕ 11264 *ᶠ eps ≼ bod_distance
unfolding ◌÷◌ ◌*ᶠ◌ over of_ℤ eps
bod_figure = record { across = le_z_yes tt }

demand_figure : of_ℕ 11264 *ᶠ eps ≼ demand_distance
unfolding ◌÷◌ ◌*ᶠ◌ over of_ℤ eps
demand_figure = record { across = le_z_yes tt }

deficit_figure : of_ℕ 5120 *ᶠ eps ≼ deficit_distance
unfolding ◌÷◌ ◌*ᶠ◌ over of_ℤ eps
deficit_figure = record { across = le_z_yes tt }

-- c × m units for c up to 11 and m up to 1,024 are few
few : {c m : ℕ} → c ≤ 11 → m ≤ 1024 → of_ℕ 20 *ᶠ (of_ℕ (c * m) *ᶠ eps) ≼ of_ℕ 1
few {c} {m} h k =
    certify (of_ℕ c ∷ of_ℕ m ∷ eps ∷ [])
    (number 20 ⊠ eps_nonneg ⊠ (number c ⊠ slack (of_ℕ_mono k) ⊞ number 1024 ⊠ slack (of_ℕ_mono h)) ⊞ number 17592185819136 ⊠ eps_nonneg ⊞ multiple (of_ℕ 1) one_eps)
    (search quote depth 40 fits 9999)
    tt

-- at most 1,024 times c units
pub at_last : (c : ℕ) {m : ℕ} → m ≤ 1024 → of_ℕ (c * m) *ᶠ eps ≼ of_ℕ (c * 1024) *ᶠ eps
at_last c {m} k =
    certify (of_ℕ c ∷ of_ℕ m ∷ eps ∷ []) (eps_nonneg ⊠ (number c ⊠ slack (of_ℕ_mono k))) (search quote depth 40 fits 9999) tt

pub one_more : (c m : ℕ) → of_ℕ (c * m) *ᶠ eps +ᶠ of_ℕ c *ᶠ eps ≼ of_ℕ (c * suc m) *ᶠ eps
one_more c m =
    certify (of_ℕ c ∷ of_ℕ m ∷ eps ∷ []) (number 0) (search (quote, replaced (of_ℕ_suc m)) depth 40 fits 9999) tt

pub bod_weaken : {p g s f e e' : Fraction} → e ≼ e' → BodNear p g s f e → BodNear p g s f e'
bod_weaken h b =
    record { u = b.u; v = b.v; left_near = b.left_near; turned_near = b.turned_near; sum = ≼_trans b.sum h }

pub bod_by : {p g s f e p' g' s' f' : Fraction} → p' ≈ p → g' ≈ g → s' ≈ s → f' ≈ f → BodNear p g s f e → BodNear p' g' s' f' e
bod_by hp hg hs hf b =
    record { u = b.u; v = b.v; left_near = within_by hp hs b.left_near; turned_near = within_by hg hf b.turned_near; sum = b.sum }

-- BOD is the demand that starts with one
pub bod_of_one : (x : Factors) {d : DemandFactors} {s f e : Fraction} → demand_in x ≡ d → BodNear (share d.left) (share d.turned) (share one *ᶠ s) (share one *ᶠ f) e → BodNear (share x.left) (share x.turned) s f e
bod_of_one x {d} {s} {f} h =
    bod_by (share_equal (ap (λ (y : DemandFactors). y.left) h)) (share_equal (ap (λ (y : DemandFactors). y.turned) h)) (once s) (once f)
  where
    once : (x : Fraction) → x ≈ share one *ᶠ x
    once x = ring_by (x ∷ share one ∷ []) (x ⋅ share_one & no_equations) (search quote depth 40 fits 9999) tt

-- ---- every instant

-- a part of two fractions is as near as they are
part_within : {x y c e : Fraction} → Nonneg c → c ≼ of_ℕ 1 → Within x y e → Within (c *ᶠ x) (c *ᶠ y) e
part_within {x} {y} {c} {e} h k w =
    within_weaken (within_scale h w) (certify (c ∷ e ∷ []) (slack k ⊠ bound_nonneg (small w)) (search quote depth 40 fits 9999) tt)

-- a demand that starts with at most one
module _ {N k1 k2 v Q : ℕ} (long : 40 ≤ N) (p : RatesPass k1 k2 v Q) (start : ℕ) (few_parts : start ≤ one) where
  abbrev at : ℕ → DemandFactors
  at m = demand_from start (step_of k1 k2 v Q) m

  pub start_of_one : share start ≼ of_ℕ 1
  start_of_one = ≼_trans (share_mono few_parts) (≼_of-≈ share_one)

  pub part_near : {x y e : Fraction} → Within x y e → Within (share start *ᶠ x) (share start *ᶠ y) e
  part_near = part_within (share_nonneg start) start_of_one

  at_range : (m : ℕ) → share (at m).left +ᶠ share (at m).turned ≼ of_ℕ 1
  at_range m =
      ≼_trans (≼_of-≈ (≈_sym (share_sum (at m).left (at m).turned)))
      (≼_trans (share_mono (demand_range (step_sound k1 k2 v Q p) start m)) start_of_one)

  -- what is left and what has turned of it: 11 units an instant
  pub demand_at_lem :
      (m : ℕ) →
      m ≤ 1024 →
      BodNear (share (at m).left) (share (at m).turned) (share start *ᶠ S N (exponent k1 v Q m)) (share start *ᶠ F N k1 k2 v Q m) (of_ℕ (11 * m) *ᶠ eps)
  unfolding demand_from
  demand_at_lem zero h =
      record {
        u = of_ℕ 0;
        v = of_ℕ 0;
        left_near = within_of-≈ (all (S N (exponent k1 v Q 0)) (S-start k1 v Q positive));
        turned_near = within_of-≈ (nothing (F N k1 k2 v Q 0) (F-start N k1 k2 v Q));
        sum = certify (eps ∷ []) (number 0) (search quote depth 40 fits 9999) tt;
      }
    where
      positive : 1 ≤ N
      positive = omega arith

      all : (x : Fraction) → x ≈ of_ℕ 1 → share start ≈ share start *ᶠ x
      all x e = ring_by (share start ∷ x ∷ []) (share start ⋅ e & no_equations) (search quote depth 40 fits 9999) tt

      nothing : (x : Fraction) → x ≈ of_ℕ 0 → share 0 ≈ share start *ᶠ x
      nothing x e = ring_by (share start ∷ x ∷ eps ∷ []) (share start ⋅ e & no_equations) (search (quote, replaced (share_is 0)) depth 40 fits 9999) tt
  demand_at_lem (suc m) h =
      let s = step_of k1 k2 v Q in
      let c = share start in
      let sound = step_sound k1 k2 v Q p in
      let S₁ = S N (exponent k1 v Q 1) in
      let F₁ = F N k1 k2 v Q 1 in
      let S₂ = S N (exponent k2 v Q 1) in
      let Sm = S N (exponent k1 v Q m) in
      let Fm = F N k1 k2 v Q m in
      bod_weaken (one_more 11 m)
      (bod_advance (share s.lost) (share s.spent) (share s.filled) S₁ F₁ S₂ (of_ℕ 1 ÷ of_ℕ (2 ^ 60)) (step_near long p) rest
      (share_nonneg (at m).left)
      (share_nonneg (at m).turned)
      (at_range m)
      (few (lit≤ tt) (le_of_lt h))
      (demand_at_lem m (le_of_lt h))
      (left_moves s (at m) sound)
      (turned_moves s (at m) sound)
      (within_by (≈_refl _) (ring (c ∷ Sm ∷ S₁ ∷ []) (search quote depth 40 fits 9999) tt) (part_near (within_weaken (S-compose long k1 v Q m p.k1_short h) shorter)))
      (within_by (≈_refl _) (ring (c ∷ Sm ∷ Fm ∷ F₁ ∷ S₂ ∷ []) (search quote depth 40 fits 9999) tt) (part_near (F-compose long k1 k2 v Q m p.k1_range p.k1_short p.k2_short h))))

-- ---- the factors

module _ {N k1 k2 v Q : ℕ} (long : 40 ≤ N) (p : RatesPass k1 k2 v Q) where
  deficit_range : (m : ℕ) → share (factors_of k1 k2 v Q m).kept ≼ of_ℕ 1
  deficit_range m = ≼_trans (share_mono (range (step_sound k1 k2 v Q p) m).deficit) (≼_of-≈ share_one)

  pub bod_at :
      (m : ℕ) →
      m ≤ 1024 →
      BodNear (share (factors_of k1 k2 v Q m).left) (share (factors_of k1 k2 v Q m).turned) (S N (exponent k1 v Q m)) (F N k1 k2 v Q m) (of_ℕ (11 * m) *ᶠ eps)
  bod_at m h = bod_of_one (factors_of k1 k2 v Q m) (starts_with_one (step_of k1 k2 v Q) m) (demand_at_lem long p one (le_refl one) m h)

  -- the deficit left: 5 units an instant
  pub deficit_at :
      (m : ℕ) → m ≤ 1024 → Within (share (factors_of k1 k2 v Q m).kept) (S N (exponent k2 v Q m)) (of_ℕ (5 * m) *ᶠ eps)
  unfolding factors_at head_factors
  deficit_at zero h =
      within_weaken (within_of-≈ (≈_trans share_one (≈_sym (S-start k2 v Q (omega arith))))) (certify (eps ∷ []) (number 0) (search quote depth 40 fits 9999) tt)
  deficit_at (suc m) h =
      let s = step_of k1 k2 v Q in
      let f = factors_of k1 k2 v Q m in
      within_weaken
      (deficit_advance (share s.lost) (share s.spent) (share s.filled) (S N (exponent k1 v Q 1)) (F N k1 k2 v Q 1) (S N (exponent k2 v Q 1)) (of_ℕ 1 ÷ of_ℕ (2 ^ 60)) (step_near long p) rest
      (share_nonneg f.kept)
      (deficit_range m)
      (few (lit≤ tt) (le_of_lt h))
      (deficit_at m (le_of_lt h))
      (kept_moves s f (step_sound k1 k2 v Q p))
      (within_weaken (S-compose long k2 v Q m p.k2_short h) shorter))
      (one_more 5 m)

-- ---- the promise

-- two distances together
pub both_near : {p g s f e c : Fraction} → BodNear p g s f e → e ≼ c → distance p s +ᶠ distance g f ≼ c
both_near {p} {g} {s} {f} {e} {c} b h =
    certify (distance p s ∷ distance g f ∷ b.u ∷ b.v ∷ e ∷ c ∷ [])
    (slack (within→distance b.left_near) ⊞ slack (within→distance b.turned_near) ⊞ slack b.sum ⊞ slack h)
    (search quote depth 40 fits 9999)
    tt

-- THEOREM: a demand of any rate that starts with any number of parts up to one is near the exact one, for every series length from 40 up, every
-- instant and every reach that check 11 lets through
pub demand_accuracy : {N k k2 volume Q m : ℕ} (start : ℕ) → start ≤ one → 40 ≤ N → m ≤ 1024 → RatesPass k k2 volume Q → DemandAccurate N start k k2 volume Q m
demand_accuracy {m = m} start few_parts long h p = record { near = both_near (demand_at_lem long p start few_parts m h) (≼_trans (at_last 11 h) demand_figure) }

-- THEOREM: the factors are accurate for every series length from 40 up, every instant and every reach that check 11 lets through
pub accuracy : {N k1 k2 volume Q m : ℕ} → 40 ≤ N → m ≤ 1024 → RatesPass k1 k2 volume Q → Accurate N k1 k2 volume Q m
accuracy {N} {k1} {k2} {volume} {Q} {m} long h p =
    let bod = bod_at long p m h in
    let deficit = deficit_at long p m h in
    record {
      bod_near = both_near bod (≼_trans (at_last 11 h) bod_figure);
      deficit_near = ≼_trans (within→distance deficit) (≼_trans (at_last 5 h) deficit_figure);
    }
