-- One step further the distance from the exact factors grows by a few units: 11 for BOD left and turned together, 5 for the deficit left.
-- Everything is a share of one, so that no large number stands in it.
use mathlib.Core.List.{[], ◌∷◌}
use Rattle.decay.specs.Fraction.{Fraction, of_ℕ, ◌+ᶠ◌, -ᶠ◌, ◌-ᶠ◌, ◌*ᶠ◌, ◌≼◌}
use Rattle.decay.proofs.Algebra.{ring, none, quote, Nonneg, slack, number, ◌⊞◌, ◌⊠◌, certify_times}
use Rattle.decay.proofs.Algebra.{
  Small,
  Within,
  small,
  sized,
  small_minus,
  small_by,
  bound_nonneg,
  ◌⊞ˢ◌,
  ◌⊠ˢ◌,
  near,
  within_sym,
  within_weaken,
}
use Rattle.decay.proofs.Accuracy.Units.{eps, eps_nonneg}

-- the shares of a step as the program has them, and the exact ones: S(y) of either rate, and F
pub record StepNear (lost spent filled s1 f s2 : Fraction) : Type 0 where
  pub spent_nonneg : Nonneg spent
  pub spent_lost : spent ≼ lost
  pub lost_one : lost ≼ of_ℕ 1
  pub filled_nonneg : Nonneg filled
  pub filled_one : filled ≼ of_ℕ 1
  pub lost_near : Within s1 (of_ℕ 1 -ᶠ lost) (of_ℕ 3 *ᶠ eps)
  pub spent_near : Within f spent (of_ℕ 5 *ᶠ eps)
  pub filled_near : Within s2 (of_ℕ 1 -ᶠ filled) (of_ℕ 3 *ᶠ eps)

-- BOD left and turned lie near the exact ones: u and v are how near, e bounds their sum
pub record BodNear (left turned s f e : Fraction) : Type 0 where
  pub u : Fraction
  pub v : Fraction
  pub left_near : Within left s u
  pub turned_near : Within turned f v
  pub sum : u +ᶠ v ≼ e

-- the size of what lies near a share
pub size : {p s u : Fraction} → Nonneg p → Within p s u → Small s (p +ᶠ u)
size {p} {s} {u} h w =
    small_by (ring (p ∷ s ∷ []) (search quote depth 40 fits 9999) tt) (sized h ⊞ˢ small_minus (small w))

module _
    (lost spent filled σ1 φ σ2 τ : Fraction)
    (step : StepNear lost spent filled σ1 φ σ2)
    (rest : of_ℕ 4 *ᶠ τ ≼ eps)
  where
    left_keeps : Nonneg (of_ℕ 1 -ᶠ lost)
    left_keeps = slack step.lost_one

    deficit_keeps : Nonneg (of_ℕ 1 -ᶠ filled)
    deficit_keeps = slack step.filled_one

    left_next :
        (p p' s s' u : Fraction) →
        Nonneg p →
        Within p s u →
        Within p' (p -ᶠ p *ᶠ lost) eps →
        Within s' (s *ᶠ σ1) τ →
        Within p' s' (eps +ᶠ (of_ℕ 1 -ᶠ lost) *ᶠ u +ᶠ (p +ᶠ u) *ᶠ (of_ℕ 3 *ᶠ eps) +ᶠ τ)
    left_next p p' s s' u hp near_s moved exact =
        near (p ∷ p' ∷ s ∷ s' ∷ u ∷ lost ∷ σ1 ∷ τ ∷ eps ∷ []) none
        (small moved ⊞ˢ sized left_keeps ⊠ˢ small near_s ⊞ˢ size hp near_s ⊠ˢ small (within_sym step.lost_near) ⊞ˢ small (within_sym exact))
        (number 0)
        (search quote depth 40 fits 9999)
        tt
        (search quote depth 40 fits 9999)
        tt

    turned_next :
        (p g g' s f f' u v : Fraction) →
        Nonneg p →
        Nonneg g →
        Within p s u →
        Within g f v →
        Within g' (g -ᶠ g *ᶠ filled +ᶠ p *ᶠ spent) eps →
        Within f' (s *ᶠ φ +ᶠ f *ᶠ σ2) τ →
        Within g' f' (eps +ᶠ (of_ℕ 1 -ᶠ filled) *ᶠ v +ᶠ spent *ᶠ u +ᶠ (p +ᶠ u) *ᶠ (of_ℕ 5 *ᶠ eps) +ᶠ (g +ᶠ v) *ᶠ (of_ℕ 3 *ᶠ eps) +ᶠ τ)
    turned_next p g g' s f f' u v hp hg near_s near_f moved exact =
        near (p ∷ g ∷ g' ∷ s ∷ f ∷ f' ∷ u ∷ v ∷ spent ∷ filled ∷ φ ∷ σ2 ∷ τ ∷ eps ∷ []) none
        (small moved ⊞ˢ sized deficit_keeps ⊠ˢ small near_f ⊞ˢ sized step.spent_nonneg ⊠ˢ small near_s ⊞ˢ size hp near_s ⊠ˢ small (within_sym step.spent_near) ⊞ˢ size hg near_f ⊠ˢ small (within_sym step.filled_near) ⊞ˢ small (within_sym exact))
        (number 0)
        (search quote depth 40 fits 9999)
        tt
        (search quote depth 40 fits 9999)
        tt

    -- the sum of the two distances
    sum_next :
        (p g u v e : Fraction) →
        Nonneg p →
        Nonneg g →
        p +ᶠ g ≼ of_ℕ 1 →
        Nonneg u →
        Nonneg v →
        u +ᶠ v ≼ e →
        of_ℕ 20 *ᶠ e ≼ of_ℕ 1 →
        eps +ᶠ (of_ℕ 1 -ᶠ lost) *ᶠ u +ᶠ (p +ᶠ u) *ᶠ (of_ℕ 3 *ᶠ eps) +ᶠ τ +ᶠ
        (eps +ᶠ (of_ℕ 1 -ᶠ filled) *ᶠ v +ᶠ spent *ᶠ u +ᶠ (p +ᶠ u) *ᶠ (of_ℕ 5 *ᶠ eps) +ᶠ (g +ᶠ v) *ᶠ (of_ℕ 3 *ᶠ eps) +ᶠ τ) ≼
        e +ᶠ of_ℕ 11 *ᶠ eps
    sum_next p g u v e hp hg range hu hv sum few =
        certify_times 1 (p ∷ g ∷ u ∷ v ∷ e ∷ lost ∷ spent ∷ filled ∷ τ ∷ eps ∷ [])
        (number 2 ⊠ slack sum ⊞ number 2 ⊠ slack step.spent_lost ⊠ hu ⊞ number 2 ⊠ step.filled_nonneg ⊠ hv ⊞ eps_nonneg ⊠ (number 16 ⊠ slack range ⊞ number 10 ⊠ hg ⊞ number 14 ⊠ hv ⊞ number 4 ⊠ hu ⊞ number 20 ⊠ slack sum ⊞ slack few) ⊞ slack rest)
        (search quote depth 40 fits 9999)
        tt

    -- BOD left and turned, one step further
    pub bod_advance :
        {p g p' g' s f s' f' e : Fraction} →
        Nonneg p →
        Nonneg g →
        p +ᶠ g ≼ of_ℕ 1 →
        of_ℕ 20 *ᶠ e ≼ of_ℕ 1 →
        BodNear p g s f e →
        Within p' (p -ᶠ p *ᶠ lost) eps →
        Within g' (g -ᶠ g *ᶠ filled +ᶠ p *ᶠ spent) eps →
        Within s' (s *ᶠ σ1) τ →
        Within f' (s *ᶠ φ +ᶠ f *ᶠ σ2) τ →
        BodNear p' g' s' f' (e +ᶠ of_ℕ 11 *ᶠ eps)
    bod_advance {p} {g} {p'} {g'} {s} {f} {s'} {f'} {e} hp hg range few h left turned exact_s exact_f =
        record {
          u = eps +ᶠ (of_ℕ 1 -ᶠ lost) *ᶠ h.u +ᶠ (p +ᶠ h.u) *ᶠ (of_ℕ 3 *ᶠ eps) +ᶠ τ;
          v =
              eps +ᶠ (of_ℕ 1 -ᶠ filled) *ᶠ h.v +ᶠ spent *ᶠ h.u +ᶠ (p +ᶠ h.u) *ᶠ (of_ℕ 5 *ᶠ eps) +ᶠ (g +ᶠ h.v) *ᶠ (of_ℕ 3 *ᶠ eps) +ᶠ τ;
          left_near = left_next p p' s s' h.u hp h.left_near left exact_s;
          turned_near = turned_next p g g' s f f' h.u h.v hp hg h.left_near h.turned_near turned exact_f;
          sum =
              sum_next p g h.u h.v e hp hg range (bound_nonneg (small h.left_near)) (bound_nonneg (small h.turned_near)) h.sum few;
        }

    -- the deficit left, one step further
    pub deficit_advance :
        {r r' s s' e : Fraction} →
        Nonneg r →
        r ≼ of_ℕ 1 →
        of_ℕ 20 *ᶠ e ≼ of_ℕ 1 →
        Within r s e →
        Within r' (r -ᶠ r *ᶠ filled) eps →
        Within s' (s *ᶠ σ2) τ →
        Within r' s' (e +ᶠ of_ℕ 5 *ᶠ eps)
    deficit_advance {r} {r'} {s} {s'} {e} hr range few h moved exact =
        within_weaken
        (near (r ∷ r' ∷ s ∷ s' ∷ e ∷ filled ∷ σ2 ∷ τ ∷ eps ∷ []) {e = eps +ᶠ (of_ℕ 1 -ᶠ filled) *ᶠ e +ᶠ (r +ᶠ e) *ᶠ (of_ℕ 3 *ᶠ eps) +ᶠ τ} none
        (small moved ⊞ˢ sized deficit_keeps ⊠ˢ small h ⊞ˢ size hr h ⊠ˢ small (within_sym step.filled_near) ⊞ˢ small (within_sym exact))
        (number 0)
        (search quote depth 40 fits 9999)
        tt
        (search quote depth 40 fits 9999)
        tt)
        (certify_times 3 (r ∷ e ∷ filled ∷ τ ∷ eps ∷ [])
        (number 4 ⊠ step.filled_nonneg ⊠ bound_nonneg (small h) ⊞ eps_nonneg ⊠ (number 12 ⊠ slack range ⊞ slack few ⊞ number 8 ⊠ bound_nonneg (small h)) ⊞ number 2 ⊠ eps_nonneg ⊞ slack rest)
        (search quote depth 40 fits 9999)
        tt)
