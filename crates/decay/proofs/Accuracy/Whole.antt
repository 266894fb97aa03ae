-- A step of the factors in whole numbers is the step of the shares, to within a unit.
use mathlib.Core.List.{[], ◌∷◌}
use Prim.Native.Nat.{ℕ, ◌+◌, ◌-◌, ◌≤◌}
use native.Mathlib.Nat.{sub-add_cancel}
use Rattle.decay.specs.Fraction.{Fraction, of_ℕ, ◌+ᶠ◌, -ᶠ◌, ◌-ᶠ◌, ◌*ᶠ◌, ◌≈◌}
use Rattle.decay.specs.Fixed.{product}
use Rattle.decay.specs.held.Factors.{SoundStep, next_demand, next_factors}
use Rattle.decay.specs.held.Promise.{share}
use Rattle.decay.specs.declared.step.Step.{Step}
use Rattle.decay.specs.declared.factors.DemandFactors.{DemandFactors}
use Rattle.decay.specs.declared.factors.Factors.{Factors}
use Rattle.decay.proofs.Algebra.{≈_sym, ≈_trans, quote, slack, ◌⊞◌, multiple, certify}
use Rattle.decay.proofs.Algebra.{Within}
use Rattle.decay.proofs.factors.Instants.{moved, filled_kept}
use Rattle.decay.proofs.Accuracy.Units.{eps, eps_nonneg, share_sum, share_equal, Floor, product_floor}

-- less q, where q is a floor of x
lessen : (A A' Q X : Fraction) → A' +ᶠ Q ≈ A → Floor 1 X Q → Within A' (A -ᶠ X) eps
lessen A A' Q X whole h =
    record {
      high =
          certify (A ∷ A' ∷ Q ∷ X ∷ eps ∷ []) (slack h.high ⊞ multiple (of_ℕ 1) whole) (search quote depth 40 fits 9999) tt;
      low =
          certify (A ∷ A' ∷ Q ∷ X ∷ eps ∷ []) (slack h.low ⊞ eps_nonneg ⊞ multiple (of_ℕ 1) (≈_sym whole)) (search quote depth 40 fits 9999) tt;
    }

-- less one floor, and more by another: the two roundings oppose each other
change :
    (A A' B Q X R Z : Fraction) →
    A' +ᶠ Q ≈ A →
    B ≈ A' +ᶠ R →
    Floor 1 X Q →
    Floor 1 Z R →
    Within B (A -ᶠ X +ᶠ Z) eps
change A A' B Q X R Z whole more h k =
    record {
      high =
          certify (A ∷ A' ∷ B ∷ Q ∷ X ∷ R ∷ Z ∷ eps ∷ []) (slack h.high ⊞ slack k.low ⊞ multiple (of_ℕ 1) whole ⊞ multiple (of_ℕ 1) more) (search quote depth 40 fits 9999) tt;
      low =
          certify (A ∷ A' ∷ B ∷ Q ∷ X ∷ R ∷ Z ∷ eps ∷ []) (slack h.low ⊞ slack k.high ⊞ multiple (of_ℕ 1) (≈_sym whole) ⊞ multiple (of_ℕ 1) (≈_sym more)) (search quote depth 40 fits 9999) tt;
    }

share_less : (a q : ℕ) → q ≤ a → share (a - q) +ᶠ share q ≈ share a
share_less a q h = ≈_trans (≈_sym (share_sum (a - q) q)) (share_equal (sub-add_cancel h))

module _ (s : Step) (d : DemandFactors) (h : SoundStep s) where
  pub left_moves : Within (share (next_demand s d).left) (share d.left -ᶠ share d.left *ᶠ share s.lost) eps
  left_moves =
      let q = product d.left s.lost in
      lessen (share d.left) (share (d.left - q)) (share q) (share d.left *ᶠ share s.lost) (share_less d.left q (moved d h).lost_left) (product_floor d.left s.lost)

  pub turned_moves :
      Within (share (next_demand s d).turned) (share d.turned -ᶠ share d.turned *ᶠ share s.filled +ᶠ share d.left *ᶠ share s.spent) eps
  turned_moves =
      let q = product d.turned s.filled in
      let r = product d.left s.spent in
      change (share d.turned) (share (d.turned - q)) (share (d.turned - q + r)) (share q) (share d.turned *ᶠ share s.filled) (share r) (share d.left *ᶠ share s.spent) (share_less d.turned q (moved d h).filled_turned) (share_sum (d.turned - q) r) (product_floor d.turned s.filled) (product_floor d.left s.spent)

pub kept_moves : (s : Step) (f : Factors) → SoundStep s → Within (share (next_factors s f).kept) (share f.kept -ᶠ share f.kept *ᶠ share s.filled) eps
unfolding next_factors
kept_moves s f h =
    let q = product f.kept s.filled in
    lessen (share f.kept) (share (f.kept - q)) (share q) (share f.kept *ᶠ share s.filled) (share_less f.kept q (filled_kept f.kept h)) (product_floor f.kept s.filled)
