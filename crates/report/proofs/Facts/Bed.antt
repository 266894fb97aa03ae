-- The loss to a sludge bed against the exact one, in its two cases.
use mathlib.Core.Path.{◌≡◌, refl}
use mathlib.Core.Bool.{Bool, true, false, cond}
use mathlib.Core.List.{[], ◌∷◌}
use Prim.Native.Nat.{ℕ, ◌+◌, ◌*◌, ◌-◌, ◌/◌, ◌≤◌, ◌<◌}
use native.Mathlib.Nat.{zero-mul, zero-div, add-zero, zero-add}
use native.Mathlib.Omega.{arith}
use borrow.Author.Tests.{eqb-false}
use lib.Dec.{eqb, lit<}
use Rattle.decay.specs.Fraction.{Fraction, ◌≈◌, ◌≼◌, of_ℕ, ◌+ᶠ◌, -ᶠ◌, ◌-ᶠ◌, ◌*ᶠ◌, ◌÷◌, distance}
use Rattle.decay.specs.Exact.{steps, foot, exponent, S}
use Rattle.decay.specs.Fixed.{one, product}
use Rattle.decay.specs.held.Promise.{share, deficit_distance}
use Rattle.decay.proofs.fixed.Digits.{one_pos}
use Rattle.decay.proofs.factors.Instants.{product_zero}
use Rattle.decay.proofs.Accuracy.{accuracy}
use Rattle.decay.proofs.Algebra.{quote, ring_by, certify, certify_over, number, ◌⋅◌, ◌&◌, none as no_equations, ≈_refl, ≈_sym, ≈_trans, +ᶠ_cong, *ᶠ_cong, ≼_of-≈, ≼_antisym, of_ℕ-≈, of_ℕ_sub, of_ℕ-+, of_ℕ-*, positive_whole, ÷_cancel_pos, ÷_reciprocal, ÷_nonneg, ÷_cong, floor_low, floor_high, Within, within_by, within_weaken, within→distance, distance→within}
use Rattle.decay.specs.declared.factors.Factors.{Factors}
use Rattle.river.specs.declared.card.Card.{Card}
use Rattle.flows.specs.Flow.{Feeders, sludge_of, reach_flow}
use Rattle.river.specs.declared.source.Demand.TheVariants.{Bod}
use Rattle.flows.proofs.flow.Take.{flow_remains}
use Rattle.report.specs.held.Bed.{bed_by, bed_of, loss_with}
use Rattle.report.specs.held.Digits.{factors_along, loss_along}
use Rattle.report.specs.Recurrence.{exact_loss}
use Rattle.report.specs.held.Loss.{loss_distance}
use Rattle.report.specs.declared.bed.Bed.{Bed}
use Rattle.report.proofs.Forest.{AcceptedReach, rates_pass}
use Rattle.report.proofs.Ties.{factors_range}
use Rattle.report.proofs.Facts.Head.{share_of}
use Rattle.report.proofs.Facts.Instant.{Floored, floored_by, product_floored}
use Rattle.report.proofs.Facts.Exact.{over_product}
use Rattle.report.proofs.Facts.Formula.{loss_by}
use Rattle.report.proofs.Accuracy.Errors.{eventual_near, linear_near}

quotient_floored : (n : ℕ) {d : ℕ} → 0 < d → Floored (of_ℕ (n / d)) (of_ℕ n ÷ of_ℕ d)
quotient_floored n p = record { low = floor_low n p; high = floor_high n p }

-- what is gone of the deficit
share_gone : (n : ℕ) → n ≤ one → share (one - n) ≈ of_ℕ 1 -ᶠ share n
unfolding share
share_gone n h =
    ring_by (of_ℕ n ∷ of_ℕ (one - n) ∷ (of_ℕ n ÷ of_ℕ one) ∷ (of_ℕ (one - n) ÷ of_ℕ one) ∷ (of_ℕ 1 ÷ of_ℕ one) ∷ []) (of_ℕ 1 ⋅ ÷_reciprocal (of_ℕ n) (of_ℕ one) & of_ℕ 1 ⋅ ÷_reciprocal (of_ℕ (one - n)) (of_ℕ one) & of_ℕ 1 ⋅ ÷_cancel_pos (of_ℕ 1) (positive_whole one_pos) & (of_ℕ 1 ÷ of_ℕ one) ⋅ of_ℕ_sub one n h & no_equations) (search quote depth 40 fits 9999) tt

-- the exact loss without aeration is the part m / 1024 of that at the foot
exact_linear : (SV Q m : ℕ) → 0 < Q → of_ℕ 1_000_000 *ᶠ (of_ℕ (SV * m) ÷ of_ℕ (86_400 * 1_024 * Q)) ≈ of_ℕ (SV * 625) ÷ of_ℕ (54 * Q) *ᶠ (of_ℕ m ÷ of_ℕ 1_024)
exact_linear SV Q m p =
    let whole = of_ℕ (86_400 * 1_024 * Q) in
    let x = of_ℕ (SV * m) ÷ whole in
    let t = of_ℕ (SV * 625) ÷ of_ℕ (54 * Q) in
    let a = of_ℕ m ÷ of_ℕ 1_024 in
    let vs = of_ℕ SV ∷ of_ℕ m ∷ of_ℕ Q ∷ a ∷ x ∷ t ∷ [] in
    let flowing = positive_whole {n = 86_400 * 1_024 * Q} (omega arith) in
    let e₁ : x *ᶠ whole ≈ of_ℕ (SV * m) = ÷_cancel_pos (of_ℕ (SV * m)) flowing in
    let e₂ : t *ᶠ of_ℕ (54 * Q) ≈ of_ℕ (SV * 625) = ÷_cancel_pos (of_ℕ (SV * 625)) (positive_whole {n = 54 * Q} (omega arith)) in
    let e₃ : a *ᶠ of_ℕ 1_024 ≈ of_ℕ m = ÷_cancel_pos (of_ℕ m) (positive_whole {n = 1_024} (lit< tt)) in
    ≼_antisym
    (certify_over whole flowing vs (of_ℕ 1_000_000 ⋅ e₁ & (a *ᶠ of_ℕ 1_638_400) ⋅ e₂ & (of_ℕ SV *ᶠ of_ℕ 1_000_000) ⋅ e₃ & no_equations) (number 0) (search quote depth 40 fits 9999) tt)
    (certify_over whole flowing vs (of_ℕ 1_000_000 ⋅ e₁ & (a *ᶠ of_ℕ 1_638_400) ⋅ e₂ & (of_ℕ SV *ᶠ of_ℕ 1_000_000) ⋅ e₃ & no_equations) (number 0) (search quote depth 40 fits 9999) tt)

-- the exact loss with aeration is that in the end times what is gone
exact_eventual : (s k : ℕ) (gone : Fraction) → of_ℕ 1_000_000 *ᶠ (of_ℕ s *ᶠ gone ÷ of_ℕ k) ≈ of_ℕ (1_000_000 * s) ÷ of_ℕ k *ᶠ gone
exact_eventual s k gone =
    let x = of_ℕ s *ᶠ gone ÷ of_ℕ k in
    let c = of_ℕ (1_000_000 * s) ÷ of_ℕ k in
    ring_by (of_ℕ s ∷ gone ∷ x ∷ c ∷ (of_ℕ 1 ÷ of_ℕ k) ∷ []) (of_ℕ 1_000_000 ⋅ ÷_reciprocal (of_ℕ s *ᶠ gone) (of_ℕ k) & gone ⋅ ÷_reciprocal (of_ℕ (1_000_000 * s)) (of_ℕ k) & no_equations) (search quote depth 40 fits 9999) tt

-- without aeration
linear_loss : (SV Q m : ℕ) → 0 < Q → m ≤ foot → Within (of_ℕ (SV * 625 / (54 * Q) * m / steps)) (of_ℕ 1_000_000 *ᶠ (of_ℕ (SV * m) ÷ of_ℕ (86_400 * 1_024 * Q))) (of_ℕ 2)
linear_loss SV Q m p l =
    let t = SV * 625 / (54 * Q) in
    let part = share_of m foot (lit< tt) l in
    within_by (≈_refl (of_ℕ (t * m / steps))) (exact_linear SV Q m p)
    (linear_near part.0 part.1 (quotient_floored (SV * 625) (omega arith))
    (floored_by (≈_trans (÷_cong (of_ℕ-* t m) (≈_refl (of_ℕ steps))) (over_product (of_ℕ t) (of_ℕ m) (of_ℕ steps))) (quotient_floored (t * m) (lit< tt))))

-- with aeration
eventual_loss : (s k kept : ℕ) (S₂ : Fraction) → 0 < k → kept ≤ one → Within (share kept) S₂ deficit_distance → Within (of_ℕ (product (one - kept) (1_000_000 * s / k))) (of_ℕ 1_000_000 *ᶠ (of_ℕ s *ᶠ (of_ℕ 1 -ᶠ S₂) ÷ of_ℕ k)) (of_ℕ 2 +ᶠ deficit_distance *ᶠ of_ℕ (1_000_000 * s / k + 1))
unfolding share
eventual_loss s k kept S₂ p h n =
    let c = 1_000_000 * s / k in
    let part = share_of kept one one_pos h in
    within_weaken
    (within_by (≈_refl (of_ℕ (product (one - kept) c))) (exact_eventual s k (of_ℕ 1 -ᶠ S₂))
    (eventual_near part.0 part.1 (number c) n (quotient_floored (1_000_000 * s) p)
    (floored_by (*ᶠ_cong (share_gone kept h) (≈_refl (of_ℕ c))) (product_floored (one - kept) c))))
    (≼_of-≈ (+ᶠ_cong (≈_refl (of_ℕ 2)) (*ᶠ_cong (≈_refl deficit_distance) (≈_sym (of_ℕ-+ c 1)))))

-- where factors hold whose share of the deficit left is near S₂, the loss to a bed is near the exact one
pub loss_by_near : {card : Card} {up : Feeders} → AcceptedReach card up → (f : Factors) (S₂ : Fraction) → f.kept ≤ one → distance (share f.kept) S₂ ≼ deficit_distance → (m : ℕ) → m ≤ foot
    → Within (of_ℕ (loss_with f (bed_of card (reach_flow card up)) m)) (loss_by card (reach_flow card up) m S₂) (loss_distance card (reach_flow card up))
unfolding loss_with bed_of bed_by loss_by
loss_by_near {card} {up} own f S₂ h near_deficit m l = by_case (eqb card.k2 0) refl
  where
    Q : ℕ
    Q = reach_flow card up

    s : ℕ
    s = sludge_of card

    bed : Bool → Bed
    bed t = bed_by t card.k2 s card.volume Q

    by_case : (t : Bool) → eqb card.k2 0 ≡ t → Within (of_ℕ (product (one - f.kept) (bed t).eventual + (bed t).linear * m / steps)) (of_ℕ 1_000_000 *ᶠ cond t (of_ℕ (s * card.volume * m) ÷ of_ℕ (86_400 * 1_024 * Q)) (of_ℕ s *ᶠ (of_ℕ 1 -ᶠ S₂) ÷ of_ℕ card.k2)) (of_ℕ 2 +ᶠ deficit_distance *ᶠ of_ℕ ((bed t).eventual + 1))
    by_case true e =
        within_weaken
        (within_by (of_ℕ-≈ (rw (product_zero (one - f.kept) 0 refl, zero-add))) (≈_refl _) (linear_loss (s * card.volume) Q m (flow_remains own.flows) l))
        (certify (deficit_distance ∷ []) (÷_nonneg (number 1) (number 2_147_483_648)) (search quote depth 40 fits 9999) tt)
    by_case false e =
        within_by (of_ℕ-≈ (rw (zero-mul, zero-div foot, add-zero))) (≈_refl _)
        (eventual_loss s card.k2 f.kept S₂ (omega (arith, eqb-false card.k2 0 e)) h (distance→within near_deficit))

module _ {N : ℕ} (long : 40 ≤ N) {card : Card} {up : Feeders} (own : AcceptedReach card up) where
  kept_accurate : (m : ℕ) → m ≤ foot → distance (share (factors_along card (reach_flow card up) m).kept) (S N (exponent card.k2 card.volume (reach_flow card up) m)) ≼ deficit_distance
  unfolding factors_along
  kept_accurate m l = (accuracy long l (rates_pass own Bod)).deficit_near

  -- at every instant the loss to a bed is near the exact one
  pub loss_is_near : (m : ℕ) → m ≤ foot → Within (of_ℕ (loss_along card (reach_flow card up) m)) (exact_loss N card (reach_flow card up) m) (loss_distance card (reach_flow card up))
  unfolding loss_along exact_loss loss_by
  loss_is_near m l =
      let Q = reach_flow card up in
      loss_by_near own (factors_along card Q m) (S N (exponent card.k2 card.volume Q m)) (factors_range own m).deficit (kept_accurate m l) m l

  -- THEOREM: at every instant the loss to a bed lies within its distance of the exact one
  pub loss_within : (m : ℕ) → m ≤ foot → distance (of_ℕ (loss_along card (reach_flow card up) m)) (exact_loss N card (reach_flow card up) m) ≼ loss_distance card (reach_flow card up)
  loss_within m l = within→distance (loss_is_near m l)
