-- Mean oxygen: what makes the exact one the mean of the oxygen formula, the ranges and ties of the program's as it is reported, and that it is near the
-- exact one at status 0 and 1.
use mathlib.Core.Path.{◌≡◌, refl, ◌∙◌}
use mathlib.Core.Bool.{Bool, true, false, cond}
use mathlib.Core.List.{List}
use Prim.Native.Nat.{ℕ, suc, ◌*◌, ◌≤◌, ◌<◌}
use native.Mathlib.Nat.{mul-zero}
use native.Mathlib.Omega.{arith}
use borrow.Author.Tests.{eqb-true, eqb-false, eq-eqb, ne_eqb}
use lib.Dec.{eqb}
use lib.IntN.{ℤ, pos, negsuc}
use lib.ListN.{length}
use lib.Signed.{◌≤ℤ◌, le_z_yes}
use Rattle.decay.specs.Fraction.{of_ℕ, of_ℤ, ◌≈◌, ◌≼◌, distance}
use Rattle.decay.specs.Integral.{mean_of, all_terms, mean_s, mean_f}
use Rattle.decay.specs.held.Mean.{mean_factors_of}
use Rattle.decay.proofs.Algebra.{≈_refl, ≈_trans, Within, within_by, within_weaken, within→distance, of_ℕ_mono, of_ℤ-≈}
use Rattle.decay.proofs.Exponential.{integral_of, S-value, F-value}
use Rattle.decay.proofs.MeanAccuracy.{mean_accuracy, mean_demand_accuracy}
use Rattle.decay.proofs.mean.Averages.{mean_range}
use Rattle.river.specs.declared.card.Card.{Card}
use Rattle.river.specs.declared.source.Demand.{Demand}
use Rattle.river.specs.declared.source.Demand.TheVariants.{Bod, Nitrogenous}
use Rattle.river.specs.Source.{rate_of}
use Rattle.flows.specs.Flow.{Feeders, reach_flow, reach_depth, card_of, above}
use Rattle.report.specs.held.Bed.{bed_of, loss_with}
use Rattle.report.specs.Program.{demand_at_head, oxygen_at_head, critical_oxygen, used_above, status_of}
use Rattle.report.specs.held.Digits.{unit_parts}
use Rattle.report.specs.Recurrence.{exact_turned_along, exact_loss, exact_oxygen_along, exact_oxygen_at_head, exact_oxygen_at}
use Rattle.report.specs.Ties.{NoChange}
use Rattle.report.specs.Distance.{step_units, allowance_at}
use Rattle.report.specs.held.Water.{brought_allowance, water_allowance}
use Rattle.report.specs.ExactMean.{exact_mean_oxygen_along, oxygen_terms_at, exact_mean_oxygen, IsMean}
use Rattle.report.specs.Mean.{mean_oxygen, mean_at, counted_volume_at}
use Rattle.report.specs.held.MeanAlong.{middle, factors_mean, turned_mean, mean_along}
use Rattle.report.proofs.Statuses.{status_two, not_above}
use Rattle.report.proofs.Forest.{AcceptedReach, AllAccepted, rates_pass, reach_shallow}
use Rattle.report.proofs.Ties.{reach_step_sound, reach_mean_sound, reach_mean_stays}
use Rattle.report.proofs.Facts.Formula.{loss_by, oxygen_is, value_linear, mean_linear}
use Rattle.report.proofs.Facts.Bed.{loss_by_near}
use Rattle.report.proofs.Bounds.{mean_oxygen_range}
use Rattle.report.proofs.Accuracy.Allowance.{water_by_depth}
use Rattle.report.proofs.Accuracy.Errors.{head_adds}
use Rattle.report.proofs.Accuracy.{Covers, HeadNear, FactorsNear, along_is_near, nitrogenous_few, feet_are_near, head_is_near}
use Rattle.report.proofs.Demand3.{units_cover, oxygen_within}
use Rattle.report.proofs.River.{IsRiver, own, water, no_decay, no_aeration, no_demand}

-- exact mean oxygen by whether there is volume
module _ (N : ℕ) (card : Card) (up : Feeders) where
  exact_still : card.volume ≡ 0 → exact_mean_oxygen N card up ≈ exact_oxygen_at_head N card up
  unfolding exact_mean_oxygen exact_mean_oxygen_along
  exact_still h = rw (eq-eqb card.volume 0 h) (≈_refl _)

  exact_along : (card.volume ≡ 0 → ⊥) → exact_mean_oxygen N card up ≈ mean_of (all_terms N) (oxygen_terms_at N card up)
  unfolding exact_mean_oxygen exact_mean_oxygen_along
  exact_along h = rw (ne_eqb card.volume 0 h) (≈_refl _)

-- THEOREM: exact mean oxygen is the mean of the oxygen formula
pub is_mean : (N : ℕ) → 1 ≤ N → (card : Card) (up : Feeders) → IsMean N card up
unfolding exact_oxygen_at exact_oxygen_along exact_turned_along exact_loss loss_by mean_of
is_mean N some card up =
    let Q = reach_flow card up in
    record {
      formula = λ m. oxygen_is (value_linear N some m) N card Q _ _ _ _ _ _ (F-value N (rate_of Bod card) card.k2 card.volume Q m) (F-value N (rate_of Nitrogenous card) card.k2 card.volume Q m) (S-value N card.k2 card.volume Q m);
      integrated = integral_of (oxygen_terms_at N card up);
      mean = exact_along N card up;
      still = exact_still N card up;
    }

-- the means of the factors are near those of S and F, for any demand
mean_factors_lem : {N : ℕ} → 40 ≤ N → (d : Demand) {card : Card} {up : Feeders} → AcceptedReach card up → let Q = reach_flow card up in
    FactorsNear (mean_factors_of (rate_of d card) card.k2 card.volume Q) (mean_s N (rate_of d card) card.volume Q) (mean_f N (rate_of d card) card.k2 card.volume Q) (mean_s N card.k2 card.volume Q)
mean_factors_lem long d own =
    let accurate = mean_accuracy long (rates_pass own d) in
    record { shares = mean_range (reach_mean_sound own d) (reach_step_sound own d); bod_near = accurate.bod_near; deficit_near = accurate.deficit_near }

-- THEOREM: mean oxygen of a reach over an accepted forest lies within its allowance by water
pub mean_is_near :
    (N : ℕ) (long : 40 ≤ N) {units : ℕ} (covers : Covers units) {card : Card} {up : Feeders} →
    AcceptedReach card up →
    AllAccepted up →
    reach_depth up ≤ 128 →
    HeadNear N long covers card up →
    Within (of_ℤ (mean_oxygen card up)) (exact_mean_oxygen N card up) (water_allowance units card up)
unfolding mean_oxygen mean_along factors_mean turned_mean
mean_is_near N long {units} covers {card} {up} own above shallow head = by_volume (eqb card.volume 0) refl
  where
    Q : ℕ
    Q = reach_flow card up

    Ln : ℕ
    Ln = demand_at_head Nitrogenous card up

    by_volume : (t : Bool) → eqb card.volume 0 ≡ t → Within (of_ℤ (mean_oxygen card up)) (exact_mean_oxygen N card up) (water_allowance units card up)
    by_volume true e =
        let h = eqb-true card.volume 0 e in
        let stays = reach_mean_stays own (λ d. rw (h, mul-zero)) (rw (h, mul-zero)) (rw (h, mul-zero)) in
        within_by (of_ℤ-≈ stays) (exact_still N card up h) (within_weaken (oxygen_within head) (head_adds (brought_allowance units card up) (of_ℕ units) (of_ℕ_mono covers.added)))
    by_volume false e =
        let f = factors_mean card Q in
        let bod = mean_factors_lem long Bod own in
        let loss = loss_by_near own f (mean_s N card.k2 card.volume Q) bod.shares.deficit bod.deficit_near middle (omega arith) in
        within_by (≈_refl _) (≈_trans (exact_along N card up (eqb-false card.volume 0 e)) (oxygen_is (mean_linear N (omega arith)) N card Q _ _ _ _ _ _ (≈_refl _) (≈_refl _) (≈_refl _)))
        (oxygen_within (along_is_near N long covers own above shallow head bod (mean_factors_lem long Nitrogenous own) (record { near = (mean_demand_accuracy (unit_parts * Ln) (nitrogenous_few own above shallow) long (rates_pass own Nitrogenous)).near }) (loss_with f (bed_of card Q) middle) loss))

-- ---- as it is reported

-- 0 is in the range of all oxygen
in_range_lem : (used : Bool) {z : ℤ} → (negsuc 1_640_000_383 ≤ℤ z) × (z ≤ℤ pos 20_000_128) → (negsuc 1_640_000_383 ≤ℤ cond used (pos 0) z) × (cond used (pos 0) z ≤ℤ pos 20_000_128)
in_range_lem true h = (le_z_yes tt, le_z_yes tt)
in_range_lem false h = h

module _ {cards : List Card} (river : IsRiver cards) (i : ℕ) (l : i < length cards) where
  abbrev here : AcceptedReach (card_of cards (suc i)) (above cards (suc i))
  here = own river i l

  abbrev upstream : AllAccepted (above cards (suc i))
  upstream = water river i l

  module _ (status : status_of (card_of cards (suc i)) (above cards (suc i)) ≤ 1) where
    as_it_is : mean_at cards (suc i) ≡ mean_oxygen (card_of cards (suc i)) (above cards (suc i))
    unfolding status_of
    as_it_is =
        rw (not_above (used_above (above cards (suc i))) (critical_oxygen (card_of cards (suc i)) (above cards (suc i))) status)

    -- THEOREM: the whole volume of a reach of status 0 or 1 counts
    pub volume_counts : counted_volume_at cards (suc i) ≡ (card_of cards (suc i)).volume
    unfolding status_of
    volume_counts =
        rw (not_above (used_above (above cards (suc i))) (critical_oxygen (card_of cards (suc i)) (above cards (suc i))) status)

    -- THEOREM: the mean of every reach of status 0 or 1 of an accepted river lies within the distance allowed, which is that by depth
    pub mean_within_allowance : (N : ℕ) → 40 ≤ N → distance (of_ℤ (mean_at cards (suc i))) (exact_mean_oxygen N (card_of cards (suc i)) (above cards (suc i))) ≼ allowance_at cards (suc i)
    mean_within_allowance N long =
        let covers = units_cover cards in
        let shallow = reach_shallow cards river.lawful river.flows i l in
        let head = head_is_near N long covers here upstream (feet_are_near N long covers upstream (omega arith)) in
        rw as_it_is (within→distance (within_weaken (mean_is_near N long covers here upstream shallow head) (water_by_depth (step_units cards) here upstream)))

    -- THEOREM: oxygen that does not change has its head value for its mean there
    pub mean_tied : NoChange (card_of cards (suc i)) → mean_at cards (suc i) ≡ oxygen_at_head (card_of cards (suc i)) (above cards (suc i))
    mean_tied h =
        let card = card_of cards (suc i) in
        as_it_is ∙ reach_mean_stays here (no_decay card h) (no_aeration card h) (no_demand card h)

  -- THEOREM: a reach of status 2 has mean 0, and its volume does not count
  pub mean_blank : status_of (card_of cards (suc i)) (above cards (suc i)) ≡ 2 → (mean_at cards (suc i) ≡ pos 0) × (counted_volume_at cards (suc i) ≡ 0)
  unfolding status_of
  mean_blank h =
      rw ((status_two (used_above (above cards (suc i))) (critical_oxygen (card_of cards (suc i)) (above cards (suc i)))).0 h) (refl, refl)

  -- THEOREM: at every status it is in the range of all oxygen
  pub mean_in_range : (negsuc 1_640_000_383 ≤ℤ mean_at cards (suc i)) × (mean_at cards (suc i) ≤ℤ pos 20_000_128)
  mean_in_range =
      let range = mean_oxygen_range here upstream (reach_shallow cards river.lawful river.flows i l) in
      in_range_lem (used_above (above cards (suc i))) (range.oxygen_low, range.oxygen_high)
