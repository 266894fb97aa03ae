-- Demand 3: the figures of every reach of every river that reading and the flow check accept lie within the allowance of the exact recurrence,
-- at every status, with oxygen as it is carried on.
use mathlib.Core.Path.{sym, subst}
use mathlib.Core.Bool.{Bool, true, false, cond}
use mathlib.Core.List.{List, [], ◌∷◌}
use Prim.Native.Nat.{ℕ, suc, ◌≤◌, ◌<◌}
use native.Mathlib.Nat.{le_refl}
use native.Mathlib.Omega.{arith}
use lib.ListN.{length}
use lib.IntN.{ℤ}
use Rattle.decay.specs.Fraction.{Fraction, ◌≼◌, of_ℕ, of_ℤ, ◌+ᶠ◌, -ᶠ◌, ◌-ᶠ◌, distance}
use Rattle.decay.proofs.Algebra.{quote, certify, slack, ◌⊞◌, ≼_trans, of_ℕ_mono, of_ℤ_mono, Within, within_weaken, within→distance, bound_nonneg, small}
use Rattle.river.specs.declared.card.Card.{Card}
use Rattle.river.specs.Card.{Lawful}
use Rattle.flows.specs.Flow.{Feeders, card_of, above, reach_depth, Flows}
use Rattle.report.specs.Program.{lowest, demand_at, oxygen_at, figures_of, figures_at, foot}
use Rattle.report.specs.Recurrence.{exact_oxygen_at}
use Rattle.report.specs.Distance.{has_bed, step_units, allowance_at, OxygenWithin}
use Rattle.report.specs.held.Water.{brought_allowance, water_allowance}
use Rattle.report.specs.Record.{has_nitrification, Figures}
use Rattle.report.proofs.Lowest.{lowest_first}
use Rattle.report.proofs.Forest.{AcceptedReach, AllAccepted, reach_accepted, above_accepted, reach_shallow}
use Rattle.report.proofs.Accuracy.Errors.{Near, head_adds}
use Rattle.report.proofs.Accuracy.Allowance.{water_by_depth}
use Rattle.report.proofs.Accuracy.{Covers, head_is_near, instant_is_near, feet_are_near}

-- the three distances, and oxygen's alone
all_three : {b bx n nx o ox e : Fraction} → Near b bx n nx o ox e → distance b bx +ᶠ distance n nx +ᶠ distance o ox ≼ e
all_three {b} {bx} {n} {nx} {o} {ox} {e} k =
    certify (distance b bx ∷ distance n nx ∷ distance o ox ∷ k.bod_error ∷ k.nitrogenous_error ∷ k.oxygen_error ∷ e ∷ []) (slack (within→distance k.bod_near) ⊞ slack (within→distance k.nitrogenous_near) ⊞ slack (within→distance k.oxygen_near) ⊞ slack k.together) (search quote depth 40 fits 9999) tt

pub oxygen_within : {b bx n nx o ox e : Fraction} → Near b bx n nx o ox e → Within o ox e
oxygen_within {b} {bx} {n} {nx} {o} {ox} {e} k =
    within_weaken k.oxygen_near
    (certify (k.bod_error ∷ k.nitrogenous_error ∷ k.oxygen_error ∷ e ∷ []) (bound_nonneg (small k.bod_near) ⊞ bound_nonneg (small k.nitrogenous_near) ⊞ slack k.together) (search quote depth 40 fits 9999) tt)

-- exact oxygen is not lower than a lower figure by more
not_lower : {o ox e : Fraction} (c : Fraction) → c ≼ o → Within o ox e → c -ᶠ e ≼ ox
not_lower {o} {ox} {e} c h w =
    certify (c ∷ o ∷ ox ∷ e ∷ []) (slack h ⊞ slack w.high) (search quote depth 40 fits 9999) tt

-- the distance allowed may be more
within_more : {N : ℕ} {card : Card} {up : Feeders} {f : Figures} {a b : Fraction} → a ≼ b → OxygenWithin N card up f a → OxygenWithin N card up f b
within_more {N} {card} {up} {f} {a} {b} h w =
    record {
      at_head = ≼_trans w.at_head h;
      at_foot = ≼_trans w.at_foot h;
      in_reach = w.in_reach;
      at_critical = ≼_trans w.at_critical h;
      nowhere_lower = λ m l. certify (of_ℤ f.critical_oxygen ∷ a ∷ b ∷ exact_oxygen_at N card up m ∷ []) (slack (w.nowhere_lower m l) ⊞ slack h) (search quote depth 40 fits 9999) tt;
    }

-- the units that a river allows cover what a reach adds
pub units_cover : (cards : List Card) → Covers (step_units cards)
unfolding step_units
units_cover cards = go (has_nitrification cards) (has_bed cards)
  where
    go : (s t : Bool) → Covers (cond s 200 (cond t 150 100))
    go true t = record { added = omega arith; few = omega arith }
    go false true = record { added = omega arith; few = omega arith }
    go false false = record { added = omega arith; few = omega arith }

module _ (N : ℕ) (long : 40 ≤ N) where
  -- THEOREM: a reach over an accepted forest lies within its allowance by water
  pub within_water : {units : ℕ} {card : Card} {up : Feeders} → Covers units → AcceptedReach card up → AllAccepted up → reach_depth up ≤ 128 → OxygenWithin N card up (figures_of card up) (water_allowance units card up)
  unfolding figures_of demand_at oxygen_at
  within_water {units} {card} {up} covers own above shallow =
      let head = head_is_near N long covers own above (feet_are_near N long covers above (omega arith)) in
      let at = instant_is_near N long covers own above shallow head in
      let c = lowest_first (oxygen_at card up) foot in
      let allowed = water_allowance units card up in
      record {
        at_head = ≼_trans (all_three head) (head_adds (brought_allowance units card up) (of_ℕ units) (of_ℕ_mono covers.added));
        at_foot = all_three (at foot (le_refl foot));
        in_reach = c.within;
        at_critical =
            subst (λ (o : ℤ). distance (of_ℤ o) (exact_oxygen_at N card up (lowest (oxygen_at card up) foot).instant) ≼ allowed) (sym c.value) (within→distance (oxygen_within (at (lowest (oxygen_at card up) foot).instant c.within)));
        nowhere_lower = λ m l. not_lower (of_ℤ (lowest (oxygen_at card up) foot).oxygen) (of_ℤ_mono (c.least m l)) (oxygen_within (at m l));
      }

  -- THEOREM: every reach of an accepted river lies within the distance allowed, which is that by depth
  pub demand_3 : (cards : List Card) → Lawful cards → Flows cards → (i : ℕ) → i < length cards → OxygenWithin N (card_of cards (suc i)) (above cards (suc i)) (figures_at cards (suc i)) (allowance_at cards (suc i))
  demand_3 cards lawful flows i l =
      let own = reach_accepted cards lawful flows i l in
      let water = above_accepted cards lawful flows i (suc i) (omega arith) in
      within_more (water_by_depth (step_units cards) own water) (within_water (units_cover cards) own water (reach_shallow cards lawful flows i l))
