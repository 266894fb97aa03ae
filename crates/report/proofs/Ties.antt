-- The ties along a reach: a demand lies from 0 to its head value, and where nothing decays or is aerated the figures stay to the unit, and so does
-- mean oxygen.
use mathlib.Core.Path.{◌≡◌, refl, sym, ◌∙◌, ap}
use Prim.Native.Nat.{ℕ, ◌+◌, ◌*◌, ◌/◌, ◌≤◌}
use native.Mathlib.Nat.{mul-div_cancel_left, zero-mul, add-zero}
use native.Mathlib.Omega.{arith}
use lib.Dec.{lit<}
use lib.IntN.{ℤ, pos, neg_ℤ, ◌+ℤ◌, ◌-ℤ◌, +ℤ_assoc, +ℤ_idl, +ℤ_invr, neg_ℤ-neg_ℤ, neg_ℤ-+ℤ}
use Rattle.decay.specs.Fixed.{one, product}
use Rattle.decay.specs.held.Step.{step_of, mean_step_of}
use Rattle.decay.specs.held.Factors.{SoundStep, AreShares, demand_from, head_factors, factors_at}
use Rattle.decay.proofs.fixed.Digits.{one_pos, shares_below}
use Rattle.decay.proofs.step.Shares.{step_sound, step_loses_nothing}
use Rattle.decay.proofs.factors.Instants.{range, demand_range, demand_kept, bod_tie, deficit_tie}
use Rattle.decay.proofs.step.MeanShares.{mean_step_sound, mean_fills, mean_loses_nothing}
use Rattle.decay.proofs.mean.Averages.{mean_range, mean_demand_range, mean_demand_kept, mean_bod_tie, mean_deficit_tie}
use Rattle.decay.specs.declared.factors.Factors.{Factors}
use Rattle.river.specs.declared.card.Card.{Card}
use Rattle.flows.specs.Flow.{Feeders, reach_flow, reach_depth, sludge_of}
use Rattle.river.specs.declared.source.Demand.{Demand}
use Rattle.river.specs.declared.source.Demand.TheVariants.{Bod, Nitrogenous}
use Rattle.river.specs.Source.{rate_of}
use Rattle.flows.specs.Saturation.{saturation_of}
use Rattle.report.specs.held.Bed.{bed_of, loss_limit, LossInRange}
use Rattle.report.specs.Mean.{mean_oxygen}
use Rattle.report.specs.held.MeanAlong.{middle, factors_mean, turned_mean, mean_along}
use Rattle.report.specs.Program.{demand_at, oxygen_at, demand_at_head, oxygen_at_head, Critical, critical_oxygen, used_above, figures_of, foot}
use Rattle.report.specs.held.Digits.{unit_parts, oxygen_with, factors_along, parts_along, demand_along, turned_along, loss_along, oxygen_along}
use Rattle.report.specs.Status.{status_by}
use Rattle.report.proofs.Lowest.{lowest_constant}
use Rattle.report.proofs.Forest.{AcceptedReach, rates_pass, bed_passes}
use Rattle.report.proofs.bed.Loss.{less_nothing, head_loss, tied_loss, loss_in_range, mean_loss_in_range, bed_in_range}
use Rattle.report.proofs.profile.Oxygen.{no_parts}
use Rattle.report.proofs.Facts.Floor.{floor_multiple}

-- a number less the difference to another is the other
back_again : (a b : ℤ) → a -ℤ (a -ℤ b) ≡ b
back_again a b = ap (λ (x : ℤ). a +ℤ x) (neg_ℤ-+ℤ a (neg_ℤ b) ∙ ap (λ (x : ℤ). neg_ℤ a +ℤ x) (neg_ℤ-neg_ℤ b)) ∙ sym (+ℤ_assoc a (neg_ℤ a) b) ∙ ap (λ (x : ℤ). x +ℤ b) (+ℤ_invr a) ∙ +ℤ_idl b

-- where no BOD has turned, all deficit is kept and nothing else takes oxygen, it is that of the head
pub oxygen_stays : (f : Factors) (Cs L : ℕ) (C : ℤ) → f.turned ≡ 0 → f.kept ≡ one → oxygen_with f Cs L C ≡ C
unfolding oxygen_with product
oxygen_stays f Cs L C h k = rw (h, k, zero-mul, floor_multiple (pos Cs -ℤ C) one one_pos, add-zero) (back_again (pos Cs) C)

-- and likewise where nothing nitrified and no loss to a bed are taken from it
nothing_taken : (f : Factors) (Cs L : ℕ) (C : ℤ) {nitrified loss : ℕ} → f.turned ≡ 0 → f.kept ≡ one → nitrified ≡ 0 → loss ≡ 0 → oxygen_with f Cs L C -ℤ pos nitrified -ℤ pos loss ≡ C
nothing_taken f Cs L C h k n z = less_nothing z ∙ less_nothing n ∙ oxygen_stays f Cs L C h k

-- instant 0 is the head
pub oxygen_at_head_lem : (card : Card) (up : Feeders) → oxygen_at card up 0 ≡ oxygen_at_head card up
unfolding oxygen_at oxygen_along turned_along parts_along loss_along factors_along factors_at head_factors demand_from
oxygen_at_head_lem card up =
    nothing_taken _ (saturation_of card) (demand_at_head Bod card up) (oxygen_at_head card up) refl refl no_parts (head_loss _ (bed_of card (reach_flow card up)) refl)

-- the step of each demand of an accepted reach is sound, and so are the means over it; the factors are shares of one
pub reach_step_sound : {card : Card} {up : Feeders} → AcceptedReach card up → (d : Demand) → SoundStep (step_of (rate_of d card) card.k2 card.volume (reach_flow card up))
reach_step_sound {card} {up} a d = step_sound (rate_of d card) card.k2 card.volume (reach_flow card up) (rates_pass a d)

pub reach_mean_sound : {card : Card} {up : Feeders} → AcceptedReach card up → (d : Demand) → SoundStep (mean_step_of (rate_of d card) card.k2 card.volume (reach_flow card up))
reach_mean_sound {card} {up} a d = mean_step_sound (rate_of d card) card.k2 card.volume (reach_flow card up) (rates_pass a d)

pub factors_range : {card : Card} {up : Feeders} → AcceptedReach card up → (m : ℕ) → AreShares (factors_along card (reach_flow card up) m)
unfolding factors_along
factors_range a m = range (reach_step_sound a Bod) m

-- and so are their means
pub mean_factors_range : {card : Card} {up : Feeders} → AcceptedReach card up → AreShares (factors_mean card (reach_flow card up))
unfolding factors_mean
mean_factors_range a = mean_range (reach_mean_sound a Bod) (reach_step_sound a Bod)

-- a bed takes at most its limit at every instant, and on average
pub loss_small : {card : Card} {up : Feeders} → AcceptedReach card up → (m : ℕ) → m ≤ foot → loss_along card (reach_flow card up) m ≤ loss_limit
unfolding loss_along factors_along
loss_small {card} {up} a m l =
    (loss_in_range (reach_step_sound a Bod) (bed_in_range card (reach_flow card up) (rates_pass a Bod) (bed_passes a)) m l).loss

pub mean_loss_range : {card : Card} {up : Feeders} → AcceptedReach card up → LossInRange (factors_mean card (reach_flow card up)) (bed_of card (reach_flow card up)) middle
unfolding factors_mean
mean_loss_range {card} {up} a =
    let Q = reach_flow card up in
    mean_loss_in_range (reach_mean_sound a Bod) (reach_step_sound a Bod) (mean_fills card.k1 card.k2 card.volume Q (rates_pass a Bod)) (bed_in_range card Q (rates_pass a Bod) (bed_passes a))

-- the units of two numbers of parts are at most those of their sum
units_below : (x y L : ℕ) → x + y ≤ unit_parts * L → x / unit_parts + y / unit_parts ≤ L
units_below x y L h = omega arith

module _ {card : Card} {up : Feeders} (a : AcceptedReach card up) where
  -- what is left and what has turned of a demand are together at most its head value
  pub parts_within : (d : Demand) (m : ℕ) → demand_at d card up m + turned_along d card (reach_flow card up) (demand_at_head d card up) m ≤ demand_at_head d card up
  unfolding demand_at demand_along turned_along parts_along
  parts_within Bod m = shares_below _ _ (demand_at_head Bod card up) (factors_range a m).bod
  parts_within Nitrogenous m =
      let L = demand_at_head Nitrogenous card up in
      units_below _ _ L (demand_range (reach_step_sound a Nitrogenous) (unit_parts * L) m)

  -- so that it lies from 0 to that, at the foot too
  pub demand_at_most_head : (d : Demand) (m : ℕ) → demand_at d card up m ≤ demand_at_head d card up
  demand_at_most_head d m = omega (arith, parts_within d m)

  -- on average no more of both turns than there is at the head
  pub mean_turned_within : product (factors_mean card (reach_flow card up)).turned (demand_at_head Bod card up) + turned_mean card (reach_flow card up) (demand_at_head Nitrogenous card up) ≤ demand_at_head Bod card up + demand_at_head Nitrogenous card up
  unfolding turned_mean
  mean_turned_within =
      let Ln = demand_at_head Nitrogenous card up in
      omega (arith, shares_below _ _ (demand_at_head Bod card up) (mean_factors_range a).bod, units_below _ _ Ln (mean_demand_range (reach_mean_sound a Nitrogenous) (reach_step_sound a Nitrogenous) (unit_parts * Ln)))

  -- its rate 0 or volume 0 keeps it, and none of it turns to deficit
  pub reach_demand_stays : (d : Demand) → rate_of d card * card.volume ≡ 0 → (m : ℕ) → demand_at d card up m ≡ demand_at_head d card up
  unfolding demand_at demand_along factors_along parts_along product
  reach_demand_stays Bod h m =
      rw ((bod_tie card.k1 card.k2 card.volume (reach_flow card up) (rates_pass a Bod) h m).0, mul-div_cancel_left (demand_at_head Bod card up) one_pos)
  reach_demand_stays Nitrogenous h m =
      let z = step_loses_nothing (rate_of Nitrogenous card) card.k2 card.volume (reach_flow card up) (rates_pass a Nitrogenous) h in
      rw (demand_kept (step_of (rate_of Nitrogenous card) card.k2 card.volume (reach_flow card up)) z.0 z.1 (unit_parts * demand_at_head Nitrogenous card up) m) (mul-div_cancel_left (demand_at_head Nitrogenous card up) (lit< tt))

  nothing_turned : card.k1 * card.volume ≡ 0 → (m : ℕ) → (factors_along card (reach_flow card up) m).turned ≡ 0
  unfolding factors_along
  nothing_turned h m = (bod_tie card.k1 card.k2 card.volume (reach_flow card up) (rates_pass a Bod) h m).1

  nothing_nitrified : rate_of Nitrogenous card * card.volume ≡ 0 → (m : ℕ) → turned_along Nitrogenous card (reach_flow card up) (demand_at_head Nitrogenous card up) m ≡ 0
  unfolding turned_along parts_along
  nothing_nitrified h m =
      let z = step_loses_nothing (rate_of Nitrogenous card) card.k2 card.volume (reach_flow card up) (rates_pass a Nitrogenous) h in
      rw (demand_kept (step_of (rate_of Nitrogenous card) card.k2 card.volume (reach_flow card up)) z.0 z.1 (unit_parts * demand_at_head Nitrogenous card up) m) no_parts

  -- k2 = 0 or volume 0 keeps all of the head's deficit
  deficit_stays : card.k2 * card.volume ≡ 0 → (m : ℕ) → (factors_along card (reach_flow card up) m).kept ≡ one
  unfolding factors_along
  deficit_stays k m = deficit_tie card.k1 card.k2 card.volume (reach_flow card up) (rates_pass a Bod) k m

  -- the rates of both demands, k2 and the demand of a bed 0, or volume 0
  module _ (h : (d : Demand) → rate_of d card * card.volume ≡ 0) (k : card.k2 * card.volume ≡ 0) (s : sludge_of card * card.volume ≡ 0) where
    -- keep oxygen
    pub reach_oxygen_stays : (m : ℕ) → oxygen_at card up m ≡ oxygen_at_head card up
    unfolding oxygen_at oxygen_along loss_along
    reach_oxygen_stays m =
        let kept = deficit_stays k m in
        nothing_taken _ (saturation_of card) (demand_at_head Bod card up) (oxygen_at_head card up) (nothing_turned (h Bod) m) kept (nothing_nitrified (h Nitrogenous) m) (tied_loss card (reach_flow card up) _ m kept s)

    -- so that head oxygen is critical
    pub reach_critical_stays : critical_oxygen card up ≡ oxygen_at_head card up
    unfolding critical_oxygen
    reach_critical_stays = ap (λ (c : Critical). c.oxygen) (lowest_constant (oxygen_at card up) (oxygen_at_head card up) foot (λ m l. reach_oxygen_stays m))

    -- and on average too
    pub reach_mean_stays : mean_oxygen card up ≡ oxygen_at_head card up
    unfolding mean_oxygen mean_along factors_mean turned_mean
    reach_mean_stays =
        let Q = reach_flow card up in
        let n = rate_of Nitrogenous card in
        let mean_step = mean_loses_nothing n card.k2 card.volume Q (rates_pass a Nitrogenous) (h Nitrogenous) in
        let step = step_loses_nothing n card.k2 card.volume Q (rates_pass a Nitrogenous) (h Nitrogenous) in
        let kept = mean_deficit_tie card.k1 card.k2 card.volume Q (rates_pass a Bod) k in
        let nitrified : turned_mean card Q (demand_at_head Nitrogenous card up) ≡ 0 =
        rw (mean_demand_kept (mean_step_of n card.k2 card.volume Q) (step_of n card.k2 card.volume Q) mean_step.0 mean_step.1 step.0 step.1 (unit_parts * demand_at_head Nitrogenous card up)) no_parts
        in
        nothing_taken _ (saturation_of card) (demand_at_head Bod card up) (oxygen_at_head card up) (mean_bod_tie card.k1 card.k2 card.volume Q (rates_pass a Bod) (h Bod)).1 kept nitrified (tied_loss card Q _ middle kept s)

    -- and then the figures are those of the head, and the head is critical
    pub still_figures :
        figures_of card up ≡
        record {
          depth = reach_depth up;
          flow = reach_flow card up;
          head_bod = demand_at_head Bod card up;
          foot_bod = demand_at_head Bod card up;
          head_oxygen = oxygen_at_head card up;
          critical_instant = 0;
          critical_oxygen = oxygen_at_head card up;
          foot_oxygen = oxygen_at_head card up;
          status = status_by (used_above up) (oxygen_at_head card up);
          head_nitrogenous = demand_at_head Nitrogenous card up;
          foot_nitrogenous = demand_at_head Nitrogenous card up;
        }
    unfolding figures_of demand_at oxygen_at
    still_figures =
        let Q = reach_flow card up in
        let L = demand_at_head Bod card up in
        let Ln = demand_at_head Nitrogenous card up in
        let C = oxygen_at_head card up in
        let bod : demand_along Bod card Q L foot ≡ L = reach_demand_stays Bod (h Bod) foot in
        let nitrogenous : demand_along Nitrogenous card Q Ln foot ≡ Ln = reach_demand_stays Nitrogenous (h Nitrogenous) foot in
        let oxygen : oxygen_along card Q L Ln C foot ≡ C = reach_oxygen_stays foot in
        let critical = lowest_constant (oxygen_along card Q L Ln C) C foot (λ m l. reach_oxygen_stays m) in
        cc
