-- The reported figures of an accepted reach lie near the exact recurrence. Flow × error is carried down the river: at a head the errors of
-- the demands and oxygen, added together, are at most the mean of the feeders' allowances, weighed by flow, and what a head adds; along the reach
-- they stay within the allowance by water, for any number of units a step that covers what a reach adds.
pub mod Allowance
pub mod Errors
use mathlib.Core.Path.{refl}
use mathlib.Core.List.{[], ◌∷◌}
use Prim.Native.Nat.{ℕ, ◌+◌, ◌*◌, ◌/◌, ◌≤◌}
use native.Mathlib.Nat.{le_refl, le-add_left, le-add_right, mul-le-mul}
use native.Mathlib.Omega.{arith}
use lib.Dec.{lit<}
use lib.IntN.{pos, ◌-ℤ◌, ◌*ℤ◌}
use Rattle.decay.specs.Fraction.{Fraction, ◌≈◌, ◌≼◌, of_ℕ, of_ℤ, over, ◌+ᶠ◌, -ᶠ◌, ◌-ᶠ◌, ◌*ᶠ◌, ◌÷◌, distance}
use Rattle.decay.specs.Exact.{exponent, S, F}
use Rattle.decay.specs.held.Promise.{share, factors_of, bod_distance, deficit_distance, demand_distance}
use Rattle.decay.specs.Fixed.{one, product}
use Rattle.decay.specs.held.Factors.{AreShares}
use Rattle.decay.specs.declared.factors.DemandFactors.{DemandFactors}
use Rattle.decay.specs.declared.factors.Factors.{Factors}
use Rattle.decay.proofs.fixed.Digits.{one_pos}
use Rattle.decay.proofs.factors.Instants.{range}
use Rattle.decay.proofs.Accuracy.{accuracy, demand_accuracy}
use Rattle.decay.proofs.Algebra.{quote, certify, ring_by, ◌⋅◌, ◌&◌, none as no_equations, near, small, sized, ◌⊠ˢ◌, floor_low, floor_high, of_ℕ_reflect, slack, number, Nonneg, ◌⊞◌, ◌⊠◌, multiple, ≈_refl, ≈_sym, ≈_trans, ≼_trans, ≼_of-≈, +ᶠ_cong, *ᶠ_comm, of_ℤ-+, of_ℤ-*, of_ℕ_mono, of_ℕ-+, of_ℕ-*, positive_whole, positive_nonzero, ÷_unique, ÷_cancel_pos, ÷_nonneg, Small, Within, within_of-≈, within_by, within_sum, within_scale, within_distance, distance→within}
use Rattle.river.specs.declared.card.Card.{Card}
use Rattle.flows.specs.Flow.{Feeders, more, fed, flow_of, reach_flow, deepest, reach_depth}
use Rattle.flows.specs.Saturation.{saturation_of}
use Rattle.river.specs.declared.source.Demand.{Demand}
use Rattle.river.specs.declared.source.Demand.TheVariants.{Bod, Nitrogenous}
use Rattle.river.specs.Source.{source_of, rate_of}
use Rattle.flows.specs.Head.{upstream_demand, upstream_oxygen, below_dam, head_demand, head_oxygen}
use Rattle.flows.proofs.head.Bounds.{saturation_of_small}
use Rattle.report.specs.held.Bed.{bed_of}
use Rattle.report.specs.Program.{demand_sum, oxygen_sum, demand_at_head, oxygen_at_head, demand_at, oxygen_at, foot}
use Rattle.report.specs.held.Digits.{demand_along, turned_along, loss_along, oxygen_along, oxygen_with, unit_parts, factors_along, parts_along}
use Rattle.report.specs.Recurrence.{exact_saturation, exact_mean, exact_below_dam, exact_head_demand, exact_head_oxygen, exact_demand_sum, exact_oxygen_sum, exact_demand_at_head, exact_oxygen_at_head, exact_demand_along, exact_turned_along, exact_oxygen_along, exact_demand_at, exact_oxygen_at}
use Rattle.report.specs.held.Water.{mean_allowance, allowance_sum, brought_allowance, water_allowance}
use Rattle.report.specs.held.Loss.{loss_distance}
use Rattle.report.proofs.Forest.{AcceptedReach, AllAccepted, no_more, one_more, rates_pass}
use Rattle.report.proofs.Ties.{reach_step_sound}
use Rattle.report.proofs.Facts.Head.{source_flow, dam_part, demand_mean, oxygen_mean, below_dam_lem, demand_mixed, oxygen_mixed}
use Rattle.report.proofs.Facts.Instant.{Floored, product_floored, shares_in_range, kept_deficit, kept_floored, oxygen_parts}
use Rattle.report.proofs.Facts.Exact.{saturation_low, saturation_high, exact_demand_mean, exact_oxygen_mean, exact_below_dam_lem, exact_demand_mixed, exact_oxygen_mixed}
use Rattle.report.proofs.Facts.Bed.{loss_is_near}
use Rattle.report.proofs.bed.Loss.{eventual_small}
use Rattle.report.proofs.Bounds.{levels, most_below, demands_at_head, head_ranged}
use Rattle.report.proofs.Accuracy.Allowance.{brought_by_depth}
use Rattle.report.proofs.Accuracy.Errors.{Near, HeadWater, DemandHead, OxygenHead, head_near, DemandInstant, OxygenInstant, instant_near, head_units, added_units, reach_adds}

-- the distances promised of the factors
δ_equation : of_ℕ 2_147_483_648 *ᶠ deficit_distance ≈ of_ℕ 1
δ_equation = ≈_trans (*ᶠ_comm (of_ℕ 2_147_483_648) deficit_distance) (÷_cancel_pos (of_ℕ 1) (positive_whole (lit< tt)))

δ_nonneg : Nonneg deficit_distance
δ_nonneg = ÷_nonneg (number 1) (number 2_147_483_648)

eight_times : bod_distance ≈ of_ℕ 8 *ᶠ deficit_distance
unfolding ◌÷◌ ◌*ᶠ◌ over of_ℤ
eight_times = record { across = refl }

sharper : deficit_distance ≼ bod_distance
sharper = certify (bod_distance ∷ deficit_distance ∷ []) (number 7 ⊠ δ_nonneg ⊞ multiple (of_ℕ 1) (≈_sym eight_times)) (search quote depth 40 fits 9999) tt

-- more room, and equal oxygen
near_weaken : {b bx n nx o ox e f : Fraction} → e ≼ f → Near b bx n nx o ox e → Near b bx n nx o ox f
near_weaken h k =
    record {
      bod_error = k.bod_error;
      nitrogenous_error = k.nitrogenous_error;
      oxygen_error = k.oxygen_error;
      bod_near = k.bod_near;
      nitrogenous_near = k.nitrogenous_near;
      oxygen_near = k.oxygen_near;
      together = ≼_trans k.together h;
    }

near_at : {b bx n nx o o' ox e : Fraction} → o' ≈ o → Near b bx n nx o ox e → Near b bx n nx o' ox e
near_at {ox = ox} h k =
    record {
      bod_error = k.bod_error;
      nitrogenous_error = k.nitrogenous_error;
      oxygen_error = k.oxygen_error;
      bod_near = k.bod_near;
      nitrogenous_near = k.nitrogenous_near;
      oxygen_near = within_by h (≈_refl ox) k.oxygen_near;
      together = k.together;
    }

-- a figure at a foot times its flow, with the other feet
joined : {b bx d s sx e c : Fraction} (Q : Fraction) → Nonneg Q → c ≈ Q *ᶠ b +ᶠ s → Within b bx d → Within s sx e → Within c (Q *ᶠ bx +ᶠ sx) (Q *ᶠ d +ᶠ e)
joined {bx = bx} {sx = sx} Q p ec m n = within_by ec (≈_refl (Q *ᶠ bx +ᶠ sx)) (within_sum (within_scale p m) n)

near_join : {b bx n nx o ox a s sx r rx t tx e c v u : Fraction} (Q : Fraction) → Nonneg Q → c ≈ Q *ᶠ b +ᶠ s → v ≈ Q *ᶠ n +ᶠ r → u ≈ Q *ᶠ o +ᶠ t → Near b bx n nx o ox a → Near s sx r rx t tx e → Near c (Q *ᶠ bx +ᶠ sx) v (Q *ᶠ nx +ᶠ rx) u (Q *ᶠ ox +ᶠ tx) (Q *ᶠ a +ᶠ e)
near_join {a = a} {e = e} Q p ec ev eu j k =
    record {
      bod_error = Q *ᶠ j.bod_error +ᶠ k.bod_error;
      nitrogenous_error = Q *ᶠ j.nitrogenous_error +ᶠ k.nitrogenous_error;
      oxygen_error = Q *ᶠ j.oxygen_error +ᶠ k.oxygen_error;
      bod_near = joined Q p ec j.bod_near k.bod_near;
      nitrogenous_near = joined Q p ev j.nitrogenous_near k.nitrogenous_near;
      oxygen_near = joined Q p eu j.oxygen_near k.oxygen_near;
      together = certify (Q ∷ a ∷ e ∷ j.bod_error ∷ j.nitrogenous_error ∷ j.oxygen_error ∷ k.bod_error ∷ k.nitrogenous_error ∷ k.oxygen_error ∷ []) (p ⊠ slack j.together ⊞ slack k.together) (search quote depth 40 fits 9999) tt;
    }

-- digits of a demand in shares of its head value, and in parts of a unit: one has 2^30 units
times_within : {p S e L : Fraction} → Nonneg L → Within p S e → Within (p *ᶠ L) (S *ᶠ L) (e *ᶠ L)
times_within {p} {S} {e} {L} h w =
    near (p ∷ S ∷ e ∷ L ∷ []) no_equations (small w ⊠ˢ sized h) (number 0) (search quote depth 40 fits 9999) tt (search quote depth 40 fits 9999) tt

times_most : (a b c L : Fraction) → Nonneg L → a +ᶠ b ≼ c → a *ᶠ L +ᶠ b *ᶠ L ≼ c *ᶠ L
times_most a b c L h k = certify (a ∷ b ∷ c ∷ L ∷ []) (slack k ⊠ h) (search quote depth 40 fits 9999) tt

abbrev share_units : Fraction
share_units = of_ℕ 1_073_741_824

abbrev in_units : ℕ → Fraction
in_units n = share_units *ᶠ share n

parts_in_units : (n : ℕ) → in_units n *ᶠ of_ℕ unit_parts ≈ of_ℕ n
unfolding share
parts_in_units n = ring_by (of_ℕ n ∷ (of_ℕ n ÷ of_ℕ one) ∷ []) (of_ℕ 1 ⋅ ÷_cancel_pos (of_ℕ n) (positive_whole one_pos) & no_equations) (search quote depth 40 fits 9999) tt

in_units_lem : (n : ℕ) → of_ℕ n ÷ of_ℕ unit_parts ≈ in_units n
in_units_lem n = ÷_unique (positive_nonzero (positive_whole (lit< tt))) (parts_in_units n)

-- parts of L units are L units, and the units of parts are rounded down
units_of : (L : ℕ) → in_units (unit_parts * L) ≈ of_ℕ L
units_of L =
    ≈_trans (≈_sym (in_units_lem (unit_parts * L)))
    (÷_unique (positive_nonzero (positive_whole (lit< tt))) (≈_trans (*ᶠ_comm (of_ℕ L) (of_ℕ unit_parts)) (≈_sym (of_ℕ-* unit_parts L))))

units_within : {x e : Fraction} (L : ℕ) (S : Fraction) → Within x (share (unit_parts * L) *ᶠ S) e → Within (share_units *ᶠ x) (S *ᶠ of_ℕ L) (share_units *ᶠ e)
units_within {x} {e} L S w =
    within_by (≈_refl (share_units *ᶠ x)) (ring_by (share (unit_parts * L) ∷ S ∷ of_ℕ L ∷ []) (S ⋅ units_of L & no_equations) (search quote depth 40 fits 9999) tt) (within_scale (number 1_073_741_824) w)

units_most : (a b : Fraction) → a +ᶠ b ≼ demand_distance → share_units *ᶠ a +ᶠ share_units *ᶠ b ≼ of_ℕ 1
units_most a b k =
    certify (a ∷ b ∷ demand_distance ∷ []) (number 1_073_741_824 ⊠ slack k ⊞ multiple (of_ℕ 1) (÷_cancel_pos (of_ℕ 1) (positive_whole {n = 1_073_741_824} (lit< tt)))) (search quote depth 40 fits 9999) tt

parts_floored : (n : ℕ) → Floored (of_ℕ (n / unit_parts)) (in_units n)
parts_floored n =
    record {
      low = ≼_trans (floor_low n (lit< tt)) (≼_of-≈ (in_units_lem n));
      high = ≼_trans (≼_of-≈ (≈_sym (in_units_lem n))) (floor_high n (lit< tt));
    }

-- factors near exact shares: S and F of BOD, S₂ of the deficit
pub record FactorsNear (f : Factors) (S F S₂ : Fraction) : Type 0 where
  pub shares : AreShares f
  pub bod_near : distance (share f.left) S +ᶠ distance (share f.turned) F ≼ bod_distance
  pub deficit_near : distance (share f.kept) S₂ ≼ deficit_distance

-- what a demand that starts with so many parts comes to is near the same shares of them
pub record PartsNear (start : ℕ) (d : DemandFactors) (S F : Fraction) : Type 0 where
  pub near : distance (share d.left) (share start *ᶠ S) +ᶠ distance (share d.turned) (share start *ᶠ F) ≼ demand_distance

-- a demand where factors are near, by its digits x and y
demand_where : {f : Factors} {S F S₂ x y h₁ h₂ η B G L : Fraction} → FactorsNear f S F S₂ → Within x (S *ᶠ L) h₁ → Within y (F *ᶠ L) h₂ → h₁ +ᶠ h₂ ≼ η → Floored B x → Floored G y → DemandInstant (share f.left) (share f.turned) S F (distance (share f.left) S) (distance (share f.turned) F) bod_distance L x y h₁ h₂ η B G
demand_where {f} {S} {F} n vx vy hη fB fG =
    let shares = shares_in_range f n.shares in
    record {
      left_part = shares.left_part;
      turned_part = shares.turned_part;
      part_of_one = shares.bod_of_one;
      left_near = within_distance (share f.left) S;
      turned_near = within_distance (share f.turned) F;
      factors_near = n.bod_near;
      left_value = vx;
      turned_value = vy;
      values_near = hη;
      left_floored = fB;
      turned_floored = fG;
    }

-- BOD in shares of its head value
bod_where : {f : Factors} {S F S₂ : Fraction} (L : ℕ) → FactorsNear f S F S₂ → let e₁ = distance (share f.left) S in let e₂ = distance (share f.turned) F in DemandInstant (share f.left) (share f.turned) S F e₁ e₂ bod_distance (of_ℕ L) (share f.left *ᶠ of_ℕ L) (share f.turned *ᶠ of_ℕ L) (e₁ *ᶠ of_ℕ L) (e₂ *ᶠ of_ℕ L) (bod_distance *ᶠ of_ℕ L) (of_ℕ (product f.left L)) (of_ℕ (product f.turned L))
bod_where {f} {S} {F} L n =
    demand_where n (times_within (number L) (within_distance (share f.left) S)) (times_within (number L) (within_distance (share f.turned) F))
    (times_most _ _ bod_distance (of_ℕ L) (number L) n.bod_near) (product_floored f.left L) (product_floored f.turned L)

-- nitrogenous BOD in parts of a unit
nitrogenous_where : {f : Factors} {S F S₂ : Fraction} (L : ℕ) {d : DemandFactors} → FactorsNear f S F S₂ → PartsNear (unit_parts * L) d S F → DemandInstant (share f.left) (share f.turned) S F (distance (share f.left) S) (distance (share f.turned) F) bod_distance (of_ℕ L) (in_units d.left) (in_units d.turned) (share_units *ᶠ distance (share d.left) (share (unit_parts * L) *ᶠ S)) (share_units *ᶠ distance (share d.turned) (share (unit_parts * L) *ᶠ F)) (of_ℕ 1) (of_ℕ (d.left / unit_parts)) (of_ℕ (d.turned / unit_parts))
nitrogenous_where {f} {S} {F} L {d} n parts =
    demand_where n (units_within L S (within_distance _ _)) (units_within L F (within_distance _ _)) (units_most _ _ parts.near) (parts_floored d.left) (parts_floored d.turned)

-- the deficit at a head
deficit_small : (cs l c k : Fraction) → Nonneg cs → cs ≼ of_ℕ 15_423_157 → Nonneg l → l ≼ c +ᶠ of_ℕ most_below → c ≼ k → k ≼ of_ℕ 20_000_128 → Small (cs -ᶠ c) (of_ℕ 1_660_000_000)
deficit_small cs l c k p h pl low high hk =
    record {
      high = certify (cs ∷ l ∷ c ∷ []) (slack h ⊞ pl ⊞ slack low ⊞ number 4_576_459) (search quote depth 40 fits 9999) tt;
      low = certify (cs ∷ c ∷ k ∷ []) (p ⊞ slack high ⊞ slack hk ⊞ number 1_639_999_872) (search quote depth 40 fits 9999) tt;
    }

rounded_saturation : (card : Card) → Within (of_ℕ (saturation_of card)) (exact_saturation card) (of_ℕ 1)
rounded_saturation card =
    record {
      high = certify (of_ℕ (saturation_of card) ∷ exact_saturation card ∷ []) (slack (saturation_low card) ⊞ number 1) (search quote depth 40 fits 9999) tt;
      low = certify (of_ℕ (saturation_of card) ∷ exact_saturation card ∷ []) (slack (saturation_high card)) (search quote depth 40 fits 9999) tt;
    }

-- what a bed adds is at most that of the largest demand and the smallest k2
loss_distance_small : {card : Card} {up : Feeders} → AcceptedReach card up → loss_distance card (reach_flow card up) ≼ of_ℕ 2 +ᶠ deficit_distance *ᶠ of_ℕ 65_535_000_001
loss_distance_small {card} {up} own =
    let c = (bed_of card (reach_flow card up)).eventual in
    certify (deficit_distance ∷ of_ℕ c ∷ []) (δ_nonneg ⊠ slack (of_ℕ_mono (eventual_small card (reach_flow card up) own.sludge))) (search quote depth 40 fits 9999) tt

-- units a step that cover what a reach adds; they are few, so that 128 steps make no more than 1 mg/L
pub record Covers (units : ℕ) : Type 0 where
  pub added : added_units ≤ units
  pub few : units ≤ 1_000

-- what is carried to an accepted reach is at most 1 mg/L
carried_small : {units : ℕ} {card : Card} {up : Feeders} → Covers units → AcceptedReach card up → AllAccepted up → reach_depth up ≤ 128 → brought_allowance units card up ≼ of_ℕ 1_000_000
carried_small {units} {card} {up} covers own above shallow =
    let deep : deepest up ≤ 127 = omega arith in
    ≼_trans (brought_by_depth units own above) (of_ℕ_mono (omega (arith, mul-le-mul covers.few deep)))

-- nitrogenous BOD at a head has at most as many parts as one has
pub nitrogenous_few : {card : Card} {up : Feeders} → AcceptedReach card up → AllAccepted up → reach_depth up ≤ 128 → unit_parts * demand_at_head Nitrogenous card up ≤ one
nitrogenous_few {card} {up} own above shallow =
    omega (arith, of_ℕ_reflect (demand_at_head Nitrogenous card up) 1_000_000_000 (≼_trans (of_ℕ_mono (le-add_left (demand_at_head Nitrogenous card up) (demand_at_head Bod card up))) (head_ranged own above shallow).demands_range))

module _ (N : ℕ) (long : 40 ≤ N) {units : ℕ} (covers : Covers units) where
  -- what is to be shown of feet, heads and instants
  abbrev pub FeetNear : Feeders → Type 0
  FeetNear up =
      Near (of_ℕ (demand_sum Bod up)) (exact_demand_sum N Bod up) (of_ℕ (demand_sum Nitrogenous up)) (exact_demand_sum N Nitrogenous up) (of_ℤ (oxygen_sum up)) (exact_oxygen_sum N up) (allowance_sum units up)

  abbrev pub HeadNear : Card → Feeders → Type 0
  HeadNear card up =
      Near (of_ℕ (demand_at_head Bod card up)) (exact_demand_at_head N Bod card up) (of_ℕ (demand_at_head Nitrogenous card up)) (exact_demand_at_head N Nitrogenous card up) (of_ℤ (oxygen_at_head card up)) (exact_oxygen_at_head N card up) (brought_allowance units card up +ᶠ of_ℕ head_units)

  abbrev pub InstantNear : Card → Feeders → ℕ → Type 0
  InstantNear card up m =
      Near (of_ℕ (demand_at Bod card up m)) (exact_demand_at N Bod card up m) (of_ℕ (demand_at Nitrogenous card up m)) (exact_demand_at N Nitrogenous card up m) (of_ℤ (oxygen_at card up m)) (exact_oxygen_at N card up m) (water_allowance units card up)

  -- the steps of a demand to a head, for any demand
  demand_head : (d : Demand) {card : Card} {up : Feeders} → AcceptedReach card up → AllAccepted up → DemandHead (of_ℕ (flow_of up)) (of_ℕ (flow_of up + card.inflow)) (of_ℕ (demand_sum d up)) (of_ℕ (upstream_demand (fed up) (flow_of up) (demand_sum d up))) (of_ℕ (demand_at_head d card up)) (exact_demand_sum N d up) (exact_mean (fed up) (flow_of up) (exact_demand_sum N d up)) (exact_demand_at_head N d card up) (of_ℕ (1000 * (source_of d card).inflow * (source_of d card).concentration)) (of_ℕ (1000000 * (source_of d card).load))
  unfolding demand_at_head head_demand exact_demand_at_head exact_head_demand
  demand_head d {card} {up} own above =
      let Qu = flow_of up in
      record {
        mean = demand_mean d above;
        mixed = demand_mixed (source_of d card) Qu (upstream_demand (fed up) Qu (demand_sum d up)) (source_flow d card Qu) own.flows.flowing;
        exact_mean = exact_demand_mean N d above;
        exact_mixed = exact_demand_mixed (source_of d card) Qu (exact_mean (fed up) Qu (exact_demand_sum N d up)) (source_flow d card Qu) own.flows.flowing;
      }

  pub head_is_near : {card : Card} {up : Feeders} → AcceptedReach card up → AllAccepted up → FeetNear up → HeadNear card up
  unfolding oxygen_at_head head_oxygen exact_oxygen_at_head exact_head_oxygen brought_allowance mean_allowance
  head_is_near {card} {up} own above n =
      let Qu = flow_of up in
      let v = upstream_oxygen (fed up) Qu (oxygen_sum up) in
      let w = below_dam card (fed up) Qu v in
      let vx = exact_mean (fed up) Qu (exact_oxygen_sum N up) in
      let wx = exact_below_dam card (fed up) Qu vx in
      let flowing = own.flows.flowing in
      let water : HeadWater (of_ℕ Qu) (of_ℕ (Qu + card.inflow)) (of_ℕ card.inflow) =
      record { flowing = positive_whole flowing; inflowing = number card.inflow; upstream = number Qu; flows = of_ℕ-+ Qu card.inflow }
      in
      let oxygen : OxygenHead (of_ℕ Qu) (of_ℕ (Qu + card.inflow)) (of_ℤ (oxygen_sum up)) (of_ℤ v) (of_ℤ w) (of_ℤ (oxygen_at_head card up)) (exact_oxygen_sum N up) vx wx (exact_oxygen_at_head N card up) (of_ℕ (1000 * card.inflow * card.inflow_oxygen)) (of_ℕ (saturation_of card)) (exact_saturation card) (dam_part (fed up) card.dam Qu) =
      record {
        saturation_low = saturation_low card;
        saturation_high = saturation_high card;
        mean = oxygen_mean above;
        dam = below_dam_lem card above own.dam v;
        mixed = oxygen_mixed card Qu w flowing;
        exact_mean = exact_oxygen_mean N above;
        exact_dam = exact_below_dam_lem card (fed up) Qu vx;
        exact_mixed = exact_oxygen_mixed card Qu wx flowing;
      }
      in
      head_near water (demand_head Bod own above) (demand_head Nitrogenous own above) oxygen n

  -- along a reach, where factors are near: those of BOD, those of nitrogenous BOD and its parts, and the loss T to a bed
  pub along_is_near : {card : Card} {up : Feeders} {f g : Factors} {parts : DemandFactors} {S F S₂ S' F' S₂' Tx : Fraction} → AcceptedReach card up → AllAccepted up → reach_depth up ≤ 128 → HeadNear card up
      → FactorsNear f S F S₂ → FactorsNear g S' F' S₂' → PartsNear (unit_parts * demand_at_head Nitrogenous card up) parts S' F' → (T : ℕ) → Within (of_ℕ T) Tx (loss_distance card (reach_flow card up))
      → let L = demand_at_head Bod card up in let Lx = exact_demand_at_head N Bod card up in let Lnx = exact_demand_at_head N Nitrogenous card up in let Csx = exact_saturation card in
      Near (of_ℕ (product f.left L)) (Lx *ᶠ S) (of_ℕ (parts.left / unit_parts)) (Lnx *ᶠ S') (of_ℤ (oxygen_with f (saturation_of card) L (oxygen_at_head card up) -ℤ pos (parts.turned / unit_parts) -ℤ pos T)) (Csx -ᶠ F *ᶠ Lx -ᶠ F' *ᶠ Lnx -ᶠ S₂ *ᶠ (Csx -ᶠ exact_oxygen_at_head N card up) -ᶠ Tx) (water_allowance units card up)
  along_is_near {card} {up} {f} {parts = parts} {S₂ = S₂} {Tx = Tx} own above shallow n bod nitrogenous parts_near T loss =
      let Q = reach_flow card up in
      let L = demand_at_head Bod card up in
      let Ln = demand_at_head Nitrogenous card up in
      let C = oxygen_at_head card up in
      let Cs = saturation_of card in
      let range = head_ranged own above shallow in
      let shares = shares_in_range f bod.shares in
      let oxygen : OxygenInstant (share f.kept) S₂ deficit_distance bod_distance (of_ℤ C) (of_ℕ Cs) (exact_saturation card) (of_ℤ (kept_deficit f Cs C)) (of_ℕ 1_660_000_000) (of_ℕ T) Tx (loss_distance card Q) =
      record {
        kept_part = shares.kept_part;
        kept_of_one = shares.kept_of_one;
        kept_near = distance→within bod.deficit_near;
        sharper = sharper;
        kept_floored = kept_floored f Cs C;
        head_deficit = deficit_small (of_ℕ Cs) (of_ℕ (demands_at_head card up)) (of_ℤ C) (of_ℕ (20000000 + levels up)) (number Cs) (of_ℕ_mono (saturation_of_small card own.saturation)) (number (demands_at_head card up)) range.demands_below range.oxygen_high (of_ℕ_mono (omega arith));
        saturation_near = rounded_saturation card;
        loss_near = loss;
      }
      in
      near_weaken
      (reach_adds bod_distance deficit_distance (of_ℕ L) (loss_distance card Q) (brought_allowance units card up) (of_ℕ units) δ_nonneg δ_equation eight_times (≼_trans (of_ℕ_mono (le-add_right L Ln)) range.demands_range) (loss_distance_small own) (carried_small covers own above shallow) (of_ℕ_mono covers.added))
      (near_at (oxygen_parts f Cs L C (parts.turned / unit_parts) T)
      (instant_near (exact_demand_at_head N Bod card up) (exact_demand_at_head N Nitrogenous card up) (exact_oxygen_at_head N card up) (brought_allowance units card up +ᶠ of_ℕ head_units) (bod_where L bod) (nitrogenous_where Ln nitrogenous parts_near) oxygen n))

  -- the factors of every instant are near, for any demand
  instant_factors : (d : Demand) {card : Card} {up : Feeders} → AcceptedReach card up → (m : ℕ) → m ≤ foot → let Q = reach_flow card up in
      FactorsNear (factors_of (rate_of d card) card.k2 card.volume Q m) (S N (exponent (rate_of d card) card.volume Q m)) (F N (rate_of d card) card.k2 card.volume Q m) (S N (exponent card.k2 card.volume Q m))
  instant_factors d own m l =
      let accurate = accuracy long l (rates_pass own d) in
      record { shares = range (reach_step_sound own d) m; bod_near = accurate.bod_near; deficit_near = accurate.deficit_near }

  pub instant_is_near : {card : Card} {up : Feeders} → AcceptedReach card up → AllAccepted up → reach_depth up ≤ 128 → HeadNear card up → (m : ℕ) → m ≤ foot → InstantNear card up m
  unfolding oxygen_at oxygen_along demand_at demand_along turned_along parts_along factors_along exact_demand_at exact_oxygen_at exact_demand_along exact_turned_along exact_oxygen_along
  instant_is_near {card} {up} own above shallow n m l =
      along_is_near own above shallow n (instant_factors Bod own m l) (instant_factors Nitrogenous own m l)
      (record { near = (demand_accuracy (unit_parts * demand_at_head Nitrogenous card up) (nitrogenous_few own above shallow) long l (rates_pass own Nitrogenous)).near }) (loss_along card (reach_flow card up) m) (loss_is_near long own m l)

  -- the foot of a feeder, times its flow, with the other feet
  demand_joins : (d : Demand) (card : Card) (up rest : Feeders) → of_ℕ (demand_sum d (more card up rest)) ≈ of_ℕ (reach_flow card up) *ᶠ of_ℕ (demand_at d card up foot) +ᶠ of_ℕ (demand_sum d rest)
  unfolding demand_sum demand_at demand_at_head
  demand_joins d card up rest =
      let Q = reach_flow card up in
      ≈_trans (of_ℕ-+ (Q * demand_at d card up foot) (demand_sum d rest)) (+ᶠ_cong (of_ℕ-* Q (demand_at d card up foot)) (≈_refl (of_ℕ (demand_sum d rest))))

  feet_join : (card : Card) (up rest : Feeders) → InstantNear card up foot → FeetNear rest → FeetNear (more card up rest)
  unfolding oxygen_sum oxygen_at oxygen_at_head exact_demand_sum exact_oxygen_sum exact_demand_at exact_oxygen_at exact_demand_at_head exact_oxygen_at_head allowance_sum brought_allowance
  feet_join card up rest x y =
      let Q = reach_flow card up in
      near_join (of_ℕ Q) (number Q) (demand_joins Bod card up rest) (demand_joins Nitrogenous card up rest)
      (≈_trans (of_ℤ-+ (pos Q *ℤ oxygen_at card up foot) (oxygen_sum rest)) (+ᶠ_cong (of_ℤ-* (pos Q) (oxygen_at card up foot)) (≈_refl (of_ℤ (oxygen_sum rest)))))
      x y

  pub feet_are_near : {up : Feeders} → AllAccepted up → deepest up ≤ 127 → FeetNear up
  unfolding deepest demand_sum oxygen_sum exact_demand_sum exact_oxygen_sum allowance_sum
  feet_are_near no_more h =
      record {
        bod_error = of_ℕ 0;
        nitrogenous_error = of_ℕ 0;
        oxygen_error = of_ℕ 0;
        bod_near = within_of-≈ (≈_refl (of_ℕ 0));
        nitrogenous_near = within_of-≈ (≈_refl (of_ℕ 0));
        oxygen_near = within_of-≈ (≈_refl (of_ℕ 0));
        together = certify [] (number 0) (search quote depth 40 fits 9999) tt;
      }
  feet_are_near (one_more {card} {up} {rest} own above others) h =
      feet_join card up rest (instant_is_near own above (omega arith) (head_is_near own above (feet_are_near above (omega arith))) foot (le_refl foot)) (feet_are_near others (omega arith))
