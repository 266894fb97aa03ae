-- The order of the flow check: a reach that breaks two of its rules is refused by the earlier one.
-- Computed from the definitions.
use mathlib.Core.Path.{◌≡◌, refl}
use Rattle.std.specs.Prelude.{Option, Some, None}
use mathlib.Core.List.{List, [], ◌∷◌}
use Prim.Native.Nat.{ℕ}
use Rattle.river.specs.declared.card.Card.{Card}
use Rattle.river.specs.declared.card.Nitrification.{Nitrification}
use Rattle.river.specs.Refusal.{accepted, refused, refuse, need}
use Rattle.river.specs.Card.{no_optionals, with_take, with_sludge, with_nitrification, rates_in_range}
use Rattle.flows.specs.Flow.{fed, flow_of, mass_of, feeders_among, joined_if, dam_fits, flow_check, checks_from, reach_checks}
use Rattle.river.proofs.Orders.{reach_with, reach, weir, nitrification_out}
use Rattle.river.specs.declared.refusal.Rule.TheVariants.{NoFlow, FlowLimit, DamFlow, BodLimit, RateLimit, TakeLimit, BedLimit, RateRange}

-- a nitrification by its rate, concentration and load
abbrev nitrifying : (rate concentration load : ℕ) → Option Nitrification
nitrifying rate concentration load = Some (record { rate = rate; concentration = concentration; load = load })

-- one reach with a volume of 100, k1 of 1,000, and a sludge bed: 4,320 is the most to a litre a second
abbrev bed : (sludge inflow : ℕ) (amount : Option ℕ) → List Card
bed sludge inflow amount = reach_with (with_take amount (with_sludge (Some sludge) no_optionals)) 0 20 100 inflow 0 None ∷ []

-- a reach below one, each of one litre a second, with a dam of this generating flow
abbrev dammed : (generating : ℕ) → List Card
dammed generating = reach 2 20 0 1 0 None None ∷ reach 0 20 0 1 0 (Some (record { share = 500; generating = generating })) None ∷ []

pub record Flowing : Type 0 where
  -- 7, 8, 9, 10, 13, 15, 11, 14, each with the next rule that the same reach can break
  pub none_and_dam : flow_check (reach 0 20 0 0 0 weir None ∷ []) ≡ refused (refuse NoFlow 1)
  pub flow_and_dam : flow_check (reach 0 20 0 100_000_001 0 weir None ∷ []) ≡ refused (refuse FlowLimit 1)
  pub dam_and_load : flow_check (reach 0 20 0 1 1_001 weir None ∷ []) ≡ refused (refuse DamFlow 1)
  pub load_and_rate : flow_check (reach 0 20 346 1 1_001 None None ∷ []) ≡ refused (refuse BodLimit 1)
  pub load_and_take : flow_check (reach 0 20 0 1 1_001 None (Some 1) ∷ []) ≡ refused (refuse BodLimit 1)
  pub take_and_rate : flow_check (reach 0 20 346 1 0 None (Some 1) ∷ []) ≡ refused (refuse TakeLimit 1)
  pub take_and_range : flow_check (reach_with (with_take (Some 1) (with_nitrification nitrification_out no_optionals)) 0 20 0 1 0 None ∷ []) ≡ refused (refuse TakeLimit 1)
  pub range_and_rate : flow_check (reach_with (with_nitrification nitrification_out no_optionals) 0 20 346 1 0 None ∷ []) ≡ refused (refuse RateRange 1)
  pub range_and_bed : flow_check (reach_with (with_sludge (Some 65_535) (with_nitrification nitrification_out no_optionals)) 0 20 7 1 0 None ∷ []) ≡ refused (refuse RateRange 1)
  pub nitrogenous_rate_and_bed : flow_check (reach_with (with_sludge (Some 4_321) (with_nitrification (nitrifying 3_457 0 0) no_optionals)) 0 20 100 1 0 None ∷ []) ≡ refused (refuse RateLimit 1)
  pub take_and_nitrogenous_rate : flow_check (reach_with (with_take (Some 1) (with_nitrification (nitrifying 3_457 0 0) no_optionals)) 0 20 100 1 0 None ∷ []) ≡ refused (refuse TakeLimit 1)
  pub rate_and_bed : flow_check (reach_with (with_sludge (Some 4_321) no_optionals) 0 20 346 1 0 None ∷ []) ≡ refused (refuse RateLimit 1)
  -- 8 on its limit; 9 with all of Qu through the turbines, and with one more, which Qm has
  pub flow_most : flow_check (reach 0 20 0 100_000_000 0 None None ∷ []) ≡ accepted (reach 0 20 0 100_000_000 0 None None ∷ [])
  pub dam_most : flow_check (dammed 1) ≡ accepted (dammed 1)
  pub dam_past : flow_check (dammed 2) ≡ refused (refuse DamFlow 2)
  -- a take of Qm less 1 passes 13, and 11 goes by the flow that remains
  pub one_left : flow_check (reach 0 20 345 2 0 None (Some 1) ∷ []) ≡ accepted (reach 0 20 345 2 0 None (Some 1) ∷ [])
  pub rate_by_the_rest : flow_check (reach 0 20 346 2 0 None (Some 1) ∷ []) ≡ refused (refuse RateLimit 1)
  -- 14 on its limit and one past it, also by the flow that remains
  pub bed_most : flow_check (bed 4_320 1 None) ≡ accepted (bed 4_320 1 None)
  pub bed_past : flow_check (bed 4_321 1 None) ≡ refused (refuse BedLimit 1)
  pub bed_by_the_rest_most : flow_check (bed 4_320 2 (Some 1)) ≡ accepted (bed 4_320 2 (Some 1))
  pub bed_by_the_rest : flow_check (bed 4_321 2 (Some 1)) ≡ refused (refuse BedLimit 1)
  -- and 15, 11 or 14 of a reach before 10 of the next
  pub range_and_next : flow_check (reach_with (with_nitrification nitrification_out no_optionals) 2 20 0 1 0 None ∷ reach 0 20 0 1 2_001 None None ∷ []) ≡ refused (refuse RateRange 1)
  pub rate_and_next : flow_check (reach 2 20 346 1 0 None None ∷ reach 0 20 0 1 2_001 None None ∷ []) ≡ refused (refuse RateLimit 1)
  pub bed_and_next : flow_check (reach_with (with_sludge (Some 4_321) no_optionals) 2 20 100 1 0 None ∷ reach 0 20 0 1 2_001 None None ∷ []) ≡ refused (refuse BedLimit 1)

-- THEOREM: whoever breaks two rules of the flow check gets the earlier one's number
pub flow_order : Flowing
unfolding flow_check checks_from reach_checks need dam_fits rates_in_range fed flow_of mass_of feeders_among joined_if
flow_order =
    record {
      none_and_dam = refl;
      flow_and_dam = refl;
      dam_and_load = refl;
      load_and_rate = refl;
      load_and_take = refl;
      take_and_rate = refl;
      take_and_range = refl;
      range_and_rate = refl;
      range_and_bed = refl;
      nitrogenous_rate_and_bed = refl;
      take_and_nitrogenous_rate = refl;
      rate_and_bed = refl;
      flow_most = refl;
      dam_most = refl;
      dam_past = refl;
      one_left = refl;
      rate_by_the_rest = refl;
      bed_most = refl;
      bed_past = refl;
      bed_by_the_rest_most = refl;
      bed_by_the_rest = refl;
      range_and_next = refl;
      rate_and_next = refl;
      bed_and_next = refl;
    }
