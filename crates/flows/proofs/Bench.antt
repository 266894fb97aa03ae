-- The bench values of the river file paper for rates in force, flows and heads, proved from the definitions by computation.
use mathlib.Core.Path.{◌≡◌, refl}
use Rattle.std.specs.Prelude.{Option, Some, None}
use mathlib.Core.List.{List, [], ◌∷◌}
use Prim.Native.Nat.{ℕ, ◌*◌}
use lib.IntN.{pos}
use Rattle.river.specs.declared.card.Nitrification.{Nitrification}
use Rattle.river.specs.declared.card.Card.{Card}
use Rattle.river.specs.declared.source.Demand.TheVariants.{Bod, Nitrogenous}
use Rattle.river.specs.Refusal.{accepted, refused, refuse, need, choose, after}
use Rattle.river.specs.Fields.{within, all_within}
use Rattle.river.specs.Card.{no_optionals, with_take, with_sludge, with_nitrification, count_ok, in_range, outlet_ok, rates_in_range}
use Rattle.river.specs.River.{River, river_of}
use Rattle.river.specs.Optional.{read_optional, read_optionals}
use Rattle.river.specs.Read.{read_file, read_rest, read_header, read_reaches, read_reach, card_at}
use Rattle.river.specs.Write.{encode}
use Rattle.river.specs.Source.{source_of}
use Rattle.river.proofs.Bench.{reach_at, reach, first, second, two, weir, hilly, nitrified, by_factors}
use Rattle.flows.specs.Flow.{fed, card_of, above, flow_of, mass_of, deepest, feeders_among, joined_if, flow_at, mass_at, depth_at, dam_fits, flow_check, checks_from, reach_checks}
use Rattle.flows.specs.Saturation.{saturation, saturation_thousandths, saturation_of}
use Rattle.flows.specs.Head.{floor, upstream_demand, upstream_oxygen, aerated, below_dam, head_demand, head_oxygen}
use Rattle.flows.specs.Rates.{scaled, corrected_rate, decay_in_force, aeration_in_force, in_force}
use Rattle.flows.specs.Accept.{accept_file}
use Rattle.flows.proofs.rates.Rows.{RateRows, rate_rows}
use Rattle.flows.proofs.head.SaturationRows.{SaturationRows, saturation_rows}
use Rattle.river.specs.declared.refusal.Rule.TheVariants.{CutShort, NoFlow, BodLimit, RateLimit, TakeLimit, BedLimit, RateRange}

-- a nitrification by its rate, concentration and load
abbrev nitrifying : (rate concentration load : ℕ) → Option Nitrification
nitrifying rate concentration load = Some (record { rate = rate; concentration = concentration; load = load })

abbrev pub drawn : (take_1 take_2 : Option ℕ) → List Card
drawn take_1 take_2 = first take_1 ∷ second None take_2 None ∷ []

-- one reach with a nitrification, by its volume, inflow and inflow BOD
abbrev ammonia : (volume inflow bod : ℕ) → Option Nitrification → List Card
ammonia volume inflow bod nitrification = reach 0 0 volume inflow bod 0 0 None (with_nitrification nitrification no_optionals) ∷ []

-- one reach with a sludge bed of 1,000 by its volume and take
abbrev bed : (volume : ℕ) → Option ℕ → List Card
bed volume take = reach 0 0 volume 10000 0 0 0 None (with_take take (with_sludge (Some 1000) no_optionals)) ∷ []

-- one reach by its k1, volume, inflow and take
abbrev one : (k1 volume inflow : ℕ) → Option ℕ → List Card
one k1 volume inflow take = reach 0 k1 volume inflow 0 0 0 None (with_take take no_optionals) ∷ []

-- one reach of 10,000 litres a second by its temperature, rates and volume, in a river with rate factors
abbrev warm : (temperature k1 k2 volume : ℕ) → River
warm temperature k1 k2 volume = river_of (Some (record { decay = 1_047; aeration = 1_024 })) (reach_at temperature k2 0 k1 volume 10000 0 0 0 None no_optionals ∷ [])

-- reach 1 into 2, and 2 and 3 into 4
abbrev forked : List Card
forked =
    reach 2 0 0 1 1 0 0 None no_optionals ∷ reach 4 0 0 10 1 0 0 None no_optionals ∷ reach 4 0 0 100 1 0 0 None no_optionals ∷ reach 0 0 0 1_000 1 0 0 None no_optionals ∷ []

-- one reach with Qm 3 and Mm 2,999,999
abbrev full : Option ℕ → List Card
full take = reach 0 0 0 3 999_333 0 2 None (with_take take no_optionals) ∷ []

pub record FlowRows : Type 0 where
  pub saturation_rows : SaturationRows
  pub accepted_two : flow_check (two None) ≡ accepted (two None)
  pub depth_1 : depth_at (two None) 1 ≡ 1
  pub flow_1 : flow_at (two None) 1 ≡ 3000
  pub bod_1 : head_demand (source_of Bod (first None)) (fed (above (two None) 1)) (flow_of (above (two None) 1)) 0 ≡ 2000000
  pub oxygen_1 : head_oxygen (first None) (fed (above (two None) 1)) (flow_of (above (two None) 1)) (pos 0) ≡ pos 8000000
  pub depth_2 : depth_at (two None) 2 ≡ 2
  pub flow_2 : flow_at (two None) 2 ≡ 4000
  pub bod_2 : head_demand (source_of Bod (second None None None)) (fed (above (two None) 2)) (flow_of (above (two None) 2)) (3000 * 2000000) ≡ 9000000
  pub oxygen_2 : head_oxygen (second None None None) (fed (above (two None) 2)) (flow_of (above (two None) 2)) (pos (3000 * 8000000)) ≡ pos 6500000
  -- what comes down of a demand that reach 2 does not add to
  pub nitrogenous_2 : head_demand (source_of Nitrogenous (second None None None)) (fed (above (two None) 2)) (flow_of (above (two None) 2)) (3000 * 2000000) ≡ 1500000
  pub accepted_dam : flow_check (two weir) ≡ accepted (two weir)
  pub below_dam_lem : below_dam (second weir None None) (fed (above (two weir) 2)) (flow_of (above (two weir) 2)) (pos 8000000) ≡ pos 8340602
  pub oxygen_dam : head_oxygen (second weir None None) (fed (above (two weir) 2)) (flow_of (above (two weir) 2)) (pos (3000 * 8000000)) ≡ pos 6755451
  pub volume_passes : flow_check (one 1000 3456000 10000 None) ≡ accepted (one 1000 3456000 10000 None)
  pub volume_refused : flow_check (one 1000 3456001 10000 None) ≡ refused (refuse RateLimit 1)
  pub inflow_zero : flow_check (one 0 0 0 None) ≡ refused (refuse NoFlow 1)
  pub empty_file : accept_file [] ≡ refused (refuse CutShort 0)
  -- a take of 1,000 at reach 1
  pub drawn_1_passes : flow_check (drawn (Some 1000) None) ≡ accepted (drawn (Some 1000) None)
  pub drawn_1_flow_1 : flow_at (drawn (Some 1000) None) 1 ≡ 2000
  pub drawn_1_flow_2 : flow_at (drawn (Some 1000) None) 2 ≡ 3000
  -- a take of 1,000 at reach 2
  pub drawn_2_passes : flow_check (drawn None (Some 1000)) ≡ accepted (drawn None (Some 1000))
  pub drawn_2_flow_2 : flow_at (drawn None (Some 1000)) 2 ≡ 3000
  -- what a take leaves of M flows on
  pub drawn_1_mass_2 : mass_at (drawn (Some 1000) None) 2 ≡ 34_000_000
  -- two feeders: their flows and masses add up, and the deeper one tells the depth
  pub forked_flow : flow_at forked 4 ≡ 1_111
  pub forked_mass : mass_at forked 4 ≡ 1_111
  pub forked_depth : depth_at forked 4 ≡ 3
  -- 13 at all of the flow, and one below
  pub all_drawn : flow_check (drawn (Some 3000) None) ≡ refused (refuse TakeLimit 1)
  pub nearly_drawn : flow_check (drawn (Some 2999) None) ≡ accepted (drawn (Some 2999) None)
  -- 11 by the flow after the take
  pub rate_after_take : flow_check (one 1000 3456000 10000 (Some 1)) ≡ refused (refuse RateLimit 1)
  -- M without a take, and cut after one
  pub mass_full : mass_at (full None) 1 ≡ 2_999_999
  pub mass_cut : mass_at (full (Some 2)) 1 ≡ 1_000_000
  -- saturation of a card: 760 mm without a record, and with one of 760
  pub standard : saturation_of (second None None None) ≡ 9021808
  pub written_out : saturation_of (second None None (Some 760)) ≡ 9021808
  pub own_pressure : saturation_of (second None None (Some 700)) ≡ 8309560
  -- the dam of reach 2 at 700 mm
  pub accepted_hilly : flow_check (hilly (Some 700)) ≡ accepted (hilly (Some 700))
  pub below_dam_700 : below_dam (second weir None (Some 700)) (fed (above (hilly (Some 700)) 2)) (flow_of (above (hilly (Some 700)) 2)) (pos 8000000) ≡ pos 8103186
  pub oxygen_dam_700 : head_oxygen (second weir None (Some 700)) (fed (above (hilly (Some 700)) 2)) (flow_of (above (hilly (Some 700)) 2)) (pos (3000 * 8000000)) ≡ pos 6577389
  -- 14 on its limit and past it, by the flow after the take
  pub bed_passes : flow_check (bed 4_320_000 None) ≡ accepted (bed 4_320_000 None)
  pub bed_refused : flow_check (bed 4_320_001 None) ≡ refused (refuse BedLimit 1)
  pub bed_after_take : flow_check (bed 4_320_000 (Some 1)) ≡ refused (refuse BedLimit 1)
  -- 11 of the nitrogenous rate on its limit and past it
  pub nitrogenous_rate_passes : flow_check (ammonia 3_456_000 10_000 0 (nitrifying 1_000 0 0)) ≡ accepted (ammonia 3_456_000 10_000 0 (nitrifying 1_000 0 0))
  pub nitrogenous_rate_refused : flow_check (ammonia 3_456_001 10_000 0 (nitrifying 1_000 0 0)) ≡ refused (refuse RateLimit 1)
  -- 10 of both demands together on its limit and past it, by an inflow and by a load
  pub demands_pass : flow_check (ammonia 0 1 600_000 (nitrifying 0 399_000 1)) ≡ accepted (ammonia 0 1 600_000 (nitrifying 0 399_000 1))
  pub demands_refused : flow_check (ammonia 0 1 600_000 (nitrifying 0 399_001 1)) ≡ refused (refuse BodLimit 1)
  pub demand_load_refused : flow_check (ammonia 0 1 600_000 (nitrifying 0 399_000 2)) ≡ refused (refuse BodLimit 1)
  -- M of both demands, and nitrogenous BOD mixed with what comes down
  pub mass_nitrified : mass_at (nitrified 300 4_000 5) 2 ≡ 40_005_000
  pub nitrogenous_mixed : head_demand (source_of Nitrogenous (card_of (nitrified 300 4_000 5) 2)) (fed (above (nitrified 300 4_000 5) 2)) (flow_of (above (nitrified 300 4_000 5) 2)) (3000 * 2000000) ≡ 2501250
  -- corrected rates; 15 by them, at a rate that is in range at 20 degrees
  pub corrected_rows : RateRows
  pub warm_passes : accept_file (encode (warm 20 0 20_000 0)) ≡ accepted (in_force (warm 20 0 20_000 0))
  pub warm_refused : accept_file (encode (warm 21 0 20_000 0)) ≡ refused (refuse RateRange 1)
  pub warm_decay_refused : accept_file (encode (warm 21 20_000 0 0)) ≡ refused (refuse RateRange 1)
  -- 11 by the rate in force, 1,258, on its limit and past it
  pub warm_volume_passes : flow_check (in_force (warm 25 1_000 0 2_747_217)) ≡ accepted (in_force (warm 25 1_000 0 2_747_217))
  pub warm_volume_refused : flow_check (in_force (warm 25 1_000 0 2_747_218)) ≡ refused (refuse RateLimit 1)
  -- the two reaches with factors of 1,000, which change no rate (`rates/InForce.nothing_corrected`)
  pub thousands : accept_file (by_factors 1_000 1_000) ≡ accepted (two None)

-- THEOREM: the bench values of the paper for rates in force, flows and heads, a row each
pub bench : FlowRows
unfolding saturation saturation_thousandths saturation_of flow_check checks_from reach_checks need rates_in_range scaled corrected_rate decay_in_force aeration_in_force dam_fits fed flow_of mass_of deepest feeders_among joined_if head_demand head_oxygen upstream_demand upstream_oxygen below_dam aerated floor accept_file read_file read_rest read_header read_reaches read_reach read_optionals read_optional card_at count_ok in_range outlet_ok within all_within choose after encode
bench =
    record {
      saturation_rows = saturation_rows;
      accepted_two = refl;
      depth_1 = refl;
      flow_1 = refl;
      bod_1 = refl;
      oxygen_1 = refl;
      depth_2 = refl;
      flow_2 = refl;
      bod_2 = refl;
      oxygen_2 = refl;
      nitrogenous_2 = refl;
      accepted_dam = refl;
      below_dam_lem = refl;
      oxygen_dam = refl;
      volume_passes = refl;
      volume_refused = refl;
      inflow_zero = refl;
      empty_file = refl;
      drawn_1_passes = refl;
      drawn_1_flow_1 = refl;
      drawn_1_flow_2 = refl;
      drawn_2_passes = refl;
      drawn_2_flow_2 = refl;
      drawn_1_mass_2 = refl;
      forked_flow = refl;
      forked_mass = refl;
      forked_depth = refl;
      all_drawn = refl;
      nearly_drawn = refl;
      rate_after_take = refl;
      mass_full = refl;
      mass_cut = refl;
      standard = refl;
      written_out = refl;
      own_pressure = refl;
      accepted_hilly = refl;
      below_dam_700 = refl;
      oxygen_dam_700 = refl;
      bed_passes = refl;
      bed_refused = refl;
      bed_after_take = refl;
      nitrogenous_rate_passes = refl;
      nitrogenous_rate_refused = refl;
      demands_pass = refl;
      demands_refused = refl;
      demand_load_refused = refl;
      mass_nitrified = refl;
      nitrogenous_mixed = refl;
      corrected_rows = rate_rows;
      warm_passes = refl;
      warm_refused = refl;
      warm_decay_refused = refl;
      warm_volume_passes = refl;
      warm_volume_refused = refl;
      thousands = refl;
    }
