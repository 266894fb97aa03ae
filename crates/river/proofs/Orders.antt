-- The orders of the rules of reading and writing: a file or a river that breaks two rules is refused by the earlier one.
-- Computed from the definitions.
use Rattle.std.specs.Prelude.{Option, Some, None}
use mathlib.Core.Path.{◌≡◌, refl}
use mathlib.Core.List.{List, [], ◌∷◌, ◌++◌, map}
use Prim.Native.Nat.{ℕ}
use lib.ListN.{take, drop}
use Rattle.river.specs.declared.card.Card.{Card}
use Rattle.river.specs.declared.card.Dam.{Dam}
use Rattle.river.specs.declared.card.Nitrification.{Nitrification}
use Rattle.river.specs.declared.card.Optionals.{Optionals}
use Rattle.river.specs.declared.card.RateFactors.{RateFactors}
use Rattle.river.specs.Refusal.{Answer, refused, refuse, number_of, code_of, need, choose, after}
use Rattle.river.specs.Card.{no_optionals, with_take, with_pressure, with_sludge, with_nitrification, count_ok, in_range, outlet_ok}
use Rattle.river.specs.Fields.{within, all_within}
use Rattle.river.specs.Records.{dam_record, nitrification_record, factors_record, take_record, pressure_record, sludge_record}
use Rattle.river.specs.Optional.{read_optional, read_optionals, optionals_in_range}
use Rattle.river.specs.River.{river_of}
use Rattle.river.specs.Read.{read_header, read_reach, read_reaches, read_rest, read_file, card_at}
use Rattle.river.specs.Write.{encode, encode_card, encode_header, encode_opening, check_card, check_from, check_river, write_answer}
use Rattle.river.specs.Rewrite.{rewrite_answer}
use Rattle.river.specs.declared.refusal.Rule.TheVariants.{CutShort, WrongMark, ReachCount, FieldRange, WrongOutlet, BytesLeft, NoFlow, FlowLimit, DamFlow, BodLimit, RateLimit, BufferShort, TakeLimit, BedLimit, RateRange, NoVolume}

-- a reach by the fields that break a rule, with optional fields, and one with a take alone
abbrev pub reach_with : Optionals → (outlet temperature volume inflow load : ℕ) → Option Dam → Card
reach_with optionals outlet temperature volume inflow load dam =
    record {
      outlet = outlet;
      temperature = temperature;
      k1 = 1_000;
      k2 = 0;
      volume = volume;
      inflow = inflow;
      inflow_bod = 0;
      inflow_oxygen = 0;
      load = load;
      dam = dam;
      optionals = optionals;
    }

abbrev pub reach : (outlet temperature volume inflow load : ℕ) → Option Dam → (take : Option ℕ) → Card
reach outlet temperature volume inflow load dam take = reach_with (with_take take no_optionals) outlet temperature volume inflow load dam

-- a dam in range, and one out of range
abbrev pub weir : Option Dam
weir = Some (record { share = 500; generating = 0 })

abbrev weir_out : Option Dam
weir_out = Some (record { share = 1_001; generating = 0 })

-- a take, a pressure, a sludge bed and a nitrification out of range
abbrev take_out : Option ℕ
take_out = Some 100_000_001

abbrev pressure_out : Option ℕ
pressure_out = Some 499

abbrev sludge_out : Option ℕ
sludge_out = Some 65_536

abbrev pub nitrification_out : Option Nitrification
nitrification_out = Some (record { rate = 20_001; concentration = 0; load = 0 })

-- a nitrification in range
abbrev nitrifying : Option Nitrification
nitrifying = Some (record { rate = 0; concentration = 0; load = 0 })

-- factors in range, and the first and the second out of range
abbrev factors : Option RateFactors
factors = Some (record { decay = 1_047; aeration = 1_024 })

abbrev first_out : Option RateFactors
first_out = Some (record { decay = 999; aeration = 1_000 })

abbrev second_out : Option RateFactors
second_out = Some (record { decay = 1_000; aeration = 1_101 })

-- the file of one reach, whatever its fields, without rate factors and with some
abbrev file : Card → List ℕ
file c = encode_header 1 ++ encode_card c

abbrev file_by : Option RateFactors → Card → List ℕ
file_by f c = encode_opening 1 f ++ encode_card c

-- the refusal of writing one reach to no room, where n are counted
abbrev written : ℕ → Option RateFactors → Card → Answer ℕ
written n f c = write_answer n (river_of f (c ∷ [])) 0

pub record Reading : Type 0 where
  -- the header: 1, 2, 3
  pub cut_header : read_file (88 ∷ 86 ∷ 0 ∷ []) ≡ refused (refuse CutShort 0)
  pub wrong_header : read_file (88 ∷ 86 ∷ 0 ∷ 0 ∷ []) ≡ refused (refuse WrongMark 0)
  -- then the rate factors: 1, 4
  pub count_and_factors : read_file (encode_opening 0 first_out) ≡ refused (refuse ReachCount 0)
  pub cut_factors : read_file (take 9 (file_by first_out (reach 9 36 0 1 0 None None))) ≡ refused (refuse CutShort 0)
  pub factors_and_reach : read_file (file_by first_out (reach 9 36 0 1 0 None None)) ≡ refused (refuse FieldRange 0)
  pub second_factor_and_reach : read_file (take 12 (file_by second_out (reach 9 36 0 1 0 None None))) ≡ refused (refuse FieldRange 0)
  -- a second record of rate factors is no record that is due, nor is one behind a reach
  pub factors_twice : read_file (encode_opening 1 factors ++ factors_record.encode factors ++ encode_card (reach 0 20 0 1 0 None None)) ≡ refused (refuse WrongMark 1)
  pub reach_then_factors : read_file (file (reach 0 20 0 1 0 None None) ++ factors_record.encode factors) ≡ refused (refuse BytesLeft 0)
  -- a reach: 1, 2, 4, 5
  pub cut_reach : read_file (82 ∷ 86 ∷ 0 ∷ 1 ∷ 88 ∷ 69 ∷ []) ≡ refused (refuse CutShort 1)
  pub wrong_reach : read_reach 1 1 (88 ∷ 69 ∷ drop 2 (encode_card (reach 0 36 0 1 0 None None))) ≡ refused (refuse WrongMark 1)
  pub range_and_outlet : read_file (file (reach 9 36 0 1 0 None None)) ≡ refused (refuse FieldRange 1)
  -- then its dam: 1, 4
  pub outlet_and_dam : read_file (file (reach 9 20 0 1 0 weir_out None)) ≡ refused (refuse WrongOutlet 1)
  pub cut_dam : read_file (take 37 (file (reach 0 20 0 1 0 weir_out None))) ≡ refused (refuse CutShort 1)
  -- then its take: 1, 4
  pub outlet_and_take : read_file (file (reach 9 20 0 1 0 None take_out)) ≡ refused (refuse WrongOutlet 1)
  pub dam_and_cut_take : read_file (take 43 (file (reach 0 20 0 1 0 weir_out take_out))) ≡ refused (refuse FieldRange 1)
  pub cut_take : read_file (take 35 (file (reach 0 20 0 1 0 None take_out))) ≡ refused (refuse CutShort 1)
  -- a dam behind a take is no record that is due
  pub take_then_dam : read_file (file (reach 0 20 0 1 0 None (Some 0)) ++ dam_record.encode weir) ≡ refused (refuse BytesLeft 0)
  pub next_after_dam : read_file (encode_header 2 ++ encode_card (reach 2 20 0 1 0 None (Some 0)) ++ dam_record.encode weir ++ encode_card (reach 0 20 0 1 0 None None)) ≡ refused (refuse WrongMark 2)
  -- nor is a second take
  pub take_twice : read_file (file (reach 0 20 0 1 0 None (Some 0)) ++ take_record.encode (Some 0)) ≡ refused (refuse BytesLeft 0)
  -- then its pressure: 1, 4
  pub outlet_and_pressure : read_file (file (reach_with (with_pressure pressure_out no_optionals) 9 20 0 1 0 None)) ≡ refused (refuse WrongOutlet 1)
  pub take_and_cut_pressure : read_file (take 39 (file (reach_with (with_take take_out (with_pressure pressure_out no_optionals)) 0 20 0 1 0 None))) ≡ refused (refuse FieldRange 1)
  pub cut_pressure : read_file (take 33 (file (reach_with (with_pressure pressure_out no_optionals) 0 20 0 1 0 None))) ≡ refused (refuse CutShort 1)
  -- a take behind a pressure is no record that is due, nor is a second pressure
  pub pressure_then_take : read_file (file (reach_with (with_pressure (Some 760) no_optionals) 0 20 0 1 0 None) ++ take_record.encode (Some 0)) ≡ refused (refuse BytesLeft 0)
  pub pressure_twice : read_file (file (reach_with (with_pressure (Some 760) no_optionals) 0 20 0 1 0 None) ++ pressure_record.encode (Some 760)) ≡ refused (refuse BytesLeft 0)
  -- then its sludge bed: 1
  pub outlet_and_cut_sludge : read_file (take 33 (file (reach_with (with_sludge (Some 0) no_optionals) 9 20 0 1 0 None))) ≡ refused (refuse WrongOutlet 1)
  pub pressure_and_cut_sludge : read_file (take 37 (file (reach_with (with_pressure pressure_out (with_sludge (Some 0) no_optionals)) 0 20 0 1 0 None))) ≡ refused (refuse FieldRange 1)
  pub cut_sludge : read_file (take 33 (file (reach_with (with_sludge (Some 0) no_optionals) 0 20 0 1 0 None))) ≡ refused (refuse CutShort 1)
  -- a pressure behind a sludge bed is no record that is due, nor is a second sludge bed
  pub sludge_then_pressure : read_file (file (reach_with (with_sludge (Some 0) no_optionals) 0 20 0 1 0 None) ++ pressure_record.encode (Some 760)) ≡ refused (refuse BytesLeft 0)
  pub sludge_twice : read_file (file (reach_with (with_sludge (Some 0) no_optionals) 0 20 0 1 0 None) ++ sludge_record.encode (Some 0)) ≡ refused (refuse BytesLeft 0)
  -- then its nitrification: 1, 4
  pub outlet_and_nitrification : read_file (file (reach_with (with_nitrification nitrification_out no_optionals) 9 20 0 1 0 None)) ≡ refused (refuse WrongOutlet 1)
  pub pressure_and_cut_nitrification : read_file (take 49 (file (reach_with (with_pressure pressure_out (with_nitrification nitrifying no_optionals)) 0 20 0 1 0 None))) ≡ refused (refuse FieldRange 1)
  pub cut_sludge_and_nitrification : read_file (take 33 (file (reach_with (with_sludge (Some 0) (with_nitrification nitrification_out no_optionals)) 0 20 0 1 0 None))) ≡ refused (refuse CutShort 1)
  pub cut_nitrification : read_file (take 45 (file (reach_with (with_nitrification nitrification_out no_optionals) 0 20 0 1 0 None))) ≡ refused (refuse CutShort 1)
  -- a sludge bed behind a nitrification is no record that is due, nor is a second nitrification
  pub nitrification_then_sludge : read_file (file (reach_with (with_nitrification nitrifying no_optionals) 0 20 0 1 0 None) ++ sludge_record.encode (Some 0)) ≡ refused (refuse BytesLeft 0)
  pub nitrification_twice : read_file (file (reach_with (with_nitrification nitrifying no_optionals) 0 20 0 1 0 None) ++ nitrification_record.encode nitrifying) ≡ refused (refuse BytesLeft 0)
  -- 6 comes last
  pub dam_and_more : read_file (file (reach 0 20 0 1 0 weir_out None) ++ (0 ∷ [])) ≡ refused (refuse FieldRange 1)
  pub take_and_more : read_file (file (reach 0 20 0 1 0 weir take_out) ++ (0 ∷ [])) ≡ refused (refuse FieldRange 1)
  pub pressure_and_more : read_file (file (reach_with (with_pressure pressure_out no_optionals) 0 20 0 1 0 weir) ++ (0 ∷ [])) ≡ refused (refuse FieldRange 1)
  pub nitrification_and_more : read_file (file (reach_with (with_nitrification nitrification_out no_optionals) 0 20 0 1 0 None) ++ (0 ∷ [])) ≡ refused (refuse FieldRange 1)

pub record Writing : Type 0 where
  -- 3, then 4 of the rate factors, then 4 and 5 of a reach, then the 4 of its dam, its take, its pressure, its sludge bed and its nitrification, then 12
  pub count_and_range : written 0 None (reach 9 36 0 1 0 None None) ≡ refused (refuse ReachCount 0)
  pub count_and_factors : written 0 first_out (reach 9 36 0 1 0 None None) ≡ refused (refuse ReachCount 0)
  pub factors_and_range : written 1 first_out (reach 9 36 0 1 0 None None) ≡ refused (refuse FieldRange 0)
  pub second_factor_and_room : written 1 second_out (reach 0 20 0 1 0 None None) ≡ refused (refuse FieldRange 0)
  pub range_and_outlet : written 1 None (reach 9 36 0 1 0 None None) ≡ refused (refuse FieldRange 1)
  pub outlet_and_dam : written 1 None (reach 9 20 0 1 0 weir_out None) ≡ refused (refuse WrongOutlet 1)
  pub outlet_and_take : written 1 None (reach 9 20 0 1 0 None take_out) ≡ refused (refuse WrongOutlet 1)
  pub outlet_and_pressure : written 1 None (reach_with (with_pressure pressure_out no_optionals) 9 20 0 1 0 None) ≡ refused (refuse WrongOutlet 1)
  pub outlet_and_sludge : written 1 None (reach_with (with_sludge sludge_out no_optionals) 9 20 0 1 0 None) ≡ refused (refuse WrongOutlet 1)
  pub outlet_and_nitrification : written 1 None (reach_with (with_nitrification nitrification_out no_optionals) 9 20 0 1 0 None) ≡ refused (refuse WrongOutlet 1)
  pub nitrification_and_room : written 1 None (reach_with (with_take (Some 0) (with_pressure (Some 760) (with_sludge (Some 0) (with_nitrification nitrification_out no_optionals)))) 0 20 0 1 0 weir) ≡ refused (refuse FieldRange 1)
  pub sludge_and_room : written 1 None (reach_with (with_take (Some 0) (with_pressure (Some 760) (with_sludge sludge_out no_optionals))) 0 20 0 1 0 weir) ≡ refused (refuse FieldRange 1)
  pub pressure_and_room : written 1 None (reach_with (with_take (Some 0) (with_pressure pressure_out no_optionals)) 0 20 0 1 0 weir) ≡ refused (refuse FieldRange 1)
  pub take_and_room : written 1 None (reach 0 20 0 1 0 weir take_out) ≡ refused (refuse FieldRange 1)
  pub dam_and_room : written 1 None (reach 0 20 0 1 0 weir_out None) ≡ refused (refuse FieldRange 1)
  -- rewriting: a rule of reading, then 12
  pub cut_and_room : rewrite_answer (88 ∷ 86 ∷ 0 ∷ []) 0 ≡ refused (refuse CutShort 0)

-- the numbers of all rules, in the order of the paper's table, and results: number + 256 × reach
pub record Numbers : Type 0 where
  pub rules : map number_of (CutShort ∷ WrongMark ∷ ReachCount ∷ FieldRange ∷ WrongOutlet ∷ BytesLeft ∷ NoFlow ∷ FlowLimit ∷ DamFlow ∷ BodLimit ∷ RateLimit ∷ BufferShort ∷ TakeLimit ∷ BedLimit ∷ RateRange ∷ NoVolume ∷ [])
      ≡ 1 ∷ 2 ∷ 3 ∷ 4 ∷ 5 ∷ 6 ∷ 7 ∷ 8 ∷ 9 ∷ 10 ∷ 11 ∷ 12 ∷ 13 ∷ 14 ∷ 15 ∷ 16 ∷ []
  pub codes : map code_of (refuse CutShort 0 ∷ refuse FieldRange 2 ∷ refuse NoVolume 128 ∷ []) ≡ 1 ∷ 516 ∷ 32_784 ∷ []

-- THEOREM: each rule has the paper's number
pub numbers : Numbers
numbers = record { rules = refl; codes = refl }

-- THEOREM: whoever breaks two rules of reading gets the earlier one's number
pub reading_order : Reading
unfolding read_file read_header read_rest read_reaches read_reach read_optionals read_optional card_at count_ok in_range outlet_ok within all_within need after choose
reading_order =
    record {
      cut_header = refl;
      wrong_header = refl;
      count_and_factors = refl;
      cut_factors = refl;
      factors_and_reach = refl;
      second_factor_and_reach = refl;
      factors_twice = refl;
      reach_then_factors = refl;
      cut_reach = refl;
      wrong_reach = refl;
      range_and_outlet = refl;
      outlet_and_dam = refl;
      cut_dam = refl;
      outlet_and_take = refl;
      dam_and_cut_take = refl;
      cut_take = refl;
      take_then_dam = refl;
      next_after_dam = refl;
      take_twice = refl;
      outlet_and_pressure = refl;
      take_and_cut_pressure = refl;
      cut_pressure = refl;
      pressure_then_take = refl;
      pressure_twice = refl;
      outlet_and_cut_sludge = refl;
      pressure_and_cut_sludge = refl;
      cut_sludge = refl;
      sludge_then_pressure = refl;
      sludge_twice = refl;
      outlet_and_nitrification = refl;
      pressure_and_cut_nitrification = refl;
      cut_sludge_and_nitrification = refl;
      cut_nitrification = refl;
      nitrification_then_sludge = refl;
      nitrification_twice = refl;
      dam_and_more = refl;
      take_and_more = refl;
      pressure_and_more = refl;
      nitrification_and_more = refl;
    }

-- THEOREM: the same for writing and rewriting
pub writing_order : Writing
unfolding rewrite_answer read_file read_header write_answer check_river check_from check_card encode count_ok in_range outlet_ok within all_within optionals_in_range need after
writing_order =
    record {
      count_and_range = refl;
      count_and_factors = refl;
      factors_and_range = refl;
      second_factor_and_room = refl;
      range_and_outlet = refl;
      outlet_and_dam = refl;
      outlet_and_take = refl;
      outlet_and_pressure = refl;
      outlet_and_sludge = refl;
      outlet_and_nitrification = refl;
      nitrification_and_room = refl;
      sludge_and_room = refl;
      pressure_and_room = refl;
      take_and_room = refl;
      dam_and_room = refl;
      cut_and_room = refl;
    }
