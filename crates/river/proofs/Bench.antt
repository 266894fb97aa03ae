-- The bench values of the river file paper for files, proved from the definitions by computation.
use Rattle.std.specs.Prelude.{Option, Some, None}
use mathlib.Core.Path.{◌≡◌, refl}
use mathlib.Core.List.{List, [], ◌∷◌, map}
use Prim.Native.Nat.{ℕ, ◌+◌}
use lib.ListN.{length, take, set, replicate}
use Rattle.river.specs.declared.card.Dam.{Dam}
use Rattle.river.specs.declared.card.Card.{Card}
use Rattle.river.specs.declared.card.Optionals.{Optionals}
use Rattle.river.specs.Refusal.{accepted, refused, refuse, need, choose, after}
use Rattle.river.specs.Card.{no_optionals, with_take, with_pressure, with_sludge, with_nitrification, count_ok, in_range, outlet_ok}
use Rattle.river.specs.River.{River, river_of, longest_file}
use Rattle.river.specs.Fields.{within, all_within}
use Rattle.river.specs.Optional.{read_optional, read_optionals}
use Rattle.river.specs.Read.{read_file, read_rest, read_header, read_reaches, read_reach, card_at}
use Rattle.river.specs.Write.{encode}
use Rattle.river.specs.declared.refusal.Rule.TheVariants.{CutShort, FieldRange}

-- a reach by its temperature and k2 too, and one at 20 degrees without surface aeration
abbrev pub reach_at : (temperature k2 outlet k1 volume inflow bod oxygen load : ℕ) → Option Dam → Optionals → Card
reach_at temperature k2 outlet k1 volume inflow bod oxygen load dam optionals =
    record {
      outlet = outlet;
      temperature = temperature;
      k1 = k1;
      k2 = k2;
      volume = volume;
      inflow = inflow;
      inflow_bod = bod;
      inflow_oxygen = oxygen;
      load = load;
      dam = dam;
      optionals = optionals;
    }

abbrev pub reach : (outlet k1 volume inflow bod oxygen load : ℕ) → Option Dam → Optionals → Card
reach = reach_at 20 0

-- a river without rate factors
abbrev pub given : List Card → River
given = river_of None

-- the two reaches of the printing program's example, with a dam on reach 2 or without, and with takes or without
abbrev pub first : Option ℕ → Card
first take = reach 2 0 1000 3000 2000 8000 0 None (with_take take no_optionals)

abbrev pub second : Option Dam → (take pressure : Option ℕ) → Card
second dam take pressure = reach 0 0 1000 1000 30000 2000 0 dam (with_take take (with_pressure pressure no_optionals))

abbrev pub two : Option Dam → List Card
two dam = first None ∷ second dam None None ∷ []

abbrev pub weir : Option Dam
weir = Some (record { share = 500; generating = 1000 })

-- reach 2 below a dam and at a pressure
abbrev pub hilly : (pressure : Option ℕ) → List Card
hilly pressure = first None ∷ second weir None pressure ∷ []

-- reach 2 with a sludge bed
abbrev pub bedded : (sludge : Option ℕ) → List Card
bedded sludge = first None ∷ reach 0 0 1000 1000 30000 2000 0 None (with_sludge sludge no_optionals) ∷ []

-- reach 2 with a nitrification, and its file, whose last 16 bytes are the `NT` record
abbrev pub nitrified : (rate concentration load : ℕ) → List Card
nitrified rate concentration load = first None ∷ reach 0 0 1000 1000 30000 2000 0 None (with_nitrification (Some (record { rate = rate; concentration = concentration; load = load })) no_optionals) ∷ []

abbrev pub nitrified_file : List ℕ
nitrified_file = encode (given (nitrified 300 4_000 5))

-- the file of the two reaches with rate factors
abbrev pub by_factors : (decay aeration : ℕ) → List ℕ
by_factors decay aeration = encode (river_of (Some (record { decay = decay; aeration = aeration })) (two None))

pub record FileRows : Type 0 where
  pub empty_file : read_file [] ≡ refused (refuse CutShort 0)
  -- a pressure at either end of its range, and one past it
  pub lowest_read : read_file (encode (given (hilly (Some 500)))) ≡ accepted (given (hilly (Some 500)))
  pub highest_read : read_file (encode (given (hilly (Some 800)))) ≡ accepted (given (hilly (Some 800)))
  pub too_low : read_file (encode (given (hilly (Some 499)))) ≡ refused (refuse FieldRange 2)
  pub too_high : read_file (encode (given (hilly (Some 801)))) ≡ refused (refuse FieldRange 2)
  -- a sludge bed at either end of its range
  pub none_demanded_read : read_file (encode (given (bedded (Some 0)))) ≡ accepted (given (bedded (Some 0)))
  pub most_demanded_read : read_file (encode (given (bedded (Some 65_535)))) ≡ accepted (given (bedded (Some 65_535)))
  -- a nitrification at either end of its ranges, and past that of its rate and of its concentration
  pub least_nitrified_read : read_file (encode (given (nitrified 0 0 0))) ≡ accepted (given (nitrified 0 0 0))
  pub most_nitrified_read : read_file (encode (given (nitrified 20_000 1_000_000 4_294_967_295))) ≡ accepted (given (nitrified 20_000 1_000_000 4_294_967_295))
  pub too_fast : read_file (encode (given (nitrified 20_001 0 0))) ≡ refused (refuse FieldRange 2)
  pub too_strong : read_file (encode (given (nitrified 0 1_000_001 0))) ≡ refused (refuse FieldRange 2)
  -- its last four bytes, each of them other than 0; and cut there
  pub ends_in_zeros : map (λ (k : ℕ). read_file (set nitrified_file k 1)) (68 ∷ 69 ∷ 70 ∷ 71 ∷ []) ≡ replicate 4 (refused (refuse FieldRange 2))
  pub cut_nitrified : read_file (take 71 nitrified_file) ≡ refused (refuse CutShort 2)
  -- factors at either end of their range, and past it, and their record cut
  pub least_factors_read : read_file (by_factors 1_000 1_000) ≡ accepted (river_of (Some (record { decay = 1_000; aeration = 1_000 })) (two None))
  pub most_factors_read : read_file (by_factors 1_100 1_100) ≡ accepted (river_of (Some (record { decay = 1_100; aeration = 1_100 })) (two None))
  pub decay_too_low : read_file (by_factors 999 1_000) ≡ refused (refuse FieldRange 0)
  pub decay_too_high : read_file (by_factors 1_101 1_000) ≡ refused (refuse FieldRange 0)
  pub aeration_too_low : read_file (by_factors 1_000 999) ≡ refused (refuse FieldRange 0)
  pub aeration_too_high : read_file (by_factors 1_000 1_101) ≡ refused (refuse FieldRange 0)
  pub cut_factors : read_file (take 9 (by_factors 1_047 1_024)) ≡ refused (refuse CutShort 0)
  -- a file with factors is 6 bytes longer
  pub thousands_longer : length (by_factors 1_000 1_000) ≡ length (encode (given (two None))) + 6
  -- the longest file
  pub longest : longest_file ≡ 8_202

-- THEOREM: the bench values of the paper for files, a row each
pub bench : FileRows
unfolding read_file read_rest read_header read_reaches read_reach read_optionals read_optional card_at count_ok in_range outlet_ok within all_within need choose after encode
bench =
    record {
      empty_file = refl;
      lowest_read = refl;
      highest_read = refl;
      too_low = refl;
      too_high = refl;
      none_demanded_read = refl;
      most_demanded_read = refl;
      least_nitrified_read = refl;
      most_nitrified_read = refl;
      too_fast = refl;
      too_strong = refl;
      ends_in_zeros = refl;
      cut_nitrified = refl;
      least_factors_read = refl;
      most_factors_read = refl;
      decay_too_low = refl;
      decay_too_high = refl;
      aeration_too_low = refl;
      aeration_too_high = refl;
      cut_factors = refl;
      thousands_longer = refl;
      longest = refl;
    }
