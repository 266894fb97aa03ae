-- The bench values of the river file paper for saturation, proved from the definitions by computation.
use mathlib.Core.Path.{◌≡◌, refl}
use Rattle.flows.specs.Saturation.{saturation, saturation_thousandths, standard_pressure}

pub record SaturationRows : Type 0 where
  -- at the standard pressure
  pub at_0 : saturation 0 standard_pressure ≡ 14652000
  pub at_10 : saturation 10 standard_pressure ≡ 11271126
  pub at_20 : saturation 20 standard_pressure ≡ 9021808
  pub at_25 : saturation 25 standard_pressure ≡ 8175656
  pub at_35 : saturation 35 standard_pressure ≡ 6748714
  -- at 700 mm; at 35 degrees it would be 6,215,920 if it were rounded before the pressure too
  pub at_700_0 : saturation 0 700 ≡ 13495263
  pub at_700_20 : saturation 20 700 ≡ 8309560
  pub at_700_25 : saturation 25 700 ≡ 7530209
  pub at_700_35 : saturation 35 700 ≡ 6215921
  -- at the ends of the range of pressures, and the largest of all
  pub at_500_20 : saturation 20 500 ≡ 5935400
  pub at_800_20 : saturation 20 800 ≡ 9496640
  pub largest : saturation 0 800 ≡ 15423157

-- THEOREM: these values, a row each
pub saturation_rows : SaturationRows
unfolding saturation saturation_thousandths
saturation_rows =
    record {
      at_0 = refl;
      at_10 = refl;
      at_20 = refl;
      at_25 = refl;
      at_35 = refl;
      at_700_0 = refl;
      at_700_20 = refl;
      at_700_25 = refl;
      at_700_35 = refl;
      at_500_20 = refl;
      at_800_20 = refl;
      largest = refl;
    }
