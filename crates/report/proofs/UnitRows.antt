-- The units that a river allows for each step of depth, computed from the definition: with an `SD` or an `NT` record or none, also of zeros.
use mathlib.Core.Path.{◌≡◌, refl}
use mathlib.Core.List.{[], ◌∷◌}
use Rattle.std.specs.Prelude.{Option, Some, None, ℕ}
use Rattle.river.specs.declared.card.Card.{Card}
use Rattle.river.specs.declared.card.Nitrification.{Nitrification}
use Rattle.river.specs.Card.{no_optionals, with_take, with_pressure, with_sludge, with_nitrification}
use Rattle.report.specs.Record.{is_nitrified, has_nitrification}
use Rattle.report.specs.Distance.{has_bed, step_units}

-- a reach with a take and a pressure, by its sludge bed and its nitrification
abbrev reach : Option ℕ → Option Nitrification → Card
reach sludge nitrification =
    record {
      outlet = 0;
      temperature = 0;
      k1 = 0;
      k2 = 0;
      volume = 0;
      inflow = 1;
      inflow_bod = 0;
      inflow_oxygen = 0;
      load = 0;
      dam = None;
      optionals = with_take (Some 0) (with_pressure (Some 760) (with_sludge sludge (with_nitrification nitrification no_optionals)));
    }

pub record UnitRows : Type 0 where
  -- neither
  pub plain : step_units (reach None None ∷ reach None None ∷ []) ≡ 100
  -- a bed, also one that takes nothing, at the only reach, the first or the last
  pub bed : step_units (reach (Some 1) None ∷ []) ≡ 150
  pub first : step_units (reach (Some 0) None ∷ reach None None ∷ []) ≡ 150
  pub last : step_units (reach None None ∷ reach (Some 0) None ∷ []) ≡ 150
  -- nitrification, also of zeros, with a bed or none
  pub nitrified : step_units (reach None None ∷ reach None (Some (record { rate = 0; concentration = 0; load = 0 })) ∷ []) ≡ 200
  pub nitrified_bed : step_units (reach None (Some (record { rate = 1; concentration = 2; load = 3 })) ∷ reach (Some 1) None ∷ []) ≡ 200

-- THEOREM: these units, a row each
pub unit_rows : UnitRows
unfolding is_nitrified has_nitrification has_bed step_units
unit_rows = record { plain = refl; bed = refl; first = refl; last = refl; nitrified = refl; nitrified_bed = refl }
