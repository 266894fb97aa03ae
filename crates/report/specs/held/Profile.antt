-- The profile of a reach as the program holds it. Oxygen is stored as its units plus 2^31, so that no number is below zero.
use Rattle.std.specs.Prelude.{◌≡◌, Bool, false, cond, ℕ, ◌*◌, ◌/◌, ltb, ℤ, pos, ◌-ℤ◌}
use Rattle.decay.specs.Fixed.{product}
use Rattle.decay.specs.held.Factors.{demand_from, head_factors, factors_at}
use Rattle.decay.specs.declared.factors.DemandFactors.{DemandFactors}
use Rattle.decay.specs.declared.factors.Factors.{Factors}
use Rattle.flows.specs.held.Stored.{oxygen_of, Stores}
use Rattle.report.specs.held.Bed.{no_bed, loss_with}
use Rattle.report.specs.Program.{foot, lowest}
use Rattle.report.specs.held.Digits.{unit_parts, oxygen_with}
use Rattle.report.specs.declared.bed.Bed.{Bed}
use Rattle.report.specs.declared.course.Course.{Course}
use Rattle.report.specs.declared.course.Start.{Start}
use Rattle.report.specs.declared.profile.Walk.{Walk}
use Rattle.report.specs.declared.profile.Profile.{Profile}

-- the parts with which nitrogenous BOD starts
abbrev pub start_parts : Start → ℕ
start_parts start = unit_parts * start.nitrogenous

-- all of them are left
abbrev pub whole_demand : Start → DemandFactors
whole_demand start = record { left = start_parts start; turned = 0 }

-- a walk stands at the head
pub record Begun (start : Start) (walk : Walk) : Type 0 where
  pub factors : walk.factors ≡ head_factors
  pub nitrogenous : walk.nitrogenous ≡ whole_demand start
  pub instant : walk.instant ≡ 0
  pub oxygen : Stores walk.lowest (oxygen_with walk.factors start.saturation start.bod (oxygen_of start.oxygen))

-- oxygen where these factors of BOD and these parts of nitrogenous BOD hold and no bed takes any
abbrev pub oxygen_with_parts : Start → Factors → DemandFactors → ℤ
oxygen_with_parts start f d = oxygen_with f start.saturation start.bod (oxygen_of start.oxygen) -ℤ pos (d.turned / unit_parts)

-- and at instant m over a bed
abbrev pub oxygen_over : Start → Bed → Factors → DemandFactors → ℕ → ℤ
oxygen_over start bed f d m = oxygen_with_parts start f d -ℤ pos (loss_with f bed m)

-- the parts of nitrogenous BOD at instant m
abbrev pub parts_at : Course → ℕ → DemandFactors
parts_at course m = demand_from (start_parts course.start) course.nitrogenous.step m

-- oxygen at instant m, by the steps of the two demands
abbrev pub oxygen_after : Course → ℕ → ℤ
oxygen_after course m = oxygen_over course.start course.bed (factors_at course.bod.step m) (parts_at course m) m

-- a walk without a bed, or without nitrogenous BOD, is only for a course whose bed takes nothing, or which loses nothing of that
pub record Covers (over_bed both : Bool) (course : Course) : Type 0 where
  pub bed : over_bed ≡ false → course.bed ≡ no_bed
  pub nitrogenous : both ≡ false → course.nitrogenous.step.lost ≡ 0

-- and oxygen at an instant only for such a bed, or where nothing of that has turned
pub record CoversAt (over_bed both : Bool) (here : Bed) (d : DemandFactors) : Type 0 where
  pub bed : over_bed ≡ false → here ≡ no_bed
  pub nitrogenous : both ≡ false → d.turned ≡ 0

-- a walk stands at instant m: it has the factors of BOD and the parts of nitrogenous BOD there, and the lowest oxygen of the instants up to it
pub record WalkedTo (course : Course) (m : ℕ) (walk : Walk) : Type 0 where
  pub factors : walk.factors ≡ factors_at course.bod.step m
  pub nitrogenous : walk.nitrogenous ≡ parts_at course m
  pub instant : walk.instant ≡ (lowest (oxygen_after course) m).instant
  pub oxygen : Stores walk.lowest (lowest (oxygen_after course) m).oxygen

-- the walk with instant m and its stored oxygen seen: they take the place of the lowest only if oxygen is lower there
abbrev pub seen_at : Walk → Factors → DemandFactors → (m oxygen : ℕ) → Walk
seen_at walk f d m oxygen =
    record {
      factors = f;
      nitrogenous = d;
      instant = cond (ltb oxygen walk.lowest) m walk.instant;
      lowest = cond (ltb oxygen walk.lowest) oxygen walk.lowest;
    }

-- the demands and oxygen at the foot, and the critical point
pub record Profiled (course : Course) (profile : Profile) : Type 0 where
  pub foot_bod : profile.foot_bod ≡ product (factors_at course.bod.step foot).left course.start.bod
  pub foot_nitrogenous : profile.foot_nitrogenous ≡ (parts_at course foot).left / unit_parts
  pub foot_oxygen : Stores profile.foot_oxygen (oxygen_after course foot)
  pub critical_instant : profile.critical_instant ≡ (lowest (oxygen_after course) foot).instant
  pub critical_oxygen : Stores profile.critical_oxygen (lowest (oxygen_after course) foot).oxygen
