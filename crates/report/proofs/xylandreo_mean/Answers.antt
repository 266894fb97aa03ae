-- `report::xylandreo_mean` meets its contract, by that of the call below it. Assumes nothing.
use mathlib.Core.Path.{refl, ap, ◌∙◌}
use native.Mathlib.Omega.{arith}
use lib.IntN.{ℤ}
use mir.Facts.{to_z-of_z}
use mir.Syntax.{w32}
use mir.Val.{to_z, of_z}
use Rattle.report.specs.Call.{result_of}
use Rattle.flows.proofs.head.Units.{oxygen_fits}
use Rattle.report.proofs.Means.{means_refusal, means_river}
use Rattle.report.proofs.xylandreo_mean.Goals as goal

pub returns-in-Ok : goal.returns-in-Ok
returns-in-Ok c =
    means_river _ _ _ (record { below = λ k. omega (arith, c.type_inv.file k) }) _ _ _ _ c.in-Ok.ensures
    (ap (λ (z : ℤ). to_z w32 (of_z w32 z)) c.signed.ensures ∙ to_z-of_z (oxygen_fits _ (omega arith))) refl

pub returns-in-Err : goal.returns-in-Err
unfolding result_of
returns-in-Err c = means_refusal _ _ _ (record { below = λ k. omega (arith, c.type_inv.file k) }) _ _ _ c.in-Err.ensures c.from.ensures
