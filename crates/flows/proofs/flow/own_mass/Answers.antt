-- `flows::flow::own_mass` meets its contract: what the two sources bring fits.
use mathlib.Core.Path.{ap, ap₂, ◌∙◌}
use Prim.Native.Nat.{◌+◌}
use native.Mathlib.Omega.{arith}
use Rattle.river.specs.declared.source.Demand.TheVariants.{Bod, Nitrogenous}
use Rattle.river.specs.Source.{source_mass}
use Rattle.river.proofs.source.Ranges.{source_mass_small}
use Rattle.flows.proofs.flow.own_mass.Goals as goal

pub source_mass-requires : goal.source_mass-requires
source_mass-requires c = rw c.source_of.ensures (c.requires.each Bod)

pub source_mass-requires-2 : goal.source_mass-requires-2
source_mass-requires-2 c = rw c.source_of-2.ensures (c.requires.each Nitrogenous)

pub overflow_add-result : goal.overflow_add-result
overflow_add-result c =
    let bod = source_mass_small (rw (← c.source_of.ensures) at (c.requires.each Bod)) in
    let nitrogenous = source_mass_small (rw (← c.source_of-2.ensures) at (c.requires.each Nitrogenous)) in
    omega (arith, c.source_mass.ensures, c.source_mass-2.ensures, bod, nitrogenous)

pub returns : goal.returns
returns c =
    ap₂ ◌+◌ (c.source_mass.ensures ∙ ap source_mass c.source_of.ensures) (c.source_mass-2.ensures ∙ ap source_mass c.source_of-2.ensures)
