-- `report::course::Start::oxygen_with` meets its contract: no difference goes below zero, and the result holds the oxygen of the definition.
-- Assumes nothing.
use Prim.Native.Nat.{◌-◌, ◌+◌}
use native.Mathlib.Omega.{arith}
use Rattle.decay.specs.Fixed.{one}
use Rattle.decay.proofs.fixed.Digits.{share_below}
use Rattle.flows.specs.held.Stored.{stored_zero}
use Rattle.report.proofs.profile.Oxygen.{turned_below, holds_under, holds_over}
use Rattle.report.proofs.course.Start.oxygen_with.Goals as goal

pub overflow_sub-after_decay : goal.overflow_sub-after_decay
overflow_sub-after_decay c =
    let a = c.args in
    omega (arith, turned_below a.f a.self c.requires, a.self.range.demands)

pub overflow_sub-result : goal.overflow_sub-result
overflow_sub-result c =
    let a = c.args in
    omega (
      arith,
      turned_below a.f a.self c.requires,
      share_below a.f.kept (a.self.saturation + stored_zero - a.self.oxygen) c.requires.deficit,
      a.self.range.low,
    )

pub overflow_sub-result-else-self-saturated : goal.overflow_sub-result-else-self-saturated
overflow_sub-result-else-self-saturated c =
    let a = c.args in
    omega (
      arith,
      share_below (one - a.f.kept) (a.self.oxygen - (a.self.saturation + stored_zero)) (omega arith),
    )

pub returns-then-self-saturated : goal.returns-then-self-saturated
returns-then-self-saturated c =
    let held = holds_under c.args.f c.args.self c.requires _ _ c.product.ensures c.if-self-saturated.true c.product-then-self-saturated.ensures in
    record { stored = held.0; leaves = held.1 }

pub returns-else-self-saturated : goal.returns-else-self-saturated
returns-else-self-saturated c =
    let held = holds_over c.args.f c.args.self c.requires _ _ c.product.ensures c.if-self-saturated.false c.product-else-self-saturated.ensures in
    record { stored = held.0; leaves = held.1 }
