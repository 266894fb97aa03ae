-- `flows::rates::scaled` meets its contract: after some degrees the rate is that at so many.
use mathlib.Core.Path.{◌≡◌, refl, ap, ◌∙◌}
use Prim.Native.Nat.{ℕ, ◌*◌, ◌/◌, ◌≤◌}
use native.Mathlib.Nat.{mul-le-mul}
use native.Mathlib.Numerals.{add-one}
use native.Mathlib.Omega.{arith}
use Rattle.flows.specs.Rates.{scaled}
use Rattle.flows.proofs.rates.Correction.{scaled_small}
use Rattle.flows.proofs.rates.scaled.Goals as goal

pub loop-init : goal.loop-init
unfolding scaled
loop-init c = refl

pub overflow_mul-rate : goal.overflow_mul-rate
overflow_mul-rate c =
    let a = c.args in
    let r = c.requires in
    let few : c.loop.counter ≤ 19 = omega (arith, c.loop-test.true, r.degrees) in
    let small : c.loop.rate ≤ 10_485_760_000_000_000 =
    rw c.loop.invariant (scaled_small a.numerator a.denominator c.loop.counter a.rate r.numerator r.denominator few r.rate)
    in
    omega (arith, mul-le-mul small r.numerator)

pub loop-preserved : goal.loop-preserved
unfolding scaled
loop-preserved c =
    let a = c.args in
    rw add-one (ap (λ (x : ℕ). x * a.numerator / a.denominator) c.loop.invariant)

pub returns : goal.returns
returns c =
    let a = c.args in
    let e : c.loop.counter ≡ a.degrees = omega (arith, c.loop-test.false, c.loop.auto.counter-end) in
    c.loop.invariant ∙ ap (λ (d : ℕ). scaled a.numerator a.denominator d a.rate) e
