-- `fixed::quotient` meets its contract: after each chunk the division stands at eleven more bits. Assumes nothing.
use Rattle.std.proofs.Common.{sym, ℕ, ◌≡◌, ◌+◌, ◌*◌, ◌^◌, ◌≤◌, ap, ◌∙◌, zero-le, arith}
use Rattle.std.proofs.Math.Pow.{pow_pos, pow_mono}
use Rattle.std.proofs.lemmas.Nat.{pow-add}
use native.Mathlib.Nat.{lt_of_le_of_lt}
use Rattle.decay.specs.Fixed.{quotient}
use Rattle.decay.proofs.fixed.Digits.{divided_next, divided_digits, divided_rest}
use Rattle.decay.proofs.fixed.quotient.Goals as goal

more_bits : (c : ℕ) → 2 ^ (11 * c) * 2048 ≡ 2 ^ (11 * (c + 1))
more_bits c = sym (pow-add 2 (11 * c) 11) ∙ ap (λ (n : ℕ). 2 ^ n) {x = 11 * c + 11} {y = 11 * (c + 1)} (omega arith)

pub chunk-part-requires : goal.chunk-part-requires
chunk-part-requires c =
    let u = c.loop.invariant in
    let h = c.requires.0 in
    let few : 2 ^ (11 * c.loop.counter) ≤ 2 ^ 33 = pow_mono {j = 33} (omega arith) in
    (omega (arith, few, divided_digits h (pow_pos (11 * c.loop.counter)) u.1), divided_rest (lt_of_le_of_lt zero-le h) u.1, c.requires.1)

pub loop-preserved : goal.loop-preserved
loop-preserved c =
    let u = c.loop.invariant in
    (omega arith, rw (c.chunk-part.ensures, ← more_bits c.loop.counter) (divided_next (lt_of_le_of_lt zero-le c.requires.0) u.1))

pub returns : goal.returns
unfolding quotient
returns c =
    let last : c.loop.counter ≡ 4 = omega arith in
    (rw last at c.loop.invariant.1).digits_is
