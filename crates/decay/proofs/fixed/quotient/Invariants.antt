-- `fixed::quotient` meets its contract: after each chunk the division stands at eleven more bits. Assumes nothing.
use Rattle.std.proofs.Common.{◌≤◌, ◌*◌, ◌^◌}
use Rattle.decay.proofs.fixed.Digits.{Divided}
use Rattle.decay.proofs.fixed.quotient.Given as goal

abbrev pub invariant-loop : goal.invariant-loop
invariant-loop l = (l.counter ≤ 4) × Divided l.n l.d (2 ^ (11 * l.counter)) l.part
