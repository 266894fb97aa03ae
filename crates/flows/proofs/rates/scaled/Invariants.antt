-- `flows::rates::scaled` meets its contract: after some degrees the rate is that at so many.
use mathlib.Core.Path.{◌≡◌}
use Rattle.flows.specs.Rates.{scaled}
use Rattle.flows.proofs.rates.scaled.Given as goal

abbrev pub invariant-loop : goal.invariant-loop
invariant-loop l = l.rate ≡ scaled l.numerator l.denominator l.counter l.fn.rate
