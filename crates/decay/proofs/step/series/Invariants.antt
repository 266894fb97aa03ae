-- `step::series` meets its contract: after each turn of the loop one more term of the definition is summed. Assumes nothing.
use Rattle.std.proofs.Common.{◌≡◌, ℕ, ◌-◌, ◌≤◌}
use Rattle.decay.specs.Series.{terms_at, sum_of, most_terms, count_from}
use Rattle.decay.specs.declared.step.Terms.{Terms}
use Rattle.decay.proofs.step.series.Given as goal

-- n terms are summed, the last of them in its two parts, and the series has the terms that are counted from there on
pub record Summing (y z : ℕ) (terms : Terms) (sum n : ℕ) : Type 0 where
  pub terms_are : terms ≡ terms_at y z (n - 1)
  pub sum_is : sum ≡ sum_of y z n
  pub leading : 1 ≤ n
  pub end : n ≤ most_terms
  pub counts_on : count_from y z n (most_terms - n) ≡ count_from y z 1 (most_terms - 1)

abbrev pub invariant-loop-i : goal.invariant-loop-i
invariant-loop-i l = Summing l.fn.e.y l.fn.e.z l.terms l.sum l.i
