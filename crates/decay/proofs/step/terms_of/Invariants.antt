-- `step::terms_of` meets its contract: each turn of the loop makes one more term of the definition. Assumes nothing.
use Rattle.std.proofs.Common.{◌≡◌, ℕ, ◌-◌, ◌≤◌, ◌<◌, List, get_or, length}
use Rattle.decay.specs.Series.{terms_at, term_at, most_terms}
use Rattle.decay.specs.declared.step.Terms.{Terms}
use Rattle.decay.proofs.step.terms_of.Given as goal

-- n terms are made, the last of them in its two parts
pub record Made (y z : ℕ) (terms : Terms) (all : List ℕ) (n : ℕ) : Type 0 where
  pub terms_are : terms ≡ terms_at y z (n - 1)
  pub each : (i : ℕ) → i < n → get_or all i 0 ≡ term_at y z i
  pub leading : 1 ≤ n
  pub end : n ≤ most_terms
  pub room : length all ≡ most_terms

abbrev pub invariant-loop-i : goal.invariant-loop-i
invariant-loop-i l = Made l.e.y l.e.z l.terms l.all l.i
