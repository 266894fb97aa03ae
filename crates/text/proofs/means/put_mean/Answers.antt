-- `text::means::put_mean` meets its contract: a line of two numbers. Assumes nothing.
use mathlib.Core.Path.{ap₂}
use mathlib.Core.List.{[], ◌∷◌}
use Prim.Native.Nat.{ℕ}
use lib.IntN.{ℤ}
use Rattle.flows.specs.held.Stored.{oxygen_of}
use Rattle.text.specs.Text.{signed, line}
use Rattle.text.specs.MeanText.{mean_line}
use Rattle.text.proofs.put.Puts.{reworded}
use Rattle.text.proofs.means.put_mean.Goals as goal

pub returns : goal.returns
unfolding mean_line
returns c =
    reworded (ap₂ (λ (z : ℤ) (m : ℕ). line (signed z ∷ signed (oxygen_of m) ∷ [])) c.plain.ensures c.from.ensures) c.put_line.ensures
