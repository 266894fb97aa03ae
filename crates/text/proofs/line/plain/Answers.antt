-- `text::line::plain` meets its contract. Assumes nothing.
use mathlib.Core.Path.{ap, ◌∙◌}
use Prim.Native.Nat.{ℕ, ◌+◌}
use Rattle.flows.specs.held.Stored.{oxygen_of}
use Rattle.flows.proofs.head.Stored.{saturated_stored}
use Rattle.text.proofs.line.plain.Goals as goal

pub returns : goal.returns
returns c = ap (λ (n : ℕ). oxygen_of (2147483648 + n)) c.from.ensures ∙ saturated_stored c.args.n
