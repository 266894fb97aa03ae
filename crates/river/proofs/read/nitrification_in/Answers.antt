-- `river::read::nitrification_in` meets its contract: a record in range ends in zeros.
-- Assumes nothing.
use Prim.Native.Nat.{ℕ}
use mathlib.Core.List.{List}
use mathlib.Core.Path.{◌≡◌, sym, ◌∙◌}
use native.Mathlib.Omega.{arith}
use Rattle.std.specs.Prelude.{None}
use Rattle.std.proofs.lemmas.Bool.{false_from_ne_true}
use Rattle.river.specs.Bytes.{four_at}
use Rattle.river.specs.Fields.{numbers_at, all_within}
use Rattle.river.specs.Records.{NT}
use Rattle.river.specs.held.Optionals.{decoded}
use Rattle.river.proofs.card.Fields.{true_all_within}
use Rattle.river.proofs.read.nitrification_in.Goals as goal

no_zeros : (s : List ℕ) → (four_at s 12 ≡ 0 → ⊥) → decoded NT s ≡ None
no_zeros s h =
    rw (false_from_ne_true (all_within NT.fields (numbers_at NT.fields s 2)) (λ e. let all = true_all_within NT.fields (numbers_at NT.fields s 2) e in h (omega (arith, all.1.1.1.0.most))))

pub returns-then-four_at-ne0 : goal.returns-then-four_at-ne0
returns-then-four_at-ne0 c = sym (no_zeros c.args.bytes.now (λ e. c.if-four_at-ne0.true (c.four_at.ensures ∙ e)))
