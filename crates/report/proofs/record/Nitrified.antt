-- Whether a river has nitrification, reach by reach.
-- Assumes nothing.
use mathlib.Core.Path.{◌≡◌, refl, ap}
use mathlib.Core.Bool.{Bool, true, false, ◌||◌}
use mathlib.Core.List.{List, [], ◌∷◌}
use Prim.Native.Nat.{ℕ, zero, suc, ◌<◌}
use native.Mathlib.Nat.{not-suc-le-zero, le_of_suc-le-suc}
use lib.ListN.{length, get_or}
use Rattle.std.specs.Prelude.{is_some}
use Rattle.std.specs.List.{list_any}
use Rattle.river.specs.declared.card.Card.{Card}
use Rattle.river.specs.Card.{blank}
use Rattle.river.proofs.Answers.{clash}
use Rattle.report.specs.Record.{is_nitrified, has_nitrification}

neither : (a b : Bool) → (a || b) ≡ false → (a ≡ false) × (b ≡ false)
neither false b e = (refl, e)
neither true b e = clash (cc)

-- a river without nitrification has it at no reach
pub at_no_reach : (cards : List Card) → has_nitrification cards ≡ false → (i : ℕ) → i < length cards → is_nitrified (get_or cards i blank) ≡ false
unfolding has_nitrification
at_no_reach [] e i l = absurd (not-suc-le-zero l)
at_no_reach (card ∷ cards) e zero l = (neither (is_nitrified card) (has_nitrification cards) e).0
at_no_reach (card ∷ cards) e (suc i) l = at_no_reach cards (neither (is_nitrified card) (has_nitrification cards) e).1 i (le_of_suc-le-suc l)

-- it has nitrification if any of its cards has
pub any_nitrified : (cards : List Card) → list_any (λ card. is_some card.optionals.nitrification) cards ≡ has_nitrification cards
unfolding has_nitrification is_nitrified
any_nitrified [] = refl
any_nitrified (card ∷ cards) = ap (λ (b : Bool). is_some card.optionals.nitrification || b) (any_nitrified cards)
