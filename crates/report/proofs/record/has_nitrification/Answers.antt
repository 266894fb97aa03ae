-- `report::record::has_nitrification` meets its contract: the reaches counted are those of the river, and `any` goes over their cards. Assumes nothing.
use mathlib.Core.Path.{◌≡◌, ◌∙◌, ap, sym}
use Prim.Native.Nat.{ℕ, min}
use native.Mathlib.Omega.{arith}
use Rattle.std.proofs.Common.{is_some, take, length, rules, tests}
use Rattle.std.proofs.lemmas.List.{take_min}
use Rattle.std.proofs.lemmas.Iterator.{YieldsList-from_slice}
use Rattle.std.proofs.lemmas.Iterator.Search.{any_from_yields_List}
use Rattle.river.specs.declared.card.Cards.{Cards}
use Rattle.river.specs.Card.{card_list}
use Rattle.report.specs.Record.{has_nitrification}
use Rattle.report.proofs.record.Nitrified.{any_nitrified}
use Rattle.report.proofs.record.has_nitrification.Goals as goal

-- the cards of the reaches counted
counted_cards : (cs : Cards) {count : ℕ} → length cs.at ≡ 128 → count ≡ min cs.count 128 → take count cs.at ≡ card_list cs
counted_cards cs full e = ap (λ (n : ℕ). take n cs.at) (e ∙ ap (min cs.count) (sym full)) ∙ take_min cs.count cs.at

pub returns : goal.returns
returns c =
    let counted = counted_cards c.args.cards (omega arith) c.reach_count.ensures in
    any_from_yields_List (λ card. is_some card.optionals.nitrification) _ _ _ c.any.ensures.ran (YieldsList-from_slice (take c.reach_count.result c.args.cards.at) cc) (λ x b q k. search (rules, tests))
    ∙ any_nitrified (take c.reach_count.result c.args.cards.at)
    ∙ ap has_nitrification counted
