-- `flows::rates::in_force` meets its contract: without factors the cards stay, and otherwise the first of them are corrected.
use mathlib.Core.Path.{◌≡◌, sym, ap, ap₂, ◌∙◌}
use mathlib.Core.List.{List, ◌++◌, map}
use native.Mathlib.Omega.{arith}
use borrow.Author.Rules.{rules}
use lib.ListN.{length, take, length-take}
use Rattle.std.proofs.lemmas.List.{take_all, drop_all, take_at, append-nil}
use Rattle.std.specs.Prelude.{Option, Some}
use Rattle.std.proofs.lemmas.List.Edits.{map_over_more}
use Rattle.river.specs.declared.card.RateFactors.{RateFactors}
use Rattle.river.specs.Card.{card_list}
use Rattle.river.specs.River.{river_of}
use Rattle.flows.specs.Rates.{card_in_force, in_force}
use Rattle.river.proofs.Tests.{mapped_length}
use Rattle.flows.proofs.rates.InForce.{as_given, correctable, next_given}
use Rattle.flows.proofs.rates.in_force.Goals as goal

-- rates in force by factors that are known
by_factors : {f g : Option RateFactors} (cs : List _) → f ≡ g → in_force (river_of g cs) ≡ in_force (river_of f cs)
by_factors cs e = ap (λ (f : Option RateFactors). map (card_in_force f) cs) (sym e)

pub returns-in_default : goal.returns-in_default
returns-in_default c = let cards = card_list c.args.given in sym (as_given cards) ∙ by_factors cards c.in_default.is

pub corrected-requires : goal.corrected-requires
corrected-requires c =
    let f = rw c.in-Some.is at c.requires.0.factors in
    let i = c.loop-card.card-index in
    let cards = card_list c.args.given in
    let next = next_given _ _ i c.loop-card.invariant c.loop-card-test.true in
    (f.0, f.1.0, rw (next, c.from.ensures) (correctable c.requires.0.cards i (rw c.from.ensures at c.loop-card-test.true)))

pub loop-card-preserved : goal.loop-card-preserved
loop-card-preserved c =
    rw c.corrected.ensures (search (rules, map_over_more (card_in_force (Some c.in-Some.per_degree))))

pub returns : goal.returns
returns c =
    let cards = c.args.given in
    let given = take c.from.result cards.at in
    let f = card_in_force (Some c.in-Some.per_degree) in
    let i = c.loop-card.card-index in
    let all : c.loop-card.card-items ≡ map f given =
    c.loop-card.invariant ∙ ap₂ (λ p q. map f p ++ q) (take_all i given c.loop-card-test.false) (drop_all i given c.loop-card-test.false) ∙ append-nil _
    in
    let full : length cards.at ≡ 128 = search (rules, mapped_length) in
    let whole : length c.loop-card.card-items ≡ cards.count =
    c.loop-card.auto.card-items ∙ length-take c.from.result cards.at ∙ rw (full, c.from.ensures) (omega (arith, c.requires.1))
    in
    take_at _ _ _ whole ∙ all ∙ rw c.from.ensures (by_factors (card_list cards) c.in-Some.is)
