-- `flows::rates::in_force` meets its contract: without factors the cards stay, and otherwise the first of them are corrected.
use mathlib.Core.Path.{◌≡◌}
use mathlib.Core.List.{◌++◌, map}
use lib.ListN.{take, drop}
use Rattle.std.specs.Prelude.{Some}
use Rattle.flows.specs.Rates.{card_in_force}
use Rattle.flows.proofs.rates.in_force.Given as goal

abbrev pub invariant-loop-card : goal.invariant-loop-card
invariant-loop-card l =
    let given = l.initial.card-items in
    let i = l.card-index in
    l.card-items ≡ map (card_in_force (Some l.per_degree)) (take i given) ++ drop i given
