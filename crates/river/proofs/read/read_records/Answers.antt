-- `river::read::read_records` meets its contract: the records are read one by one, and each answer decides what comes next.
-- Each answer repeats the chain up to its record: the records of Goals for two records share no common one to state it over.
-- Assumes nothing.
use mathlib.Core.Path.{sym, ◌∙◌}
use native.Mathlib.Nat.{zero-add}
use borrow.Author.Rules.{rules}
use Rattle.river.specs.Card.{reach_bytes, optional}
use Rattle.river.specs.Refusal.{accepted, after}
use Rattle.river.specs.held.Reader.{card_with}
use Rattle.river.proofs.read.Places.{all_due, next_due, stops, none_due}
use Rattle.river.proofs.read.Steps.{refuses}
use Rattle.river.proofs.read.read_records.Goals as goal

pub returns-in_err-dam : goal.returns-in_err-dam
returns-in_err-dam c =
    let a = c.args in
    let due = all_due optional a.reach a.s.now reach_bytes (λ vs. accepted (card_with a.plain vs)) in
    refuses (stops c.read_dam.ensures c.in_err-dam.was due) (search rules)

pub returns-in_err-take : goal.returns-in_err-take
returns-in_err-take c =
    let a = c.args in
    let due = all_due optional a.reach a.s.now reach_bytes (λ vs. accepted (card_with a.plain vs)) in
    let due = next_due c.read_dam.ensures c.in_ok-dam.was due in
    refuses (stops c.read_amount.ensures c.in_err-take.was due) (search rules)

pub returns-in_err-pressure : goal.returns-in_err-pressure
returns-in_err-pressure c =
    let a = c.args in
    let due = all_due optional a.reach a.s.now reach_bytes (λ vs. accepted (card_with a.plain vs)) in
    let due = next_due c.read_dam.ensures c.in_ok-dam.was due in
    let due = next_due c.read_amount.ensures c.in_ok-take.was due in
    refuses (stops c.read_amount-2.ensures c.in_err-pressure.was due) (search rules)

pub returns-in_err-sludge : goal.returns-in_err-sludge
returns-in_err-sludge c =
    let a = c.args in
    let due = all_due optional a.reach a.s.now reach_bytes (λ vs. accepted (card_with a.plain vs)) in
    let due = next_due c.read_dam.ensures c.in_ok-dam.was due in
    let due = next_due c.read_amount.ensures c.in_ok-take.was due in
    let due = next_due c.read_amount-2.ensures c.in_ok-pressure.was due in
    refuses (stops c.read_amount-3.ensures c.in_err-sludge.was due) (search rules)

pub returns-in_err-nitrification : goal.returns-in_err-nitrification
returns-in_err-nitrification c =
    let a = c.args in
    let due = all_due optional a.reach a.s.now reach_bytes (λ vs. accepted (card_with a.plain vs)) in
    let due = next_due c.read_dam.ensures c.in_ok-dam.was due in
    let due = next_due c.read_amount.ensures c.in_ok-take.was due in
    let due = next_due c.read_amount-2.ensures c.in_ok-pressure.was due in
    let due = next_due c.read_amount-3.ensures c.in_ok-sludge.was due in
    refuses (stops c.read_nitrification.ensures c.in_err-nitrification.was due) (search rules)

pub returns : goal.returns
unfolding after
returns c =
    let a = c.args in
    let due = all_due optional a.reach a.s.now reach_bytes (λ vs. accepted (card_with a.plain vs)) in
    let due = next_due c.read_dam.ensures c.in_ok-dam.was due in
    let due = next_due c.read_amount.ensures c.in_ok-take.was due in
    let due = next_due c.read_amount-2.ensures c.in_ok-pressure.was due in
    let due = next_due c.read_amount-3.ensures c.in_ok-sludge.was due in
    let due = next_due c.read_nitrification.ensures c.in_ok-nitrification.was due in
    let end = none_due due in
    record { answer = sym end.0; place = end.1 ∙ sym (zero-add _) }
