-- `river::writer::write_cards` meets its contract: a count above the array's length gets 3.
-- Assumes nothing.
use Rattle.std.proofs.Common.{◌≡◌, ◌<◌, length, rules, arith}
use Rattle.river.specs.Card.{card_list}
use Rattle.river.specs.River.{river_of}
use Rattle.river.proofs.write.Writing.{refuses_many}
use Rattle.river.proofs.writer.write_cards.Goals as goal

pub returns-in_default : goal.returns-in_default
returns-in_default c =
    let a = c.args in
    let full : length a.cards.at ≡ 128 = search rules in
    let many : 128 < a.cards.count = omega (arith, c.in_default.ensures.lookup) in
    rw c.at.ensures (refuses_many a.cards.count (river_of a.factors (card_list a.cards)) a.out.now many)
