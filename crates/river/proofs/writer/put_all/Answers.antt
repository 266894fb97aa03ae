-- `river::writer::put_all` meets its contract: the opening, and then card after card.
-- Assumes nothing.
use Rattle.std.proofs.Common.{arith, rules}
use Rattle.river.specs.River.{river_of}
use Rattle.river.proofs.bytes.Puts.{put_at_start, put_long}
use Rattle.river.proofs.write.Passes.{length-encode, cards_more, cards_room, cards_all}
use Rattle.river.proofs.writer.Lent.{from_on}
use Rattle.river.proofs.writer.put_all.Goals as goal

pub put_opening-requires : goal.put_opening-requires
put_opening-requires c = omega (arith, length-encode (river_of c.args.factors c.args.cards.now))

pub put_card-requires : goal.put_card-requires
put_card-requires c =
    let here = from_on c.args.cards.now c.loop-card.card-index _ c.loop-card-test.true in
    cards_room (river_of c.args.factors c.args.cards.now) _ c.loop-card.invariant here (omega arith) (omega (arith, put_long c.put_opening.ensures.put))

pub loop-card-preserved : goal.loop-card-preserved
loop-card-preserved c =
    let here = from_on c.args.cards.now c.loop-card.card-index _ c.loop-card-test.true in
    cards_more _ _ c.loop-card.invariant here c.put_card.ensures

pub returns : goal.returns
returns c =
    let all = cards_all (river_of c.args.factors c.args.cards.now) _ c.put_opening.ensures c.loop-card.invariant c.loop-card-test.false in
    let file = put_at_start all.put c.requires.room in
    let same = all.same in
    search (rules, file, same)
