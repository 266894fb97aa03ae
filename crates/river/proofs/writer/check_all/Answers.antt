-- `river::writer::check_all` meets its contract: the tests before the cards, and then card after card.
-- Assumes nothing.
use Rattle.std.proofs.Common.{rules, sym}
use Rattle.river.specs.River.{river_of}
use Rattle.river.proofs.writer.Lent.{from_on, refuses_count, refuses_factors, checks_none, refuses_card, checks_more, checks_all}
use Rattle.river.proofs.writer.check_all.Goals as goal

pub returns-then-not-count_ok : goal.returns-then-not-count_ok
returns-then-not-count_ok c =
    rw c.at.ensures (refuses_count (river_of c.args.factors c.args.cards.now) (sym c.if-not-count_ok.ensures))

pub returns-then-not-factors_in_range : goal.returns-then-not-factors_in_range
returns-then-not-factors_in_range c =
    rw c.at-then-not-factors_in_range.ensures
    (refuses_factors (river_of c.args.factors c.args.cards.now) (sym c.if-not-count_ok.ensures)
    (sym c.if-not-factors_in_range.ensures))

pub loop-i-init : goal.loop-i-init
loop-i-init c =
    rw c.factors_size-length.ensures
    (checks_none (river_of c.args.factors c.args.cards.now) (sym c.if-not-count_ok.ensures)
    (sym c.if-not-factors_in_range.ensures))

pub returns-in_err-check_card : goal.returns-in_err-check_card
returns-in_err-check_card c =
    let here = from_on c.args.cards.now c.loop-i.i _ c.loop-i-test.true in
    let stop = refuses_card _ c.loop-i.invariant here (sym c.in_err-check_card.ensures) in
    search (rules, stop)

pub loop-i-preserved : goal.loop-i-preserved
loop-i-preserved c =
    let here = from_on c.args.cards.now c.loop-i.i _ c.loop-i-test.true in
    rw c.size_of-length.ensures (checks_more _ c.loop-i.invariant c.loop-i-test.true here (sym c.in_ok-check_card.ensures))

pub returns : goal.returns
returns c = checks_all _ c.loop-i.invariant c.loop-i-test.false
