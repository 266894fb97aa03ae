-- `river::file::read_file` meets its contract: what the header, the rate factors and each reach answer decides how the reading goes on.
-- Assumes nothing.
use mathlib.Core.Path.{◌≡◌, sym, ◌∙◌}
use native.Mathlib.Omega.{arith}
use borrow.Author.Rules.{rules}
use Rattle.river.specs.Refusal.{after}
use Rattle.river.proofs.read.Steps.{header_refuses, file_rest, factors_refuse}
use Rattle.river.proofs.reader.Reaches.{begun, one_more, stopped, too_long, complete, not_read}
use Rattle.river.proofs.file.read_file.Goals as goal

pub returns-in_err-count : goal.returns-in_err-count
returns-in_err-count c = not_read c.args.file.now (header_refuses c.args.file.now (sym c.read_header.ensures ∙ c.in_err-count.was)) (search rules)

pub returns-in_err-factors : goal.returns-in_err-factors
returns-in_err-factors c =
    let opened = file_rest c.args.file.now (sym c.read_header.ensures ∙ c.in_ok-count.was) c.behind.ensures in
    not_read c.args.file.now (opened ∙ factors_refuse _ _ (sym c.read_factors.ensures ∙ c.in_err-factors.was)) (search rules)

pub loop-i-init : goal.loop-i-init
loop-i-init c =
    record {
      file = search rules;
      goes = rw c.moved-reader.ensures.1 (begun (sym c.read_header.ensures ∙ c.in_ok-count.was) c.behind.ensures (sym c.read_factors.ensures ∙ c.in_ok-factors.was) c.factors_size.ensures (search rules));
    }

pub returns-in_err-reach : goal.returns-in_err-reach
returns-in_err-reach c =
    let reach = rw (c.loop-i.invariant.file, c.in_err-reach.was) at c.next.ensures in
    not_read c.args.file.now (stopped c.loop-i.invariant.goes c.loop-i-test.true reach) (search rules)

pub loop-i-preserved : goal.loop-i-preserved
loop-i-preserved c =
    let reach = rw (c.loop-i.invariant.file, c.in_ok-reach.was) at c.next.ensures in
    record {
      file = search rules;
      goes = rw (c.moved-reader-in-loop-i.ensures.1, c.from.ensures) (one_more c.loop-i.invariant.goes c.loop-i-test.true reach);
    }

pub returns-then-more : goal.returns-then-more
returns-then-more c = not_read c.args.file.now (too_long c.loop-i.invariant.goes c.loop-i-test.false c.if-more.true) (search rules)

pub returns : goal.returns
unfolding after
returns c =
    let last : c.loop-i.i ≡ c.in_ok-count.count = omega arith in
    record {
      answer = sym (complete c.loop-i.invariant.goes c.loop-i-test.false c.if-more.false ∙ rw last);
      few = c.loop-i.invariant.goes.few;
    }
