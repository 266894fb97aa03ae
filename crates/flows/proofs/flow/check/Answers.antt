-- `flows::flow::check` meets its contract: the answers of its groups join, and where 8 has passed the flow is small enough for the rest.
use native.Mathlib.Omega.{arith}
use Rattle.flows.specs.Flow.{load_rule, take_rule, range_rule, bed_rule, checks_of}
use Rattle.flows.proofs.flow.Groups.{flow_rules_ask, take_rule_asks, rates_decided, decided, stops, leaves}
use Rattle.flows.proofs.flow.check.Goals as goal

pub returns-in_err-flow_rules : goal.returns-in_err-flow_rules
unfolding checks_of
returns-in_err-flow_rules c = stops _ c.in_err-flow_rules.ensures c.from_residual.ensures.1

pub overflow_mul-flow : goal.overflow_mul-flow
overflow_mul-flow c = omega (arith, (decided c.in_ok-flow_rules.ensures (flow_rules_ask _ _ _ _ _)).1.0)

pub returns-in_err-need : goal.returns-in_err-need
unfolding checks_of load_rule
returns-in_err-need c =
    leaves c.in_ok-flow_rules.ensures (stops _ c.in_err-need.ensures c.from_residual-in_err-need.ensures.1)

pub returns-in_err-need-2 : goal.returns-in_err-need-2
unfolding checks_of load_rule take_rule
returns-in_err-need-2 c =
    leaves c.in_ok-flow_rules.ensures
    (leaves c.in_ok-need.ensures
    (stops _ (rw c.take_of-take.ensures at c.in_err-need-2.ensures) c.from_residual-in_err-need-2.ensures.1))

pub returns-in_err-need-3 : goal.returns-in_err-need-3
unfolding checks_of load_rule take_rule range_rule
returns-in_err-need-3 c =
    leaves c.in_ok-flow_rules.ensures
    (leaves c.in_ok-need.ensures
    (leaves (rw c.take_of-take.ensures at c.in_ok-need-2.ensures)
    (stops _ (rw c.rates_in_range.ensures at c.in_err-need-3.ensures) c.from_residual-in_err-need-3.ensures.1)))

pub overflow_sub-remaining : goal.overflow_sub-remaining
unfolding take_rule
overflow_sub-remaining c = omega (arith, decided c.in_ok-need-2.ensures (take_rule_asks _ _ _))

pub overflow_cast-remaining : goal.overflow_cast-remaining
overflow_cast-remaining c = omega (arith, (decided c.in_ok-flow_rules.ensures (flow_rules_ask _ _ _ _ _)).1.0)

pub returns-in_err-need-4 : goal.returns-in_err-need-4
unfolding checks_of load_rule take_rule range_rule
returns-in_err-need-4 c =
    leaves c.in_ok-flow_rules.ensures
    (leaves c.in_ok-need.ensures
    (leaves (rw c.take_of-take.ensures at c.in_ok-need-2.ensures)
    (leaves (rw c.rates_in_range.ensures at c.in_ok-need-3.ensures)
    (stops _ (rates_decided _ _ _ (rw (c.rates_fit.ensures, c.take_of-take.ensures) at c.in_err-need-4.ensures)) c.from_residual-in_err-need-4.ensures.1))))

pub returns : goal.returns
unfolding checks_of load_rule take_rule range_rule bed_rule
returns c =
    leaves c.in_ok-flow_rules.ensures
    (leaves c.in_ok-need.ensures
    (leaves (rw c.take_of-take.ensures at c.in_ok-need-2.ensures)
    (leaves (rw c.rates_in_range.ensures at c.in_ok-need-3.ensures)
    (leaves (rates_decided _ _ _ (rw (c.rates_fit.ensures, c.take_of-take.ensures) at c.in_ok-need-4.ensures))
    (rw (c.bed_fits.ensures, c.take_of-take.ensures) at c.need-5.ensures)))))
