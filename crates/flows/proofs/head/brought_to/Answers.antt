-- `flows::head::brought_to` meets its contract: what is gathered so far is what the feeders among the first reaches bring.
use Rattle.std.proofs.Common.{◌∙◌, sym, ap}
use Rattle.std.proofs.lemmas.List.{length_push}
use Rattle.std.proofs.lemmas.Slice.Zip.{zip_turn}
use Rattle.flows.specs.declared.flow.ReachFlows.{ReachFlows}
use Rattle.flows.specs.held.FlowTable.{no_flow}
use Rattle.flows.specs.held.HeadTable.{no_brought}
use Rattle.flows.proofs.head.Bringing.{brought_with_fits, brought_gathered, brought_passed}
use Rattle.flows.proofs.head.brought_to.Goals as goal

pub brought_with-brought-requires : goal.brought_with-brought-requires
brought_with-brought-requires c =
    let a = c.args in
    let l = c.loop-feeder in
    let turn = zip_turn a.before.now a.by_reach.now l.yielded c.into_iter-feeder-iterator.result l.feeder-iterator c.next.new.self c.next.result (cc) (cc) l.yielded_by _ c.in-Some.is c.next.ensures.steps in
    rw (turn.3 no_brought) (brought_with_fits a.before.now a.by_reach.now a.reach _ l.invariant turn.0 (ap (λ (f : ReachFlows). f.outlet) (sym (turn.2 no_flow)) ∙ c.if-feeder-reach.true) c.requires)

pub loop-feeder-preserved-then-feeder-reach : goal.loop-feeder-preserved-then-feeder-reach
loop-feeder-preserved-then-feeder-reach c =
    let a = c.args in
    let l = c.loop-feeder in
    let turn = zip_turn a.before.now a.by_reach.now l.yielded c.into_iter-feeder-iterator.result l.feeder-iterator c.next.new.self c.next.result (cc) (cc) l.yielded_by _ c.in-Some.is c.next.ensures.steps in
    rw length_push (c.brought_with-brought.ensures ∙ rw (turn.3 no_brought) (brought_gathered a.before.now a.by_reach.now a.reach _ l.invariant (ap (λ (f : ReachFlows). f.outlet) (sym (turn.2 no_flow)) ∙ c.if-feeder-reach.true)))

pub loop-feeder-preserved : goal.loop-feeder-preserved
loop-feeder-preserved c =
    let a = c.args in
    let l = c.loop-feeder in
    let turn = zip_turn a.before.now a.by_reach.now l.yielded c.into_iter-feeder-iterator.result l.feeder-iterator c.next.new.self c.next.result (cc) (cc) l.yielded_by _ c.in-Some.is c.next.ensures.steps in
    rw length_push (brought_passed a.before.now a.by_reach.now a.reach _ l.invariant (λ e. c.if-feeder-reach.false (ap (λ (f : ReachFlows). f.outlet) (turn.2 no_flow) ∙ e)))
