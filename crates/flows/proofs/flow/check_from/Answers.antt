-- `flows::flow::check_from` meets its contract: the laws of the loop in proofs/flow/FlowCheck.
use mathlib.Core.Path.{◌≡◌}
use Prim.Native.Nat.{ℕ, ◌<◌}
use native.Mathlib.Numerals.{add-one}
use native.Mathlib.Omega.{arith}
use mathlib.Core.List.{List}
use borrow.Author.Rules.{rules}
use lib.ListN.{length, get_or}
use Rattle.river.specs.declared.card.Cards.{Cards}
use Rattle.flows.specs.declared.flow.ReachFlows.{ReachFlows}
use Rattle.flows.specs.declared.flow.Upstream.{Upstream}
use Rattle.river.specs.Card.{card_list, blank}
use Rattle.river.proofs.Tests.{mapped_length}
use Rattle.flows.specs.held.FlowTable.{upstream_by, Underway, CheckAt}
use Rattle.flows.proofs.flow.Count.{reaches_counted, card_of_river}
use Rattle.flows.proofs.flow.Checks.{sums_fit}
use Rattle.flows.proofs.flow.FlowCheck.{at_refusal, at_next, at_end}
use Rattle.flows.proofs.flow.check_from.Goals as goal
use Rattle.flows.proofs.flow.check_from.Goals.{After-reach_count-j-end}

-- the loop goes over the reaches of the river
counted : (c : After-reach_count-j-end) → c.reach_count-j-end.result ≡ length (card_list c.args.cards)
counted c = reaches_counted c.args.cards (search (rules, mapped_length)) c.reach_count-j-end.ensures

-- the next reach is one of the river, and what it is handed
module _ (cs : Cards) {count j : ℕ} {flows : List ReachFlows} (u : Underway (card_list cs) j flows) (e : count ≡ length (card_list cs)) (l : j < count) where
  within : j < length (card_list cs)
  within = omega (arith, e)

  abbrev check_at : {up : Upstream} → up ≡ upstream_by flows j → CheckAt (get_or cs.at j blank) up j
  check_at g =
      record { cards = card_list cs; flows = flows; underway = u; gathered = g; within = within; own = card_of_river cs j within }

pub upstream_of-up-requires : goal.upstream_of-up-requires
upstream_of-up-requires c =
    let u = c.loop-j.invariant in
    rw add-one (sums_fit (u, within c.args.cards u (counted (goal.at.upstream_of-up-requires c).After-reach_count-j-end) c.loop-j-test.true))

pub returns-in_err-flows : goal.returns-in_err-flows
returns-in_err-flows c =
    let u = c.loop-j.invariant in
    let e = counted (goal.at.returns-in_err-flows c).After-reach_count-j-end in
    let l = c.loop-j-test.true in
    at_refusal u (within c.args.cards u e l) (c.in_err-flows.ensures (check_at c.args.cards u e l (rw add-one at c.upstream_of-up.ensures))) c.from_residual.ensures.1

pub loop-j-preserved : goal.loop-j-preserved
loop-j-preserved c =
    let u = c.loop-j.invariant in
    let e = counted (goal.at.loop-j-preserved c).After-reach_count-j-end in
    let l = c.loop-j-test.true in
    at_next u (within c.args.cards u e l) (c.in_ok-flows.ensures (check_at c.args.cards u e l (rw add-one at c.upstream_of-up.ensures)))

pub returns : goal.returns
returns c =
    at_end c.loop-j.invariant (omega (arith, counted (goal.at.returns c).After-reach_count-j-end, c.loop-j-test.false))
