-- `flows::flow::check_next` meets its contract: the laws of proofs/flow/Checks over what its calls yield.
use native.Mathlib.Nat.{le_of_lt}
use native.Mathlib.Numerals.{add-one}
use native.Mathlib.Omega.{arith}
use Prim.Native.Nat.{ℕ, ◌<◌}
use lib.ListN.{length}
use Rattle.flows.specs.held.FlowTable.{CheckAt, Underway}
use Rattle.river.specs.declared.card.Card.{Card}
use Rattle.flows.specs.declared.flow.Upstream.{Upstream}
use Rattle.flows.proofs.flow.Count.{card_in_range, card_sources, own_mass_few}
use Rattle.flows.proofs.flow.Groups.{checks_ask, decided}
use Rattle.flows.proofs.flow.Checks.{gathered_small, next_answer, next_flows, next_refused, next_passed}
use Rattle.flows.proofs.flow.check_next.Goals as goal

-- the reaches before have passed, and this is a reach of the river
abbrev next : {card : Card} {up : Upstream} {i : ℕ} (s : CheckAt card up i) → Underway s.cards i s.flows × (i < length s.cards)
next s = (s.underway, s.within)

pub overflow_add-flow : goal.overflow_add-flow
overflow_add-flow c =
    let s = c.requires in
    omega (arith, gathered_small (next s) s.gathered, card_in_range s.own s.underway.regular s.within)

pub own_mass-requires : goal.own_mass-requires
own_mass-requires c =
    let s = c.requires in
    card_sources s.own s.underway.regular s.within

pub overflow_add-mass : goal.overflow_add-mass
overflow_add-mass c =
    let s = c.requires in
    omega (arith, gathered_small (next s) s.gathered, own_mass_few s.own s.underway.regular s.within c.own_mass.ensures)

pub returns-in_err-check : goal.returns-in_err-check
returns-in_err-check c =
    λ here.
    next_refused (next_answer (next here) here.gathered here.own c.from.ensures c.own_mass.ensures (add-one _) c.in_err-check.ensures) c.from_residual.ensures.1

-- what has passed: 13 and 8
pub remaining_mass-requires : goal.remaining_mass-requires
remaining_mass-requires c =
    let passed = decided c.in_ok-check.ensures (checks_ask _ _ _ _ _ _) in
    (rw c.take_of-take.ensures passed.1.1.0, passed.0.1.0)

pub overflow_sub-result : goal.overflow_sub-result
overflow_sub-result c =
    let passed = decided c.in_ok-check.ensures (checks_ask _ _ _ _ _ _) in
    rw c.take_of-take.ensures (le_of_lt passed.1.1.0)

pub overflow_add-result : goal.overflow_add-result
overflow_add-result c = let s = c.requires in omega (arith, gathered_small (next s) s.gathered)

pub overflow_cast-result : goal.overflow_cast-result
overflow_cast-result c =
    omega (arith, (decided c.in_ok-check.ensures (checks_ask _ _ _ _ _ _)).0.1.0)

pub overflow_cast-result-2 : goal.overflow_cast-result-2
overflow_cast-result-2 c =
    omega (arith, (decided c.in_ok-check.ensures (checks_ask _ _ _ _ _ _)).0.1.0)

pub returns : goal.returns
returns c =
    λ here.
    let at = next here in
    next_passed
    (next_answer at here.gathered here.own c.from.ensures c.own_mass.ensures (add-one _) c.in_ok-check.ensures)
    (next_flows at here.gathered here.own c.from.ensures c.own_mass.ensures c.take_of-take.ensures c.remaining_mass.ensures)
