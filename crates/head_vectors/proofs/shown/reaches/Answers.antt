-- `head_vectors::shown::reaches` meets its contract: a foot with at most the head's demands brings what is in bounds.
use mathlib.Core.Path.{◌≡◌, refl, ap}
use mathlib.Core.List.{List}
use Prim.Native.Nat.{ℕ, ◌+◌, ◌<◌, min}
use lib.ListN.{length}
use native.Mathlib.Numerals.{add-one}
use native.Mathlib.Omega.{arith}
use borrow.Author.Rules.{rules}
use Rattle.river.proofs.Tests.{mapped_length}
use Rattle.flows.proofs.flow.Count.{reaches_counted, card_of_river}
use Rattle.flows.proofs.head.Heads.{reach_few, sums_fit, head_input, head_within}
use Rattle.flows.proofs.head.Bringing.{brought_within, carried_next}
use Rattle.river.specs.Card.{card_list}
use Rattle.flows.specs.declared.accept.Acceptance.{Acceptance}
use Rattle.flows.specs.declared.flow.ReachFlows.{ReachFlows}
use Rattle.flows.specs.declared.head.Brought.{Brought}
use Rattle.flows.specs.held.Accepts.{IsAccepted}
use Rattle.flows.specs.held.HeadTable.{Carried, HeadTabled}
use Rattle.head_vectors.proofs.shown.reaches.Goals as goal

-- the tables before the head of the next reach
tables : {a : Acceptance} {count i : ℕ} {by_reach : List Brought} → IsAccepted a → length a.effective.at ≡ 128 → count ≡ min a.effective.count 128 → i < count → Carried (card_list a.effective) by_reach i → HeadTabled (card_list a.effective) a.flows by_reach i
tables {a} accepted full e l carried =
    record {
      lawful = accepted.lawful;
      sound = accepted.sound;
      within = omega (arith, reaches_counted a.effective full e, l);
      tabled = accepted.tabled;
      carried = carried;
    }

pub brought_to-brought-requires : goal.brought_to-brought-requires
brought_to-brought-requires c = rw add-one (sums_fit (tables c.requires (search (rules, mapped_length)) c.reach_count-i-end.ensures c.loop-i-test.true c.loop-i.invariant))

pub head_of-head-requires : goal.head_of-head-requires
head_of-head-requires c =
    let t = tables c.requires (search (rules, mapped_length)) c.reach_count-i-end.ensures c.loop-i-test.true c.loop-i.invariant in
    rw c.from.ensures (head_input t (card_of_river c.args.accepted.effective c.loop-i.i t.within) refl (rw add-one at c.brought_to-brought.ensures))

pub loop-i-preserved : goal.loop-i-preserved
loop-i-preserved c =
    let t = tables c.requires (search (rules, mapped_length)) c.reach_count-i-end.ensures c.loop-i-test.true c.loop-i.invariant in
    let r = c.head_of-head.result in
    let falls = head_within t (card_of_river c.args.accepted.effective c.loop-i.i t.within) refl (rw add-one at c.brought_to-brought.ensures) (rw c.from.ensures at c.head_of-head.ensures) in
    rw (c.brought_by.ensures, add-one)
    (carried_next c.loop-i.invariant (reach_few t)
    (brought_within (r.bod + r.nitrogenous) c.less.result c.less-in-loop-i.result (ap (λ (f : ReachFlows). f.flow) (c.requires.tabled.each c.loop-i.i t.within)) (omega (arith, c.less.ensures, c.less-in-loop-i.ensures)) falls (omega arith)))
