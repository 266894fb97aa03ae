-- The check of one more reach: what the table of the reaches that passed says of the next, and the table after it.
use mathlib.Core.Path.{◌≡◌, refl, sym, ap, subst, ◌∙◌}
use mathlib.Core.List.{List}
use Prim.Native.Nat.{ℕ, suc, ◌+◌, ◌-◌, ◌*◌, ◌<◌, ◌≤◌}
use native.Mathlib.Nat.{le_trans, lt_of_le_of_lt}
use native.Mathlib.Omega.{arith}
use lib.ListN.{length, take, set, length-set, length-take}
use lib.Seq.{get_or-take}
use lib.Dec.{ltb, lit<}
use Rattle.std.specs.Prelude.{Result, IsErrAnd}
use Rattle.river.specs.declared.card.Card.{Card}
use Rattle.river.specs.declared.refusal.Refusal.{Refusal}
use Rattle.flows.specs.declared.flow.ReachFlows.{ReachFlows}
use Rattle.flows.specs.declared.flow.Upstream.{Upstream}
use Rattle.river.specs.Refusal.{Answer, accepted, refused, after}
use Rattle.flows.specs.Flow.{flow_limit, mass_limit, Feeders, card_of, above, flow_of, mass_of, deepest, take_of, reach_flow, remaining_mass, reach_mass, reach_depth, own_mass, checks_of, reach_checks}
use Rattle.flows.specs.held.FlowTable.{Decides, no_flow, flows_by, upstream_among, SumsFit, upstream_by, flows_of, Tabled, Underway, NextChecked}
use Rattle.flows.proofs.flow.Take.{flow_within, mass_bounded}
use Rattle.flows.proofs.flow.Table.{entered_at, Adds, TableOf, sum_of_feeders, sum_bounded, max_of_feeders, deepest_few, fed_deepest}

-- Qu and the feeders' undecayed BOD add up what each feeder has
pub flows_add : Adds flow_of reach_flow
unfolding flow_of
flows_add = record { nothing = refl; plus = λ card up rest. refl }

pub masses_add : Adds mass_of reach_mass
unfolding mass_of
masses_add = record { nothing = refl; plus = λ card up rest. refl }

-- the first n reaches of a table are those of a river
abbrev pub FirstOf : List Card → (n : ℕ) → List ReachFlows → Type 0
FirstOf cards n t = (j : ℕ) → j < n → flows_by t j ≡ flows_of cards j

module _ {cards : List Card} {n : ℕ} {t : List ReachFlows} (h : FirstOf cards n t) where
  -- a number of each of them is a table of what it is for a river's
  table_by : (value : ReachFlows → ℕ) {g : Card → Feeders → ℕ} → ((j : ℕ) → value (flows_of cards j) ≡ g (card_of cards (suc j)) (above cards (suc j))) → TableOf cards g t (λ j. value (flows_by t j)) n
  table_by value same =
      record { outlet = λ j l. ap (λ (f : ReachFlows). f.outlet) (h j l); value = λ j l. ap value (h j l) ∙ same j }

  pub flow_table : TableOf cards reach_flow t (λ j. (flows_by t j).flow) n
  flow_table = table_by (λ f. f.flow) (λ j. refl)

  pub mass_table : TableOf cards reach_mass t (λ j. (flows_by t j).mass) n
  mass_table = table_by (λ f. f.mass) (λ j. refl)

  pub depth_table : TableOf cards (λ card up. reach_depth up) t (λ j. (flows_by t j).depth) n
  depth_table = table_by (λ f. f.depth) (λ j. refl)

-- and so are those that are taken of it
first_taken : (cards : List Card) (n : ℕ) (t : List ReachFlows) (i : ℕ) → FirstOf cards n t → i ≤ n → FirstOf cards i (take i t)
first_taken cards n t i h l = λ j k. get_or-take i t j no_flow k ∙ h j (omega arith)

-- a table of reaches is one of the first of them
pub first_tabled : {cards : List Card} {i n : ℕ} {t : List ReachFlows} → i ≤ n → Tabled cards n t → Tabled cards i t
first_tabled l h = record { full = h.full; each = λ j k. h.each j (omega arith) }

-- the table with one more reach
pub next_table : {cards : List Card} {i : ℕ} {t : List ReachFlows} {x : ReachFlows} → Tabled cards i t → i < 128 → x ≡ flows_of cards i → Tabled cards (suc i) (set t i x)
next_table {cards} {i} {t} {x} h few e =
    record {
      full = length-set t i x ∙ h.full;
      each = entered_at t i x no_flow (λ k f. f ≡ flows_of cards k) (rw h.full few) e h.each;
    }

-- the reaches before one of 128 are as many as its index
pub taken_length : (i : ℕ) (t : List ReachFlows) → length t ≡ 128 → i < 128 → length (take i t) ≡ i
taken_length i t full few = length-take i t ∙ rw full (omega arith)

module _ {cards : List Card} {i : ℕ} {t : List ReachFlows} (h : Underway cards i t × (i < length cards)) where
  pub index_few : i < 128
  index_few = omega (arith, h.0.regular.few)

  before : FirstOf cards i (take i t)
  before = first_taken cards i t i h.0.passed.tabled.each (omega arith)

  by_count : upstream_by t i ≡ upstream_among (take i t) i (suc i)
  by_count = ap (λ (n : ℕ). upstream_among (take i t) n (suc i)) (taken_length i t h.0.passed.tabled.full index_few)

  -- the sums over the feeders are small
  flow_small : (upstream_by t i).flow ≤ 128 * flow_limit
  flow_small =
      subst (λ (u : Upstream). u.flow ≤ 128 * flow_limit) (sym by_count)
      (le_trans
      (sum_bounded (take i t) _ flow_limit i (suc i) (λ j k. rw (ap (λ (f : ReachFlows). f.flow) (before j k)) (flow_within (h.0.passed.sound j k))))
      (omega (arith, index_few)))

  mass_small : (upstream_by t i).mass ≤ 128 * (mass_limit * flow_limit)
  mass_small =
      subst (λ (u : Upstream). u.mass ≤ 128 * (mass_limit * flow_limit)) (sym by_count)
      (le_trans
      (sum_bounded (take i t) _ (mass_limit * flow_limit) i (suc i) (λ j k. rw (ap (λ (f : ReachFlows). f.mass) (before j k)) (mass_bounded (h.0.passed.sound j k))))
      (omega (arith, index_few)))

  pub sums_fit : SumsFit (take i t) (suc i)
  sums_fit = record { flow = lt_of_le_of_lt flow_small (lit< tt); mass = lt_of_le_of_lt mass_small (lit< tt) }

  -- what flows into the reach is what the program gathered of it
  flow_here : (upstream_by t i).flow ≡ flow_of (above cards (suc i))
  flow_here = ap (λ (u : Upstream). u.flow) by_count ∙ sum_of_feeders flows_add (flow_table before) (suc i)

  mass_here : (upstream_by t i).mass ≡ mass_of (above cards (suc i))
  mass_here = ap (λ (u : Upstream). u.mass) by_count ∙ sum_of_feeders masses_add (mass_table before) (suc i)

  deepest_here : (upstream_by t i).deepest ≡ deepest (above cards (suc i))
  deepest_here = ap (λ (u : Upstream). u.deepest) by_count ∙ max_of_feeders (depth_table before) (suc i)

  module _ {u : Upstream} (e : u ≡ upstream_by t i) where
    pub gathered_small : (u.flow ≤ 128 * flow_limit) × (u.mass ≤ 128 * (mass_limit * flow_limit)) × (u.deepest ≤ 127)
    gathered_small = rw e (flow_small, mass_small, rw deepest_here (omega (arith, index_few, deepest_few cards i (suc i))))

    module _ {o : Answer Unit} {card : Card} {inflow own reach : ℕ} (ec : card ≡ card_of cards (suc i)) (ei : inflow ≡ card.inflow) (eo : own ≡ own_mass card) (er : reach ≡ suc i) (d : Decides o (checks_of card (ltb 0 u.deepest) u.flow (u.flow + inflow) (u.mass + own) reach)) where
      -- the answer of the checks by what was gathered is that by the feeders
      pub next_answer : Decides o (reach_checks (card_of cards (suc i)) (above cards (suc i)) (suc i))
      unfolding reach_checks
      next_answer =
          record { answer = λ later. d.answer later ∙ cc (e, flow_here, mass_here, deepest_here, fed_deepest (above cards (suc i))) }

    -- what is entered of a reach that passes
    pub next_flows : {card : Card} {inflow own take remaining : ℕ} → card ≡ card_of cards (suc i) → inflow ≡ card.inflow → own ≡ own_mass card → take ≡ take_of card
        → remaining ≡ remaining_mass take (u.flow + inflow) (u.mass + own)
        → record { outlet = card.outlet; upstream = u.flow; flow = u.flow + inflow - take; mass = remaining; depth = u.deepest + 1 } ≡ flows_of cards i
    next_flows ec ei eo et el =
        let depth : deepest (above cards (suc i)) + 1 ≡ 1 + deepest (above cards (suc i)) = omega arith in
        rw (el, et, e, flow_here, mass_here, deepest_here, ei, eo, ec) (cc depth)

-- what the check of a reach yields: a refusal, or what is entered of it
pub next_refused : {cards : List Card} {i : ℕ} {x : Refusal} {r : Result ReachFlows Refusal} → Decides (refused x) (reach_checks (card_of cards (suc i)) (above cards (suc i)) (suc i)) → IsErrAnd r (λ y. y ≡ x) → NextChecked cards i r
unfolding after
next_refused {r = accepted a} d e = absurd e
next_refused {r = refused y} d e = record { answer = rw e d; flows = tt }

pub next_passed : {cards : List Card} {i : ℕ} {x : ReachFlows} → Decides (accepted tt) (reach_checks (card_of cards (suc i)) (above cards (suc i)) (suc i)) → x ≡ flows_of cards i → NextChecked cards i (accepted x)
unfolding after
next_passed d e = record { answer = d; flows = e }
