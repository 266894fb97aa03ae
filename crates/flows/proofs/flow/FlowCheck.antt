-- The flow check accepts exactly the rivers whose reaches pass the rules 7 to 11 and 13 to 15, and the laws of the loop over the reaches.
use mathlib.Core.Path.{◌≡◌, refl, sym, ap, ◌∙◌}
use mathlib.Core.Logic.{⊎_elim}
use mathlib.Core.Bool.{true}
use mathlib.Core.List.{List}
use Prim.Native.Nat.{ℕ, zero, suc, ◌+◌, ◌-◌, ◌<◌, ◌≤◌, zero-le}
use native.Mathlib.Nat.{le_refl, eq-or-lt_of_le, le_of_suc-le-suc, not-suc-le-zero}
use native.Mathlib.Numerals.{add-one}
use native.Mathlib.Omega.{arith}
use lib.ListN.{length, set}
use Rattle.std.specs.Prelude.{Option, Some, None, Result, IsErrAnd}
use borrow.Author.Tests.{leb-true, le-leb}
use Rattle.river.specs.declared.card.Card.{Card}
use Rattle.river.specs.declared.card.Dam.{Dam}
use Rattle.river.specs.declared.refusal.Refusal.{Refusal}
use Rattle.flows.specs.declared.flow.ReachFlows.{ReachFlows}
use Rattle.river.specs.Refusal.{accepted, refused, after}
use Rattle.river.specs.Card.{Regular}
use Rattle.flows.specs.Flow.{Feeders, card_of, above, fed, flow_of, mixed_flow, mixed_mass, dam_fits, DamRule, ReachPasses, Flows, reach_checks, checks_from, flow_check}
use Rattle.flows.specs.held.FlowTable.{Underway, NextChecked, FlowChecked}
use Rattle.river.proofs.Answers.{both_true, both}
use Rattle.flows.proofs.flow.Groups.{Asks, checks_ask, decided}
use Rattle.flows.proofs.flow.Checks.{next_table}

-- the test of check 9 and its rule
dam_rule_true : (dam : Option Dam) (up : Feeders) → DamRule dam up → dam_fits dam (fed up) (flow_of up) ≡ true
unfolding dam_fits DamRule
dam_rule_true None up h = refl
dam_rule_true (Some dam) up h = both h.0 (le-leb dam.generating (flow_of up) h.1)

true_dam_rule : (dam : Option Dam) (up : Feeders) → dam_fits dam (fed up) (flow_of up) ≡ true → DamRule dam up
unfolding dam_fits DamRule
true_dam_rule None up e = tt
true_dam_rule (Some dam) up e =
    let b = both_true e in (b.left, leb-true dam.generating (flow_of up) b.right)

-- the checks of a reach ask for what passes the rules
reach_asks : (card : Card) (up : Feeders) (i : ℕ) → Asks (reach_checks card up i) (ReachPasses card up)
unfolding reach_checks
reach_asks card up i =
    let groups = checks_ask card (fed up) (flow_of up) (mixed_flow card up) (mixed_mass card up) i in
    record {
      on =
          λ s. groups.on
          ((s.flowing, (s.bounded, dam_rule_true card.dam up s.dam_rule)), (s.mass_rule, (s.take_rule, (s.range_rule, ((s.decay_rule, (s.aeration_rule, s.nitrification_rule)), s.bed_rule)))));
      told =
          λ e. let k = groups.told e in
          let flow = k.0.0 in
          let rates = k.0.1.1.1 in
          let left = rates.1 in (
            record {
              flowing = flow.0;
              bounded = flow.1.0;
              dam_rule = true_dam_rule card.dam up flow.1.1;
              mass_rule = k.0.1.0;
              take_rule = k.0.1.1.0;
              range_rule = rates.0;
              decay_rule = left.0.0;
              aeration_rule = left.0.1.0;
              nitrification_rule = left.0.1.1;
              bed_rule = left.1;
            },
            k.1,
          );
    }

-- reach i + 1 passes the rules
abbrev Passing : List Card → ℕ → Type 0
Passing cards i = ReachPasses (card_of cards (suc i)) (above cards (suc i))

-- checks of reaches that pass go on to the next reach
behind : (cards : List Card) (i m : ℕ) → ((j : ℕ) → j < i → Passing cards j) → checks_from cards 1 (i + m) ≡ checks_from cards (suc i) m
unfolding checks_from
behind cards zero m s = ap (checks_from cards 1) (let e : 0 + m ≡ m = omega arith in e)
behind cards (suc i) m s =
    ap (checks_from cards 1) (let e : suc i + m ≡ i + suc m = omega arith in e)
    ∙ behind cards i (suc m) (λ j k. s j (omega arith))
    ∙ (reach_asks _ _ _).on (s i (le_refl (suc i))) _

-- reaches whose checks were accepted pass the rules
sound_from : (cards : List Card) (m i : ℕ) {cs : List Card} → checks_from cards (suc i) m ≡ accepted cs → (j : ℕ) → i ≤ j → j < i + m → Passing cards j
unfolding checks_from
sound_from cards zero i e j a b = absurd (let h : ⊥ = omega arith in h)
sound_from cards (suc m) i e j a b =
    let g = (reach_asks _ _ _).told e in
    ⊎_elim
    (λ (k : i ≡ j). rw k at g.0)
    (λ (k : i < j). sound_from cards m (suc i) g.1 j k (omega arith))
    (eq-or-lt_of_le a)

-- THEOREM: a river that the flow check accepts passes the flow rules
pub flows_of_accepted : {cards cs : List Card} → flow_check cards ≡ accepted cs → Flows cards
unfolding flow_check
flows_of_accepted {cards} e =
    record { each = λ i l. sound_from cards (length cards) 0 e i (omega arith) (omega arith) }

-- THEOREM: and it accepts every river that does
pub accepted_of_flows : {cards : List Card} → Flows cards → flow_check cards ≡ accepted cards
unfolding flow_check checks_from
accepted_of_flows {cards} h =
    ap (checks_from cards 1) (let e : length cards ≡ length cards + 0 = omega arith in e) ∙ behind cards (length cards) 0 h.each

-- before the first reach
pub at_start : {cards : List Card} {t : List ReachFlows} → length t ≡ 128 → Regular cards → Underway cards 0 t
at_start full h =
    record {
      regular = h;
      within = zero-le;
      passed =
          record {
            sound = λ j l. absurd (not-suc-le-zero l);
            tabled = record { full = full; each = λ j l. absurd (not-suc-le-zero l) };
          };
    }

module _ {cards : List Card} {i : ℕ} {t : List ReachFlows} (h : Underway cards i t) where
  -- a refusal of the next reach is the answer
  pub at_refusal : i < length cards → {x : Refusal} {r : Result (List ReachFlows) Refusal} → NextChecked cards i (refused x) → IsErrAnd r (λ y. y ≡ x) → FlowChecked cards r
  unfolding flow_check checks_from after
  at_refusal l {r = accepted t} c e = absurd e
  at_refusal l {r = refused y} c e =
      let m = length cards - suc i in
      let whole : i + suc m ≡ length cards = omega arith in
      record {
        answer = rw e (c.answer.answer (checks_from cards (suc (suc i)) m)) ∙ sym (behind cards i (suc m) h.passed.sound) ∙ ap (checks_from cards 1) whole;
        tabled = tt;
      }

  -- a reach that passes leads to the next
  pub at_next : i < length cards → {x : ReachFlows} → NextChecked cards i (accepted x) → Underway cards (i + 1) (set t i x)
  unfolding after
  at_next l c =
      rw
      add-one
      record {
        regular = h.regular;
        within = l;
        passed =
            record {
              sound =
                  λ j k. ⊎_elim
                  (λ (q : j ≡ i). rw q (decided c.answer (reach_asks _ _ _)))
                  (λ (q : j < i). h.passed.sound j q)
                  (eq-or-lt_of_le (le_of_suc-le-suc k));
              tabled = next_table h.passed.tabled (omega (arith, h.regular.few)) c.flows;
            };
      }

  -- after the last reach the river is accepted
  pub at_end : length cards ≤ i → FlowChecked cards (accepted t)
  unfolding after
  at_end l =
      let e : i ≡ length cards = omega (arith, h.within) in
      record {
        answer = sym (accepted_of_flows (record { each = λ j k. h.passed.sound j (omega arith) }));
        tabled = rw e at h.passed.tabled;
      }
