-- Acceptance: a file is accepted by reading and flow check exactly when it is the encoding of a lawful river whose cards pass the flow rules with
-- the rates in force;
-- and by the rule on outlets the feeders of the definitions are all the reaches whose outlet a reach is.
use mathlib.Core.Path.{◌≡◌, sym, ap, subst, ◌∙◌}
use mathlib.Core.Logic.{⊎_elim, ◌↔◌}
use mathlib.Core.List.{List}
use Prim.Native.Nat.{ℕ, zero, suc, ◌<◌, ◌≤◌}
use native.Mathlib.Nat.{le_refl, le_of_lt, le_of_suc-le-suc, eq-or-lt_of_le}
use native.Mathlib.Omega.{arith}
use lib.ListN.{length, get_or}
use Rattle.std.specs.Prelude.{Result, IsErrAnd}
use borrow.Author.Tests.{ne_eqb}
use Rattle.river.specs.declared.card.Card.{Card}
use Rattle.river.specs.declared.file.Reading.{Reading}
use Rattle.river.specs.declared.refusal.Refusal.{Refusal}
use Rattle.flows.specs.declared.flow.ReachFlows.{ReachFlows}
use Rattle.flows.specs.declared.accept.Acceptance.{Acceptance}
use Rattle.river.specs.Bytes.{AreBytes}
use Rattle.river.specs.declared.card.Cards.{Cards}
use Rattle.river.specs.Card.{Lawful, Regular, card_list, blank}
use Rattle.river.specs.Refusal.{accepted, refused, after}
use Rattle.river.specs.Read.{read_file}
use Rattle.river.specs.River.{LawfulRiver}
use Rattle.flows.specs.Rates.{in_force}
use Rattle.flows.specs.Flow.{above, feeders_among, joined_if, Flows, flow_check}
use Rattle.flows.specs.Accept.{AcceptedFile, accept_file}
use Rattle.flows.specs.held.Accepts.{IsAccepted, Accepts}
use Rattle.river.proofs.Answers.{after_accepted, after_refused, went}
use Rattle.river.proofs.Files.{reads_lawful, reads_only_lawful}
use Rattle.river.proofs.range.Ranges.{asked_at, last_outlet, later_outlet}
use Rattle.flows.proofs.rates.InForce.{regular_in_force, regular_of_lawful, lawful_of_flows}
use Rattle.flows.proofs.flow.Checks.{first_tabled}
use Rattle.flows.proofs.flow.FlowCheck.{flows_of_accepted, accepted_of_flows}
use Rattle.flows.specs.held.FlowTable.{Underway, FlowChecked}
use Rattle.river.specs.File.{river_read, Reads}

accepts_only : (file : List ℕ) (cards : List Card) → AreBytes file → accept_file file ≡ accepted cards → AcceptedFile file cards
unfolding accept_file
accepts_only file cards b e =
    let w = went (read_file file) (λ r. flow_check (in_force r)) e in
    let f = reads_only_lawful file w.value b w.first in
    let k = flows_of_accepted w.then in
    let same : in_force w.value ≡ cards = let a = accepted_of_flows k in let c = w.then in cc in
    record { river = w.value; bytes = f.bytes; lawful = f.lawful; in_force = sym same; flows = subst Flows same k }

accepts_all : (file : List ℕ) (cards : List Card) → AcceptedFile file cards → accept_file file ≡ accepted cards
unfolding accept_file
accepts_all file cards a =
    rw a.bytes
    (after_accepted _ _ (reads_lawful a.river a.lawful) ∙ ap flow_check (sym a.in_force) ∙ accepted_of_flows a.flows)

-- THEOREM: a file is accepted exactly when it is the encoding of a lawful river whose cards, with the rates in force, pass the flow rules
pub accepts_exactly : (file : List ℕ) (cards : List Card) → AreBytes file → (accept_file file ≡ accepted cards) ↔ AcceptedFile file cards
accepts_exactly file cards b = (accepts_only file cards b, accepts_all file cards)

-- the cards of an accepted file are lawful with the rates in force, too
pub accepted_lawful : {file : List ℕ} {cards : List Card} → AcceptedFile file cards → Lawful cards
accepted_lawful a = lawful_of_flows (rw a.in_force (regular_in_force a.river a.lawful.cards)) a.flows

-- no reach flows into itself or into an earlier reach
outlet_later : {cards : List Card} → Regular cards → (i j : ℕ) → i ≤ j → j < length cards → (get_or cards j blank).outlet ≡ suc i → ⊥
outlet_later {cards} h i j a b e =
    let c = asked_at h j b in
    ⊎_elim
    (λ (k : suc j ≡ length cards). omega (arith, last_outlet (length cards) (get_or cards j blank).outlet (rw k at c.outlet)))
    (λ (k : suc j < length cards). omega (arith, (later_outlet (length cards) (suc j) (get_or cards j blank).outlet k c.outlet).0))
    (eq-or-lt_of_le b)

-- THEOREM: what flows into a reach of regular cards are all the reaches whose outlet it is
pub all_feeders : {cards : List Card} → Regular cards → (i : ℕ) → i < length cards → above cards (suc i) ≡ feeders_among cards (length cards) (suc i)
unfolding feeders_among joined_if
all_feeders {cards} h i l = from_all (length cards) (le_of_lt l) (le_refl (length cards))
  where
    other : (n : ℕ) → i ≤ n → n < length cards → feeders_among cards (suc n) (suc i) ≡ feeders_among cards n (suc i)
    other n a b = rw (ne_eqb (get_or cards n blank).outlet (suc i) (outlet_later h i n a b))

    from_all : (n : ℕ) → i ≤ n → n ≤ length cards → feeders_among cards i (suc i) ≡ feeders_among cards n (suc i)
    from_all zero a b = ap (λ (k : ℕ). feeders_among cards k (suc i)) (let e : i ≡ 0 = omega arith in e)
    from_all (suc n) a b =
        ⊎_elim
        (λ (k : i ≡ suc n). ap (λ (k : ℕ). feeders_among cards k (suc i)) k)
        (λ (k : i < suc n). from_all n (le_of_suc-le-suc k) (le_of_lt b) ∙ sym (other n (le_of_suc-le-suc k) b))
        (eq-or-lt_of_le a)

-- the river of a reading is the answer where the reading is accepted
was_read : (file : List ℕ) {r : Reading} → Reads file (accepted r) → read_file file ≡ accepted (river_read r)
unfolding after
was_read file h = sym h.answer

-- the river that a reading of bytes accepts is lawful
pub reading_lawful : {file : List ℕ} {r : Reading} → AreBytes file → Reads file (accepted r) → LawfulRiver (river_read r)
reading_lawful {file} {r} b h = (reads_only_lawful file (river_read r) b (was_read file h)).lawful

-- a refused reading is the answer
pub reading_refused : {file : List ℕ} {x : Refusal} {a : Result Acceptance Refusal} → Reads file (refused x) → IsErrAnd a (λ y. y ≡ x) → Accepts file a
unfolding accept_file after
reading_refused {a = accepted k} h e = absurd e
reading_refused {a = refused y} h e = record { answer = rw e (sym (after_refused _ _ (sym h.answer))); sound = tt }

-- a reading that is accepted goes on to the flow check of its cards with the rates in force
module _ {file : List ℕ} {r : Reading} (cards : Cards) (b : AreBytes file) (h : Reads file (accepted r)) (f : card_list cards ≡ in_force (river_read r)) where
  pub regular_read : Regular (card_list cards)
  regular_read = rw f (regular_in_force (river_read r) (reading_lawful b h).cards)

  pub check_refused : {x : Refusal} {a : Result Acceptance Refusal} → FlowChecked (card_list cards) (refused x) → IsErrAnd a (λ y. y ≡ x) → Accepts file a
  unfolding accept_file after
  check_refused {a = accepted k} c q = absurd q
  check_refused {a = refused y} c q = record { answer = rw q c.answer ∙ ap flow_check f ∙ sym (after_accepted _ _ (was_read file h)); sound = tt }

  pub check_accepted : {t : List ReachFlows} → FlowChecked (card_list cards) (accepted t) → Accepts file (accepted (record { effective = cards; flows = t }))
  unfolding accept_file after
  check_accepted c =
      let passes : Flows (card_list cards) = flows_of_accepted (sym c.answer) in
      record {
        answer = c.answer ∙ ap flow_check f ∙ sym (after_accepted _ _ (was_read file h));
        sound = record { lawful = lawful_of_flows regular_read passes; sound = passes; tabled = c.tabled };
      }

-- THEOREM: an accepted river has, at every reach, what the flow check asks for from there on
pub accepted_underway : {r : Acceptance} → IsAccepted r → {i : ℕ} → i ≤ length (card_list r.effective) → Underway (card_list r.effective) i r.flows
accepted_underway a l =
    record {
      regular = regular_of_lawful a.lawful;
      within = l;
      passed = record { sound = λ j k. a.sound.each j (omega arith); tabled = first_tabled l a.tabled };
    }
