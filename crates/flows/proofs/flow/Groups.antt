-- Groups of checks: which facts each asks for, and how the program's answers of two groups join.
use mathlib.Core.Path.{◌≡◌, refl, sym, ◌∙◌}
use mathlib.Core.Bool.{Bool, true, false, ◌&&◌}
use mathlib.Core.List.{List, []}
use Prim.Native.Nat.{ℕ, ◌-◌, ◌*◌, ◌<◌, ◌≤◌}
use lib.Dec.{leb}
use Rattle.std.specs.Prelude.{Option, IsErrAnd}
use borrow.Author.Tests.{ltb-true, leb-true, lt-ltb, le-leb}
use Rattle.river.specs.declared.card.Card.{Card}
use Rattle.river.specs.declared.card.Dam.{Dam}
use Rattle.river.specs.declared.refusal.Refusal.{Refusal}
use Rattle.river.specs.declared.refusal.Rule.{Rule}
use Rattle.river.specs.declared.refusal.Rule.TheVariants.{NoFlow, FlowLimit, DamFlow, BodLimit, RateLimit, TakeLimit, BedLimit, RateRange}
use Rattle.river.specs.declared.source.Demand.TheVariants.{Nitrogenous}
use Rattle.river.specs.Refusal.{Answer, accepted, refused, need, after}
use Rattle.river.specs.Card.{RatesInRange}
use Rattle.river.specs.Source.{rate_of}
use Rattle.flows.specs.Flow.{flow_limit, mass_limit, rate_limit, bed_limit, take_of, sludge_of, dam_fits, rate_fits, rates_fit, Checks, ◌then◌, flow_rules, load_rule, take_rule, range_rule, rate_rules, bed_rule, checks_of}
use Rattle.flows.specs.held.FlowTable.{Decides}
use Rattle.river.proofs.Answers.{need_true, passed}
use Rattle.river.proofs.range.Ranges.{rates_in_range_true, true_rates_in_range}

-- checks that ask for a fact: with it they go on, and where they led to an accepted answer it holds
pub record Asks (f : Checks) (P : Type 0) : Type 0 where
  pub on : P → (later : Answer (List Card)) → f later ≡ later
  pub told : {later : Answer (List Card)} {cards : List Card} → f later ≡ accepted cards → P × (later ≡ accepted cards)

-- a check by its test
ask : {P : Type 0} (b : Bool) (n : Rule) (i : ℕ) → (P → b ≡ true) → (b ≡ true → P) → Asks (need b n i) P
ask b n i to from =
    record {
      on = λ p later. need_true b n i later (to p);
      told = λ e. let k = passed b n i _ e in (from k.test, k.rest);
    }

ask_most : (m most : ℕ) (n : Rule) (i : ℕ) → Asks (need (leb m most) n i) (m ≤ most)
ask_most m most n i = ask _ n i (le-leb m most) (leb-true m most)

-- checks, and then others
pub asks_both : {f g : Checks} {P Q : Type 0} → Asks f P → Asks g Q → Asks (f then g) (P × Q)
unfolding ◌then◌
asks_both a b =
    record {
      on = λ p later. a.on p.0 _ ∙ b.on p.1 later;
      told = λ e. let k = a.told e in let l = b.told k.1 in ((k.0, l.0), l.1);
    }

-- what each group asks for
pub flow_rules_ask : (dam : Option Dam) (fed : Bool) (Qu Qm i : ℕ) → Asks (flow_rules dam fed Qu Qm i) ((0 < Qm) × ((Qm ≤ flow_limit) × (dam_fits dam fed Qu ≡ true)))
unfolding flow_rules
flow_rules_ask dam fed Qu Qm i =
    asks_both (ask _ NoFlow i (lt-ltb 0 Qm) (ltb-true 0 Qm)) (asks_both (ask_most Qm flow_limit FlowLimit i) (ask _ DamFlow i (λ e. e) (λ e. e)))

pub load_rule_asks : (Qm Mm i : ℕ) → Asks (load_rule Qm Mm i) (Mm ≤ mass_limit * Qm)
unfolding load_rule
load_rule_asks Qm Mm i = ask_most Mm (mass_limit * Qm) BodLimit i

pub take_rule_asks : (take Qm i : ℕ) → Asks (take_rule take Qm i) (take < Qm)
unfolding take_rule
take_rule_asks take Qm i = ask _ TakeLimit i (lt-ltb take Qm) (ltb-true take Qm)

pub range_rule_asks : (card : Card) (i : ℕ) → Asks (range_rule card i) (RatesInRange card)
unfolding range_rule
range_rule_asks card i = ask _ RateRange i (rates_in_range_true card) (true_rates_in_range card)

-- each rate, × volume, is at most 345,600 × Q
abbrev RatesFit : Card → (Q : ℕ) → Type 0
RatesFit card Q =
    (card.k1 * card.volume ≤ rate_limit * Q) × ((card.k2 * card.volume ≤ rate_limit * Q) × (rate_of Nitrogenous card * card.volume ≤ rate_limit * Q))

pub rate_rules_ask : (card : Card) (Q i : ℕ) → Asks (rate_rules card Q i) (RatesFit card Q)
unfolding rate_rules
rate_rules_ask card Q i = asks_both (fits card.k1) (asks_both (fits card.k2) (fits (rate_of Nitrogenous card)))
  where
    fits : (rate : ℕ) → Asks (need (rate_fits rate card.volume Q) RateLimit i) (rate * card.volume ≤ rate_limit * Q)
    fits rate = ask_most (rate * card.volume) (rate_limit * Q) RateLimit i

pub bed_rule_asks : (card : Card) (Q i : ℕ) → Asks (bed_rule card Q i) (sludge_of card * card.volume ≤ bed_limit * Q)
unfolding bed_rule
bed_rule_asks card Q i = ask_most (sludge_of card * card.volume) (bed_limit * Q) BedLimit i

-- what the checks of a reach ask for, group by group
pub checks_ask : (card : Card) (fed : Bool) (Qu Qm Mm i : ℕ) → Asks (checks_of card fed Qu Qm Mm i) (((0 < Qm) × ((Qm ≤ flow_limit) × (dam_fits card.dam fed Qu ≡ true))) × ((Mm ≤ mass_limit * Qm) × ((take_of card < Qm) × (RatesInRange card × (RatesFit card (Qm - take_of card) × (sludge_of card * card.volume ≤ bed_limit * (Qm - take_of card)))))))
unfolding checks_of
checks_ask card fed Qu Qm Mm i =
    asks_both (flow_rules_ask card.dam fed Qu Qm i)
    (asks_both (load_rule_asks Qm Mm i)
    (asks_both (take_rule_asks (take_of card) Qm i)
    (asks_both (range_rule_asks card i) (asks_both (rate_rules_ask card (Qm - take_of card) i) (bed_rule_asks card (Qm - take_of card) i)))))

-- one test of all rates decides as their three tests do
pub rates_decided : (card : Card) (Q i : ℕ) {r : Answer Unit} → Decides r (need (rates_fit card Q) RateLimit i) → Decides r (rate_rules card Q i)
unfolding rate_rules ◌then◌ need
rates_decided card Q i d = record { answer = λ later. d.answer later ∙ all_needed (rate_fits card.k1 card.volume Q) (rate_fits card.k2 card.volume Q) _ later }
  where
    all_needed : (a b c : Bool) (x : Answer (List Card)) → need (a && b && c) RateLimit i x ≡ need a RateLimit i (need b RateLimit i (need c RateLimit i x))
    all_needed true true c x = refl
    all_needed true false c x = refl
    all_needed false b c x = refl

-- an accepted answer has what its checks ask for
pub decided : {f : Checks} {P : Type 0} → Decides (accepted tt) f → Asks f P → P
unfolding after
decided d a = (a.told {later = accepted []} (sym (d.answer (accepted [])))).0

-- the answer of checks, and then of others: a refusal stops, and an accepted one leaves it to the others
pub stops : {f : Checks} {x : Refusal} {s : Answer Unit} (g : Checks) → Decides (refused x) f → IsErrAnd s (λ y. y ≡ x) → Decides s (f then g)
unfolding after ◌then◌
stops {s = accepted u} g d e = absurd e
stops {s = refused y} g d e = record { answer = λ later. rw e (d.answer (g later)) }

pub leaves : {f g : Checks} {s : Answer Unit} → Decides (accepted tt) f → Decides s g → Decides s (f then g)
unfolding after ◌then◌
leaves {g} d k = record { answer = λ later. k.answer later ∙ d.answer (g later) }
