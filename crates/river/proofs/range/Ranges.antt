-- The tests of cards hold exactly for the ranges of specs/.
-- Assumes nothing.
use Prim.Native.Nat.{ℕ, zero, suc, ◌+◌, ◌≤◌, ◌<◌, zero-le}
use mathlib.Core.Path.{◌≡◌, refl}
use mathlib.Core.List.{List, [], ◌∷◌}
use mathlib.Core.Bool.{true}
use native.Mathlib.Nat.{add-zero, not-suc-le-zero, le_of_suc-le-suc}
use native.Mathlib.Numerals.{one-add}
use native.Mathlib.Omega.{arith}
use lib.ListN.{length, get_or}
use borrow.Author.Tests.{le-leb, leb-true, ltb-true, eq-eqb, eqb-true, ne_eqb}
use Rattle.river.specs.Card.{FieldsInRange, RegularNitrification, RegularOptionals, with_nitrification, without_rate, without_rates, field_records, fields_of, RatesInRange, rates_in_range, LawfulCard, EachFrom, Each, blank, optional, optional_of, in_range, count_ok, outlet_ok}
use Rattle.river.specs.Optional.{AllInRange, optionals_in_range}
use Rattle.river.specs.Source.{nitrogenous_rate}
use Rattle.std.specs.Prelude.{Option, Some, None}
use Rattle.river.specs.declared.card.Card.{Card}
use Rattle.river.specs.declared.card.Nitrification.{Nitrification}
use Rattle.river.specs.declared.card.Optionals.{Optionals}
use Rattle.river.specs.Described.{InRange}
use Rattle.river.specs.Records.{DM, rate_most, NT, BP, SD}
use Rattle.river.proofs.Answers.{both, both_true}
use Rattle.river.proofs.card.Described.{in_range_true_lem, true_in_range_lem}
use Rattle.river.proofs.card.Optional.{all_in_range_true, true_all_in_range}

pub in_range_true : (c : Card) → FieldsInRange c → RatesInRange c → in_range c ≡ true
unfolding in_range
in_range_true c h r =
    both (le-leb _ _ h.temperature)
    (both (le-leb _ _ r.k1)
    (both (le-leb _ _ r.k2)
    (both (le-leb _ _ h.volume)
    (both (le-leb _ _ h.inflow) (both (le-leb _ _ h.inflow_bod) (le-leb _ _ h.inflow_oxygen))))))

-- what the test of an `RE` record tells
record ReachInRange (c : Card) : Type 0 where
  fields : FieldsInRange c
  k1 : c.k1 ≤ rate_most
  k2 : c.k2 ≤ rate_most

true_in_range : (c : Card) → in_range c ≡ true → ReachInRange c
unfolding in_range
true_in_range c e =
    let a = both_true e in
    let b = both_true a.right in
    let d = both_true b.right in
    let f = both_true d.right in
    let g = both_true f.right in
    let h = both_true g.right in
    record {
      fields =
          record {
            temperature = leb-true _ _ a.left;
            volume = leb-true _ _ f.left;
            inflow = leb-true _ _ g.left;
            inflow_bod = leb-true _ _ h.left;
            inflow_oxygen = leb-true _ _ h.right;
          };
      k1 = leb-true _ _ b.left;
      k2 = leb-true _ _ d.left;
    }

-- the test of the rates, check 15
pub rates_in_range_true : (c : Card) → RatesInRange c → rates_in_range c ≡ true
unfolding rates_in_range
rates_in_range_true c h = both (le-leb _ _ h.k1) (both (le-leb _ _ h.k2) (le-leb _ _ h.nitrogenous))

pub true_rates_in_range : (c : Card) → rates_in_range c ≡ true → RatesInRange c
unfolding rates_in_range
true_rates_in_range c e =
    let a = both_true e in
    let b = both_true a.right in
    record { k1 = leb-true _ _ a.left; k2 = leb-true _ _ b.left; nitrogenous = leb-true _ _ b.right }

-- a nitrification is in range exactly where it is regular and its rate is in range
regular_in_range : (n : Option Nitrification) → RegularNitrification n → nitrogenous_rate n ≤ rate_most → InRange NT n
regular_in_range None h r = tt
regular_in_range (Some n) h r = (record { least = zero-le; most = r }, h.1)

in_range_regular : (n : Option Nitrification) → InRange NT n → RegularNitrification n × (nitrogenous_rate n ≤ rate_most)
in_range_regular None h = (tt, zero-le)
in_range_regular (Some n) h = ((record { least = zero-le; most = zero-le }, h.1), h.0.most)

-- what regular optional fields tell of one of them
pub regular_pressure : {o : Optionals} → RegularOptionals o → InRange BP o.pressure
regular_pressure {o} h = true_in_range_lem BP o.pressure h.in_range.1.0

pub regular_sludge : {o : Optionals} → RegularOptionals o → InRange SD o.sludge
regular_sludge {o} h = true_in_range_lem SD o.sludge h.in_range.1.1.0

pub regular_nitrification : {o : Optionals} → RegularOptionals o → RegularNitrification o.nitrification
regular_nitrification {o} h = true_in_range_lem NT (without_rate o.nitrification) h.in_range.1.1.1.0

-- another nitrification in range leaves optional fields in range, and so it does regular ones
exchanged : (o : Optionals) (n : Option Nitrification) → InRange NT n → AllInRange field_records (fields_of o) → AllInRange field_records (fields_of (with_nitrification n o))
exchanged o n h r = (r.0, (r.1.0, (r.1.1.0, (in_range_true_lem NT n h, r.1.1.1.1))))

pub regular_with : {n : Option Nitrification} {o : Optionals} → RegularNitrification n → RegularOptionals o → RegularOptionals (with_nitrification n o)
regular_with {n} {o} h r = record { in_range = exchanged (without_rates o) (without_rate n) h r.in_range }

-- the tests of a card hold exactly where it is lawful
pub lawful_optionals : {n i : ℕ} {c : Card} → LawfulCard n i c → optionals_in_range optional (optional_of c) ≡ true
lawful_optionals {n} {i} {c} lawful =
    let o = c.optionals in
    let h = lawful.regular.optionals in
    let nitrification = regular_in_range o.nitrification (regular_nitrification h) lawful.rates.nitrogenous in
    all_in_range_true optional (optional_of c) (in_range_true_lem DM c.dam lawful.regular.dam, exchanged (without_rates o) o.nitrification nitrification h.in_range)

pub lawful_card : (n i : ℕ) (c : Card) → in_range c ≡ true → c.load < 4294967296 → outlet_ok n i c.outlet ≡ true
    → optionals_in_range optional (optional_of c) ≡ true → LawfulCard n i c
lawful_card n i c r l o e =
    let all = true_all_in_range optional (optional_of c) e in
    let reach = true_in_range c r in
    let given = c.optionals.nitrification in
    let nitrification = in_range_regular given (true_in_range_lem NT given all.1.1.1.1.0) in
    record {
      regular =
          record {
            in_range = reach.fields;
            load = l;
            outlet = o;
            dam = true_in_range_lem DM c.dam all.0;
            optionals = record { in_range = exchanged c.optionals (without_rate given) nitrification.0 all.1 };
          };
      rates = record { k1 = reach.k1; k2 = reach.k2; nitrogenous = nitrification.1 };
    }

pub count_ok_true : (n : ℕ) → 1 ≤ n → n ≤ 128 → count_ok n ≡ true
unfolding count_ok
count_ok_true n p q = both (le-leb _ _ p) (le-leb _ _ q)

pub true_count_ok : (n : ℕ) → count_ok n ≡ true → (1 ≤ n) × (n ≤ 128)
unfolding count_ok
true_count_ok n e = let t = both_true e in (leb-true _ _ t.left, leb-true _ _ t.right)

-- the last reach has outlet 0
pub last_outlet : (n o : ℕ) → outlet_ok n n o ≡ true → o ≡ 0
unfolding outlet_ok
last_outlet n o e = eqb-true _ _ (rw (eq-eqb n n refl) at e)

-- any other reach flows into a larger one
pub later_outlet : (n i o : ℕ) → i < n → outlet_ok n i o ≡ true → (i < o) × (o ≤ n)
unfolding outlet_ok
later_outlet n i o h e =
    let t = both_true (rw (ne_eqb i n (omega arith)) at e) in
    (ltb-true _ _ t.left, leb-true _ _ t.right)

-- what is asked of each card holds for that of a reach
asked_from : (asked : ℕ → ℕ → Card → Type 0) (n i j : ℕ) (cards : List Card) → EachFrom asked n i cards → j < length cards → asked n (i + j) (get_or cards j blank)
asked_from asked n i j [] h l = absurd (not-suc-le-zero l)
asked_from asked n i zero (c ∷ cs) h l = rw add-zero h.0
asked_from asked n i (suc j) (c ∷ cs) h l = rw (shift i j) (asked_from asked n (suc i) j cs h.1 (le_of_suc-le-suc l))
  where
    shift : (i j : ℕ) → i + suc j ≡ suc i + j
    shift i j = omega arith

pub asked_at : {asked : ℕ → ℕ → Card → Type 0} {cards : List Card} → Each asked cards → (j : ℕ) → j < length cards → asked (length cards) (suc j) (get_or cards j blank)
asked_at {asked} {cards} h j l = rw one-add at (asked_from asked (length cards) 1 j cards h.each l)
