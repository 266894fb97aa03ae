-- Cards with the rates in force: what they have of the cards as given, and that they are lawful too where they pass the flow check.
use mathlib.Core.Path.{◌≡◌, refl, sym, ap, subst, ◌∙◌}
use mathlib.Core.List.{List, [], ◌∷◌, ◌++◌, map}
use Prim.Native.Nat.{ℕ, zero, suc, ◌<◌}
use native.Mathlib.Nat.{not-suc-le-zero, le_of_suc-le-suc}
use native.Mathlib.Omega.{arith}
use lib.ListN.{length, take, drop, get_or, length-map}
use Rattle.std.specs.Prelude.{Option, Some, None}
use Rattle.river.specs.declared.card.Card.{Card}
use Rattle.river.specs.declared.card.Nitrification.{Nitrification}
use Rattle.river.specs.declared.card.RateFactors.{RateFactors}
use Rattle.river.specs.Card.{RegularNitrification, RegularCard, LawfulCard, RatesInRange, EachFrom, Lawful, Regular, blank}
use Rattle.river.specs.River.{River}
use Rattle.flows.specs.Rates.{decay_in_force, aeration_in_force, with_rate, card_in_force, in_force, CorrectableCard}
use Rattle.flows.specs.Flow.{Flows}
use Rattle.river.proofs.range.Ranges.{regular_nitrification, regular_with, asked_at}
use Rattle.flows.proofs.rates.Correction.{thousand}

-- factors that change no rate leave the cards as given
record ChangesNothing (f : Option RateFactors) : Type 0 where
  decay : (T rate : ℕ) → decay_in_force f T rate ≡ rate
  aeration : (T rate : ℕ) → aeration_in_force f T rate ≡ rate

module _ (f : Option RateFactors) (still : ChangesNothing f) where
  nitrification_stays : (T : ℕ) (n : Option Nitrification) → with_rate (decay_in_force f T) n ≡ n
  nitrification_stays T None = refl
  nitrification_stays T (Some n) = rw still.decay

  card_stays : (c : Card) → card_in_force f c ≡ c
  card_stays c = rw (nitrification_stays, still.decay, still.aeration)

  cards_stay : (cs : List Card) → map (card_in_force f) cs ≡ cs
  cards_stay [] = refl
  cards_stay (c ∷ cs) = λ j. card_stays c j ∷ cards_stay cs j

-- no factors
pub as_given : (cs : List Card) → map (card_in_force None) cs ≡ cs
unfolding decay_in_force aeration_in_force
as_given = cards_stay None (record { decay = λ T rate. refl; aeration = λ T rate. refl })

-- THEOREM: and factors of 1,000, at any temperature
pub nothing_corrected : (cs : List Card) → map (card_in_force (Some (record { decay = 1_000; aeration = 1_000 }))) cs ≡ cs
unfolding decay_in_force aeration_in_force
nothing_corrected = cards_stay (Some (record { decay = 1_000; aeration = 1_000 })) (record { decay = thousand; aeration = thousand })

-- the card of a reach
pub card_in_force_lem : (f : Option RateFactors) (cs : List Card) (j : ℕ) → j < length cs → get_or (map (card_in_force f) cs) j blank ≡ card_in_force f (get_or cs j blank)
card_in_force_lem f [] j l = absurd (not-suc-le-zero l)
card_in_force_lem f (c ∷ cs) zero l = refl
card_in_force_lem f (c ∷ cs) (suc j) l = card_in_force_lem f cs j (le_of_suc-le-suc l)

-- where the cards before it are corrected, the next is as given
pub next_given : (f : Card → Card) (cs : List Card) (i : ℕ) {now : List Card} → now ≡ map f (take i cs) ++ drop i cs → i < length cs → get_or now i blank ≡ get_or cs i blank
next_given f cs i e l = ap (λ (s : List Card). get_or s i blank) e ∙ same cs i l
  where
    same : (cs : List Card) (i : ℕ) → i < length cs → get_or (map f (take i cs) ++ drop i cs) i blank ≡ get_or cs i blank
    same [] i l = absurd (not-suc-le-zero l)
    same (c ∷ cs) zero l = refl
    same (c ∷ cs) (suc i) l = same cs i (le_of_suc-le-suc l)

-- cards that were lawful stay regular
nitrification_regular : (change : ℕ → ℕ) (n : Option Nitrification) → RegularNitrification n → RegularNitrification (with_rate change n)
nitrification_regular change None h = tt
nitrification_regular change (Some n) h = h

card_regular : (f : Option RateFactors) (n i : ℕ) (c : Card) → RegularCard n i c → RegularCard n i (card_in_force f c)
card_regular f n i c h =
    record {
      in_range =
          record {
            temperature = h.in_range.temperature;
            volume = h.in_range.volume;
            inflow = h.in_range.inflow;
            inflow_bod = h.in_range.inflow_bod;
            inflow_oxygen = h.in_range.inflow_oxygen;
          };
      load = h.load;
      outlet = h.outlet;
      dam = h.dam;
      optionals = regular_with (nitrification_regular (decay_in_force f c.temperature) c.optionals.nitrification (regular_nitrification h.optionals)) h.optionals;
    }

regular_from : (f : Option RateFactors) (n i : ℕ) (cs : List Card) → EachFrom LawfulCard n i cs → EachFrom RegularCard n i (map (card_in_force f) cs)
regular_from f n i [] h = tt
regular_from f n i (c ∷ cs) h = (card_regular f n i c h.0.regular, regular_from f n (suc i) cs h.1)

pub regular_in_force : (r : River) → Lawful r.cards → Regular (in_force r)
regular_in_force r h =
    let same = length-map r.cards (card_in_force r.factors) in
    record {
      some = rw same h.some;
      few = rw same h.few;
      each = subst (λ (n : ℕ). EachFrom RegularCard n 1 (in_force r)) (sym same) (regular_from r.factors (length r.cards) 1 r.cards h.each);
    }

-- lawful cards are regular as they are given, too
given_regular : (n i : ℕ) (cs : List Card) → EachFrom LawfulCard n i cs → EachFrom RegularCard n i cs
given_regular n i [] h = tt
given_regular n i (c ∷ cs) h = (h.0.regular, given_regular n (suc i) cs h.1)

pub regular_of_lawful : {cs : List Card} → Lawful cs → Regular cs
regular_of_lawful {cs} h = record { some = h.some; few = h.few; each = given_regular (length cs) 1 cs h.each }

-- a lawful card can be corrected
pub correctable : {cs : List Card} → Lawful cs → (j : ℕ) → j < length cs → CorrectableCard (get_or cs j blank)
correctable h j l = let c = asked_at h j l in record { temperature = c.regular.in_range.temperature; rates = c.rates }

-- regular cards that pass check 15 are lawful
lawful_from : (n i : ℕ) (cs : List Card) → EachFrom RegularCard n i cs → ((j : ℕ) → j < length cs → RatesInRange (get_or cs j blank)) → EachFrom LawfulCard n i cs
lawful_from n i [] h r = tt
lawful_from n i (c ∷ cs) h r = (record { regular = h.0; rates = r 0 (omega arith) }, lawful_from n (suc i) cs h.1 (λ j l. r (suc j) (omega arith)))

pub lawful_of_flows : {cs : List Card} → Regular cs → Flows cs → Lawful cs
lawful_of_flows {cs} h f =
    record { some = h.some; few = h.few; each = lawful_from (length cs) 1 cs h.each (λ j l. (f.each j l).range_rule) }
