-- Cards: the ranges of their fields, outlets, the lawful lists of cards, and the records of a card.
use Rattle.std.specs.Prelude.{◌≡◌, Option, Some, None, Bool, true, ◌&&◌, cond, List, [], ◌∷◌, ℕ, suc, ◌+◌, ◌≤◌, ◌<◌, length, take, leb, ltb, eqb}
use Prim.Native.Char.{code}
use Rattle.river.specs.declared.card.Card.{Card}
use Rattle.river.specs.declared.card.Cards.{Cards}
use Rattle.river.specs.declared.card.Optionals.{Optionals}
use Rattle.river.specs.declared.card.Dam.{Dam}
use Rattle.river.specs.declared.card.Nitrification.{Nitrification}
use Rattle.river.specs.declared.source.Demand.TheVariants.{Nitrogenous}
use Rattle.river.specs.Bytes.{Mark, mark}
use Rattle.river.specs.Described.{InRange}
use Rattle.river.specs.Records.{DM, dam_record, take_record, pressure_record, sludge_record, rate_most, NT, nitrification_record}
use Rattle.river.specs.Optional.{Kind, Values, Fielded, AllInRange, absent, encode_optionals, sizes}
use Rattle.river.specs.Source.{rate_of}

-- the cards of a `Cards` value: its first `count`; reach i is element i - 1
abbrev pub card_list : Cards → List Card
card_list cs = take cs.count cs.at

-- an amount, or what stands for none
abbrev pub amount_or : ℕ → Option ℕ → ℕ
amount_or none None = none
amount_or none (Some n) = n

-- a card's optional fields: their records in file order, and both ways between the fields and what is held of these
abbrev pub fields : Fielded Optionals
fields =
    record {
      records = take_record ∷ pressure_record ∷ sludge_record ∷ nitrification_record ∷ [];
      values = λ o. (o.take, (o.pressure, (o.sludge, (o.nitrification, tt))));
      make = λ vs. record { take = vs.0; pressure = vs.1.0; sludge = vs.1.1.0; nitrification = vs.1.1.1.0 };
    }

abbrev pub field_records : List Kind
field_records = fields.records

abbrev pub fields_of : Optionals → Values field_records
fields_of = fields.values

abbrev pub optionals_of : Values field_records → Optionals
optionals_of = fields.make

-- none of a card's optional fields
abbrev pub no_optionals : Optionals
no_optionals = optionals_of (absent field_records)

-- optional fields with another take, pressure, sludge bed or nitrification
abbrev pub with_take : Option ℕ → Optionals → Optionals
with_take take o = let vs = fields_of o in optionals_of (take, vs.1)

abbrev pub with_pressure : Option ℕ → Optionals → Optionals
with_pressure pressure o = let vs = fields_of o in optionals_of (vs.0, (pressure, vs.1.1))

abbrev pub with_sludge : Option ℕ → Optionals → Optionals
with_sludge sludge o = let vs = fields_of o in optionals_of (vs.0, (vs.1.0, (sludge, vs.1.1.1)))

abbrev pub with_nitrification : Option Nitrification → Optionals → Optionals
with_nitrification nitrification o = let vs = fields_of o in optionals_of (vs.0, (vs.1.0, (vs.1.1.0, (nitrification, vs.1.1.1.1))))

-- the card that stands for a reach beyond the last one
abbrev pub blank : Card
blank =
    record {
      outlet = 0;
      temperature = 0;
      k1 = 0;
      k2 = 0;
      volume = 0;
      inflow = 0;
      inflow_bod = 0;
      inflow_oxygen = 0;
      load = 0;
      dam = None;
      optionals = no_optionals;
    }

-- the ranges of an `RE` record's fields, its rates aside
pub record FieldsInRange (c : Card) : Type 0 where
  pub temperature : c.temperature ≤ 35
  pub volume : c.volume ≤ 1_000_000_000
  pub inflow : c.inflow ≤ 100_000_000
  pub inflow_bod : c.inflow_bod ≤ 1_000_000
  pub inflow_oxygen : c.inflow_oxygen ≤ 20_000

-- a nitrification with its rate left out, and one whose numbers are in range, its rate aside
abbrev pub without_rate : Option Nitrification → Option Nitrification
without_rate None = None
without_rate (Some n) = Some (record n { rate = 0 })

abbrev pub RegularNitrification : Option Nitrification → Type 0
RegularNitrification n = InRange NT (without_rate n)

-- the ranges of a card's rates; one without nitrification has a nitrogenous rate of 0
pub record RatesInRange (c : Card) : Type 0 where
  pub k1 : c.k1 ≤ rate_most
  pub k2 : c.k2 ≤ rate_most
  pub nitrogenous : rate_of Nitrogenous c ≤ rate_most

-- the outlet of reach i of n: a larger number, at most n; 0 for the last reach and for no other
unfoldable pub outlet_ok : ℕ → ℕ → ℕ → Bool
outlet_ok n i o = cond (eqb i n) (eqb o 0) (ltb i o && leb o n)

-- what is asked of a card's optional fields: all in range, the nitrogenous rate left out
abbrev pub without_rates : Optionals → Optionals
without_rates o = with_nitrification (without_rate o.nitrification) o

pub record RegularOptionals (o : Optionals) : Type 0 where
  pub in_range : AllInRange field_records (fields_of (without_rates o))

-- what is asked of the card of reach i of n, its rates aside, so of a card with the rates in force too; any load that four bytes hold will do
pub record RegularCard (n i : ℕ) (c : Card) : Type 0 where
  pub in_range : FieldsInRange c
  pub load : c.load < 4_294_967_296
  pub outlet : outlet_ok n i c.outlet ≡ true
  pub dam : InRange DM c.dam
  pub optionals : RegularOptionals c.optionals

-- a lawful card of reach i of n: a regular one with its rates in range
pub record LawfulCard (n i : ℕ) (c : Card) : Type 0 where
  pub regular : RegularCard n i c
  pub rates : RatesInRange c

-- each card of the reaches from i on, of n, is as asked, by the reach count and its number
abbrev pub EachFrom : (ℕ → ℕ → Card → Type 0) → ℕ → ℕ → List Card → Type 0
EachFrom asked n i [] = Unit
EachFrom asked n i (c ∷ cs) = asked n i c × EachFrom asked n (suc i) cs

-- 1 to 128 cards, numbered from 1, each as asked
pub record Each (asked : ℕ → ℕ → Card → Type 0) (cs : List Card) : Type 0 where
  pub some : 1 ≤ length cs
  pub few : length cs ≤ 128
  pub each : EachFrom asked (length cs) 1 cs

-- lawful cards, and regular ones
abbrev pub Lawful : List Card → Type 0
Lawful = Each LawfulCard

abbrev pub Regular : List Card → Type 0
Regular = Each RegularCard

-- the tests of these ranges; that of a record has its rates, too
unfoldable pub in_range : Card → Bool
in_range c =
    leb c.temperature 35 &&
    (leb c.k1 rate_most &&
    (leb c.k2 rate_most &&
    (leb c.volume 1_000_000_000 &&
    (leb c.inflow 100_000_000 && (leb c.inflow_bod 1_000_000 && leb c.inflow_oxygen 20_000)))))

unfoldable pub rates_in_range : Card → Bool
rates_in_range c = leb c.k1 rate_most && (leb c.k2 rate_most && leb (rate_of Nitrogenous c) rate_most)

-- the test of a reach count
unfoldable pub count_ok : ℕ → Bool
count_ok n = leb 1 n && leb n 128

-- the `RV` and `RE` records: their marks and lengths
abbrev pub RV : Mark
RV = mark (code "R") (code "V")

abbrev pub header_bytes : ℕ
header_bytes = 4

abbrev pub RE : Mark
RE = mark (code "R") (code "E")

abbrev pub reach_bytes : ℕ
reach_bytes = 26

-- the records that may follow an `RE` record, in file order
abbrev pub optional : List Kind
optional = dam_record ∷ field_records

-- what a dam and optional fields are of them, and what a card holds
abbrev pub values_of : Option Dam → Optionals → Values optional
values_of dam o = (dam, fields_of o)

abbrev pub optional_of : Card → Values optional
optional_of c = values_of c.dam c.optionals

-- the length of a card's records, and that of the longest card's
abbrev pub size_of : Card → ℕ
size_of c = reach_bytes + length (encode_optionals optional (optional_of c))

abbrev pub longest_card : ℕ
longest_card = reach_bytes + sizes optional
