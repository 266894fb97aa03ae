-- Rivers: rate factors, none or two, and cards. The factors stand in a `Th` record between the header and the first reach.
use Rattle.std.specs.Prelude.{Option, List, ℕ, ◌+◌, ◌*◌, length}
use Rattle.river.specs.declared.card.Card.{Card}
use Rattle.river.specs.declared.card.RateFactors.{RateFactors}
use Rattle.river.specs.Card.{Lawful, header_bytes, longest_card}
use Rattle.river.specs.Described.{InRange}
use Rattle.river.specs.Records.{Th, factors_record}

-- a river, and that of some factors and cards
pub record River : Type 0 where
  pub factors : Option RateFactors
  pub cards : List Card

abbrev pub river_of : Option RateFactors → List Card → River
river_of factors cards = record { factors = factors; cards = cards }

-- a lawful river, which is one that has a file
pub record LawfulRiver (r : River) : Type 0 where
  pub factors : InRange Th r.factors
  pub cards : Lawful r.cards

-- the length of a file's opening, which is the header and the record of its factors, and that of the longest opening
abbrev pub opening_size : Option RateFactors → ℕ
opening_size factors = header_bytes + length (factors_record.encode factors)

abbrev pub longest_opening : ℕ
longest_opening = header_bytes + factors_record.size

-- the length of the longest file: the longest opening, and 128 of the longest cards
abbrev pub longest_file : ℕ
longest_file = longest_opening + 128 * longest_card
