-- Writing: the file of a river, and what writing leaves in a buffer.
use Rattle.std.specs.Prelude.{◌≡◌, Option, List, [], ◌∷◌, ◌++◌, ℕ, suc, ◌≤◌, ◌<◌, length, drop, leb}
use Rattle.river.specs.declared.card.Card.{Card}
use Rattle.river.specs.declared.card.RateFactors.{RateFactors}
use Rattle.river.specs.Bytes.{two_bytes, narrow_bytes, four_bytes, mark_bytes}
use Rattle.river.specs.Card.{RV, RE, optional, optional_of, count_ok, in_range, outlet_ok}
use Rattle.river.specs.Optional.{encode_optionals, optionals_in_range}
use Rattle.river.specs.Refusal.{Answer, accepted, refused, need, after}
use Rattle.river.specs.River.{River, LawfulRiver}
use Rattle.river.specs.Records.{factors_record}
use Rattle.river.specs.declared.refusal.Rule.TheVariants.{ReachCount, FieldRange, WrongOutlet, BufferShort}

-- the `RE` record of a card
abbrev pub encode_reach : Card → List ℕ
encode_reach c =
    mark_bytes RE ++
    c.outlet ∷
    c.temperature ∷
    narrow_bytes c.k1 ++
    narrow_bytes c.k2 ++
    four_bytes c.volume ++
    four_bytes c.inflow ++
    four_bytes c.inflow_bod ++ two_bytes c.inflow_oxygen ++ four_bytes c.load

-- the records of a card: its `RE` record, and those that follow it
abbrev pub encode_card : Card → List ℕ
encode_card c = encode_reach c ++ encode_optionals optional (optional_of c)

abbrev pub encode_cards : List Card → List ℕ
encode_cards [] = []
encode_cards (c ∷ cs) = encode_card c ++ encode_cards cs

-- the `RV` record of a reach count
abbrev pub encode_header : ℕ → List ℕ
encode_header n = mark_bytes RV ++ two_bytes n

-- the opening of a file: the header, and the record of the rate factors
abbrev pub encode_opening : ℕ → Option RateFactors → List ℕ
encode_opening n factors = encode_header n ++ factors_record.encode factors

-- the file of a river
unfoldable pub encode : River → List ℕ
encode r = encode_opening (length r.cards) r.factors ++ encode_cards r.cards

-- the card of reach i of n: 4 and 5, then 4 for the records that follow
unfoldable pub check_card : ℕ → ℕ → Card → Answer Unit
check_card n i c =
    need (in_range c) FieldRange i
    (need (outlet_ok n i c.outlet) WrongOutlet i (need (optionals_in_range optional (optional_of c)) FieldRange i (accepted tt)))

-- the cards of the reaches from i on, of n
unfoldable pub check_from : ℕ → ℕ → List Card → Answer Unit
check_from n i [] = accepted tt
check_from n i (c ∷ cs) = after (check_card n i c) (λ _. check_from n (suc i) cs)

-- 3 for a reach count n, then 4 with reach 0 for the rate factors, then the reaches
unfoldable pub check_river : ℕ → River → Answer Unit
check_river n r = need (count_ok n) ReachCount 0 (need (factors_record.in_range r.factors) FieldRange 0 (check_from n 1 r.cards))

-- the refusals of a river with n reaches, then 12 for a buffer of a length, else the file's length
unfoldable pub write_answer : ℕ → River → ℕ → Answer ℕ
write_answer n r room =
    after (check_river n r) (λ _. need (leb (length (encode r)) room) BufferShort 0 (accepted (length (encode r))))

-- the buffer that an answer leaves: the file at its start, and as it was after a refusal
unfoldable pub buffer_written : Answer ℕ → River → List ℕ → List ℕ
buffer_written (accepted l) r before = encode r ++ drop l before
buffer_written (refused x) r before = before

-- what a write of a river with n reaches is: its answer and the whole buffer
pub record Writes (n : ℕ) (r : River) (before : List ℕ) (w : Answer ℕ) (exit : List ℕ) : Type 0 where
  pub answer : w ≡ write_answer n r (length before)
  pub buffer : exit ≡ buffer_written w r before

-- what writing accepts: a lawful river whose file has room
pub record HasRoom (r : River) (room l : ℕ) : Type 0 where
  pub lawful : LawfulRiver r
  pub size : length (encode r) ≡ l
  pub fits : l ≤ room

-- each load is a number of four bytes, as the field's type has it
abbrev pub LoadsFit : List Card → Type 0
LoadsFit [] = Unit
LoadsFit (c ∷ cs) = (c.load < 4_294_967_296) × LoadsFit cs
