-- The record of a reach, which is an `RP` record and, in a river with nitrification, an `RN` record behind it: its figures as bytes, its size, and
-- the figures read back from bytes.
use Rattle.std.specs.Prelude.{is_some, Bool, false, ◌||◌, cond, List, [], ◌∷◌, ◌++◌, ℕ, ◌+◌, ◌*◌, ◌-◌, ltb, ℤ, pos, negsuc, drop}
use Prim.Native.Char.{code}
use Rattle.river.specs.declared.card.Card.{Card}
use Rattle.river.specs.declared.bytes.Mark.{Mark}
use Rattle.river.specs.Bytes.{mark, mark_bytes, two_bytes, four_bytes, byte_at, two_at, four_at}

-- whether a reach has an `NT` record, of zeros too
unfoldable pub is_nitrified : Card → Bool
is_nitrified card = is_some card.optionals.nitrification

-- whether a river has: at any of its reaches
unfoldable pub has_nitrification : List Card → Bool
has_nitrification [] = false
has_nitrification (card ∷ cards) = is_nitrified card || has_nitrification cards

-- the figures of a record, in file order
pub record Figures : Type 0 where
  pub depth : ℕ
  pub flow : ℕ
  pub head_bod : ℕ
  pub foot_bod : ℕ
  pub head_oxygen : ℤ
  pub critical_instant : ℕ
  pub critical_oxygen : ℤ
  pub foot_oxygen : ℤ
  pub status : ℕ
  pub head_nitrogenous : ℕ
  pub foot_nitrogenous : ℕ

-- oxygen in two's complement, as the whole number in its four bytes, and back; 4,294,967,295 is 2^32 - 1, and 2,147,483,648 is 2^31
unfoldable pub complement : ℤ → ℕ
complement (pos n) = n
complement (negsuc n) = 4_294_967_295 - n

unfoldable pub from_complement : ℕ → ℤ
from_complement n = cond (ltb n 2_147_483_648) (pos n) (negsuc (4_294_967_295 - n))

-- the marks of `RP` and `RN` records, and how many bytes each has
abbrev pub RP : Mark
RP = mark (code "R") (code "P")

abbrev pub RN : Mark
RN = mark (code "R") (code "N")

abbrev pub plain_bytes : ℕ
plain_bytes = 30

abbrev pub nitrogenous_bytes : ℕ
nitrogenous_bytes = 10

-- the bytes of an `RP` record: mark; depth; Q; head BOD; foot BOD; head oxygen; critical instant; critical oxygen; foot oxygen; status
unfoldable pub encode_plain : Figures → List ℕ
encode_plain f =
    mark_bytes RP ++
    f.depth ∷
    four_bytes f.flow ++
    four_bytes f.head_bod ++
    four_bytes f.foot_bod ++
    four_bytes (complement f.head_oxygen) ++
    two_bytes f.critical_instant ++
    four_bytes (complement f.critical_oxygen) ++ four_bytes (complement f.foot_oxygen) ++ f.status ∷ []

-- the bytes of an `RN` record: mark; head and foot nitrogenous BOD
unfoldable pub encode_nitrogenous : Figures → List ℕ
encode_nitrogenous f = mark_bytes RN ++ four_bytes f.head_nitrogenous ++ four_bytes f.foot_nitrogenous

-- the bytes of a reach's record, by whether its river has nitrification
unfoldable pub encode_record : (nitrified : Bool) → Figures → List ℕ
encode_record nitrified f = encode_plain f ++ cond nitrified (encode_nitrogenous f) []

-- how many bytes that is
abbrev pub record_bytes : (nitrified : Bool) → ℕ
record_bytes nitrified = cond nitrified (plain_bytes + nitrogenous_bytes) plain_bytes

-- how many bytes a river's records have each
abbrev pub record_size : List Card → ℕ
record_size cards = record_bytes (has_nitrification cards)

-- what stands in a report at place i, which is that of reach i + 1, where records have this size
abbrev pub record_at : (size : ℕ) → List ℕ → ℕ → List ℕ
record_at size report i = drop (size * i) report

-- nitrogenous BOD from the four bytes from a place on, and 0 in a river without nitrification
unfoldable pub nitrogenous_at : (nitrified : Bool) → List ℕ → (k : ℕ) → ℕ
nitrogenous_at nitrified s k = cond nitrified (four_at s k) 0

-- the figures read back from the record at the start of some bytes
unfoldable pub read_record : (nitrified : Bool) → List ℕ → Figures
read_record nitrified s =
    record {
      depth = byte_at s 2;
      flow = four_at s 3;
      head_bod = four_at s 7;
      foot_bod = four_at s 11;
      head_oxygen = from_complement (four_at s 15);
      critical_instant = two_at s 19;
      critical_oxygen = from_complement (four_at s 21);
      foot_oxygen = from_complement (four_at s 25);
      status = byte_at s 29;
      head_nitrogenous = nitrogenous_at nitrified s 32;
      foot_nitrogenous = nitrogenous_at nitrified s 36;
    }
