-- Whole numbers as bytes, high byte first, and two-byte marks.
use Rattle.std.specs.Prelude.{ℕ, ◌+◌, ◌*◌, ◌/◌, ◌%◌, ◌<◌, ◌≡◌, List, [], ◌∷◌, ◌++◌, Bool, ◌&&◌, get_or, length, eqb}
use Rattle.std.proofs.lemmas.List.Edits.{sets}
pub use Rattle.river.specs.declared.bytes.Mark.{Mark}

-- every element is a byte
pub record AreBytes (s : List ℕ) : Type 0 where
  pub below : (k : ℕ) → get_or s k 0 < 256

-- a number as two bytes
abbrev pub two_bytes : ℕ → List ℕ
two_bytes x = x / 256 ∷ x % 256 ∷ []

-- a number as two bytes, modulo 65,536, for a field whose numbers in range are smaller
abbrev pub narrow_bytes : ℕ → List ℕ
narrow_bytes x = two_bytes (x % 65_536)

-- a number as four bytes
abbrev pub four_bytes : ℕ → List ℕ
four_bytes x = two_bytes (x / 65_536) ++ two_bytes (x % 65_536)

-- the byte at a place
abbrev pub byte_at : List ℕ → ℕ → ℕ
byte_at s k = get_or s k 0

-- the number in the two bytes from a place on
abbrev pub two_at : List ℕ → ℕ → ℕ
two_at s k = byte_at s k * 256 + byte_at s (k + 1)

-- the number in the four bytes from a place on
abbrev pub four_at : List ℕ → ℕ → ℕ
four_at s k = two_at s k * 65_536 + two_at s (k + 2)

-- a two-byte mark
abbrev pub mark : ℕ → ℕ → Mark
mark a b = record { first = a; second = b }

-- the bytes of a mark
abbrev pub mark_bytes : Mark → List ℕ
mark_bytes m = m.first ∷ m.second ∷ []

-- whether bytes begin with a mark
abbrev pub marked : List ℕ → Mark → Bool
marked s m = eqb (byte_at s 0) m.first && eqb (byte_at s 1) m.second

-- bytes are put at a place of a buffer, and the rest of it is kept; the next place is behind them
pub record Put (before : List ℕ) (at : ℕ) (bytes exit : List ℕ) (next : ℕ) : Type 0 where
  pub buffer : exit ≡ sets before at bytes
  pub place : next ≡ at + length bytes
