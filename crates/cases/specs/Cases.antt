-- How the cases of a bundle lie in it: the length of a case in four bytes, high byte first, the case, and so on.
use Rattle.std.specs.Prelude.{◌≡◌, ℕ, ◌+◌, ◌<◌, ◌≤◌, List, length, take, drop}
use Rattle.river.specs.Bytes.{four_at}

-- what follows the length of a first case
abbrev pub behind_length : List ℕ → List ℕ
behind_length bytes = drop 4 bytes

-- how many bytes a first case takes, with its length
abbrev pub case_bytes : List ℕ → ℕ
case_bytes bytes = 4 + four_at bytes 0

-- bytes begin with a whole case, which others follow
pub record BeginsWith (bytes first others : List ℕ) : Type 0 where
  pub within : case_bytes bytes ≤ length bytes
  pub is_first : first ≡ take (four_at bytes 0) (behind_length bytes)
  pub are_others : others ≡ drop (four_at bytes 0) (behind_length bytes)

-- bytes are too few for a whole case, and stay
pub record NoWholeCase (bytes after : List ℕ) : Type 0 where
  pub short : length bytes < case_bytes bytes
  pub kept : after ≡ bytes
