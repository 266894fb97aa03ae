-- How the program stores oxygen: as its units plus 2^31, so that no stored number is below zero.
use Rattle.std.specs.Prelude.{◌≡◌, ℕ, suc, ◌+◌, ◌*◌, ◌≤◌, ◌-◌, ℤ, pos, negsuc}
use Rattle.std.proofs.Math.IntN.{sub_ℕ}

-- the number that stores zero, 2^31
abbrev pub stored_zero : ℕ
stored_zero = 2_147_483_648

-- the largest number that four bytes hold
abbrev pub stored_limit : ℕ
stored_limit = 4_294_967_295

-- the oxygen that a stored number stands for: the program stores it with 2^31 added
unfoldable pub oxygen_of : ℕ → ℤ
oxygen_of stored = sub_ℕ stored stored_zero

-- the sum of flow × oxygen that a sum of flow × stored oxygen stands for, where the flows add up to Qu
abbrev pub oxygen_sum_of : (Qu sum : ℕ) → ℤ
oxygen_sum_of Qu sum = sub_ℕ sum (stored_zero * Qu)

-- the number that stores this oxygen
unfoldable pub stored_of : ℤ → ℕ
stored_of (pos n) = n + stored_zero
stored_of (negsuc n) = stored_zero - suc n

-- a stored number stands for this oxygen, and fits in four bytes
pub record Stores (stored : ℕ) (oxygen : ℤ) : Type 0 where
  pub is : oxygen_of stored ≡ oxygen
  pub fits : stored ≤ stored_limit
