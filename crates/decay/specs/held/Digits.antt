-- How large the factors and divisors of fixed-point numbers are, and a long division in chunks of eleven bits.
use Rattle.std.specs.Prelude.{ℕ, ◌+◌, ◌*◌, ◌/◌, ◌%◌}
use Rattle.decay.specs.declared.fixed.Division.{Division}

-- the largest second factor of a product, 2^36
abbrev pub small : ℕ
small = 68_719_476_736

-- the largest divisor, 2^53
abbrev pub large : ℕ
large = 9_007_199_254_740_992

-- a long division after eleven more bits
abbrev pub chunked : Division → ℕ → Division
chunked part d =
    record { digits = part.digits * 2_048 + part.rest * 2_048 / d; rest = part.rest * 2_048 % d }
