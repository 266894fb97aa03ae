-- Fixed-point arithmetic: a share of one is a whole number of parts of 2^-44.
use Rattle.std.specs.Prelude.{ℕ, ◌*◌, ◌/◌}

-- the whole, 2^44
abbrev pub one : ℕ
one = 17_592_186_044_416

-- a share of a share: the product of two fixed-point numbers, rounded down
unfoldable pub product : ℕ → ℕ → ℕ
product a b = a * b / one

-- a fraction as a share of one, rounded down
unfoldable pub quotient : ℕ → ℕ → ℕ
quotient n d = n * one / d
