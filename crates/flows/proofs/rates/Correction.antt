-- How far a correction goes: a rate stays small enough for the program's arithmetic; and what changes no rate.
use mathlib.Core.Path.{◌≡◌, refl}
use Prim.Native.Nat.{ℕ, zero, suc, ◌+◌, ◌-◌, ◌*◌, ◌≤◌}
use native.Mathlib.Nat.{le_trans, mul-le-mul, mul-le-mul_left, mul_comm, div-le_of_le-mul, mul-div_cancel}
use native.Mathlib.Omega.{arith}
use lib.Dec.{lit<, lit≤}
use Rattle.flows.specs.Rates.{scaled, warmed, cooled, corrected_rate}

-- what a rate of 20,000, in millionths, comes to where each degree doubles it; a ratio is far less
abbrev doubled : ℕ → ℕ
doubled zero = 20_000_000_000
doubled (suc d) = 2 * doubled d

doubled_grows : (d k : ℕ) → doubled d ≤ doubled (d + k)
doubled_grows d zero = rw (let e : d + 0 ≡ d = omega arith in e) (omega arith)
doubled_grows d (suc k) = rw (let e : d + suc k ≡ suc (d + k) = omega arith in e) (omega (arith, doubled_grows d k))

within_doubled : (n m d rate : ℕ) → n ≤ 1_100 → 1_000 ≤ m → rate ≤ 20_000_000_000 → scaled n m d rate ≤ doubled d
unfolding scaled
within_doubled n m zero rate f g r = r
within_doubled n m (suc d) rate f g r =
    div-le_of_le-mul m (omega (arith, mul-le-mul (within_doubled n m d rate f g r) f, mul-le-mul_left (doubled d) g))

at_most : (most n m d rate : ℕ) → n ≤ 1_100 → 1_000 ≤ m → d ≤ most → rate ≤ 20_000_000_000 → scaled n m d rate ≤ doubled most
at_most most n m d rate f g h r =
    le_trans (within_doubled n m d rate f g r) (rw (let e : d + (most - d) ≡ most = omega arith in e) at (doubled_grows d (most - d)))

-- a rate before the last of 20 degrees
pub scaled_small : (n m d rate : ℕ) → n ≤ 1_100 → 1_000 ≤ m → d ≤ 19 → rate ≤ 20_000_000_000 → scaled n m d rate ≤ 10_485_760_000_000_000
scaled_small = at_most 19

-- a rate at up to 15 degrees above 20
pub warmed_small : (factor d rate : ℕ) → factor ≤ 1_100 → d ≤ 15 → rate ≤ 20_000_000_000 → warmed factor d rate ≤ 655_360_000_000_000
warmed_small factor d rate f h r = at_most 15 factor 1_000 d rate f (lit≤ tt) h r

-- a rate below 20 degrees is at most that at 20
pub cooled_small : (factor d rate : ℕ) → 1_000 ≤ factor → cooled factor d rate ≤ rate
unfolding scaled
cooled_small factor zero rate f = omega arith
cooled_small factor (suc d) rate f =
    let before = cooled factor d rate in
    le_trans (div-le_of_le-mul factor (rw (mul_comm factor before) (mul-le-mul_left before f))) (cooled_small factor d rate f)

-- THEOREM: at 20 degrees a rate stays as it is, whatever the factor
pub at_twenty : (factor rate : ℕ) → corrected_rate factor 20 rate ≡ rate
unfolding corrected_rate scaled
at_twenty factor rate = mul-div_cancel rate (lit< tt)

-- nor does a ratio of 1
by_one : (d rate : ℕ) → scaled 1_000 1_000 d rate ≡ rate
unfolding scaled
by_one zero rate = refl
by_one (suc d) rate = rw (by_one d rate) (mul-div_cancel rate (lit< tt))

-- THEOREM: a factor of 1,000 changes no rate, at any temperature
pub thousand : (T rate : ℕ) → corrected_rate 1_000 T rate ≡ rate
unfolding corrected_rate
thousand T rate = rw (by_one (20 - T), by_one (T - 20)) (mul-div_cancel rate (lit< tt))
