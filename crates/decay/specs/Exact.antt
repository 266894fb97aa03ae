-- The exact fractions of the river file paper, "Along a reach": x1 and x2 at instant m, S(x) with N terms, and F in its two cases.
use Rattle.std.specs.Prelude.{cond, ℕ, zero, suc, ◌*◌, eqb}
use Rattle.decay.specs.Fraction.{Fraction, of_ℕ, ◌+ᶠ◌, -ᶠ◌, ◌-ᶠ◌, ◌*ᶠ◌, ◌÷◌}

-- a reach is 1,024 steps, and its instants are those from 0, its head, to its foot
abbrev pub steps : ℕ
steps = 1_024

abbrev pub foot : ℕ
foot = steps

-- x1 or x2 at instant m: k × volume / (86,400 × Q), multiplied by m / 1024
unfoldable pub exponent : (k volume Q m : ℕ) → Fraction
exponent k volume Q m = of_ℕ (k * volume * m) ÷ of_ℕ (86_400 * 1_024 * Q)

-- x^j
unfoldable pub power : Fraction → ℕ → Fraction
power x zero = of_ℕ 1
power x (suc j) = power x j *ᶠ x

-- j!
unfoldable pub factorial : ℕ → ℕ
factorial zero = 1
factorial (suc j) = suc j * factorial j

-- (−x)^j / j!
unfoldable pub term : Fraction → ℕ → Fraction
term x j = power (-ᶠ x) j ÷ of_ℕ (factorial j)

-- the sum of f j for j from 0 to N − 1
unfoldable pub sum : (ℕ → Fraction) → ℕ → Fraction
sum f zero = of_ℕ 0
sum f (suc N) = sum f N +ᶠ f N

-- S(x): the sum of (−x)^j / j! for j from 0 to N − 1
unfoldable pub S : ℕ → Fraction → Fraction
S N x = sum (term x) N

-- F at instant m: x1 × S(x1) if the rates are equal, and otherwise k1 / (k2 − k1) × (S(x1) − S(x2))
unfoldable pub F : (N k1 k2 volume Q m : ℕ) → Fraction
F N k1 k2 volume Q m =
    let x1 = exponent k1 volume Q m in
    let x2 = exponent k2 volume Q m in
    cond (eqb k1 k2) (x1 *ᶠ S N x1) (of_ℕ k1 ÷ (of_ℕ k2 -ᶠ of_ℕ k1) *ᶠ (S N x1 -ᶠ S N x2))
