-- Fractions: a signed whole numerator over a positive whole denominator. Two fractions are compared by multiplying across, and so are errors.
-- Equality, order and distance are those of the rational numbers; a fraction need not be in lowest terms.
use Rattle.std.specs.Prelude.{◌≡◌, ℕ, zero, suc, ◌*◌, ◌<◌, ℤ, pos, negsuc, neg_ℤ, nat_abs, ◌+ℤ◌, ◌*ℤ◌, ◌≤ℤ◌}
use Rattle.std.proofs.Common.{zero-le, suc-le-suc, mul-pos, lit<}

pub record Fraction : Type 0 where
  pub num : ℤ
  pub den : ℕ
  pub den_pos : 0 < den

infix 4 ◌≈◌ ◌≼◌
infixl 6 ◌+ᶠ◌ ◌-ᶠ◌
infixl 7 ◌*ᶠ◌ ◌÷◌
infix 8 -ᶠ◌
-- a = b
pub record ◌≈◌ (a b : Fraction) : Type 0 where
  pub across : a.num *ℤ pos b.den ≡ b.num *ℤ pos a.den

-- a <= b
pub record ◌≼◌ (a b : Fraction) : Type 0 where
  pub across : (a.num *ℤ pos b.den) ≤ℤ (b.num *ℤ pos a.den)

-- a whole number as a fraction
unfoldable pub of_ℤ : ℤ → Fraction
of_ℤ z = record { num = z; den = 1; den_pos = lit< tt }

abbrev pub of_ℕ : ℕ → Fraction
of_ℕ n = of_ℤ (pos n)

-- a + b
unfoldable pub ◌+ᶠ◌ : Fraction → Fraction → Fraction
a +ᶠ b =
    record {
      num = a.num *ℤ pos b.den +ℤ b.num *ℤ pos a.den;
      den = a.den * b.den;
      den_pos = mul-pos a.den_pos b.den_pos;
    }

-- −a
unfoldable pub -ᶠ◌ : Fraction → Fraction
-ᶠ a = record { num = neg_ℤ a.num; den = a.den; den_pos = a.den_pos }

-- a − b
abbrev pub ◌-ᶠ◌ : Fraction → Fraction → Fraction
a -ᶠ b = a +ᶠ (-ᶠ b)

-- a × b
unfoldable pub ◌*ᶠ◌ : Fraction → Fraction → Fraction
a *ᶠ b = record { num = a.num *ℤ b.num; den = a.den * b.den; den_pos = mul-pos a.den_pos b.den_pos }

-- d / n for a whole d and a signed n: the sign goes to the numerator, and the answer is 0 where n is 0
unfoldable pub over : ℕ → ℤ → Fraction
over d (pos zero) = of_ℕ 0
over d (pos (suc n)) = record { num = pos d; den = suc n; den_pos = suc-le-suc zero-le }
over d (negsuc n) = record { num = neg_ℤ (pos d); den = suc n; den_pos = suc-le-suc zero-le }

-- a / b, total: dividing by 0 gives 0
unfoldable pub ◌÷◌ : Fraction → Fraction → Fraction
a ÷ b = a *ᶠ over b.den b.num

-- the absolute value of a
unfoldable pub ∣◌∣ᶠ : Fraction → Fraction
∣ a ∣ᶠ = record { num = pos (nat_abs a.num); den = a.den; den_pos = a.den_pos }

-- how far a lies from b, above or below
unfoldable pub distance : Fraction → Fraction → Fraction
distance a b = ∣ a -ᶠ b ∣ᶠ
