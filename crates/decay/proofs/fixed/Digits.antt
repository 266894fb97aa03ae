-- Laws of fixed-point arithmetic: the product by two short products, the long division by chunks, and the bounds that the floor gives.
-- Assumes nothing.
use mathlib.Core.Path.{◌≡◌, sym, ◌∙◌, ap}
use Prim.Native.Nat.{ℕ, ◌+◌, ◌*◌, ◌/◌, ◌%◌, ◌≤◌, ◌<◌, zero-le}
use native.Mathlib.Nat.{
  div-add-mod',
  div-div-eq-div-mul,
  mul-add-div_right,
  mul-add-mod_self_right,
  div-lt_iff_lt-mul,
  div-le_of_le-mul,
  div-eq_of_lt,
  mod-eq_of_lt,
  mod-lt,
  mul-le-mul,
  mul-le-mul_left,
  mul-le-mul_right,
  mul-one,
  mul-lt-mul_of_pos_right,
  mul_comm,
  lt_of_le_of_lt,
}
use native.Mathlib.Omega.{arith}
use lib.Dec.{lit<}
use Rattle.decay.specs.Fixed.{one, product}
use Rattle.decay.specs.held.Digits.{small, chunked}
use Rattle.decay.specs.declared.fixed.Division.{Division}

-- a product in two halves of its second factor, for any place at which it is cut
halves : (a q r cut : ℕ) → 0 < cut → a * (q * cut + r) / cut ≡ a * q + a * r / cut
halves a q r cut h =
    ap (λ (n : ℕ). n / cut) {x = a * (q * cut + r)} {y = a * q * cut + a * r} (omega arith) ∙ mul-add-div_right h (a * q) (a * r)

pub product_halves : (a b : ℕ) → (a * (b / 262144) + a * (b % 262144) / 262144) / 67108864 ≡ product a b
unfolding product
product_halves a b =
    ap (λ (n : ℕ). n / 67108864)
    (sym (halves a (b / 262144) (b % 262144) 262144 (lit< tt)) ∙ ap (λ (n : ℕ). a * n / 262144) (div-add-mod' b 262144))
    ∙ div-div-eq-div-mul (a * b) 262144 67108864

pub one_pos : 0 < one
one_pos = lit< tt

-- a share of a number is at most the number
pub share_below : (a b : ℕ) → a ≤ one → product a b ≤ b
unfolding product
share_below a b h = div-le_of_le-mul one (mul-le-mul_right b h)

-- and so are two shares that together are at most one
pub shares_below : (a b c : ℕ) → a + b ≤ one → product a c + product b c ≤ c
unfolding product
shares_below a b c h = omega (arith, mul-le-mul_right c h, div-add-mod' (a * c) one, div-add-mod' (b * c) one)

-- a product is at most its first factor, 1/256 of it where the second is small
pub product_small : (a b : ℕ) → b ≤ small → 256 * product a b ≤ a
unfolding product
product_small a b h = omega (arith, mul-le-mul_left a h, div-add-mod' (a * b) one)

pub product_mono : {a b c d : ℕ} → a ≤ c → b ≤ d → product a b ≤ product c d
unfolding product
product_mono {a} {b} {c} {d} h k = omega (arith, mul-le-mul h k)

-- how a long division of n by d stands after bits that multiply by b
pub record Divided (n d b : ℕ) (part : Division) : Type 0 where
  pub digits_is : part.digits ≡ n * b / d
  pub rest_is : part.rest ≡ n * b % d

pub divided_start : (n d : ℕ) → n < d → Divided n d 1 (record { digits = 0; rest = n })
divided_start n d h =
    record {
      digits_is = sym (ap (λ (x : ℕ). x / d) (mul-one n) ∙ div-eq_of_lt h);
      rest_is = sym (ap (λ (x : ℕ). x % d) (mul-one n) ∙ mod-eq_of_lt h);
    }

more : (n d b c : ℕ) → n * (b * c) ≡ n * b / d * c * d + n * b % d * c
more n d b c = regroup (n * b / d) (n * b % d) (div-add-mod' (n * b) d)
  where
    regroup : (q r : ℕ) → q * d + r ≡ n * b → n * (b * c) ≡ q * c * d + r * c
    regroup q r e = omega (arith, ap (λ (x : ℕ). x * c) e)

pub divided_next : {n d b : ℕ} {part : Division} → 0 < d → Divided n d b part → Divided n d (b * 2048) (chunked part d)
divided_next {n} {d} {b} {part} h p =
    record {
      digits_is =
          rw (p.digits_is, p.rest_is)
          (sym (ap (λ (x : ℕ). x / d) (more n d b 2048) ∙ mul-add-div_right h (n * b / d * 2048) (n * b % d * 2048)));
      rest_is =
          rw p.rest_is (sym (ap (λ (x : ℕ). x % d) (more n d b 2048) ∙ mul-add-mod_self_right (n * b / d * 2048) d (n * b % d * 2048)));
    }

pub divided_digits : {n d b : ℕ} {part : Division} → n < d → 0 < b → Divided n d b part → part.digits < b
divided_digits {n} {d} {b} {part} h k p =
    rw p.digits_is
    ((div-lt_iff_lt-mul (lt_of_le_of_lt zero-le h)).1 (rw (mul_comm b d) (mul-lt-mul_of_pos_right h k)))

pub divided_rest : {n d b : ℕ} {part : Division} → 0 < d → Divided n d b part → part.rest < d
divided_rest {n} {d} {b} {part} h p = rw p.rest_is (mod-lt (n * b) h)
