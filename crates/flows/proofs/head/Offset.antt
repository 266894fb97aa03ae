-- Signed numbers as differences of natural ones: sums, products and rounding down of numbers that are held with an offset.
-- Rounding down commutes with a whole offset, so a mean, a mixture or aeration of stored oxygen is one floor of natural numbers.
use mathlib.Core.Path.{◌≡◌, sym, ap, ◌∙◌}
use Prim.Native.Nat.{ℕ, suc, ◌+◌, ◌-◌, ◌*◌, ◌/◌, ◌≤◌, ◌<◌}
use native.Mathlib.Decide.{dec_le}
use native.Mathlib.Nat.{mul_comm, add-mul, suc-mul, add-mul-div_right, div-eq_of_lt-le, div-lt_iff_lt-mul, lt-div-mul-add, div-mul-le_self}
use native.Mathlib.Omega.{arith}
use borrow.Author.Tests.{lt-ltb, le-ltb}
use borrow.Author.Differences.{up, down}
use Rattle.std.proofs.lemmas.Int.{ints}
use lib.IntN.{ℤ, pos, negsuc, neg_ℤ, sub_ℕ, ◌+ℤ◌, ◌-ℤ◌, ◌*ℤ◌, *ℤ_comm}
use Rattle.flows.specs.Head.{floor}

-- a difference by the order of its two numbers
pub sub_pos : (a b : ℕ) → b ≤ a → sub_ℕ a b ≡ pos (a - b)
sub_pos a b h = rw (le-ltb a b h)

pub sub_neg : (a b : ℕ) → a < b → sub_ℕ a b ≡ negsuc (b - suc a)
sub_neg a b h = rw (lt-ltb a b h)

-- what a difference has above zero and below; sums of differences follow from this
apart : (a b : ℕ) → up (sub_ℕ a b) + b ≡ down (sub_ℕ a b) + a
apart a b = by_order (dec_le b a)
  where
    by_order : Dec (b ≤ a) → up (sub_ℕ a b) + b ≡ down (sub_ℕ a b) + a
    by_order (yes h) = rw (sub_pos a b h) (omega arith)
    by_order (no n) = rw (sub_neg a b (omega arith)) (omega arith)

-- two differences are equal where the cross sums are
pub sub_eq : (a b c d : ℕ) → a + d ≡ c + b → sub_ℕ a b ≡ sub_ℕ c d
sub_eq a b c d e = omega (arith, ints, apart a b, apart c d)

-- a whole number less another is their difference
pub minus : (a b : ℕ) → pos a -ℤ pos b ≡ sub_ℕ a b
minus a b = omega (arith, ints, apart a b)

-- a difference and a whole number
pub sub_plus : (a b c : ℕ) → sub_ℕ a b +ℤ pos c ≡ sub_ℕ (a + c) b
sub_plus a b c = omega (arith, ints, apart a b, apart (a + c) b)

-- two differences
pub sub_add : (a b c d : ℕ) → sub_ℕ a b +ℤ sub_ℕ c d ≡ sub_ℕ (a + c) (b + d)
sub_add a b c d = omega (arith, ints, apart a b, apart c d, apart (a + c) (b + d))

-- the difference of two numbers held with the same offset
pub sub_minus : (a b k : ℕ) → sub_ℕ a k -ℤ sub_ℕ b k ≡ sub_ℕ a b
sub_minus a b k = omega (arith, ints, apart a k, apart b k, apart a b)

-- minus a whole number
minus_pos : (n : ℕ) → neg_ℤ (pos n) ≡ sub_ℕ 0 n
minus_pos n = omega (arith, ints, apart 0 n)

-- a difference times a whole number
pub sub_times : (a b w : ℕ) → sub_ℕ a b *ℤ pos w ≡ sub_ℕ (a * w) (b * w)
sub_times a b w = by_order (dec_le b a)
  where
    scaled : (x y z : ℕ) → x + y ≡ z → x * w + y * w ≡ z * w
    scaled x y z e = sym (add-mul x y w) ∙ ap (λ (n : ℕ). n * w) e

    by_order : Dec (b ≤ a) → sub_ℕ a b *ℤ pos w ≡ sub_ℕ (a * w) (b * w)
    by_order (yes h) =
        let e = scaled (a - b) b a (omega arith) in
        ap (λ (z : ℤ). z *ℤ pos w) (sub_pos a b h) ∙ ap pos (omega (arith, e)) ∙ sym (sub_pos (a * w) (b * w) (omega (arith, e)))
    by_order (no n) =
        let m = b - suc a in
        ap (λ (z : ℤ). z *ℤ pos w) (sub_neg a b (omega arith))
        ∙ minus_pos (suc m * w)
        ∙ sub_eq 0 (suc m * w) (a * w) (b * w) (omega (arith, scaled (suc m) a b (omega arith)))

pub times_sub : (q a b : ℕ) → pos q *ℤ sub_ℕ a b ≡ sub_ℕ (q * a) (q * b)
times_sub q a b = *ℤ_comm (pos q) (sub_ℕ a b) ∙ sub_times a b q ∙ rw (mul_comm a q, mul_comm b q)

-- rounding down a number held with a whole multiple of the divisor as offset
pub floor_offset : (n k d : ℕ) → 0 < d → floor (sub_ℕ n (k * d)) d ≡ sub_ℕ (n / d) k
unfolding floor
floor_offset n k d p = by_order (dec_le (k * d) n)
  where
    by_order : Dec (k * d ≤ n) → floor (sub_ℕ n (k * d)) d ≡ sub_ℕ (n / d) k
    by_order (yes h) =
        let m = n - k * d in
        let e : m + k * d ≡ n = omega arith in
        let q : n / d ≡ m / d + k = ap (λ (x : ℕ). x / d) (sym e) ∙ add-mul-div_right m k p in
        ap (λ (z : ℤ). floor z d) (sub_pos n (k * d) h) ∙ ap pos (omega arith) ∙ sym (sub_pos (n / d) k (omega arith))
    by_order (no m) =
        let b : n / d < k = (div-lt_iff_lt-mul p).1 (omega arith) in
        ap (λ (z : ℤ). floor z d) (sub_neg n (k * d) (omega arith))
        ∙ ap negsuc (rest (k - suc (n / d)) (k * d - suc n) (omega (arith, b)) (omega arith))
        ∙ sym (sub_neg (n / d) k b)
      where
        rest : (j r : ℕ) → j + suc (n / d) ≡ k → r + suc n ≡ k * d → r / d ≡ j
        rest j r e f =
            let g : j * d + (n / d * d + d) ≡ k * d = rw (← e, add-mul, suc-mul) in
            div-eq_of_lt-le d (omega (arith, lt-div-mul-add {a = n} p)) (rw add-mul (omega (arith, div-mul-le_self n d)))
