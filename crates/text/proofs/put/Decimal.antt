-- The digits of `io::decimal` are those of decimal notation. Assumes nothing.
use mathlib.Core.Path.{◌≡◌, ap₂}
use mathlib.Core.List.{List, [], ◌∷◌, ◌++◌}
use Prim.Native.Nat.{ℕ, zero, suc, ◌-◌, ◌*◌, ◌/◌, ◌%◌, ◌^◌, ◌≤◌, ◌<◌}
use native.Mathlib.Omega.{arith}
use native.Mathlib.Decide.{dec_le}
use native.Mathlib.Nat.{mod-eq_of_lt, pow-succ', pow-le-pow_right}
use native.Mathlib.Numerals.{sub-one}
use lib.Dec.{lit<}
use borrow.Author.Tests.{lt-ltb, le-ltb}
use Rattle.io.specs.Digits.{last_digits, hex_digit_ascii, IsDigitCount}
use Rattle.text.specs.Text.{digit, digits_by, decimal, number}

-- a digit below ten
glyph_is : (d : ℕ) → d < 10 → hex_digit_ascii d ≡ digit d
glyph_is d h = rw (lt-ltb d 10 h)

-- the fewest digits that hold a number are its digits
same : (most n k : ℕ) → n < most → IsDigitCount 10 1 n k → last_digits 10 k n ≡ decimal most n
unfolding decimal digits_by
same zero n k h f = absurd (let x : ⊥ = omega arith in x)
same (suc most) n zero h f = absurd (let x : ⊥ = omega arith in x)
same (suc most) n (suc zero) h f =
    let b : n < 10 = omega arith in
    rw (lt-ltb n 10 b, mod-eq_of_lt b, glyph_is n b)
same (suc most) n (suc (suc k)) h f =
    let some : 10 ^ 0 ≤ 10 ^ k = pow-le-pow_right (lit< tt) {i = 0} {j = k} (omega arith) in
    let low : 10 * 10 ^ k ≤ n = rw (sub-one, pow-succ') at (f.2 (omega arith)) in
    let high : n < 10 * 10 ^ suc k = rw pow-succ' at f.1 in
    let b : 10 ≤ n = omega arith in
    rw (le-ltb n 10 b)
    (ap₂ (λ (x : List ℕ) (d : ℕ). x ++ (d ∷ [])) (same most (n / 10) (suc k) (omega arith) (omega arith, omega arith, λ _. rw sub-one (omega arith))) (glyph_is (n % 10) (omega arith)))

-- a number of 64 bits takes at most 20 digits
pub few : (n k : ℕ) → n < 2 ^ 64 → IsDigitCount 10 1 n k → k ≤ 20
few n k h f =
    elim (dec_le k 20) [
      | yes p ↦ p
      | no p ↦
          let many : 10 ^ 20 ≤ 10 ^ (k - 1) = pow-le-pow_right (lit< tt) {i = 20} {j = k - 1} (omega arith) in
          omega (arith, f.2 (omega arith))
    ]

-- so what `io::decimal` puts is the number in decimal
pub decimal_is : (n k : ℕ) → IsDigitCount 10 1 n k → last_digits 10 k n ≡ number n
unfolding number
decimal_is n k f = same (suc n) n k (omega arith) f
