-- Decimal notation is what it is meant to be: its digits stand for the number, and only 0 begins with the digit 0. Assumes nothing.
use mathlib.Core.Path.{◌≡◌, refl, ◌∙◌}
use mathlib.Core.List.{List, [], ◌∷◌, ◌++◌}
use Prim.Native.Nat.{ℕ, zero, suc, ◌+◌, ◌-◌, ◌*◌, ◌/◌, ◌%◌, ◌<◌}
use Prim.Native.Char.{code}
use native.Mathlib.Decide.{dec_le}
use native.Mathlib.Omega.{arith}
use borrow.Author.Tests.{lt-ltb, le-ltb}
use lib.ListN.{get_or}
use Rattle.text.specs.Text.{digit, digits_by, decimal, number}

-- what digits stand for, if those before them stand for v
abbrev pub value_after : (v : ℕ) → List ℕ → ℕ
value_after v [] = v
value_after v (d ∷ s) = value_after (10 * v + (d - code "0")) s

last_digit : (v : ℕ) (s : List ℕ) (d : ℕ) → value_after v (s ++ (d ∷ [])) ≡ 10 * value_after v s + (d - code "0")
last_digit v [] d = refl
last_digit v (c ∷ s) d = last_digit (10 * v + (c - code "0")) s d

first_digit : (s t : List ℕ) → 0 < get_or s 0 0 → get_or (s ++ t) 0 0 ≡ get_or s 0 0
first_digit [] t h = absurd (let x : ⊥ = omega arith in x)
first_digit (d ∷ s) t h = refl

value : (most n : ℕ) → n < most → value_after 0 (decimal most n) ≡ n
unfolding decimal digits_by
value zero n h = absurd (let x : ⊥ = omega arith in x)
value (suc most) n h =
    elim (dec_le 10 n) [
      | yes p ↦ rw (le-ltb n 10 p) (last_digit 0 (decimal most (n / 10)) (digit (n % 10)) ∙ omega (arith, value most (n / 10) (omega arith)))
      | no p ↦ let l : n < 10 = omega arith in rw (lt-ltb n 10 l) (omega arith)
    ]

leads : (most n : ℕ) → n < most → 0 < n → code "0" < get_or (decimal most n) 0 0
unfolding decimal digits_by
leads zero n h p = absurd (let x : ⊥ = omega arith in x)
leads (suc most) n h p =
    elim (dec_le 10 n) [
      | yes q ↦
          let r = leads most (n / 10) (omega arith) (omega arith) in
          rw (le-ltb n 10 q) (omega (arith, first_digit (decimal most (n / 10)) (digit (n % 10) ∷ []) (omega arith)))
      | no q ↦ let l : n < 10 = omega arith in rw (lt-ltb n 10 l) (omega arith)
    ]

-- THEOREM: the digits of a number stand for it
pub stands_for : (n : ℕ) → value_after 0 (number n) ≡ n
unfolding number
stands_for n = value (suc n) n (omega arith)

-- THEOREM: a number above 0 does not begin with the digit 0
pub no_leading_zero : (n : ℕ) → 0 < n → code "0" < get_or (number n) 0 0
unfolding number
no_leading_zero n p = leads (suc n) n (omega arith) p
