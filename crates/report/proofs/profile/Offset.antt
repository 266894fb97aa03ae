-- Numbers that are held with an offset: differences less a number, their order, and rounding down.
-- Assumes nothing.
use mathlib.Core.Path.{◌≡◌, sym, ap, ◌∙◌}
use Prim.Native.Nat.{ℕ, zero, suc, ◌+◌, ◌-◌, ◌*◌, ◌/◌, ◌≤◌, ◌<◌}
use native.Mathlib.Decide.{dec_le}
use native.Mathlib.Omega.{arith}
use borrow.Author.Tests.{lt-ltb, le-ltb}
use lib.Dec.{ltb}
use lib.IntN.{ℤ, pos, negsuc, neg_ℤ, sub_ℕ, ◌-ℤ◌}
use lib.Signed.{lt_z}
use Rattle.decay.specs.Fixed.{one}
use Rattle.flows.specs.Head.{floor}
use Rattle.flows.proofs.head.Offset.{sub_pos, sub_neg, sub_eq, minus}

neg_less : (n c : ℕ) → negsuc n -ℤ pos c ≡ negsuc (n + c)
neg_less n zero = sub_neg 0 (suc n) (omega arith) ∙ ap negsuc (omega arith)
neg_less n (suc c) = ap negsuc (omega arith)

-- a difference less a whole number
pub sub_less : (a b c : ℕ) → sub_ℕ a b -ℤ pos c ≡ sub_ℕ a (b + c)
sub_less a b c = by_order (dec_le b a)
  where
    by_order : Dec (b ≤ a) → sub_ℕ a b -ℤ pos c ≡ sub_ℕ a (b + c)
    by_order (yes h) =
        ap (λ (z : ℤ). z -ℤ pos c) (sub_pos a b h) ∙ minus (a - b) c ∙ sub_eq (a - b) c a (b + c) (omega arith)
    by_order (no n) =
        ap (λ (z : ℤ). z -ℤ pos c) (sub_neg a b (omega arith))
        ∙ neg_less (b - suc a) c
        ∙ ap negsuc (omega arith)
        ∙ sym (sub_neg a (b + c) (omega arith))

-- a whole number less a difference
pub less_sub : (a b c : ℕ) → pos a -ℤ sub_ℕ b c ≡ sub_ℕ (a + c) b
less_sub a b c = by_order (dec_le c b)
  where
    by_order : Dec (c ≤ b) → pos a -ℤ sub_ℕ b c ≡ sub_ℕ (a + c) b
    by_order (yes h) =
        ap (λ (z : ℤ). pos a -ℤ z) (sub_pos b c h) ∙ minus a (b - c) ∙ sub_eq a (b - c) (a + c) b (omega arith)
    by_order (no n) =
        ap (λ (z : ℤ). pos a -ℤ z) (sub_neg b c (omega arith))
        ∙ ap pos (omega arith)
        ∙ sym (sub_pos (a + c) b (omega arith))

-- tests of facts that follow from each other
same_test : (x y a b : ℕ) → (x < y → a < b) → (a < b → x < y) → ltb x y ≡ ltb a b
same_test x y a b f g = by_order (dec_le (suc a) b)
  where
    by_order : Dec (a < b) → ltb x y ≡ ltb a b
    by_order (yes h) = lt-ltb x y (g h) ∙ sym (lt-ltb a b h)
    by_order (no n) = le-ltb x y (not_lt (λ h. n (f h))) ∙ sym (le-ltb a b (not_lt n))
      where
        not_lt : {i j : ℕ} → (i < j → ⊥) → j ≤ i
        not_lt m = omega arith

-- the order of two numbers held with the same offset
pub sub_order : (a b k : ℕ) → lt_z (sub_ℕ a k) (sub_ℕ b k) ≡ ltb a b
sub_order a b k = by_order (dec_le k a) (dec_le k b)
  where
    by_order : Dec (k ≤ a) → Dec (k ≤ b) → lt_z (sub_ℕ a k) (sub_ℕ b k) ≡ ltb a b
    by_order (yes h) (yes j) =
        rw (sub_pos a k h, sub_pos b k j)
        (same_test (a - k) (b - k) a b (λ (l : a - k < b - k). omega arith) (λ (l : a < b). omega arith))
    by_order (yes h) (no j) = rw (sub_pos a k h, sub_neg b k (omega arith)) (sym (le-ltb a b (omega arith)))
    by_order (no h) (yes j) = rw (sub_neg a k (omega arith), sub_pos b k j) (sym (lt-ltb a b (omega arith)))
    by_order (no h) (no j) =
        rw (sub_neg a k (omega arith), sub_neg b k (omega arith))
        (same_test (k - suc b) (k - suc a) a b (λ (l : k - suc b < k - suc a). omega arith) (λ (l : a < b). omega arith))

-- a share kept of a surplus, rounded down: the surplus less the share lost, as a negative number
pub floor_surplus : (p n d : ℕ) → p + n ≡ one * d → floor (neg_ℤ (pos n)) one ≡ neg_ℤ (pos (d - p / one))
unfolding floor
floor_surplus p zero d e =
    ap pos (omega arith) ∙ sym (ap (λ (k : ℕ). neg_ℤ (pos k)) (rest p d e))
  where
    rest : (p d : ℕ) → p + 0 ≡ one * d → d - p / one ≡ 0
    rest p d e = omega arith
floor_surplus p (suc k) d e = sym (ap (λ (j : ℕ). neg_ℤ (pos j)) (rest p d e))
  where
    rest : (p d : ℕ) → p + suc k ≡ one * d → d - p / one ≡ suc (k / one)
    rest p d e = omega arith
