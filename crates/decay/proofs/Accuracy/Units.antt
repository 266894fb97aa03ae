-- Shares of one as fractions, in the unit 2^-44, and what a whole-number floor says of them.
use mathlib.Core.Path.{◌≡◌, refl, sym, subst}
use mathlib.Core.List.{[], ◌∷◌}
use Prim.Native.Nat.{ℕ, zero, suc, ◌+◌, ◌*◌, ◌/◌, ◌≤◌, ◌<◌}
use native.Mathlib.Nat.{div-div-eq-div-mul, div-add-mod', mod-lt}
use native.Mathlib.Omega.{arith}
use lib.Dec.{lit<}
use lib.IntN.{pos}
use Rattle.decay.specs.Fraction.{Fraction, of_ℕ, of_ℤ, over, ◌+ᶠ◌, ◌*ᶠ◌, ◌÷◌, ◌≈◌, ◌≼◌}
use Rattle.decay.specs.Fixed.{one, product, quotient}
use Rattle.decay.specs.held.Step.{exponent_of}
use Rattle.decay.specs.Series.{term_of}
use Rattle.decay.specs.held.Promise.{share}
use Rattle.decay.proofs.Algebra.{
  nonneg_pos,
  replaced,
  ≈_refl,
  ≈_sym,
  ≈_trans,
  ring,
  quote,
  of_ℕ_mono,
  Nonneg,
  num_nonneg,
  nonneg_by,
  slack,
  number,
  ◌⊞◌,
  ◌⊠◌,
  multiple,
  certify,
  certify_times,
}

-- 2^-44
unfoldable pub eps : Fraction
eps = over 1 (pos one)

pub one_eps : of_ℕ one *ᶠ eps ≈ of_ℕ 1
unfolding eps over of_ℤ ◌*ᶠ◌
one_eps = record { across = refl }

pub eps_nonneg : Nonneg eps
unfolding eps over
eps_nonneg = num_nonneg (nonneg_pos 1)

pub share_is : (n : ℕ) → share n ≈ of_ℕ n *ᶠ eps
unfolding share eps ◌÷◌ of_ℤ
share_is n = ≈_refl (of_ℕ n *ᶠ over 1 (pos one))

-- ---- shares

pub share_nonneg : (n : ℕ) → Nonneg (share n)
share_nonneg n = nonneg_by (share_is n) (number n ⊠ eps_nonneg)

pub share_mono : {a b : ℕ} → a ≤ b → share a ≼ share b
share_mono {a} {b} h =
    certify (of_ℕ a ∷ of_ℕ b ∷ eps ∷ []) (slack (of_ℕ_mono h) ⊠ eps_nonneg) (search (quote, replaced (share_is a), replaced (share_is b)) depth 40 fits 9999) tt

pub share_sum : (a b : ℕ) → share (a + b) ≈ share a +ᶠ share b
share_sum a b =
    ring (of_ℕ a ∷ of_ℕ b ∷ eps ∷ []) (search (quote, replaced (share_is a), replaced (share_is b), replaced (share_is (a + b))) depth 40 fits 9999) tt

pub share_zero : share 0 ≈ of_ℕ 0
share_zero = ring (eps ∷ []) (search (quote, replaced (share_is 0)) depth 40 fits 9999) tt

pub share_one : share one ≈ of_ℕ 1
share_one = ≈_trans (share_is one) one_eps

pub share_equal : {a b : ℕ} → a ≡ b → share a ≈ share b
share_equal {a} h = subst (λ (n : ℕ). share a ≈ share n) h (≈_refl (share a))

-- ---- floors

-- q is the floor of a × b / (one × j), as shares
pub record Floor (j : ℕ) (x q : Fraction) : Type 0 where
  pub low : of_ℕ j *ᶠ q ≼ x
  pub high : x ≼ of_ℕ j *ᶠ q +ᶠ of_ℕ j *ᶠ eps

floor_share :
    (a b j q : ℕ) → one * (j * q) ≤ a * b → a * b ≤ one * (j * q) + one * j → Floor j (share a *ᶠ share b) (share q)
floor_share a b j q h k =
    record {
      low =
          certify (of_ℕ a ∷ of_ℕ b ∷ of_ℕ j ∷ of_ℕ q ∷ eps ∷ []) (eps_nonneg ⊠ eps_nonneg ⊠ slack (of_ℕ_mono h) ⊞ multiple (of_ℕ j *ᶠ of_ℕ q *ᶠ eps) (≈_sym one_eps)) (search (quote, replaced (share_is a), replaced (share_is b), replaced (share_is q)) depth 40 fits 9999) tt;
      high =
          certify (of_ℕ a ∷ of_ℕ b ∷ of_ℕ j ∷ of_ℕ q ∷ eps ∷ []) (eps_nonneg ⊠ eps_nonneg ⊠ slack (of_ℕ_mono k) ⊞ multiple (of_ℕ j *ᶠ of_ℕ q *ᶠ eps +ᶠ of_ℕ j *ᶠ eps) one_eps) (search (quote, replaced (share_is a), replaced (share_is b), replaced (share_is q)) depth 40 fits 9999) tt;
    }

-- a floor in whole numbers
floor_low : (n d : ℕ) → d * (n / d) ≤ n
floor_low n d = omega (arith, div-add-mod' n d)

floor_high : (n d : ℕ) → 0 < d → n ≤ d * (n / d) + d
floor_high n d h = omega (arith, div-add-mod' n d, mod-lt n h)

-- the next term of a series
pub term_floor : (t y j : ℕ) → 0 < j → Floor j (share t *ᶠ share y) (share (term_of t y j))
unfolding term_of product
term_floor t y j h =
    subst (λ (q : ℕ). Floor j (share t *ᶠ share y) (share q)) (sym (div-div-eq-div-mul (t * y) one j))
    (floor_share t y j (t * y / (one * j)) (omega (arith, floor_low (t * y) (one * j))) (omega (arith, floor_high (t * y) (one * j) (omega arith))))

-- a product of shares
pub product_floor : (a b : ℕ) → Floor 1 (share a *ᶠ share b) (share (product a b))
unfolding product
product_floor a b =
    floor_share a b 1 (a * b / one) (omega (arith, floor_low (a * b) one)) (omega (arith, floor_high (a * b) one (lit< tt)))

-- q is t / (j + 1), rounded down, as shares
pub record Part (j : ℕ) (t q : Fraction) : Type 0 where
  pub low : of_ℕ (suc j) *ᶠ q ≼ t
  pub high : t ≼ of_ℕ (suc j) *ᶠ q +ᶠ of_ℕ j *ᶠ eps

pub part_share : (j n : ℕ) → Part j (share n) (share (n / suc j))
part_share j n =
    record {
      low =
          certify (of_ℕ (suc j) ∷ of_ℕ n ∷ of_ℕ (n / suc j) ∷ eps ∷ []) (eps_nonneg ⊠ slack (of_ℕ_mono (floor_low n (suc j)))) (search (quote, replaced (share_is n), replaced (share_is (n / suc j))) depth 40 fits 9999) tt;
      high =
          certify (of_ℕ (suc j) ∷ of_ℕ j ∷ of_ℕ n ∷ of_ℕ (n / suc j) ∷ eps ∷ []) (eps_nonneg ⊠ slack (of_ℕ_mono above)) (search (quote, replaced (share_is n), replaced (share_is (n / suc j))) depth 40 fits 9999) tt;
    }
  where
    positive : 0 < suc j
    positive = omega arith

    above : n ≤ suc j * (n / suc j) + j
    above = omega (arith, div-add-mod' n (suc j), mod-lt n positive)

-- q lies below y by at most a unit
pub record Below (y q : Fraction) : Type 0 where
  pub low : q ≼ y
  pub high : y ≼ q +ᶠ eps

below_share : (d n q : ℕ) (y : Fraction) → suc d * q ≤ n * one → n * one ≤ suc d * q + suc d → of_ℕ (suc d) *ᶠ y ≈ of_ℕ n → Below y (share q)
below_share d n q y h k e =
    record {
      low =
          certify_times d (of_ℕ (suc d) ∷ y ∷ of_ℕ n ∷ of_ℕ q ∷ eps ∷ []) (eps_nonneg ⊠ slack (of_ℕ_mono h) ⊞ multiple (of_ℕ n) one_eps ⊞ multiple (of_ℕ 1) (≈_sym e)) (search (quote, replaced (share_is q)) depth 40 fits 9999) tt;
      high =
          certify_times d (of_ℕ (suc d) ∷ y ∷ of_ℕ n ∷ of_ℕ q ∷ eps ∷ []) (eps_nonneg ⊠ slack (of_ℕ_mono k) ⊞ multiple (of_ℕ n) (≈_sym one_eps) ⊞ multiple (of_ℕ 1) e) (search (quote, replaced (share_is q)) depth 40 fits 9999) tt;
    }

below_quotient : (d n : ℕ) (y : Fraction) → 0 < d → of_ℕ d *ᶠ y ≈ of_ℕ n → Below y (share (quotient n d))
unfolding quotient
below_quotient zero n y h e = absurd (omega arith)
below_quotient (suc d) n y h e =
    below_share d n (n * one / suc d) y (omega (arith, floor_low (n * one) (suc d))) (omega (arith, floor_high (n * one) (suc d) h)) e

pub exponent_below :
    (k volume flow : ℕ) (y : Fraction) →
    0 < flow →
    of_ℕ (88473600 * flow) *ᶠ y ≈ of_ℕ (k * volume) →
    Below y (share (exponent_of k volume flow))
unfolding exponent_of
exponent_below k volume flow y h e = below_quotient (88473600 * flow) (k * volume) y (omega arith) e
