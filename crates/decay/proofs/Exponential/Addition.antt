-- The addition law: S (a + b) is S a × S b up to a remainder below 2^-78, for a, b >= 0 with a + b <= 4 and 40 terms or more.
-- The product of two partial sums is a square of products, the partial sum of the product a triangle in it. What is left of the square is
-- at most the same for the positive series (row by row), and there the square lies in the triangle of twice the size.
use mathlib.Core.List.{[], ◌∷◌}
use Prim.Native.Nat.{ℕ, zero, suc, ◌+◌, ◌^◌, ◌≤◌}
use native.Mathlib.Omega.{arith}
use Rattle.decay.specs.Fraction.{Fraction, of_ℕ, ◌+ᶠ◌, -ᶠ◌, ◌-ᶠ◌, ◌*ᶠ◌, ◌÷◌, ◌≈◌, ◌≼◌}
use Rattle.decay.specs.Exact.{term, sum, S, F}
use Rattle.decay.proofs.Algebra.{≈_sym, quote, ring, ring_by, none, ◌&◌, ◌⋅◌, ≼_refl, ≼_of-≈, ≼_trans, slack, number, ◌⊞◌, ◌⊠◌, multiple, certify, Small, Within, within, sized, small_weaken, small_by, ◌⊞ˢ◌, ◌⊠ˢ◌, within_sym}
use Rattle.decay.proofs.Exponential.Sequence.{shift, conv, sum_cong, sum_front, triangle}
use Rattle.decay.proofs.Exponential.Terms.{e, e_nonneg, conv_e, conv_term, term_small}
use Rattle.decay.proofs.Exponential.Tail.{UpTo, here, further, up_to, Dominated, sum_moves, e_tail, past_40, still_small_past_40}

-- ---- the square less the triangle

-- both sides of a bound may be replaced by equal ones
pub small_both : {a b c d : Fraction} → a ≈ c → b ≈ d → Small c d → Small a b
small_both p q s = small_by p (small_weaken s (≼_of-≈ (≈_sym q)))

-- n rows of the square, less the triangle
unfoldable pub rest : (N : ℕ) (f g : ℕ → Fraction) → ℕ → Fraction
rest N f g n = sum f n *ᶠ sum g N -ᶠ sum (conv f g) n

pub rest_suc : (N : ℕ) (f g : ℕ → Fraction) (n : ℕ) → rest N f g (suc n) ≈ f 0 *ᶠ (sum g N -ᶠ sum g (suc n)) +ᶠ rest N (shift f) g n
unfolding rest
rest_suc N f g n =
    ring_by (f 0 ∷ sum f (suc n) ∷ sum (shift f) n ∷ sum g N ∷ sum g (suc n) ∷ sum (conv f g) (suc n) ∷ sum (conv (shift f) g) n ∷ []) (sum g N ⋅ sum_front f n & of_ℕ 1 ⋅ triangle f g n & none) (search quote depth 40 fits 9999) tt

-- row by row it is in size at most that of greater sequences
rest_zero : (N : ℕ) (f g : ℕ → Fraction) → rest N f g 0 ≈ of_ℕ 0
unfolding rest sum
rest_zero N f g = ring (sum g N ∷ []) (search quote depth 40 fits 9999) tt

rest_small : (N : ℕ) (f F g G : ℕ → Fraction) → Dominated f F → Dominated g G → (n : ℕ) → n ≤ N → Small (rest N f g n) (rest N F G n)
rest_small N f F g G p q zero h =
    small_both (rest_zero N f g) (rest_zero N F G) (sized (number 0))
rest_small N f F g G p q (suc n) h =
    small_both (rest_suc N f g n) (rest_suc N F G n)
    ((p 0 ⊠ˢ sum_moves g G q (up_to h)) ⊞ˢ rest_small N (shift f) (shift F) g G (λ i. p (suc i)) q n (omega arith))

-- ---- the square lies in the larger triangle

abbrev Positive : (ℕ → Fraction) → Type 0
Positive f = (n : ℕ) → of_ℕ 0 ≼ f n

sum_rises : (f : ℕ → Fraction) → Positive f → {n N : ℕ} → UpTo n N → sum f n ≼ sum f N
unfolding sum
sum_rises f p {n} here = ≼_refl (sum f n)
sum_rises f p {n} (further {N = N} u) = certify (sum f n ∷ sum f N ∷ f N ∷ []) (slack (sum_rises f p u) ⊞ p N) (search quote depth 40 fits 9999) tt

sum_positive : (f : ℕ → Fraction) → Positive f → Positive (sum f)
unfolding sum
sum_positive f p zero = number 0
sum_positive f p (suc n) = sum_positive f p n ⊞ p n

conv_positive : (f g : ℕ → Fraction) → Positive f → Positive g → Positive (conv f g)
unfolding conv
conv_positive f g p q zero = p 0 ⊠ q 0
conv_positive f g p q (suc n) = p 0 ⊠ q (suc n) ⊞ conv_positive (shift f) g (λ i. p (suc i)) q n

no_rows : (f : ℕ → Fraction) (b : Fraction) → sum f 0 *ᶠ b ≈ of_ℕ 0
unfolding sum
no_rows f b = ring (b ∷ []) (search quote depth 40 fits 9999) tt

square_in_triangle : (f g : ℕ → Fraction) → Positive f → Positive g → (N k n : ℕ) → N + k ≤ n → sum f k *ᶠ sum g N ≼ sum (conv f g) n
square_in_triangle f g p q N zero n h = ≼_trans (≼_of-≈ (no_rows f (sum g N))) (sum_positive (conv f g) (conv_positive f g p q) n)
square_in_triangle f g p q N (suc k) zero h = absurd (omega arith)
square_in_triangle f g p q N (suc k) (suc n) h =
    let within : N ≤ suc n = omega arith in
    certify (f 0 ∷ sum f (suc k) ∷ sum (shift f) k ∷ sum g N ∷ sum g (suc n) ∷ sum (conv f g) (suc n) ∷ sum (conv (shift f) g) n ∷ [])
    (slack (square_in_triangle (shift f) g (λ i. p (suc i)) q N k n (omega arith)) ⊞ p 0 ⊠ slack (sum_rises g q (up_to within)) ⊞ multiple (sum g N) (sum_front f k) ⊞ multiple (of_ℕ 1) (≈_sym (triangle f g n)))
    (search quote depth 40 fits 9999) tt

-- ---- the law

-- what is left of the square, its rows at most those of a series and its columns a series
pub rest_moves : {a b : Fraction} (N n : ℕ) (f : ℕ → Fraction) → Dominated f (e a) → n ≤ N → of_ℕ 0 ≼ a → of_ℕ 0 ≼ b → of_ℕ 2 *ᶠ (a +ᶠ b) ≼ of_ℕ (suc n)
    → Small (rest N f (term b) n) (of_ℕ 2 *ᶠ e (a +ᶠ b) n)
unfolding rest
rest_moves {a} {b} N n f d l p q c = small_weaken (rest_small N f (e a) (term b) (e b) d (term_small q) n l) bound
  where
    whole : (i : ℕ) → sum (conv (e a) (e b)) i ≈ sum (e (a +ᶠ b)) i
    whole i = sum_cong (conv (e a) (e b)) (e (a +ᶠ b)) (conv_e a b) i

    larger : UpTo n (N + n)
    larger = up_to (omega arith)

    bound : rest N (e a) (e b) n ≼ of_ℕ 2 *ᶠ e (a +ᶠ b) n
    bound =
        certify (sum (e a) n ∷ sum (e b) N ∷ sum (conv (e a) (e b)) n ∷ sum (conv (e a) (e b)) (N + n) ∷ sum (e (a +ᶠ b)) n ∷ sum (e (a +ᶠ b)) (N + n) ∷ e (a +ᶠ b) n ∷ [])
        (slack (square_in_triangle (e a) (e b) (e_nonneg p) (e_nonneg q) N n (N + n) (omega arith)) ⊞ slack (e_tail (p ⊞ q) c larger) ⊞ multiple (of_ℕ 1) (whole (N + n)) ⊞ multiple (of_ℕ 1) (≈_sym (whole n)))
        (search quote depth 40 fits 9999) tt

pub product_moves : {a b : Fraction} (N : ℕ) → of_ℕ 0 ≼ a → of_ℕ 0 ≼ b → of_ℕ 2 *ᶠ (a +ᶠ b) ≼ of_ℕ (suc N) → Small (S N a *ᶠ S N b -ᶠ S N (a +ᶠ b)) (of_ℕ 2 *ᶠ e (a +ᶠ b) N)
unfolding S rest
product_moves {a} {b} N p q c = small_by same (rest_moves N N (term a) (term_small p) (omega arith) p q c)
  where
    -- the triangle is the series of the sum
    same : sum (term a) N *ᶠ sum (term b) N -ᶠ sum (term (a +ᶠ b)) N ≈ rest N (term a) (term b) N
    same =
        ring_by (sum (term a) N ∷ sum (term b) N ∷ sum (term (a +ᶠ b)) N ∷ sum (conv (term a) (term b)) N ∷ []) (of_ℕ 1 ⋅ sum_cong (conv (term a) (term b)) (term (a +ᶠ b)) (conv_term a b) N & none) (search quote depth 40 fits 9999) tt

pub addition : {N : ℕ} {a b : Fraction} → 40 ≤ N → of_ℕ 0 ≼ a → of_ℕ 0 ≼ b → a +ᶠ b ≼ of_ℕ 4 → Within (S N (a +ᶠ b)) (S N a *ᶠ S N b) (of_ℕ 1 ÷ of_ℕ (2 ^ 78))
addition {N} {a} {b} n p q four =
    within_sym (within (small_weaken (product_moves N p q (still_small_past_40 (p ⊞ q) four n)) (past_40 (p ⊞ q) four n)))
