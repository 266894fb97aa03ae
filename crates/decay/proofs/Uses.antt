-- How the kit is used, by checked examples. A prover imports `Algebra` alone (from another crate `Rattle.decay.proofs.Algebra`), and the fractions from specs/Fraction.
--
-- `ring`, `certify` and the like take the list of the terms that count as variables (24 at most), a call of `search` that reads the goal over them, and `tt`.
-- * If `search` finds no proof, a term of the goal, of the certificate or of an equation is missing in the list, or the call is too deep: raise `depth` beyond 40 for long sums, and `fits` for hundreds of leaves.
-- * If `tt` is refused, what was claimed is wrong. Put `?` for `tt` and check with --allow-holes: the goal is `LeftOver` with the polynomial that is left, as terms of a coefficient and a product of variables numbered from 0 by the list.
-- * A term of the list that is not a name wants parentheses: `a ∷ (b ÷ c) ∷ []`. Definitions that stay shut, as S, ÷ or a sequence of your own, count as variables, so list them.
-- * Literals are numbers and are not listed. `of_ℕ (m + n)`, `of_ℕ (m * n)`, `of_ℤ (x +ℤ y)`, `of_ℤ (x -ℤ y)` and `of_ℤ (x *ℤ y)` are read as sums and products: list `of_ℕ m` and so on. `of_ℕ (suc n)` is a variable: give `of_ℕ_suc n` as an equation.
-- * Where the goal of `search` is not determined yet, state the fact with a signature of its own.
-- * A lemma over few variables checks quickest. Cost: an identity of six variables and degree four (126 monomials) 0.3 s; eighteen variables and 150 leaves 0.2 s; 715 monomials 1.4 s.
use mathlib.Core.Path.{◌≡◌}
use mathlib.Core.List.{[], ◌∷◌}
use Prim.Native.Nat.{ℕ, ◌*◌, ◌/◌, ◌≤◌, ◌<◌}
use lib.IntN.{ℤ, ◌-ℤ◌, ◌*ℤ◌}
use Rattle.decay.specs.Fraction.{Fraction, ◌≈◌, ◌≼◌, of_ℕ, of_ℤ, ◌+ᶠ◌, ◌-ᶠ◌, ◌*ᶠ◌, ◌÷◌, over, distance}
use Rattle.decay.proofs.Algebra.{quote, replaced, ring, ring_by, ring_ℤ, none, ◌&◌, ◌⋅◌, Nonneg, ≼_computed, slack, number, ◌⊞◌, ◌⊠◌, certify, certify_by, certify_times, certify_over, Positive, ÷_cancel_pos, Within, small, sized, ◌⊞ˢ◌, ◌⊠ˢ◌, near, within→distance, of_ℕ_mono, floor_low, floor_high}

-- 1. An identity.
product_of_sum_and_difference : (a b : Fraction) → (a +ᶠ b) *ᶠ (a -ᶠ b) ≈ a *ᶠ a -ᶠ b *ᶠ b
product_of_sum_and_difference a b = ring (a ∷ b ∷ []) (search quote depth 40 fits 9999) tt

-- 2. An inequality x ≼ y by certificate: y − x is a sum of products of things that are not negative. `slack h` is y' − x' for h : x' ≼ y', `number n` is n, ⊞ adds and ⊠ multiplies.
product_of_inequalities : (a b c d : Fraction) → Nonneg a → a ≼ b → Nonneg d → c ≼ d → a *ᶠ c ≼ b *ᶠ d
product_of_inequalities a b c d n h p k =
    certify (a ∷ b ∷ c ∷ d ∷ []) (slack h ⊠ p ⊞ n ⊠ slack k) (search quote depth 40 fits 9999) tt

-- 3. The same with a whole factor, here 3 × (b − a).
third_of_an_inequality : (a b : Fraction) → of_ℕ 3 *ᶠ a ≼ of_ℕ 3 *ᶠ b → a ≼ b
third_of_an_inequality a b h = certify_times 2 (a ∷ b ∷ []) (slack h) (search quote depth 40 fits 9999) tt

-- 4. With equations: each is named with its factor. The direction, the sign and a whole factor are found by elimination, so none of them can be wrong.
with_equations : (a b c d : Fraction) → a ≈ b → c ≈ d → a *ᶠ c ≈ b *ᶠ d
with_equations a b c d e f =
    ring_by (a ∷ b ∷ c ∷ d ∷ []) (c ⋅ e & b ⋅ f & none) (search quote depth 40 fits 9999) tt

inequality_with_equation : (a b c : Fraction) → a ≈ b → of_ℕ 2 *ᶠ b ≼ c → of_ℕ 2 *ᶠ a ≼ c
inequality_with_equation a b c e h =
    certify_by (a ∷ b ∷ c ∷ []) (of_ℕ 1 ⋅ e & none) (slack h) (search quote depth 40 fits 9999) tt

-- 5. Where an equation says what a variable is, the variable can be read as that, and is then not listed.
with_a_definition : (a b x : Fraction) → x ≈ a +ᶠ b → x *ᶠ x ≈ a *ᶠ a +ᶠ of_ℕ 2 *ᶠ a *ᶠ b +ᶠ b *ᶠ b
with_a_definition a b x e = ring (a ∷ b ∷ []) (search (quote, replaced e) depth 40 fits 9999) tt

-- 6. A quotient is a variable with the equation (a ÷ b) × b ≈ a; a positive factor may be multiplied by.
quotients : (a b c : Fraction) → Positive b → a ≼ c *ᶠ b → a ÷ b ≼ c
quotients a b c p h =
    certify_over b p (a ∷ b ∷ c ∷ (a ÷ b) ∷ []) (of_ℕ 1 ⋅ ÷_cancel_pos a p & none) (slack h) (search quote depth 40 fits 9999) tt

-- 7. A distance: a − c is put together of what is known to be small, and the bound is the bounds' sum with something not negative. Two calls of `search`, for the difference and for the bound.
share_of_a_distance : (a b c e f s : Fraction) → Nonneg s → Within a b e → Within b c f → distance (s *ᶠ a) (s *ᶠ c) ≼ s *ᶠ (e +ᶠ f) +ᶠ of_ℕ 1
share_of_a_distance a b c e f s n v w =
    within→distance (near (a ∷ b ∷ c ∷ e ∷ f ∷ s ∷ []) none (sized n ⊠ˢ (small v ⊞ˢ small w)) (number 1) (search quote depth 40 fits 9999) tt (search quote depth 40 fits 9999) tt)

-- 8. Whole numbers: let `omega` prove facts of naturals, lift them by `of_ℕ_mono`, and go back by `of_ℕ_reflect`.
whole_numbers : (m n k : ℕ) → m ≤ n → of_ℕ (m * k) ≼ of_ℕ (n * k)
whole_numbers m n k h =
    certify (of_ℕ m ∷ of_ℕ n ∷ of_ℕ k ∷ []) (slack (of_ℕ_mono h) ⊠ number k) (search quote depth 40 fits 9999) tt

-- 9. Rounding down: from `floor_low` and `floor_high`, the floor of n / d lies within 1 below n ÷ d (`floor_ℤ_low` and so on for a signed number and `shr_z`).
rounded_down : (n d : ℕ) → 0 < d → distance (of_ℕ (n / d)) (of_ℕ n ÷ of_ℕ d) ≼ of_ℕ 1
rounded_down n d p =
    within→distance (record {
      high = certify (of_ℕ (n / d) ∷ (of_ℕ n ÷ of_ℕ d) ∷ []) (slack (floor_low n p) ⊞ number 1) (search quote depth 40 fits 9999) tt;
      low = certify (of_ℕ (n / d) ∷ (of_ℕ n ÷ of_ℕ d) ∷ []) (slack (floor_high n p)) (search quote depth 40 fits 9999) tt;
    })

-- 10. Signed numbers: an identity by way of the fractions (or `solve_ℤ` with the expressions written out); an inequality by `of_ℤ_reflect` of a certificate.
signed_identity : (a b c : ℤ) → (a -ℤ b) *ℤ c ≡ a *ℤ c -ℤ b *ℤ c
signed_identity a b c = ring_ℤ (of_ℤ a ∷ of_ℤ b ∷ of_ℤ c ∷ []) (search quote depth 40 fits 9999) tt

-- 11. Closed fractions are compared by computation.
closed_fractions : of_ℕ 1 ÷ of_ℕ 3 +ᶠ of_ℕ 1 ÷ of_ℕ 7 ≼ of_ℕ 1 ÷ of_ℕ 2
unfolding of_ℤ ◌+ᶠ◌ ◌*ᶠ◌ ◌÷◌ over
closed_fractions = ≼_computed tt
