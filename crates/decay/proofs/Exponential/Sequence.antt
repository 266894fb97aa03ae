-- Sequences of fractions: sums from the back (`sum` of the specs), and the product of two sequences from the front.
-- Shown: linearity, Leibniz's rule for n × f n, and the sum of a product as a triangle of products.
use mathlib.Core.List.{[], ◌∷◌}
use Prim.Native.Nat.{ℕ, zero, suc}
use Rattle.decay.specs.Fraction.{Fraction, of_ℕ, ◌+ᶠ◌, ◌*ᶠ◌, ◌≈◌}
use Rattle.decay.specs.Exact.{sum}
use Rattle.decay.proofs.Algebra.{≈_refl, ≈_trans, +ᶠ_cong, *ᶠ_cong, quote, ring, ring_by, none, ◌&◌, ◌⋅◌, of_ℕ_suc}

-- f from its second element on
abbrev pub shift : (ℕ → Fraction) → ℕ → Fraction
shift f n = f (suc n)

-- n × f n from the second element on, as a derivative takes the coefficients
abbrev pub derive : (ℕ → Fraction) → ℕ → Fraction
derive f n = of_ℕ (suc n) *ᶠ f (suc n)

-- the sum of f i × g j for i + j = n
unfoldable pub conv : (ℕ → Fraction) → (ℕ → Fraction) → ℕ → Fraction
conv f g zero = f 0 *ᶠ g 0
conv f g (suc n) = f 0 *ᶠ g (suc n) +ᶠ conv (shift f) g n

-- equal elements
abbrev pub Same : (ℕ → Fraction) → (ℕ → Fraction) → Type 0
Same f g = (n : ℕ) → f n ≈ g n

-- ---- sums

pub sum_cong : (f g : ℕ → Fraction) → Same f g → Same (sum f) (sum g)
unfolding sum
sum_cong f g e zero = ≈_refl (of_ℕ 0)
sum_cong f g e (suc n) = +ᶠ_cong (sum_cong f g e n) (e n)

pub sum_front : (f : ℕ → Fraction) (n : ℕ) → sum f (suc n) ≈ f 0 +ᶠ sum (shift f) n
unfolding sum
sum_front f zero = ring (f 0 ∷ []) (search quote depth 40 fits 9999) tt
sum_front f (suc n) = ≈_trans (+ᶠ_cong (sum_front f n) (≈_refl (f (suc n)))) (ring (f 0 ∷ f (suc n) ∷ sum (shift f) n ∷ []) (search quote depth 40 fits 9999) tt)

-- ---- products

pub conv_cong : (f f' g g' : ℕ → Fraction) → Same f f' → Same g g' → Same (conv f g) (conv f' g')
unfolding conv
conv_cong f f' g g' p q zero = *ᶠ_cong (p 0) (q 0)
conv_cong f f' g g' p q (suc n) = +ᶠ_cong (*ᶠ_cong (p 0) (q (suc n))) (conv_cong (shift f) (shift f') g g' (λ i. p (suc i)) q n)

pub conv_add : (f f' g : ℕ → Fraction) (n : ℕ) → conv (λ i. f i +ᶠ f' i) g n ≈ conv f g n +ᶠ conv f' g n
unfolding conv
conv_add f f' g zero = ring (f 0 ∷ f' 0 ∷ g 0 ∷ []) (search quote depth 40 fits 9999) tt
conv_add f f' g (suc n) = ≈_trans (+ᶠ_cong (≈_refl ((f 0 +ᶠ f' 0) *ᶠ g (suc n))) (conv_add (shift f) (shift f') g n))
    (ring (f 0 ∷ f' 0 ∷ g (suc n) ∷ conv (shift f) g n ∷ conv (shift f') g n ∷ []) (search quote depth 40 fits 9999) tt)

pub conv_scale_l : (c : Fraction) (f g : ℕ → Fraction) (n : ℕ) → conv (λ i. c *ᶠ f i) g n ≈ c *ᶠ conv f g n
unfolding conv
conv_scale_l c f g zero = ring (c ∷ f 0 ∷ g 0 ∷ []) (search quote depth 40 fits 9999) tt
conv_scale_l c f g (suc n) = ≈_trans (+ᶠ_cong (≈_refl ((c *ᶠ f 0) *ᶠ g (suc n))) (conv_scale_l c (shift f) g n))
    (ring (c ∷ f 0 ∷ g (suc n) ∷ conv (shift f) g n ∷ []) (search quote depth 40 fits 9999) tt)

pub conv_scale_r : (c : Fraction) (f g : ℕ → Fraction) (n : ℕ) → conv f (λ i. c *ᶠ g i) n ≈ c *ᶠ conv f g n
unfolding conv
conv_scale_r c f g zero = ring (c ∷ f 0 ∷ g 0 ∷ []) (search quote depth 40 fits 9999) tt
conv_scale_r c f g (suc n) = ≈_trans (+ᶠ_cong (≈_refl (f 0 *ᶠ (c *ᶠ g (suc n)))) (conv_scale_r c (shift f) g n))
    (ring (c ∷ f 0 ∷ g (suc n) ∷ conv (shift f) g n ∷ []) (search quote depth 40 fits 9999) tt)

-- the elements of a shifted derivative
derive_shift : (f : ℕ → Fraction) → Same (shift (derive f)) (λ i. derive (shift f) i +ᶠ shift (shift f) i)
derive_shift f n =
    ring_by (of_ℕ (suc (suc n)) ∷ of_ℕ (suc n) ∷ f (suc (suc n)) ∷ []) (f (suc (suc n)) ⋅ of_ℕ_suc (suc n) & none) (search quote depth 40 fits 9999) tt

-- Leibniz's rule
pub leibniz : (f g : ℕ → Fraction) (n : ℕ) → of_ℕ (suc n) *ᶠ conv f g (suc n) ≈ conv (derive f) g n +ᶠ conv f (derive g) n
unfolding conv
leibniz f g zero = ring (f 0 ∷ f 1 ∷ g 0 ∷ g 1 ∷ []) (search quote depth 40 fits 9999) tt
leibniz f g (suc n) =
    let ih : of_ℕ (suc n) *ᶠ conv (shift f) g (suc n) ≈ conv (derive (shift f)) g n +ᶠ conv (shift f) (derive g) n = leibniz (shift f) g n in
    let split : conv (shift (derive f)) g n ≈ conv (derive (shift f)) g n +ᶠ conv (shift (shift f)) g n =
    ≈_trans (conv_cong (shift (derive f)) (λ i. derive (shift f) i +ᶠ shift (shift f) i) g g (derive_shift f) (λ i. ≈_refl (g i)) n)
    (conv_add (derive (shift f)) (shift (shift f)) g n) in
    ring_by (of_ℕ (suc (suc n)) ∷ of_ℕ (suc n) ∷ f 0 ∷ f 1 ∷ g (suc n) ∷ g (suc (suc n)) ∷ conv (shift (shift f)) g n ∷ conv (shift (derive f)) g n ∷ conv (derive (shift f)) g n ∷ conv (shift f) (derive g) n ∷ []) (of_ℕ 1 ⋅ ih & of_ℕ 1 ⋅ split & (f 1 *ᶠ g (suc n) +ᶠ conv (shift (shift f)) g n) ⋅ of_ℕ_suc (suc n) & none) (search quote depth 40 fits 9999) tt

-- the sum of a product is a triangle of products
pub triangle : (f g : ℕ → Fraction) (n : ℕ) → sum (conv f g) (suc n) ≈ f 0 *ᶠ sum g (suc n) +ᶠ sum (conv (shift f) g) n
unfolding sum conv
triangle f g zero = ring (f 0 ∷ g 0 ∷ []) (search quote depth 40 fits 9999) tt
triangle f g (suc n) = ≈_trans (+ᶠ_cong (triangle f g n) (≈_refl (f 0 *ᶠ g (suc n) +ᶠ conv (shift f) g n)))
    (ring (f 0 ∷ g 0 ∷ g n ∷ g (suc n) ∷ sum g n ∷ conv (shift f) g n ∷ sum (conv (shift f) g) n ∷ []) (search quote depth 40 fits 9999) tt)
