-- S and F at instant m + 1 from those at instant m and at instant 1.
-- Shown: S (m + 1) is S m × S 1, and F (m + 1) is S1 m × F 1 + F m × S2 1, up to remainders below 2^-78 and 2^-60. F in its two cases as equations without a test.
use mathlib.Core.Path.{◌≡◌, refl, sym, subst}
use mathlib.Core.List.{[], ◌∷◌}
use mathlib.Core.Bool.{Bool, true, false}
use Prim.Native.Nat.{ℕ, suc, ◌*◌, ◌^◌, ◌≤◌}
use native.Mathlib.Omega.{arith}
use lib.Dec.{T, eqb, eqb→eq, eqb_refl}
use lib.IntN.{ℤ}
use lib.Signed.{le_z_yes}
use Rattle.decay.specs.Fraction.{Fraction, of_ℕ, of_ℤ, over, ◌+ᶠ◌, -ᶠ◌, ◌-ᶠ◌, ◌*ᶠ◌, ◌÷◌, ◌≈◌, ◌≼◌}
use Rattle.decay.specs.Exact.{term, sum, exponent, S, F}
use Rattle.decay.proofs.Algebra.{≈_refl, ≈_sym, ≈_trans, +ᶠ_cong, -ᶠ_cong, quote, ring_by, none, ◌&◌, ◌⋅◌, ≼_of-≈, ≼_trans, ≼_antisym, slack, number, ◌⊞◌, ◌⊠◌, certify, certify_by, ÷_cancel, Small, Within, within, sized, small_minus, small_weaken, small_by, ◌⊞ˢ◌, ◌⊠ˢ◌, within_sym, of_ℕ_mono, of_ℕ_reflect, of_ℕ-≈}
use Rattle.decay.proofs.Exponential.Division.{over_le, over_ge}
use Rattle.decay.proofs.Exponential.Terms.{e, e_suc, S-cong, term_series}
use Rattle.decay.proofs.Exponential.Tail.{past_40, still_small_past_40, S-tail}
use Rattle.decay.proofs.Exponential.Addition.{product_moves}
use Rattle.decay.proofs.Exponential.Exponent.{exponent_nonneg, exponent_suc, exponent_zero, exponent_le_4}

-- ---- the two cases of F

-- k1 / (k2 − k1)
unfoldable pub ratio : ℕ → ℕ → Fraction
ratio k1 k2 = of_ℕ k1 ÷ (of_ℕ k2 -ᶠ of_ℕ k1)

difference_den : (k1 k2 : ℕ) → (of_ℕ k2 -ᶠ of_ℕ k1).den ≡ 1
unfolding of_ℤ ◌+ᶠ◌ -ᶠ◌
difference_den k1 k2 = refl

difference_zero_rates : (k1 k2 : ℕ) → of_ℕ k2 -ᶠ of_ℕ k1 ≈ of_ℕ 0 → k1 ≡ k2
difference_zero_rates k1 k2 p =
    let q : of_ℕ k1 ≈ of_ℕ k2 = ring_by (of_ℕ k1 ∷ of_ℕ k2 ∷ []) (of_ℕ 1 ⋅ p & none) (search quote depth 40 fits 9999) tt in
    let l = of_ℕ_reflect k1 k2 (≼_of-≈ q) in
    let r = of_ℕ_reflect k2 k1 (≼_of-≈ (≈_sym q)) in
    omega arith

times_over_size : (k d : ℕ) (z : ℤ) → d ≡ 1 → Small (of_ℕ k *ᶠ over d z) (of_ℕ k)
times_over_size k d z p =
    small_weaken (sized (number k) ⊠ˢ record { high = over_le d z; low = certify (of_ℕ d ∷ over d z ∷ []) (slack (over_ge d z)) (search quote depth 40 fits 9999) tt })
    (≼_of-≈ (ring_by (of_ℕ k ∷ of_ℕ d ∷ []) (of_ℕ k ⋅ of_ℕ-≈ p & none) (search quote depth 40 fits 9999) tt))

pub ratio_size : (k1 k2 : ℕ) → Small (ratio k1 k2) (of_ℕ k1)
unfolding ratio ◌÷◌
ratio_size k1 k2 = times_over_size k1 (of_ℕ k2 -ᶠ of_ℕ k1).den (of_ℕ k2 -ᶠ of_ℕ k1).num (difference_den k1 k2)

pub ratio_times : (k1 k2 : ℕ) → ¬ (k1 ≡ k2) → ratio k1 k2 *ᶠ (of_ℕ k2 -ᶠ of_ℕ k1) ≈ of_ℕ k1
unfolding ratio
ratio_times k1 k2 h = ÷_cancel (of_ℕ k1) (λ p. h (difference_zero_rates k1 k2 p))

-- what the test of the rates says
pub tested_same : {k1 k2 : ℕ} → eqb k1 k2 ≡ true → k1 ≡ k2
tested_same {k1} {k2} p = eqb→eq k1 k2 (subst T (sym p) tt)

pub tested_different : {k1 k2 : ℕ} → eqb k1 k2 ≡ false → ¬ (k1 ≡ k2)
tested_different {k1} p q = subst T p (subst (λ (k : ℕ). T (eqb k1 k)) q (eqb_refl k1))

-- F for equal and for different rates
pub data Rates (N k1 k2 v Q : ℕ) : Type 0 where
  same_rates : k1 ≡ k2 → ((m : ℕ) → F N k1 k2 v Q m ≈ exponent k1 v Q m *ᶠ S N (exponent k1 v Q m)) → Rates N k1 k2 v Q
  different : ¬ (k1 ≡ k2) → ((m : ℕ) → F N k1 k2 v Q m ≈ ratio k1 k2 *ᶠ (S N (exponent k1 v Q m) -ᶠ S N (exponent k2 v Q m))) → Rates N k1 k2 v Q

pub rates : (N k1 k2 v Q : ℕ) → Rates N k1 k2 v Q
unfolding F ratio
rates N k1 k2 v Q = go (eqb k1 k2) refl
  where
    go : (t : Bool) → eqb k1 k2 ≡ t → Rates N k1 k2 v Q
    go true p = same_rates (tested_same p) (λ m. rw p (≈_refl _))
    go false p = different (tested_different p) (λ m. rw p (≈_refl _))

-- ---- S

-- 2^-78
abbrev pub tiny : Fraction
tiny = of_ℕ 1 ÷ of_ℕ (2 ^ 78)

S-moves : {N : ℕ} → 40 ≤ N → (k v Q m : ℕ) → k * v ≤ 345_600 * Q → suc m ≤ 1024
    → Small (S N (exponent k v Q m) *ᶠ S N (exponent k v Q 1) -ᶠ S N (exponent k v Q (suc m))) tiny
S-moves {N} n k v Q m h l =
    let x = exponent k v Q m in
    let y = exponent k v Q 1 in
    let p = exponent_nonneg k v Q m in
    let q = exponent_nonneg k v Q 1 in
    let both = exponent_suc k v Q m in
    let four : x +ᶠ y ≼ of_ℕ 4 = ≼_trans (≼_of-≈ (≈_sym both)) (exponent_le_4 k v Q (suc m) h l) in
    small_by (+ᶠ_cong (≈_refl (S N x *ᶠ S N y)) (-ᶠ_cong (S-cong N both)))
    (small_weaken (product_moves N p q (still_small_past_40 (p ⊞ q) four n)) (past_40 (p ⊞ q) four n))

-- ---- F

-- the remainder for different rates, and for equal ones
pub tiny_nonneg : of_ℕ 0 ≼ tiny
unfolding ◌÷◌ ◌*ᶠ◌ over of_ℤ
tiny_nonneg = record { across = le_z_yes tt }

pub room : of_ℕ 40_000 *ᶠ tiny ≼ of_ℕ 1 ÷ of_ℕ (2 ^ 60)
unfolding ◌÷◌ ◌*ᶠ◌ over of_ℤ
room = record { across = le_z_yes tt }

pub wide : (k : ℕ) → k ≤ 20_000 → of_ℕ k *ᶠ (tiny +ᶠ tiny) ≼ of_ℕ 1 ÷ of_ℕ (2 ^ 60)
wide k h =
    certify (of_ℕ k ∷ tiny ∷ (of_ℕ 1 ÷ of_ℕ (2 ^ 60)) ∷ []) (number 2 ⊠ slack (of_ℕ_mono h) ⊠ tiny_nonneg ⊞ slack room) (search quote depth 40 fits 9999) tt

narrow : of_ℕ 4 *ᶠ tiny ≼ of_ℕ 1 ÷ of_ℕ (2 ^ 60)
narrow = certify (tiny ∷ (of_ℕ 1 ÷ of_ℕ (2 ^ 60)) ∷ []) (number 39_996 ⊠ tiny_nonneg ⊞ slack room) (search quote depth 40 fits 9999) tt

F-moves : {N : ℕ} → 40 ≤ N → (k1 k2 v Q m : ℕ) → k1 ≤ 20_000 → k1 * v ≤ 345_600 * Q → k2 * v ≤ 345_600 * Q → suc m ≤ 1024
    → Small (S N (exponent k1 v Q m) *ᶠ F N k1 k2 v Q 1 +ᶠ F N k1 k2 v Q m *ᶠ S N (exponent k2 v Q 1) -ᶠ F N k1 k2 v Q (suc m)) (of_ℕ 1 ÷ of_ℕ (2 ^ 60))
F-moves {N} n k1 k2 v Q m bound h1 h2 l = go (rates N k1 k2 v Q)
  where
    go : Rates N k1 k2 v Q
        → Small (S N (exponent k1 v Q m) *ᶠ F N k1 k2 v Q 1 +ᶠ F N k1 k2 v Q m *ᶠ S N (exponent k2 v Q 1) -ᶠ F N k1 k2 v Q (suc m)) (of_ℕ 1 ÷ of_ℕ (2 ^ 60))
    go (same_rates p f) =
        let x = exponent k1 v Q m in
        let y = exponent k1 v Q 1 in
        let z = exponent k1 v Q (suc m) in
        let other : S N (exponent k2 v Q 1) ≈ S N y = subst (λ (k : ℕ). S N (exponent k v Q 1) ≈ S N y) p (≈_refl (S N y)) in
        small_by
        (ring_by (F N k1 k2 v Q 1 ∷ F N k1 k2 v Q m ∷ F N k1 k2 v Q (suc m) ∷ x ∷ y ∷ z ∷ S N x ∷ S N y ∷ S N z ∷ S N (exponent k2 v Q 1) ∷ []) (S N x ⋅ f 1 & S N (exponent k2 v Q 1) ⋅ f m & (x *ᶠ S N x) ⋅ other & of_ℕ 1 ⋅ f (suc m) & (S N x *ᶠ S N y) ⋅ exponent_suc k1 v Q m & none) (search quote depth 40 fits 9999) tt)
        (small_weaken (small_weaken (sized (exponent_nonneg k1 v Q (suc m))) (exponent_le_4 k1 v Q (suc m) h1 l) ⊠ˢ S-moves n k1 v Q m h1 l) narrow)
    go (different p f) =
        small_by
        (ring_by (F N k1 k2 v Q 1 ∷ F N k1 k2 v Q m ∷ F N k1 k2 v Q (suc m) ∷ ratio k1 k2 ∷ S N (exponent k1 v Q m) ∷ S N (exponent k1 v Q 1) ∷ S N (exponent k1 v Q (suc m)) ∷ S N (exponent k2 v Q m) ∷ S N (exponent k2 v Q 1) ∷ S N (exponent k2 v Q (suc m)) ∷ []) (S N (exponent k1 v Q m) ⋅ f 1 & S N (exponent k2 v Q 1) ⋅ f m & of_ℕ 1 ⋅ f (suc m) & none) (search quote depth 40 fits 9999) tt)
        (small_weaken (ratio_size k1 k2 ⊠ˢ (S-moves n k1 v Q m h1 l ⊞ˢ small_minus (S-moves n k2 v Q m h2 l))) (wide k1 bound))

-- ---- the laws

pub S-compose : {N : ℕ} → 40 ≤ N → (k v Q m : ℕ) → k * v ≤ 345_600 * Q → suc m ≤ 1024
    → Within (S N (exponent k v Q (suc m))) (S N (exponent k v Q m) *ᶠ S N (exponent k v Q 1)) (of_ℕ 1 ÷ of_ℕ (2 ^ 78))
S-compose n k v Q m h l = within_sym (within (S-moves n k v Q m h l))

pub F-compose : {N : ℕ} → 40 ≤ N → (k1 k2 v Q m : ℕ) → k1 ≤ 20_000 → k1 * v ≤ 345_600 * Q → k2 * v ≤ 345_600 * Q → suc m ≤ 1024
    → Within (F N k1 k2 v Q (suc m)) (S N (exponent k1 v Q m) *ᶠ F N k1 k2 v Q 1 +ᶠ F N k1 k2 v Q m *ᶠ S N (exponent k2 v Q 1)) (of_ℕ 1 ÷ of_ℕ (2 ^ 60))
F-compose n k1 k2 v Q m b h1 h2 l = within_sym (within (F-moves n k1 k2 v Q m b h1 h2 l))

-- ---- the head of a reach

S-zero_one : S 1 (of_ℕ 0) ≈ of_ℕ 1
unfolding S sum
S-zero_one = ring_by (term (of_ℕ 0) 0 ∷ []) (of_ℕ 1 ⋅ (term_series (of_ℕ 0)).first & none) (search quote depth 40 fits 9999) tt

S-zero : {N : ℕ} → 1 ≤ N → S N (of_ℕ 0) ≈ of_ℕ 1
S-zero {N} n =
    let w = S-tail {x = of_ℕ 0} (number 0) {n = 1} (certify [] (number 2) (search quote depth 40 fits 9999) tt) n in
    let z : e (of_ℕ 0) 1 ≈ of_ℕ 0 = ring_by (e (of_ℕ 0) 0 ∷ e (of_ℕ 0) 1 ∷ []) (of_ℕ 1 ⋅ e_suc (of_ℕ 0) 0 & none) (search quote depth 40 fits 9999) tt in
    ≼_antisym
    (certify_by (S N (of_ℕ 0) ∷ S 1 (of_ℕ 0) ∷ e (of_ℕ 0) 1 ∷ []) (of_ℕ 1 ⋅ z & of_ℕ 1 ⋅ S-zero_one & none) (slack w.high) (search quote depth 40 fits 9999) tt)
    (certify_by (S N (of_ℕ 0) ∷ S 1 (of_ℕ 0) ∷ e (of_ℕ 0) 1 ∷ []) (of_ℕ 1 ⋅ z & of_ℕ 1 ⋅ S-zero_one & none) (slack w.low) (search quote depth 40 fits 9999) tt)

-- an exponent that is 0 leaves all
pub S-at_zero : {N : ℕ} {x : Fraction} → 1 ≤ N → x ≈ of_ℕ 0 → S N x ≈ of_ℕ 1
S-at_zero {N} n h = ≈_trans (S-cong N h) (S-zero n)

pub S-start : (k v Q : ℕ) {N : ℕ} → 1 ≤ N → S N (exponent k v Q 0) ≈ of_ℕ 1
S-start k v Q n = S-at_zero n (exponent_zero k v Q)

pub F-start : (N k1 k2 v Q : ℕ) → F N k1 k2 v Q 0 ≈ of_ℕ 0
F-start N k1 k2 v Q = go (rates N k1 k2 v Q)
  where
    go : Rates N k1 k2 v Q → F N k1 k2 v Q 0 ≈ of_ℕ 0
    go (same_rates p f) =
        ring_by (F N k1 k2 v Q 0 ∷ exponent k1 v Q 0 ∷ S N (exponent k1 v Q 0) ∷ [])
        (of_ℕ 1 ⋅ f 0 & S N (exponent k1 v Q 0) ⋅ exponent_zero k1 v Q & none) (search quote depth 40 fits 9999) tt
    go (different p f) =
        ring_by (F N k1 k2 v Q 0 ∷ ratio k1 k2 ∷ S N (exponent k1 v Q 0) ∷ S N (exponent k2 v Q 0) ∷ [])
        (of_ℕ 1 ⋅ f 0 & ratio k1 k2 ⋅ S-cong N (≈_trans (exponent_zero k1 v Q) (≈_sym (exponent_zero k2 v Q))) & none) (search quote depth 40 fits 9999) tt
