-- Strict order, positive fractions, and division.
-- A quotient enters a certificate by its equation: `multiple c (÷_cancel_pos a hb)` turns c × (a ÷ b × b) there into c × a.
use mathlib.Core.Path.{◌≡◌, refl, sym, subst₂}
use mathlib.Core.List.{List, [], ◌∷◌}
use mathlib.Core.Logic.{◌⊎◌, inl, inr}
use Prim.Native.Nat.{ℕ, zero, suc, ◌<◌, zero-le, suc-le-suc}
use native.Mathlib.Omega.{arith}
use lib.IntN.{ℤ, pos, negsuc, ◌*ℤ◌, ℤ_discrete}
use lib.Signed.{◌≤ℤ◌, ≤ℤ_refl}
use Rattle.decay.specs.Fraction.{Fraction, ◌≈◌, ◌≼◌, of_ℤ, of_ℕ, ◌+ᶠ◌, -ᶠ◌, ◌-ᶠ◌, ◌*ᶠ◌, over, ◌÷◌}
use Rattle.decay.proofs.Algebra.Signed.{≤ℤ_total, *ℤ_idr, nonneg_cancel, pos_reflect}
use Rattle.decay.proofs.Algebra.Normal.{var, con, ◌:*◌, :-◌, Given, rest, Vanishes}
use Rattle.decay.proofs.Algebra.Whole.{solve_ℤ}
use Rattle.decay.proofs.Algebra.Rational.{Fraction-ring, ≈_refl, ≈_sym, ≈_trans, *ᶠ_cong, zero_num, num_zero}
use Rattle.decay.proofs.Algebra.Identity.{ring, ring_by, Zeros, none, ◌&◌, ◌⋅◌, quote}
use Rattle.decay.proofs.Algebra.Order.{≼_refl, ≼_antisym, ≼_of-≈, Nonneg, nonneg_num, num_nonneg, nonneg_by, slack, from_slack, number, ◌⊞◌, ◌⊠◌, certify, certify_by}

-- ---- a < b

infix 4 ◌≺◌
pub record ◌≺◌ (a b : Fraction) : Type 0 where
  pub below : ¬ (b ≼ a)

pub ≺→≼ : {a b : Fraction} → a ≺ b → a ≼ b
≺→≼ {a} {b} h = go (≤ℤ_total (a.num *ℤ pos b.den) (b.num *ℤ pos a.den))
  where
    go : ((a.num *ℤ pos b.den) ≤ℤ (b.num *ℤ pos a.den)) ⊎ ((b.num *ℤ pos a.den) ≤ℤ (a.num *ℤ pos b.den)) → a ≼ b
    go (inl k) = record { across = k }
    go (inr k) = absurd (h.below (record { across = k }))

-- ---- positive fractions

abbrev pub Positive : Fraction → Type 0
Positive a = of_ℕ 0 ≺ a

pub positive_nonneg : {a : Fraction} → Positive a → Nonneg a
positive_nonneg h = ≺→≼ h

nonpos_num : {a : Fraction} → a ≼ of_ℕ 0 → a.num ≤ℤ pos 0
unfolding of_ℤ
nonpos_num {a} h =
    subst₂ ◌≤ℤ◌ (*ℤ_idr a.num) (solve_ℤ (pos a.den ∷ []) (con (pos 0) :* var 0) (con (pos 0)) tt) h.across

num_nonpos : {a : Fraction} → a.num ≤ℤ pos 0 → a ≼ of_ℕ 0
unfolding of_ℤ
num_nonpos {a} h =
    record { across = subst₂ ◌≤ℤ◌ (sym (*ℤ_idr a.num)) (solve_ℤ (pos a.den ∷ []) (con (pos 0)) (con (pos 0) :* var 0) tt) h }

cancel_num : (z x : ℤ) → ¬ (z ≤ℤ pos 0) → pos 0 ≤ℤ (z *ℤ x) → pos 0 ≤ℤ x
cancel_num (pos zero) x h k = absurd (h (≤ℤ_refl (pos 0)))
cancel_num (pos (suc n)) x h k = nonneg_cancel (suc n) (suc-le-suc zero-le) k
cancel_num (negsuc n) x h k = absurd (h (record { le = tt }))

-- a positive factor may be taken out
pub nonneg-÷ : {m a : Fraction} → Positive m → Nonneg (m *ᶠ a) → Nonneg a
unfolding ◌*ᶠ◌
nonneg-÷ {m} {a} h k = num_nonneg (cancel_num m.num a.num (λ r. h.below (num_nonpos r)) (nonneg_num k))

pub positive_whole : {n : ℕ} → 0 < n → Positive (of_ℕ n)
unfolding of_ℤ
positive_whole {n} h = record { below = λ r. let q = pos_reflect (nonpos_num r) in omega arith }

pub positive_sum : {a b : Fraction} → Positive a → Nonneg b → Positive (a +ᶠ b)
positive_sum {a} {b} h k =
    record { below = λ r. h.below (certify (a ∷ b ∷ []) (slack r ⊞ k) (search quote depth 40 fits 9999) tt) }

pub positive_product : {a b : Fraction} → Positive a → Positive b → Positive (a *ᶠ b)
positive_product {a} {b} h k =
    record { below = λ r. k.below (from_slack (nonneg-÷ h (nonneg_by move (slack r)))) }
  where
    move : a *ᶠ (of_ℕ 0 -ᶠ b) ≈ of_ℕ 0 -ᶠ a *ᶠ b
    move = ring (a ∷ b ∷ []) (search quote depth 40 fits 9999) tt

pub positive_nonzero : {a : Fraction} → Positive a → ¬ (a ≈ of_ℕ 0)
positive_nonzero h e = h.below (≼_of-≈ e)

-- m × (b − a) as a certificate, for a positive m
pub certify_over : (m : Fraction) → Positive m → (vs : List Fraction) {zs : List Fraction} {a b c : Fraction} → Zeros zs → Nonneg c
    → (q : Given Fraction-ring vs zs (m *ᶠ (b -ᶠ a)) c) → Vanishes (rest Fraction-ring vs q) → a ≼ b
certify_over m p vs ks h q t = from_slack (nonneg-÷ p (nonneg_by (ring_by vs ks q t) h))

-- ---- division

-- d / z for z that is not 0, times z / d
over_times : (z : ℤ) (d : ℕ) (p : 0 < d) → ¬ (z ≡ pos 0) → over d z *ᶠ record { num = z; den = d; den_pos = p } ≈ of_ℕ 1
unfolding over ◌*ᶠ◌ of_ℤ
over_times (pos zero) d p h = absurd (h refl)
over_times (pos (suc n)) d p h =
    record { across = solve_ℤ (pos d ∷ pos (suc n) ∷ []) (var 0 :* var 1 :* con (pos 1)) (con (pos 1) :* (var 1 :* var 0)) tt }
over_times (negsuc n) d p h =
    record { across = solve_ℤ (pos d ∷ pos (suc n) ∷ []) (:- var 0 :* :- var 1 :* con (pos 1)) (con (pos 1) :* (var 1 :* var 0)) tt }

-- (a ÷ b) × b is a
pub ÷_cancel : (a : Fraction) {b : Fraction} → ¬ (b ≈ of_ℕ 0) → a ÷ b *ᶠ b ≈ a
unfolding ◌÷◌
÷_cancel a {b} h =
    ≈_trans (shift (over b.den b.num) b) (≈_trans (*ᶠ_cong (≈_refl a) (over_times b.num b.den b.den_pos (λ e. h (zero_num e)))) last)
  where
    shift : (r b : Fraction) → a *ᶠ r *ᶠ b ≈ a *ᶠ (r *ᶠ b)
    shift r b = ring (a ∷ r ∷ b ∷ []) (search quote depth 40 fits 9999) tt

    last : a *ᶠ of_ℕ 1 ≈ a
    last = ring (a ∷ []) (search quote depth 40 fits 9999) tt

pub ÷_cancel_pos : (a : Fraction) {b : Fraction} → Positive b → a ÷ b *ᶠ b ≈ a
÷_cancel_pos a h = ÷_cancel a (positive_nonzero h)

-- dividing by 0 gives 0
pub ÷_zero : (a : Fraction) {b : Fraction} → b ≈ of_ℕ 0 → a ÷ b ≈ of_ℕ 0
unfolding ◌÷◌ over
÷_zero a {b} e = rw (num_zero e) (ring (a ∷ []) (search quote depth 40 fits 9999) tt)

zero_or_not : (b : Fraction) → (b ≈ of_ℕ 0) ⊎ (¬ (b ≈ of_ℕ 0))
zero_or_not b = go (ℤ_discrete b.num (pos 0))
  where
    go : Dec (b.num ≡ pos 0) → (b ≈ of_ℕ 0) ⊎ (¬ (b ≈ of_ℕ 0))
    go (yes e) = inl (zero_num e)
    go (no h) = inr (λ e. h (num_zero e))

-- what times b is a, is a ÷ b
pub ÷_unique : {a b c : Fraction} → ¬ (b ≈ of_ℕ 0) → c *ᶠ b ≈ a → a ÷ b ≈ c
÷_unique {a} {b} {c} h e =
    ring_by (a ∷ b ∷ c ∷ (a ÷ b) ∷ (of_ℕ 1 ÷ b) ∷ []) ((a ÷ b) ⋅ r & c ⋅ r & (of_ℕ 1 ÷ b) ⋅ e & (of_ℕ 1 ÷ b) ⋅ ÷_cancel a h & none) (search quote depth 40 fits 9999) tt
  where
    r : of_ℕ 1 ÷ b *ᶠ b ≈ of_ℕ 1
    r = ÷_cancel (of_ℕ 1) h

pub ÷_cong : {a b c d : Fraction} → a ≈ b → c ≈ d → a ÷ c ≈ b ÷ d
÷_cong {a} {b} {c} {d} e f = go (zero_or_not d)
  where
    go : (d ≈ of_ℕ 0) ⊎ (¬ (d ≈ of_ℕ 0)) → a ÷ c ≈ b ÷ d
    go (inl z) = ≈_trans (÷_zero a (≈_trans f z)) (≈_sym (÷_zero b z))
    go (inr h) =
        ÷_unique (λ z. h (≈_trans (≈_sym f) z)) (ring_by (a ∷ b ∷ c ∷ d ∷ (b ÷ d) ∷ []) ((b ÷ d) ⋅ f & of_ℕ 1 ⋅ e & of_ℕ 1 ⋅ ÷_cancel b h & none) (search quote depth 40 fits 9999) tt)

-- a quotient is a product with a reciprocal
pub ÷_reciprocal : (a b : Fraction) → a ÷ b ≈ a *ᶠ (of_ℕ 1 ÷ b)
unfolding ◌÷◌
÷_reciprocal a b = go (over b.den b.num)
  where
    go : (r : Fraction) → a *ᶠ r ≈ a *ᶠ (of_ℕ 1 *ᶠ r)
    go r = ring (a ∷ r ∷ []) (search quote depth 40 fits 9999) tt

-- a ÷ b ≼ c from a ≼ c × b
pub ÷_le : {a b c : Fraction} → Positive b → a ≼ c *ᶠ b → a ÷ b ≼ c
÷_le {a} {b} {c} p h =
    certify_over b p (a ∷ b ∷ c ∷ (a ÷ b) ∷ []) (of_ℕ 1 ⋅ ÷_cancel_pos a p & none) (slack h) (search quote depth 40 fits 9999) tt

pub le-÷ : {a b c : Fraction} → Positive b → c *ᶠ b ≼ a → c ≼ a ÷ b
le-÷ {a} {b} {c} p h =
    certify_over b p (a ∷ b ∷ c ∷ (a ÷ b) ∷ []) (of_ℕ 1 ⋅ ÷_cancel_pos a p & none) (slack h) (search quote depth 40 fits 9999) tt

nonneg_positive : {b : Fraction} → Nonneg b → ¬ (b ≈ of_ℕ 0) → Positive b
nonneg_positive h k = record { below = λ r. k (≼_antisym r h) }

pub ÷_nonneg : {a b : Fraction} → Nonneg a → Nonneg b → Nonneg (a ÷ b)
÷_nonneg {a} {b} h k = go (zero_or_not b)
  where
    go : (b ≈ of_ℕ 0) ⊎ (¬ (b ≈ of_ℕ 0)) → Nonneg (a ÷ b)
    go (inl z) = nonneg_by (÷_zero a z) (≼_refl (of_ℕ 0))
    go (inr n) = le-÷ (nonneg_positive k n) (certify (a ∷ b ∷ []) h (search quote depth 40 fits 9999) tt)

pub ÷_mono : {a b c : Fraction} → Nonneg c → a ≼ b → a ÷ c ≼ b ÷ c
÷_mono {a} {b} {c} k h =
    certify_by (a ∷ b ∷ (a ÷ c) ∷ (b ÷ c) ∷ (of_ℕ 1 ÷ c) ∷ []) (of_ℕ 1 ⋅ ÷_reciprocal a c & of_ℕ 1 ⋅ ÷_reciprocal b c & none) (slack h ⊠ ÷_nonneg (number 1) k) (search quote depth 40 fits 9999) tt

pub ÷_positive : {a b : Fraction} → Positive a → Positive b → Positive (a ÷ b)
÷_positive {a} {b} p q =
    record { below = λ r. p.below (certify_by (a ∷ b ∷ (a ÷ b) ∷ []) (of_ℕ 1 ⋅ ÷_cancel_pos a q & none) (slack r ⊠ positive_nonneg q) (search quote depth 40 fits 9999) tt) }

-- `search not_negative depth 40` proves that a sum or product of things not negative is not negative
pub ruleset not_negative = (number, ◌⊞◌, ◌⊠◌, ÷_nonneg, positive_nonneg, positive_whole)
