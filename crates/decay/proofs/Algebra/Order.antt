-- The order of fractions, and inequalities by certificate.
-- A certificate for a ≼ b is a fraction c that is not negative by the way it is put together, with (n + 1) × (b − a) ≈ c by the normaliser.
use mathlib.Core.Path.{◌≡◌, sym, subst, subst₂}
use mathlib.Core.List.{List, [], ◌∷◌}
use mathlib.Core.Logic.{◌⊎◌, inl, inr}
use Prim.Native.Nat.{ℕ, suc, ◌*◌, zero-le, suc-le-suc}
use lib.IntN.{ℤ, pos, negsuc, ◌-ℤ◌, ◌*ℤ◌}
use lib.Dec.{T}
use lib.Signed.{◌≤ℤ◌, ≤ℤ_refl, le_z}
use Rattle.decay.specs.Fraction.{Fraction, ◌≈◌, ◌≼◌, of_ℤ, of_ℕ, ◌+ᶠ◌, -ᶠ◌, ◌-ᶠ◌, ◌*ᶠ◌}
use Rattle.decay.proofs.Algebra.Signed.{≤ℤ_of_eq, ≤ℤ_trans, ≤ℤ_antisym, ≤ℤ_total, ≤ℤ_diff, ≤ℤ_of_diff, ≤ℤ_cancel_r, ≤ℤ_mul_r, nonneg_pos, nonneg-*ℤ, nonneg-+ℤ, nonneg_cancel, *ℤ_idr}
use Rattle.decay.proofs.Algebra.Normal.{var, con, ◌:+◌, ◌:*◌, :-◌, Sides, gap, Given, rest, Vanishes}
use Rattle.decay.proofs.Algebra.Whole.{solve_ℤ}
use Rattle.decay.proofs.Algebra.Rational.{Fraction-ring, swap, ≈_refl, ≈_sym, ≈_trans, +ᶠ_cong, *ᶠ_cong}
use Rattle.decay.proofs.Algebra.Identity.{ring, ring_by, Zeros, quote}

-- ---- the order

pub ≼_refl : (a : Fraction) → a ≼ a
≼_refl a = record { across = ≤ℤ_refl (a.num *ℤ pos a.den) }

pub ≼_of-≈ : {a b : Fraction} → a ≈ b → a ≼ b
≼_of-≈ h = record { across = ≤ℤ_of_eq h.across }

pub ≼_trans : {a b c : Fraction} → a ≼ b → b ≼ c → a ≼ c
≼_trans {a} {b} {c} h k =
    record {
      across = ≤ℤ_cancel_r b.den (a.num *ℤ pos c.den) (c.num *ℤ pos a.den) b.den_pos (≤ℤ_trans (subst₂ ◌≤ℤ◌ (swap a.num b.den c.den) (swap b.num a.den c.den) (≤ℤ_mul_r (nonneg_pos c.den) h.across)) (subst (λ x. (b.num *ℤ pos c.den *ℤ pos a.den) ≤ℤ x) (swap c.num b.den a.den) (≤ℤ_mul_r (nonneg_pos a.den) k.across)));
    }

pub ≼_antisym : {a b : Fraction} → a ≼ b → b ≼ a → a ≈ b
≼_antisym h k = record { across = ≤ℤ_antisym h.across k.across }

pub ≼_total : (a b : Fraction) → (a ≼ b) ⊎ (b ≼ a)
≼_total a b = go (≤ℤ_total (a.num *ℤ pos b.den) (b.num *ℤ pos a.den))
  where
    go : ((a.num *ℤ pos b.den) ≤ℤ (b.num *ℤ pos a.den)) ⊎ ((b.num *ℤ pos a.den) ≤ℤ (a.num *ℤ pos b.den)) → (a ≼ b) ⊎ (b ≼ a)
    go (inl h) = inl (record { across = h })
    go (inr h) = inr (record { across = h })

-- the sides of an inequality may be replaced by equal ones
pub ≼_by : {a b c d : Fraction} → a ≈ b → b ≼ c → c ≈ d → a ≼ d
≼_by p h q = ≼_trans (≼_of-≈ p) (≼_trans h (≼_of-≈ q))

-- an inequality of closed fractions, by computation: `≼_computed tt` under a line `unfolding of_ℤ ◌+ᶠ◌ -ᶠ◌ ◌*ᶠ◌ ◌÷◌ over`
pub ≼_computed : {a b : Fraction} → T (le_z (a.num *ℤ pos b.den) (b.num *ℤ pos a.den)) → a ≼ b
≼_computed t = record { across = record { le = t } }

-- ---- what is not negative

abbrev pub Nonneg : Fraction → Type 0
Nonneg a = of_ℕ 0 ≼ a

pub nonneg_num : {a : Fraction} → Nonneg a → pos 0 ≤ℤ a.num
unfolding of_ℤ
nonneg_num {a} h =
    subst₂ ◌≤ℤ◌ (solve_ℤ (pos a.den ∷ []) (con (pos 0) :* var 0) (con (pos 0)) tt) (*ℤ_idr a.num) h.across

pub num_nonneg : {a : Fraction} → pos 0 ≤ℤ a.num → Nonneg a
unfolding of_ℤ
num_nonneg {a} h =
    record { across = subst₂ ◌≤ℤ◌ (solve_ℤ (pos a.den ∷ []) (con (pos 0)) (con (pos 0) :* var 0) tt) (sym (*ℤ_idr a.num)) h }

pub nonneg_by : {a b : Fraction} → a ≈ b → Nonneg b → Nonneg a
nonneg_by e h = ≼_trans h (≼_of-≈ (≈_sym e))

across_diff : (a b : Fraction) → b.num *ℤ pos a.den -ℤ a.num *ℤ pos b.den ≡ (b -ᶠ a).num
unfolding ◌+ᶠ◌ -ᶠ◌
across_diff a b =
    solve_ℤ (a.num ∷ pos a.den ∷ b.num ∷ pos b.den ∷ []) (var 2 :* var 1 :+ :- (var 0 :* var 3)) (var 2 :* var 1 :+ :- var 0 :* var 3) tt

-- from h : a ≼ b, the fact 0 ≼ b − a
pub slack : {a b : Fraction} → a ≼ b → Nonneg (b -ᶠ a)
slack {a} {b} h = num_nonneg (subst (λ x. pos 0 ≤ℤ x) (across_diff a b) (≤ℤ_diff h.across))

pub from_slack : {a b : Fraction} → Nonneg (b -ᶠ a) → a ≼ b
from_slack {a} {b} h =
    record { across = ≤ℤ_of_diff (a.num *ℤ pos b.den) (b.num *ℤ pos a.den) (subst (λ x. pos 0 ≤ℤ x) (sym (across_diff a b)) (nonneg_num h)) }

-- ---- putting a certificate together

infixl 6 ◌⊞◌
infixl 7 ◌⊠◌
-- a number
pub number : (n : ℕ) → Nonneg (of_ℕ n)
unfolding of_ℤ
number n = num_nonneg (nonneg_pos n)

-- a sum
pub ◌⊞◌ : {a b : Fraction} → Nonneg a → Nonneg b → Nonneg (a +ᶠ b)
unfolding ◌+ᶠ◌
◌⊞◌ {a} {b} h k = num_nonneg (nonneg-+ℤ (nonneg-*ℤ (nonneg_num h) (nonneg_pos b.den)) (nonneg-*ℤ (nonneg_num k) (nonneg_pos a.den)))

-- a product
pub ◌⊠◌ : {a b : Fraction} → Nonneg a → Nonneg b → Nonneg (a *ᶠ b)
unfolding ◌*ᶠ◌
h ⊠ k = num_nonneg (nonneg-*ℤ (nonneg_num h) (nonneg_num k))

square_num : (x : ℤ) → pos 0 ≤ℤ (x *ℤ x)
square_num (pos n) = nonneg_pos (n * n)
square_num (negsuc n) = nonneg_pos (suc n * suc n)

-- a square
pub square : (a : Fraction) → Nonneg (a *ᶠ a)
unfolding ◌*ᶠ◌
square a = num_nonneg (square_num a.num)

pub difference_zero : {a b : Fraction} → a ≈ b → b -ᶠ a ≈ of_ℕ 0
difference_zero {a} {b} e = ≈_trans (+ᶠ_cong (≈_sym e) (≈_refl (-ᶠ a))) (cancel a)
  where
    cancel : (x : Fraction) → x -ᶠ x ≈ of_ℕ 0
    cancel x = ring (x ∷ []) (search quote depth 40 fits 9999) tt

times_zero : (c : Fraction) → c *ᶠ of_ℕ 0 ≈ of_ℕ 0
times_zero c = ring (c ∷ []) (search quote depth 40 fits 9999) tt

-- any multiple c × (b − a) of an equation a ≈ b: added to a certificate it turns c × a there into c × b
pub multiple : (c : Fraction) {a b : Fraction} → a ≈ b → Nonneg (c *ᶠ (b -ᶠ a))
multiple c e = nonneg_by (≈_trans (*ᶠ_cong (≈_refl c) (difference_zero e)) (times_zero c)) (≼_refl (of_ℕ 0))

-- ---- inequalities by certificate: `certify (a ∷ b ∷ []) (slack h ⊞ number 2 ⊠ slack k) (search quote depth 40 fits 9999) tt`

pub certify : (vs : List Fraction) {a b c : Fraction} → Nonneg c → (q : Sides Fraction-ring vs (b -ᶠ a) c) → Vanishes (gap Fraction-ring vs q) → a ≼ b
certify vs h q t = from_slack (nonneg_by (ring vs q t) h)

-- the same up to equations: `certify_by (a ∷ b ∷ []) (c ⋅ e & none) (slack h) (search quote depth 40 fits 9999) tt`
pub certify_by : (vs : List Fraction) {zs : List Fraction} {a b c : Fraction} → Zeros zs → Nonneg c
    → (q : Given Fraction-ring vs zs (b -ᶠ a) c) → Vanishes (rest Fraction-ring vs q) → a ≼ b
certify_by vs ks h q t = from_slack (nonneg_by (ring_by vs ks q t) h)

-- the same with (n + 1) × (b − a) for b − a
pub certify_times : (n : ℕ) (vs : List Fraction) {a b c : Fraction} → Nonneg c
    → (q : Sides Fraction-ring vs (of_ℕ (suc n) *ᶠ (b -ᶠ a)) c) → Vanishes (gap Fraction-ring vs q) → a ≼ b
unfolding ◌*ᶠ◌ of_ℤ
certify_times n vs h q t =
    from_slack (num_nonneg (nonneg_cancel (suc n) (suc-le-suc zero-le) (nonneg_num (nonneg_by (ring vs q t) h))))
