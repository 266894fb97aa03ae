-- The signed numbers of lib.IntN as an ordered commutative ring: what the library lacks of it.
-- Sums and the order follow by `omega` with `ints`; what is here beside are products: associativity, distributivity, negations, products of
-- nonnegatives, and cancellation; and the natural number by which one number is larger than another.
use mathlib.Core.Path.{◌≡◌, refl, sym, ◌∙◌, ap, subst}
use mathlib.Core.Bool.{Bool, true, false}
use mathlib.Core.Logic.{◌⊎◌, inl, inr}
use Prim.Native.Nat.{ℕ, zero, suc, ◌*◌, ◌≤◌, ◌<◌}
use native.Mathlib.Nat as NatL
use native.Mathlib.Omega.{arith}
use Rattle.std.proofs.lemmas.Int.{ints}
use lib.IntN.{ℤ, pos, negsuc, suc_ℤ, pred_ℤ, neg_ℤ, ◌+ℤ◌, ◌-ℤ◌, ◌*ℤ◌, +ℤ_idl, +ℤ_invl, suc_ℤ-+ℤ, pred_ℤ-+ℤ, suc_ℤ-*ℤ, pred_ℤ-*ℤ, zero-*ℤ, *ℤ_comm, *ℤ-one, one}
use lib.Signed.{◌≤ℤ◌, le_z}

-- ---- sums

-- (a + b) + c = (a + c) + b
pub +ℤ_swap_r : (a b c : ℤ) → (a +ℤ b) +ℤ c ≡ (a +ℤ c) +ℤ b
+ℤ_swap_r a b c = omega (arith, ints)

-- a = b where a + c = b + c
pub +ℤ_cancel : {a b : ℤ} (c : ℤ) → a +ℤ c ≡ b +ℤ c → a ≡ b
+ℤ_cancel c e = omega (arith, ints)

-- ---- products

-- the steps of the induction on a
Distributes : ℤ → ℤ → ℤ → Type 0
Distributes a b c = (a +ℤ b) *ℤ c ≡ (a *ℤ c) +ℤ (b *ℤ c)

distributes_suc : (a b c : ℤ) → Distributes a b c → Distributes (suc_ℤ a) b c
unfolding Distributes
distributes_suc a b c h =
    ap (λ (x : ℤ). x *ℤ c) (suc_ℤ-+ℤ a b) ∙ suc_ℤ-*ℤ (a +ℤ b) c ∙ ap (λ (x : ℤ). x +ℤ c) h ∙ +ℤ_swap_r (a *ℤ c) (b *ℤ c) c ∙ ap (λ (x : ℤ). x +ℤ (b *ℤ c)) (sym (suc_ℤ-*ℤ a c))

distributes_pred : (a b c : ℤ) → Distributes a b c → Distributes (pred_ℤ a) b c
unfolding Distributes
distributes_pred a b c h =
    ap (λ (x : ℤ). x *ℤ c) (pred_ℤ-+ℤ a b) ∙ pred_ℤ-*ℤ (a +ℤ b) c ∙ ap (λ (x : ℤ). x -ℤ c) h ∙ +ℤ_swap_r (a *ℤ c) (b *ℤ c) (neg_ℤ c) ∙ ap (λ (x : ℤ). x +ℤ (b *ℤ c)) (sym (pred_ℤ-*ℤ a c))

distributes_zero : (b c : ℤ) → Distributes (pos zero) b c
unfolding Distributes
distributes_zero b c = ap (λ (x : ℤ). x *ℤ c) (+ℤ_idl b) ∙ sym (+ℤ_idl (b *ℤ c)) ∙ ap (λ (x : ℤ). x +ℤ (b *ℤ c)) (sym (zero-*ℤ c))

distributes : (a b c : ℤ) → Distributes a b c
distributes (pos zero) b c = distributes_zero b c
distributes (pos (suc n)) b c = distributes_suc (pos n) b c (distributes (pos n) b c)
distributes (negsuc zero) b c = distributes_pred (pos zero) b c (distributes_zero b c)
distributes (negsuc (suc n)) b c = distributes_pred (negsuc n) b c (distributes (negsuc n) b c)

pub *ℤ_distrib_r : (a b c : ℤ) → (a +ℤ b) *ℤ c ≡ (a *ℤ c) +ℤ (b *ℤ c)
unfolding Distributes
*ℤ_distrib_r a b c = distributes a b c

pub *ℤ_distrib_l : (a b c : ℤ) → a *ℤ (b +ℤ c) ≡ (a *ℤ b) +ℤ (a *ℤ c)
*ℤ_distrib_l a b c = *ℤ_comm a (b +ℤ c) ∙ *ℤ_distrib_r b c a ∙ ap (λ (x : ℤ). x +ℤ (c *ℤ a)) (*ℤ_comm b a) ∙ ap (λ (x : ℤ). (a *ℤ b) +ℤ x) (*ℤ_comm c a)

-- a negation moves out of either factor
pub neg-*ℤ : (a b : ℤ) → neg_ℤ a *ℤ b ≡ neg_ℤ (a *ℤ b)
neg-*ℤ a b = +ℤ_cancel (a *ℤ b) (sym (*ℤ_distrib_r (neg_ℤ a) a b) ∙ ap (λ (x : ℤ). x *ℤ b) (+ℤ_invl a) ∙ zero-*ℤ b ∙ sym (+ℤ_invl (a *ℤ b)))

pub *ℤ_neg : (a b : ℤ) → a *ℤ neg_ℤ b ≡ neg_ℤ (a *ℤ b)
*ℤ_neg a b = *ℤ_comm a (neg_ℤ b) ∙ neg-*ℤ b a ∙ ap neg_ℤ (*ℤ_comm b a)

pub *ℤ_idr : (a : ℤ) → a *ℤ pos 1 ≡ a
unfolding one
*ℤ_idr a = *ℤ-one a

pub *ℤ_idl : (a : ℤ) → pos 1 *ℤ a ≡ a
*ℤ_idl a = *ℤ_comm (pos 1) a ∙ *ℤ_idr a

-- the steps of the induction on a, for associativity
Associates : ℤ → ℤ → ℤ → Type 0
Associates a b c = (a *ℤ b) *ℤ c ≡ a *ℤ (b *ℤ c)

associates_suc : (a b c : ℤ) → Associates a b c → Associates (suc_ℤ a) b c
unfolding Associates
associates_suc a b c h =
    ap (λ (x : ℤ). x *ℤ c) (suc_ℤ-*ℤ a b) ∙ *ℤ_distrib_r (a *ℤ b) b c ∙ ap (λ (x : ℤ). x +ℤ (b *ℤ c)) h ∙ sym (suc_ℤ-*ℤ a (b *ℤ c))

associates_pred : (a b c : ℤ) → Associates a b c → Associates (pred_ℤ a) b c
unfolding Associates
associates_pred a b c h =
    ap (λ (x : ℤ). x *ℤ c) (pred_ℤ-*ℤ a b) ∙ *ℤ_distrib_r (a *ℤ b) (neg_ℤ b) c ∙ ap (λ (x : ℤ). x +ℤ (neg_ℤ b *ℤ c)) h ∙ ap (λ (x : ℤ). (a *ℤ (b *ℤ c)) +ℤ x) (neg-*ℤ b c) ∙ sym (pred_ℤ-*ℤ a (b *ℤ c))

associates_zero : (b c : ℤ) → Associates (pos zero) b c
unfolding Associates
associates_zero b c = ap (λ (x : ℤ). x *ℤ c) (zero-*ℤ b) ∙ zero-*ℤ c ∙ sym (zero-*ℤ (b *ℤ c))

associates : (a b c : ℤ) → Associates a b c
associates (pos zero) b c = associates_zero b c
associates (pos (suc n)) b c = associates_suc (pos n) b c (associates (pos n) b c)
associates (negsuc zero) b c = associates_pred (pos zero) b c (associates_zero b c)
associates (negsuc (suc n)) b c = associates_pred (negsuc n) b c (associates (negsuc n) b c)

pub *ℤ_assoc : (a b c : ℤ) → (a *ℤ b) *ℤ c ≡ a *ℤ (b *ℤ c)
unfolding Associates
*ℤ_assoc a b c = associates a b c

-- ---- order

pub ≤ℤ_of_eq : {a b : ℤ} → a ≡ b → a ≤ℤ b
≤ℤ_of_eq e = omega (arith, ints)

pub ≤ℤ_trans : {a b c : ℤ} → a ≤ℤ b → b ≤ℤ c → a ≤ℤ c
≤ℤ_trans h k = omega (arith, ints)

-- two numbers that are each at most the other are equal
pub ≤ℤ_antisym : {a b : ℤ} → a ≤ℤ b → b ≤ℤ a → a ≡ b
≤ℤ_antisym h k = omega (arith, ints)

-- of two numbers one is at most the other
pub ≤ℤ_total : (a b : ℤ) → (a ≤ℤ b) ⊎ (b ≤ℤ a)
≤ℤ_total a b = go (le_z a b) refl
  where
    go : (t : Bool) → le_z a b ≡ t → (a ≤ℤ b) ⊎ (b ≤ℤ a)
    go true e = inl (grind (arith, ints))
    go false e = inr (grind (arith, ints))

-- 0 is at most b - a exactly if a is at most b
pub ≤ℤ_diff : {a b : ℤ} → a ≤ℤ b → pos zero ≤ℤ (b -ℤ a)
≤ℤ_diff h = omega (arith, ints)

pub ≤ℤ_of_diff : (a b : ℤ) → pos zero ≤ℤ (b -ℤ a) → a ≤ℤ b
≤ℤ_of_diff a b h = omega (arith, ints)

-- a number that is not negative is a natural number, and every larger number is the smaller and a natural number more
pub ≤ℤ_nat : {a : ℤ} → pos zero ≤ℤ a → (n : ℕ) × (a ≡ pos n)
≤ℤ_nat {a = pos n} h = (n, refl)
≤ℤ_nat {a = negsuc n} h = absurd h.le

pub ≤ℤ_gap : {a b : ℤ} → a ≤ℤ b → (n : ℕ) × (b ≡ a +ℤ pos n)
≤ℤ_gap h = let (n, e) = ≤ℤ_nat (≤ℤ_diff h) in (n, omega (arith, ints, e))

pub nonneg_pos : (n : ℕ) → pos zero ≤ℤ pos n
nonneg_pos n = omega (arith, ints)

pub nonneg-*ℤ : {a b : ℤ} → pos zero ≤ℤ a → pos zero ≤ℤ b → pos zero ≤ℤ (a *ℤ b)
nonneg-*ℤ {a = pos a} {b = pos b} h k = nonneg_pos (a * b)
nonneg-*ℤ {a = pos a} {b = negsuc b} h k = absurd k.le
nonneg-*ℤ {a = negsuc a} h k = absurd h.le

pub nonneg-+ℤ : {a b : ℤ} → pos zero ≤ℤ a → pos zero ≤ℤ b → pos zero ≤ℤ (a +ℤ b)
nonneg-+ℤ h k = omega (arith, ints)

-- a nonnegative factor keeps the order
pub ≤ℤ_mul_l : {a b c : ℤ} → pos zero ≤ℤ c → a ≤ℤ b → (c *ℤ a) ≤ℤ (c *ℤ b)
≤ℤ_mul_l {a} {b} {c} h k = ≤ℤ_of_diff (c *ℤ a) (c *ℤ b) (subst (λ (x : ℤ). pos zero ≤ℤ x) (*ℤ_distrib_l c b (neg_ℤ a) ∙ ap (λ (x : ℤ). (c *ℤ b) +ℤ x) (*ℤ_neg c a)) (nonneg-*ℤ h (≤ℤ_diff k)))

pub ≤ℤ_mul_r : {a b c : ℤ} → pos zero ≤ℤ c → a ≤ℤ b → (a *ℤ c) ≤ℤ (b *ℤ c)
≤ℤ_mul_r {a} {b} {c} h k = subst (λ (x : ℤ). x ≤ℤ (b *ℤ c)) (*ℤ_comm c a) (subst (λ (x : ℤ). (c *ℤ a) ≤ℤ x) (*ℤ_comm c b) (≤ℤ_mul_l h k))

pub ≤ℤ_neg : {a b : ℤ} → a ≤ℤ b → neg_ℤ b ≤ℤ neg_ℤ a
≤ℤ_neg h = omega (arith, ints)

-- a positive factor is cancelled
pub nonneg_cancel : (n : ℕ) {a : ℤ} → 0 < n → pos zero ≤ℤ (pos n *ℤ a) → pos zero ≤ℤ a
nonneg_cancel n {a = pos a} p h = nonneg_pos a
nonneg_cancel n {a = negsuc a} p h = below (n * suc a) (NatL.mul-pos p (omega arith)) h
  where
    below : (k : ℕ) → 0 < k → pos zero ≤ℤ (neg_ℤ (pos k)) → pos zero ≤ℤ negsuc a
    below zero q h = absurd (omega arith)
    below (suc k) q h = absurd h.le

pub ≤ℤ_cancel_l : (n : ℕ) (a b : ℤ) → 0 < n → (pos n *ℤ a) ≤ℤ (pos n *ℤ b) → a ≤ℤ b
≤ℤ_cancel_l n a b p h =
    ≤ℤ_of_diff a b (nonneg_cancel n p (subst (λ (x : ℤ). pos zero ≤ℤ x) (ap (λ (x : ℤ). (pos n *ℤ b) +ℤ x) (sym (*ℤ_neg (pos n) a)) ∙ sym (*ℤ_distrib_l (pos n) b (neg_ℤ a))) (≤ℤ_diff h)))

pub ≤ℤ_cancel_r : (n : ℕ) (a b : ℤ) → 0 < n → (a *ℤ pos n) ≤ℤ (b *ℤ pos n) → a ≤ℤ b
≤ℤ_cancel_r n a b p h = ≤ℤ_cancel_l n a b p (subst (λ (x : ℤ). x ≤ℤ (pos n *ℤ b)) (*ℤ_comm a (pos n)) (subst (λ (x : ℤ). (a *ℤ pos n) ≤ℤ x) (*ℤ_comm b (pos n)) h))

pub *ℤ_cancel_r : (n : ℕ) (a b : ℤ) → 0 < n → a *ℤ pos n ≡ b *ℤ pos n → a ≡ b
*ℤ_cancel_r n a b p e = ≤ℤ_antisym (≤ℤ_cancel_r n a b p (≤ℤ_of_eq e)) (≤ℤ_cancel_r n b a p (≤ℤ_of_eq (sym e)))

-- natural numbers keep their order, their sums and their products (pos-+ℤ-pos and pos-*ℤ-pos of lib.IntN hold by definition)
pub pos_mono : {m n : ℕ} → m ≤ n → pos m ≤ℤ pos n
pos_mono h = omega (arith, ints)

pub pos_reflect : {m n : ℕ} → pos m ≤ℤ pos n → m ≤ n
pos_reflect h = omega (arith, ints)
