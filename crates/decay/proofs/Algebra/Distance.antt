-- How near two fractions are. `Within a b e` says |a − b| ≤ e and `Small x e` says |x| ≤ e, each by its two inequalities.
-- A bound on an expression is put together from bounds on its parts, and `near` ties it to the goal by the normaliser, for both inequalities at once.
use mathlib.Core.Path.{◌≡◌, refl, sym, subst}
use mathlib.Core.List.{List, [], ◌∷◌}
use mathlib.Core.Logic.{◌⊎◌, inl, inr}
use Prim.Native.Nat.{suc}
use lib.IntN.{ℤ, pos, negsuc, neg_ℤ}
use lib.Signed.{◌≤ℤ◌}
use Rattle.decay.specs.Fraction.{Fraction, ◌≈◌, ◌≼◌, of_ℕ, ◌+ᶠ◌, -ᶠ◌, ◌-ᶠ◌, ◌*ᶠ◌, ∣◌∣ᶠ, distance}
use Rattle.decay.proofs.Algebra.Signed.{nonneg_pos}
use Rattle.decay.proofs.Algebra.Normal.{Given, rest, Vanishes}
use Rattle.decay.proofs.Algebra.Rational.{Fraction-ring, ≈_refl, ≈_sym}
use Rattle.decay.proofs.Algebra.Identity.{ring, ring_by, Zeros, none, ◌&◌, ◌⋅◌, quote}
use Rattle.decay.proofs.Algebra.Order.{≼_refl, ≼_trans, ≼_of-≈, Nonneg, num_nonneg, slack, number, ◌⊞◌, ◌⊠◌, certify, certify_by, certify_times}

pub record Small (x e : Fraction) : Type 0 where
  pub high : x ≼ e
  pub low : -ᶠ x ≼ e

pub record Within (a b e : Fraction) : Type 0 where
  pub high : a -ᶠ b ≼ e
  pub low : b -ᶠ a ≼ e

pub small : {a b e : Fraction} → Within a b e → Small (a -ᶠ b) e
small {a} {b} {e} w =
    record {
      high = w.high;
      low = certify (a ∷ b ∷ e ∷ []) (slack w.low) (search quote depth 40 fits 9999) tt;
    }

pub within : {a b e : Fraction} → Small (a -ᶠ b) e → Within a b e
within {a} {b} {e} s =
    record {
      high = s.high;
      low = certify (a ∷ b ∷ e ∷ []) (slack s.low) (search quote depth 40 fits 9999) tt;
    }

-- ---- bounds on sums and products

infixl 6 ◌⊞ˢ◌
infixl 7 ◌⊠ˢ◌
-- what is not negative is bounded by itself
pub sized : {c : Fraction} → Nonneg c → Small c c
sized {c} h =
    record { high = ≼_refl c; low = certify (c ∷ []) (number 2 ⊠ h) (search quote depth 40 fits 9999) tt }

pub small_zero : {x : Fraction} → x ≈ of_ℕ 0 → Small x (of_ℕ 0)
small_zero {x} h =
    record {
      high = ≼_of-≈ h;
      low = certify_by (x ∷ []) (of_ℕ 1 ⋅ h & none) (number 0) (search quote depth 40 fits 9999) tt;
    }

pub small_minus : {x e : Fraction} → Small x e → Small (-ᶠ x) e
small_minus {x} {e} s =
    record { high = s.low; low = certify (x ∷ e ∷ []) (slack s.high) (search quote depth 40 fits 9999) tt }

pub small_weaken : {x e f : Fraction} → Small x e → e ≼ f → Small x f
small_weaken s h = record { high = ≼_trans s.high h; low = ≼_trans s.low h }

pub small_by : {x y e : Fraction} → x ≈ y → Small y e → Small x e
small_by {x} {y} {e} p s =
    record {
      high = ≼_trans (≼_of-≈ p) s.high;
      low = certify_by (x ∷ y ∷ e ∷ []) (of_ℕ 1 ⋅ p & none) (slack s.low) (search quote depth 40 fits 9999) tt;
    }

-- the bound of something small is not negative
pub bound_nonneg : {x e : Fraction} → Small x e → Nonneg e
bound_nonneg {x} {e} s =
    certify_times 1 (x ∷ e ∷ []) (slack s.high ⊞ slack s.low) (search quote depth 40 fits 9999) tt

pub ◌⊞ˢ◌ : {x y e f : Fraction} → Small x e → Small y f → Small (x +ᶠ y) (e +ᶠ f)
◌⊞ˢ◌ {x} {y} {e} {f} s t =
    record {
      high = certify (x ∷ y ∷ e ∷ f ∷ []) (slack s.high ⊞ slack t.high) (search quote depth 40 fits 9999) tt;
      low = certify (x ∷ y ∷ e ∷ f ∷ []) (slack s.low ⊞ slack t.low) (search quote depth 40 fits 9999) tt;
    }

pub ◌⊠ˢ◌ : {x y e f : Fraction} → Small x e → Small y f → Small (x *ᶠ y) (e *ᶠ f)
◌⊠ˢ◌ {x} {y} {e} {f} s t =
    record {
      high = certify_times 1 (x ∷ y ∷ e ∷ f ∷ []) (slack s.high ⊠ slack t.low ⊞ slack s.low ⊠ slack t.high) (search quote depth 40 fits 9999) tt;
      low = certify_times 1 (x ∷ y ∷ e ∷ f ∷ []) (slack s.high ⊠ slack t.high ⊞ slack s.low ⊠ slack t.low) (search quote depth 40 fits 9999) tt;
    }

-- ---- both inequalities of a distance from one bound: a − b is x, and e is x's bound with something not negative, both up to equations
-- `near (a ∷ b ∷ []) none (small v ⊞ˢ small w) (number 1) (search quote depth 40 fits 9999) tt (search quote depth 40 fits 9999) tt`
pub near : (vs : List Fraction) {zs : List Fraction} {a b e x f c : Fraction} → Zeros zs → Small x f → Nonneg c
    → (q : Given Fraction-ring vs zs (a -ᶠ b) x) → Vanishes (rest Fraction-ring vs q)
    → (r : Given Fraction-ring vs zs e (f +ᶠ c)) → Vanishes (rest Fraction-ring vs r) → Within a b e
near vs {zs} {a} {b} {e} {x} {f} {c} ks s h q t r u =
    within (small_by (ring_by vs ks q t) (small_weaken s enough))
  where
    enough : f ≼ e
    enough = certify_by (e ∷ f ∷ c ∷ []) (of_ℕ 1 ⋅ ring_by vs ks r u & none) h (search quote depth 40 fits 9999) tt

-- ---- the rules of distance

pub within_of-≈ : {a b : Fraction} → a ≈ b → Within a b (of_ℕ 0)
within_of-≈ {a} {b} h =
    near (a ∷ b ∷ []) (of_ℕ 1 ⋅ h & none) (small_zero (≈_refl (of_ℕ 0))) (number 0) (search quote depth 40 fits 9999) tt (search quote depth 40 fits 9999) tt

pub within_sym : {a b e : Fraction} → Within a b e → Within b a e
within_sym w = record { high = w.low; low = w.high }

pub within_weaken : {a b e f : Fraction} → Within a b e → e ≼ f → Within a b f
within_weaken w h = record { high = ≼_trans w.high h; low = ≼_trans w.low h }

pub within_trans : {a b c e f : Fraction} → Within a b e → Within b c f → Within a c (e +ᶠ f)
within_trans {a} {b} {c} {e} {f} v w =
    near (a ∷ b ∷ c ∷ e ∷ f ∷ []) none (small v ⊞ˢ small w) (number 0) (search quote depth 40 fits 9999) tt (search quote depth 40 fits 9999) tt

pub within_sum : {a b c d e f : Fraction} → Within a b e → Within c d f → Within (a +ᶠ c) (b +ᶠ d) (e +ᶠ f)
within_sum {a} {b} {c} {d} {e} {f} v w =
    near (a ∷ b ∷ c ∷ d ∷ e ∷ f ∷ []) none (small v ⊞ˢ small w) (number 0) (search quote depth 40 fits 9999) tt (search quote depth 40 fits 9999) tt

pub within_scale : {a b c e : Fraction} → Nonneg c → Within a b e → Within (c *ᶠ a) (c *ᶠ b) (c *ᶠ e)
within_scale {a} {b} {c} {e} h v =
    near (a ∷ b ∷ c ∷ e ∷ []) none (sized h ⊠ˢ small v) (number 0) (search quote depth 40 fits 9999) tt (search quote depth 40 fits 9999) tt

-- ---- absolute value and distance

-- a fraction is its absolute value, or the negation of it
abbrev Signed : Fraction → Type 0
Signed a = ((∣ a ∣ᶠ ≈ a) × Nonneg a) ⊎ ((∣ a ∣ᶠ ≈ -ᶠ a) × Nonneg (-ᶠ a))

abs_cases : (a : Fraction) (z : ℤ) → a.num ≡ z → Signed a
unfolding ∣◌∣ᶠ -ᶠ◌
abs_cases a (pos n) e =
    inl (record { across = rw e }, num_nonneg (subst (λ z. pos 0 ≤ℤ z) (sym e) (nonneg_pos n)))
abs_cases a (negsuc n) e =
    inr (record { across = rw e }, num_nonneg (subst (λ z. pos 0 ≤ℤ neg_ℤ z) (sym e) (nonneg_pos (suc n))))

pub small_abs : (a : Fraction) → Small a ∣ a ∣ᶠ
small_abs a = go (abs_cases a a.num refl)
  where
    go : Signed a → Small a ∣ a ∣ᶠ
    go (inl h) = small_weaken (sized h.1) (≼_of-≈ (≈_sym h.0))
    go (inr h) = small_by twice (small_minus (small_weaken (sized h.1) (≼_of-≈ (≈_sym h.0))))
      where
        twice : a ≈ -ᶠ (-ᶠ a)
        twice = ring (a ∷ []) (search quote depth 40 fits 9999) tt

pub abs_le : {a e : Fraction} → Small a e → ∣ a ∣ᶠ ≼ e
abs_le {a} {e} s = go (abs_cases a a.num refl)
  where
    go : Signed a → ∣ a ∣ᶠ ≼ e
    go (inl h) = ≼_trans (≼_of-≈ h.0) s.high
    go (inr h) = ≼_trans (≼_of-≈ h.0) s.low

pub within_distance : (a b : Fraction) → Within a b (distance a b)
unfolding distance
within_distance a b = within (small_abs (a -ᶠ b))

-- from a distance of the definitions to the two inequalities, and back
pub distance→within : {a b e : Fraction} → distance a b ≼ e → Within a b e
distance→within {a} {b} h = within_weaken (within_distance a b) h

pub within→distance : {a b e : Fraction} → Within a b e → distance a b ≼ e
unfolding distance
within→distance w = abs_le (small w)

pub within_by : {a b c d e : Fraction} → a ≈ c → b ≈ d → Within c d e → Within a b e
within_by {a} {b} {c} {d} {e} p q w =
    near (a ∷ b ∷ c ∷ d ∷ e ∷ []) (of_ℕ 1 ⋅ p & of_ℕ 1 ⋅ q & none) (small w) (number 0) (search quote depth 40 fits 9999) tt (search quote depth 40 fits 9999) tt
