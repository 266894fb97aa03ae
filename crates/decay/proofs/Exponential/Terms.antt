-- The terms x^n / n! of the exponential series, used only through their first one and (n + 1) × e (n + 1) = x × e n.
-- Shown: that this determines a sequence, that the product of two series is the series of the sum, order and sign of the terms.
use mathlib.Core.List.{[], ◌∷◌}
use Prim.Native.Nat.{ℕ, zero, suc, ◌*◌, ◌<◌}
use native.Mathlib.Nat.{mul-pos}
use native.Mathlib.Omega.{arith}
use lib.Dec.{lit<}
use lib.IntN.{pos}
use Rattle.decay.specs.Fraction.{Fraction, of_ℕ, of_ℤ, over, ◌+ᶠ◌, -ᶠ◌, ◌-ᶠ◌, ◌*ᶠ◌, ◌÷◌, ◌≈◌, ◌≼◌}
use Rattle.decay.specs.Exact.{power, factorial, term, sum, S}
use Rattle.decay.proofs.Algebra.{≈_refl, ≈_sym, ≈_trans, +ᶠ_cong, *ᶠ_cong, -ᶠ_cong, of_ℤ-*, quote, ring, ring_by, none, ◌&◌, ◌⋅◌, ≼_refl, ≼_trans, ≼_antisym, ≼_by, nonneg_by, slack, number, ◌⊞◌, ◌⊠◌, multiple, certify, certify_times, Small}
use Rattle.decay.proofs.Exponential.Division.{over_times}
use Rattle.decay.proofs.Exponential.Sequence.{derive, conv, Same, sum_cong, conv_cong, conv_scale_l, conv_scale_r, leibniz}

-- x^n / n!
unfoldable pub e : Fraction → ℕ → Fraction
e x n = power x n ÷ of_ℕ (factorial n)

-- a sequence that begins with 1 and goes on by x / (n + 1)
pub record Series (x : Fraction) (f : ℕ → Fraction) : Type 0 where
  pub first : f 0 ≈ of_ℕ 1
  pub next : (n : ℕ) → of_ℕ (suc n) *ᶠ f (suc n) ≈ x *ᶠ f n

factorial_pos : (n : ℕ) → 0 < factorial n
unfolding factorial
factorial_pos zero = lit< tt
factorial_pos (suc n) = mul-pos (omega arith) (factorial_pos n)

pub e_zero : (x : Fraction) → e x 0 ≈ of_ℕ 1
unfolding e power factorial ◌÷◌ of_ℤ
e_zero x = over_times 1 (lit< tt)

-- (n + 1) × (p x) / ((n + 1) k) = x × p / k
step : (n k : ℕ) (p x : Fraction) → 0 < k → 0 < n * k → of_ℕ n *ᶠ (p *ᶠ x *ᶠ over 1 (pos (n * k))) ≈ x *ᶠ (p *ᶠ over 1 (pos k))
step n k p x h h' =
    ring_by (x ∷ p ∷ of_ℕ n ∷ of_ℕ k ∷ of_ℕ (n * k) ∷ over 1 (pos k) ∷ over 1 (pos (n * k)) ∷ []) ((x *ᶠ p *ᶠ of_ℕ n *ᶠ over 1 (pos (n * k))) ⋅ over_times k h & (x *ᶠ p *ᶠ over 1 (pos k)) ⋅ over_times (n * k) h' & (x *ᶠ p *ᶠ over 1 (pos k) *ᶠ over 1 (pos (n * k))) ⋅ of_ℤ-* (pos n) (pos k) & none) (search quote depth 40 fits 9999) tt

pub e_suc : (x : Fraction) (n : ℕ) → of_ℕ (suc n) *ᶠ e x (suc n) ≈ x *ᶠ e x n
unfolding e power factorial ◌÷◌ of_ℤ
e_suc x n = step (suc n) (factorial n) (power x n) x (factorial_pos n) (factorial_pos (suc n))

pub e_series : (x : Fraction) → Series x (e x)
e_series x = record { first = e_zero x; next = e_suc x }

-- a factor n + 1 is cancelled
pub cancel-≈ : (n : ℕ) {a b : Fraction} → of_ℕ (suc n) *ᶠ a ≈ of_ℕ (suc n) *ᶠ b → a ≈ b
cancel-≈ n {a} {b} p =
    ≼_antisym (certify_times n (of_ℕ (suc n) ∷ a ∷ b ∷ []) (multiple (of_ℕ 1) p) (search quote depth 40 fits 9999) tt) (certify_times n (of_ℕ (suc n) ∷ a ∷ b ∷ []) (multiple (of_ℕ 1) (≈_sym p)) (search quote depth 40 fits 9999) tt)

-- two such sequences for equal numbers are equal
pub unique : {x y : Fraction} (f g : ℕ → Fraction) → Series x f → Series y g → x ≈ y → Same f g
unique f g p q r zero = ≈_trans p.first (≈_sym q.first)
unique f g p q r (suc n) = cancel-≈ n (≈_trans (p.next n) (≈_trans (*ᶠ_cong r (unique f g p q r n)) (≈_sym (q.next n))))

-- the product of two series is the series of the sum
pub conv_series : {a b : Fraction} (f g : ℕ → Fraction) → Series a f → Series b g → Series (a +ᶠ b) (conv f g)
unfolding conv
conv_series {a} {b} f g p q =
    record {
      first = ≈_trans (*ᶠ_cong p.first q.first) (ring [] (search quote depth 40 fits 9999) tt);
      next = λ n. ≈_trans (leibniz f g n) (≈_trans (+ᶠ_cong (left n) (right n)) (ring (a ∷ b ∷ conv f g n ∷ []) (search quote depth 40 fits 9999) tt));
    }
  where
    left : (n : ℕ) → conv (derive f) g n ≈ a *ᶠ conv f g n
    left n = ≈_trans (conv_cong (derive f) (λ i. a *ᶠ f i) g g p.next (λ i. ≈_refl (g i)) n) (conv_scale_l a f g n)

    right : (n : ℕ) → conv f (derive g) n ≈ b *ᶠ conv f g n
    right n = ≈_trans (conv_cong f f (derive g) (λ i. b *ᶠ g i) (λ i. ≈_refl (f i)) q.next n) (conv_scale_r b f g n)

pub conv_e : (a b : Fraction) → Same (conv (e a) (e b)) (e (a +ᶠ b))
conv_e a b = unique (conv (e a) (e b)) (e (a +ᶠ b)) (conv_series (e a) (e b) (e_series a) (e_series b)) (e_series (a +ᶠ b)) (≈_refl (a +ᶠ b))

-- ---- the terms of S

pub term_series : (x : Fraction) → Series (-ᶠ x) (term x)
unfolding term e
term_series x = e_series (-ᶠ x)

pub term_cong : {x y : Fraction} → x ≈ y → Same (term x) (term y)
term_cong {x} {y} r = unique (term x) (term y) (term_series x) (term_series y) (-ᶠ_cong r)

pub S-cong : (N : ℕ) {x y : Fraction} → x ≈ y → S N x ≈ S N y
unfolding S
S-cong N {x} {y} r = sum_cong (term x) (term y) (term_cong r) N

pub conv_term : (a b : Fraction) → Same (conv (term a) (term b)) (term (a +ᶠ b))
conv_term a b = unique (conv (term a) (term b)) (term (a +ᶠ b)) (conv_series (term a) (term b) (term_series a) (term_series b)) (term_series (a +ᶠ b)) (ring (a ∷ b ∷ []) (search quote depth 40 fits 9999) tt)

-- ---- order

pub e_nonneg : {x : Fraction} → of_ℕ 0 ≼ x → (n : ℕ) → of_ℕ 0 ≼ e x n
e_nonneg {x} h zero = nonneg_by (e_zero x) (number 1)
e_nonneg {x} h (suc n) = certify_times n (of_ℕ (suc n) ∷ x ∷ e x n ∷ e x (suc n) ∷ []) (h ⊠ e_nonneg h n ⊞ multiple (of_ℕ 1) (≈_sym (e_suc x n))) (search quote depth 40 fits 9999) tt

pub e_mono : {x c : Fraction} → of_ℕ 0 ≼ x → x ≼ c → (n : ℕ) → e x n ≼ e c n
e_mono {x} {c} h k zero = ≼_by (e_zero x) (≼_refl (of_ℕ 1)) (≈_sym (e_zero c))
e_mono {x} {c} h k (suc n) =
    certify_times n (of_ℕ (suc n) ∷ x ∷ c ∷ e x n ∷ e x (suc n) ∷ e c n ∷ e c (suc n) ∷ [])
    (≼_trans h k ⊠ slack (e_mono h k n) ⊞ slack k ⊠ e_nonneg h n ⊞ multiple (of_ℕ 1) (≈_sym (e_suc c n)) ⊞ multiple (of_ℕ 1) (e_suc x n))
    (search quote depth 40 fits 9999) tt

-- a term of S is in size at most that of the positive series
pub term_small : {x : Fraction} → of_ℕ 0 ≼ x → (n : ℕ) → Small (term x n) (e x n)
term_small {x} h zero =
    record {
      high = ≼_by (term_series x).first (≼_refl (of_ℕ 1)) (≈_sym (e_zero x));
      low = ≼_by (-ᶠ_cong (term_series x).first) (certify [] (number 2) (search quote depth 40 fits 9999) tt) (≈_sym (e_zero x));
    }
term_small {x} h (suc n) =
    let ih = term_small h n in
    let e' = multiple (of_ℕ 1) (≈_sym (e_suc x n)) in
    record {
      high = certify_times n (of_ℕ (suc n) ∷ x ∷ e x n ∷ e x (suc n) ∷ term x n ∷ term x (suc n) ∷ []) (h ⊠ slack ih.low ⊞ e' ⊞ multiple (of_ℕ 1) ((term_series x).next n)) (search quote depth 40 fits 9999) tt;
      low = certify_times n (of_ℕ (suc n) ∷ x ∷ e x n ∷ e x (suc n) ∷ term x n ∷ term x (suc n) ∷ []) (h ⊠ slack ih.high ⊞ e' ⊞ multiple (of_ℕ 1) (≈_sym ((term_series x).next n))) (search quote depth 40 fits 9999) tt;
    }

-- ---- the signs of the terms

-- 1, −1, 1, −1, ..
unfoldable pub sign : ℕ → Fraction
sign zero = of_ℕ 1
sign (suc n) = -ᶠ sign n

pub term_signed : (x : Fraction) → Same (term x) (λ n. sign n *ᶠ e x n)
unfolding sign
term_signed x =
    unique (term x) (λ n. sign n *ᶠ e x n) (term_series x)
    (record { first = ring_by (e x 0 ∷ []) (of_ℕ 1 ⋅ e_zero x & none) (search quote depth 40 fits 9999) tt; next = λ n. ring_by (of_ℕ (suc n) ∷ x ∷ e x n ∷ e x (suc n) ∷ sign n ∷ []) (sign n ⋅ e_suc x n & none) (search quote depth 40 fits 9999) tt })
    (≈_refl (-ᶠ x))

pub S-six : (x : Fraction) → S 6 x ≈ of_ℕ 1 -ᶠ e x 1 +ᶠ e x 2 -ᶠ e x 3 +ᶠ e x 4 -ᶠ e x 5
unfolding S sum sign
S-six x =
    ≈_trans (sum_cong (term x) (λ n. sign n *ᶠ e x n) (term_signed x) 6)
    (ring_by (e x 0 ∷ e x 1 ∷ e x 2 ∷ e x 3 ∷ e x 4 ∷ e x 5 ∷ []) (of_ℕ 1 ⋅ e_zero x & none) (search quote depth 40 fits 9999) tt)
