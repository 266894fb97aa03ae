-- Tails of the exponential series, without a geometric series: sum + 2 × (next term) never rises once 2 x is at most n + 1.
-- Shown: S at N and S at n differ by at most twice the term n, and what that is at n = 40 and x up to 4, and at n = 6 and x up to 1/256.
use mathlib.Core.Path.{subst}
use mathlib.Core.List.{[], ◌∷◌}
use Prim.Native.Nat.{ℕ, zero, suc, ◌^◌, ◌≤◌}
use native.Mathlib.Omega.{arith}
use native.Mathlib.Decide.{dec_le}
use lib.Signed.{le_z_yes}
use Rattle.decay.specs.Fraction.{Fraction, of_ℕ, of_ℤ, over, ◌+ᶠ◌, -ᶠ◌, ◌-ᶠ◌, ◌*ᶠ◌, ◌÷◌, ◌≼◌}
use Rattle.decay.specs.Exact.{power, factorial, term, sum, S}
use Rattle.decay.proofs.Algebra.{≈_sym, quote, ≼_refl, ≼_trans, slack, number, ◌⊞◌, ◌⊠◌, multiple, certify, certify_times, Small, Within, within, within_weaken, of_ℕ_suc}
use Rattle.decay.proofs.Exponential.Terms.{e, Series, e_series, e_nonneg, e_mono, term_small}

-- n is at most N, as a number of steps up
pub data UpTo (n : ℕ) : ℕ → Type 0 where
  here : UpTo n n
  further : {N : ℕ} → UpTo n N → UpTo n (suc N)

pub up_to : {n N : ℕ} → n ≤ N → UpTo n N
up_to {n = n} {N = zero} h = subst (UpTo n) {x = n} {y = 0} (omega arith) here
up_to {n = n} {N = suc N} h = go (dec_le n N) (λ k. up_to k)
  where
    go : Dec (n ≤ N) → (n ≤ N → UpTo n N) → UpTo n (suc N)
    go (yes k) f = further (f k)
    go (no k) f = subst (UpTo n) {x = n} {y = suc N} (omega arith) here

-- |f n| is at most F n for every n
abbrev pub Dominated : (ℕ → Fraction) → (ℕ → Fraction) → Type 0
Dominated f F = (n : ℕ) → Small (f n) (F n)

-- then the sums of f move at most as far as those of F
pub sum_moves : (f F : ℕ → Fraction) → Dominated f F → {n N : ℕ} → UpTo n N → Small (sum f N -ᶠ sum f n) (sum F N -ᶠ sum F n)
unfolding sum
sum_moves f F h {n} here =
    record {
      high = certify (sum f n ∷ sum F n ∷ []) (number 0) (search quote depth 40 fits 9999) tt;
      low = certify (sum f n ∷ sum F n ∷ []) (number 0) (search quote depth 40 fits 9999) tt;
    }
sum_moves f F h {n} (further {N = N} u) =
    let ih = sum_moves f F h u in
    record {
      high = certify (sum f n ∷ sum F n ∷ sum f N ∷ sum F N ∷ f N ∷ F N ∷ []) (slack ih.high ⊞ slack (h N).high) (search quote depth 40 fits 9999) tt;
      low = certify (sum f n ∷ sum F n ∷ sum f N ∷ sum F N ∷ f N ∷ F N ∷ []) (slack ih.low ⊞ slack (h N).low) (search quote depth 40 fits 9999) tt;
    }

-- twice the next term is at most this one
pub halves : {x : Fraction} (f : ℕ → Fraction) → Series x f → (n : ℕ) → of_ℕ 0 ≼ f n → of_ℕ 2 *ᶠ x ≼ of_ℕ (suc n) → of_ℕ 2 *ᶠ f (suc n) ≼ f n
halves {x} f s n h k =
    certify_times n (of_ℕ (suc n) ∷ x ∷ f n ∷ f (suc n) ∷ []) (slack k ⊠ h ⊞ multiple (of_ℕ 2) (s.next n)) (search quote depth 40 fits 9999) tt

module _ {x : Fraction} (sign_x : of_ℕ 0 ≼ x) {n : ℕ} (small : of_ℕ 2 *ᶠ x ≼ of_ℕ (suc n)) where
  still_small : {N : ℕ} → UpTo n N → of_ℕ 2 *ᶠ x ≼ of_ℕ (suc N)
  still_small here = small
  still_small (further {N = N} u) =
      certify (x ∷ of_ℕ (suc N) ∷ of_ℕ (suc (suc N)) ∷ []) (slack (still_small u) ⊞ multiple (of_ℕ 1) (≈_sym (of_ℕ_suc (suc N))) ⊞ number 1) (search quote depth 40 fits 9999) tt

  half : {N : ℕ} → UpTo n N → of_ℕ 2 *ᶠ e x (suc N) ≼ e x N
  half {N} u = halves (e x) (e_series x) N (e_nonneg sign_x N) (still_small u)

  -- the terms fall
  pub e_falls : {N : ℕ} → UpTo n N → e x N ≼ e x n
  e_falls here = ≼_refl (e x n)
  e_falls (further {N = N} u) =
      certify (e x n ∷ e x N ∷ e x (suc N) ∷ []) (slack (half u) ⊞ e_nonneg sign_x (suc N) ⊞ slack (e_falls u)) (search quote depth 40 fits 9999) tt

  -- sum + 2 × (next term) never rises
  never_rises : {N : ℕ} → UpTo n N → sum (e x) N +ᶠ of_ℕ 2 *ᶠ e x N ≼ sum (e x) n +ᶠ of_ℕ 2 *ᶠ e x n
  unfolding sum
  never_rises here = ≼_refl _
  never_rises (further {N = N} u) =
      certify (sum (e x) n ∷ e x n ∷ sum (e x) N ∷ e x N ∷ e x (suc N) ∷ []) (slack (half u) ⊞ slack (never_rises u)) (search quote depth 40 fits 9999) tt

  pub e_tail : {N : ℕ} → UpTo n N → sum (e x) N -ᶠ sum (e x) n ≼ of_ℕ 2 *ᶠ e x n
  e_tail {N} u =
      certify (sum (e x) n ∷ e x n ∷ sum (e x) N ∷ e x N ∷ []) (slack (never_rises u) ⊞ number 2 ⊠ e_nonneg sign_x N) (search quote depth 40 fits 9999) tt

  S-moves : {N : ℕ} → n ≤ N → Small (S N x -ᶠ S n x) (of_ℕ 2 *ᶠ e x n)
  unfolding S
  S-moves h =
      let w = sum_moves (term x) (e x) (term_small sign_x) (up_to h) in
      record { high = ≼_trans w.high (e_tail (up_to h)); low = ≼_trans w.low (e_tail (up_to h)) }

  -- S at N and at n
  pub S-tail : {N : ℕ} → n ≤ N → Within (S N x) (S n x) (of_ℕ 2 *ᶠ e x n)
  S-tail h = within (S-moves h)

-- ---- figures

-- 2 × 4^40 / 40! is at most 2^-78
pub last_term : of_ℕ 2 *ᶠ e (of_ℕ 4) 40 ≼ of_ℕ 1 ÷ of_ℕ (2 ^ 78)
unfolding e power factorial ◌÷◌ over ◌*ᶠ◌ of_ℤ
last_term = record { across = le_z_yes tt }

-- 2 / (256^6 × 6!) is at most 2^-56
pub sixth_term : of_ℕ 2 *ᶠ e (of_ℕ 1 ÷ of_ℕ 256) 6 ≼ of_ℕ 1 ÷ of_ℕ (2 ^ 56)
unfolding e power factorial ◌÷◌ over ◌*ᶠ◌ of_ℤ
sixth_term = record { across = le_z_yes tt }

-- for x up to 4 the terms fall from the fortieth on, and twice a term is then at most 2^-78
small_at_40 : {x : Fraction} → x ≼ of_ℕ 4 → of_ℕ 2 *ᶠ x ≼ of_ℕ 41
small_at_40 {x} h = certify (x ∷ []) (number 2 ⊠ slack h ⊞ number 33) (search quote depth 40 fits 9999) tt

pub still_small_past_40 : {x : Fraction} {N : ℕ} → of_ℕ 0 ≼ x → x ≼ of_ℕ 4 → 40 ≤ N → of_ℕ 2 *ᶠ x ≼ of_ℕ (suc N)
still_small_past_40 h k l = still_small h (small_at_40 k) (up_to l)

pub past_40 : {x : Fraction} {N : ℕ} → of_ℕ 0 ≼ x → x ≼ of_ℕ 4 → 40 ≤ N → of_ℕ 2 *ᶠ e x N ≼ of_ℕ 1 ÷ of_ℕ (2 ^ 78)
past_40 {x} {N} h k l =
    let fall = e_falls h (small_at_40 k) (up_to l) in
    let grow = e_mono h k 40 in
    certify (e x N ∷ e x 40 ∷ e (of_ℕ 4) 40 ∷ (of_ℕ 1 ÷ of_ℕ (2 ^ 78)) ∷ []) (number 2 ⊠ slack fall ⊞ number 2 ⊠ slack grow ⊞ slack last_term) (search quote depth 40 fits 9999) tt

-- S at N and at 40
pub S-tail_40 : {x : Fraction} {N : ℕ} → 40 ≤ N → of_ℕ 0 ≼ x → x ≼ of_ℕ 4 → Within (S N x) (S 40 x) (of_ℕ 1 ÷ of_ℕ (2 ^ 78))
S-tail_40 n h k = within_weaken (S-tail h (small_at_40 k) n) (past_40 h k (omega arith))
