-- The laws of S and F, stated over the definitions of specs/ alone, with distances as the river file paper compares errors.
-- The premises k × volume <= 345,600 × Q are check 11 of the river file paper: they keep the exponents at most 4.
use Prim.Native.Nat.{ℕ, suc, ◌*◌, ◌^◌, ◌≤◌}
use Rattle.decay.specs.Fraction.{Fraction, of_ℕ, ◌+ᶠ◌, ◌*ᶠ◌, ◌÷◌, ◌≼◌, distance}
use Rattle.decay.specs.Exact.{exponent, S, F}
use Rattle.decay.proofs.Algebra.{within→distance}
use Rattle.decay.proofs.Exponential.Tail.{S-tail_40}
use Rattle.decay.proofs.Exponential.Addition.{addition}
use Rattle.decay.proofs.Exponential.Compose.{S-compose, F-compose}

-- THEOREM: the addition law, S(a + b) against S(a) × S(b)
pub addition_law : (N : ℕ) (a b : Fraction) → 40 ≤ N → of_ℕ 0 ≼ a → of_ℕ 0 ≼ b → a +ᶠ b ≼ of_ℕ 4
    → distance (S N (a +ᶠ b)) (S N a *ᶠ S N b) ≼ of_ℕ 1 ÷ of_ℕ (2 ^ 78)
addition_law N a b n p q four = within→distance (addition n p q four)

-- THEOREM: the tail law: more than 40 terms change little
pub tail_law : (N : ℕ) (x : Fraction) → 40 ≤ N → of_ℕ 0 ≼ x → x ≼ of_ℕ 4 → distance (S N x) (S 40 x) ≼ of_ℕ 1 ÷ of_ℕ (2 ^ 78)
tail_law N x n p four = within→distance (S-tail_40 n p four)

-- THEOREM: S over one more instant
pub S-composition_law : (N k volume Q m : ℕ) → 40 ≤ N → k * volume ≤ 345_600 * Q → suc m ≤ 1024
    → distance (S N (exponent k volume Q (suc m))) (S N (exponent k volume Q m) *ᶠ S N (exponent k volume Q 1)) ≼ of_ℕ 1 ÷ of_ℕ (2 ^ 78)
S-composition_law N k volume Q m n h l = within→distance (S-compose n k volume Q m h l)

-- THEOREM: F over one more instant, for different and for equal rates
pub F-composition_law : (N k1 k2 volume Q m : ℕ) → 40 ≤ N → k1 ≤ 20_000 → k1 * volume ≤ 345_600 * Q → k2 * volume ≤ 345_600 * Q → suc m ≤ 1024
    → distance (F N k1 k2 volume Q (suc m)) (S N (exponent k1 volume Q m) *ᶠ F N k1 k2 volume Q 1 +ᶠ F N k1 k2 volume Q m *ᶠ S N (exponent k2 volume Q 1)) ≼ of_ℕ 1 ÷ of_ℕ (2 ^ 60)
F-composition_law N k1 k2 volume Q m n b h1 h2 l = within→distance (F-compose n k1 k2 volume Q m b h1 h2 l)
