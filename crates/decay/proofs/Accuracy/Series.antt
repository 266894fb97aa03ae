-- The terms of a step's series lie below the exact ones by little more than a unit. A term that is made from a near one is nearer than asked.
use mathlib.Core.List.{[], ◌∷◌}
use Prim.Native.Nat.{ℕ, suc, ◌≤◌}
use native.Mathlib.Omega.{arith}
use Rattle.decay.specs.Fraction.{Fraction, of_ℕ, ◌+ᶠ◌, -ᶠ◌, ◌-ᶠ◌, ◌*ᶠ◌, ◌÷◌, ◌≈◌, ◌≼◌}
use Rattle.decay.proofs.Algebra.{≈_sym, quote, Nonneg, slack, number, ◌⊞◌, ◌⊠◌, multiple, certify, certify_times, positive_whole, ÷_cancel_pos, of_ℕ_mono, of_ℕ_suc}
use Rattle.decay.proofs.Accuracy.Units.{eps, eps_nonneg, Floor, Part, Below}

-- t lies below e by at most c 64ths of a unit, and e is at most 1/s
pub record Under (c s : ℕ) (e t : Fraction) : Type 0 where
  pub low : t ≼ e
  pub high : of_ℕ 64 *ᶠ e ≼ of_ℕ 64 *ᶠ t +ᶠ of_ℕ c *ᶠ eps
  pub small : of_ℕ s *ᶠ e ≼ of_ℕ 1

-- a term that the next one is made from
abbrev pub Rough : Fraction → Fraction → Type 0
Rough = Under 130 256

-- a term that is made from such a one
abbrev pub TermNear : Fraction → Fraction → Type 0
TermNear = Under 65 512

-- The next term: e' = y × e / (n + 2) exactly, and t' is the floor of t × q / (n + 2), where q lies below y by at most a unit.
module _
    (n : ℕ)
    (y q e t e' t' : Fraction)
    (near_y : Below y q)
    (small_y : of_ℕ 256 *ᶠ y ≼ of_ℕ 1)
    (nonneg_q : Nonneg q)
    (nonneg_t : Nonneg t)
    (near_e : Rough e t)
    (exact : of_ℕ (suc (suc n)) *ᶠ e' ≈ y *ᶠ e)
    (floor : Floor (suc (suc n)) (t *ᶠ q) t')
  where
    two : of_ℕ 2 ≼ of_ℕ (suc (suc n))
    two = of_ℕ_mono (omega arith)

    next_low : t' ≼ e'
    next_low =
        certify_times (suc n) (of_ℕ (suc (suc n)) ∷ y ∷ q ∷ e ∷ t ∷ e' ∷ t' ∷ [])
        (slack floor.low ⊞ slack near_y.low ⊠ nonneg_t ⊞ (slack near_e.low ⊠ (nonneg_q ⊞ slack near_y.low)) ⊞ multiple (of_ℕ 1) (≈_sym exact))
        (search quote depth 40 fits 9999)
        tt

    nonneg_e : Nonneg (t +ᶠ (e -ᶠ t))
    nonneg_e = nonneg_t ⊞ slack near_e.low

    nonneg_y : Nonneg (q +ᶠ (y -ᶠ q))
    nonneg_y = nonneg_q ⊞ slack near_y.low

    times_high : of_ℕ (suc (suc n)) *ᶠ (of_ℕ 64 *ᶠ e') ≼ of_ℕ (suc (suc n)) *ᶠ (of_ℕ 64 *ᶠ t' +ᶠ of_ℕ 65 *ᶠ eps)
    times_high =
        certify_times 255 (of_ℕ (suc (suc n)) ∷ y ∷ q ∷ e ∷ t ∷ e' ∷ t' ∷ eps ∷ [])
        (number 16384 ⊠ slack floor.high ⊞ number 16384 ⊠ nonneg_e ⊠ slack near_y.high ⊞ number 256 ⊠ nonneg_q ⊠ slack near_e.high ⊞ number 64 ⊠ eps_nonneg ⊠ slack near_e.small ⊞ number 130 ⊠ eps_nonneg ⊠ (slack small_y ⊞ number 256 ⊠ slack near_y.low) ⊞ eps_nonneg ⊠ (number 256 ⊠ slack two ⊞ number 318) ⊞ multiple (of_ℕ 16384) exact)
        (search quote depth 40 fits 9999)
        tt

    times_small : of_ℕ (suc (suc n)) *ᶠ (of_ℕ 512 *ᶠ e') ≼ of_ℕ (suc (suc n)) *ᶠ of_ℕ 1
    times_small =
        certify_times 255 (of_ℕ (suc (suc n)) ∷ y ∷ q ∷ e ∷ t ∷ e' ∷ [])
        (number 256 ⊠ slack two ⊞ number 512 ⊠ slack small_y ⊞ number 512 ⊠ nonneg_y ⊠ (number 255 ⊞ slack near_e.small) ⊞ multiple (of_ℕ 131072) exact)
        (search quote depth 40 fits 9999)
        tt

    cancelled : {a b : Fraction} → of_ℕ (suc (suc n)) *ᶠ a ≼ of_ℕ (suc (suc n)) *ᶠ b → a ≼ b
    cancelled {a} {b} h =
        certify_times (suc n) (of_ℕ (suc (suc n)) ∷ a ∷ b ∷ []) (slack h) (search quote depth 40 fits 9999) tt

    pub next_near : TermNear e' t'
    next_near = record { low = next_low; high = cancelled times_high; small = cancelled times_small }

-- ---- the terms that the next ones are made from

pub rough_first : {y q : Fraction} → Below y q → of_ℕ 256 *ᶠ y ≼ of_ℕ 1 → Rough y q
rough_first {y} {q} b h =
    record {
      low = b.low;
      high =
          certify (y ∷ q ∷ eps ∷ []) (number 64 ⊠ slack b.high ⊞ number 66 ⊠ eps_nonneg) (search quote depth 40 fits 9999) tt;
      small = h;
    }

pub rough_near : {e t : Fraction} → Nonneg t → TermNear e t → Rough e t
rough_near {e} {t} p h =
    record {
      low = h.low;
      high = certify (e ∷ t ∷ eps ∷ []) (slack h.high ⊞ number 65 ⊠ eps_nonneg) (search quote depth 40 fits 9999) tt;
      small =
          certify_times 1 (e ∷ t ∷ []) (slack h.small ⊞ number 1) (search quote depth 40 fits 9999) tt;
    }

pub rough_both : {e t w v : Fraction} → TermNear e t → TermNear w v → Rough (e +ᶠ w) (t +ᶠ v)
rough_both {e} {t} {w} {v} h k =
    record {
      low = certify (e ∷ t ∷ w ∷ v ∷ []) (slack h.low ⊞ slack k.low) (search quote depth 40 fits 9999) tt;
      high = certify (e ∷ t ∷ w ∷ v ∷ eps ∷ []) (slack h.high ⊞ slack k.high) (search quote depth 40 fits 9999) tt;
      small =
          certify_times 1 (e ∷ w ∷ []) (slack h.small ⊞ slack k.small) (search quote depth 40 fits 9999) tt;
    }

-- ---- parts of terms

-- a term by j + 1, exactly and rounded down, is as near as the term
module _ (j : ℕ) {e t q : Fraction} (part : Part j t q) where
  whole : e ÷ of_ℕ (suc j) *ᶠ of_ℕ (suc j) ≈ e
  whole = ÷_cancel_pos e (positive_whole {n = suc j} (omega arith))

  part_low : t ≼ e → q ≼ e ÷ of_ℕ (suc j)
  part_low h =
      certify_times j (of_ℕ (suc j) ∷ e ∷ t ∷ q ∷ (e ÷ of_ℕ (suc j)) ∷ []) (slack h ⊞ slack part.low ⊞ multiple (of_ℕ 1) (≈_sym whole)) (search quote depth 40 fits 9999) tt

  pub part_below : Below e t → Below (e ÷ of_ℕ (suc j)) q
  part_below h =
      record {
        low = part_low h.low;
        high =
            certify_times j (of_ℕ (suc j) ∷ of_ℕ j ∷ e ∷ t ∷ q ∷ (e ÷ of_ℕ (suc j)) ∷ eps ∷ [])
            (slack h.high ⊞ slack part.high ⊞ multiple (of_ℕ 1) whole ⊞ multiple eps (≈_sym (of_ℕ_suc j)))
            (search quote depth 40 fits 9999)
            tt;
      }

  pub part_under : {c s : ℕ} → 64 ≤ c → Under c s e t → Under c s (e ÷ of_ℕ (suc j)) q
  part_under {c} {s} l h =
      record {
        low = part_low h.low;
        high =
            certify_times j (of_ℕ (suc j) ∷ of_ℕ j ∷ of_ℕ c ∷ e ∷ t ∷ q ∷ (e ÷ of_ℕ (suc j)) ∷ eps ∷ [])
            (slack h.high ⊞ number 64 ⊠ slack part.high ⊞ number j ⊠ slack (of_ℕ_mono l) ⊠ eps_nonneg ⊞ multiple (of_ℕ 64) whole ⊞ multiple (of_ℕ c *ᶠ eps) (≈_sym (of_ℕ_suc j)))
            (search quote depth 40 fits 9999)
            tt;
        small =
            certify_times j (of_ℕ (suc j) ∷ of_ℕ j ∷ of_ℕ s ∷ e ∷ (e ÷ of_ℕ (suc j)) ∷ [])
            (slack h.small ⊞ number j ⊞ multiple (of_ℕ s) whole ⊞ multiple (of_ℕ 1) (≈_sym (of_ℕ_suc j)))
            (search quote depth 40 fits 9999)
            tt;
      }
