-- The sums of the means of the first reaches stand for the sum of volume × mean, and the table of the means is kept beside them.
-- Assumes nothing.
use mathlib.Core.Path.{◌≡◌, sym, ap, ap₂, ◌∙◌}
use mathlib.Core.List.{List}
use Prim.Native.Nat.{ℕ, suc, ◌+◌, ◌*◌, ◌≤◌, ◌<◌}
use native.Mathlib.Nat.{suc-mul, mul_comm, mul-add, mul-le-mul_right, not-suc-le-zero}
use native.Mathlib.Omega.{arith}
use lib.IntN.{ℤ, pos, sub_ℕ, ◌+ℤ◌, ◌*ℤ◌}
use lib.ListN.{replicate, set, length-replicate, length-set}
use Rattle.river.specs.declared.card.Card.{Card}
use Rattle.flows.specs.held.Stored.{stored_zero, stored_limit, oxygen_of}
use Rattle.flows.proofs.flow.Table.{entered_at}
use Rattle.flows.proofs.head.Offset.{sub_add, times_sub}
use Rattle.report.specs.Mean.{mean_at, counted_volume_at, weighted_sum, volume_sum}
use Rattle.report.specs.held.MeanLines.{volume_limit, Weighs, MeansTabled}
use Rattle.report.specs.declared.weights.Weights.{Weights}

-- the sums of no reach, and with one more
pub weighs_none : (cards : List Card) {w : Weights} → w.sum ≡ 0 → w.volume ≡ 0 → Weighs cards 0 w
unfolding volume_sum weighted_sum
weighs_none cards sum volume = record { sum = ap (λ (n : ℕ). sub_ℕ n 0) sum; fits = omega (arith, sum); volume = volume; few = omega (arith, volume) }

pub weighs_next : {cards : List Card} {n : ℕ} {w next : Weights} (mean : ℕ) → Weighs cards n w → counted_volume_at cards (suc n) ≤ volume_limit → mean ≤ stored_limit → oxygen_of mean ≡ mean_at cards (suc n) → next.sum ≡ w.sum + counted_volume_at cards (suc n) * mean → next.volume ≡ w.volume + counted_volume_at cards (suc n) → Weighs cards (suc n) next
unfolding volume_sum weighted_sum oxygen_of
weighs_next {cards} {n} {w} mean h few held is sum volume =
    let v = counted_volume_at cards (suc n) in
    let above = volume_sum (λ i. counted_volume_at cards (suc i)) n in
    record {
      sum =
          ap₂ sub_ℕ sum (mul-add stored_zero above v)
          ∙ sym (sub_add w.sum (stored_zero * above) (v * mean) (stored_zero * v))
          ∙ ap₂ ◌+ℤ◌ h.sum (ap (sub_ℕ (v * mean)) (mul_comm stored_zero v) ∙ sym (times_sub v mean stored_zero) ∙ ap (λ (z : ℤ). pos v *ℤ z) is);
      fits = omega (arith, sum, volume, h.fits, mul-le-mul_right v held);
      volume = volume ∙ ap (λ (m : ℕ). m + v) h.volume;
      few = omega (arith, volume, h.few, few, suc-mul n volume_limit);
    }

-- the table of the means
pub means_none : (cards : List Card) → MeansTabled cards 0 (replicate 128 0)
means_none cards = record { full = length-replicate {A = ℕ} 128 0; mean = λ j l. absurd (not-suc-le-zero l) }

pub means_next : {cards : List Card} {n : ℕ} {means : List ℕ} (mean : ℕ) → MeansTabled cards n means → n < 128 → oxygen_of mean ≡ mean_at cards (suc n) → MeansTabled cards (suc n) (set means n mean)
means_next {cards} {n} {means} mean h few is =
    record {
      full = length-set means n mean ∙ h.full;
      mean = entered_at means n mean 0 (λ j x. oxygen_of x ≡ mean_at cards (suc j)) (rw h.full few) is h.mean;
    }
