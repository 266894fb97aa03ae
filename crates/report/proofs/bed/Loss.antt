-- What a sludge bed takes: nothing at the head, nothing without demand or volume, and never more than check 14 lets it take.
-- Assumes nothing.
use mathlib.Core.Path.{◌≡◌}
use mathlib.Core.Bool.{Bool, true, false}
use Prim.Native.Nat.{ℕ, ◌+◌, ◌*◌, ◌-◌, ◌/◌, ◌≤◌, ◌<◌, zero-le}
use native.Mathlib.Nat.{div-le_of_le-mul, div-le_self, div-mul-le_self, le_of_mul-le-mul_right, mul-le-mul_left, mul-le-mul_right, mul-zero, zero-mul, zero-div}
use native.Mathlib.Omega.{arith}
use lib.Dec.{eqb}
use lib.IntN.{ℤ, pos, ◌-ℤ◌, +ℤ_idr}
use Rattle.decay.specs.Exact.{steps, foot}
use Rattle.decay.specs.Fixed.{one, product}
use Rattle.decay.specs.held.Step.{RatesPass, step_of}
use Rattle.decay.specs.held.Factors.{SoundStep, factors_at}
use Rattle.decay.specs.held.Mean.{mean_factors}
use Rattle.decay.specs.declared.step.Step.{Step}
use Rattle.decay.specs.declared.factors.Factors.{Factors}
use Rattle.decay.proofs.step.Shares.{step_fills}
use Rattle.decay.proofs.factors.Instants.{deficit_lost}
use Rattle.decay.proofs.mean.Averages.{mean_deficit_lost}
use Rattle.river.specs.declared.card.Card.{Card}
use Rattle.flows.specs.Flow.{sludge_of}
use Rattle.report.specs.held.Bed.{bed_by, bed_of, no_bed, loss_with, BedPasses, loss_limit, LossInRange, BedInRange}
use Rattle.report.specs.held.MeanAlong.{middle}
use Rattle.report.specs.declared.bed.Bed.{Bed}

-- what takes nothing leaves oxygen as it is
pub less_nothing : {z : ℤ} {loss : ℕ} → loss ≡ 0 → z -ℤ pos loss ≡ z
less_nothing {z} e = rw e (+ℤ_idr z)

-- no bed takes nothing
pub no_bed_loss : (f : Factors) (m : ℕ) → loss_with f no_bed m ≡ 0
unfolding loss_with product
no_bed_loss f m = rw (mul-zero, zero-mul, zero-div one, zero-div foot)

pub nothing_lost : {bed : Bed} (f : Factors) (m : ℕ) → bed ≡ no_bed → loss_with f bed m ≡ 0
nothing_lost f m e = rw e (no_bed_loss f m)

-- THEOREM: without a bed, and with one of demand 0, nothing is lost at any instant
pub nothing_demanded : (card : Card) (Q : ℕ) (f : Factors) (m : ℕ) → sludge_of card ≡ 0 → loss_with f (bed_of card Q) m ≡ 0
unfolding bed_of bed_by
nothing_demanded card Q f m z = rw z (go (eqb card.k2 0))
  where
    go : (t : Bool) → loss_with f (bed_by t card.k2 0 card.volume Q) m ≡ 0
    go true = rw (zero-mul, zero-mul, zero-div (54 * Q)) (no_bed_loss f m)
    go false = rw (mul-zero, zero-div card.k2) (no_bed_loss f m)

-- where all of the head's deficit is left, only a bed without aeration takes oxygen
still_loss : (f : Factors) (bed : Bed) (m : ℕ) → f.kept ≡ one → bed.linear * m ≡ 0 → loss_with f bed m ≡ 0
unfolding loss_with product
still_loss f bed m h k = rw (h, k, zero-mul, zero-div one, zero-div foot)

-- and none at the head
pub head_loss : (f : Factors) (bed : Bed) → f.kept ≡ one → loss_with f bed 0 ≡ 0
head_loss f bed h = still_loss f bed 0 h (mul-zero bed.linear)

-- nor does a bed without demand or volume
pub tied_loss : (card : Card) (Q : ℕ) (f : Factors) (m : ℕ) → f.kept ≡ one → sludge_of card * card.volume ≡ 0 → loss_with f (bed_of card Q) m ≡ 0
unfolding bed_of bed_by
tied_loss card Q f m h z = go (eqb card.k2 0)
  where
    go : (t : Bool) → loss_with f (bed_by t card.k2 (sludge_of card) card.volume Q) m ≡ 0
    go true = still_loss f _ m h (rw (z, zero-mul, zero-div (54 * Q), zero-mul))
    go false = still_loss f _ m h (zero-mul m)

-- where the head's deficit has lost no more than the foot may, a bed in range takes no more than its limit
loss_where : {f : Factors} {step : Step} {bed : Bed} → one ≤ f.kept + steps * step.filled → BedInRange step bed → (m : ℕ) → m ≤ foot → LossInRange f bed m
unfolding loss_with product
loss_where {f} {step} {bed} h r m l =
    let lost = one - f.kept in
    let most : lost * bed.eventual ≤ steps * step.filled * bed.eventual = mul-le-mul_right bed.eventual (omega arith) in
    record {
      eventual = r.eventual;
      linear = omega (arith, r.loss);
      instant = l;
      loss = omega (arith, r.loss, most, div-mul-le_self (lost * bed.eventual) one, div-mul-le_self (bed.linear * m) foot, mul-le-mul_left bed.linear l);
    }

-- THEOREM: at no instant does a bed in range take more than its limit
pub loss_in_range : {step : Step} {bed : Bed} → SoundStep step → BedInRange step bed → (m : ℕ) → m ≤ foot → LossInRange (factors_at step m) bed m
loss_in_range {step} sound r m l = loss_where (omega (arith, deficit_lost sound m, mul-le-mul_right step.filled l)) r m l

-- THEOREM: nor does it on average
pub mean_loss_in_range : {mean_step step : Step} {bed : Bed} → SoundStep mean_step → SoundStep step → mean_step.filled ≤ step.filled → BedInRange step bed → LossInRange (mean_factors mean_step step) bed middle
mean_loss_in_range sound_mean sound h r = loss_where (mean_deficit_lost sound_mean sound h) r middle (omega arith)

-- the loss in the end is largest for the largest demand and the smallest k2
pub eventual_small : (card : Card) (Q : ℕ) → sludge_of card ≤ 65_535 → (bed_of card Q).eventual ≤ 65_535_000_000
unfolding bed_of bed_by
eventual_small card Q h = go (eqb card.k2 0)
  where
    go : (t : Bool) → (bed_by t card.k2 (sludge_of card) card.volume Q).eventual ≤ 65_535_000_000
    go true = zero-le
    go false = omega (arith, h, div-le_self (1_000_000 * sludge_of card) card.k2)

-- the products behind check 14, for a step that fills a share f, with the loss c in the end
cancelled : (f c k s v Q : ℕ) → 0 < Q → c * k ≤ 1_000_000 * s → f * (88_473_600 * Q) ≤ k * v * one → s * v ≤ 432_000 * Q → steps * f * c ≤ one * loss_limit
cancelled f c k s v Q p hc hf hs =
    le_of_mul-le-mul_right {k = 86_400 * Q} (omega (arith, mul-le-mul_right c hf, mul-le-mul_right (v * one) hc, mul-le-mul_left (1_000_000 * one) hs)) (omega arith)

-- THEOREM: a reach that passes check 14 has its bed in range
pub bed_in_range : (card : Card) (Q : ℕ) → RatesPass card.k1 card.k2 card.volume Q → BedPasses card Q → BedInRange (step_of card.k1 card.k2 card.volume Q) (bed_of card Q)
unfolding bed_of bed_by
bed_in_range card Q p b = go (eqb card.k2 0)
  where
    step : Step
    step = step_of card.k1 card.k2 card.volume Q

    demand : ℕ
    demand = sludge_of card

    go : (t : Bool) → BedInRange step (bed_by t card.k2 demand card.volume Q)
    go true =
        record {
          eventual = zero-le;
          loss = omega (arith, div-le_of_le-mul (54 * Q) {m = demand * card.volume * 625} {n = loss_limit} (omega (arith, b.rule)));
        }
    go false =
        record {
          eventual = omega (arith, b.sludge, div-le_self (1_000_000 * demand) card.k2);
          loss = omega (arith, cancelled step.filled (1_000_000 * demand / card.k2) card.k2 demand card.volume Q p.flow_above (div-mul-le_self (1_000_000 * demand) card.k2) (step_fills card.k1 card.k2 card.volume Q p) b.rule);
        }
