-- A river without nitrification has no nitrogenous BOD at any of its reaches, so that its records tell all of its figures.
use mathlib.Core.Path.{◌≡◌, refl}
use mathlib.Core.Bool.{Bool, true, false}
use mathlib.Core.List.{List}
use Prim.Native.Nat.{ℕ, zero, suc, ◌+◌, ◌<◌}
use native.Mathlib.Nat.{le_refl, mul-zero, zero-div}
use native.Mathlib.Omega.{arith}
use lib.ListN.{length, get_or}
use lib.Dec.{eqb}
use Rattle.std.specs.Prelude.{Option, Some, None, is_some}
use Rattle.decay.specs.held.Step.{step_of}
use Rattle.decay.specs.held.Factors.{demand_from}
use Rattle.decay.specs.declared.step.Step.{Step}
use Rattle.river.specs.declared.card.Card.{Card}
use Rattle.river.specs.declared.card.Nitrification.{Nitrification}
use Rattle.river.specs.declared.source.Demand.TheVariants.{Nitrogenous}
use Rattle.river.specs.Card.{blank}
use Rattle.river.specs.Source.{nitrogenous_source, source_of, rate_of}
use Rattle.flows.specs.Flow.{Feeders, joined_if, feeders_among, fed, flow_of}
use Rattle.flows.specs.Head.{upstream_demand, head_demand}
use Rattle.river.proofs.Answers.{clash}
use Rattle.report.specs.Program.{demand_sum, demand_at_head, figures_of, figures_at}
use Rattle.report.specs.held.Digits.{parts_along, demand_along}
use Rattle.report.specs.Record.{is_nitrified, has_nitrification}
use Rattle.report.proofs.record.Nitrified.{at_no_reach}

-- where nothing comes down and nothing comes in, nothing is mixed
nothing_mixed : (nitrification : Option Nitrification) (inflow : ℕ) (t : Bool) (Qu : ℕ) → is_some nitrification ≡ false → head_demand (nitrogenous_source inflow nitrification) t Qu 0 ≡ 0
unfolding head_demand upstream_demand
nothing_mixed None inflow true Qu e = rw (zero-div Qu, mul-zero, mul-zero) (zero-div (Qu + inflow))
nothing_mixed None inflow false Qu e = rw (mul-zero, mul-zero) (zero-div (Qu + inflow))
nothing_mixed (Some n) inflow t Qu e = clash cc

nothing_at_head : (card : Card) (t : Bool) (Qu : ℕ) → is_nitrified card ≡ false → head_demand (source_of Nitrogenous card) t Qu 0 ≡ 0
unfolding is_nitrified
nothing_at_head card t Qu e = nothing_mixed card.optionals.nitrification card.inflow t Qu e

-- and nothing is left of nothing
nothing_left : (s : Step) (m : ℕ) → (demand_from 0 s m).left ≡ 0
unfolding demand_from
nothing_left s zero = refl
nothing_left s (suc m) = omega (arith, nothing_left s m)

nothing_along : (card : Card) (Q m : ℕ) → demand_along Nitrogenous card Q 0 m ≡ 0
unfolding demand_along parts_along
nothing_along card Q m = rw (nothing_left (step_of (rate_of Nitrogenous card) card.k2 card.volume Q) m)

joined_none : (t : Bool) (card : Card) (up rest : Feeders) → is_nitrified card ≡ false → demand_sum Nitrogenous up ≡ 0 → demand_sum Nitrogenous rest ≡ 0 → demand_sum Nitrogenous (joined_if t card up rest) ≡ 0
unfolding joined_if demand_sum
joined_none true card up rest e u r = rw (u, nothing_at_head card (fed up) (flow_of up) e, nothing_along, mul-zero, r)
joined_none false card up rest e u r = r

-- so none comes down
none_above : (cards : List Card) (n i : ℕ) → ((j : ℕ) → j < n → is_nitrified (get_or cards j blank) ≡ false) → demand_sum Nitrogenous (feeders_among cards n i) ≡ 0
unfolding feeders_among demand_sum
none_above cards zero i h = refl
none_above cards (suc n) i h =
    joined_none (eqb (get_or cards n blank).outlet i) (get_or cards n blank) (feeders_among cards n (suc n)) (feeders_among cards n i) (h n (le_refl (suc n))) (none_above cards n (suc n) (λ j l. h j (omega arith))) (none_above cards n i (λ j l. h j (omega arith)))

-- THEOREM: the figures of nitrogenous BOD of a river without nitrification are 0
pub none_reported : (cards : List Card) → has_nitrification cards ≡ false → (i : ℕ) → i < length cards → ((figures_at cards (suc i)).head_nitrogenous ≡ 0) × ((figures_at cards (suc i)).foot_nitrogenous ≡ 0)
unfolding figures_of demand_at_head
none_reported cards e i l =
    let idle = at_no_reach cards e in
    let head : demand_at_head Nitrogenous (get_or cards i blank) (feeders_among cards i (suc i)) ≡ 0 = rw (none_above cards i (suc i) (λ j k. idle j (omega arith))) (nothing_at_head (get_or cards i blank) _ _ (idle i l)) in
    (head, rw head (nothing_along _ _ _))
