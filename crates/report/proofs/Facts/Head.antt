-- The head of an accepted reach as inequalities of fractions: each mean, the dam and each mixing is a quotient rounded down.
use mathlib.Core.Path.{◌≡◌, sym, ap}
use mathlib.Core.Bool.{Bool, true, false}
use mathlib.Core.List.{List, [], ◌∷◌}
use Prim.Native.Nat.{ℕ, ◌+◌, ◌*◌, ◌-◌, ◌≤◌, ◌<◌}
use native.Mathlib.Nat.{mul-le-mul}
use native.Mathlib.Omega.{arith}
use lib.IntN.{ℤ, pos, ◌+ℤ◌, ◌-ℤ◌, ◌*ℤ◌}
use Rattle.std.specs.Prelude.{Option, Some, None}
use Rattle.decay.specs.Fraction.{Fraction, ◌≈◌, ◌≼◌, of_ℕ, of_ℤ, ◌+ᶠ◌, -ᶠ◌, ◌-ᶠ◌, ◌*ᶠ◌, ◌÷◌}
use Rattle.decay.proofs.Algebra.{Nonneg, quote, slack, number, ◌⊞◌, multiple, certify, ≈_refl, ≈_sym, ≈_trans, ≼_trans, ≼_of-≈, of_ℤ-+, of_ℤ-*, +ᶠ_cong, *ᶠ_cong, Positive, positive_whole, certify_over, ÷_cancel_pos, none as no_equations, of_ℕ_mono, of_ℕ-*, of_ℕ-+}
use Rattle.river.specs.declared.card.Dam.{Dam}
use Rattle.river.specs.declared.card.Card.{Card}
use Rattle.river.specs.declared.source.Demand.{Demand}
use Rattle.river.specs.declared.source.Source.{Source}
use Rattle.river.specs.Described.{InRange}
use Rattle.river.specs.Records.{DM}
use Rattle.flows.specs.Flow.{Feeders, more, fed, flow_of}
use Rattle.flows.proofs.flow.Take.{flow_remains}
use Rattle.river.specs.Source.{source_of}
use Rattle.river.proofs.source.Ranges.{source_inflow}
use Rattle.flows.specs.Saturation.{saturation_of}
use Rattle.flows.specs.Head.{floor, upstream_demand, upstream_oxygen, aerated, below_dam, mixed_demand, mixed_oxygen}
use Rattle.report.specs.Program.{demand_sum, oxygen_sum}
use Rattle.report.proofs.Facts.Floor.{Rounded, floor_rounded, of_ℤ_sub}
use Rattle.report.proofs.Forest.{AllAccepted, no_more, one_more}

-- oxygen c below a dam that takes the part σ of the way from upstream oxygen u to saturation, rounded down
pub record Dammed (u saturated σ c : Fraction) : Type 0 where
  pub part : Nonneg σ
  pub part_of_one : σ ≼ of_ℕ 1
  pub low : c -ᶠ u ≼ (saturated -ᶠ u) *ᶠ σ
  pub high : (saturated -ᶠ u) *ᶠ σ ≼ c -ᶠ u +ᶠ of_ℕ 1

zero_rounded : Rounded (of_ℕ 0) (of_ℕ 0) (of_ℕ 0)
zero_rounded =
    record {
      low = certify [] (number 0) (search quote depth 40 fits 9999) tt;
      high = certify [] (number 0) (search quote depth 40 fits 9999) tt;
    }

-- water flows where there are feeders
pub feeders_flow : {card : Card} {up rest : Feeders} → AllAccepted (more card up rest) → 0 < flow_of (more card up rest)
unfolding flow_of
feeders_flow (one_more own above others) = omega (arith, flow_remains own.flows)

-- the means of the feeders' feet
demand_mean_fed : (Qu sum : ℕ) → 0 < Qu → Rounded (of_ℕ Qu) (of_ℕ (upstream_demand true Qu sum)) (of_ℕ sum)
unfolding upstream_demand floor
demand_mean_fed Qu sum p = floor_rounded (pos sum) Qu p

pub demand_mean : (d : Demand) {up : Feeders} → AllAccepted up → Rounded (of_ℕ (flow_of up)) (of_ℕ (upstream_demand (fed up) (flow_of up) (demand_sum d up))) (of_ℕ (demand_sum d up))
unfolding fed flow_of demand_sum upstream_demand
demand_mean d no_more = zero_rounded
demand_mean d (one_more {card} {up} {rest} own above others) =
    demand_mean_fed (flow_of (more card up rest)) (demand_sum d (more card up rest)) (feeders_flow (one_more own above others))

oxygen_mean_fed : (Qu : ℕ) (sum : ℤ) → 0 < Qu → Rounded (of_ℕ Qu) (of_ℤ (upstream_oxygen true Qu sum)) (of_ℤ sum)
unfolding upstream_oxygen
oxygen_mean_fed Qu sum p = floor_rounded sum Qu p

pub oxygen_mean : {up : Feeders} → AllAccepted up → Rounded (of_ℕ (flow_of up)) (of_ℤ (upstream_oxygen (fed up) (flow_of up) (oxygen_sum up))) (of_ℤ (oxygen_sum up))
unfolding fed flow_of oxygen_sum upstream_oxygen
oxygen_mean no_more = zero_rounded
oxygen_mean (one_more {card} {up} {rest} own above others) =
    oxygen_mean_fed (flow_of (more card up rest)) (oxygen_sum (more card up rest)) (feeders_flow (one_more own above others))

-- the part of the way to saturation that a dam takes: share × (Qu − generating flow) of 1,000 × Qu, and none without feeders
unfoldable pub dam_part : (fed : Bool) → Option Dam → (Qu : ℕ) → Fraction
dam_part false dam Qu = of_ℕ 0
dam_part true None Qu = of_ℕ 0
dam_part true (Some dam) Qu = of_ℕ (dam.share * (Qu - dam.generating)) ÷ of_ℕ (1000 * Qu)

-- no dam changes nothing
unchanged : (u saturated : Fraction) → Dammed u saturated (of_ℕ 0) u
unchanged u saturated =
    record {
      part = number 0;
      part_of_one = certify [] (number 1) (search quote depth 40 fits 9999) tt;
      low = certify (u ∷ saturated ∷ []) (number 0) (search quote depth 40 fits 9999) tt;
      high = certify (u ∷ saturated ∷ []) (number 1) (search quote depth 40 fits 9999) tt;
    }

-- a share of Qu
pub share_of : (part whole : ℕ) → 0 < whole → part ≤ whole → Nonneg (of_ℕ part ÷ of_ℕ whole) × (of_ℕ part ÷ of_ℕ whole ≼ of_ℕ 1)
share_of part whole p h =
    (certify_over w positive vs no_equations (number part ⊞ multiple (of_ℕ 1) (≈_sym e)) (search quote depth 40 fits 9999) tt, certify_over w positive vs no_equations (slack (of_ℕ_mono h) ⊞ multiple (of_ℕ 1) e) (search quote depth 40 fits 9999) tt)
  where
    w : Fraction
    w = of_ℕ whole

    positive : Positive w
    positive = positive_whole p

    vs : List Fraction
    vs = of_ℕ whole ∷ of_ℕ part ∷ (of_ℕ part ÷ of_ℕ whole) ∷ []

    e : of_ℕ part ÷ of_ℕ whole *ᶠ of_ℕ whole ≈ of_ℕ part
    e = ÷_cancel_pos (of_ℕ part) positive

-- rounding down the way to saturation, n / d of it
part_dammed : (saturated n d : ℕ) (C : ℤ) → 0 < d → n ≤ d → Dammed (of_ℤ C) (of_ℕ saturated) (of_ℕ n ÷ of_ℕ d) (of_ℤ (C +ℤ floor ((pos saturated -ℤ C) *ℤ pos n) d))
part_dammed saturated n d C p h =
    let z = (pos saturated -ℤ C) *ℤ pos n in
    let rounded = floor_rounded z d p in
    let way = of_ℕ saturated -ᶠ of_ℤ C in
    let ez : of_ℤ z ≈ way *ᶠ of_ℕ n = ≈_trans (of_ℤ-* (pos saturated -ℤ C) (pos n)) (*ᶠ_cong (of_ℤ_sub (pos saturated) C) (≈_refl (of_ℕ n))) in
    let ec : of_ℤ (C +ℤ floor z d) ≈ of_ℤ C +ᶠ of_ℤ (floor z d) = of_ℤ-+ C (floor z d) in
    let es : of_ℕ n ÷ of_ℕ d *ᶠ of_ℕ d ≈ of_ℕ n = ÷_cancel_pos (of_ℕ n) (positive_whole p) in
    let vs = of_ℕ d ∷ of_ℕ n ∷ (of_ℕ n ÷ of_ℕ d) ∷ of_ℕ saturated ∷ of_ℤ C ∷ of_ℤ (floor z d) ∷ of_ℤ z ∷ of_ℤ (C +ℤ floor z d) ∷ [] in
    record {
      part = (share_of n d p h).0;
      part_of_one = (share_of n d p h).1;
      low = certify_over (of_ℕ d) (positive_whole p) vs no_equations (slack rounded.low ⊞ multiple (of_ℕ 1) ez ⊞ multiple way (≈_sym es) ⊞ multiple (of_ℕ d) ec) (search quote depth 40 fits 9999) tt;
      high = certify_over (of_ℕ d) (positive_whole p) vs no_equations (slack rounded.high ⊞ multiple (of_ℕ 1) (≈_sym ez) ⊞ multiple way es ⊞ multiple (of_ℕ d) (≈_sym ec)) (search quote depth 40 fits 9999) tt;
    }

aerated_dammed : (dam : Option Dam) (saturated Qu : ℕ) (C : ℤ) → 0 < Qu → InRange DM dam → Dammed (of_ℤ C) (of_ℕ saturated) (dam_part true dam Qu) (of_ℤ (aerated dam saturated Qu C))
unfolding aerated dam_part
aerated_dammed None saturated Qu C p h = unchanged (of_ℤ C) (of_ℕ saturated)
aerated_dammed (Some dam) saturated Qu C p h =
    part_dammed saturated (dam.share * (Qu - dam.generating)) (1000 * Qu) C (omega arith) (mul-le-mul h.0.most (omega arith))

-- oxygen below the dam of an accepted reach
pub below_dam_lem : (card : Card) {up : Feeders} → AllAccepted up → InRange DM card.dam → (C : ℤ) → Dammed (of_ℤ C) (of_ℕ (saturation_of card)) (dam_part (fed up) card.dam (flow_of up)) (of_ℤ (below_dam card (fed up) (flow_of up) C))
unfolding fed below_dam dam_part
below_dam_lem card no_more h C = unchanged (of_ℤ C) (of_ℕ (saturation_of card))
below_dam_lem card (one_more {card = feeder} {up} {rest} own above others) h C =
    aerated_dammed card.dam (saturation_of card) (flow_of (more feeder up rest)) C (feeders_flow (one_more own above others)) h

-- sums of naturals, embedded
pub of_ℕ-+₃ : (a b c : ℕ) → of_ℕ (a + b + c) ≈ of_ℕ a +ᶠ of_ℕ b +ᶠ of_ℕ c
of_ℕ-+₃ a b c = ≈_trans (of_ℕ-+ (a + b) c) (+ᶠ_cong (of_ℕ-+ a b) (≈_refl (of_ℕ c)))

pub of_ℕ-+₄ : (a b c d : ℕ) → of_ℕ (a + b + c + d) ≈ of_ℕ a +ᶠ of_ℕ b +ᶠ of_ℕ c +ᶠ of_ℕ d
of_ℕ-+₄ a b c d = ≈_trans (of_ℕ-+ (a + b + c) d) (+ᶠ_cong (of_ℕ-+₃ a b c) (≈_refl (of_ℕ d)))

rounded_by : {flow quotient a b : Fraction} → a ≈ b → Rounded flow quotient a → Rounded flow quotient b
rounded_by {flow} {quotient} {a} {b} e r =
    record {
      low = ≼_trans r.low (≼_of-≈ e);
      high = ≼_trans (≼_of-≈ (≈_sym e)) r.high;
    }

-- every demand comes in with the inflow of the reach
pub source_flow : (d : Demand) (card : Card) (Qu : ℕ) → Qu + card.inflow ≡ Qu + (source_of d card).inflow
source_flow d card Qu = ap (λ (n : ℕ). Qu + n) (sym (source_inflow d card))

-- mixing with inflow and load
pub demand_mixed : (source : Source) (Qu upstream : ℕ) {Qm : ℕ} → Qm ≡ Qu + source.inflow → 0 < Qm → Rounded (of_ℕ Qm) (of_ℕ (mixed_demand source Qu upstream)) (of_ℕ Qu *ᶠ of_ℕ upstream +ᶠ of_ℕ (1000 * source.inflow * source.concentration) +ᶠ of_ℕ (1000000 * source.load))
unfolding floor
demand_mixed source Qu upstream e p =
    let a = 1000 * source.inflow * source.concentration in
    let b = 1000000 * source.load in
    rw e (rounded_by (≈_trans (of_ℕ-+₃ (Qu * upstream) a b) (+ᶠ_cong (+ᶠ_cong (of_ℕ-* Qu upstream) (≈_refl (of_ℕ a))) (≈_refl (of_ℕ b)))) (floor_rounded (pos (Qu * upstream + a + b)) (Qu + source.inflow) (rw e at p)))

pub oxygen_mixed : (card : Card) (Qu : ℕ) (upstream : ℤ) → 0 < Qu + card.inflow → Rounded (of_ℕ (Qu + card.inflow)) (of_ℤ (mixed_oxygen card Qu upstream)) (of_ℕ Qu *ᶠ of_ℤ upstream +ᶠ of_ℕ (1000 * card.inflow * card.inflow_oxygen))
oxygen_mixed card Qu upstream p =
    let a = 1000 * card.inflow * card.inflow_oxygen in
    rounded_by (≈_trans (of_ℤ-+ (pos Qu *ℤ upstream) (pos a)) (+ᶠ_cong (of_ℤ-* (pos Qu) upstream) (≈_refl (of_ℕ a)))) (floor_rounded (pos Qu *ℤ upstream +ℤ pos a) (Qu + card.inflow) p)
