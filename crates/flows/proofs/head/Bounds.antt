-- Ranges at the head of a reach: saturation, and a head demand against the undecayed BOD.
use Rattle.std.specs.Prelude.{Option, Some, None, SomeIff}
use Rattle.std.specs.Option.{unwrap_or}
use mathlib.Core.Path.{◌≡◌, sym, ap, ◌∙◌}
use mathlib.Core.Bool.{Bool, true, false}
use Prim.Native.Nat.{ℕ, ◌+◌, ◌*◌, ◌/◌, ◌%◌, ◌^◌, ◌≤◌, ◌<◌}
use native.Mathlib.Nat.{le_trans, mul-le-mul, mul-le-mul_left, mul-le-mul_right, mul_comm, mul-div-le, div-le_of_le-mul, div-add-mod', mul-div-mul_right, mul-add-div_right}
use native.Mathlib.Omega.{arith}
use lib.Dec.{lit<}
use Rattle.std.proofs.lemmas.Bool.{false_from_ne_true}
use Rattle.river.specs.declared.card.Card.{Card}
use Rattle.river.specs.declared.card.Dam.{Dam}
use Rattle.river.specs.declared.source.Source.{Source}
use Rattle.river.specs.Card.{amount_or, RegularCard}
use Rattle.river.specs.Described.{InRange}
use Rattle.river.specs.Records.{BP}
use Rattle.river.specs.Source.{source_mass}
use Rattle.river.proofs.range.Ranges.{regular_pressure}
use Rattle.flows.specs.Flow.{flow_limit}
use Rattle.flows.specs.Saturation.{saturation, saturation_thousandths, standard_pressure, pressure_of, saturation_of, ConditionsInRange, SaturationInRange}
use Rattle.flows.specs.Head.{upstream_demand, mixed_demand, head_demand}
use Rattle.flows.specs.held.HeadTable.{DamWithin, demand_limit, DemandReady}
use Rattle.flows.specs.held.Stored.{stored_zero, stored_limit}

-- the falling terms of the polynomial are at most the others
pub saturation_positive : (T : ℕ) → T ≤ 35 → 410220000 * T + 77774 * (T * T * T) ≤ 14652000000 + 7991000 * (T * T)
saturation_positive T h = omega (arith, mul-le-mul_left (T * T) h)

-- saturation at 0 to 35 degrees and at most 800 mm is at most 15,423,157
polynomial_small : (T : ℕ) → T ≤ 35 → saturation_thousandths T ≤ 14652000000
unfolding saturation_thousandths
polynomial_small T h = omega (arith, mul-le-mul_right T h)

pub product_small : {T p : ℕ} → ConditionsInRange T p → saturation_thousandths T * p ≤ 14652000000 * 800
product_small {T} {p} h = mul-le-mul (polynomial_small T h.temperature) h.pressure

pub saturation_small : {T p : ℕ} → ConditionsInRange T p → saturation T p ≤ 15423157
unfolding saturation
saturation_small h = omega (arith, product_small h)

pub saturation_of_small : (card : Card) → SaturationInRange card → saturation_of card ≤ 15423157
unfolding saturation_of
saturation_of_small card h = saturation_small h

-- THEOREM: at 760 mm, written out or not, saturation is the polynomial rounded to a unit
pub standard_saturation : (card : Card) → pressure_of card ≡ standard_pressure → saturation_of card ≡ saturation_thousandths card.temperature / 1000
unfolding saturation_of saturation
standard_saturation card e = rw e (mul-div-mul_right (saturation_thousandths card.temperature) 1000 (lit< tt))

-- a regular card has what saturation asks
pressure_small : (a : Option ℕ) → InRange BP a → amount_or standard_pressure a ≤ 800
pressure_small None h = omega arith
pressure_small (Some p) h = h.0.most

pub conditions_in_range : {n i : ℕ} {c : Card} → RegularCard n i c → SaturationInRange c
conditions_in_range {c = c} h = record { temperature = h.in_range.temperature; pressure = pressure_small c.optionals.pressure (regular_pressure h.optionals) }

-- a share is at most the whole
pub share_small : (a b d : ℕ) → b ≤ d → a * b / d ≤ a
share_small a b d h = div-le_of_le-mul d (rw (mul_comm d a) (mul-le-mul_left a h))

-- long division by chunks of 16 bits
pub long_division : (a b d : ℕ) → 0 < d → a / 65536 * b / d * 65536 + (a / 65536 * b % d * 65536 + a % 65536 * b) / d ≡ a * b / d
long_division a b d p =
    let f = a / 65536 * b in
    let chunks : f / d * 65536 * d + (f % d * 65536 + a % 65536 * b) ≡ a * b = omega (arith, ap (λ (n : ℕ). n * b) (div-add-mod' a 65536), div-add-mod' f d) in
    sym (mul-add-div_right p (f / d * 65536) (f % d * 65536 + a % 65536 * b)) ∙ ap (λ (n : ℕ). n / d) chunks

-- an upstream demand is the mean, where there is one
pub mean_demand : (r : Option ℕ) (fed : Bool) (Qu sum : ℕ) → SomeIff r (fed ≡ true) (sum / Qu) → unwrap_or r 0 ≡ upstream_demand fed Qu sum
unfolding upstream_demand
mean_demand None fed Qu sum h = rw (false_from_ne_true fed h)
mean_demand (Some x) fed Qu sum h = rw h.0 h.1

-- Qu times an upstream demand is at most the feeders' sum, and what is mixed at most that and 1,000 times what the source brings
pub upstream_kept : (fed : Bool) (Qu sum : ℕ) → Qu * upstream_demand fed Qu sum ≤ sum
unfolding upstream_demand
upstream_kept false Qu sum = omega arith
upstream_kept true Qu sum = mul-div-le sum Qu

pub mixed_total : (source : Source) (fed : Bool) (Qu sum : ℕ) → Qu * upstream_demand fed Qu sum + 1000 * source.inflow * source.concentration + 1000000 * source.load ≤ sum + 1000 * source_mass source
mixed_total source fed Qu sum = omega (arith, upstream_kept fed Qu sum)

-- flow × a demand at a head is at most what comes down and comes in
pub head_demand_kept : (source : Source) (fed : Bool) (Qu sum : ℕ) → (Qu + source.inflow) * head_demand source fed Qu sum ≤ sum + 1000 * source_mass source
unfolding head_demand
head_demand_kept source fed Qu sum = le_trans (mul-div-le _ (Qu + source.inflow)) (mixed_total source fed Qu sum)

-- what is mixed of a demand is at most the limit times the flow, and so the demand at most the limit
module _ {source : Source} {fed : Bool} {Qu sum upstream : ℕ} (h : DemandReady source fed Qu sum) (e : upstream ≡ upstream_demand fed Qu sum) where
  pub demand_total : Qu * upstream + 1000 * source.inflow * source.concentration + 1000000 * source.load ≤ demand_limit * (Qu + source.inflow)
  demand_total = rw e (le_trans (mixed_total source fed Qu sum) h.within)

  pub demand_small : mixed_demand source Qu upstream ≤ demand_limit
  demand_small = div-le_of_le-mul (Qu + source.inflow) (omega (arith, demand_total))

-- what is mixed of stored oxygen is at most the largest stored number times the flow, and so is stored in four bytes
module _ (Qu i : ℕ) {u o : ℕ} (h : u ≤ stored_limit) (k : o ≤ 20000) where
  pub oxygen_total : Qu * u + i * (stored_zero + 1000 * o) ≤ stored_limit * (Qu + i)
  oxygen_total = omega (arith, mul-le-mul_left Qu h, mul-le-mul_left i k)

  pub oxygen_small : (Qu * u + i * (stored_zero + 1000 * o)) / (Qu + i) ≤ stored_limit
  oxygen_small = div-le_of_le-mul (Qu + i) (omega (arith, oxygen_total))

-- the numbers of a dam
pub dam_numbers : {dam : Option Dam} {d : Dam} {Qu : ℕ} → dam ≡ Some d → DamWithin dam Qu → (d.share ≤ 1000) × (d.generating ≤ Qu)
dam_numbers e h = rw e at h

-- a share of a flow fits eight bytes
pub weight_fits : {share flow : ℕ} → share ≤ 1000 → flow ≤ flow_limit → share * flow < 2 ^ 64
weight_fits h k = omega (arith, mul-le-mul h k)
