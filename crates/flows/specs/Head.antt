-- "Head of a reach" of the river file paper: upstream means, the dam and mixing, as equations over the feeders' foot values. A take leaves after
-- mixing and changes neither figure: what is mixed is divided by Qm = Qu + inflow, the flow before the take.
-- Concentrations are in units; oxygen is signed; every quotient is rounded down, also below zero.
use Rattle.std.specs.Prelude.{Option, Some, None, Bool, true, false, ℕ, ◌+◌, ◌*◌, ◌-◌, ◌/◌, ℤ, pos, negsuc, ◌+ℤ◌, ◌-ℤ◌, ◌*ℤ◌}
use Rattle.river.specs.declared.card.Dam.{Dam}
use Rattle.river.specs.declared.card.Card.{Card}
use Rattle.river.specs.declared.source.Source.{Source}
use Rattle.flows.specs.Saturation.{saturation_of}

-- a signed number over a positive one, rounded down: −(n + 1) over d is −(n / d + 1)
unfoldable pub floor : ℤ → ℕ → ℤ
floor (pos n) d = pos (n / d)
floor (negsuc n) d = negsuc (n / d)

-- 1. an upstream demand, such as BOD: the flow-weighted mean of the feeders' foot values, 0 without feeders; sum is that of Q × foot value
unfoldable pub upstream_demand : (fed : Bool) (Qu sum : ℕ) → ℕ
upstream_demand false Qu sum = 0
upstream_demand true Qu sum = sum / Qu

-- 1. upstream oxygen likewise
unfoldable pub upstream_oxygen : (fed : Bool) (Qu : ℕ) (sum : ℤ) → ℤ
upstream_oxygen false Qu sum = pos 0
upstream_oxygen true Qu sum = floor sum Qu

-- 2. oxygen C below a dam; only the water that does not go through the turbines is aerated
unfoldable pub aerated : Option Dam → (saturated Qu : ℕ) → ℤ → ℤ
aerated None saturated Qu C = C
aerated (Some dam) saturated Qu C =
    C +ℤ floor ((pos saturated -ℤ C) *ℤ pos (dam.share * (Qu - dam.generating))) (1_000 * Qu)

-- 2. the dam of a reach, skipped without feeders; saturation is the reach's own
unfoldable pub below_dam : Card → (fed : Bool) (Qu : ℕ) → ℤ → ℤ
below_dam card false Qu C = C
below_dam card true Qu C = aerated card.dam (saturation_of card) Qu C

-- 3. mixing with inflow and load, divided by Qm
abbrev pub mixed_demand : Source → (Qu upstream : ℕ) → ℕ
mixed_demand source Qu upstream =
    (Qu * upstream + 1_000 * source.inflow * source.concentration + 1_000_000 * source.load) / (Qu + source.inflow)

abbrev pub mixed_oxygen : Card → (Qu : ℕ) (upstream : ℤ) → ℤ
mixed_oxygen card Qu upstream =
    floor (pos Qu *ℤ upstream +ℤ pos (1_000 * card.inflow * card.inflow_oxygen)) (Qu + card.inflow)

-- a demand at the head of a reach, by its source, whether there are feeders, Qu, and the feeders' sum of Q × foot value
unfoldable pub head_demand : Source → (fed : Bool) (Qu sum : ℕ) → ℕ
head_demand source fed Qu sum = mixed_demand source Qu (upstream_demand fed Qu sum)

-- oxygen at the head of a reach, by its card, whether it has feeders, Qu, and the feeders' sum of Q × foot oxygen
unfoldable pub head_oxygen : Card → (fed : Bool) (Qu : ℕ) (sum : ℤ) → ℤ
head_oxygen card fed Qu sum = mixed_oxygen card Qu (below_dam card fed Qu (upstream_oxygen fed Qu sum))
