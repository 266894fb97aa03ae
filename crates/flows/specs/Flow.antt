-- "Flows and depth" of the river file paper: what flows into a reach, its flow, undecayed BOD and depth, and the flow check. Cards have the rates
-- in force.
use Rattle.std.specs.Prelude.{◌≡◌, Option, Some, None, Bool, true, false, ◌&&◌, List, ℕ, zero, suc, ◌+◌, ◌*◌, ◌-◌, ◌/◌, ◌<◌, ◌≤◌, min, max, length, get_or, leb, ltb, eqb}
use Rattle.river.specs.declared.card.Dam.{Dam}
use Rattle.river.specs.declared.card.Card.{Card}
use Rattle.river.specs.Refusal.{Answer, accepted, need}
use Rattle.river.specs.Card.{blank, amount_or, RatesInRange, rates_in_range}
use Rattle.river.specs.declared.source.Demand.TheVariants.{Bod, Nitrogenous}
use Rattle.river.specs.Source.{source_of, rate_of, source_mass}
use Rattle.river.specs.declared.refusal.Rule.TheVariants.{NoFlow, FlowLimit, DamFlow, BodLimit, RateLimit, TakeLimit, BedLimit, RateRange}

-- the most litres a second that a reach may carry
abbrev pub flow_limit : ℕ
flow_limit = 100_000_000

-- the most undecayed BOD to a litre a second
abbrev pub mass_limit : ℕ
mass_limit = 1_000_000

-- the most rate × volume to a litre a second, above which the reach must be split
abbrev pub rate_limit : ℕ
rate_limit = 345_600

-- the most sludge demand × volume to a litre a second
abbrev pub bed_limit : ℕ
bed_limit = 432_000

-- what flows into a reach: none, or a feeder's card, what flows into that feeder, and the other feeders
pub data Feeders : Type 0 where
  none : Feeders
  more : (card : Card) (up : Feeders) (rest : Feeders) → Feeders

-- the card of reach i, numbered from 1
abbrev pub card_of : List Card → ℕ → Card
card_of cards zero = blank
card_of cards (suc n) = get_or cards n blank

-- one more feeder if the test holds
unfoldable pub joined_if : Bool → Card → Feeders → Feeders → Feeders
joined_if true card up rest = more card up rest
joined_if false card up rest = rest

-- the feeders of reach i among the first n reaches: those whose outlet it is
unfoldable pub feeders_among : List Card → ℕ → ℕ → Feeders
feeders_among cards zero i = none
feeders_among cards (suc n) i =
    joined_if (eqb (get_or cards n blank).outlet i) (get_or cards n blank) (feeders_among cards n (suc n)) (feeders_among cards n i)

-- what flows into reach i
abbrev pub above : List Card → ℕ → Feeders
above cards zero = none
above cards (suc n) = feeders_among cards n (suc n)

-- the take of a reach, 0 without one
abbrev pub take_of : Card → ℕ
take_of card = amount_or 0 card.optionals.take

-- the demand of a reach's sludge bed, 0 without one
abbrev pub sludge_of : Card → ℕ
sludge_of card = amount_or 0 card.optionals.sludge

-- Qu, the sum of the feeders' flows, each after the feeder's own take
unfoldable pub flow_of : Feeders → ℕ
flow_of none = 0
flow_of (more card up rest) = flow_of up + card.inflow - take_of card + flow_of rest

-- Qm, the mixed flow: Q of a reach with this card before its take, with what flows into it
abbrev pub mixed_flow : Card → Feeders → ℕ
mixed_flow card up = flow_of up + card.inflow

-- Q, the flow of the reach from its take on: what remains
abbrev pub reach_flow : Card → Feeders → ℕ
reach_flow card up = mixed_flow card up - take_of card

-- the undecayed BOD, of both demands, that a reach itself takes in
abbrev pub own_mass : Card → ℕ
own_mass card = source_mass (source_of Bod card) + source_mass (source_of Nitrogenous card)

-- M after a take, by Qm and Mm before it: it falls by take × (Mm / Qm, rounded down), and is cut to 1,000,000 × remaining Q if larger
abbrev pub remaining_mass : (take Qm Mm : ℕ) → ℕ
remaining_mass take Qm Mm = min (Mm - take * (Mm / Qm)) (mass_limit * (Qm - take))

-- the sum of the feeders' undecayed BOD, each after the feeder's own take
unfoldable pub mass_of : Feeders → ℕ
mass_of none = 0
mass_of (more card up rest) = remaining_mass (take_of card) (flow_of up + card.inflow) (mass_of up + own_mass card) + mass_of rest

-- Mm, the undecayed BOD of a reach before its take
abbrev pub mixed_mass : Card → Feeders → ℕ
mixed_mass card up = mass_of up + own_mass card

-- M, the undecayed BOD of the reach from its take on
abbrev pub reach_mass : Card → Feeders → ℕ
reach_mass card up = remaining_mass (take_of card) (mixed_flow card up) (mixed_mass card up)

-- the depth of the deepest feeder, 0 without feeders
unfoldable pub deepest : Feeders → ℕ
deepest none = 0
deepest (more card up rest) = max (1 + deepest up) (deepest rest)

-- depth: 1 without feeders, else one more than the deepest feeder's
abbrev pub reach_depth : Feeders → ℕ
reach_depth up = 1 + deepest up

-- flow and undecayed BOD, after the take, and depth of reach i of a river
abbrev pub flow_at : List Card → ℕ → ℕ
flow_at cards i = reach_flow (card_of cards i) (above cards i)

abbrev pub mass_at : List Card → ℕ → ℕ
mass_at cards i = reach_mass (card_of cards i) (above cards i)

abbrev pub depth_at : List Card → ℕ → ℕ
depth_at cards i = reach_depth (above cards i)

-- whether a reach has feeders
unfoldable pub fed : Feeders → Bool
fed none = false
fed (more card up rest) = true

-- a dam has feeders above it and a generating flow of at most Qu
unfoldable pub dam_fits : Option Dam → Bool → ℕ → Bool
dam_fits None fed Qu = true
dam_fits (Some dam) fed Qu = fed && leb dam.generating Qu

-- a rate times volume is at most 345,600 × Q
abbrev pub rate_fits : (rate volume Q : ℕ) → Bool
rate_fits rate volume Q = leb (rate * volume) (rate_limit * Q)

-- and so is that of each rate of a reach
abbrev pub rates_fit : Card → (Q : ℕ) → Bool
rates_fit card Q = rate_fits card.k1 card.volume Q && rate_fits card.k2 card.volume Q && rate_fits (rate_of Nitrogenous card) card.volume Q

-- sludge demand times volume is at most 432,000 × Q
abbrev pub bed_fits : Card → (Q : ℕ) → Bool
bed_fits card Q = leb (sludge_of card * card.volume) (bed_limit * Q)

-- a group of checks: the answer that comes later, where all of them pass, or the first refusal
abbrev pub Checks : Type 0
Checks = Answer (List Card) → Answer (List Card)

infixr 5 ◌then◌
-- one group, and then another
unfoldable pub ◌then◌ : Checks → Checks → Checks
◌then◌ first second later = first (second later)

-- 7: Qm is 0; 8: Qm above 100,000,000; 9: a dam where there are no feeders, or generating flow above Qu
unfoldable pub flow_rules : Option Dam → (fed : Bool) (Qu Qm i : ℕ) → Checks
flow_rules dam fed Qu Qm i = need (ltb 0 Qm) NoFlow i then need (leb Qm flow_limit) FlowLimit i then need (dam_fits dam fed Qu) DamFlow i

-- 10: Mm above 1,000,000 × Qm
unfoldable pub load_rule : (Qm Mm i : ℕ) → Checks
load_rule Qm Mm i = need (leb Mm (mass_limit * Qm)) BodLimit i

-- 13: a take that is not below Qm
unfoldable pub take_rule : (take Qm i : ℕ) → Checks
take_rule take Qm i = need (ltb take Qm) TakeLimit i

-- 15: a rate in force, k1, k2 or nitrogenous, above 20,000
unfoldable pub range_rule : Card → (i : ℕ) → Checks
range_rule card i = need (rates_in_range card) RateRange i

-- 11: k1, k2 or the nitrogenous rate, each × volume, above 345,600 × Q
unfoldable pub rate_rules : Card → (Q i : ℕ) → Checks
rate_rules card Q i =
    need (rate_fits card.k1 card.volume Q) RateLimit i then
    need (rate_fits card.k2 card.volume Q) RateLimit i then need (rate_fits (rate_of Nitrogenous card) card.volume Q) RateLimit i

-- 14: sludge demand × volume above 432,000 × Q
unfoldable pub bed_rule : Card → (Q i : ℕ) → Checks
bed_rule card Q i = need (bed_fits card Q) BedLimit i

-- the checks of reach i in order, by its card, whether it has feeders, Qu, Qm and Mm; 11 and 14 go by Q, the flow after the take
unfoldable pub checks_of : Card → (fed : Bool) (Qu Qm Mm i : ℕ) → Checks
checks_of card fed Qu Qm Mm i =
    flow_rules card.dam fed Qu Qm i then
    load_rule Qm Mm i then
    take_rule (take_of card) Qm i then
    range_rule card i then rate_rules card (Qm - take_of card) i then bed_rule card (Qm - take_of card) i

-- the checks of reach i with this card, with what flows into it; to unfold them is to unfold their groups
unfoldable pub reach_checks : Card → Feeders → ℕ → Checks
unfolding checks_of flow_rules load_rule take_rule range_rule rate_rules bed_rule ◌then◌
reach_checks card up i = checks_of card (fed up) (flow_of up) (mixed_flow card up) (mixed_mass card up) i

-- the checks by reach number, of m reaches from i on
unfoldable pub checks_from : List Card → (i m : ℕ) → Answer (List Card)
checks_from cards i zero = accepted cards
checks_from cards i (suc m) = reach_checks (card_of cards i) (above cards i) i (checks_from cards (suc i) m)

-- the flow check of a river: its cards, or the first refusal
unfoldable pub flow_check : List Card → Answer (List Card)
flow_check cards = checks_from cards 1 (length cards)

-- the rule of check 9 as a fact
unfoldable pub DamRule : Option Dam → Feeders → Type 0
DamRule None up = Unit
DamRule (Some dam) up = (fed up ≡ true) × (dam.generating ≤ flow_of up)

-- what checks 7 to 11 and 13 to 15 ask of a reach with this card, with what flows into it
pub record ReachPasses (card : Card) (up : Feeders) : Type 0 where
  pub flowing : 0 < mixed_flow card up
  pub bounded : mixed_flow card up ≤ flow_limit
  pub dam_rule : DamRule card.dam up
  pub mass_rule : mixed_mass card up ≤ mass_limit * mixed_flow card up
  pub take_rule : take_of card < mixed_flow card up
  pub range_rule : RatesInRange card
  pub decay_rule : card.k1 * card.volume ≤ rate_limit * reach_flow card up
  pub aeration_rule : card.k2 * card.volume ≤ rate_limit * reach_flow card up
  pub nitrification_rule : rate_of Nitrogenous card * card.volume ≤ rate_limit * reach_flow card up
  pub bed_rule : sludge_of card * card.volume ≤ bed_limit * reach_flow card up

-- a river passes the flow rules: each of its reaches does
pub record Flows (cards : List Card) : Type 0 where
  pub each : (i : ℕ) → i < length cards → ReachPasses (card_of cards (suc i)) (above cards (suc i))
