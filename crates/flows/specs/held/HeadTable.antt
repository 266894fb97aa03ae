-- The tables that the program keeps of what reaches bring, and what the head of a reach needs and promises. Nothing here has to be believed
-- of the paper: laws tie the tables to its definitions.
use Rattle.std.specs.Prelude.{◌≡◌, Option, Some, None, Bool, true, false, ◌||◌, List, ℕ, suc, ◌+◌, ◌*◌, ◌<◌, ◌≤◌, ◌^◌, length, take, get_or, replicate}
use Rattle.river.specs.declared.card.Dam.{Dam}
use Rattle.river.specs.declared.card.Card.{Card}
use Rattle.river.specs.declared.source.Demand.TheVariants.{Bod, Nitrogenous}
use Rattle.river.specs.declared.source.Source.{Source}
use Rattle.flows.specs.declared.flow.ReachFlows.{ReachFlows}
use Rattle.flows.specs.declared.head.Brought.{Brought}
use Rattle.flows.specs.declared.head.Head.{Head}
use Rattle.river.specs.Card.{FieldsInRange, Lawful}
use Rattle.flows.specs.Saturation.{SaturationInRange}
use Rattle.river.specs.Source.{source_of, source_mass}
use Rattle.flows.specs.Flow.{flow_limit, mass_limit, Flows, own_mass, flow_at, mass_at}
use Rattle.flows.specs.Head.{head_demand, head_oxygen}
use Rattle.flows.specs.held.FlowTable.{table_sum, table_any, Tabled}
use Rattle.flows.specs.held.Stored.{stored_limit, oxygen_of, oxygen_sum_of}

-- a dam's share is at most 1,000, and its generating flow at most Qu
abbrev pub DamWithin : Option Dam → (Qu : ℕ) → Type 0
DamWithin None Qu = Unit
DamWithin (Some dam) Qu = (dam.share ≤ 1_000) × (dam.generating ≤ Qu)

-- a part of a whole that is small enough for a product with 16 bits
pub record PartOf (part whole : ℕ) : Type 0 where
  pub some : 0 < whole
  pub within : part ≤ whole
  pub fits : whole ≤ 1_000 * flow_limit

-- what an accepted river ensures of the water at the head of a reach, before its take: of its inflow, of whether it has feeders, and of Qu
pub record HeadFlows (inflow : ℕ) (fed : Bool) (Qu : ℕ) : Type 0 where
  pub flowing : 0 < Qu + inflow
  pub bounded : Qu + inflow ≤ flow_limit
  pub feeders_flow : fed ≡ true → 0 < Qu

-- what it ensures of the reach's card too
pub record HeadReady (card : Card) (fed : Bool) (Qu : ℕ) : Type 0 where
  pub fields : FieldsInRange card
  pub saturation : SaturationInRange card
  pub dam : DamWithin card.dam Qu
  pub flows : HeadFlows card.inflow fed Qu

-- the most units of a demand at a head
abbrev pub demand_limit : ℕ
demand_limit = 1_000 * mass_limit

-- what it ensures of a demand there: what the feeders' feet and the source bring is at most the limit for each unit of flow
pub record DemandReady (source : Source) (fed : Bool) (Qu sum : ℕ) : Type 0 where
  pub flows : HeadFlows source.inflow fed Qu
  pub within : sum + 1_000 * source_mass source ≤ demand_limit * (Qu + source.inflow)

-- what it ensures of oxygen there: each stored foot value fits four bytes
pub record OxygenReady (card : Card) (fed : Bool) (Qu sum : ℕ) : Type 0 where
  pub ready : HeadReady card fed Qu
  pub within : sum ≤ stored_limit * Qu

-- nothing brought, and that by each of 128 reaches
abbrev pub no_brought : Brought
no_brought = record { bod = 0; nitrogenous = 0; oxygen = 0; used = false }

abbrev pub nothing_brought : List Brought
nothing_brought = replicate 128 no_brought

-- what reach j + 1 brings
abbrev pub brings_by : List Brought → (j : ℕ) → Brought
brings_by by_reach j = get_or by_reach j no_brought

-- what a foot brings: flow × each demand and flow × stored oxygen, and whether oxygen is used up there or above
abbrev pub brought_by : (flow bod nitrogenous oxygen : ℕ) (used : Bool) → Brought
brought_by flow bod nitrogenous oxygen used =
    record { bod = flow * bod; nitrogenous = flow * nitrogenous; oxygen = flow * oxygen; used = used }

-- what is brought with what one more feeder brings, and what that needs
abbrev pub brought_with : Brought → Brought → Brought
brought_with brought more =
    record {
      bod = brought.bod + more.bod;
      nitrogenous = brought.nitrogenous + more.nitrogenous;
      oxygen = brought.oxygen + more.oxygen;
      used = more.used || brought.used;
    }

pub record BroughtWithFits (brought more : Brought) : Type 0 where
  pub bod : brought.bod + more.bod < 2 ^ 64
  pub nitrogenous : brought.nitrogenous + more.nitrogenous < 2 ^ 64
  pub oxygen : brought.oxygen + more.oxygen < 2 ^ 64

-- what the feeders of reach i among the first n reaches bring, by a table of the reaches and by what each brings
abbrev pub brought_among : (t : List ReachFlows) (by_reach : List Brought) (n i : ℕ) → Brought
brought_among t by_reach n i =
    record {
      bod = table_sum t (λ j. (brings_by by_reach j).bod) n i;
      nitrogenous = table_sum t (λ j. (brings_by by_reach j).nitrogenous) n i;
      oxygen = table_sum t (λ j. (brings_by by_reach j).oxygen) n i;
      used = table_any t (λ j. (brings_by by_reach j).used) n i;
    }

-- what all feeders of reach i in a table bring
abbrev pub brought_to : (t : List ReachFlows) (by_reach : List Brought) (i : ℕ) → Brought
brought_to t by_reach i = brought_among t by_reach (length t) i

-- what these sums need: what each reach of the table brings, and that they fit eight bytes
pub record BroughtFits (t : List ReachFlows) (by_reach : List Brought) (i : ℕ) : Type 0 where
  pub each : length by_reach ≡ length t
  pub bod : table_sum t (λ j. (brings_by by_reach j).bod) (length t) i < 2 ^ 64
  pub nitrogenous : table_sum t (λ j. (brings_by by_reach j).nitrogenous) (length t) i < 2 ^ 64
  pub oxygen : table_sum t (λ j. (brings_by by_reach j).oxygen) (length t) i < 2 ^ 64

-- what flows into reach i + 1 brings, by the reaches before it
abbrev pub brought_by_feeders : (t : List ReachFlows) (by_reach : List Brought) (i : ℕ) → Brought
brought_by_feeders t by_reach i = brought_to (take i t) (take i by_reach) (suc i)

-- what the head of a reach needs, by its card, whether it has feeders, Qu, and what the feeders bring
pub record HeadInput (card : Card) (fed : Bool) (Qu : ℕ) (brought : Brought) : Type 0 where
  pub ready : HeadReady card fed Qu
  pub demands : brought.bod + brought.nitrogenous + 1_000 * own_mass card ≤ demand_limit * (Qu + card.inflow)
  pub oxygen : brought.oxygen ≤ stored_limit * Qu

-- the head: each demand, and oxygen
pub record HeadOf (card : Card) (fed : Bool) (Qu : ℕ) (brought : Brought) (r : Head) : Type 0 where
  pub bod : r.bod ≡ head_demand (source_of Bod card) fed Qu brought.bod
  pub nitrogenous : r.nitrogenous ≡ head_demand (source_of Nitrogenous card) fed Qu brought.nitrogenous
  pub oxygen : oxygen_of r.oxygen ≡ head_oxygen card fed Qu (oxygen_sum_of Qu brought.oxygen)

-- the bounds of what reach i + 1 brings: flow × both demands is at most 1,000 × M, and stored oxygen fits four bytes
pub record BroughtWithin (cards : List Card) (i : ℕ) (brought : Brought) : Type 0 where
  pub demands : brought.bod + brought.nitrogenous ≤ 1_000 * mass_at cards (suc i)
  pub oxygen : brought.oxygen ≤ stored_limit * flow_at cards (suc i)

-- what the first n of 128 reaches bring, in these bounds
pub record Carried (cards : List Card) (by_reach : List Brought) (n : ℕ) : Type 0 where
  pub full : length by_reach ≡ 128
  pub within : (j : ℕ) → j < n → BroughtWithin cards j (brings_by by_reach j)

-- the tables before the head of reach i + 1: an accepted river, its flows and what the reaches before bring
pub record HeadTabled (cards : List Card) (flows : List ReachFlows) (by_reach : List Brought) (i : ℕ) : Type 0 where
  pub lawful : Lawful cards
  pub sound : Flows cards
  pub within : i < length cards
  pub tabled : Tabled cards (length cards) flows
  pub carried : Carried cards by_reach i
