-- The ties of "Along a reach", its critical point and its status, on the figures of a record. `oxygen` gives the program's own oxygen at each instant.
-- The rates of a card are those in force.
use Rattle.std.specs.Prelude.{◌≡◌, ◌⊎◌, ℕ, ◌≤◌, ◌<◌, ℤ, pos, ◌≤ℤ◌, ◌<ℤ◌}
use Rattle.decay.specs.Exact.{foot}
use Rattle.river.specs.declared.card.Card.{Card}
use Rattle.river.specs.declared.source.Demand.{Demand}
use Rattle.river.specs.declared.source.Demand.TheVariants.{Bod, Nitrogenous}
use Rattle.flows.specs.Flow.{sludge_of}
use Rattle.river.specs.Source.{rate_of}
use Rattle.report.specs.Record.{Figures}

-- a demand does not decay: its rate is 0, or the volume
abbrev pub NoDecay : Demand → Card → Type 0
NoDecay d card = (rate_of d card ≡ 0) ⊎ (card.volume ≡ 0)

-- oxygen does not change: the rates of both demands, k2 and the demand of a sludge bed are 0, or the volume is
abbrev pub NoChange : Card → Type 0
NoChange card =
    ((rate_of Bod card ≡ 0) × (rate_of Nitrogenous card ≡ 0) × (card.k2 ≡ 0) × (sludge_of card ≡ 0)) ⊎ (card.volume ≡ 0)

-- an instant and its oxygen: the lowest of the values at instants 0 to n, at the first instant that has it
pub record FirstLowest (at : ℕ → ℤ) (n instant : ℕ) (lowest : ℤ) : Type 0 where
  pub within : instant ≤ n
  pub value : lowest ≡ at instant
  pub least : (m : ℕ) → m ≤ n → lowest ≤ℤ at m
  pub first : (m : ℕ) → m < instant → lowest <ℤ at m

-- a demand among the figures, at the head and at the foot
abbrev pub head_figure : Demand → Figures → ℕ
head_figure Bod f = f.head_bod
head_figure Nitrogenous f = f.head_nitrogenous

abbrev pub foot_figure : Demand → Figures → ℕ
foot_figure Bod f = f.foot_bod
foot_figure Nitrogenous f = f.foot_nitrogenous

-- how the demands among the figures of a reach with this card are tied
pub record DemandsTied (card : Card) (f : Figures) : Type 0 where
  -- foot BOD lies from 0 to head BOD, and nitrogenous BOD likewise
  pub foot_demand : (d : Demand) → foot_figure d f ≤ head_figure d f
  -- k1 = 0 or volume 0 keeps BOD to the unit, and nitrogenous BOD likewise by its own rate
  pub demand_kept : (d : Demand) → NoDecay d card → foot_figure d f ≡ head_figure d f

-- and how oxygen is
pub record OxygenTied (card : Card) (oxygen : ℕ → ℤ) (f : Figures) : Type 0 where
  -- all rates 0 without a bed's demand, or volume 0, keep oxygen to the unit at every instant
  pub oxygen_kept : NoChange card → (m : ℕ) → m ≤ foot → oxygen m ≡ f.head_oxygen
  -- instant 0 is the head, and instant 1,024 the foot
  pub at_head : oxygen 0 ≡ f.head_oxygen
  pub at_foot : oxygen foot ≡ f.foot_oxygen
  -- critical oxygen is the lowest of the 1,025 values, and its instant the first that has it
  pub critical : FirstLowest oxygen foot f.critical_instant f.critical_oxygen
  -- and so it is at most head oxygen and at most foot oxygen
  pub at_most_head : f.critical_oxygen ≤ℤ f.head_oxygen
  pub at_most_foot : f.critical_oxygen ≤ℤ f.foot_oxygen

-- no oxygen is told: at status 2 its figures and the instant are 0
pub record NoOxygen (f : Figures) : Type 0 where
  pub head_oxygen : f.head_oxygen ≡ pos 0
  pub critical_instant : f.critical_instant ≡ 0
  pub critical_oxygen : f.critical_oxygen ≡ pos 0
  pub foot_oxygen : f.foot_oxygen ≡ pos 0

-- how the reported figures are tied, and how the status goes by the reported critical oxygen
pub record Tied (card : Card) (oxygen : ℕ → ℤ) (f : Figures) : Type 0 where
  -- the demands are tied at every status
  pub demands : DemandsTied card f
  -- the status is 0, 1 or 2; at 0 critical oxygen is not below zero, and at 1 it is
  pub at_most_two : f.status ≤ 2
  pub ordinary : f.status ≡ 0 → pos 0 ≤ℤ f.critical_oxygen
  pub used_up : f.status ≡ 1 → f.critical_oxygen <ℤ pos 0
  -- at 0 and 1 oxygen is tied, and at 2 none is told
  pub oxygen_tied : f.status ≤ 1 → OxygenTied card oxygen f
  pub used_up_above : f.status ≡ 2 → NoOxygen f
