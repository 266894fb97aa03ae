-- What is reported of a reach: the head of its two demands, BOD and nitrogenous BOD, and of oxygen, which is "Head of a reach" over the program's own
-- feet, the critical point of the program's own oxygen, its status, and the figures of its record.
-- A reach is a card with what flows into it, the forest of its feeders. Concentrations are in units; oxygen is signed.
use Rattle.std.specs.Prelude.{Bool, cond, List, ℕ, zero, suc, ◌+◌, ◌*◌, ℤ, pos, ◌+ℤ◌, ◌*ℤ◌}
use Rattle.std.specs.Int.Signed.{lt_z}
pub use Rattle.decay.specs.Exact.{foot}
use Rattle.river.specs.declared.card.Card.{Card}
use Rattle.flows.specs.Flow.{Feeders, none, more, fed, flow_of, reach_flow, reach_depth, card_of, above}
use Rattle.river.specs.declared.source.Demand.{Demand}
use Rattle.river.specs.declared.source.Demand.TheVariants.{Bod, Nitrogenous}
use Rattle.river.specs.Source.{source_of}
use Rattle.flows.specs.Head.{head_demand, head_oxygen}
use Rattle.report.specs.Record.{Figures}
use Rattle.report.specs.Status.{status_by, used_by, reported}
use Rattle.report.specs.held.Digits.{demand_along, oxygen_along}

-- the sum over the feeders of Q × foot value of a demand
unfoldable pub demand_sum : Demand → Feeders → ℕ
demand_sum d none = 0
demand_sum d (more card up rest) =
    let Q = reach_flow card up in
    let L = head_demand (source_of d card) (fed up) (flow_of up) (demand_sum d up) in
    Q * demand_along d card Q L foot + demand_sum d rest

-- a demand at the head of a reach
unfoldable pub demand_at_head : Demand → Card → Feeders → ℕ
demand_at_head d card up = head_demand (source_of d card) (fed up) (flow_of up) (demand_sum d up)

-- the sum over the feeders of Q × foot oxygen
unfoldable pub oxygen_sum : Feeders → ℤ
oxygen_sum none = pos 0
oxygen_sum (more card up rest) =
    let Q = reach_flow card up in
    let C = head_oxygen card (fed up) (flow_of up) (oxygen_sum up) in
    pos Q *ℤ oxygen_along card Q (demand_at_head Bod card up) (demand_at_head Nitrogenous card up) C foot +ℤ oxygen_sum rest

-- oxygen at the head of a reach
unfoldable pub oxygen_at_head : Card → Feeders → ℤ
oxygen_at_head card up = head_oxygen card (fed up) (flow_of up) (oxygen_sum up)

-- a demand and oxygen at instant m of a reach
unfoldable pub demand_at : Demand → Card → Feeders → ℕ → ℕ
demand_at d card up m = demand_along d card (reach_flow card up) (demand_at_head d card up) m

unfoldable pub oxygen_at : Card → Feeders → ℕ → ℤ
oxygen_at card up m =
    oxygen_along card (reach_flow card up) (demand_at_head Bod card up) (demand_at_head Nitrogenous card up) (oxygen_at_head card up) m

-- a critical point: an instant and the oxygen there
pub record Critical : Type 0 where
  pub instant : ℕ
  pub oxygen : ℤ

-- the critical point once instant m is seen too: m takes its place only if oxygen is lower there
unfoldable pub lower : Critical → (m : ℕ) (oxygen : ℤ) → Critical
lower before m oxygen = cond (lt_z oxygen before.oxygen) (record { instant = m; oxygen = oxygen }) before

-- the lowest of the values at instants 0 to m, at the first instant that has it
unfoldable pub lowest : (ℕ → ℤ) → ℕ → Critical
lowest at zero = record { instant = 0; oxygen = at 0 }
lowest at (suc m) = lower (lowest at m) (suc m) (at (suc m))

-- critical oxygen of a reach
unfoldable pub critical_oxygen : Card → Feeders → ℤ
critical_oxygen card up = (lowest (oxygen_at card up) foot).oxygen

-- whether oxygen is used up at any reach of a forest, and the status of a reach; oxygen is that of the program, which is carried on below zero
abbrev pub used_above : Feeders → Bool
used_above up = used_by critical_oxygen up

unfoldable pub status_of : Card → Feeders → ℕ
status_of card up = status_by (used_above up) (critical_oxygen card up)

-- the figures of a reach with this depth, flow Q, head BOD L, head nitrogenous BOD Ln and head oxygen C, by whether oxygen is used up above
abbrev pub figures_below : (used : Bool) → Card → (depth Q L Ln : ℕ) (C : ℤ) → Figures
figures_below used card depth Q L Ln C =
    record {
      depth = depth;
      flow = Q;
      head_bod = L;
      foot_bod = demand_along Bod card Q L foot;
      head_oxygen = C;
      critical_instant = (lowest (oxygen_along card Q L Ln C) foot).instant;
      critical_oxygen = (lowest (oxygen_along card Q L Ln C) foot).oxygen;
      foot_oxygen = oxygen_along card Q L Ln C foot;
      status = status_by used (lowest (oxygen_along card Q L Ln C) foot).oxygen;
      head_nitrogenous = Ln;
      foot_nitrogenous = demand_along Nitrogenous card Q Ln foot;
    }

-- the program's own figures of a reach, with oxygen as it is carried on, whatever the status
unfoldable pub figures_of : Card → Feeders → Figures
figures_of card up =
    figures_below (used_above up) card (reach_depth up) (reach_flow card up) (demand_at_head Bod card up) (demand_at_head Nitrogenous card up) (oxygen_at_head card up)

-- those of reach i of a river, and as they are reported
abbrev pub figures_at : List Card → ℕ → Figures
figures_at cards i = figures_of (card_of cards i) (above cards i)

abbrev pub reported_at : List Card → ℕ → Figures
reported_at cards i = reported (figures_at cards i)
