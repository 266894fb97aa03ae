-- The table that the program keeps of the reaches that passed, and what the flow check promises of it. Nothing here has to be believed
-- of the paper: laws tie the table to its definitions.
use Rattle.std.specs.Prelude.{◌≡◌, Result, IfOk, Bool, true, false, ◌&&◌, ◌||◌, List, ℕ, zero, suc, ◌+◌, ◌<◌, ◌≤◌, ◌^◌, max, length, take, get_or, replicate, eqb}
use Rattle.river.specs.declared.card.Card.{Card}
use Rattle.river.specs.declared.refusal.Refusal.{Refusal}
use Rattle.flows.specs.declared.flow.ReachFlows.{ReachFlows}
use Rattle.flows.specs.declared.flow.Upstream.{Upstream}
use Rattle.river.specs.Refusal.{Answer, accepted, after}
use Rattle.river.specs.Card.{Regular}
use Rattle.flows.specs.Flow.{Checks, ReachPasses, card_of, above, flow_of, flow_at, mass_at, depth_at, reach_checks, flow_check}

-- an answer of the program decides a group of checks: it goes on, or is refused, as they do
pub record Decides (r : Answer Unit) (checks : Checks) : Type 0 where
  pub answer : (later : Answer (List Card)) → after r (λ _. later) ≡ checks later

-- a reach that has not passed
abbrev pub no_flow : ReachFlows
no_flow = record { outlet = 0; upstream = 0; flow = 0; mass = 0; depth = 0 }

-- what a table says of reach j + 1
abbrev pub flows_by : List ReachFlows → (j : ℕ) → ReachFlows
flows_by t j = get_or t j no_flow

-- a value where the test holds, else 0
unfoldable pub only_if : Bool → ℕ → ℕ
only_if true value = value
only_if false value = 0

-- The sum and the largest of a value over the feeders of reach i among the first n reaches of a table, and whether a test holds of any.
-- `value j` is that of reach j + 1.
unfoldable pub table_sum : (t : List ReachFlows) (value : ℕ → ℕ) (n i : ℕ) → ℕ
table_sum t value zero i = 0
table_sum t value (suc n) i = only_if (eqb (flows_by t n).outlet i) (value n) + table_sum t value n i

unfoldable pub table_max : (t : List ReachFlows) (value : ℕ → ℕ) (n i : ℕ) → ℕ
table_max t value zero i = 0
table_max t value (suc n) i = max (only_if (eqb (flows_by t n).outlet i) (value n)) (table_max t value n i)

unfoldable pub table_any : (t : List ReachFlows) (test : ℕ → Bool) (n i : ℕ) → Bool
table_any t test zero i = false
table_any t test (suc n) i = eqb (flows_by t n).outlet i && test n || table_any t test n i

-- what the sums over the feeders of reach i need: they fit eight bytes
pub record SumsFit (t : List ReachFlows) (i : ℕ) : Type 0 where
  pub flow : table_sum t (λ j. (flows_by t j).flow) (length t) i < 2 ^ 64
  pub mass : table_sum t (λ j. (flows_by t j).mass) (length t) i < 2 ^ 64

-- what flows in with one more feeder, and what that needs
abbrev pub with_feeder : Upstream → ReachFlows → Upstream
with_feeder up feeder = record { flow = up.flow + feeder.flow; mass = up.mass + feeder.mass; deepest = max feeder.depth up.deepest }

pub record FeederFits (up : Upstream) (feeder : ReachFlows) : Type 0 where
  pub flow : up.flow + feeder.flow < 2 ^ 64
  pub mass : up.mass + feeder.mass < 2 ^ 64

-- the sums over the feeders of reach i among the first n reaches, and the depth of the deepest
abbrev pub upstream_among : (t : List ReachFlows) (n i : ℕ) → Upstream
upstream_among t n i =
    record {
      flow = table_sum t (λ j. (flows_by t j).flow) n i;
      mass = table_sum t (λ j. (flows_by t j).mass) n i;
      deepest = table_max t (λ j. (flows_by t j).depth) n i;
    }

-- those over all feeders of reach i in a table
abbrev pub upstream_of : (t : List ReachFlows) (i : ℕ) → Upstream
upstream_of t i = upstream_among t (length t) i

-- what flows into reach i + 1 by the reaches before it
abbrev pub upstream_by : List ReachFlows → (i : ℕ) → Upstream
upstream_by t i = upstream_of (take i t) (suc i)

-- the table of no reach
abbrev pub no_flows : List ReachFlows
no_flows = replicate 128 no_flow

-- reach j + 1 of a river: outlet, Qu, flow and undecayed BOD after the take, and depth
abbrev pub flows_of : List Card → (j : ℕ) → ReachFlows
flows_of cards j =
    record {
      outlet = (card_of cards (suc j)).outlet;
      upstream = flow_of (above cards (suc j));
      flow = flow_at cards (suc j);
      mass = mass_at cards (suc j);
      depth = depth_at cards (suc j);
    }

-- a table of 128 reaches, the first n of which are those of a river
pub record Tabled (cards : List Card) (n : ℕ) (t : List ReachFlows) : Type 0 where
  pub full : length t ≡ 128
  pub each : (j : ℕ) → j < n → flows_by t j ≡ flows_of cards j

-- the first n reaches pass, and stand in the table
pub record PassedFirst (cards : List Card) (n : ℕ) (t : List ReachFlows) : Type 0 where
  pub sound : (j : ℕ) → j < n → ReachPasses (card_of cards (suc j)) (above cards (suc j))
  pub tabled : Tabled cards n t

-- the flow check of regular cards, after the first i reaches
pub record Underway (cards : List Card) (i : ℕ) (t : List ReachFlows) : Type 0 where
  pub regular : Regular cards
  pub within : i ≤ length cards
  pub passed : PassedFirst cards i t

-- what the check of reach i + 1 yields: its answer, and where it passes the reach
pub record NextChecked (cards : List Card) (i : ℕ) (r : Result ReachFlows Refusal) : Type 0 where
  pub answer : Decides (after r (λ _. accepted tt)) (reach_checks (card_of cards (suc i)) (above cards (suc i)) (suc i))
  pub flows : IfOk r (λ flows. flows ≡ flows_of cards i)

-- what the check of reach i + 1 needs, which is handed its card and what flows into it, and no table: a river whose first i reaches passed,
-- with a table by which this flows into the next, and in which that card is the next
pub record CheckAt (card : Card) (up : Upstream) (i : ℕ) : Type 0 where
  pub cards : List Card
  pub flows : List ReachFlows
  pub underway : Underway cards i flows
  pub gathered : up ≡ upstream_by flows i
  pub within : i < length cards
  pub own : card ≡ card_of cards (suc i)

-- for every such river the check yields what it is to yield there
abbrev pub NextBy : Card → Upstream → ℕ → Result ReachFlows Refusal → Type 0
NextBy card up i r = (here : CheckAt card up i) → NextChecked here.cards i r

-- what the flow check of a river yields: its answer, and the table of every reach of an accepted river
pub record FlowChecked (cards : List Card) (r : Result (List ReachFlows) Refusal) : Type 0 where
  pub answer : after r (λ _. accepted cards) ≡ flow_check cards
  pub tabled : IfOk r (Tabled cards (length cards))
