-- The one law of the loops over the reaches of an accepted river, that of the report and that of the means: by the tables of what the first i
-- reaches bring the next reach is handed its card, its flows and what its feeders bring, and the tables with what it hands on are those of one more
-- reach. What a loop makes of a reach besides stands in the proof of the loop. Assumes nothing.
use mathlib.Core.Path.{◌≡◌, ap}
use mathlib.Core.List.{List}
use Prim.Native.Nat.{ℕ, suc, ◌+◌, ◌<◌}
use native.Mathlib.Omega.{arith}
use lib.ListN.{length}
use Rattle.std.specs.Prelude.{set, take}
use Rattle.river.specs.declared.card.Card.{Card}
use Rattle.flows.specs.declared.flow.ReachFlows.{ReachFlows}
use Rattle.flows.specs.declared.head.Brought.{Brought}
use Rattle.flows.specs.Flow.{card_of, above}
use Rattle.flows.specs.held.FlowTable.{flows_by}
use Rattle.flows.specs.held.HeadTable.{nothing_brought, brought_by_feeders, BroughtFits}
use Rattle.flows.proofs.head.Heads.{sums_fit}
use Rattle.report.specs.Program.{used_above}
use Rattle.report.specs.held.Lines.{BroughtTabled, HandsOn, Ready, LineAt, ReachTables}
use Rattle.report.specs.held.Reaches.{Here, SiteOf}
use Rattle.report.specs.declared.reach.Site.{Site}
use Rattle.report.proofs.lines.Bringing.{head_tabled, used_here, brought_next, nothing_brought_yet}

-- the reach that these tables hand out
module _ {cards : List Card} {flows : List ReachFlows} {by_reach : List Brought} {i : ℕ} (t : ReachTables cards flows by_reach i) where
  pub reach_few : i < 128
  reach_few = omega (arith, t.within, t.ready.lawful.few)

  -- what the scan of its feeders asks
  pub brought_asked : BroughtFits (take i flows) (take i by_reach) (suc i)
  brought_asked = sums_fit (head_tabled t.ready t.brought_tabled t.within)

  abbrev pub handed_line : {card : Card} {reach : ReachFlows} {brought : Brought} → card ≡ card_of cards (suc i) → reach ≡ flows_by flows i → brought ≡ brought_by_feeders flows by_reach i → LineAt card reach brought
  handed_line own flows_are brought_is =
      record {
        cards = cards;
        flows = flows;
        by_reach = by_reach;
        i = i;
        ready = t.ready;
        brought_tabled = t.brought_tabled;
        within = t.within;
        own = own;
        upstream_is = ap (λ (r : ReachFlows). r.upstream) flows_are;
        flow_is = ap (λ (r : ReachFlows). r.flow) flows_are;
        depth_is = ap (λ (r : ReachFlows). r.depth) flows_are;
        brought_is = brought_is;
      }

-- the tables of the first i reaches of a river
pub record Reaches (cards : List Card) (flows : List ReachFlows) (by_reach : List Brought) (i : ℕ) : Type 0 where
  pub ready : Ready cards flows
  pub brought_tabled : BroughtTabled cards by_reach i

-- before the first reach
pub none_yet : {cards : List Card} {flows : List ReachFlows} {by_reach : List Brought} → Ready cards flows → by_reach ≡ nothing_brought → Reaches cards flows by_reach 0
none_yet ready e = record { ready = ready; brought_tabled = rw e (nothing_brought_yet _) }

-- one more reach
module _ {cards : List Card} {flows : List ReachFlows} {by_reach : List Brought} {i : ℕ} (p : Reaches cards flows by_reach i) (l : i < length cards) where
  pub reach_tables : ReachTables cards flows by_reach i
  reach_tables = record { ready = p.ready; brought_tabled = p.brought_tabled; within = l }

  module _ (site : Site) (of : SiteOf cards flows by_reach i site) where
    -- what it is handed
    abbrev pub handed : Here site
    handed = handed_line reach_tables of.card of.flows_are of.brought_is

    pub used_handed : site.brought.used ≡ used_above (above cards (suc i))
    used_handed = used_here site handed

  -- the tables with what it hands on
  pub handed_on : {brought : Brought} → HandsOn cards i brought → Reaches cards flows (set by_reach i brought) (i + 1)
  handed_on of = record { ready = p.ready; brought_tabled = brought_next (reach_few reach_tables) p.brought_tabled of }
