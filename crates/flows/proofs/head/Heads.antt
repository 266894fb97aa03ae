-- The head of a reach of an accepted river: what its parts need, and that its demands together stay within the undecayed BOD.
use Rattle.std.specs.Prelude.{Option, Some, None}
use mathlib.Core.Path.{◌≡◌, refl, sym, ap, subst, ◌∙◌}
use mathlib.Core.Bool.{Bool, true, false}
use mathlib.Core.List.{List}
use Prim.Native.Nat.{ℕ, zero, suc, ◌+◌, ◌*◌, ◌<◌, ◌≤◌}
use native.Mathlib.Nat.{le_refl, le_trans, lt_of_lt_of_le, le-add_right}
use native.Mathlib.Omega.{arith}
use lib.ListN.{get_or, take, length-take}
use lib.Dec.{ltb, eqb}
use borrow.Author.Tests.{lt-ltb, ltb-true}
use Rattle.river.specs.declared.card.Card.{Card}
use Rattle.river.specs.declared.card.Dam.{Dam}
use Rattle.river.specs.declared.source.Demand.{Demand}
use Rattle.river.specs.declared.source.Demand.TheVariants.{Bod, Nitrogenous}
use Rattle.river.specs.declared.source.Source.{Source}
use Rattle.flows.specs.declared.flow.ReachFlows.{ReachFlows}
use Rattle.flows.specs.declared.head.Brought.{Brought}
use Rattle.flows.specs.declared.head.Head.{Head}
use Rattle.river.specs.Card.{blank}
use Rattle.river.specs.Described.{InRange}
use Rattle.river.specs.Records.{DM}
use Rattle.flows.specs.Flow.{flow_limit, Feeders, none, more, card_of, above, feeders_among, joined_if, flow_of, mass_of, fed, mixed_flow, reach_flow, mixed_mass, reach_mass, own_mass, flow_at, mass_at, ReachPasses, DamRule}
use Rattle.flows.specs.Head.{head_demand}
use Rattle.river.proofs.range.Ranges.{asked_at}
use Rattle.river.proofs.source.Ranges.{source_inflow}
use Rattle.flows.proofs.flow.Table.{sum_of_feeders, sum_scaled, sums_scaled}
use Rattle.flows.proofs.flow.Take.{flow_remains, flow_within, mixed_bounded, mass_scaled, still_within}
use Rattle.flows.proofs.head.Bounds.{head_demand_kept, conditions_in_range}
use Rattle.flows.proofs.flow.Checks.{FirstOf, flows_add, masses_add, flow_table, mass_table}
use Rattle.flows.proofs.head.Bringing.{brought_taken}
use Rattle.flows.specs.held.FlowTable.{flows_by}
use Rattle.river.specs.Source.{source_of, source_mass}
use Rattle.flows.specs.held.Stored.{stored_limit}
use Rattle.flows.specs.held.HeadTable.{DamWithin, HeadReady, brings_by, brought_among, brought_by_feeders, BroughtFits, DemandReady, HeadInput, HeadOf, HeadTabled}

-- feeders that pass have water
pub flow_of_fed : (cards : List Card) (n i : ℕ) → ((j : ℕ) → j < n → ReachPasses (card_of cards (suc j)) (above cards (suc j))) → fed (feeders_among cards n i) ≡ true → 0 < flow_of (feeders_among cards n i)
unfolding feeders_among joined_if fed flow_of
flow_of_fed cards zero i s e = let z : ◌≡◌ {A = ℕ} 0 1 = cc in absurd (let h : ⊥ = omega arith in h)
flow_of_fed cards (suc n) i s e =
    step (eqb (get_or cards n blank).outlet i) (flow_remains (s n (le_refl (suc n)))) (flow_of_fed cards n i (λ j l. s j (omega arith))) e
  where
    step : (b : Bool) → 0 < reach_flow (get_or cards n blank) (feeders_among cards n (suc n)) → (fed (feeders_among cards n i) ≡ true → 0 < flow_of (feeders_among cards n i)) → fed (joined_if b (get_or cards n blank) (feeders_among cards n (suc n)) (feeders_among cards n i)) ≡ true → 0 < flow_of (joined_if b (get_or cards n blank) (feeders_among cards n (suc n)) (feeders_among cards n i))
    step true p f e = lt_of_lt_of_le p (le-add_right _ _)
    step false p f e = f e

-- and so there are feeders exactly where Qu is above 0
fed_by_flow : (up : Feeders) → (fed up ≡ true → 0 < flow_of up) → ltb 0 (flow_of up) ≡ fed up
unfolding fed flow_of
fed_by_flow none f = refl
fed_by_flow (more card up rest) f = lt-ltb 0 (flow_of (more card up rest)) (f refl)

dam_within : (dam : Option Dam) (up : Feeders) → InRange DM dam → DamRule dam up → DamWithin dam (flow_of up)
unfolding DamRule
dam_within None up l r = tt
dam_within (Some dam) up l r = (l.0.most, r.1)

-- flow × two demands at a head is at most what comes down and comes in of both
both_kept : (s t : Source) (fed : Bool) (Qu Qm a b : ℕ) → Qm ≡ Qu + s.inflow → Qm ≡ Qu + t.inflow → Qm * (head_demand s fed Qu a + head_demand t fed Qu b) ≤ a + b + 1000 * (source_mass s + source_mass t)
both_kept s t fed Qu Qm a b e f = omega (arith, kept s a e, kept t b f)
  where
    kept : (source : Source) (sum : ℕ) → Qm ≡ Qu + source.inflow → Qm * head_demand source fed Qu sum ≤ sum + 1000 * source_mass source
    kept source sum g = rw g (head_demand_kept source fed Qu sum)

-- THEOREM: Q × both demands is at most 1,000 × M at the head, if the feeders' sums of Q × demand are at most 1,000 times theirs
pub head_demands_within_mass : {card : Card} {up : Feeders} (bod nitrogenous : ℕ) → ReachPasses card up → bod + nitrogenous ≤ 1000 * mass_of up → reach_flow card up * (head_demand (source_of Bod card) (fed up) (flow_of up) bod + head_demand (source_of Nitrogenous card) (fed up) (flow_of up) nitrogenous) ≤ 1000 * reach_mass card up
head_demands_within_mass {card} {up} bod nitrogenous s h =
    still_within (mixed_flow card up) (reach_flow card up) (mixed_mass card up) (reach_mass card up) 1000 _ s.flowing (mass_scaled s)
    (le_trans
    (both_kept (source_of Bod card) (source_of Nitrogenous card) (fed up) (flow_of up) (mixed_flow card up) bod nitrogenous (inflow Bod) (inflow Nitrogenous))
    (omega (arith, h)))
  where
    inflow : (d : Demand) → mixed_flow card up ≡ flow_of up + (source_of d card).inflow
    inflow d = ap (λ (x : ℕ). flow_of up + x) (sym (source_inflow d card))

-- what a head asks for has what each demand asks for
module _ {card : Card} {fed : Bool} {Qu : ℕ} {brought : Brought} (h : HeadInput card fed Qu brought) where
  part_input : (d : Demand) {source : Source} {sum : ℕ} → sum + 1000 * source_mass (source_of d card) ≤ brought.bod + brought.nitrogenous + 1000 * own_mass card → source ≡ source_of d card → DemandReady source fed Qu sum
  part_input d k e =
      rw e
      record {
        flows = rw (source_inflow d card) h.ready.flows;
        within = omega (arith, k, h.demands, source_inflow d card);
      }

  pub bod_input : {source : Source} → source ≡ source_of Bod card → DemandReady source fed Qu brought.bod
  bod_input = part_input Bod (omega arith)

  pub nitrogenous_input : {source : Source} → source ≡ source_of Nitrogenous card → DemandReady source fed Qu brought.nitrogenous
  nitrogenous_input = part_input Nitrogenous (omega arith)

-- Qu of reach i + 1, by the table
abbrev pub qu_by : List ReachFlows → ℕ → ℕ
qu_by flows i = (flows_by flows i).upstream

module _ {cards : List Card} {flows : List ReachFlows} {by_reach : List Brought} {i : ℕ} (h : HeadTabled cards flows by_reach i) where
  -- the table of the reaches before
  pub prior : FirstOf cards i flows
  prior j l = h.tabled.each j (omega (arith, h.within))

  here : ReachPasses (card_of cards (suc i)) (above cards (suc i))
  here = h.sound.each i h.within

  pub reach_few : i < 128
  reach_few = omega (arith, h.within, h.lawful.few)

  -- what the feeders bring
  pub brought_here : brought_by_feeders flows by_reach i ≡ brought_among flows by_reach i (suc i)
  brought_here = brought_taken flows by_reach i (rw h.tabled.full (omega (arith, reach_few)))

  sum_demands : (brought_by_feeders flows by_reach i).bod + (brought_by_feeders flows by_reach i).nitrogenous ≤ 1000 * mass_of (above cards (suc i))
  sum_demands =
      subst (λ (b : Brought). b.bod + b.nitrogenous ≤ 1000 * mass_of (above cards (suc i))) (sym brought_here)
      (rw (sum_of_feeders masses_add (mass_table prior) (suc i)) at
      (sums_scaled flows (λ j. (brings_by by_reach j).bod) (λ j. (brings_by by_reach j).nitrogenous) (λ j. (flows_by flows j).mass) 1000 i (suc i)
      (λ j l. rw (prior j l) (h.carried.within j l).demands)))

  sum_oxygen : (brought_by_feeders flows by_reach i).oxygen ≤ stored_limit * flow_of (above cards (suc i))
  sum_oxygen =
      subst (λ (b : Brought). b.oxygen ≤ stored_limit * flow_of (above cards (suc i))) (sym brought_here)
      (rw (sum_of_feeders flows_add (flow_table prior) (suc i)) at
      (sum_scaled flows (λ j. (brings_by by_reach j).oxygen) (λ j. (flows_by flows j).flow) stored_limit i (suc i) (λ j l. rw (prior j l) (h.carried.within j l).oxygen)))

  pub sums_fit : BroughtFits (take i flows) (take i by_reach) (suc i)
  sums_fit =
      record {
        each = length-take i by_reach ∙ rw (h.carried.full, ← h.tabled.full) (sym (length-take i flows));
        bod = omega (arith, sum_demands, mixed_bounded here);
        nitrogenous = omega (arith, sum_demands, mixed_bounded here);
        oxygen = omega (arith, sum_oxygen, here.bounded);
      }

  -- the flow after the take, Qu, and whether there are feeders
  pub flow_bounded : (flows_by flows i).flow ≤ flow_limit
  flow_bounded = rw (h.tabled.each i h.within) (flow_within here)

  pub qu_here : qu_by flows i ≡ flow_of (above cards (suc i))
  qu_here = ap (λ (f : ReachFlows). f.upstream) (h.tabled.each i h.within)

  pub fed_here : ltb 0 (flow_of (above cards (suc i))) ≡ fed (above cards (suc i))
  fed_here = fed_by_flow (above cards (suc i)) (flow_of_fed cards i (suc i) (λ j l. h.sound.each j (omega (arith, h.within))))

  ready : HeadReady (card_of cards (suc i)) (ltb 0 (flow_of (above cards (suc i)))) (flow_of (above cards (suc i)))
  ready =
      let regular = (asked_at h.lawful i h.within).regular in
      record {
        fields = regular.in_range;
        saturation = conditions_in_range regular;
        dam = dam_within (card_of cards (suc i)).dam (above cards (suc i)) regular.dam here.dam_rule;
        flows = record { flowing = here.flowing; bounded = here.bounded; feeders_flow = ltb-true 0 (flow_of (above cards (suc i))) };
      }

  -- the same of the card that the program works with
  module _ {card : Card} (ec : card ≡ card_of cards (suc i)) where
    module _ {Qu : ℕ} {brought : Brought} (eq : Qu ≡ qu_by flows i) (es : brought ≡ brought_by_feeders flows by_reach i) where
      pub head_input : HeadInput card (ltb 0 Qu) Qu brought
      head_input =
          rw (es, eq, qu_here, ec)
          record {
            ready = ready;
            demands = omega (arith, sum_demands, here.mass_rule);
            oxygen = sum_oxygen;
          }

      -- Q × both demands at the head
      pub head_within : {r : Head} → HeadOf card (ltb 0 Qu) Qu brought r → flow_at cards (suc i) * (r.bod + r.nitrogenous) ≤ 1000 * mass_at cards (suc i)
      head_within {r} of =
          let k = rw (es, eq, qu_here, fed_here, ec) at of in
          rw (k.bod, k.nitrogenous) (head_demands_within_mass _ _ here sum_demands)
