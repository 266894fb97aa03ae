-- The head and the line of a reach of an accepted river and what its foot brings, from the tables of flows and of what is brought, and from what
-- is handed on of them. Assumes nothing.
use mathlib.Core.Path.{◌≡◌, refl, sym, ap, ◌∙◌, subst}
use mathlib.Core.Bool.{Bool}
use mathlib.Core.List.{List, [], ◌∷◌}
use Prim.Native.Nat.{ℕ, suc, ◌+◌, ◌-◌, ◌*◌, ◌≤◌, ◌<◌}
use native.Mathlib.Nat.{le_refl, not-suc-le-zero}
use native.Mathlib.Numerals.{add-one}
use native.Mathlib.Omega.{arith}
use native.Mathlib.Decide.{dec_le}
use lib.Dec.{ltb, leb→le}
use lib.IntN.{ℤ, pos, negsuc, sub_ℕ}
use lib.Signed.{◌≤ℤ◌}
use lib.ListN.{length, get_or}
use lib.Seq.{sets}
use Rattle.std.specs.Prelude.{Option, Some, None, set}
use Rattle.std.proofs.Math.Logic.{∥∥₁_elim}
use Rattle.std.proofs.Props.{props}
use Rattle.decay.specs.Fraction.{◌≼◌, of_ℕ, of_ℤ, ◌+ᶠ◌}
use Rattle.decay.proofs.Algebra.{quote, certify, slack, number, ◌⊞◌, multiple, ≈_trans, of_ℤ-≈, of_ℕ_reflect}
use Rattle.river.specs.declared.card.Card.{Card}
use Rattle.river.specs.declared.card.Dam.{Dam}
use Rattle.flows.specs.declared.flow.ReachFlows.{ReachFlows}
use Rattle.flows.specs.declared.head.Brought.{Brought}
use Rattle.flows.specs.declared.head.Head.{Head}
use Rattle.river.specs.declared.source.Demand.{Demand}
use Rattle.river.specs.declared.source.Demand.TheVariants.{Bod, Nitrogenous}
use Rattle.river.specs.Card.{blank}
use Rattle.river.specs.Source.{source_of}
use Rattle.flows.specs.Flow.{Feeders, card_of, above, feeders_among, fed, flow_of, reach_flow, flow_at, mass_at, depth_at}
use Rattle.flows.specs.held.FlowTable.{flows_by, table_sum}
use Rattle.flows.specs.Head.{head_demand, head_oxygen}
use Rattle.flows.specs.held.HeadTable.{DamWithin, no_brought, nothing_brought, brings_by, brought_by, brought_among, brought_by_feeders, HeadInput, HeadOf, HeadTabled}
use Rattle.flows.specs.held.Stored.{stored_zero, oxygen_of, oxygen_sum_of, stored_of}
use Rattle.flows.proofs.head.Offset.{sub_pos, sub_neg, minus}
use Rattle.flows.proofs.flow.Table.{entered_at, Adds, TableOf, sum_of_feeders, any_of_feeders}
use Rattle.flows.proofs.head.Bringing.{AddsFlowTimes, StoredTable, oxygen_of_feeders, brought_within, carried_none, carried_next}
use Rattle.flows.proofs.head.Heads.{qu_by, brought_here, fed_here, qu_here, head_input, head_within}
use Rattle.report.specs.held.Bed.{loss_limit}
use Rattle.report.specs.Program.{demand_sum, oxygen_sum, demand_at_head, oxygen_at_head, demand_at, oxygen_at, used_above, figures_of, figures_at, foot}
use Rattle.report.specs.Ties.{foot_figure}
use Rattle.report.specs.Record.{has_nitrification, encode_record, Figures}
use Rattle.report.specs.held.LineFigures.{figures_in}
use Rattle.report.specs.Status.{is_used, reported}
use Rattle.report.specs.declared.record.Line.{Line}
use Rattle.report.specs.held.Lines.{LineReady, HeadFits, brought_by_figures, Ready, BroughtTabled, LineOf, HeadOfReach, HandsOn, ReachReported}
use Rattle.report.specs.held.Reaches.{Here, HeadBy, figures_of_reach}
use Rattle.report.specs.declared.reach.Reach.{Reach}
use Rattle.report.specs.declared.reach.Site.{Site}
use Rattle.report.proofs.Facts.Floor.{of_ℤ_sub}
use Rattle.report.proofs.lines.Used.{used_finds}
use Rattle.report.proofs.Bounds.{most_below}
use Rattle.report.proofs.Forest.{rates_pass, bed_passes, reach_accepted}
use Rattle.report.proofs.River.{IsRiver, head_in_range, instant_in_range, falls}

-- stored oxygen is back where it was
pub stored_back : (z : ℤ) → negsuc 1_640_000_383 ≤ℤ z → oxygen_of (stored_of z) ≡ z
unfolding oxygen_of stored_of
stored_back (pos n) h = sub_pos (n + stored_zero) stored_zero (omega arith) ∙ ap pos (omega arith)
stored_back (negsuc n) h =
    let l : n ≤ 1_640_000_383 = leb→le _ _ h.le in
    sub_neg (stored_zero - suc n) stored_zero (omega arith) ∙ ap negsuc (omega arith)

pub stored_of_lem : (n : ℕ) → stored_of (oxygen_of n) ≡ n
unfolding oxygen_of stored_of
stored_of_lem n = by_sign (dec_le stored_zero n)
  where
    by_sign : Dec (stored_zero ≤ n) → stored_of (oxygen_of n) ≡ n
    by_sign (yes h) = ap stored_of (sub_pos n stored_zero h) ∙ omega arith
    by_sign (no h) = ap stored_of (sub_neg n stored_zero (omega arith)) ∙ omega arith

-- oxygen in range is stored as a number that is at least the demands and what a bed may take
stored_low : (demands n : ℕ) → of_ℕ demands ≼ of_ℤ (oxygen_of n) +ᶠ of_ℕ most_below → demands + loss_limit ≤ n
unfolding oxygen_of
stored_low demands n h =
    of_ℕ_reflect (demands + loss_limit) n
    (certify (of_ℕ demands ∷ of_ℕ n ∷ of_ℤ (sub_ℕ n stored_zero) ∷ []) (slack h ⊞ number 502_483_264 ⊞ multiple (of_ℕ 1) (≈_trans (of_ℤ-≈ (sym (minus n stored_zero))) (of_ℤ_sub (pos n) (pos stored_zero)))) (search quote depth 40 fits 9999) tt)

-- the river of flows that are ready
pub is_river : {cards : List Card} {flows : List ReachFlows} → Ready cards flows → IsRiver cards
is_river ready = record { lawful = ready.lawful; flows = ready.sound }

-- the sums of the feeders
demand_adds : (d : Demand) → Adds (demand_sum d) (λ card up. reach_flow card up * demand_at d card up foot)
unfolding demand_sum demand_at demand_at_head
demand_adds d = record { nothing = refl; plus = λ card up rest. refl }

oxygen_adds : AddsFlowTimes oxygen_sum (λ card up. oxygen_at card up foot)
unfolding oxygen_sum oxygen_at oxygen_at_head
oxygen_adds = record { nothing = refl; plus = λ card up rest. refl }

-- a demand in the figures of a reach
foot_figure_lem : (d : Demand) (card : Card) (up : Feeders) → foot_figure d (figures_of card up) ≡ demand_at d card up foot
unfolding figures_of demand_at
foot_figure_lem Bod card up = refl
foot_figure_lem Nitrogenous card up = refl

module _ {cards : List Card} {flows : List ReachFlows} {by_reach : List Brought} {i : ℕ} (ready : Ready cards flows) (f : BroughtTabled cards by_reach i) (l : i < length cards) where
  pub head_tabled : HeadTabled cards flows by_reach i
  head_tabled =
      record {
        lawful = ready.lawful;
        sound = ready.sound;
        within = l;
        tabled = ready.tabled;
        carried = f.carried;
      }

  outlets : (j : ℕ) → j < i → (flows_by flows j).outlet ≡ (get_or cards j blank).outlet
  outlets j k = ap (λ (r : ReachFlows). r.outlet) (ready.tabled.each j (omega arith))

  tables : brought_by_feeders flows by_reach i ≡ brought_among flows by_reach i (suc i)
  tables = brought_here head_tabled

  -- the tables add up to the sums of the feeders
  demand_table : (d : Demand) (part : Brought → ℕ) → ((flow : ℕ) (g : Figures) → part (brought_by_figures flow g) ≡ flow * foot_figure d g) → table_sum flows (λ j. part (brings_by by_reach j)) i (suc i) ≡ demand_sum d (above cards (suc i))
  demand_table d part h = sum_of_feeders (demand_adds d) table (suc i)
    where
      table : TableOf cards (λ card up. reach_flow card up * demand_at d card up foot) flows (λ j. part (brings_by by_reach j)) i
      table =
          record {
            outlet = outlets;
            value = λ j k. ap part (f.each j k) ∙ h _ _ ∙ ap (λ (n : ℕ). flow_at cards (suc j) * n) (foot_figure_lem d (get_or cards j blank) (feeders_among cards j (suc j)));
          }

  oxygen_table : StoredTable cards (λ card up. oxygen_at card up foot) (λ j. stored_of (figures_at cards (suc j)).foot_oxygen) flows (λ j. (brings_by by_reach j).oxygen) i
  unfolding figures_of oxygen_at
  oxygen_table =
      record {
        outlet = outlets;
        value = λ j k. ap (λ (b : Brought). b.oxygen) (f.each j k);
        oxygen = λ j k. stored_back _ (instant_in_range (is_river ready) j (omega arith) foot (le_refl foot)).oxygen_low;
      }

  pub used_table : (brought_by_feeders flows by_reach i).used ≡ used_above (above cards (suc i))
  used_table =
      ap (λ (b : Brought). b.used) tables
      ∙ any_of_feeders used_finds (record { outlet = outlets; value = λ j k. ap (λ (b : Brought). b.used) (f.each j k) }) (suc i)

  -- the head that these make is that of the reach
  module _ {h : Head} (of : HeadOf (card_of cards (suc i)) (fed (above cards (suc i))) (flow_of (above cards (suc i))) (brought_by_feeders flows by_reach i) h) where
    head_bod_lem : h.bod ≡ demand_at_head Bod (card_of cards (suc i)) (above cards (suc i))
    unfolding demand_at_head
    head_bod_lem = of.bod ∙ ap (head_demand (source_of Bod (card_of cards (suc i))) (fed (above cards (suc i))) (flow_of (above cards (suc i)))) (ap (λ (b : Brought). b.bod) tables ∙ demand_table Bod (λ b. b.bod) (λ flow g. refl))

    head_nitrogenous : h.nitrogenous ≡ demand_at_head Nitrogenous (card_of cards (suc i)) (above cards (suc i))
    unfolding demand_at_head
    head_nitrogenous = of.nitrogenous ∙ ap (head_demand (source_of Nitrogenous (card_of cards (suc i))) (fed (above cards (suc i))) (flow_of (above cards (suc i)))) (ap (λ (b : Brought). b.nitrogenous) tables ∙ demand_table Nitrogenous (λ b. b.nitrogenous) (λ flow g. refl))

    head_oxygen_lem : oxygen_of h.oxygen ≡ oxygen_at_head (card_of cards (suc i)) (above cards (suc i))
    unfolding oxygen_at_head
    head_oxygen_lem = of.oxygen ∙ ap (head_oxygen (card_of cards (suc i)) (fed (above cards (suc i))) (flow_of (above cards (suc i)))) (ap (λ (b : Brought). oxygen_sum_of (flow_of (above cards (suc i))) b.oxygen) tables ∙ oxygen_of_feeders oxygen_adds oxygen_table (suc i))

    -- it is in the ranges that a profile asks
    head_fits : HeadFits h
    head_fits =
        let r = head_in_range (is_river ready) i l in
        record {
          demands = rw (head_bod_lem, head_nitrogenous) r.demands_range;
          low = stored_low (h.bod + h.nitrogenous) h.oxygen (subst (λ (z : ℤ). of_ℕ (h.bod + h.nitrogenous) ≼ of_ℤ z +ᶠ of_ℕ most_below) (sym head_oxygen_lem) (rw (head_bod_lem, head_nitrogenous) r.demands_below));
        }

    pub head_of_reach : flow_at cards (suc i) * (h.bod + h.nitrogenous) ≤ 1000 * mass_at cards (suc i) → HeadOfReach cards i h
    head_of_reach mass = record { bod = head_bod_lem; nitrogenous = head_nitrogenous; oxygen = head_oxygen_lem; fits = head_fits; mass = mass }

-- what is handed on of a reach
module _ (site : Site) (p : Here site) where
  tabled : HeadTabled p.cards p.flows p.by_reach p.i
  tabled = head_tabled p.ready p.brought_tabled p.within

  pub flow_here : site.flows.flow ≡ flow_at p.cards (suc p.i)
  flow_here = p.flow_is ∙ ap (λ (r : ReachFlows). r.flow) (p.ready.tabled.each p.i p.within)

  depth_here : site.flows.depth ≡ depth_at p.cards (suc p.i)
  depth_here = p.depth_is ∙ ap (λ (r : ReachFlows). r.depth) (p.ready.tabled.each p.i p.within)

  pub used_here : site.brought.used ≡ used_above (above p.cards (suc p.i))
  used_here = rw p.brought_is (used_table p.ready p.brought_tabled p.within)

  -- what its head asks
  pub head_asked : HeadInput site.card (ltb 0 site.flows.upstream) site.flows.upstream site.brought
  head_asked = rw p.upstream_is (head_input tabled p.own refl p.brought_is)

  -- that head
  pub head_here : {h : Head} → HeadOf site.card (ltb 0 site.flows.upstream) site.flows.upstream site.brought h → HeadOfReach p.cards p.i h
  head_here {h} of =
      let at_tables : HeadOf site.card (ltb 0 (qu_by p.flows p.i)) (qu_by p.flows p.i) site.brought h = rw p.upstream_is at of in
      head_of_reach p.ready p.brought_tabled p.within (rw (p.brought_is, qu_here tabled, fed_here tabled, p.own) at at_tables)
      (head_within tabled p.own refl p.brought_is at_tables)

  -- a reach below its head in this river; `HeadBy` says it of every river that the site may be of, which is more to ask
  pub record ReachHere (reach : Reach) : Type 0 where
    pub card : reach.card ≡ site.card
    pub flow : reach.flow ≡ site.flows.flow
    pub depth : reach.depth ≡ site.flows.depth
    pub used : reach.used ≡ site.brought.used
    pub head : HeadOfReach p.cards p.i reach.head

  pub reach_here : {reach : Reach} → HeadBy site reach → ReachHere reach
  reach_here of = record { card = of.card; flow = of.flow; depth = of.depth; used = of.used; head = of.head p }

  module _ {reach : Reach} (of : ReachHere reach) where
    -- the figures below it are those of the reach
    pub figures_here : figures_of_reach reach ≡ figures_at p.cards (suc p.i)
    unfolding figures_of
    figures_here =
        let here = of.head in
        rw (of.used, used_here, of.card, p.own, of.depth, depth_here, of.flow, flow_here, here.bod, here.nitrogenous, here.oxygen) refl

    -- and so the line below it is that of the reach
    pub line_of_reach : (line : Line) → figures_in line ≡ figures_of_reach reach → LineOf p.cards p.i line
    line_of_reach line e =
        record {
          figures = e ∙ figures_here;
          mass = rw (ap (λ (f : Figures). f.head_bod) e, ap (λ (f : Figures). f.head_nitrogenous) e) of.head.mass;
        }

  pub line_ready : LineReady site.card site.flows.flow
  line_ready =
      let own = reach_accepted p.cards p.ready.lawful p.ready.sound p.i p.within in
      rw (p.own, flow_here) record { rates = rates_pass own; saturation = own.saturation; bed = bed_passes own }

  -- what a line says of its reach
  module _ {line : Line} (of : LineOf p.cards p.i line) where
    brings : brought_by site.flows.flow line.foot_bod line.foot_nitrogenous line.foot_oxygen (is_used line.status) ≡ brought_by_figures (flow_at p.cards (suc p.i)) (figures_at p.cards (suc p.i))
    brings =
        ap (λ (n : ℕ). brought_by n line.foot_bod line.foot_nitrogenous line.foot_oxygen (is_used line.status)) flow_here
        ∙ ap (λ (n : ℕ). brought_by (flow_at p.cards (suc p.i)) line.foot_bod line.foot_nitrogenous n (is_used line.status)) (sym (stored_of_lem line.foot_oxygen))
        ∙ ap (brought_by_figures (flow_at p.cards (suc p.i))) of.figures

    foot_falls : line.foot_bod + line.foot_nitrogenous ≤ line.head_bod + line.head_nitrogenous
    foot_falls =
        let t = falls (is_river p.ready) p.i p.within in
        let b : line.foot_bod ≤ line.head_bod = rw (ap (λ (f : Figures). f.foot_bod) of.figures, ap (λ (f : Figures). f.head_bod) of.figures) (t Bod) in
        let n : line.foot_nitrogenous ≤ line.head_nitrogenous = rw (ap (λ (f : Figures). f.foot_nitrogenous) of.figures, ap (λ (f : Figures). f.head_nitrogenous) of.figures) (t Nitrogenous) in
        omega (arith, b, n)

    -- what its foot brings, and its record
    pub reach_reported :
        (at : ℕ) (before after : List ℕ) {told : Brought} {used : Bool} →
        used ≡ is_used line.status →
        told ≡ brought_by site.flows.flow line.foot_bod line.foot_nitrogenous line.foot_oxygen used →
        line.foot_oxygen < 4_294_967_296 →
        after ≡ sets before at (encode_record (has_nitrification p.cards) (reported (figures_in line))) →
        ReachReported p.cards p.i at before after told
    reach_reported at before after status e fits r =
        record {
          hands_on =
              record {
                brings = e ∙ ap (brought_by site.flows.flow line.foot_bod line.foot_nitrogenous line.foot_oxygen) status ∙ brings;
                within = rw e (brought_within (line.head_bod + line.head_nitrogenous) line.foot_bod line.foot_nitrogenous flow_here foot_falls of.mass (omega arith));
              };
          report = r ∙ ap (λ (f : Figures). sets before at (encode_record (has_nitrification p.cards) (reported f))) of.figures;
        }

-- what the head of a site asks, and what the reach below it has, whatever river the site is of
dam_prop : (dam : Option Dam) (Qu : ℕ) → IsProp (DamWithin dam Qu)
dam_prop None Qu = Prim.hlevel props
dam_prop (Some d) Qu = Prim.hlevel props

module _ (site : Site) where
  pub site_asks : HeadInput site.card (ltb 0 site.flows.upstream) site.flows.upstream site.brought
  site_asks = ∥∥₁_elim site.here (Prim.hlevel (props, dam_prop site.card.dam site.flows.upstream)) (λ p. head_asked site p)

  pub site_ready : LineReady site.card site.flows.flow
  site_ready = ∥∥₁_elim site.here (Prim.hlevel props) (λ p. line_ready site p)

  pub site_fits : {h : Head} → HeadOf site.card (ltb 0 site.flows.upstream) site.flows.upstream site.brought h → HeadFits h
  site_fits of = ∥∥₁_elim site.here (Prim.hlevel props) (λ p. (head_here site p of).fits)

-- the tables with what one more reach brings
pub brought_next : {cards : List Card} {by_reach : List Brought} {i : ℕ} {brought : Brought} → i < 128 → BroughtTabled cards by_reach i → HandsOn cards i brought → BroughtTabled cards (set by_reach i brought) (i + 1)
brought_next {cards} {by_reach} {i} {brought} few f of =
    rw add-one
    record {
      each = entered_at by_reach i brought no_brought (λ j x. x ≡ brought_by_figures (flow_at cards (suc j)) (figures_at cards (suc j))) (rw f.carried.full few) of.brings f.each;
      carried = carried_next f.carried few of.within;
    }

-- nothing is entered yet
pub nothing_brought_yet : (cards : List Card) → BroughtTabled cards nothing_brought 0
nothing_brought_yet cards = record { each = λ j l. absurd (not-suc-le-zero l); carried = carried_none cards }
