-- The bench values of the river file paper that are to be proved, gathered as rows of one theorem: those of files, rates, flows and heads, the two lines of
-- the printing program's example, the second of them below a dam, also at 700 mm, both with takes, and both with nitrogenous BOD; statuses and means.
use mathlib.Core.Path.{◌≡◌, refl, sym, ◌∙◌, ap}
use mathlib.Core.Bool.{true, false}
use mathlib.Core.List.{List, [], ◌∷◌}
use Prim.Native.Nat.{ℕ, ◌+◌, ◌-◌, ◌*◌, ◌<◌, ◌≤◌}
use native.Mathlib.Omega.{arith}
use lib.Dec.{leb-suc-zero}
use lib.IntN.{ℤ, pos, ◌+ℤ◌, ◌*ℤ◌}
use lib.ListN.{take}
use Rattle.std.specs.Prelude.{Option, Some, None}
use Rattle.river.specs.declared.card.Dam.{Dam}
use Rattle.river.specs.declared.card.Nitrification.{Nitrification}
use Rattle.river.specs.declared.card.Card.{Card}
use Rattle.river.specs.declared.source.Demand.{Demand}
use Rattle.river.specs.declared.source.Demand.TheVariants.{Bod, Nitrogenous}
use Rattle.river.specs.Card.{no_optionals, with_take, with_nitrification, amount_or}
use Rattle.river.specs.Described.{InRange}
use Rattle.river.specs.Records.{DM}
use Rattle.river.specs.Source.{nitrogenous_source, nitrogenous_rate, source_of, rate_of, source_mass}
use Rattle.flows.specs.Flow.{Feeders, none, more, joined_if, feeders_among, card_of, above, fed, flow_of, mass_of, deepest, sludge_of, reach_flow, reach_depth, DamRule}
use Rattle.flows.specs.Saturation.{saturation, saturation_thousandths, saturation_of, SaturationInRange}
use Rattle.flows.specs.Head.{floor, upstream_demand, upstream_oxygen, aerated, below_dam, mixed_demand, head_demand, head_oxygen}
use Rattle.flows.proofs.flow.Take.{mass_within}
use Rattle.river.proofs.Bench.{reach, second, two, hilly, FileRows, bench as file_bench}
use Rattle.flows.proofs.Bench.{drawn, FlowRows, bench as flow_bench}
use Rattle.report.specs.Status.{status_by, is_used, used_by, shown_number, shown_oxygen, reported}
use Rattle.report.specs.Program.{figures_of, reported_at, demand_sum, oxygen_sum, demand_at_head, oxygen_at_head, demand_at, oxygen_at, critical_oxygen, used_above, foot}
use Rattle.report.specs.Record.{is_nitrified, has_nitrification, plain_bytes, encode_plain, encode_record, record_size, Figures}
use Rattle.report.specs.Report.{record_of}
use Rattle.decay.specs.Fraction.{◌≼◌, of_ℕ, of_ℤ, distance}
use Rattle.report.specs.Distance.{allowance_at}
use Rattle.report.specs.ExactMean.{exact_mean_oxygen}
use Rattle.report.specs.Mean.{mean_at}
use Rattle.report.proofs.status.Rows.{StatusRows, status_rows}
use Rattle.report.proofs.mean.Rows.{MeanRows, mean_rows, Constant, constant, UsedUp, used_up}
use Rattle.report.proofs.MeanRefutation.{all_values, own_mean, own_mean_near, rounded_mean_strays}
use Rattle.report.proofs.Refutations.{two as equal}
use Rattle.report.proofs.Forest.{AcceptedReach}
use Rattle.report.proofs.Ties.{reach_demand_stays, reach_oxygen_stays, reach_critical_stays, still_figures}
use Rattle.report.proofs.record.Encoding.{plain_first}

-- the dam of the example, share 500 and generating flow 1,000
abbrev weir : Option Dam
weir = Some (record { share = 500; generating = 1000 })

-- reach 1 by its take and its nitrification, and what flows into reach 2
abbrev upper : Option ℕ → Option Nitrification → Card
upper take nitrification = reach 2 0 1000 3000 2000 8000 0 None (with_take take (with_nitrification nitrification no_optionals))

abbrev feeders : Option ℕ → Option Nitrification → Feeders
feeders take nitrification = more (upper take nitrification) none none

-- a nitrification of rate 0 that brings little
record Still (nitrification : Option Nitrification) : Type 0 where
  rate : nitrogenous_rate nitrification ≡ 0
  few : source_mass (nitrogenous_source 3000 nitrification) ≤ 1000000000

idle : Still None
idle = record { rate = refl; few = omega arith }

zeros : Still (Some (record { rate = 0; concentration = 0; load = 0 }))
zeros = record { rate = refl; few = omega arith }

laden_still : Still (Some (record { rate = 0; concentration = 4000; load = 0 }))
laden_still = record { rate = refl; few = omega arith }

-- nothing decays in these reaches
upper_keeps : (take : Option ℕ) (nitrification : Option Nitrification) → Still nitrification → (d : Demand) → rate_of d (upper take nitrification) * 1000 ≡ 0
upper_keeps take nitrification still Bod = refl
upper_keeps take nitrification still Nitrogenous = rw still.rate

second_keeps : (dam : Option Dam) (take pressure : Option ℕ) (d : Demand) → rate_of d (second dam take pressure) * 1000 ≡ 0
second_keeps dam take pressure Bod = refl
second_keeps dam take pressure Nitrogenous = refl

accepted_first : (take : Option ℕ) (nitrification : Option Nitrification) → Still nitrification → amount_or 0 take < 3000 → AcceptedReach (upper take nitrification) none
unfolding flow_of mass_of DamRule
accepted_first take nitrification still h =
    record {
      fields = omega arith;
      saturation = omega arith;
      dam = tt;
      sludge = omega arith;
      flows =
          record {
            flowing = omega arith;
            bounded = omega arith;
            dam_rule = tt;
            mass_rule = omega (arith, still.few);
            take_rule = h;
            range_rule = omega (arith, upper_keeps take nitrification still Nitrogenous);
            decay_rule = omega arith;
            aeration_rule = omega arith;
            nitrification_rule = omega (arith, upper_keeps take nitrification still Nitrogenous);
            bed_rule = omega arith;
          };
    }

accepted_second : (dam : Option Dam) (take pressure : Option ℕ) {up : Feeders} → SaturationInRange (second dam take pressure) → InRange DM dam → DamRule dam up → flow_of up ≤ 3000 → mass_of up ≤ 1000000 * flow_of up → amount_or 0 take ≤ 1000 → 0 < flow_of up → AcceptedReach (second dam take pressure) up
accepted_second dam take pressure conditions h k few within drawn_few some =
    record {
      fields = omega arith;
      saturation = conditions;
      dam = h;
      sludge = omega arith;
      flows =
          record {
            flowing = omega arith;
            bounded = omega arith;
            dam_rule = k;
            mass_rule = omega arith;
            take_rule = omega arith;
            range_rule = omega arith;
            decay_rule = omega arith;
            aeration_rule = omega arith;
            nitrification_rule = omega arith;
            bed_rule = omega arith;
          };
    }

-- reach 2: plain below any reach 1, with a take, and with a dam at any pressure
accepted_open : (take : Option ℕ) (nitrification : Option Nitrification) → Still nitrification → amount_or 0 take < 3000 → AcceptedReach (second None None None) (feeders take nitrification)
unfolding DamRule flow_of mass_of
accepted_open take nitrification still h =
    accepted_second None None None (omega arith) tt tt (omega arith) (omega (arith, mass_within (accepted_first take nitrification still h).flows)) (omega arith) (omega arith)

accepted_drawn : AcceptedReach (second None (Some 1000) None) (feeders None None)
unfolding DamRule flow_of mass_of
accepted_drawn = accepted_second None (Some 1000) None (omega arith) tt tt (omega arith) (omega arith) (omega arith) (omega arith)

accepted_weir : (pressure : Option ℕ) → SaturationInRange (second weir None pressure) → AcceptedReach (second weir None pressure) (feeders None None)
unfolding DamRule fed flow_of mass_of
accepted_weir pressure conditions = accepted_second weir None pressure conditions (omega arith) (refl, omega arith) (omega arith) (omega arith) (omega arith) (omega arith)

-- the figures of a line where nothing changes along the reach, and oxygen is not used up there or above
abbrev line : (depth flow bod oxygen nitrogenous : ℕ) → Figures
line depth flow bod oxygen nitrogenous =
    record {
      depth = depth;
      flow = flow;
      head_bod = bod;
      foot_bod = bod;
      head_oxygen = pos oxygen;
      critical_instant = 0;
      critical_oxygen = pos oxygen;
      foot_oxygen = pos oxygen;
      status = 0;
      head_nitrogenous = nitrogenous;
      foot_nitrogenous = nitrogenous;
    }

-- nitrogenous BOD that a nitrification brings to the water of reach 1
abbrev brought : Option Nitrification → ℕ
brought nitrification = mixed_demand (nitrogenous_source 3000 nitrification) 0 0

record HeadIs (card : Card) (up : Feeders) (bod oxygen nitrogenous : ℕ) : Type 0 where
  bod_is : demand_at_head Bod card up ≡ bod
  nitrogenous_is : demand_at_head Nitrogenous card up ≡ nitrogenous
  oxygen_is : oxygen_at_head card up ≡ pos oxygen

head_1 : (take : Option ℕ) (nitrification : Option Nitrification) → HeadIs (upper take nitrification) none 2000000 8000000 (brought nitrification)
unfolding demand_at_head oxygen_at_head demand_sum oxygen_sum fed flow_of head_demand head_oxygen upstream_demand upstream_oxygen below_dam aerated floor
head_1 take nitrification = record { bod_is = refl; nitrogenous_is = refl; oxygen_is = refl }

-- what reach 1 hands down, by the flow after its take
record FootIs (take : Option ℕ) (nitrification : Option Nitrification) : Type 0 where
  bod_is : demand_sum Bod (feeders take nitrification) ≡ (3000 - amount_or 0 take) * 2000000 + 0
  nitrogenous_is : demand_sum Nitrogenous (feeders take nitrification) ≡ (3000 - amount_or 0 take) * brought nitrification + 0
  oxygen_is : oxygen_sum (feeders take nitrification) ≡ pos (3000 - amount_or 0 take) *ℤ pos 8000000 +ℤ pos 0

foot_1 : (take : Option ℕ) (nitrification : Option Nitrification) → Still nitrification → amount_or 0 take < 3000 → FootIs take nitrification
unfolding demand_sum oxygen_sum flow_of demand_at oxygen_at demand_at_head oxygen_at_head
foot_1 take nitrification still h =
    let Q = 3000 - amount_or 0 take in
    let own = accepted_first take nitrification still h in
    let keeps = upper_keeps take nitrification still in
    record {
      bod_is = ap (λ (b : ℕ). Q * b + 0) (reach_demand_stays own Bod (keeps Bod) foot ∙ (head_1 take nitrification).bod_is);
      nitrogenous_is = ap (λ (b : ℕ). Q * b + 0) (reach_demand_stays own Nitrogenous (keeps Nitrogenous) foot ∙ (head_1 take nitrification).nitrogenous_is);
      oxygen_is = ap (λ (o : ℤ). pos Q *ℤ o +ℤ pos 0) (reach_oxygen_stays own keeps refl refl foot ∙ (head_1 take nitrification).oxygen_is);
    }

-- critical oxygen of reach 1 is that of its head, so that oxygen is not used up there
critical_1 : (take : Option ℕ) (nitrification : Option Nitrification) → Still nitrification → amount_or 0 take < 3000 → critical_oxygen (upper take nitrification) none ≡ pos 8000000
critical_1 take nitrification still h =
    reach_critical_stays (accepted_first take nitrification still h) (upper_keeps take nitrification still) refl refl ∙ (head_1 take nitrification).oxygen_is

ordinary_1 : (take : Option ℕ) (nitrification : Option Nitrification) → Still nitrification → amount_or 0 take < 3000 → used_above (feeders take nitrification) ≡ false
unfolding used_by status_by is_used
ordinary_1 take nitrification still h = rw (critical_1 take nitrification still h)

-- the head of reach 2, by the take of reach 1
module _ (dam : Option Dam) (take pressure upper_take : Option ℕ) (nitrification : Option Nitrification) (still : Still nitrification) (h : amount_or 0 upper_take < 3000) where
  head_2 : {bod oxygen nitrogenous : ℕ} → head_demand (source_of Bod (second dam take pressure)) true (flow_of (feeders upper_take nitrification)) ((3000 - amount_or 0 upper_take) * 2000000 + 0) ≡ bod → head_demand (source_of Nitrogenous (second dam take pressure)) true (flow_of (feeders upper_take nitrification)) ((3000 - amount_or 0 upper_take) * brought nitrification + 0) ≡ nitrogenous → head_oxygen (second dam take pressure) true (flow_of (feeders upper_take nitrification)) (pos (3000 - amount_or 0 upper_take) *ℤ pos 8000000 +ℤ pos 0) ≡ pos oxygen → HeadIs (second dam take pressure) (feeders upper_take nitrification) bod oxygen nitrogenous
  unfolding demand_at_head oxygen_at_head fed
  head_2 b n o =
      let f = foot_1 upper_take nitrification still h in
      record {
        bod_is = rw f.bod_is b;
        nitrogenous_is = rw f.nitrogenous_is n;
        oxygen_is = rw f.oxygen_is o;
      }

-- the line of a reach that keeps its figures
still_line : {card : Card} {up : Feeders} {bod oxygen nitrogenous : ℕ} → AcceptedReach card up → ((d : Demand) → rate_of d card * card.volume ≡ 0) → card.k2 * card.volume ≡ 0 → sludge_of card * card.volume ≡ 0 → used_above up ≡ false → HeadIs card up bod oxygen nitrogenous → reported (figures_of card up) ≡ line (reach_depth up) (reach_flow card up) bod oxygen nitrogenous
unfolding status_by shown_number shown_oxygen
still_line {oxygen} own h k s ordinary is =
    ap reported (still_figures own h k s ∙ rw (ordinary, is.bod_is, is.nitrogenous_is, is.oxygen_is, leb-suc-zero oxygen))

-- the first line, with no take there, by its nitrification
first_line : (nitrification : Option Nitrification) → Still nitrification → reported (figures_of (upper None nitrification) none) ≡ line 1 3000 2000000 8000000 (brought nitrification)
unfolding flow_of deepest used_by
first_line nitrification still =
    still_line (accepted_first None nitrification still (omega arith)) (upper_keeps None nitrification still) refl refl refl (head_1 None nitrification)

-- the second line, with no take or dam, by the nitrification of reach 1
second_line : (nitrification : Option Nitrification) {nitrogenous : ℕ} → Still nitrification → head_demand (source_of Nitrogenous (second None None None)) true 3000 (3000 * brought nitrification + 0) ≡ nitrogenous → reported (figures_of (second None None None) (feeders None nitrification)) ≡ line 2 4000 9000000 6500000 nitrogenous
unfolding fed flow_of deepest head_demand head_oxygen upstream_demand upstream_oxygen below_dam aerated floor
second_line nitrification still e =
    still_line (accepted_open None nitrification still (omega arith)) (second_keeps None None None) refl refl (ordinary_1 None nitrification still (omega arith))
    (head_2 None None None None nitrification still (omega arith) {oxygen = 6500000} refl e refl)

-- the line below the dam, by the pressure there
weir_line : (pressure : Option ℕ) {oxygen : ℕ} → SaturationInRange (second weir None pressure) → head_oxygen (second weir None pressure) true 3000 (pos 3000 *ℤ pos 8000000 +ℤ pos 0) ≡ pos oxygen → reported (figures_of (second weir None pressure) (feeders None None)) ≡ line 2 4000 9000000 oxygen 0
unfolding flow_of deepest head_demand upstream_demand
weir_line pressure conditions e =
    still_line (accepted_weir pressure conditions) (second_keeps weir None pressure) refl refl (ordinary_1 None None idle (omega arith))
    (head_2 weir None pressure None None idle (omega arith) refl refl e)

-- the second line below a take of reach 1, and with one of its own
below_take : reported (figures_of (second None None None) (feeders (Some 1000) None)) ≡ line 2 3000 11333333 6000000 0
unfolding fed flow_of deepest head_demand head_oxygen upstream_demand upstream_oxygen below_dam aerated floor
below_take =
    still_line (accepted_open (Some 1000) None idle (omega arith)) (second_keeps None None None) refl refl (ordinary_1 (Some 1000) None idle (omega arith))
    (head_2 None None None (Some 1000) None idle (omega arith) {oxygen = 6000000} refl refl refl)

own_take : reported (figures_of (second None (Some 1000) None) (feeders None None)) ≡ line 2 3000 9000000 6500000 0
unfolding fed flow_of deepest head_demand head_oxygen upstream_demand upstream_oxygen below_dam aerated floor
own_take =
    still_line accepted_drawn (second_keeps None (Some 1000) None) refl refl (ordinary_1 None None idle (omega arith))
    (head_2 None (Some 1000) None None None idle (omega arith) {oxygen = 6500000} refl refl refl)

-- upstream oxygen of the second reach
abbrev upstream : Feeders → ℤ
upstream up = upstream_oxygen (fed up) (flow_of up) (oxygen_sum up)

-- oxygen below the dam, by the pressure there
below_weir : (pressure : Option ℕ) {oxygen : ℕ} → below_dam (second weir None pressure) true 3000 (upstream_oxygen true 3000 (pos 3000 *ℤ pos 8000000 +ℤ pos 0)) ≡ pos oxygen → below_dam (second weir None pressure) (fed (feeders None None)) (flow_of (feeders None None)) (upstream (feeders None None)) ≡ pos oxygen
unfolding fed flow_of
below_weir pressure e =
    ap (λ (sum : ℤ). below_dam (second weir None pressure) true 3000 (upstream_oxygen true 3000 sum)) (foot_1 None None idle (omega arith)).oxygen_is ∙ e

-- the two reaches with a nitrification at the first
abbrev pub laden : Option Nitrification → List Card
laden nitrification = upper None nitrification ∷ second None None None ∷ []

-- the `RP` record of a record with an `RN` record is the record without
plain_bytes_lem : {f g : Figures} → f ≡ g → take plain_bytes (encode_record true f) ≡ encode_record false g
unfolding encode_record encode_plain
plain_bytes_lem {f} e = plain_first true f ∙ ap encode_plain e

-- one theorem, a row each
pub record ReportRows : Type 0 where
  pub files : FileRows
  pub flows_and_heads : FlowRows
  -- statuses, and what is reported at each
  pub statuses : StatusRows
  -- means: weighted by volume, of the example, whose oxygen does not change, where oxygen is used up, and of the reach whose rates are equal
  pub weighted : MeanRows
  pub constant_means : Constant
  pub used_up_means : UsedUp
  pub own_mean : mean_at equal 1 ≡ pos 12009589
  pub near_the_exact : distance (of_ℤ (mean_at equal 1)) (exact_mean_oxygen 40 (card_of equal 1) (above equal 1)) ≼ of_ℕ 1
  pub mean_of_values_strays : distance (of_ℤ (floor all_values 1_025)) (exact_mean_oxygen 40 (card_of equal 1) (above equal 1)) ≼ allowance_at equal 1 → ⊥
  pub line_1 : reported_at (two None) 1 ≡ line 1 3000 2000000 8000000 0
  pub line_2 : reported_at (two None) 2 ≡ line 2 4000 9000000 6500000 0
  pub below_dam_lem : below_dam (second weir None None) (fed (above (two weir) 2)) (flow_of (above (two weir) 2)) (upstream (above (two weir) 2)) ≡ pos 8340602
  pub line_dam : reported_at (two weir) 2 ≡ line 2 4000 9000000 6755451 0
  -- the dam at 700 mm
  pub hilly_below_dam : below_dam (second weir None (Some 700)) (fed (above (hilly (Some 700)) 2)) (flow_of (above (hilly (Some 700)) 2)) (upstream (above (hilly (Some 700)) 2)) ≡ pos 8103186
  pub hilly_line_1 : reported_at (hilly (Some 700)) 1 ≡ line 1 3000 2000000 8000000 0
  pub hilly_line_2 : reported_at (hilly (Some 700)) 2 ≡ line 2 4000 9000000 6577389 0
  -- with a take of 1,000 at reach 1, and at reach 2 instead
  pub drawn_1_line_1 : reported_at (drawn (Some 1000) None) 1 ≡ line 1 2000 2000000 8000000 0
  pub drawn_1_line_2 : reported_at (drawn (Some 1000) None) 2 ≡ line 2 3000 11333333 6000000 0
  pub drawn_2_line_1 : reported_at (drawn None (Some 1000)) 1 ≡ line 1 3000 2000000 8000000 0
  pub drawn_2_line_2 : reported_at (drawn None (Some 1000)) 2 ≡ line 2 3000 9000000 6500000 0
  -- with nitrogenous BOD of 4 mg/L at reach 1, which reach 2 carries and adds none to; each line is that without and two numbers more
  pub laden_line_1 : reported_at (laden (Some (record { rate = 0; concentration = 4000; load = 0 }))) 1 ≡ line 1 3000 2000000 8000000 4000000
  pub laden_line_2 : reported_at (laden (Some (record { rate = 0; concentration = 4000; load = 0 }))) 2 ≡ line 2 4000 9000000 6500000 3000000
  -- a nitrification of zeros makes the records longer, and leaves their `RP` records as they are
  pub plain_size : record_size (two None) ≡ 30
  pub zeros_size : record_size (laden (Some (record { rate = 0; concentration = 0; load = 0 }))) ≡ 40
  pub zeros_1 : take plain_bytes (record_of (laden (Some (record { rate = 0; concentration = 0; load = 0 }))) 0) ≡ record_of (two None) 0
  pub zeros_2 : take plain_bytes (record_of (laden (Some (record { rate = 0; concentration = 0; load = 0 }))) 1) ≡ record_of (two None) 1

-- THEOREM: the bench values of the paper that are to be proved, a row each
pub bench : ReportRows
unfolding feeders_among joined_if flow_of deepest head_demand head_oxygen upstream_demand upstream_oxygen below_dam aerated floor saturation saturation_thousandths saturation_of is_nitrified has_nitrification used_by
bench =
    record {
      files = file_bench;
      flows_and_heads = flow_bench;
      statuses = status_rows;
      weighted = mean_rows;
      constant_means = constant;
      used_up_means = used_up;
      own_mean = own_mean;
      near_the_exact = own_mean_near;
      mean_of_values_strays = rounded_mean_strays;
      line_1 = first_line None idle;
      line_2 = second_line None idle refl;
      below_dam_lem = below_weir None refl;
      line_dam = weir_line None (omega arith) refl;
      hilly_below_dam = below_weir (Some 700) refl;
      hilly_line_1 = first_line None idle;
      hilly_line_2 = weir_line (Some 700) (omega arith) refl;
      drawn_1_line_1 = still_line (accepted_first (Some 1000) None idle (omega arith)) (upper_keeps (Some 1000) None idle) refl refl refl (head_1 (Some 1000) None);
      drawn_1_line_2 = below_take;
      drawn_2_line_1 = first_line None idle;
      drawn_2_line_2 = own_take;
      laden_line_1 = first_line (Some (record { rate = 0; concentration = 4000; load = 0 })) laden_still;
      laden_line_2 = second_line (Some (record { rate = 0; concentration = 4000; load = 0 })) laden_still refl;
      plain_size = refl;
      zeros_size = refl;
      zeros_1 = plain_bytes_lem (first_line (Some (record { rate = 0; concentration = 0; load = 0 })) zeros ∙ sym (first_line None idle));
      zeros_2 = plain_bytes_lem (second_line (Some (record { rate = 0; concentration = 0; load = 0 })) zeros refl ∙ sym (second_line None idle refl));
    }
