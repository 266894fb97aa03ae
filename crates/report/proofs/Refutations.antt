-- Reports that the river file paper calls wrong stray by more than demand 3's distance, whatever else they say: proved for a river of two reaches,
-- at N = 40, by computing its exact figures.
use mathlib.Core.Path.{◌≡◌, refl}
use mathlib.Core.List.{List, [], ◌∷◌}
use Prim.Native.Nat.{ℕ, ◌≤◌}
use Rattle.std.specs.Prelude.{None}
use Rattle.decay.specs.Fraction.{Fraction, ◌≼◌, of_ℤ, ◌+ᶠ◌, -ᶠ◌, ◌-ᶠ◌, ◌*ᶠ◌, ◌÷◌, over}
use Rattle.decay.specs.Exact.{foot, exponent, power, factorial, term, sum, S, F}
use Rattle.decay.proofs.Algebra.{Within, within_sym, within_trans}
use Rattle.river.specs.declared.card.Card.{Card}
use Rattle.river.specs.Refusal.{accepted, need, after, choose}
use Rattle.river.specs.Card.{no_optionals, count_ok, in_range, outlet_ok, rates_in_range}
use Rattle.river.specs.River.{river_of}
use Rattle.flows.specs.Rates.{decay_in_force, aeration_in_force}
use Rattle.river.specs.Optional.{read_optional, read_optionals}
use Rattle.river.specs.Read.{read_file, read_rest, read_header, read_reaches, read_reach, card_at}
use Rattle.river.specs.Write.{encode}
use Rattle.flows.specs.Flow.{card_of, above, feeders_among, joined_if, fed, flow_of, mass_of, deepest, dam_fits, flow_check, checks_from, reach_checks}
use Rattle.flows.specs.Accept.{accept_file}
use Rattle.flows.specs.Saturation.{saturation_thousandths}
use Rattle.river.specs.declared.source.Demand.TheVariants.{Bod}
use Rattle.report.specs.Record.{is_nitrified, has_nitrification, Figures}
use Rattle.report.specs.Recurrence.{exact_saturation, exact_mean, exact_below_dam, exact_mixed_demand, exact_mixed_oxygen, exact_head_demand, exact_head_oxygen, exact_demand_along, exact_turned_along, exact_loss, exact_oxygen_along, exact_demand_sum, exact_demand_at_head, exact_oxygen_at_head, exact_demand_at, exact_oxygen_at}
use Rattle.report.specs.Distance.{has_bed, step_units, allowance_at, WithinAllowance}
use Rattle.report.proofs.Distances.{first_of_two, last_of_three}

-- the reach of the river file paper's bench values, by outlet and inflow
abbrev reach : (outlet inflow : ℕ) → Card
reach outlet inflow =
    record {
      outlet = outlet;
      temperature = 0;
      k1 = 1000;
      k2 = 1000;
      volume = 864000;
      inflow = inflow;
      inflow_bod = 10000;
      inflow_oxygen = 14652;
      load = 0;
      dam = None;
      optionals = no_optionals;
    }

-- that reach, and below it as long a one with no inflow of its own
abbrev pub two : List Card
two = reach 2 10000 ∷ reach 0 0 ∷ []

accepted_two : accept_file (encode (river_of None two)) ≡ accepted two
unfolding decay_in_force aeration_in_force rates_in_range accept_file encode read_file read_rest read_header read_reaches read_reach read_optionals read_optional card_at count_ok in_range outlet_ok need after choose flow_check checks_from reach_checks dam_fits feeders_among joined_if fed flow_of mass_of
accepted_two = refl

abbrev allowed : ℕ → Fraction
allowed i = allowance_at two i

-- the figures are within the allowance of reach i
abbrev pub NearReach : ℕ → Figures → Type 0
NearReach i f = WithinAllowance 40 (card_of two i) (above two i) f (allowed i)

abbrev head_bod : ℕ → Fraction
head_bod i = exact_demand_at_head 40 Bod (card_of two i) (above two i)

-- the exact figures, computed, lie further apart than the allowances together
record Apart : Type 0 where
  head_foot_bod : head_bod 1 -ᶠ exact_demand_at 40 Bod (card_of two 1) (above two 1) foot ≼ allowed 1 +ᶠ allowed 1 → ⊥
  head_foot_oxygen :
      exact_oxygen_at_head 40 (card_of two 1) (above two 1) -ᶠ exact_oxygen_at 40 (card_of two 1) (above two 1) foot ≼ allowed 1 +ᶠ allowed 1 → ⊥
  heads : head_bod 1 -ᶠ head_bod 2 ≼ allowed 1 +ᶠ allowed 2 → ⊥

apart : Apart
unfolding of_ℤ ◌+ᶠ◌ -ᶠ◌ ◌*ᶠ◌ ◌÷◌ over exponent power factorial term sum S F feeders_among joined_if fed flow_of deepest is_nitrified has_nitrification has_bed step_units saturation_thousandths exact_saturation exact_mean exact_below_dam exact_mixed_demand exact_mixed_oxygen exact_head_demand exact_head_oxygen exact_demand_along exact_turned_along exact_loss exact_oxygen_along exact_demand_sum exact_demand_at_head exact_oxygen_at_head exact_demand_at exact_oxygen_at
apart = record { head_foot_bod = λ h. h.across.le; head_foot_oxygen = λ h. h.across.le; heads = λ h. h.across.le }

-- values that are near one figure are no further apart than the allowances together
between : {x a b e f : Fraction} → Within x a e → Within x b f → a -ᶠ b ≼ e +ᶠ f
between v w = (within_trans (within_sym v) w).high

-- THEOREM: no report that copies head BOD to the foot is within the allowance
pub copied_bod : (f : Figures) → f.foot_bod ≡ f.head_bod → NearReach 1 f → ⊥
copied_bod f e w = apart.head_foot_bod (between (first_of_two _ _ w.demands_at_head) (rw e at (first_of_two _ _ w.demands_at_foot)))

-- THEOREM: none of status 0 or 1 that copies head oxygen to the foot
pub copied_oxygen : (f : Figures) → f.status ≤ 1 → f.foot_oxygen ≡ f.head_oxygen → NearReach 1 f → ⊥
copied_oxygen f s e w =
    let o = w.oxygen s in
    apart.head_foot_oxygen (between (last_of_three _ _ _ _ o.at_head) (rw e at (last_of_three _ _ _ _ o.at_foot)))

-- THEOREM: none that works the first reach and repeats it
pub repeated : (f : Figures) → NearReach 1 f → NearReach 2 f → ⊥
repeated f v w = apart.heads (between (first_of_two _ _ v.demands_at_head) (first_of_two _ _ w.demands_at_head))
