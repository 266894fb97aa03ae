-- What holds of each reach of a river that reading and the flow check accept: ranges, ties and demand 3.
-- Place i holds reach number i + 1.
use mathlib.Core.Path.{◌≡◌, refl, sym, subst, ◌∙◌}
use mathlib.Core.Logic.{◌⊎◌, inl, inr}
use mathlib.Core.List.{List}
use Prim.Native.Nat.{ℕ, suc, ◌*◌, ◌≤◌, ◌<◌, zero-le}
use native.Mathlib.Nat.{le_of_lt, le_refl, zero-mul, mul-zero}
use native.Mathlib.Omega.{arith}
use lib.ListN.{length}
use lib.IntN.{ℤ, pos}
use lib.Signed.{◌≤ℤ◌, ◌<ℤ◌}
use Rattle.river.specs.declared.card.Card.{Card}
use Rattle.river.specs.Bytes.{AreBytes}
use Rattle.river.specs.Card.{Lawful}
use Rattle.river.specs.Refusal.{accepted}
use Rattle.river.specs.declared.source.Demand.{Demand}
use Rattle.river.specs.declared.source.Demand.TheVariants.{Bod, Nitrogenous}
use Rattle.river.specs.Source.{rate_of}
use Rattle.river.specs.River.{River}
use Rattle.flows.specs.Rates.{in_force}
use Rattle.river.specs.Read.{read_file}
use Rattle.flows.specs.Flow.{card_of, above, sludge_of, Flows, flow_check}
use Rattle.river.proofs.Answers.{after_accepted}
use Rattle.flows.proofs.flow.FlowCheck.{flows_of_accepted, accepted_of_flows}
use Rattle.flows.proofs.Acceptance.{accepts_exactly, accepted_lawful}
use Rattle.report.specs.Program.{oxygen_at_head, demand_at, oxygen_at, used_above, figures_at, figures_of, reported_at, lowest, foot}
use Rattle.report.specs.Distance.{allowance_at, WithinAllowance}
use Rattle.report.specs.Record.{Figures}
use Rattle.report.specs.Ties.{NoDecay, NoChange, head_figure, foot_figure, OxygenTied, Tied}
use Rattle.report.proofs.Forest.{AcceptedReach, AllAccepted, reach_accepted, above_accepted, reach_shallow}
use Rattle.report.proofs.Bounds.{demands_at_head, demands_at, Range, head_range, instant_range}
use Rattle.report.proofs.Ties.{demand_at_most_head, reach_demand_stays, reach_oxygen_stays, oxygen_at_head_lem}
use Rattle.report.proofs.Lowest.{lowest_first}
use Rattle.report.proofs.Statuses.{reported_same, reported_blank, status_at_most, status_zero, status_one}
use Rattle.report.proofs.Distances.{without_last}
use Rattle.report.proofs.Demand3.{demand_3}
use Rattle.flows.specs.Accept.{accept_file}

-- the river of an accepted file
pub record IsRiver (cards : List Card) : Type 0 where
  pub lawful : Lawful cards
  pub flows : Flows cards

pub river_of_file : (file : List ℕ) {cards : List Card} → AreBytes file → accept_file file ≡ accepted cards → IsRiver cards
river_of_file file {cards} bytes e =
    let a = (accepts_exactly file cards bytes).0 e in
    record { lawful = accepted_lawful a; flows = a.flows }

-- its cards are those of the river that is read, with the rates in force
pub cards_of_file : (file : List ℕ) {cards : List Card} {r : River} → accept_file file ≡ accepted cards → read_file file ≡ accepted r → cards ≡ in_force r
unfolding accept_file
cards_of_file file {cards} {r} e read =
    let checked : flow_check (in_force r) ≡ accepted cards = sym (after_accepted _ _ read) ∙ e in
    let all = accepted_of_flows (flows_of_accepted checked) in
    cc

-- a rate of 0, or volume 0, makes the exponent 0
no_rate : {k volume : ℕ} → (k ≡ 0) ⊎ (volume ≡ 0) → k * volume ≡ 0
no_rate {k} {volume} (inl e) = rw (e, zero-mul)
no_rate {k} {volume} (inr e) = rw (e, mul-zero)

pub no_decay : (card : Card) → NoChange card → (d : Demand) → rate_of d card * card.volume ≡ 0
no_decay card (inl (h, n, k, s)) Bod = no_rate (inl h)
no_decay card (inl (h, n, k, s)) Nitrogenous = no_rate (inl n)
no_decay card (inr h) d = no_rate (inr h)

pub no_aeration : (card : Card) → NoChange card → card.k2 * card.volume ≡ 0
no_aeration card (inl (h, n, k, s)) = no_rate (inl k)
no_aeration card (inr h) = no_rate (inr h)

pub no_demand : (card : Card) → NoChange card → sludge_of card * card.volume ≡ 0
no_demand card (inl (h, n, k, s)) = no_rate (inl s)
no_demand card (inr h) = no_rate (inr h)

module _ {cards : List Card} (river : IsRiver cards) (i : ℕ) (l : i < length cards) where
  -- it and all above it are accepted
  pub own : AcceptedReach (card_of cards (suc i)) (above cards (suc i))
  own = reach_accepted cards river.lawful river.flows i l

  pub water : AllAccepted (above cards (suc i))
  water = above_accepted cards river.lawful river.flows i (suc i) (le_of_lt l)

  -- the demands together from 0 to 1,000,000,000 and oxygen from -1,640,000,384 to 20,000,128, and no more than 1,640,000,384 below them
  pub head_in_range : Range (demands_at_head (card_of cards (suc i)) (above cards (suc i))) (oxygen_at_head (card_of cards (suc i)) (above cards (suc i)))
  head_in_range = head_range own water (reach_shallow cards river.lawful river.flows i l)

  pub instant_in_range : (m : ℕ) → m ≤ foot → Range (demands_at (card_of cards (suc i)) (above cards (suc i)) m) (oxygen_at (card_of cards (suc i)) (above cards (suc i)) m)
  instant_in_range m h = instant_range own water (reach_shallow cards river.lawful river.flows i l) m h

  -- each demand at the foot, as it is reported
  pub falls : (d : Demand) → foot_figure d (reported_at cards (suc i)) ≤ head_figure d (reported_at cards (suc i))
  unfolding figures_of demand_at
  falls Bod = demand_at_most_head own Bod foot
  falls Nitrogenous = demand_at_most_head own Nitrogenous foot

  kept : (d : Demand) → NoDecay d (card_of cards (suc i)) → foot_figure d (reported_at cards (suc i)) ≡ head_figure d (reported_at cards (suc i))
  unfolding figures_of demand_at
  kept Bod h = reach_demand_stays own Bod (no_rate h) foot
  kept Nitrogenous h = reach_demand_stays own Nitrogenous (no_rate h) foot

  -- the ties of oxygen and the critical point, at every status
  oxygen_tied : OxygenTied (card_of cards (suc i)) (oxygen_at (card_of cards (suc i)) (above cards (suc i))) (figures_at cards (suc i))
  unfolding figures_of oxygen_at
  oxygen_tied =
      let card = card_of cards (suc i) in
      let up = above cards (suc i) in
      let c = lowest_first (oxygen_at card up) foot in
      let head = oxygen_at_head_lem card up in
      record {
        oxygen_kept = λ h m l. reach_oxygen_stays own (no_decay card h) (no_aeration card h) (no_demand card h) m;
        at_head = head;
        at_foot = refl;
        critical = c;
        at_most_head = subst (λ (z : ℤ). (lowest (oxygen_at card up) foot).oxygen ≤ℤ z) head (c.least 0 zero-le);
        at_most_foot = c.least foot (le_refl foot);
      }

  -- the ties, the critical point and the status of what is reported
  pub reach_tied : Tied (card_of cards (suc i)) (oxygen_at (card_of cards (suc i)) (above cards (suc i))) (reported_at cards (suc i))
  unfolding figures_of
  reach_tied =
      let f = figures_at cards (suc i) in
      let used = used_above (above cards (suc i)) in
      record {
        demands = record { foot_demand = falls; demand_kept = kept };
        at_most_two = status_at_most used f.critical_oxygen;
        ordinary = λ e. subst (λ (g : Figures). pos 0 ≤ℤ g.critical_oxygen) (sym (reported_same f (omega arith))) (status_zero used f.critical_oxygen e);
        used_up = λ e. subst (λ (g : Figures). g.critical_oxygen <ℤ pos 0) (sym (reported_same f (omega arith))) (status_one used f.critical_oxygen e);
        oxygen_tied = λ h. rw (reported_same f h) oxygen_tied;
        used_up_above = reported_blank f;
      }

  -- demand 3
  pub reach_within_allowance : (N : ℕ) → 40 ≤ N → WithinAllowance N (card_of cards (suc i)) (above cards (suc i)) (reported_at cards (suc i)) (allowance_at cards (suc i))
  reach_within_allowance N long =
      let f = figures_at cards (suc i) in
      let w = demand_3 N long cards river.lawful river.flows i l in
      record {
        demands_at_head = without_last _ _ w.at_head;
        demands_at_foot = without_last _ _ w.at_foot;
        oxygen = λ h. rw (reported_same f h) w;
      }
