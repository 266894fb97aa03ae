-- A record depends only on its reach and the reaches above it: reaches with the same card and the same forest above them have the same figures,
-- whatever their numbers. Rivers that agree on a reach and on all above it have the same forest there, and with the same rate factors also by the
-- rates in force.
use mathlib.Core.Path.{◌≡◌, refl, sym, ap, ap₂, ◌∙◌, subst}
use mathlib.Core.Bool.{Bool, true, false, ◌||◌, or_assoc}
use mathlib.Core.List.{List, [], ◌∷◌, map}
use Prim.Native.Nat.{ℕ, zero, suc, ◌+◌, ◌-◌, ◌*◌, ◌<◌, ◌≤◌, max}
use native.Mathlib.Nat.{le_of_lt, add_left_comm}
use native.Mathlib.Omega.{arith}
use lib.ListN.{length, get_or}
use lib.Dec.{T, eqb, eqb→eq}
use lib.IntN.{ℤ, pos, ◌+ℤ◌, ◌*ℤ◌, +ℤ_assoc, +ℤ_comm}
use Rattle.std.specs.Prelude.{Option}
use Rattle.river.specs.declared.card.Card.{Card}
use Rattle.river.specs.declared.card.RateFactors.{RateFactors}
use Rattle.river.specs.Card.{blank}
use Rattle.flows.specs.Rates.{card_in_force}
use Rattle.flows.proofs.rates.InForce.{card_in_force_lem}
use Rattle.flows.specs.Flow.{Feeders, none, more, joined_if, feeders_among, fed, take_of, flow_of, own_mass, remaining_mass, mass_of, deepest}
use Rattle.river.specs.declared.source.Demand.TheVariants.{Bod, Nitrogenous}
use Rattle.river.specs.Source.{source_of}
use Rattle.flows.specs.Saturation.{saturation_of}
use Rattle.flows.specs.Head.{below_dam, head_demand, head_oxygen}
use Rattle.report.specs.Record.{Figures}
use Rattle.report.specs.held.Bed.{bed_of}
use Rattle.report.specs.Status.{is_used, used_by}
use Rattle.report.specs.Program.{demand_sum, oxygen_sum, demand_at_head, oxygen_at_head, oxygen_at, critical_oxygen, used_above, figures_below, figures_of}
use Rattle.report.specs.held.Digits.{factors_along, parts_along, demand_along, turned_along, loss_along, oxygen_along}
use Rattle.report.specs.Locality.{with_outlet, SameButOutlet, SameForest, bare, alike, exchanged, chained, SameReach, LiesAbove, feeds, through, SameCard, Agree}

-- ---- what a reach takes from its feeders, and what it gives

-- all that a reach takes from the forest above it
record Sums : Type 0 where
  fed : Bool
  flow : ℕ
  mass : ℕ
  deepest : ℕ
  bod : ℕ
  nitrogenous : ℕ
  oxygen : ℤ
  used : Bool

abbrev sums_of : Feeders → Sums
sums_of up =
    record { fed = fed up; flow = flow_of up; mass = mass_of up; deepest = deepest up; bod = demand_sum Bod up; nitrogenous = demand_sum Nitrogenous up; oxygen = oxygen_sum up; used = used_above up }

-- the figures of a reach below these sums
abbrev figures_by : Card → Sums → Figures
figures_by card s =
    figures_below s.used card (1 + s.deepest) (s.flow + card.inflow - take_of card) (head_demand (source_of Bod card) s.fed s.flow s.bod) (head_demand (source_of Nitrogenous card) s.fed s.flow s.nitrogenous) (head_oxygen card s.fed s.flow s.oxygen)

-- what a feeder gives, by its undecayed BOD after the take, whether oxygen is used up above it, and its figures
abbrev given : ℕ → Bool → Figures → Sums
given M used f =
    record {
      fed = true;
      flow = f.flow;
      mass = M;
      deepest = f.depth;
      bod = f.flow * f.foot_bod;
      nitrogenous = f.flow * f.foot_nitrogenous;
      oxygen = pos f.flow *ℤ f.foot_oxygen;
      used = is_used f.status || used;
    }

abbrev mass_by : Card → Sums → ℕ
mass_by card s = remaining_mass (take_of card) (s.flow + card.inflow) (s.mass + own_mass card)

abbrev gives : Card → Sums → Sums
gives card s = given (mass_by card s) s.used (figures_by card s)

-- and with what others give
infixr 5 ◌⊕◌
abbrev ◌⊕◌ : Sums → Sums → Sums
s ⊕ t =
    record {
      fed = s.fed || t.fed;
      flow = s.flow + t.flow;
      mass = s.mass + t.mass;
      deepest = max s.deepest t.deepest;
      bod = s.bod + t.bod;
      nitrogenous = s.nitrogenous + t.nitrogenous;
      oxygen = s.oxygen +ℤ t.oxygen;
      used = s.used || t.used;
    }

-- ---- the order of feeders does not count

or_left_comm : (a b c : Bool) → (a || (b || c)) ≡ (b || (a || c))
or_left_comm true true c = refl
or_left_comm true false c = refl
or_left_comm false true c = refl
or_left_comm false false c = refl

max_left_comm : (a b c : ℕ) → max a (max b c) ≡ max b (max a c)
max_left_comm a b c = omega arith

+ℤ_left_comm : (a b c : ℤ) → a +ℤ (b +ℤ c) ≡ b +ℤ (a +ℤ c)
+ℤ_left_comm a b c = sym (+ℤ_assoc a b c) ∙ ap (λ (x : ℤ). x +ℤ c) (+ℤ_comm a b) ∙ +ℤ_assoc b a c

any_order : (s t u : Sums) → s ⊕ t ⊕ u ≡ t ⊕ s ⊕ u
any_order s t u = simp (or_left_comm, add_left_comm, max_left_comm, +ℤ_left_comm)

-- ---- nor does an outlet

dam_any_outlet : (card : Card) (b : Bool) (Qu : ℕ) (C : ℤ) → below_dam (with_outlet 0 card) b Qu C ≡ below_dam card b Qu C
unfolding with_outlet below_dam saturation_of
dam_any_outlet card true Qu C = refl
dam_any_outlet card false Qu C = refl

figures_any_outlet : (s : Sums) (card : Card) → figures_by (with_outlet 0 card) s ≡ figures_by card s
unfolding with_outlet head_oxygen demand_along turned_along parts_along oxygen_along loss_along factors_along bed_of saturation_of
figures_any_outlet s card = rw (dam_any_outlet card s.fed)

gives_any_outlet : (s : Sums) (card : Card) → gives (with_outlet 0 card) s ≡ gives card s
unfolding with_outlet
gives_any_outlet s card = ap (given (mass_by card s) s.used) (figures_any_outlet s card)

outlet_aside : {A : Type 0} {c d : Card} (f : Card → A) → ((card : Card) → f (with_outlet 0 card) ≡ f card) → SameButOutlet c d → f c ≡ f d
outlet_aside {c} {d} f h same = sym (h c) ∙ ap f same.rest ∙ h d

-- ---- reaches with the same card and the same forest

-- the sums of a forest are put together of what each feeder gives
put_together : (card : Card) (up others : Feeders) → sums_of (more card up others) ≡ gives card (sums_of up) ⊕ sums_of others
unfolding fed flow_of mass_of deepest demand_sum demand_at_head oxygen_sum oxygen_at_head oxygen_at critical_oxygen used_by
put_together card up others = rw or_assoc

two_together : (c d : Card) (up up' others : Feeders) → sums_of (more c up (more d up' others)) ≡ gives c (sums_of up) ⊕ gives d (sums_of up') ⊕ sums_of others
two_together c d up up' others =
    put_together c up (more d up' others) ∙ ap (λ (s : Sums). gives c (sums_of up) ⊕ s) (put_together d up' others)

-- and so the same forests have the same sums
same_sums : {f g : Feeders} → SameForest f g → sums_of f ≡ sums_of g
same_sums bare = refl
same_sums (alike {c} {d} {up} {up'} {others} {others'} card forest rest) =
    put_together c up others ∙
    ap₂ ◌⊕◌ (outlet_aside (λ c. gives c (sums_of up)) (gives_any_outlet (sums_of up)) card ∙ ap (gives d) (same_sums forest)) (same_sums rest) ∙
    sym (put_together d up' others')
same_sums (exchanged {c} {d} {up} {up'} {others}) =
    two_together c d up up' others ∙ any_order (gives c (sums_of up)) (gives d (sums_of up')) (sums_of others) ∙ sym (two_together d c up' up others)
same_sums (chained p q) = same_sums p ∙ same_sums q

-- THEOREM: reaches with the same card and the same forest above them, outlets and the order of feeders aside, have the same figures
pub same_figures : {c d : Card} {f g : Feeders} → SameButOutlet c d → SameForest f g → figures_of c f ≡ figures_of d g
unfolding figures_of demand_at_head oxygen_at_head
same_figures {d} {f} card forest =
    outlet_aside (λ c. figures_by c (sums_of f)) (figures_any_outlet (sums_of f)) card ∙ ap (figures_by d) (same_sums forest)

-- an example: c is the third reach here and the fourth there, with other outlets, and its two feeders are exchanged
numbered_anew :
    (a b c d e : Card) →
    SameReach (with_outlet 3 a ∷ with_outlet 3 b ∷ with_outlet 0 c ∷ []) 2
    (with_outlet 5 d ∷ with_outlet 4 b ∷ with_outlet 4 a ∷ with_outlet 5 c ∷ with_outlet 0 e ∷ []) 3
unfolding with_outlet feeders_among joined_if
numbered_anew a b c d e =
    record {
      card = record { rest = refl };
      forest = chained exchanged (alike (record { rest = refl }) bare (alike (record { rest = refl }) bare bare));
    }

-- ---- rivers that agree at the same numbers

-- what lies above a reach lies above the one that it flows into
pub down : {cards : List Card} {j k i : ℕ} → LiesAbove cards j k → (get_or cards k blank).outlet ≡ suc i → LiesAbove cards j i
down (feeds p) q = through p (feeds q)
down (through p l) q = through p (down l q)

-- the reach at place k flows into the one at place i: agreement passes on to what lies above it
passes_on : {here there : List Card} {k i : ℕ} → (get_or here k blank).outlet ≡ suc i → (get_or there k blank).outlet ≡ suc i → SameCard here there k → Agree here there i → Agree here there k
passes_on e f same a = record { own = same; above_here = λ j l. a.above_here j (down l e); above_there = λ j l. a.above_there j (down l f) }

-- the test for an outlet, as a fact
pub flows_into : (cards : List Card) (n i : ℕ) → eqb (get_or cards n blank).outlet (suc i) ≡ true → (get_or cards n blank).outlet ≡ suc i
flows_into cards n i e = eqb→eq (get_or cards n blank).outlet (suc i) (subst T (sym e) tt)

-- one card does not have two outlets
other_card {ℓ} : {X : Type ℓ} {c d : Card} (i : ℕ) → eqb c.outlet i ≡ true → eqb d.outlet i ≡ false → c ≡ d → X
other_card i e f same = absurd (let z : true ≡ false = cc in subst T z tt)

same_but_outlet : {c d : Card} → c ≡ d → SameButOutlet c d
same_but_outlet e = record { rest = ap (with_outlet 0) e }

module _ (here there : List Card) where
  same_joined : (n i : ℕ) → Agree here there i → (Agree here there n → SameForest (feeders_among here n (suc n)) (feeders_among there n (suc n))) → SameForest (feeders_among here n (suc i)) (feeders_among there n (suc i)) → (s t : Bool) → eqb (get_or here n blank).outlet (suc i) ≡ s → eqb (get_or there n blank).outlet (suc i) ≡ t → SameForest (joined_if s (get_or here n blank) (feeders_among here n (suc n)) (feeders_among here n (suc i))) (joined_if t (get_or there n blank) (feeders_among there n (suc n)) (feeders_among there n (suc i)))
  unfolding joined_if
  same_joined n i a up rest true true e f =
      let p = flows_into here n i e in
      let same = a.above_here n (feeds p) in
      alike (same_but_outlet same) (up (passes_on p (flows_into there n i f) same a)) rest
  same_joined n i a up rest true false e f =
      other_card (suc i) e f (a.above_here n (feeds (flows_into here n i e)))
  same_joined n i a up rest false true e f =
      other_card (suc i) f e (sym (a.above_there n (feeds (flows_into there n i f))))
  same_joined n i a up rest false false e f = rest

  -- rivers that agree on a reach and above it have the same feeders there
  same_feeders : (n i : ℕ) → Agree here there i → SameForest (feeders_among here n (suc i)) (feeders_among there n (suc i))
  unfolding feeders_among
  same_feeders zero i a = bare
  same_feeders (suc n) i a = same_joined n i a (λ b. same_feeders n n b) (same_feeders n i a) (eqb (get_or here n blank).outlet (suc i)) (eqb (get_or there n blank).outlet (suc i)) refl refl

  -- and so the same reach
  pub agreed_reach : (i : ℕ) → Agree here there i → SameReach here i there i
  agreed_reach i a = record { card = same_but_outlet a.own; forest = same_feeders i i a }

-- ---- rates in force

module _ (φ : Option RateFactors) where
  -- the same but for the outlet, also by the rates in force
  alike_in_force : {c d : Card} → SameButOutlet c d → SameButOutlet (card_in_force φ c) (card_in_force φ d)
  unfolding with_outlet
  alike_in_force same = record { rest = ap (card_in_force φ) same.rest }

  -- a forest with the rates in force
  forest_in_force : Feeders → Feeders
  forest_in_force none = none
  forest_in_force (more card up others) = more (card_in_force φ card) (forest_in_force up) (forest_in_force others)

  forest_in_force_lem : {f g : Feeders} → SameForest f g → SameForest (forest_in_force f) (forest_in_force g)
  unfolding forest_in_force
  forest_in_force_lem bare = bare
  forest_in_force_lem (alike card forest others) = alike (alike_in_force card) (forest_in_force_lem forest) (forest_in_force_lem others)
  forest_in_force_lem exchanged = exchanged
  forest_in_force_lem (chained p q) = chained (forest_in_force_lem p) (forest_in_force_lem q)

  joined_in_force : (t : Bool) (card : Card) (up others : Feeders) → joined_if t (card_in_force φ card) (forest_in_force up) (forest_in_force others) ≡ forest_in_force (joined_if t card up others)
  unfolding joined_if forest_in_force
  joined_in_force true card up others = refl
  joined_in_force false card up others = refl

  -- the feeders of the cards with the rates in force are the feeders, with the rates in force
  feeders_in_force : (cs : List Card) (n i : ℕ) → n ≤ length cs → feeders_among (map (card_in_force φ) cs) n i ≡ forest_in_force (feeders_among cs n i)
  unfolding feeders_among forest_in_force
  feeders_in_force cs zero i l = refl
  feeders_in_force cs (suc n) i l =
      rw (card_in_force_lem φ cs n l, feeders_in_force cs n (suc n) (le_of_lt l), feeders_in_force cs n i (le_of_lt l))
      (joined_in_force (eqb (get_or cs n blank).outlet i) (get_or cs n blank) (feeders_among cs n (suc n)) (feeders_among cs n i))

  -- reaches that are the same on the cards as given are the same by the rates in force
  pub reach_in_force : {here there : List Card} {i j : ℕ} → i < length here → j < length there → SameReach here i there j
      → SameReach (map (card_in_force φ) here) i (map (card_in_force φ) there) j
  reach_in_force {here} {there} {i} {j} l k same =
      record {
        card = rw (card_in_force_lem φ here i l, card_in_force_lem φ there j k) (alike_in_force same.card);
        forest = rw (feeders_in_force here i (suc i) (le_of_lt l), feeders_in_force there j (suc j) (le_of_lt k)) (forest_in_force_lem same.forest);
      }
