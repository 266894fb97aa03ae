-- How far the demands and oxygen can lie from 0 in an accepted river, at the head of a reach and at every instant, and mean oxygen likewise.
-- Carried down the river, times flow: the two demands together are at most 1,000 × M, the demands less oxygen at most that and 5,000,003 units
-- more for each level (3 of rounding at its head, and what its bed may take), and oxygen at most 20,000,000 and a unit more for each level. The
-- levels above a reach are the reaches of this river on the longest way down to it.
use mathlib.Core.Path.{◌≡◌}
use mathlib.Core.Bool.{Bool}
use mathlib.Core.List.{[], ◌∷◌}
use Prim.Native.Nat.{ℕ, ◌+◌, ◌*◌, ◌≤◌, max}
use native.Mathlib.Nat.{le-max_left, le-max_right, le_refl, le_trans, mul-div-le, mul-le-mul_left, mul-le-mul_right}
use native.Mathlib.Omega.{arith}
use lib.IntN.{ℤ, pos, negsuc, ◌-ℤ◌, ◌*ℤ◌}
use lib.Signed.{◌≤ℤ◌}
use Rattle.decay.specs.Fraction.{Fraction, ◌≈◌, ◌≼◌, of_ℕ, of_ℤ, ◌+ᶠ◌, -ᶠ◌, ◌-ᶠ◌, ◌*ᶠ◌}
use Rattle.decay.specs.Fixed.{product}
use Rattle.decay.specs.held.Factors.{AreShares}
use Rattle.decay.specs.held.Promise.{share}
use Rattle.decay.specs.declared.factors.Factors.{Factors}
use Rattle.decay.proofs.Algebra.{Nonneg, quote, slack, number, ◌⊞◌, ◌⊠◌, multiple, certify, ring_by, ◌⋅◌, ◌&◌, of_ℕ-≈, ≈_refl, ≈_sym, ≈_trans, ≼_trans, ≼_of-≈, ≼_by, ≼_refl, +ᶠ_cong, *ᶠ_cong, of_ℤ-+, of_ℤ-*, Positive, positive_whole, certify_over, none as no_equations, of_ℕ_reflect, of_ℤ_reflect, of_ℕ_mono, of_ℕ-+, of_ℕ-*}
use Rattle.river.specs.declared.card.Card.{Card}
use Rattle.flows.specs.Flow.{Feeders, more, fed, flow_of, mixed_flow, reach_flow, own_mass, mass_of, mixed_mass, reach_mass, deepest}
use Rattle.flows.specs.Saturation.{saturation_of, SaturationInRange}
use Rattle.river.specs.declared.source.Demand.{Demand}
use Rattle.river.specs.declared.source.Demand.TheVariants.{Bod, Nitrogenous}
use Rattle.river.specs.declared.source.Source.{Source}
use Rattle.river.specs.Source.{source_of, source_mass}
use Rattle.flows.specs.Head.{upstream_demand, upstream_oxygen, below_dam, head_demand, head_oxygen}
use Rattle.flows.proofs.flow.Take.{flow_remains, mass_within, mass_scaled}
use Rattle.flows.proofs.head.Bounds.{saturation_of_small, upstream_kept}
use Rattle.report.specs.held.Bed.{bed_of, loss_with, loss_limit}
use Rattle.report.specs.Program.{demand_sum, oxygen_sum, demand_at_head, oxygen_at_head, demand_at, oxygen_at, foot}
use Rattle.report.specs.held.Digits.{oxygen_with, turned_along, loss_along, oxygen_along, factors_along}
use Rattle.report.specs.Mean.{mean_oxygen}
use Rattle.report.specs.held.MeanAlong.{middle, factors_mean, turned_mean, mean_along}
use Rattle.report.proofs.Facts.Floor.{Rounded}
use Rattle.report.proofs.Forest.{AcceptedReach, AllAccepted, no_more, one_more}
use Rattle.report.proofs.Ties.{factors_range, mean_factors_range, loss_small, mean_loss_range, parts_within, mean_turned_within}
use Rattle.report.proofs.Facts.Instant.{Floored, shares_in_range, kept_deficit, kept_floored, oxygen_parts}
use Rattle.report.proofs.Facts.Head.{of_ℕ-+₄, source_flow, Dammed, oxygen_mean, dam_part, below_dam_lem, oxygen_mixed}

-- ---- the estimates in fractions

-- oxygen below a dam does not rise above a bound that upstream oxygen and saturation have
dam_above : (Qu u saturated σ c k : Fraction) → Nonneg Qu → Dammed u saturated σ c → Qu *ᶠ u ≼ Qu *ᶠ k → saturated ≼ k → Qu *ᶠ c ≼ Qu *ᶠ k
dam_above Qu u saturated σ c k p d h g =
    certify (Qu ∷ u ∷ saturated ∷ σ ∷ c ∷ k ∷ []) (p ⊠ slack d.low ⊞ slack d.part_of_one ⊠ slack h ⊞ d.part ⊠ (p ⊠ slack g)) (search quote depth 40 fits 9999) tt

-- the demands less oxygen rise by at most a unit at a dam
dam_below : (Qu bod u saturated σ c total : Fraction) → Nonneg Qu → Nonneg saturated → Dammed u saturated σ c → Qu *ᶠ bod ≼ total → Qu *ᶠ bod -ᶠ Qu *ᶠ u ≼ total +ᶠ Qu → Qu *ᶠ bod -ᶠ Qu *ᶠ c ≼ total +ᶠ Qu +ᶠ Qu
dam_below Qu bod u saturated σ c total p s d h g =
    certify (Qu ∷ bod ∷ u ∷ saturated ∷ σ ∷ c ∷ total ∷ []) (p ⊠ slack d.high ⊞ slack d.part_of_one ⊠ slack g ⊞ d.part ⊠ slack h ⊞ d.part ⊠ p ⊞ d.part ⊠ (p ⊠ s)) (search quote depth 40 fits 9999) tt

-- water of flow Q: the demands at most mass, the demands less oxygen at most mass + deep, oxygen at most the bound k; each times flow
pub record Bounded (demands oxygen Q mass deep k : Fraction) : Type 0 where
  pub demands_above : demands ≼ mass
  pub oxygen_below : demands -ᶠ oxygen ≼ mass +ᶠ deep
  pub oxygen_above : oxygen ≼ Q *ᶠ k

-- from the feeders' feet to the head: of the demands u are upstream, h at the head, and W come in
head_bounded : (Qu Q inflow s t u v w h c W W₃ saturated σ mass deep k : Fraction) → Nonneg Qu → Nonneg deep → Nonneg saturated → saturated ≼ k → Nonneg W₃ → W₃ ≼ inflow *ᶠ k → Q ≈ Qu +ᶠ inflow
    → Qu *ᶠ u ≼ s → Rounded Qu v t → Dammed v saturated σ w → Q *ᶠ h ≼ Qu *ᶠ u +ᶠ W → Rounded Q c (Qu *ᶠ w +ᶠ W₃) → Bounded s t Qu mass deep k
    → Bounded (Q *ᶠ h) (Q *ᶠ c) Q (mass +ᶠ W) (deep +ᶠ Qu +ᶠ Qu +ᶠ Q) k
head_bounded Qu Q inflow s t u v w h c W W₃ saturated σ mass deep k p pd ps sk pw wk flows mean₁ mean₂ dam mix₁ mix₂ b =
    record {
      demands_above = certify (Q ∷ Qu ∷ h ∷ u ∷ W ∷ s ∷ mass ∷ []) (slack mix₁ ⊞ slack mean₁ ⊞ slack b.demands_above) (search quote depth 40 fits 9999) tt;
      oxygen_below = certify (Q ∷ Qu ∷ h ∷ c ∷ u ∷ w ∷ W ∷ W₃ ∷ mass ∷ deep ∷ []) (slack mix₁ ⊞ slack mix₂.high ⊞ slack below ⊞ pw) (search quote depth 40 fits 9999) tt;
      oxygen_above = certify (Q ∷ Qu ∷ inflow ∷ c ∷ w ∷ W₃ ∷ k ∷ []) (slack mix₂.low ⊞ slack above ⊞ slack wk ⊞ multiple k (≈_sym flows)) (search quote depth 40 fits 9999) tt;
    }
  where
    above : Qu *ᶠ w ≼ Qu *ᶠ k
    above = dam_above Qu v saturated σ w k p dam (≼_trans mean₂.low b.oxygen_above) sk

    below : Qu *ᶠ u -ᶠ Qu *ᶠ w ≼ mass +ᶠ deep +ᶠ Qu +ᶠ Qu
    below =
        dam_below Qu u v saturated σ w (mass +ᶠ deep) p ps dam
        (certify (Qu ∷ u ∷ s ∷ mass ∷ deep ∷ []) (slack mean₁ ⊞ slack b.demands_above ⊞ pd) (search quote depth 40 fits 9999) tt)
        (certify (Qu ∷ u ∷ v ∷ s ∷ t ∷ mass ∷ deep ∷ []) (slack mean₁ ⊞ slack mean₂.high ⊞ slack b.oxygen_below) (search quote depth 40 fits 9999) tt)

-- from the head to an instant: of the demands L there are left B and have turned G, and oxygen is saturation less G, R and the loss T to a bed
instant_bounded : (Q L c saturated r B G R T most mass deep k : Fraction) → Nonneg Q → Nonneg L → Nonneg deep → Nonneg saturated → saturated ≼ k → Nonneg r → r ≼ of_ℕ 1
    → Nonneg G → Nonneg T → T ≼ most → B +ᶠ G ≼ L → Floored R (r *ᶠ (saturated -ᶠ c)) → Bounded (Q *ᶠ L) (Q *ᶠ c) Q mass deep k
    → Bounded (Q *ᶠ B) (Q *ᶠ (saturated -ᶠ G -ᶠ R -ᶠ T)) Q mass (deep +ᶠ Q *ᶠ most) (k +ᶠ of_ℕ 1)
instant_bounded Q L c saturated r B G R T most mass deep k pQ pL pd ps sk pr r1 pG pT hT parts fR b =
    record {
      demands_above = certify (Q ∷ L ∷ B ∷ G ∷ mass ∷ []) (pQ ⊠ (slack parts ⊞ pG) ⊞ slack b.demands_above) (search quote depth 40 fits 9999) tt;
      oxygen_below = certify (Q ∷ L ∷ c ∷ saturated ∷ r ∷ B ∷ G ∷ R ∷ T ∷ most ∷ mass ∷ deep ∷ []) (pQ ⊠ (slack parts ⊞ slack fR.low ⊞ slack hT) ⊞ pr ⊠ slack b.oxygen_below ⊞ slack r1 ⊠ (slack b.demands_above ⊞ pd ⊞ pQ ⊠ ps)) (search quote depth 40 fits 9999) tt;
      oxygen_above = certify (Q ∷ c ∷ saturated ∷ r ∷ G ∷ R ∷ T ∷ k ∷ []) (pQ ⊠ (pG ⊞ pT) ⊞ pQ ⊠ slack fR.high ⊞ slack r1 ⊠ (pQ ⊠ slack sk) ⊞ pr ⊠ slack b.oxygen_above) (search quote depth 40 fits 9999) tt;
    }

-- a take leaves the concentrations, and of M no smaller a part than of the flow
taken_bounded : (Qm Q h c mass remaining deep rest k : Fraction) → Positive Qm → Nonneg Q → Q *ᶠ mass ≼ Qm *ᶠ remaining → Q *ᶠ deep ≼ Qm *ᶠ rest
    → Bounded (Qm *ᶠ h) (Qm *ᶠ c) Qm mass deep k → Bounded (Q *ᶠ h) (Q *ᶠ c) Q remaining rest k
taken_bounded Qm Q h c mass remaining deep rest k p pQ hm hd b =
    record {
      demands_above = certify_over Qm p (Qm ∷ Q ∷ h ∷ mass ∷ remaining ∷ []) no_equations (slack hm ⊞ pQ ⊠ slack b.demands_above) (search quote depth 40 fits 9999) tt;
      oxygen_below = certify_over Qm p (Qm ∷ Q ∷ h ∷ c ∷ mass ∷ remaining ∷ deep ∷ rest ∷ []) no_equations (slack hm ⊞ slack hd ⊞ pQ ⊠ slack b.oxygen_below) (search quote depth 40 fits 9999) tt;
      oxygen_above = certify_over Qm p (Qm ∷ Q ∷ c ∷ k ∷ []) no_equations (pQ ⊠ slack b.oxygen_above) (search quote depth 40 fits 9999) tt;
    }

-- ---- the same of an accepted river

-- the levels above a reach
abbrev pub levels : Feeders → ℕ
levels up = deepest up

-- how far oxygen may fall below the demands at this many levels, and at the head below them, less what M accounts for
abbrev fall : ℕ → ℕ
fall n = 5_000_003 * n

abbrev head_fall : Feeders → ℕ
head_fall up = 3 + fall (levels up)

-- the demands of the feeders together, at a head, and at an instant
abbrev pub demand_sums : Feeders → ℕ
demand_sums up = demand_sum Bod up + demand_sum Nitrogenous up

abbrev pub demands_at_head : Card → Feeders → ℕ
demands_at_head card up = demand_at_head Bod card up + demand_at_head Nitrogenous card up

abbrev pub demands_at : Card → Feeders → ℕ → ℕ
demands_at card up m = demand_at Bod card up m + demand_at Nitrogenous card up m

-- what the feeders bring, times flow
abbrev FeetBounded : Feeders → Type 0
FeetBounded up = Bounded (of_ℕ (demand_sums up)) (of_ℤ (oxygen_sum up)) (of_ℕ (flow_of up)) (of_ℕ (1000 * mass_of up)) (of_ℕ (fall (levels up) * flow_of up)) (of_ℕ (20000000 + levels up))

-- the water at a head before the take, and after it
abbrev MixedBounded : Card → Feeders → Type 0
MixedBounded card up =
    Bounded (of_ℕ (mixed_flow card up) *ᶠ of_ℕ (demands_at_head card up)) (of_ℕ (mixed_flow card up) *ᶠ of_ℤ (oxygen_at_head card up)) (of_ℕ (mixed_flow card up)) (of_ℕ (1000 * mixed_mass card up)) (of_ℕ (head_fall up * mixed_flow card up)) (of_ℕ (20000000 + levels up))

abbrev HeadBounded : Card → Feeders → Type 0
HeadBounded card up =
    Bounded (of_ℕ (reach_flow card up) *ᶠ of_ℕ (demands_at_head card up)) (of_ℕ (reach_flow card up) *ᶠ of_ℤ (oxygen_at_head card up)) (of_ℕ (reach_flow card up)) (of_ℕ (1000 * reach_mass card up)) (of_ℕ (head_fall up * reach_flow card up)) (of_ℕ (20000000 + levels up))

-- the water along a reach with these demands and this oxygen
abbrev AlongBounded : Card → Feeders → (demands : ℕ) (oxygen : ℤ) → Type 0
AlongBounded card up demands oxygen =
    Bounded (of_ℕ (reach_flow card up) *ᶠ of_ℕ demands) (of_ℕ (reach_flow card up) *ᶠ of_ℤ oxygen) (of_ℕ (reach_flow card up)) (of_ℕ (1000 * reach_mass card up)) (of_ℕ (fall (1 + levels up) * reach_flow card up)) (of_ℕ (20000000 + (1 + levels up)))

-- a wider bound
bounded_by : {bod oxygen Q mass deep k mass' deep' k' : Fraction} → mass ≼ mass' → deep ≼ deep' → k ≼ k' → Nonneg Q → Bounded bod oxygen Q mass deep k → Bounded bod oxygen Q mass' deep' k'
bounded_by {bod} {oxygen} {Q} {mass} {deep} {k} {mass'} {deep'} {k'} hm hd hk pQ b =
    record {
      demands_above = ≼_trans b.demands_above hm;
      oxygen_below = certify (bod ∷ oxygen ∷ mass ∷ deep ∷ mass' ∷ deep' ∷ []) (slack b.oxygen_below ⊞ slack hm ⊞ slack hd) (search quote depth 40 fits 9999) tt;
      oxygen_above = certify (oxygen ∷ Q ∷ k ∷ k' ∷ []) (slack b.oxygen_above ⊞ pQ ⊠ slack hk) (search quote depth 40 fits 9999) tt;
    }

saturation_below : (card : Card) (d : ℕ) → SaturationInRange card → of_ℕ (saturation_of card) ≼ of_ℕ (20000000 + d)
saturation_below card d h = of_ℕ_mono (omega (arith, saturation_of_small card h))

-- what is upstream of a demand is at most what the feeders bring, and what is at a head at most that and what comes in
upstream_low : (d : Demand) (up : Feeders) → flow_of up * upstream_demand (fed up) (flow_of up) (demand_sum d up) ≤ demand_sum d up
upstream_low d up = upstream_kept (fed up) (flow_of up) (demand_sum d up)

mixed_of : (source : Source) (t : Bool) (Qu sum : ℕ) {Qm : ℕ} → Qm ≡ Qu + source.inflow → Qm * head_demand source t Qu sum ≤ Qu * upstream_demand t Qu sum + 1000 * source_mass source
unfolding head_demand
mixed_of source t Qu sum e = rw e (le_trans (mul-div-le _ (Qu + source.inflow)) (omega arith))

mixed_low : (d : Demand) (card : Card) (up : Feeders) → mixed_flow card up * demand_at_head d card up ≤ flow_of up * upstream_demand (fed up) (flow_of up) (demand_sum d up) + 1000 * source_mass (source_of d card)
unfolding demand_at_head
mixed_low d card up = mixed_of (source_of d card) (fed up) (flow_of up) (demand_sum d up) (source_flow d card (flow_of up))

mixed_in_bounds : {card : Card} {up : Feeders} → AcceptedReach card up → AllAccepted up → FeetBounded up → MixedBounded card up
unfolding oxygen_at_head head_oxygen
mixed_in_bounds {card} {up} own above b =
    let Qu = flow_of up in
    let i = card.inflow in
    let u = upstream_demand (fed up) Qu (demand_sum Bod up) + upstream_demand (fed up) Qu (demand_sum Nitrogenous up) in
    let v = upstream_oxygen (fed up) Qu (oxygen_sum up) in
    let W = 1000 * own_mass card in
    let W₃ = 1000 * i * card.inflow_oxygen in
    let k = 20000000 + levels up in
    bounded_by
    (≼_by (≈_sym (of_ℕ-+ (1000 * mass_of up) W)) (of_ℕ_mono (omega arith)) (≈_refl (of_ℕ (1000 * mixed_mass card up))))
    (≼_by (≈_sym (of_ℕ-+₄ (fall (levels up) * Qu) Qu Qu (Qu + i))) (of_ℕ_mono (deeper (levels up) Qu i)) (≈_refl (of_ℕ (head_fall up * mixed_flow card up))))
    (≼_refl (of_ℕ k))
    (number (mixed_flow card up))
    (head_bounded (of_ℕ Qu) (of_ℕ (Qu + i)) (of_ℕ i) (of_ℕ (demand_sums up)) (of_ℤ (oxygen_sum up)) (of_ℕ u) (of_ℤ v) (of_ℤ (below_dam card (fed up) Qu v)) (of_ℕ (demands_at_head card up)) (of_ℤ (oxygen_at_head card up)) (of_ℕ W) (of_ℕ W₃) (of_ℕ (saturation_of card)) (dam_part (fed up) card.dam Qu) (of_ℕ (1000 * mass_of up)) (of_ℕ (fall (levels up) * Qu)) (of_ℕ k)
    (number Qu) (number (fall (levels up) * Qu)) (number (saturation_of card)) (saturation_below card (levels up) own.saturation) (number W₃)
    (≼_by (≈_refl (of_ℕ W₃)) (of_ℕ_mono (oxygen_in i card.inflow_oxygen (levels up) own.fields.inflow_oxygen)) (of_ℕ-* i k))
    (of_ℕ-+ Qu i)
    (≼_by (≈_sym (of_ℕ-* Qu u)) (of_ℕ_mono (omega (arith, upstream_low Bod up, upstream_low Nitrogenous up))) (≈_refl (of_ℕ (demand_sums up))))
    (oxygen_mean above) (below_dam_lem card above own.dam v)
    (≼_by (≈_sym (of_ℕ-* (Qu + i) (demands_at_head card up))) (of_ℕ_mono (omega (arith, mixed_low Bod card up, mixed_low Nitrogenous card up))) (≈_trans (of_ℕ-+ (Qu * u) W) (+ᶠ_cong (of_ℕ-* Qu u) (≈_refl (of_ℕ W)))))
    (oxygen_mixed card Qu (below_dam card (fed up) Qu v) own.flows.flowing) b)
  where
    deeper : (n Qu i : ℕ) → fall n * Qu + Qu + Qu + (Qu + i) ≤ (3 + fall n) * (Qu + i)
    deeper n Qu i = omega arith

    oxygen_in : (i oxygen d : ℕ) → oxygen ≤ 20000 → 1000 * i * oxygen ≤ i * (20000000 + d)
    oxygen_in i oxygen d h = omega (arith, mul-le-mul_left i h)

-- products of whole numbers, embedded
products : (a b c d : ℕ) → a * b ≤ c * d → of_ℕ a *ᶠ of_ℕ b ≼ of_ℕ c *ᶠ of_ℕ d
products a b c d h = ≼_by (≈_sym (of_ℕ-* a b)) (of_ℕ_mono h) (of_ℕ-* c d)

head_in_bounds : {card : Card} {up : Feeders} → AcceptedReach card up → AllAccepted up → FeetBounded up → HeadBounded card up
head_in_bounds {card} {up} own above b =
    let Qm = mixed_flow card up in
    let Q = reach_flow card up in
    taken_bounded (of_ℕ Qm) (of_ℕ Q) (of_ℕ (demands_at_head card up)) (of_ℤ (oxygen_at_head card up)) (of_ℕ (1000 * mixed_mass card up)) (of_ℕ (1000 * reach_mass card up)) (of_ℕ (head_fall up * Qm)) (of_ℕ (head_fall up * Q)) (of_ℕ (20000000 + levels up))
    (positive_whole own.flows.flowing) (number Q)
    (products Q (1000 * mixed_mass card up) Qm (1000 * reach_mass card up) (thousand Q (mixed_mass card up) Qm (reach_mass card up) (mass_scaled own.flows)))
    (products Q (head_fall up * Qm) Qm (head_fall up * Q) (exchanged (head_fall up) Qm Q))
    (mixed_in_bounds own above b)
  where
    thousand : (a b c d : ℕ) → a * b ≤ c * d → a * (1000 * b) ≤ c * (1000 * d)
    thousand a b c d h = omega arith

    exchanged : (n a b : ℕ) → b * (n * a) ≤ a * (n * b)
    exchanged n a b = omega arith

-- equal oxygen has the same bounds
bounded_at : {bod oxygen oxygen' Q mass deep k : Fraction} → oxygen ≈ oxygen' → Bounded bod oxygen Q mass deep k → Bounded bod oxygen' Q mass deep k
bounded_at {bod} {oxygen} {oxygen'} {Q} {mass} {deep} {k} e b =
    record {
      demands_above = b.demands_above;
      oxygen_below = certify (bod ∷ oxygen ∷ oxygen' ∷ mass ∷ deep ∷ []) (slack b.oxygen_below ⊞ multiple (of_ℕ 1) e) (search quote depth 40 fits 9999) tt;
      oxygen_above = ≼_trans (≼_of-≈ (≈_sym e)) b.oxygen_above;
    }

-- where these factors hold, of the demands B are left, H of nitrogenous BOD has turned, and a bed takes T
along_in_bounds : {card : Card} {up : Feeders} → AcceptedReach card up → HeadBounded card up → (f : Factors) (B H T : ℕ) → AreShares f → B + (product f.turned (demand_at_head Bod card up) + H) ≤ demands_at_head card up → T ≤ loss_limit
    → AlongBounded card up B (oxygen_with f (saturation_of card) (demand_at_head Bod card up) (oxygen_at_head card up) -ℤ pos H -ℤ pos T)
along_in_bounds {card} {up} own b f B H T in_range parts few =
    let Q = reach_flow card up in
    let L = demand_at_head Bod card up in
    let C = oxygen_at_head card up in
    let Cs = saturation_of card in
    let G = product f.turned L in
    let R = kept_deficit f Cs C in
    let shares = shares_in_range f in_range in
    let k = 20000000 + levels up in
    let deep = head_fall up * Q in
    bounded_by (≼_refl (of_ℕ (1000 * reach_mass card up))) (≼_by (≈_trans (+ᶠ_cong (≈_refl (of_ℕ deep)) (≈_sym (of_ℕ-* Q loss_limit))) (≈_sym (of_ℕ-+ deep (Q * loss_limit)))) (of_ℕ_mono (one_more_level (levels up) Q)) (≈_refl (of_ℕ (fall (1 + levels up) * Q)))) (≼_by (≈_sym (of_ℕ-+ k 1)) (of_ℕ_mono (one_more_unit (levels up))) (≈_refl (of_ℕ (20000000 + (1 + levels up))))) (number Q)
    (bounded_at (*ᶠ_cong (≈_refl (of_ℕ Q)) (≈_sym (≈_trans (oxygen_parts f Cs L C H T) (two_turned (of_ℕ Cs) (of_ℕ G) (of_ℕ H) (of_ℕ (G + H)) (of_ℤ R) (of_ℕ T) (of_ℕ-+ G H)))))
    (instant_bounded (of_ℕ Q) (of_ℕ (demands_at_head card up)) (of_ℤ C) (of_ℕ Cs) (share f.kept) (of_ℕ B) (of_ℕ (G + H)) (of_ℤ R) (of_ℕ T) (of_ℕ loss_limit) (of_ℕ (1000 * reach_mass card up)) (of_ℕ deep) (of_ℕ k)
    (number Q) (number (demands_at_head card up)) (number deep) (number Cs) (saturation_below card (levels up) own.saturation) shares.kept_part shares.kept_of_one (number (G + H)) (number T) (of_ℕ_mono few)
    (≼_by (≈_sym (of_ℕ-+ B (G + H))) (of_ℕ_mono parts) (≈_refl (of_ℕ (demands_at_head card up))))
    (kept_floored f Cs C) b))
  where
    two_turned : (cs g h gh r t : Fraction) → gh ≈ g +ᶠ h → cs -ᶠ g -ᶠ r -ᶠ h -ᶠ t ≈ cs -ᶠ gh -ᶠ r -ᶠ t
    two_turned cs g h gh r t e = ring_by (cs ∷ g ∷ h ∷ gh ∷ r ∷ t ∷ []) (of_ℕ 1 ⋅ e & no_equations) (search quote depth 40 fits 9999) tt

    one_more_unit : (n : ℕ) → 20000000 + n + 1 ≤ 20000000 + (1 + n)
    one_more_unit n = omega arith

    one_more_level : (n Q : ℕ) → (3 + fall n) * Q + Q * loss_limit ≤ fall (1 + n) * Q
    one_more_level n Q = omega arith

-- at every instant
instant_in_bounds : {card : Card} {up : Feeders} → AcceptedReach card up → HeadBounded card up → (m : ℕ) → m ≤ foot → AlongBounded card up (demands_at card up m) (oxygen_at card up m)
unfolding oxygen_at oxygen_along turned_along
instant_in_bounds {card} {up} own b m l =
    let Q = reach_flow card up in
    along_in_bounds own b (factors_along card Q m) (demands_at card up m) (turned_along Nitrogenous card Q (demand_at_head Nitrogenous card up) m) (loss_along card Q m) (factors_range own m) (omega (arith, parts_within own Bod m, parts_within own Nitrogenous m)) (loss_small own m l)

-- and on average, whatever is left of the demands
mean_in_bounds : {card : Card} {up : Feeders} → AcceptedReach card up → HeadBounded card up → AlongBounded card up 0 (mean_oxygen card up)
unfolding mean_oxygen mean_along
mean_in_bounds {card} {up} own b =
    let Q = reach_flow card up in
    along_in_bounds own b (factors_mean card Q) 0 (turned_mean card Q (demand_at_head Nitrogenous card up)) (loss_with (factors_mean card Q) (bed_of card Q) middle) (mean_factors_range own) (omega (arith, mean_turned_within own)) (mean_loss_range own).loss

-- two waters together
bounded_join : {b o Q m d k b₁ o₁ Q₁ m₁ d₁ k₁ b₂ o₂ Q₂ m₂ d₂ k₂ : Fraction} → b ≈ b₁ +ᶠ b₂ → o ≈ o₁ +ᶠ o₂ → Q ≈ Q₁ +ᶠ Q₂ → m₁ +ᶠ m₂ ≼ m → d₁ +ᶠ d₂ ≼ d → k₁ ≼ k → k₂ ≼ k → Nonneg Q₁ → Nonneg Q₂
    → Bounded b₁ o₁ Q₁ m₁ d₁ k₁ → Bounded b₂ o₂ Q₂ m₂ d₂ k₂ → Bounded b o Q m d k
bounded_join {b} {o} {Q} {m} {d} {k} {b₁} {o₁} {Q₁} {m₁} {d₁} {k₁} {b₂} {o₂} {Q₂} {m₂} {d₂} {k₂} eb eo eQ hm hd h₁ h₂ p₁ p₂ x y =
    record {
      demands_above = certify (b ∷ b₁ ∷ b₂ ∷ m ∷ m₁ ∷ m₂ ∷ []) (slack x.demands_above ⊞ slack y.demands_above ⊞ slack hm ⊞ multiple (of_ℕ 1) eb) (search quote depth 40 fits 9999) tt;
      oxygen_below = certify (b ∷ b₁ ∷ b₂ ∷ m ∷ m₁ ∷ m₂ ∷ o ∷ o₁ ∷ o₂ ∷ d ∷ d₁ ∷ d₂ ∷ []) (slack x.oxygen_below ⊞ slack y.oxygen_below ⊞ slack hm ⊞ slack hd ⊞ multiple (of_ℕ 1) eb ⊞ multiple (of_ℕ 1) (≈_sym eo)) (search quote depth 40 fits 9999) tt;
      oxygen_above = certify (o ∷ o₁ ∷ o₂ ∷ Q ∷ Q₁ ∷ Q₂ ∷ k ∷ k₁ ∷ k₂ ∷ []) (slack x.oxygen_above ⊞ slack y.oxygen_above ⊞ p₁ ⊠ slack h₁ ⊞ p₂ ⊠ slack h₂ ⊞ multiple (of_ℕ 1) eo ⊞ multiple k (≈_sym eQ)) (search quote depth 40 fits 9999) tt;
    }

-- every foot of a forest is in bounds
feet_join : (card : Card) (up rest : Feeders) → AlongBounded card up (demands_at card up foot) (oxygen_at card up foot) → FeetBounded rest → FeetBounded (more card up rest)
unfolding flow_of mass_of deepest demand_sum oxygen_sum demand_at oxygen_at demand_at_head oxygen_at_head
feet_join card up rest x y =
    let Q = reach_flow card up in
    let B = demands_at card up foot in
    bounded_join
    (≈_trans (of_ℕ-≈ {m = demand_sums (more card up rest)} {n = Q * B + demand_sums rest} (omega arith)) (≈_trans (of_ℕ-+ (Q * B) (demand_sums rest)) (+ᶠ_cong (of_ℕ-* Q B) (≈_refl (of_ℕ (demand_sums rest))))))
    (≈_trans (of_ℤ-+ (pos Q *ℤ oxygen_at card up foot) (oxygen_sum rest)) (+ᶠ_cong (of_ℤ-* (pos Q) (oxygen_at card up foot)) (≈_refl (of_ℤ (oxygen_sum rest)))))
    (of_ℕ-+ Q (flow_of rest))
    (≼_by (≈_sym (of_ℕ-+ (1000 * reach_mass card up) (1000 * mass_of rest))) (of_ℕ_mono (omega arith)) (≈_refl (of_ℕ (1000 * mass_of (more card up rest)))))
    (≼_by (≈_sym (of_ℕ-+ (fall (1 + levels up) * Q) (fall (levels rest) * flow_of rest))) (of_ℕ_mono (deeper (1 + levels up) (levels rest) Q (flow_of rest))) (≈_refl (of_ℕ (fall (levels (more card up rest)) * flow_of (more card up rest)))))
    (of_ℕ_mono (omega arith)) (of_ℕ_mono (omega arith)) (number Q) (number (flow_of rest)) x y
  where
    deeper : (a b Q R : ℕ) → fall a * Q + fall b * R ≤ fall (max a b) * (Q + R)
    deeper a b Q R = omega (arith, mul-le-mul_right Q (le-max_left a b), mul-le-mul_right R (le-max_right a b))

feet_in_bounds : {up : Feeders} → AllAccepted up → FeetBounded up
unfolding flow_of mass_of deepest demand_sum oxygen_sum
feet_in_bounds no_more =
    record {
      demands_above = ≼_refl (of_ℕ 0);
      oxygen_below = certify [] (number 0) (search quote depth 40 fits 9999) tt;
      oxygen_above = certify [] (number 0) (search quote depth 40 fits 9999) tt;
    }
feet_in_bounds (one_more {card} {up} {rest} own above others) =
    feet_join card up rest (instant_in_bounds own (head_in_bounds own above (feet_in_bounds above)) foot (le_refl foot)) (feet_in_bounds others)

-- ---- the ranges that follow, by the rule M ≤ 1,000,000 × Q and at most 128 levels

-- the most by which oxygen lies below the demands, and so below 0
abbrev pub most_below : ℕ
most_below = 1_640_000_384

pub record Ranged (demands oxygen k : Fraction) : Type 0 where
  pub demands_range : demands ≼ of_ℕ 1000000000
  pub demands_below : demands ≼ oxygen +ᶠ of_ℕ most_below
  pub oxygen_high : oxygen ≼ k

bounded_ranged : (Q bod oxygen mass deep k : Fraction) → Positive Q → mass ≼ of_ℕ 1000000000 *ᶠ Q → deep ≼ of_ℕ 640_000_384 *ᶠ Q → Bounded (Q *ᶠ bod) (Q *ᶠ oxygen) Q mass deep k → Ranged bod oxygen k
bounded_ranged Q bod oxygen mass deep k pQ hm hd b =
    record {
      demands_range = certify_over Q pQ (Q ∷ bod ∷ mass ∷ []) no_equations (slack b.demands_above ⊞ slack hm) (search quote depth 40 fits 9999) tt;
      demands_below = certify_over Q pQ (Q ∷ bod ∷ oxygen ∷ mass ∷ deep ∷ []) no_equations (slack b.oxygen_below ⊞ slack hm ⊞ slack hd) (search quote depth 40 fits 9999) tt;
      oxygen_high = certify_over Q pQ (Q ∷ oxygen ∷ k ∷ []) no_equations (slack b.oxygen_above) (search quote depth 40 fits 9999) tt;
    }

module _ {card : Card} {up : Feeders} (own : AcceptedReach card up) (above : AllAccepted up) (shallow : 1 + levels up ≤ 128) where
  mass_small : of_ℕ (1000 * reach_mass card up) ≼ of_ℕ 1000000000 *ᶠ of_ℕ (reach_flow card up)
  mass_small = ≼_trans (of_ℕ_mono (omega (arith, mass_within own.flows))) (≼_of-≈ (of_ℕ-* 1000000000 (reach_flow card up)))

  fall_small : {n : ℕ} → n ≤ 640_000_384 → of_ℕ (n * reach_flow card up) ≼ of_ℕ 640_000_384 *ᶠ of_ℕ (reach_flow card up)
  fall_small h = ≼_trans (of_ℕ_mono (mul-le-mul_right (reach_flow card up) h)) (≼_of-≈ (of_ℕ-* 640_000_384 (reach_flow card up)))

  -- at the head
  pub head_ranged : Ranged (of_ℕ (demands_at_head card up)) (of_ℤ (oxygen_at_head card up)) (of_ℕ (20000000 + levels up))
  head_ranged =
      bounded_ranged (of_ℕ (reach_flow card up)) (of_ℕ (demands_at_head card up)) (of_ℤ (oxygen_at_head card up)) (of_ℕ (1000 * reach_mass card up)) (of_ℕ (head_fall up * reach_flow card up)) (of_ℕ (20000000 + levels up)) (positive_whole (flow_remains own.flows)) mass_small (fall_small (omega arith)) (head_in_bounds own above (feet_in_bounds above))

  -- along the reach
  along_ranged : (demands : ℕ) (oxygen : ℤ) → (HeadBounded card up → AlongBounded card up demands oxygen) → Ranged (of_ℕ demands) (of_ℤ oxygen) (of_ℕ (20000000 + (1 + levels up)))
  along_ranged demands oxygen bounds =
      bounded_ranged (of_ℕ (reach_flow card up)) (of_ℕ demands) (of_ℤ oxygen) (of_ℕ (1000 * reach_mass card up)) (of_ℕ (fall (1 + levels up) * reach_flow card up)) (of_ℕ (20000000 + (1 + levels up))) (positive_whole (flow_remains own.flows)) mass_small (fall_small (omega arith)) (bounds (head_in_bounds own above (feet_in_bounds above)))

-- the same of whole numbers
pub record Range (demands : ℕ) (oxygen : ℤ) : Type 0 where
  pub demands_range : demands ≤ 1000000000
  pub demands_below : of_ℕ demands ≼ of_ℤ oxygen +ᶠ of_ℕ most_below
  pub oxygen_low : negsuc 1_640_000_383 ≤ℤ oxygen
  pub oxygen_high : oxygen ≤ℤ pos 20000128

whole_range : (bod : ℕ) (oxygen : ℤ) (n : ℕ) → n ≤ 128 → Ranged (of_ℕ bod) (of_ℤ oxygen) (of_ℕ (20000000 + n)) → Range bod oxygen
whole_range bod oxygen n h r =
    record {
      demands_range = of_ℕ_reflect bod 1000000000 r.demands_range;
      demands_below = r.demands_below;
      oxygen_low = of_ℤ_reflect (negsuc 1_640_000_383) oxygen (certify (of_ℕ bod ∷ of_ℤ oxygen ∷ []) (slack r.demands_below ⊞ number bod) (search quote depth 40 fits 9999) tt);
      oxygen_high = of_ℤ_reflect oxygen (pos 20000128) (≼_trans r.oxygen_high (of_ℕ_mono (omega arith)));
    }

module _ {card : Card} {up : Feeders} (own : AcceptedReach card up) (above : AllAccepted up) (shallow : 1 + levels up ≤ 128) where
  pub head_range : Range (demands_at_head card up) (oxygen_at_head card up)
  head_range = whole_range (demands_at_head card up) (oxygen_at_head card up) (levels up) (omega arith) (head_ranged own above shallow)

  pub instant_range : (m : ℕ) → m ≤ foot → Range (demands_at card up m) (oxygen_at card up m)
  instant_range m l =
      whole_range (demands_at card up m) (oxygen_at card up m) (1 + levels up) shallow (along_ranged own above shallow (demands_at card up m) (oxygen_at card up m) (λ head. instant_in_bounds own head m l))

  -- mean oxygen likewise
  pub mean_oxygen_range : Range 0 (mean_oxygen card up)
  mean_oxygen_range = whole_range 0 (mean_oxygen card up) (1 + levels up) shallow (along_ranged own above shallow 0 (mean_oxygen card up) (mean_in_bounds own))
