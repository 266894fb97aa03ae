-- How errors pass from the feeders' feet to a head and along a reach, in fractions, and what a reach adds to them.
use mathlib.Core.List.{[], ◌∷◌}
use Prim.Native.Nat.{ℕ}
use Rattle.decay.specs.Fraction.{Fraction, ◌≈◌, ◌≼◌, of_ℕ, ◌+ᶠ◌, -ᶠ◌, ◌-ᶠ◌, ◌*ᶠ◌, ◌÷◌}
use Rattle.decay.proofs.Algebra.{quote, ring, certify, certify_by, certify_over, slack, number, Nonneg, ◌⊞◌, ◌⊠◌, multiple, ◌⋅◌, ◌&◌, none as no_equations, ≈_refl, ≈_sym, *ᶠ_comm, within_by, ≼_trans, Positive, positive_nonneg, ÷_cancel_pos, Small, Within, small, near, sized, ◌⊞ˢ◌, ◌⊠ˢ◌, small_minus, small_by, bound_nonneg}
use Rattle.report.proofs.Facts.Floor.{Rounded}
use Rattle.report.proofs.Facts.Head.{Dammed}
use Rattle.report.proofs.Facts.Instant.{Floored}

-- a head adds 7 units of rounding: two for each demand (mean, mixing) and three for oxygen (mean, dam with saturation, mixing)
abbrev pub head_units : ℕ
head_units = 7

-- an instant adds 7 units (two roundings of each demand, one of the deficit, saturation at both ends of the formula) and what the factors are
-- off by
abbrev pub instant_units : ℕ
instant_units = 7

-- what a reach adds in all: to those 14 the factors, off by 2^-28 and 2^-31 at most, add 4.51 units, nitrogenous BOD, off by 2^-30 of 2^30 units,
-- one more, and a bed 32.52
abbrev pub added_units : ℕ
added_units = 53

-- three figures b, n and o, two demands and oxygen, lie near exact ones, with errors that together are at most e
pub record Near (b bx n nx o ox e : Fraction) : Type 0 where
  pub bod_error : Fraction
  pub nitrogenous_error : Fraction
  pub oxygen_error : Fraction
  pub bod_near : Within b bx bod_error
  pub nitrogenous_near : Within n nx nitrogenous_error
  pub oxygen_near : Within o ox oxygen_error
  pub together : bod_error +ᶠ nitrogenous_error +ᶠ oxygen_error ≼ e

-- ---- to a head

-- a rounded quotient strays by its divisor more than what is divided
rounded_near : (D q t qx tx e : Fraction) → Nonneg D → Within t tx e → Rounded D q t → D *ᶠ qx ≈ tx → Within (D *ᶠ q) (D *ᶠ qx) (e +ᶠ D)
rounded_near D q t qx tx e p w r x =
    record {
      high = certify (D ∷ q ∷ t ∷ qx ∷ tx ∷ e ∷ []) (slack w.high ⊞ slack r.low ⊞ p ⊞ multiple (of_ℕ 1) (≈_sym x)) (search quote depth 40 fits 9999) tt;
      low = certify (D ∷ q ∷ t ∷ qx ∷ tx ∷ e ∷ []) (slack w.low ⊞ slack r.high ⊞ multiple (of_ℕ 1) x) (search quote depth 40 fits 9999) tt;
    }

-- a dam takes water and error the same part of the way, and rounds once; its saturation is rounded too
dam_near : (Qu v vx cs csx σ w wx d : Fraction) → Nonneg Qu → Nonneg d → cs ≼ csx → csx ≼ cs +ᶠ of_ℕ 1 → Dammed v cs σ w → wx ≈ vx +ᶠ (csx -ᶠ vx) *ᶠ σ → Within (Qu *ᶠ v) (Qu *ᶠ vx) (d +ᶠ Qu) → Within (Qu *ᶠ w) (Qu *ᶠ wx) (d +ᶠ Qu +ᶠ Qu)
dam_near Qu v vx cs csx σ w wx d p pd hl hh dam x n =
    record {
      high = certify (Qu ∷ v ∷ vx ∷ cs ∷ csx ∷ σ ∷ w ∷ wx ∷ d ∷ []) (p ⊠ slack dam.low ⊞ slack dam.part_of_one ⊠ slack n.high ⊞ dam.part ⊠ (p ⊠ slack hl) ⊞ dam.part ⊠ (pd ⊞ p) ⊞ p ⊞ multiple Qu (≈_sym x)) (search quote depth 40 fits 9999) tt;
      low = certify (Qu ∷ v ∷ vx ∷ cs ∷ csx ∷ σ ∷ w ∷ wx ∷ d ∷ []) (p ⊠ slack dam.high ⊞ slack dam.part_of_one ⊠ slack n.low ⊞ dam.part ⊠ (p ⊠ slack hh) ⊞ dam.part ⊠ pd ⊞ multiple Qu x) (search quote depth 40 fits 9999) tt;
    }

-- the same water added to both
plus_same : (a ax W e : Fraction) → Within a ax e → Within (a +ᶠ W) (ax +ᶠ W) e
plus_same a ax W e n =
    near (a ∷ ax ∷ W ∷ e ∷ []) no_equations (small n) (number 0) (search quote depth 40 fits 9999) tt (search quote depth 40 fits 9999) tt

-- times Q within e is within e / Q
over_flow : (Q a b e : Fraction) → Positive Q → Within (Q *ᶠ a) (Q *ᶠ b) e → Within a b (e ÷ Q)
over_flow Q a b e p n =
    record {
      high = certify_over Q p (Q ∷ a ∷ b ∷ e ∷ (e ÷ Q) ∷ []) (of_ℕ 1 ⋅ ÷_cancel_pos e p & no_equations) (slack n.high) (search quote depth 40 fits 9999) tt;
      low = certify_over Q p (Q ∷ a ∷ b ∷ e ∷ (e ÷ Q) ∷ []) (of_ℕ 1 ⋅ ÷_cancel_pos e p & no_equations) (slack n.low) (search quote depth 40 fits 9999) tt;
    }

-- the water at a head: Qm is the flow before the take
pub record HeadWater (Qu Qm inflow : Fraction) : Type 0 where
  pub flowing : Positive Qm
  pub inflowing : Nonneg inflow
  pub upstream : Nonneg Qu
  pub flows : Qm ≈ Qu +ᶠ inflow

-- the steps of a demand to a head, reported and exact: the feeders' sum s, its mean u and the head value h
pub record DemandHead (Qu Qm s u h sx ux hx W₁ W₂ : Fraction) : Type 0 where
  pub mean : Rounded Qu u s
  pub mixed : Rounded Qm h (Qu *ᶠ u +ᶠ W₁ +ᶠ W₂)
  pub exact_mean : Qu *ᶠ ux ≈ sx
  pub exact_mixed : Qm *ᶠ hx ≈ Qu *ᶠ ux +ᶠ W₁ +ᶠ W₂

-- the steps of oxygen likewise, with the dam between
pub record OxygenHead (Qu Qm t v w c tx vx wx cx W₃ cs csx σ : Fraction) : Type 0 where
  pub saturation_low : cs ≼ csx
  pub saturation_high : csx ≼ cs +ᶠ of_ℕ 1
  pub mean : Rounded Qu v t
  pub dam : Dammed v cs σ w
  pub mixed : Rounded Qm c (Qu *ᶠ w +ᶠ W₃)
  pub exact_mean : Qu *ᶠ vx ≈ tx
  pub exact_dam : wx ≈ vx +ᶠ (csx -ᶠ vx) *ᶠ σ
  pub exact_mixed : Qm *ᶠ cx ≈ Qu *ᶠ wx +ᶠ W₃

-- what a demand at a head is off by, from what the feeders' sum is off by
abbrev demand_off : (Qu Qm d : Fraction) → Fraction
demand_off Qu Qm d = (d +ᶠ Qu +ᶠ Qm) ÷ Qm

abbrev oxygen_off : (Qu Qm d : Fraction) → Fraction
oxygen_off Qu Qm d = (d +ᶠ Qu +ᶠ Qu +ᶠ Qm) ÷ Qm

demand_head_near : {Qu Qm inflow s u h sx ux hx W₁ W₂ d : Fraction} → HeadWater Qu Qm inflow → DemandHead Qu Qm s u h sx ux hx W₁ W₂ → Within s sx d → Within h hx (demand_off Qu Qm d)
demand_head_near {Qu} {Qm} {inflow} {s} {u} {h} {sx} {ux} {hx} {W₁} {W₂} {d} q k n =
    over_flow Qm h hx (d +ᶠ Qu +ᶠ Qm) q.flowing (rounded_near Qm h (Qu *ᶠ u +ᶠ W₁ +ᶠ W₂) hx (Qu *ᶠ ux +ᶠ W₁ +ᶠ W₂) (d +ᶠ Qu) (positive_nonneg q.flowing) (plus_same (Qu *ᶠ u +ᶠ W₁) (Qu *ᶠ ux +ᶠ W₁) W₂ (d +ᶠ Qu) (plus_same (Qu *ᶠ u) (Qu *ᶠ ux) W₁ (d +ᶠ Qu) (rounded_near Qu u s ux sx d q.upstream n k.mean k.exact_mean))) k.mixed k.exact_mixed)

oxygen_head_near : {Qu Qm inflow t v w c tx vx wx cx W₃ cs csx σ d : Fraction} → HeadWater Qu Qm inflow → OxygenHead Qu Qm t v w c tx vx wx cx W₃ cs csx σ → Within t tx d → Within c cx (oxygen_off Qu Qm d)
oxygen_head_near {Qu} {Qm} {inflow} {t} {v} {w} {c} {tx} {vx} {wx} {cx} {W₃} {cs} {csx} {σ} {d} q k n =
    over_flow Qm c cx (d +ᶠ Qu +ᶠ Qu +ᶠ Qm) q.flowing (rounded_near Qm c (Qu *ᶠ w +ᶠ W₃) cx (Qu *ᶠ wx +ᶠ W₃) (d +ᶠ Qu +ᶠ Qu) (positive_nonneg q.flowing) (plus_same (Qu *ᶠ w) (Qu *ᶠ wx) W₃ (d +ᶠ Qu +ᶠ Qu) (dam_near Qu v vx cs csx σ w wx d q.upstream (bound_nonneg (small n)) k.saturation_low k.saturation_high k.dam k.exact_dam (rounded_near Qu v t vx tx d q.upstream n k.mean k.exact_mean))) k.mixed k.exact_mixed)

-- from the feeders' feet, off by b together, to the head, off by b / Qm and what a head adds
pub head_near : {Qu Qm inflow s u h sx ux hx W₁ W₂ s' u' h' sx' ux' hx' W₁' W₂' t v w c tx vx wx cx W₃ cs csx σ b : Fraction} → HeadWater Qu Qm inflow → DemandHead Qu Qm s u h sx ux hx W₁ W₂ → DemandHead Qu Qm s' u' h' sx' ux' hx' W₁' W₂' → OxygenHead Qu Qm t v w c tx vx wx cx W₃ cs csx σ → Near s sx s' sx' t tx b → Near h hx h' hx' c cx (b ÷ Qm +ᶠ of_ℕ head_units)
head_near {Qu} {Qm} {inflow} {b = b} q bod nitrogenous oxygen n =
    let d = n.bod_error in
    let f = n.nitrogenous_error in
    let e = n.oxygen_error in
    record {
      bod_error = demand_off Qu Qm d;
      nitrogenous_error = demand_off Qu Qm f;
      oxygen_error = oxygen_off Qu Qm e;
      bod_near = demand_head_near q bod n.bod_near;
      nitrogenous_near = demand_head_near q nitrogenous n.nitrogenous_near;
      oxygen_near = oxygen_head_near q oxygen n.oxygen_near;
      together = certify_over Qm q.flowing (Qm ∷ Qu ∷ inflow ∷ b ∷ d ∷ f ∷ e ∷ (b ÷ Qm) ∷ demand_off Qu Qm d ∷ demand_off Qu Qm f ∷ oxygen_off Qu Qm e ∷ []) (of_ℕ 1 ⋅ ÷_cancel_pos b q.flowing & of_ℕ 1 ⋅ ÷_cancel_pos (d +ᶠ Qu +ᶠ Qm) q.flowing & of_ℕ 1 ⋅ ÷_cancel_pos (f +ᶠ Qu +ᶠ Qm) q.flowing & of_ℕ 1 ⋅ ÷_cancel_pos (e +ᶠ Qu +ᶠ Qu +ᶠ Qm) q.flowing & of_ℕ 4 ⋅ q.flows & no_equations) (slack n.together ⊞ number 4 ⊠ q.inflowing) (search quote depth 40 fits 9999) tt;
    }

-- ---- along a reach

floored_small : {f x : Fraction} → Floored f x → Small (f -ᶠ x) (of_ℕ 1)
floored_small {f} {x} h =
    record {
      high = certify (f ∷ x ∷ []) (slack h.low ⊞ number 1) (search quote depth 40 fits 9999) tt;
      low = certify (f ∷ x ∷ []) (slack h.high) (search quote depth 40 fits 9999) tt;
    }

-- an exact share is little larger than the reported one
share_small : {p S e : Fraction} → Nonneg p → Within p S e → Small S (p +ᶠ e)
share_small {p} {S} {e} h w =
    small_by (ring (p ∷ S ∷ []) (search quote depth 40 fits 9999) tt) (sized h ⊞ˢ small_minus (small w))

-- A demand at an instant, reported and exact: its shares left and turned, near the exact ones; what is left and what has turned of its head
-- value L in the program's digits, x and y, off by h₁ and h₂; and these rounded down, B and G.
pub record DemandInstant (p g S F e₁ e₂ ε L x y h₁ h₂ η B G : Fraction) : Type 0 where
  pub left_part : Nonneg p
  pub turned_part : Nonneg g
  pub part_of_one : p +ᶠ g ≼ of_ℕ 1
  pub left_near : Within p S e₁
  pub turned_near : Within g F e₂
  pub factors_near : e₁ +ᶠ e₂ ≼ ε
  pub left_value : Within x (S *ᶠ L) h₁
  pub turned_value : Within y (F *ᶠ L) h₂
  pub values_near : h₁ +ᶠ h₂ ≼ η
  pub left_floored : Floored B x
  pub turned_floored : Floored G y

-- the deficit of the head and the loss to a bed likewise
pub record OxygenInstant (r S₂ δ ε c cs csx R D T Tx τ : Fraction) : Type 0 where
  pub kept_part : Nonneg r
  pub kept_of_one : r ≼ of_ℕ 1
  pub kept_near : Within r S₂ δ
  pub sharper : δ ≼ ε
  pub kept_floored : Floored R (r *ᶠ (cs -ᶠ c))
  pub head_deficit : Small (cs -ᶠ c) D
  pub saturation_near : Within cs csx (of_ℕ 1)
  pub loss_near : Within T Tx τ

-- a part of a figure L that is off by d, rounded down, against the exact share of the exact figure
abbrev part_off : (p e h d : Fraction) → Fraction
part_off p e h d = of_ℕ 1 +ᶠ h +ᶠ (p +ᶠ e) *ᶠ d

part_near : {p S e L Lx x h B d : Fraction} → Nonneg p → Within p S e → Within x (S *ᶠ L) h → Floored B x → Within L Lx d → Within B (S *ᶠ Lx) (part_off p e h d)
part_near {p} {S} {e} {L} {Lx} {x} {h} {B} {d} pp n v f w =
    near (p ∷ S ∷ e ∷ L ∷ Lx ∷ x ∷ h ∷ B ∷ d ∷ []) no_equations (floored_small f ⊞ˢ small v ⊞ˢ share_small pp n ⊠ˢ small w) (number 0) (search quote depth 40 fits 9999) tt (search quote depth 40 fits 9999) tt

-- the deficit kept likewise: head oxygen is off by e, and saturation by a unit
abbrev kept_off : (r δ D e : Fraction) → Fraction
kept_off r δ D e = of_ℕ 1 +ᶠ δ *ᶠ D +ᶠ (r +ᶠ δ) *ᶠ (of_ℕ 1 +ᶠ e)

kept_deficit_near : {r S₂ δ ε c cx cs csx R D T Tx τ e : Fraction} → OxygenInstant r S₂ δ ε c cs csx R D T Tx τ → Within c cx e → Within R (S₂ *ᶠ (csx -ᶠ cx)) (kept_off r δ D e)
kept_deficit_near {r} {S₂} {δ} {ε} {c} {cx} {cs} {csx} {R} {D} {T} {Tx} {τ} {e} o n =
    near (r ∷ S₂ ∷ δ ∷ c ∷ cx ∷ cs ∷ csx ∷ R ∷ D ∷ e ∷ []) no_equations (floored_small o.kept_floored ⊞ˢ small o.kept_near ⊠ˢ o.head_deficit ⊞ˢ share_small o.kept_part o.kept_near ⊠ˢ (small o.saturation_near ⊞ˢ small_minus (small n))) (number 0) (search quote depth 40 fits 9999) tt (search quote depth 40 fits 9999) tt

-- saturation less four parts that are each near
less_near : {cs csx σ G Gx a H Hx b R Rx k T Tx τ : Fraction} → Within cs csx σ → Within G Gx a → Within H Hx b → Within R Rx k → Within T Tx τ → Within (cs -ᶠ G -ᶠ R -ᶠ H -ᶠ T) (csx -ᶠ Gx -ᶠ Hx -ᶠ Rx -ᶠ Tx) (σ +ᶠ a +ᶠ b +ᶠ k +ᶠ τ)
less_near {cs} {csx} {σ} {G} {Gx} {a} {H} {Hx} {b} {R} {Rx} {k} {T} {Tx} {τ} w g h r t =
    near (cs ∷ csx ∷ σ ∷ G ∷ Gx ∷ a ∷ H ∷ Hx ∷ b ∷ R ∷ Rx ∷ k ∷ T ∷ Tx ∷ τ ∷ []) no_equations (small w ⊞ˢ small_minus (small g) ⊞ˢ small_minus (small h) ⊞ˢ small_minus (small r) ⊞ˢ small_minus (small t)) (number 0) (search quote depth 40 fits 9999) tt (search quote depth 40 fits 9999) tt

-- both parts of a demand together are off by no more than the program's digits are, and its head value
demand_room : {p g S F e₁ e₂ ε L x y h₁ h₂ η B G Lx d : Fraction} → DemandInstant p g S F e₁ e₂ ε L x y h₁ h₂ η B G → Within L Lx d → Nonneg (of_ℕ 2 +ᶠ η +ᶠ (of_ℕ 1 +ᶠ ε) *ᶠ d -ᶠ (part_off p e₁ h₁ d +ᶠ part_off g e₂ h₂ d))
demand_room {p} {g} {S} {F} {e₁} {e₂} {ε} {L} {x} {y} {h₁} {h₂} {η} {B} {G} {Lx} {d} j w =
    certify (p ∷ g ∷ e₁ ∷ e₂ ∷ ε ∷ h₁ ∷ h₂ ∷ η ∷ d ∷ []) (slack j.values_near ⊞ slack j.factors_near ⊠ bound_nonneg (small w) ⊞ slack j.part_of_one ⊠ bound_nonneg (small w)) (search quote depth 40 fits 9999) tt

-- from a head whose figures are off by `off` together
pub instant_near : {p g S F e₁ e₂ ε L x y h₁ h₂ η B G p' g' S' F' e₁' e₂' L' x' y' h₁' h₂' η' B' G' r S₂ δ c cs csx R D T Tx τ : Fraction} (Lx Lx' cx off : Fraction) → DemandInstant p g S F e₁ e₂ ε L x y h₁ h₂ η B G → DemandInstant p' g' S' F' e₁' e₂' ε L' x' y' h₁' h₂' η' B' G' → OxygenInstant r S₂ δ ε c cs csx R D T Tx τ → Near L Lx L' Lx' c cx off
    → Near B (Lx *ᶠ S) B' (Lx' *ᶠ S') (cs -ᶠ G -ᶠ R -ᶠ G' -ᶠ T) (csx -ᶠ F *ᶠ Lx -ᶠ F' *ᶠ Lx' -ᶠ S₂ *ᶠ (csx -ᶠ cx) -ᶠ Tx) (of_ℕ instant_units +ᶠ δ +ᶠ (η +ᶠ η') +ᶠ δ *ᶠ D +ᶠ τ +ᶠ (of_ℕ 1 +ᶠ ε) *ᶠ off)
instant_near {p} {g} {S} {F} {e₁} {e₂} {ε} {L} {x} {y} {h₁} {h₂} {η} {B} {G} {p'} {g'} {S'} {F'} {e₁'} {e₂'} {L'} {x'} {y'} {h₁'} {h₂'} {η'} {B'} {G'} {r} {S₂} {δ} {c} {cs} {csx} {R} {D} {T} {Tx} {τ} Lx Lx' cx off j k o n =
    let d = n.bod_error in
    let d' = n.nitrogenous_error in
    let e = n.oxygen_error in
    let pε = ≼_trans (bound_nonneg (small o.kept_near)) o.sharper in
    record {
      bod_error = part_off p e₁ h₁ d;
      nitrogenous_error = part_off p' e₁' h₁' d';
      oxygen_error = of_ℕ 1 +ᶠ part_off g e₂ h₂ d +ᶠ part_off g' e₂' h₂' d' +ᶠ kept_off r δ D e +ᶠ τ;
      bod_near = within_by (≈_refl B) (*ᶠ_comm Lx S) (part_near j.left_part j.left_near j.left_value j.left_floored n.bod_near);
      nitrogenous_near = within_by (≈_refl B') (*ᶠ_comm Lx' S') (part_near k.left_part k.left_near k.left_value k.left_floored n.nitrogenous_near);
      oxygen_near = less_near o.saturation_near (part_near j.turned_part j.turned_near j.turned_value j.turned_floored n.bod_near) (part_near k.turned_part k.turned_near k.turned_value k.turned_floored n.nitrogenous_near) (kept_deficit_near o n.oxygen_near) o.loss_near;
      together = certify (p ∷ g ∷ e₁ ∷ e₂ ∷ h₁ ∷ h₂ ∷ η ∷ d ∷ p' ∷ g' ∷ e₁' ∷ e₂' ∷ h₁' ∷ h₂' ∷ η' ∷ d' ∷ r ∷ ε ∷ δ ∷ D ∷ τ ∷ e ∷ off ∷ []) (slack o.kept_of_one ⊠ (number 1 ⊞ bound_nonneg (small n.oxygen_near)) ⊞ slack o.sharper ⊠ bound_nonneg (small n.oxygen_near) ⊞ demand_room j n.bod_near ⊞ demand_room k n.nitrogenous_near ⊞ (number 1 ⊞ pε) ⊠ slack n.together) (search quote depth 40 fits 9999) tt;
    }

-- a bed's share of its loss in the end, off by δ as the deficit left is, against the exact one: that loss is rounded down, and so is its share
pub eventual_near : {r S₂ δ c cx T : Fraction} → Nonneg r → r ≼ of_ℕ 1 → Nonneg c → Within r S₂ δ → Floored c cx → Floored T ((of_ℕ 1 -ᶠ r) *ᶠ c) → Within T (cx *ᶠ (of_ℕ 1 -ᶠ S₂)) (of_ℕ 2 +ᶠ δ *ᶠ (c +ᶠ of_ℕ 1))
eventual_near {r} {S₂} {δ} {c} {cx} {T} pr r1 pc n fc fT =
    near (r ∷ S₂ ∷ δ ∷ c ∷ cx ∷ T ∷ []) no_equations (floored_small fT ⊞ˢ small_minus (small n) ⊠ˢ sized pc ⊞ˢ floored_small fc ⊠ˢ share_small {p = of_ℕ 1 -ᶠ r} {S = of_ℕ 1 -ᶠ S₂} {e = δ} (slack r1) gone) pr (search quote depth 40 fits 9999) tt (search quote depth 40 fits 9999) tt
  where
    gone : Within (of_ℕ 1 -ᶠ r) (of_ℕ 1 -ᶠ S₂) δ
    gone = near (r ∷ S₂ ∷ δ ∷ []) no_equations (small_minus (small n)) (number 0) (search quote depth 40 fits 9999) tt (search quote depth 40 fits 9999) tt

-- the part a of a loss at the foot, both rounded down, against the exact one
pub linear_near : {a t tx T : Fraction} → Nonneg a → a ≼ of_ℕ 1 → Floored t tx → Floored T (t *ᶠ a) → Within T (tx *ᶠ a) (of_ℕ 2)
linear_near {a} {t} {tx} {T} pa a1 ft fT =
    near (a ∷ t ∷ tx ∷ T ∷ []) no_equations (floored_small fT ⊞ˢ floored_small ft ⊠ˢ sized pa) (slack a1) (search quote depth 40 fits 9999) tt (search quote depth 40 fits 9999) tt

-- units that cover what a reach adds to the error a that is carried to it: at its head, and at an instant while a is at most 1 mg/L
pub head_adds : (a units : Fraction) → of_ℕ added_units ≼ units → a +ᶠ of_ℕ head_units ≼ units +ᶠ a
head_adds a units h =
    certify (a ∷ units ∷ []) (slack h ⊞ number 46) (search quote depth 40 fits 9999) tt

pub reach_adds : (ε δ L τ a units : Fraction) → Nonneg δ → of_ℕ 2_147_483_648 *ᶠ δ ≈ of_ℕ 1 → ε ≈ of_ℕ 8 *ᶠ δ → L ≼ of_ℕ 1_000_000_000 → τ ≼ of_ℕ 2 +ᶠ δ *ᶠ of_ℕ 65_535_000_001 → a ≼ of_ℕ 1_000_000 → of_ℕ added_units ≼ units → of_ℕ instant_units +ᶠ δ +ᶠ (ε *ᶠ L +ᶠ of_ℕ 1) +ᶠ δ *ᶠ of_ℕ 1_660_000_000 +ᶠ τ +ᶠ (of_ℕ 1 +ᶠ ε) *ᶠ (a +ᶠ of_ℕ head_units) ≼ units +ᶠ a
reach_adds ε δ L τ a units p e e' hL hτ ha hu =
    certify_by (ε ∷ δ ∷ L ∷ τ ∷ a ∷ units ∷ []) (of_ℕ 36 ⋅ e & (L +ᶠ a +ᶠ of_ℕ head_units) ⋅ e' & no_equations) (slack hu ⊞ slack hτ ⊞ p ⊠ (number 8 ⊠ (slack hL ⊞ slack ha) ⊞ number 2_106_411_270)) (search quote depth 40 fits 9999) tt
