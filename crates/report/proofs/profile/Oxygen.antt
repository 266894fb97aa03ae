-- Oxygen along a reach, stored with the offset 2^31: what the program computes in natural numbers is the signed definition.
-- Assumes nothing.
use mathlib.Core.Path.{◌≡◌, refl, sym, ap, ◌∙◌}
use mathlib.Core.Bool.{false, not}
use Prim.Native.Nat.{ℕ, suc, ◌+◌, ◌-◌, ◌*◌, ◌/◌, ◌≤◌, ◌<◌}
use native.Mathlib.Nat.{add-mul, div-le_of_le-mul}
use native.Mathlib.Omega.{arith}
use lib.Dec.{eqb}
use lib.IntN.{ℤ, pos, neg_ℤ, neg_ℤ-neg_ℤ, ◌-ℤ◌, ◌*ℤ◌}
use Rattle.flows.specs.Head.{floor}
use Rattle.flows.proofs.head.Offset.{sub_pos, sub_neg, sub_eq, minus, sub_plus}
use Rattle.decay.specs.Fixed.{one, product}
use Rattle.decay.specs.held.Factors.{AreShares}
use Rattle.decay.specs.declared.factors.DemandFactors.{DemandFactors}
use Rattle.decay.specs.declared.factors.Factors.{Factors}
use Rattle.decay.proofs.fixed.Digits.{share_below}
use Rattle.report.specs.held.Bed.{loss_limit}
use Rattle.report.specs.held.Digits.{unit_parts, oxygen_with}
use Rattle.report.specs.declared.course.Start.{Start}
use Rattle.report.proofs.bed.Loss.{less_nothing}
use Rattle.report.proofs.profile.Offset.{sub_less, less_sub, floor_surplus}
use Rattle.flows.specs.held.Stored.{stored_zero, oxygen_of, Stores}

-- what is left of a deficit, and of a surplus, rounded down
floor_deficit : (k Cs c : ℕ) → c ≤ Cs + stored_zero → floor (pos k *ℤ (pos Cs -ℤ oxygen_of c)) one ≡ pos (product k (Cs + stored_zero - c))
unfolding floor product oxygen_of
floor_deficit k Cs c h =
    ap (λ (z : ℤ). floor (pos k *ℤ z) one) (less_sub Cs c stored_zero ∙ sub_pos (Cs + stored_zero) c h)

floor_over :
    (k Cs c : ℕ) →
    k ≤ one →
    Cs + stored_zero < c →
    floor (pos k *ℤ (pos Cs -ℤ oxygen_of c)) one ≡ neg_ℤ (pos (c - (Cs + stored_zero) - product (one - k) (c - (Cs + stored_zero))))
unfolding product oxygen_of
floor_over k Cs c h l =
    ap (λ (z : ℤ). floor (pos k *ℤ z) one) (less_sub Cs c stored_zero ∙ sub_neg (Cs + stored_zero) c l)
    ∙ floor_surplus ((one - k) * d) (k * suc (c - suc (Cs + stored_zero))) d whole
  where
    d : ℕ
    d = c - (Cs + stored_zero)

    whole : (one - k) * (c - (Cs + stored_zero)) + k * suc (c - suc (Cs + stored_zero)) ≡ one * (c - (Cs + stored_zero))
    whole =
        ap (λ (n : ℕ). (one - k) * d + k * n) (omega arith)
        ∙ sym (add-mul (one - k) k d)
        ∙ ap (λ (n : ℕ). n * d) (omega arith)

-- oxygen below saturation, stored with the offset
oxygen_under :
    (f : Factors) (Cs L c : ℕ) →
    c ≤ Cs + stored_zero →
    product f.turned L + product f.kept (Cs + stored_zero - c) ≤ Cs + stored_zero →
    oxygen_of (Cs + stored_zero - product f.turned L - product f.kept (Cs + stored_zero - c)) ≡ oxygen_with f Cs L (oxygen_of c)
unfolding oxygen_with oxygen_of
oxygen_under f Cs L c h k =
    sym
    (rw (floor_deficit f.kept Cs c h, minus Cs g)
    (sub_less Cs g left ∙ sub_eq Cs (g + left) (Cs + stored_zero - g - left) stored_zero (omega arith)))
  where
    g : ℕ
    g = product f.turned L

    left : ℕ
    left = product f.kept (Cs + stored_zero - c)

-- oxygen above saturation likewise
oxygen_over_lem :
    (f : Factors) (Cs L c : ℕ) →
    f.kept ≤ one →
    Cs + stored_zero < c →
    product f.turned L ≤ Cs + stored_zero →
    oxygen_of (Cs + stored_zero - product f.turned L + (c - (Cs + stored_zero)) - product (one - f.kept) (c - (Cs + stored_zero))) ≡ oxygen_with f Cs L (oxygen_of c)
unfolding oxygen_with oxygen_of
oxygen_over_lem f Cs L c h k l =
    sym
    (rw (floor_over f.kept Cs c h k, minus Cs g, neg_ℤ-neg_ℤ)
    (sub_plus Cs g (d - lost)
    ∙ sub_eq (Cs + (d - lost)) g (Cs + stored_zero - g + d - lost) stored_zero
    (omega (arith, share_below (one - f.kept) d (omega arith)))))
  where
    g : ℕ
    g = product f.turned L

    d : ℕ
    d = c - (Cs + stored_zero)

    lost : ℕ
    lost = product (one - f.kept) (c - (Cs + stored_zero))

-- what the program returns, from the products that it was given; the nitrogenous demand and a bed may take their most of it
module _ (f : Factors) (h : Start) (s : AreShares f) where
  pub turned_below : product f.turned h.bod ≤ h.bod
  turned_below = share_below f.turned h.bod (omega arith)

  pub holds_under :
      (g left : ℕ) →
      g ≡ product f.turned h.bod →
      h.oxygen ≤ h.saturation + stored_zero →
      left ≡ product f.kept (h.saturation + stored_zero - h.oxygen) →
      Stores (h.saturation + stored_zero - g - left) (oxygen_with f h.saturation h.bod (oxygen_of h.oxygen)) × (h.nitrogenous + loss_limit ≤ h.saturation + stored_zero - g - left)
  holds_under g left eg k el =
      let r = h.range in
      let kept = share_below f.kept (h.saturation + stored_zero - h.oxygen) s.deficit in (
        record {
          is = rw (eg, el) (oxygen_under f h.saturation h.bod h.oxygen k (omega (arith, turned_below, kept, r.low)));
          fits = omega (arith, r.saturated);
        },
        omega (arith, turned_below, kept, r.low),
      )

  pub holds_over :
      (g lost : ℕ) →
      g ≡ product f.turned h.bod →
      h.saturation + stored_zero < h.oxygen →
      lost ≡ product (one - f.kept) (h.oxygen - (h.saturation + stored_zero)) →
      Stores (h.saturation + stored_zero - g + (h.oxygen - (h.saturation + stored_zero)) - lost) (oxygen_with f h.saturation h.bod (oxygen_of h.oxygen)) × (h.nitrogenous + loss_limit ≤ h.saturation + stored_zero - g + (h.oxygen - (h.saturation + stored_zero)) - lost)
  holds_over g lost eg k el =
      let r = h.range in (
        record {
          is = rw (eg, el) (oxygen_over_lem f h.saturation h.bod h.oxygen s.deficit k (omega (arith, turned_below, r.demands)));
          fits = omega (arith, r.high);
        },
        omega (arith, turned_below, r.low, r.demands, share_below (one - f.kept) (h.oxygen - (h.saturation + stored_zero)) (omega arith)),
      )

-- stored oxygen less what something else takes
pub less_stored : {o : ℕ} {z : ℤ} (loss : ℕ) → Stores o z → loss ≤ o → Stores (o - loss) (z -ℤ pos loss)
unfolding oxygen_of
less_stored {o} loss s h =
    record {
      is = sym (ap (λ (x : ℤ). x -ℤ pos loss) (sym s.is) ∙ sub_less o stored_zero loss ∙ sub_eq o (stored_zero + loss) (o - loss) stored_zero (omega arith));
      fits = omega (arith, s.fits);
    }

-- and less nothing
pub nothing_less : {o loss : ℕ} {z : ℤ} → loss ≡ 0 → Stores o z → Stores o (z -ℤ pos loss)
nothing_less {z = z} e s = rw (less_nothing {z = z} e) s

-- a const parameter that is false
pub off : {n : ℕ} → n ≡ 0 → not (eqb n 0) ≡ false
off e = rw e refl

-- no part makes no unit
pub no_parts : 0 / unit_parts ≡ 0
no_parts = refl

-- of parts that are at most those of L units there turn at most L units
pub turned_at_most : (d : DemandFactors) (L : ℕ) → d.left + d.turned ≤ unit_parts * L → d.turned / unit_parts ≤ L
turned_at_most d L h = div-le_of_le-mul unit_parts (omega arith)
