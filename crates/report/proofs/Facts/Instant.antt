-- The figures of an instant as inequalities of fractions: each share of a head figure is rounded down.
use mathlib.Core.List.{[], ◌∷◌}
use Prim.Native.Nat.{ℕ, ◌+◌, ◌≤◌, ◌<◌}
use native.Mathlib.Omega.{arith}
use lib.IntN.{ℤ, pos, ◌-ℤ◌, ◌*ℤ◌}
use Rattle.decay.specs.Fraction.{Fraction, ◌≈◌, ◌≼◌, of_ℕ, of_ℤ, ◌+ᶠ◌, -ᶠ◌, ◌-ᶠ◌, ◌*ᶠ◌, ◌÷◌}
use Rattle.decay.specs.Fixed.{one, product}
use Rattle.decay.specs.held.Promise.{share}
use Rattle.decay.specs.held.Factors.{AreShares}
use Rattle.decay.specs.declared.factors.Factors.{Factors}
use Rattle.decay.proofs.fixed.Digits.{one_pos}
use Rattle.decay.proofs.Algebra.{Nonneg, quote, slack, ◌⊞◌, multiple, ≈_refl, ≈_sym, ≈_trans, ≼_trans, ≼_of-≈, of_ℤ-*, +ᶠ_cong, *ᶠ_cong, positive_whole, certify_over, ÷_cancel_pos, none as no_equations, of_ℕ_mono, of_ℕ-+}
use Rattle.flows.specs.Head.{floor}
use Rattle.report.specs.held.Digits.{oxygen_with}
use Rattle.report.proofs.Facts.Head.{share_of}
use Rattle.report.proofs.Facts.Floor.{floor_rounded, of_ℤ_sub}

-- f is x rounded down
pub record Floored (f x : Fraction) : Type 0 where
  pub low : f ≼ x
  pub high : x ≼ f +ᶠ of_ℕ 1

pub floored_by : {f x y : Fraction} → x ≈ y → Floored f x → Floored f y
floored_by e h = record { low = ≼_trans h.low (≼_of-≈ e); high = ≼_trans (≼_of-≈ (≈_sym e)) h.high }

-- n / d of z, rounded down
part_floored : (n d : ℕ) (z : ℤ) → 0 < d → Floored (of_ℤ (floor (pos n *ℤ z) d)) (of_ℕ n ÷ of_ℕ d *ᶠ of_ℤ z)
part_floored n d z p =
    let rounded = floor_rounded (pos n *ℤ z) d p in
    let f = of_ℤ (floor (pos n *ℤ z) d) in
    let ez : of_ℤ (pos n *ℤ z) ≈ of_ℕ n *ᶠ of_ℤ z = of_ℤ-* (pos n) z in
    let es : of_ℕ n ÷ of_ℕ d *ᶠ of_ℕ d ≈ of_ℕ n = ÷_cancel_pos (of_ℕ n) (positive_whole p) in
    let vs = of_ℕ d ∷ of_ℕ n ∷ (of_ℕ n ÷ of_ℕ d) ∷ of_ℤ z ∷ f ∷ of_ℤ (pos n *ℤ z) ∷ [] in
    record {
      low = certify_over (of_ℕ d) (positive_whole p) vs no_equations (slack rounded.low ⊞ multiple (of_ℕ 1) ez ⊞ multiple (of_ℤ z) (≈_sym es)) (search quote depth 40 fits 9999) tt;
      high = certify_over (of_ℕ d) (positive_whole p) vs no_equations (slack rounded.high ⊞ multiple (of_ℕ 1) (≈_sym ez) ⊞ multiple (of_ℤ z) es) (search quote depth 40 fits 9999) tt;
    }

-- a fixed-point share of a whole number, rounded down
pub share_floored : (n : ℕ) (z : ℤ) → Floored (of_ℤ (floor (pos n *ℤ z) one)) (share n *ᶠ of_ℤ z)
unfolding share
share_floored n z = part_floored n one z one_pos

pub product_floored : (n L : ℕ) → Floored (of_ℕ (product n L)) (share n *ᶠ of_ℕ L)
unfolding product floor
product_floored n L = share_floored n (pos L)

-- the shares of factors in range
pub record Shares (left turned kept : Fraction) : Type 0 where
  pub left_part : Nonneg left
  pub turned_part : Nonneg turned
  pub bod_of_one : left +ᶠ turned ≼ of_ℕ 1
  pub kept_part : Nonneg kept
  pub kept_of_one : kept ≼ of_ℕ 1

two_parts : (a b d : ℕ) → 0 < d → a + b ≤ d → of_ℕ a ÷ of_ℕ d +ᶠ of_ℕ b ÷ of_ℕ d ≼ of_ℕ 1
two_parts a b d p h =
    certify_over (of_ℕ d) (positive_whole p) (of_ℕ d ∷ of_ℕ a ∷ of_ℕ b ∷ (of_ℕ a ÷ of_ℕ d) ∷ (of_ℕ b ÷ of_ℕ d) ∷ of_ℕ (a + b) ∷ []) no_equations (slack (of_ℕ_mono h) ⊞ multiple (of_ℕ 1) (≈_sym (of_ℕ-+ a b)) ⊞ multiple (of_ℕ 1) (÷_cancel_pos (of_ℕ a) (positive_whole p)) ⊞ multiple (of_ℕ 1) (÷_cancel_pos (of_ℕ b) (positive_whole p))) (search quote depth 40 fits 9999) tt

pub shares_in_range : (f : Factors) → AreShares f → Shares (share f.left) (share f.turned) (share f.kept)
unfolding share
shares_in_range f r =
    record {
      left_part = (share_of f.left one one_pos (omega (arith, r.bod))).0;
      turned_part = (share_of f.turned one one_pos (omega (arith, r.bod))).0;
      bod_of_one = two_parts f.left f.turned one one_pos r.bod;
      kept_part = (share_of f.kept one one_pos r.deficit).0;
      kept_of_one = (share_of f.kept one one_pos r.deficit).1;
    }

-- the deficit kept of the head's, rounded down
unfoldable pub kept_deficit : Factors → (Cs : ℕ) (C : ℤ) → ℤ
kept_deficit f Cs C = floor (pos f.kept *ℤ (pos Cs -ℤ C)) one

pub kept_floored : (f : Factors) (Cs : ℕ) (C : ℤ) → Floored (of_ℤ (kept_deficit f Cs C)) (share f.kept *ᶠ (of_ℕ Cs -ᶠ of_ℤ C))
unfolding kept_deficit
kept_floored f Cs C =
    floored_by (*ᶠ_cong (≈_refl (share f.kept)) (of_ℤ_sub (pos Cs) C)) (share_floored f.kept (pos Cs -ℤ C))

-- oxygen is saturation less what has turned of each demand, what is kept of the deficit, and the loss to a bed
pub oxygen_parts : (f : Factors) (Cs L : ℕ) (C : ℤ) (turned loss : ℕ) → of_ℤ (oxygen_with f Cs L C -ℤ pos turned -ℤ pos loss) ≈ of_ℕ Cs -ᶠ of_ℕ (product f.turned L) -ᶠ of_ℤ (kept_deficit f Cs C) -ᶠ of_ℕ turned -ᶠ of_ℕ loss
unfolding oxygen_with kept_deficit
oxygen_parts f Cs L C turned loss =
    let G = product f.turned L in
    let R = kept_deficit f Cs C in
    less (pos Cs -ℤ pos G -ℤ R -ℤ pos turned) (pos loss) (less (pos Cs -ℤ pos G -ℤ R) (pos turned) (less (pos Cs -ℤ pos G) R (of_ℤ_sub (pos Cs) (pos G))))
  where
    less : {x : Fraction} (a b : ℤ) → of_ℤ a ≈ x → of_ℤ (a -ℤ b) ≈ x -ᶠ of_ℤ b
    less a b e = ≈_trans (of_ℤ_sub a b) (+ᶠ_cong e (≈_refl (-ᶠ (of_ℤ b))))
