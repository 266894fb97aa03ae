-- Where oxygen is surely nowhere below zero along a reach: no more of a demand turns on the way to an instant than is lost on the way to the foot, a bed takes
-- no more than at the foot, and the share kept of the head's deficit leaves at least the lesser of head oxygen and saturation. Assumes nothing.
use mathlib.Core.Path.{◌≡◌, refl}
use mathlib.Core.Bool.{false}
use Prim.Native.Nat.{ℕ, ◌+◌, ◌-◌, ◌*◌, ◌≤◌, ◌<◌}
use native.Mathlib.Decide.{dec_le}
use native.Mathlib.Nat.{le_refl, le_trans, sub-le, mul-le-mul_left}
use native.Mathlib.Omega.{arith}
use borrow.Author.Tests.{le-ltb}
use lib.Dec.{le→leb, leb→le}
use lib.IntN.{ℤ, pos, negsuc, ◌-ℤ◌}
use lib.Signed.{lt_z, ◌≤ℤ◌}
use Rattle.decay.specs.Exact.{foot}
use Rattle.decay.specs.Fixed.{one, product}
use Rattle.decay.specs.held.Step.{step_of}
use Rattle.decay.specs.held.Factors.{AreShares, demand_from, next_factors, factors_at}
use Rattle.decay.specs.declared.step.Step.{Step}
use Rattle.decay.specs.declared.factors.Factors.{Factors}
use Rattle.decay.proofs.Exponential.{UpTo, here, further, up_to}
use Rattle.decay.proofs.fixed.Digits.{share_below, shares_below, product_mono}
use Rattle.decay.proofs.step.Shares.{step_sound}
use Rattle.decay.proofs.factors.Instants.{range, demand_range, left_never_rises}
use Rattle.river.specs.declared.card.Card.{Card}
use Rattle.flows.specs.declared.head.Head.{Head}
use Rattle.river.specs.declared.source.Demand.{Demand}
use Rattle.river.specs.declared.source.Demand.TheVariants.{Bod, Nitrogenous}
use Rattle.river.specs.Source.{rate_of}
use Rattle.flows.specs.Saturation.{saturation_of}
use Rattle.flows.specs.held.Stored.{stored_zero, oxygen_of, Stores}
use Rattle.flows.proofs.head.Offset.{sub_pos, minus}
use Rattle.report.specs.held.Bed.{bed_of, loss_with, loss_limit}
use Rattle.report.specs.Program.{lowest}
use Rattle.report.specs.held.Digits.{unit_parts, oxygen_with, factors_along, parts_along, demand_along, turned_along, loss_along, oxygen_along}
use Rattle.report.specs.held.Lines.{LineReady, HeadFits}
use Rattle.report.specs.held.Along.{AlongBelow}
use Rattle.report.specs.declared.course.Start.{Start}
use Rattle.report.specs.declared.along.ReachAlong.{ReachAlong}
use Rattle.report.proofs.Lowest.{lowest_first}
use Rattle.report.proofs.bed.Loss.{bed_in_range, loss_in_range}
use Rattle.report.proofs.lines.Lines.{start_range}
use Rattle.report.proofs.profile.Oxygen.{holds_under, holds_over}

-- what is left of a demand never rises from an instant to a later one
falls_to : (s : Step) (start : ℕ) {m n : ℕ} → UpTo m n → (demand_from start s n).left ≤ (demand_from start s m).left
unfolding demand_from
falls_to s start here = omega arith
falls_to s start (further {N = n} u) =
    le_trans (sub-le (demand_from start s n).left (product (demand_from start s n).left s.lost)) (falls_to s start u)

-- the factors of BOD are shares of one
factors_range : {card : Card} {Q : ℕ} → LineReady card Q → (m : ℕ) → AreShares (factors_along card Q m)
unfolding factors_along
factors_range ready m = range (step_sound _ _ _ _ (ready.rates Bod)) m

-- no more of a demand has turned at an instant than is lost on the way to the foot
turned_within : {card : Card} {Q : ℕ} → LineReady card Q → (d : Demand) (L m : ℕ) → m ≤ foot → demand_along d card Q L foot + turned_along d card Q L m ≤ L
unfolding demand_along turned_along factors_along parts_along
turned_within {card} {Q} ready Bod L m l =
    shares_below _ _ L (omega (arith, (factors_range ready m).bod, left_never_rises (step_of card.k1 card.k2 card.volume Q) l))
turned_within {card} {Q} ready Nitrogenous L m l =
    let sound = step_sound (rate_of Nitrogenous card) card.k2 card.volume Q (ready.rates Nitrogenous) in
    omega (arith, demand_range sound (unit_parts * L) m, falls_to (step_of (rate_of Nitrogenous card) card.k2 card.volume Q) (unit_parts * L) (up_to l))

-- what is kept of the head's deficit never rises either
kept_falls_to : (s : Step) {m n : ℕ} → UpTo m n → (factors_at s n).kept ≤ (factors_at s m).kept
unfolding factors_at next_factors
kept_falls_to s here = omega arith
kept_falls_to s (further {N = n} u) =
    le_trans (sub-le (factors_at s n).kept (product (factors_at s n).kept s.filled)) (kept_falls_to s u)

-- and so a bed takes no more at an instant than at the foot
loss_never_falls : (card : Card) (Q m : ℕ) → m ≤ foot → loss_along card Q m ≤ loss_along card Q foot
unfolding loss_along loss_with factors_along
loss_never_falls card Q m l =
    let s = step_of card.k1 card.k2 card.volume Q in
    let bed = bed_of card Q in
    let eventual = product_mono {a = one - (factors_at s m).kept} {b = bed.eventual} {c = one - (factors_at s foot).kept} {d = bed.eventual} (omega (arith, kept_falls_to s (up_to l))) (le_refl _) in
    omega (arith, eventual, mul-le-mul_left bed.linear l)

-- oxygen that is stored so far above zero is at least that
stored_above : {o n : ℕ} {z : ℤ} → Stores o z → stored_zero + n ≤ o → pos n ≤ℤ z
unfolding oxygen_of
stored_above {o} {n} s h =
    rw (← s.is, sub_pos o stored_zero (omega arith)) (record { le = le→leb n (o - stored_zero) (omega arith) })

-- oxygen that is at least a sum is, less a part of it, at least the other part
less_above : (n k : ℕ) {z : ℤ} → pos (n + k) ≤ℤ z → pos n ≤ℤ (z -ℤ pos k)
less_above n k {z = pos a} h =
    let l = leb→le (n + k) a h.le in
    rw (minus a k, sub_pos a k (omega arith)) (record { le = le→leb n (a - k) (omega arith) })
less_above n k {z = negsuc a} h = absurd h.le

-- the share kept of the head's deficit leaves at least the lesser of head oxygen and saturation, and from this the BOD that has turned is taken
oxygen_above :
    (f : Factors) (h : Start) {n : ℕ} →
    AreShares f →
    n + product f.turned h.bod ≤ h.saturation →
    stored_zero + (n + product f.turned h.bod) ≤ h.oxygen →
    pos n ≤ℤ oxygen_with f h.saturation h.bod (oxygen_of h.oxygen)
oxygen_above f h {n} s a b = by_order (dec_le h.oxygen (h.saturation + stored_zero))
  where
    by_order : Dec (h.oxygen ≤ h.saturation + stored_zero) → pos n ≤ℤ oxygen_with f h.saturation h.bod (oxygen_of h.oxygen)
    by_order (yes l) =
        stored_above (holds_under f h s _ _ refl l refl).0 (omega (arith, share_below f.kept (h.saturation + stored_zero - h.oxygen) s.deficit))
    by_order (no l) =
        stored_above (holds_over f h s _ _ refl (omega arith) refl).0 (omega (arith, share_below (one - f.kept) (h.oxygen - (h.saturation + stored_zero)) (omega arith)))

module _ {card : Card} {Q : ℕ} {head : Head} {p : ReachAlong} (ready : LineReady card Q) (fits : HeadFits head) (below : AlongBelow card Q head.bod head.nitrogenous (oxygen_of head.oxygen) p) where
  -- a demand at the foot is at most its head value
  pub bod_falls : p.foot_bod ≤ head.bod
  bod_falls = omega (arith, below.foot_bod, turned_within ready Bod head.bod foot (le_refl foot))

  pub nitrogenous_falls : p.foot_nitrogenous ≤ head.nitrogenous
  nitrogenous_falls = omega (arith, below.foot_nitrogenous, turned_within ready Nitrogenous head.nitrogenous foot (le_refl foot))

  -- what a bed takes at the foot is at most what check 14 lets it
  pub loss_few : p.loss ≤ loss_limit
  unfolding loss_along factors_along
  loss_few =
      let step = step_sound card.k1 card.k2 card.volume Q (ready.rates Bod) in
      rw below.loss (loss_in_range step (bed_in_range card Q (ready.rates Bod) ready.bed) foot (le_refl foot)).loss

  -- THEOREM: where saturation and head oxygen are each at least what the demands lose on the way to the foot and what the bed takes, together, oxygen is
  -- nowhere below zero
  pub stays :
      {saturated : ℕ} →
      saturated ≡ saturation_of card →
      head.oxygen < 4_294_967_296 →
      head.bod - p.foot_bod + (head.nitrogenous - p.foot_nitrogenous) + p.loss ≤ saturated →
      stored_zero + (head.bod - p.foot_bod + (head.nitrogenous - p.foot_nitrogenous) + p.loss) ≤ head.oxygen →
      (m : ℕ) →
      m ≤ foot →
      pos 0 ≤ℤ oxygen_along card Q head.bod head.nitrogenous (oxygen_of head.oxygen) m
  unfolding oxygen_along turned_along
  stays t few s o m l =
      let f = factors_along card Q m in
      let start : Start =
      record {
        bod = head.bod;
        nitrogenous = head.nitrogenous;
        oxygen = head.oxygen;
        saturation = saturation_of card;
        range = start_range card fits few ready.saturation refl;
      }
      in
      let loss = loss_along card Q m in
      let turned = turned_within ready Bod head.bod m l in
      let nitrified = turned_within ready Nitrogenous head.nitrogenous m l in
      let lost : loss ≤ p.loss = rw below.loss (loss_never_falls card Q m l) in
      less_above 0 loss
      (less_above (0 + loss) (turned_along Nitrogenous card Q head.nitrogenous m)
      (oxygen_above f start (factors_range ready m) (omega (arith, below.foot_bod, below.foot_nitrogenous)) (omega (arith, below.foot_bod, below.foot_nitrogenous))))

-- what is at least zero is not below it
not_below : {z : ℤ} → pos 0 ≤ℤ z → lt_z z (pos 0) ≡ false
not_below {z = pos a} h = le-ltb a 0 (omega arith)
not_below {z = negsuc a} h = absurd h.le

-- and so the lowest of values that are all at least zero is not below it
pub lowest_above : (at : ℕ → ℤ) (n : ℕ) → ((m : ℕ) → m ≤ n → pos 0 ≤ℤ at m) → lt_z (lowest at n).oxygen (pos 0) ≡ false
lowest_above at n h = let low = lowest_first at n in rw low.value (not_below (h _ low.within))
