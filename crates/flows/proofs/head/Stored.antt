-- Stored oxygen through the mean, the dam and mixing: in each the weights add up to the divisor, so the offset comes out whole
-- and what the program computes on stored numbers stands for the definition on signed ones.
use mathlib.Core.Path.{◌≡◌, sym, ap, ◌∙◌}
use Prim.Native.Nat.{ℕ, ◌+◌, ◌-◌, ◌*◌, ◌/◌, ◌≤◌, ◌<◌}
use native.Mathlib.Omega.{arith}
use lib.IntN.{ℤ, pos, sub_ℕ, ◌+ℤ◌, ◌-ℤ◌, ◌*ℤ◌}
use Rattle.flows.specs.Head.{floor}
use Rattle.flows.proofs.head.Offset.{sub_pos, sub_eq, sub_plus, sub_add, sub_minus, sub_times, times_sub, floor_offset}
use Rattle.flows.specs.held.Stored.{stored_zero, oxygen_of, oxygen_sum_of}

-- saturation
pub saturated_stored : (s : ℕ) → oxygen_of (stored_zero + s) ≡ pos s
unfolding oxygen_of
saturated_stored s = sub_pos (stored_zero + s) stored_zero (omega arith) ∙ ap pos (omega arith)

-- the mean of the feeders
pub mean_stored : (Qu sum : ℕ) → 0 < Qu → oxygen_of (sum / Qu) ≡ floor (oxygen_sum_of Qu sum) Qu
unfolding oxygen_of
mean_stored Qu sum p = sym (floor_offset sum stored_zero Qu p)

-- mixing with an inflow i of oxygen o
pub mixed_stored : (Qu i u o : ℕ) → 0 < Qu + i → oxygen_of ((Qu * u + i * (stored_zero + 1000 * o)) / (Qu + i)) ≡ floor (pos Qu *ℤ oxygen_of u +ℤ pos (1000 * i * o)) (Qu + i)
unfolding oxygen_of
mixed_stored Qu i u o p =
    sym (floor_offset (Qu * u + i * (stored_zero + 1000 * o)) stored_zero (Qu + i) p) ∙ ap (λ (z : ℤ). floor z (Qu + i)) (sym together)
  where
    together : pos Qu *ℤ sub_ℕ u stored_zero +ℤ pos (1000 * i * o) ≡ sub_ℕ (Qu * u + i * (stored_zero + 1000 * o)) (stored_zero * (Qu + i))
    together =
        ap (λ (z : ℤ). z +ℤ pos (1000 * i * o)) (times_sub Qu u stored_zero)
        ∙ sub_plus (Qu * u) (Qu * stored_zero) (1000 * i * o)
        ∙ sub_eq (Qu * u + 1000 * i * o) (Qu * stored_zero) (Qu * u + i * (stored_zero + 1000 * o)) (stored_zero * (Qu + i)) (omega arith)

-- oxygen c on the way to saturation z, w / d of it
abbrev Aerated : (c z w d r : ℕ) → Type 0
Aerated c z w d r = oxygen_of r ≡ oxygen_of c +ℤ floor ((oxygen_of z -ℤ oxygen_of c) *ℤ pos w) d

-- it rises from below
pub rise_stored : (c z w d : ℕ) → c ≤ z → Aerated c z w d (c + (z - c) * w / d)
unfolding oxygen_of floor
rise_stored c z w d h =
    sym (ap (λ (y : ℤ). sub_ℕ c stored_zero +ℤ floor (y *ℤ pos w) d) (sub_minus z c stored_zero ∙ sub_pos z c h) ∙ sub_plus c stored_zero ((z - c) * w / d))

-- and falls from above, where what stays away is the rest of the water
fall : (z e v w d : ℕ) → 0 < d → v + w ≡ d → Aerated (z + e) z w d (z + e * v / d)
unfolding oxygen_of
fall z e v w d p h =
    let c = z + e in
    let f = e * v / d in
    sym
    (ap (λ (y : ℤ). sub_ℕ c stored_zero +ℤ floor y d) (ap (λ (y : ℤ). y *ℤ pos w) (sub_minus z c stored_zero) ∙ sub_times z c w ∙ sub_eq (z * w) (c * w) (e * v) (e * d) rest)
    ∙ ap (λ (y : ℤ). sub_ℕ c stored_zero +ℤ y) (floor_offset (e * v) e d p)
    ∙ sub_add c stored_zero f e
    ∙ sub_eq (c + f) (stored_zero + e) (z + f) stored_zero (omega arith))
  where
    rest : z * w + e * d ≡ e * v + (z + e) * w
    rest = rw (← h) (omega arith)

pub fall_stored : (c z w d : ℕ) → 0 < d → w ≤ d → z ≤ c → Aerated c z w d (z + (c - z) * (d - w) / d)
fall_stored c z w d p h k =
    let e : z + (c - z) ≡ c = omega arith in
    rw e at (fall z (c - z) (d - w) w d p (omega arith))
