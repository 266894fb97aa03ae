-- Laws of the status: what it says of critical oxygen and of the reaches above, and what is reported by it.
-- Assumes nothing.
use mathlib.Core.Path.{◌≡◌, refl}
use mathlib.Core.Logic.{◌↔◌}
use mathlib.Core.Bool.{Bool, true, false, not, cond}
use Prim.Native.Nat.{ℕ, ◌≤◌}
use native.Mathlib.Omega.{arith}
use borrow.Author.Tests.{ltb-true, lt-ltb, eq-eqb, ne_eqb}
use lib.Dec.{T}
use lib.IntN.{ℤ, pos}
use lib.Signed.{lt_z, ◌≤ℤ◌, ◌<ℤ◌, lt_z_yes, lt_z_no}
use Rattle.river.specs.declared.card.Card.{Card}
use Rattle.flows.specs.Flow.{Feeders}
use Rattle.river.proofs.Answers.{clash}
use Rattle.report.specs.Record.{Figures}
use Rattle.report.specs.Status.{status_by, is_used, shown_number, shown_oxygen, reported}
use Rattle.report.specs.Program.{oxygen_at, critical_oxygen, status_of, figures_of}
use Rattle.report.specs.Ties.{NoOxygen}

-- at status 0 and 1 the figures are reported as they are
pub reported_same : (f : Figures) → f.status ≤ 1 → reported f ≡ f
unfolding shown_number shown_oxygen
reported_same f h = rw (ne_eqb f.status 2 (λ e. omega arith))

-- and at status 2 oxygen and the instant are blank
pub reported_blank : (f : Figures) → f.status ≡ 2 → NoOxygen (reported f)
unfolding shown_number shown_oxygen
reported_blank f e =
    let blank = eq-eqb f.status 2 e in
    record { head_oxygen = rw blank; critical_instant = rw blank; critical_oxygen = rw blank; foot_oxygen = rw blank }

-- the status is at most 2, and 2 exactly where oxygen is used up above
alone : (below : Bool) → cond below 1 0 ≤ 1
alone true = omega arith
alone false = omega arith

pub status_at_most : (used : Bool) (c : ℤ) → status_by used c ≤ 2
unfolding status_by
status_at_most true c = omega arith
status_at_most false c = omega (arith, alone (lt_z c (pos 0)))

pub status_two : (used : Bool) (c : ℤ) → (status_by used c ≡ 2) ↔ (used ≡ true)
unfolding status_by
status_two true c = ((λ e. refl), λ e. refl)
status_two false c = ((λ e. absurd (omega (arith, alone (lt_z c (pos 0))))), λ e. clash (cc))

-- status 1 or 2 is a status from 1 on
pub used_from_one : (status : ℕ) → (is_used status ≡ true) ↔ (1 ≤ status)
unfolding is_used
used_from_one status = (ltb-true 0 status, lt-ltb 0 status)

-- at status 0 and 1 oxygen is not used up above
pub not_above : (used : Bool) (c : ℤ) → status_by used c ≤ 1 → used ≡ false
unfolding status_by
not_above true c h = absurd (omega arith)
not_above false c h = refl

-- status 0 tells that critical oxygen is not below zero, and status 1 that it is
told : (used below : Bool) → (◌≡◌ {A = ℕ} (cond used 2 (cond below 1 0)) 0 → T (not below)) × (◌≡◌ {A = ℕ} (cond used 2 (cond below 1 0)) 1 → T below)
told true below = ((λ e. absurd (omega arith)), λ e. absurd (omega arith))
told false true = ((λ e. absurd (omega arith)), λ e. tt)
told false false = ((λ e. tt), λ e. absurd (omega arith))

pub status_zero : (used : Bool) (c : ℤ) → status_by used c ≡ 0 → pos 0 ≤ℤ c
unfolding status_by
status_zero used c e = lt_z_no ((told used (lt_z c (pos 0))).0 e)

pub status_one : (used : Bool) (c : ℤ) → status_by used c ≡ 1 → c <ℤ pos 0
unfolding status_by
status_one used c e = lt_z_yes ((told used (lt_z c (pos 0))).1 e)

-- the status among the figures of a reach is that of the definition
pub figures_status : (card : Card) (up : Feeders) → (figures_of card up).status ≡ status_of card up
unfolding figures_of status_of critical_oxygen oxygen_at
figures_status card up = refl
