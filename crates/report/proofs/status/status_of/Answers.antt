-- `report::status::status_of` meets its contract: stored oxygen is below zero where it is less than what stores zero. Assumes nothing.
use mathlib.Core.Path.{◌≡◌}
use Prim.Native.Nat.{ℕ}
use borrow.Author.Tests.{lt-ltb, le-ltb}
use lib.Dec.{ltb}
use lib.IntN.{pos}
use lib.Signed.{lt_z}
use Rattle.flows.specs.held.Stored.{stored_zero, oxygen_of}
use Rattle.report.specs.Status.{status_by}
use Rattle.report.proofs.profile.Offset.{sub_order}
use Rattle.report.proofs.status.status_of.Goals as goal

below_zero : (stored : ℕ) → lt_z (oxygen_of stored) (pos 0) ≡ ltb stored stored_zero
unfolding oxygen_of
below_zero stored = sub_order stored stored_zero stored_zero

pub returns-then-critical-lt-STORED_ZERO : goal.returns-then-critical-lt-STORED_ZERO
unfolding status_by
returns-then-critical-lt-STORED_ZERO c = rw (c.if-used.false, below_zero, lt-ltb c.args.critical stored_zero c.if-critical-lt-STORED_ZERO.true)

pub returns-else-critical-lt-STORED_ZERO : goal.returns-else-critical-lt-STORED_ZERO
unfolding status_by
returns-else-critical-lt-STORED_ZERO c = rw (c.if-used.false, below_zero, le-ltb c.args.critical stored_zero c.if-critical-lt-STORED_ZERO.false)

pub returns-then-used : goal.returns-then-used
unfolding status_by
returns-then-used c = rw c.if-used.true
