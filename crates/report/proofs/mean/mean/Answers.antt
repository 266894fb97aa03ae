-- `report::mean::mean` meets its contract, by the answer of reading and flow check, the length of the buffer and the volume that counts. Assumes
-- nothing.
use mathlib.Core.Path.{refl, ap, ap₂}
use Prim.Native.Nat.{ℕ, ◌<◌}
use native.Mathlib.Omega.{arith}
use Rattle.std.proofs.Common.{rules}
use Rattle.river.specs.Refusal.{refused}
use Rattle.flows.proofs.flow.Count.{reaches_counted}
use Rattle.report.specs.Mean.{Weighted}
use Rattle.report.proofs.Means.{means_refused, means_short, means_empty, means_held, means_refuse, means_tell, table_written, mean_told}
use Rattle.report.proofs.mean.mean.Goals as goal

pub returns-in_err-river : goal.returns-in_err-river
returns-in_err-river c = means_refuse _ _ _ (means_refused _ c.in_err-river.ensures) (search rules)

pub returns-then-means-count : goal.returns-then-means-count
returns-then-means-count c =
    let count = reaches_counted c.in_ok-river.river.effective (omega arith) c.reach_count-count.ensures in
    means_refuse _ _ _ (means_short c.in_ok-river.ensures _ (omega (arith, c.if-means-count.true, count))) (ap refused c.at.ensures)

pub returns-then-table-eq0 : goal.returns-then-table-eq0
returns-then-table-eq0 c =
    let count = reaches_counted c.in_ok-river.river.effective (omega arith) c.reach_count-count.ensures in
    means_refuse _ _ _
    (means_empty c.in_ok-river.ensures _ (omega (arith, c.if-means-count.false, count)) (omega (arith, c.if-table-eq0.true, c.average_all-table.ensures.weighed.volume)))
    (ap refused c.at-then-table-eq0.ensures)

pub returns : goal.returns
returns c =
    let count = reaches_counted c.in_ok-river.river.effective (omega arith) c.reach_count-count.ensures in
    let all = c.average_all-table in
    let some : 0 < all.result.weights.volume = omega (arith, c.if-table-eq0.false) in
    means_tell _ _ _
    (means_held c.in_ok-river.ensures _ (omega (arith, c.if-means-count.false, count)) (omega (arith, all.ensures.weighed.volume)))
    refl (ap₂ (λ (n : ℕ) (w : Weighted). record { count = n; mean = w }) count (mean_told all.ensures some c.divide-units.ensures))
    (table_written _ c.in_ok-river.ensures.sound.lawful count c.put_table.ensures all.ensures)
