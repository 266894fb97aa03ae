-- `text::render_means` meets its contract, by what the call for means answers. Assumes nothing.
use mathlib.Core.Path.{refl}
use Prim.Native.Nat.{◌*◌, ◌≤◌}
use native.Mathlib.Omega.{arith}
use lib.ListN.{length}
use Rattle.io.specs.Counts.{IsPrefixLen}
use Rattle.river.specs.Bytes.{AreBytes}
use Rattle.river.specs.Refusal.{after as then}
use Rattle.report.specs.Mean.{mean_bytes}
use Rattle.report.proofs.Calls.{refusal_told}
use Rattle.report.proofs.Means.{means_given}
use Rattle.text.specs.MeanText.{RendersMeans}
use Rattle.text.proofs.MeanRendering.{means_fit, means_are, refusal_is}
use Rattle.text.proofs.Rendering.{renders}
use Rattle.text.proofs.render_means.Goals.{in-Ok, in-Err}
use Rattle.text.proofs.render_means.Goals as goal

fit : (c : goal.After-from) → (c.in-Ok.river.count ≤ 128) × (mean_bytes * c.in-Ok.river.count ≤ length c.mean.new.means)
fit c =
    let bytes : AreBytes c.args.file.now = record { below = λ k. (c.type_inv.file k).fits } in
    means_fit bytes _ (means_given _ bytes (rw c.in-Ok.is at c.mean.ensures)) c.mean.auto.means

pub put_means-requires-clause-few : goal.put_means-requires-clause-few
put_means-requires-clause-few c = (fit c).0

pub put_means-requires-clause-held : goal.put_means-requires-clause-held
put_means-requires-clause-held c = (fit c).1

pub put_means-requires-clause-room : goal.put_means-requires-clause-room
put_means-requires-clause-room c = omega (arith, (fit c).0, c.told-out)

rendered : (c : goal.Joined-mean) → RendersMeans c.args.file.now c.args.out.now c.match-mean.text.out.now c.match-mean.text.at × IsPrefixLen c.match-mean.text.at c.match-mean.text.out.now
unfolding then
rendered c =
    let bytes : AreBytes c.args.file.now = record { below = λ k. (c.type_inv.file k).fits } in
    elim c.match-mean.branch [
      | in-Ok w ↦
          let told = means_given _ bytes (rw w.in-Ok.is at c.mean.ensures) in
          let few = (means_fit bytes _ told c.mean.auto.means).0 in
          rw w.text-is (renders refl w.put_means.ensures (rw w.from.ensures (means_are _ _ (omega arith) told)) (omega (arith, few, c.told-out)))
      | in-Err w ↦
          let refused = refusal_told _ (rw w.in-Err.is at c.mean.ensures) in
          rw w.text-is (renders refl w.put_refusal.ensures (refusal_is _ (omega arith) refused) (omega (arith, c.told-out)))
    ]

pub returns-clause-renders_means : goal.returns-clause-renders_means
returns-clause-renders_means c = (rendered c).0

pub returns-clause-prefix_len : goal.returns-clause-prefix_len
returns-clause-prefix_len c = (rendered c).1
