-- `flows::head::head_oxygen` meets its contract: the mixture of stored numbers, rounded down.
use mathlib.Core.Path.{◌≡◌, ap, ◌∙◌}
use mathlib.Core.Bool.{true}
use Rattle.std.proofs.lemmas.Bool.{false_from_ne_true}
use Rattle.flows.specs.Head.{upstream_oxygen, below_dam, head_oxygen}
use Rattle.flows.specs.held.Stored.{oxygen_of, oxygen_sum_of}
use Rattle.flows.proofs.head.Stored.{mean_stored, mixed_stored}
use Rattle.flows.proofs.head.head_oxygen.Goals.{in-None, in-Some}
use Rattle.flows.proofs.head.head_oxygen.Goals as goal

module _ (c : goal.After-from-2) where
  upstream_is : oxygen_of c.match-upstream_mean.upstream ≡ below_dam c.args.card c.args.fed c.args.qu (upstream_oxygen c.args.fed c.args.qu (oxygen_sum_of c.args.qu c.args.sum))
  unfolding upstream_oxygen below_dam oxygen_of
  upstream_is =
      let q = c.args.qu in
      elim c.match-upstream_mean.branch [
        | in-None w ↦ rw (w.upstream-is, false_from_ne_true c.args.fed (rw w.in-None.is at c.upstream_mean.ensures))
        | in-Some w ↦
            let k = rw w.in-Some.is at c.upstream_mean.ensures in
            rw (w.upstream-is, k.0) (w.below_dam-upstream.ensures ∙ ap (below_dam c.args.card true q) (rw k.1 (mean_stored q c.args.sum (c.requires.ready.flows.feeders_flow k.0))))
      ]

pub returns : goal.returns
unfolding head_oxygen
returns c =
    let a = c.args in
    rw (c.from-2.ensures, c.from-inflow.ensures, c.from.ensures, ← upstream_is c)
    (mixed_stored a.qu a.card.inflow c.match-upstream_mean.upstream a.card.inflow_oxygen c.requires.ready.flows.flowing)
