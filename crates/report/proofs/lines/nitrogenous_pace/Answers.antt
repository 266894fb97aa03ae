-- `report::lines::nitrogenous_pace` meets its contract: at the rate 0 nothing is lost, and the share filled is that of BOD. Assumes nothing.
use mathlib.Core.Path.{ap}
use Rattle.decay.specs.declared.step.Step.{Step}
use Rattle.report.proofs.lines.Lines.{idle, filled_alike}
use Rattle.report.proofs.lines.nitrogenous_pace.Goals.{then-rates-eq0, else-rates-eq0}
use Rattle.report.proofs.lines.nitrogenous_pace.Goals as goal

pub returns : goal.returns
returns c =
    let r = c.args.rates in
    elim c.if-rates-eq0.branch [
      | then-rates-eq0 w ↦ let none = idle r.k1 r.k2 r.volume r.flow w.if-rates-eq0.true r.pass in
          rw w.step-is (filled_alike r.k1 r.k2 r.volume r.flow none.0 none.1 c.requires)
      | else-rates-eq0 w ↦ rw w.step-is
          (filled_alike r.k1 r.k2 r.volume r.flow (ap (λ (s : Step). s.lost) w.step_of.ensures) (ap (λ (s : Step). s.spent) w.step_of.ensures) c.requires)
    ]
