-- The figures that a line of the program stands for.
use Rattle.flows.specs.held.Stored.{oxygen_of}
use Rattle.report.specs.declared.record.Line.{Line}
use Rattle.report.specs.Record.{Figures}

-- the figures that a line of the program stands for
abbrev pub figures_in : Line → Figures
figures_in l =
    record {
      depth = l.depth;
      flow = l.flow;
      head_bod = l.head_bod;
      foot_bod = l.foot_bod;
      head_oxygen = oxygen_of l.head_oxygen;
      critical_instant = l.critical_instant;
      critical_oxygen = oxygen_of l.critical_oxygen;
      foot_oxygen = oxygen_of l.foot_oxygen;
      status = l.status;
      head_nitrogenous = l.head_nitrogenous;
      foot_nitrogenous = l.foot_nitrogenous;
    }
