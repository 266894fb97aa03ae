-- The order of refusals in reporting and of means: a rule of reading or of the flow check, then the length of the buffer, then the volume.
-- Computed from the definitions.
use mathlib.Core.Path.{◌≡◌, refl}
use mathlib.Core.List.{[], ◌∷◌}
use Rattle.std.specs.Prelude.{None}
use Rattle.river.specs.Refusal.{refused, refuse, need, choose, after}
use Rattle.river.specs.Card.{blank, count_ok, in_range, outlet_ok}
use Rattle.river.specs.River.{river_of}
use Rattle.river.specs.Optional.{read_optional, read_optionals}
use Rattle.river.specs.Read.{read_header, read_reach, read_reaches, read_rest, read_file, card_at}
use Rattle.river.specs.Write.{encode}
use Rattle.flows.specs.Flow.{flow_of, mass_of, feeders_among, joined_if, flow_check, checks_from, reach_checks}
use Rattle.flows.specs.Accept.{accept_file}
use Rattle.report.specs.Mean.{mean_answer, mean_room_answer}
use Rattle.report.specs.Report.{report_answer}
use Rattle.river.specs.declared.refusal.Rule.TheVariants.{CutShort, NoFlow}

pub record Reporting : Type 0 where
  -- an empty file
  pub file_and_room : report_answer [] 0 ≡ refused (refuse CutShort 0)
  -- a reach without water
  pub flow_and_room : report_answer (encode (river_of None (blank ∷ []))) 0 ≡ refused (refuse NoFlow 1)
  -- the same for means
  pub file_and_means : mean_answer [] 0 ≡ refused (refuse CutShort 0)
  pub flow_and_means : mean_answer (encode (river_of None (blank ∷ []))) 0 ≡ refused (refuse NoFlow 1)

-- THEOREM: who breaks a rule of reading or of the flow check gets its number, not 12 or 16
pub reporting_order : Reporting
unfolding mean_answer mean_room_answer report_answer accept_file read_file read_rest read_header read_reaches read_reach read_optionals read_optional card_at encode count_ok in_range outlet_ok need after choose flow_check checks_from reach_checks flow_of mass_of feeders_among joined_if
reporting_order = record { file_and_room = refl; flow_and_room = refl; file_and_means = refl; flow_and_means = refl }
