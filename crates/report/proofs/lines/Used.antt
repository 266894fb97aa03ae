-- Whether oxygen is used up above a reach: where it is used up at any feeder, or above one of these. Assumes nothing.
use mathlib.Core.Path.{◌≡◌, refl}
use mathlib.Core.Bool.{Bool, true, false, ◌||◌}
use lib.IntN.{ℤ}
use Rattle.river.specs.declared.card.Card.{Card}
use Rattle.flows.specs.Flow.{Feeders, more}
use Rattle.flows.proofs.flow.Table.{Finds}
use Rattle.report.specs.Status.{status_by, is_used, used_by}
use Rattle.report.specs.Program.{oxygen_at, critical_oxygen, used_above, figures_of}

-- where oxygen is used up above a reach, its status says so
status_says : (used : Bool) (critical : ℤ) (rest : Bool) → (is_used (status_by used critical) || (used || rest)) ≡ (is_used (status_by used critical) || rest)
unfolding is_used status_by
status_says true critical rest = refl
status_says false critical rest = refl

-- and so each feeder tells by its status alone
used_with : (card : Card) (up rest : Feeders) → used_above (more card up rest) ≡ (is_used (figures_of card up).status || used_above rest)
unfolding used_by figures_of critical_oxygen oxygen_at
used_with card up rest = status_says (used_above up) (critical_oxygen card up) (used_above rest)

pub used_finds : Finds used_above (λ card up. is_used (figures_of card up).status)
unfolding used_by
used_finds = record { nothing = refl; plus = used_with }
