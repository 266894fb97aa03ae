-- "Oxygen used up" of the river file paper: the status of a reach, by its critical oxygen and by the reaches above it, and what is reported at each status.
use Rattle.std.specs.Prelude.{Bool, false, ◌||◌, cond, ℕ, eqb, ltb, ℤ, pos}
use Rattle.std.specs.Int.Signed.{lt_z}
use Rattle.river.specs.declared.card.Card.{Card}
use Rattle.flows.specs.Flow.{Feeders, none, more}
use Rattle.report.specs.Record.{Figures}

-- the status of a reach, by whether any reach above has status 1 or 2, and by its own critical oxygen: 2 if so, else 1 below zero, else 0
unfoldable pub status_by : (used : Bool) (critical : ℤ) → ℕ
status_by used critical = cond used 2 (cond (lt_z critical (pos 0)) 1 0)

-- status 1 or 2
unfoldable pub is_used : (status : ℕ) → Bool
is_used status = ltb 0 status

-- whether any reach above, through all above, has status 1 or 2, where the critical oxygen of each is given
unfoldable pub used_by : (critical : Card → Feeders → ℤ) → Feeders → Bool
used_by critical none = false
used_by critical (more card up rest) = is_used (status_by (used_by critical up) (critical card up)) || (used_by critical up || used_by critical rest)

-- what is reported of a number and of oxygen by the status: 0 at status 2
unfoldable pub shown_number : (status n : ℕ) → ℕ
shown_number status n = cond (eqb status 2) 0 n

unfoldable pub shown_oxygen : (status : ℕ) (oxygen : ℤ) → ℤ
shown_oxygen status oxygen = cond (eqb status 2) (pos 0) oxygen

-- the figures as they are reported: at status 2 head, critical and foot oxygen and the instant are 0
abbrev pub reported : Figures → Figures
reported f =
    record {
      depth = f.depth;
      flow = f.flow;
      head_bod = f.head_bod;
      foot_bod = f.foot_bod;
      head_oxygen = shown_oxygen f.status f.head_oxygen;
      critical_instant = shown_number f.status f.critical_instant;
      critical_oxygen = shown_oxygen f.status f.critical_oxygen;
      foot_oxygen = shown_oxygen f.status f.foot_oxygen;
      status = f.status;
      head_nitrogenous = f.head_nitrogenous;
      foot_nitrogenous = f.foot_nitrogenous;
    }
