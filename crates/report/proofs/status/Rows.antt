-- The status of a reach, and what is reported at each status, computed from the definitions: by critical oxygen and by whether oxygen is used up above,
-- over forests of pools, and on figures that are all different.
use mathlib.Core.Path.{◌≡◌, refl}
use mathlib.Core.Bool.{true, false}
use mathlib.Core.List.{List, [], ◌∷◌}
use Prim.Native.Nat.{ℕ}
use lib.IntN.{ℤ, pos, negsuc, ◌-ℤ◌}
use Rattle.std.specs.Prelude.{None}
use Rattle.river.specs.declared.card.Card.{Card}
use Rattle.river.specs.Card.{no_optionals}
use Rattle.flows.specs.Flow.{Feeders, none, more, joined_if, feeders_among, card_of, above}
use Rattle.report.specs.Record.{Figures}
use Rattle.report.specs.Status.{status_by, is_used, used_by, shown_number, shown_oxygen, reported}

-- a reach of which only the oxygen is given, and its critical oxygen, which is one less
abbrev pool_to : (outlet oxygen : ℕ) → Card
pool_to outlet oxygen =
    record {
      outlet = outlet;
      temperature = 0;
      k1 = 0;
      k2 = 0;
      volume = 0;
      inflow = 0;
      inflow_bod = 0;
      inflow_oxygen = oxygen;
      load = 0;
      dam = None;
      optionals = no_optionals;
    }

abbrev pool : (oxygen : ℕ) → Card
pool oxygen = pool_to 0 oxygen

-- a river: reach 1 at -1 flows into reach 3, reach 2 beside it too, and reach 4 lies below
abbrev river : List Card
river = pool_to 3 0 ∷ pool_to 3 1 ∷ pool_to 4 1 ∷ pool_to 0 1 ∷ []

abbrev critical : Card → Feeders → ℤ
critical card up = pos card.inflow_oxygen -ℤ pos 1

abbrev status : Card → Feeders → ℕ
status card up = status_by (used_by critical up) (critical card up)

-- a pool whose critical oxygen is -1, and one below it whose critical oxygen is 0; a side branch of two pools, both at 0
abbrev spent : Feeders
spent = more (pool 0) none none

abbrev below : Feeders
below = more (pool 1) spent none

abbrev side : Feeders
side = more (pool 1) (more (pool 1) none none) none

-- figures with this status and this oxygen
abbrev figures : (status : ℕ) (head : ℤ) (instant : ℕ) (lowest foot : ℤ) → Figures
figures status head instant lowest foot =
    record {
      depth = 1;
      flow = 2;
      head_bod = 3;
      foot_bod = 4;
      head_oxygen = head;
      critical_instant = instant;
      critical_oxygen = lowest;
      foot_oxygen = foot;
      status = status;
      head_nitrogenous = 5;
      foot_nitrogenous = 6;
    }

pub record StatusRows : Type 0 where
  -- critical oxygen of 0 is ordinary and -1 is used up; used up above comes before both
  pub zero : status_by false (pos 0) ≡ 0
  pub negative : status_by false (negsuc 0) ≡ 1
  pub above_first : status_by true (negsuc 0) ≡ 2
  pub above_at_zero : status_by true (pos 0) ≡ 2
  -- 1 and 2 count as used up for the reaches below
  pub ordinary_not_used : is_used 0 ≡ false
  pub one_used : is_used 1 ≡ true
  pub two_used : is_used 2 ≡ true
  -- the pool at -1, the one below it, and the one two below, which has only a pool at 0 between
  pub first : status (pool 0) none ≡ 1
  pub one_below : status (pool 1) spent ≡ 2
  pub two_below : status (pool 1) below ≡ 2
  pub again_below : status (pool 0) below ≡ 2
  -- the side branch is ordinary, and so is what is below it alone; where the branches meet, in either order, oxygen is used up above
  pub beside : status (pool 1) (more (pool 1) none none) ≡ 0
  pub below_side : status (pool 1) side ≡ 0
  pub meeting : status (pool 1) (more (pool 1) spent side) ≡ 2
  pub meeting_exchanged : status (pool 1) (more (pool 1) (more (pool 1) none none) below) ≡ 2
  -- a river of four: the first is used up, and so above the third and the fourth; the second, which stands before these, is a side branch
  pub river_1 : status (card_of river 1) (above river 1) ≡ 1
  pub river_2 : status (card_of river 2) (above river 2) ≡ 0
  pub river_3 : status (card_of river 3) (above river 3) ≡ 2
  pub river_4 : status (card_of river 4) (above river 4) ≡ 2
  -- status 2 blanks oxygen and the instant, and nothing else; status 1 and 0 blank nothing
  pub blanked : reported (figures 2 (pos 7) 8 (negsuc 9) (negsuc 10)) ≡ figures 2 (pos 0) 0 (pos 0) (pos 0)
  pub used_up : reported (figures 1 (pos 7) 8 (negsuc 9) (negsuc 10)) ≡ figures 1 (pos 7) 8 (negsuc 9) (negsuc 10)
  pub ordinary : reported (figures 0 (pos 9) 8 (pos 7) (pos 10)) ≡ figures 0 (pos 9) 8 (pos 7) (pos 10)

-- THEOREM: these statuses and figures, a row each
pub status_rows : StatusRows
unfolding joined_if feeders_among status_by is_used used_by shown_number shown_oxygen
status_rows =
    record {
      zero = refl;
      negative = refl;
      above_first = refl;
      above_at_zero = refl;
      ordinary_not_used = refl;
      one_used = refl;
      two_used = refl;
      first = refl;
      one_below = refl;
      two_below = refl;
      again_below = refl;
      beside = refl;
      below_side = refl;
      meeting = refl;
      meeting_exchanged = refl;
      river_1 = refl;
      river_2 = refl;
      river_3 = refl;
      river_4 = refl;
      blanked = refl;
      used_up = refl;
      ordinary = refl;
    }
