-- `flows::head::signed` meets its contract: four bytes less 2^31 are a signed number of four bytes.
use native.Mathlib.Omega.{arith}
use mir.Facts.{to_z-of_z}
use Rattle.flows.specs.held.Stored.{oxygen_of}
use Rattle.flows.proofs.head.Units.{oxygen_fits, fits_wide, number_wide}
use Rattle.flows.proofs.head.signed.Goals as goal

pub returns : goal.returns
unfolding oxygen_of
returns c =
    let n = c.args.stored in
    rw
    (c.from.ensures, c.from-2.ensures, to_z-of_z (number_wide n (omega arith)), to_z-of_z (fits_wide n (omega arith)), to_z-of_z (oxygen_fits n (omega arith)))
