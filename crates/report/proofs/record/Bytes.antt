-- The bytes of a small record, computed from the definitions: an `RP` record of 30 bytes and, with nitrification, an `RN` record of 10 behind it.
use mathlib.Core.Path.{◌≡◌, refl}
use mathlib.Core.Bool.{true, false}
use mathlib.Core.List.{List, [], ◌∷◌, ◌++◌}
use Prim.Native.Char.{code}
use Prim.Native.Nat.{ℕ}
use lib.IntN.{pos, negsuc}
use Rattle.report.specs.Record.{Figures, complement, encode_plain, encode_nitrogenous, encode_record, record_bytes}

-- the record, by its status
abbrev pub small : (status : ℕ) → Figures
small status =
    record {
      depth = 1;
      flow = 2;
      head_bod = 3;
      foot_bod = 256;
      head_oxygen = pos 4;
      critical_instant = 257;
      critical_oxygen = negsuc 0;
      foot_oxygen = negsuc 1;
      status = status;
      head_nitrogenous = 65_541;
      foot_nitrogenous = 6;
    }

abbrev plain : (status : ℕ) → List ℕ
plain status =
    code "R" ∷ code "P" ∷ 1 ∷
    0 ∷ 0 ∷ 0 ∷ 2 ∷
    0 ∷ 0 ∷ 0 ∷ 3 ∷
    0 ∷ 0 ∷ 1 ∷ 0 ∷
    0 ∷ 0 ∷ 0 ∷ 4 ∷
    1 ∷ 1 ∷
    255 ∷ 255 ∷ 255 ∷ 255 ∷
    255 ∷ 255 ∷ 255 ∷ 254 ∷
    status ∷ []

pub record RecordRows : Type 0 where
  pub without : (status : ℕ) → encode_record false (small status) ≡ plain status
  pub nitrified : (status : ℕ) → encode_record true (small status) ≡ plain status ++ code "R" ∷ code "N" ∷ 0 ∷ 1 ∷ 0 ∷ 5 ∷ 0 ∷ 0 ∷ 0 ∷ 6 ∷ []
  pub size_without : record_bytes false ≡ 30
  pub size_nitrified : record_bytes true ≡ 40

-- THEOREM: these bytes and sizes, a row each
pub record_rows : RecordRows
unfolding encode_record encode_plain encode_nitrogenous complement
record_rows = record { without = λ status. refl; nitrified = λ status. refl; size_without = refl; size_nitrified = refl }
