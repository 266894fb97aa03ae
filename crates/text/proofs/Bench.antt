-- Texts of the river file paper, computed from the definitions: both lines of the printing program's example, also with takes, a pressure and ammonia, and its
-- refusal; a line with nitrification and without, and below a reach where oxygen is used up; the lines of a mean and of a river, and the refusal of
-- a river without volume; and a few numbers.
use mathlib.Core.Path.{◌≡◌, refl, ap₂}
use mathlib.Core.Bool.{Bool, true, false}
use mathlib.Core.List.{List, [], ◌++◌}
use Prim.Native.Nat.{ℕ}
use lib.IntN.{pos, negsuc}
use Rattle.std.specs.Prelude.{Some, None}
use Rattle.river.specs.declared.refusal.Rule.TheVariants.{WrongOutlet, NoVolume}
use Rattle.river.specs.Refusal.{accepted, refused, refuse}
use Rattle.river.proofs.Bench.{two, hilly}
use Rattle.flows.proofs.Bench.{drawn}
use Rattle.report.proofs.Bench.{bench, laden}
use Rattle.report.proofs.record.Bytes.{small}
use Rattle.report.specs.Record.{is_nitrified, has_nitrification, Figures}
use Rattle.report.specs.Status.{shown_number, shown_oxygen, reported}
use Rattle.text.specs.Text.{ascii, digits_by, decimal, number, signed, after_word, line, numbers_of, reach_line, first_lines, refusal_line, text_of}
use Rattle.text.specs.MeanText.{mean_line, river_line, mean_text_of}

pub record TextRows : Type 0 where
  pub example :
      text_of (accepted (two None)) ≡ ascii "1 1 3000 2000000 2000000 8000000 0 8000000 8000000 0\n2 2 4000 9000000 9000000 6500000 0 6500000 6500000 0\n"
  pub drawn_1 :
      text_of (accepted (drawn (Some 1000) None)) ≡ ascii "1 1 2000 2000000 2000000 8000000 0 8000000 8000000 0\n2 2 3000 11333333 11333333 6000000 0 6000000 6000000 0\n"
  pub drawn_2 :
      text_of (accepted (drawn None (Some 1000))) ≡ ascii "1 1 3000 2000000 2000000 8000000 0 8000000 8000000 0\n2 2 3000 9000000 9000000 6500000 0 6500000 6500000 0\n"
  pub hilly_700 :
      text_of (accepted (hilly (Some 700))) ≡ ascii "1 1 3000 2000000 2000000 8000000 0 8000000 8000000 0\n2 2 4000 9000000 9000000 6577389 0 6577389 6577389 0\n"
  pub laden_4000 :
      text_of (accepted (laden (Some (record { rate = 0; concentration = 4000; load = 0 })))) ≡ ascii "1 1 3000 2000000 2000000 8000000 0 8000000 8000000 0 4000000 4000000\n2 2 4000 9000000 9000000 6500000 0 6500000 6500000 0 3000000 3000000\n"
  pub without : reach_line false 7 (reported (small 1)) ≡ ascii "7 1 2 3 256 4 257 -1 -2 1\n"
  pub nitrified : reach_line true 7 (reported (small 1)) ≡ ascii "7 1 2 3 256 4 257 -1 -2 1 65541 6\n"
  pub used_up_above : reach_line true 7 (reported (small 2)) ≡ ascii "7 1 2 3 256 0 0 0 0 2 65541 6\n"
  pub refusal : text_of (refused (refuse WrongOutlet 2)) ≡ ascii "refused 5 reach 2\n"
  pub mean : mean_line 128 (negsuc 11) ≡ ascii "128 -12\n"
  pub river_mean : river_line (record { units = negsuc 8; remainder = 3 }) ≡ ascii "river -9 3\n"
  pub no_volume : mean_text_of (refused (refuse NoVolume 0)) ≡ ascii "refused 16 reach 0\n"
  pub zero : signed (pos 0) ≡ ascii "0"
  pub ten : signed (pos 10) ≡ ascii "10"
  pub below_zero : signed (negsuc 0) ≡ ascii "-1"
  pub large : signed (negsuc 1000000383) ≡ ascii "-1000000384"

-- the lines of two reaches, by their figures
abbrev two_lines : (nitrified : Bool) → Figures → Figures → List ℕ
two_lines nitrified f g = ([] ++ reach_line nitrified 1 f) ++ reach_line nitrified 2 g

-- THEOREM: the worked example, a refusal and some numbers as they are printed, a row each
pub text_bench : TextRows
unfolding is_nitrified has_nitrification shown_number shown_oxygen text_of first_lines mean_line river_line mean_text_of refusal_line line after_word numbers_of signed number decimal digits_by
text_bench =
    record {
      example = ap₂ (two_lines false) bench.line_1 bench.line_2;
      drawn_1 = ap₂ (two_lines false) bench.drawn_1_line_1 bench.drawn_1_line_2;
      drawn_2 = ap₂ (two_lines false) bench.drawn_2_line_1 bench.drawn_2_line_2;
      hilly_700 = ap₂ (two_lines false) bench.hilly_line_1 bench.hilly_line_2;
      laden_4000 = ap₂ (two_lines true) bench.laden_line_1 bench.laden_line_2;
      without = refl;
      nitrified = refl;
      used_up_above = refl;
      refusal = refl;
      mean = refl;
      river_mean = refl;
      no_volume = refl;
      zero = refl;
      ten = refl;
      below_zero = refl;
      large = refl;
    }
