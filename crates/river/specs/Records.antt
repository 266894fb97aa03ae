-- The optional records, each by its description: the tables of "The river file".
use Rattle.std.specs.Prelude.{[], ◌∷◌, ℕ}
use Prim.Native.Char.{code}
use Rattle.river.specs.declared.card.Dam.{Dam}
use Rattle.river.specs.declared.card.Nitrification.{Nitrification}
use Rattle.river.specs.declared.card.RateFactors.{RateFactors}
use Rattle.river.specs.Bytes.{Mark, mark}
use Rattle.river.specs.Described.{Described, kind_of}
use Rattle.river.specs.Fields.{Field, two, four, between, up_to, any}
use Rattle.river.specs.Optional.{Kind}

-- the range of a rate factor, in thousandths
abbrev pub rate_factor : Field
rate_factor = between two 1_000 1_100

-- the `Th` record: mark; factor of k1 and of the nitrogenous rate (2; 1,000 to 1,100); factor of k2 (the same)
abbrev pub Th : Described
Th =
    record {
      Value = RateFactors;
      mark = mark (code "T") (code "H");
      fields = rate_factor ∷ rate_factor ∷ [];
      make = λ decay aeration. record { decay = decay; aeration = aeration };
      numbers = λ factors. (factors.decay, (factors.aeration, tt));
    }

abbrev pub factors_record : Kind
factors_record = kind_of Th

-- the `DM` record: mark; share (2; to 1,000); generating flow (4; to 100,000,000)
abbrev pub DM : Described
DM =
    record {
      Value = Dam;
      mark = mark (code "D") (code "M");
      fields = up_to two 1_000 ∷ up_to four 100_000_000 ∷ [];
      make = λ share generating. record { share = share; generating = generating };
      numbers = λ dam. (dam.share, (dam.generating, tt));
    }

abbrev pub dam_record : Kind
dam_record = kind_of DM

-- a record of one number: mark; the number
abbrev pub amount : Mark → Field → Described
amount m f =
    record {
      Value = ℕ;
      mark = m;
      fields = f ∷ [];
      make = λ n. n;
      numbers = λ n. (n, tt);
    }

-- the `WD` record: mark; take (4; to 100,000,000)
abbrev pub WD : Described
WD = amount (mark (code "W") (code "D")) (up_to four 100_000_000)

abbrev pub take_record : Kind
take_record = kind_of WD

-- the `BP` record: mark; pressure (2; 500 to 800)
abbrev pub BP : Described
BP = amount (mark (code "B") (code "P")) (between two 500 800)

abbrev pub pressure_record : Kind
pressure_record = kind_of BP

-- the `SD` record: mark; demand (2; any)
abbrev pub SD : Described
SD = amount (mark (code "S") (code "D")) (any two)

abbrev pub sludge_record : Kind
sludge_record = kind_of SD

-- the most that a rate may be, on a card as in force
abbrev pub rate_most : ℕ
rate_most = 20_000

-- the `NT` record: mark; rate (2; to 20,000); concentration (4; to 1,000,000); load (4; any); four bytes of zeros, so that a nitrification
-- has one record
abbrev pub NT : Described
NT =
    record {
      Value = Nitrification;
      mark = mark (code "N") (code "T");
      fields = up_to two rate_most ∷ up_to four 1_000_000 ∷ any four ∷ up_to four 0 ∷ [];
      make = λ rate concentration load zeros. record { rate = rate; concentration = concentration; load = load };
      numbers = λ n. (n.rate, (n.concentration, (n.load, (0, tt))));
    }

abbrev pub nitrification_record : Kind
nitrification_record = kind_of NT
