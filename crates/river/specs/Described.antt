-- Described records: a record is its mark, its fields, and how their numbers make a value. Reading, ranges, encoding and length follow.
use Rattle.std.specs.Prelude.{Bool, true, List, [], ◌++◌, ℕ, ◌+◌, Option, Some, None}
use Rattle.river.specs.Bytes.{Mark, mark_bytes}
use Rattle.river.specs.Fields.{Field, Numbers, OfNumbers, applied, widths, numbers_at, numbers_bytes, AllWithin, all_within}
use Rattle.river.specs.Optional.{Kind}

-- a description of an optional record
pub record Described : Type 1 where
  -- its values
  pub Value : Type 0
  -- its mark, and the fields behind it
  pub mark : Mark
  pub fields : List Field
  -- the value that numbers make, and the numbers of a value
  pub make : OfNumbers fields Value
  pub numbers : Value → Numbers fields

module _ (d : Described) where
  -- the value in a record's bytes
  abbrev pub value_at : List ℕ → d.Value
  value_at s = applied d.fields d.make (numbers_at d.fields s 2)

  -- the record of a value, no byte where there is none
  abbrev pub encode_value : Option d.Value → List ℕ
  encode_value None = []
  encode_value (Some v) = mark_bytes d.mark ++ numbers_bytes d.fields (d.numbers v)

  -- no value, or one with its numbers in range, and the test of it
  abbrev pub InRange : Option d.Value → Type 0
  InRange None = Unit
  InRange (Some v) = AllWithin d.fields (d.numbers v)

  abbrev pub value_in_range : Option d.Value → Bool
  value_in_range None = true
  value_in_range (Some v) = all_within d.fields (d.numbers v)

  -- the kind of record that is described
  abbrev pub kind_of : Kind
  kind_of =
      record {
        Value = Option d.Value;
        none = None;
        mark = d.mark;
        size = 2 + widths d.fields;
        decode = λ s. Some (value_at s);
        test = λ s. all_within d.fields (numbers_at d.fields s 2);
        encode = encode_value;
        in_range = value_in_range;
      }
