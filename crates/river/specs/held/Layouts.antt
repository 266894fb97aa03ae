-- What a layout of the program describes: a record of one number.
use Rattle.std.specs.Prelude.{Bool, true, false}
use Rattle.river.specs.declared.card.Layout.{Layout}
use Rattle.river.specs.Described.{Described, kind_of}
use Rattle.river.specs.Fields.{Width, two, four, between}
use Rattle.river.specs.Optional.{Kind}
use Rattle.river.specs.Records.{amount}

-- the width of a layout's number, and what a layout of the program describes
abbrev pub width_of : (wide : Bool) → Width
width_of true = four
width_of false = two

abbrev pub described : Layout → Described
described l = amount l.mark (between (width_of l.wide) l.least l.most)

abbrev pub amount_record : Layout → Kind
amount_record l = kind_of (described l)
