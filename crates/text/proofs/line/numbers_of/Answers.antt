-- `text::line::numbers_of` meets its contract, number by number. Assumes nothing.
use Rattle.text.specs.Text.{numbers_of}
use Rattle.text.proofs.line.numbers_of.Goals as goal

pub returns : goal.returns
unfolding numbers_of
returns c =
    rw (
      c.plain.ensures,
      c.plain-2.ensures,
      c.plain-3.ensures,
      c.plain-4.ensures,
      c.plain-5.ensures,
      c.plain-6.ensures,
      c.plain-7.ensures,
      c.plain-8.ensures,
      c.plain-9.ensures,
      c.from.ensures,
      c.from-2.ensures,
      c.from-3.ensures,
      c.from-4.ensures,
      c.from-5.ensures,
      c.from-6.ensures,
    )
