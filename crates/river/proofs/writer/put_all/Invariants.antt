-- `river::writer::put_all`: the cards that are put so far, behind the opening.
use Rattle.std.proofs.Common.{take}
use Rattle.river.specs.Write.{encode_cards}
use Rattle.river.specs.held.Cursors.{Puts}
use Rattle.river.proofs.writer.put_all.Given as goal

abbrev pub invariant-loop-card : goal.invariant-loop-card
invariant-loop-card l = Puts l.initial.cursor (encode_cards (take l.card-index l.cards)) l.cursor
