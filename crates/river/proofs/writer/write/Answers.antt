-- `river::writer::write` meets its contract: the first refusal of the river, or 12, or its file.
-- Assumes nothing.
use Rattle.std.proofs.Common.{rules, sym}
use Rattle.river.specs.River.{river_of}
use Rattle.river.proofs.write.Writing.{Passing, refuses_river, passing, refuses_room, writes}
use Rattle.river.proofs.writer.write.Goals as goal
use Rattle.river.proofs.writer.write.Goals.{In_ok-length}

pub returns-in_err-length : goal.returns-in_err-length
returns-in_err-length c =
    let refused = refuses_river (river_of c.args.factors c.args.cards.now) c.args.out.now (sym c.in_err-length.ensures) in
    search (rules, refused)

-- the length of the file where the river passes
pass : (c : In_ok-length) → Passing (river_of c.args.factors c.args.cards.now) c.args.out.now c.in_ok-length.length
pass c = passing _ _ (sym c.in_ok-length.ensures)

pub returns-then-out-length : goal.returns-then-out-length
returns-then-out-length c = rw c.at.ensures (refuses_room _ _ (pass ((goal.at.returns-then-out-length c).In_ok-length)) c.if-out-length.true)

pub put_all-requires : goal.put_all-requires
put_all-requires c =
    let p = pass ((goal.at.put_all-requires c).In_ok-length) in
    record { few = p.few; room = rw p.size c.if-out-length.false }

pub returns : goal.returns
returns c = writes _ _ (pass ((goal.at.returns c).In_ok-length)) c.if-out-length.false c.put_all.ensures
