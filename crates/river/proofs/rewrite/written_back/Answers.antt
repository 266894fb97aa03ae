-- `river::rewrite::written_back` meets its contract: what was written lies within the buffer, and reading it gives the same river. That the buffer's
-- elements are bytes comes from its slice.
-- Assumes nothing.
use Rattle.std.proofs.Common.{arith, rules, sym, length, ◌≡◌, ◌≤◌}
use Rattle.std.proofs.Math.Seq.{length-take-le}
use Rattle.river.specs.River.{river_of}
use Rattle.river.specs.Bytes.{AreBytes}
use Rattle.river.specs.Refusal.{refused}
use Rattle.river.proofs.RoundTrip.{written_fits, refused_to_read, file_read_back}
use Rattle.river.proofs.rewrite.written_back.Goals as goal
use Rattle.river.proofs.rewrite.written_back.Goals.{In_ok-length}

pub returns-in_err-length : goal.returns-in_err-length
returns-in_err-length c =
    let bytes : AreBytes c.write.new.out = record { below = λ k. search rules } in
    let same : c.from_residual.result ≡ refused c.in_err-length.field-0.0 = search rules in
    refused_to_read bytes c.in_err-length.ensures same

-- what was written lies within the buffer
within : (c : In_ok-length) → c.in_ok-length.length ≤ length c.write.new.out
within c = omega (arith, written_fits (river_of c.args.factors c.args.cards.now) _ _ _ c.in_ok-length.ensures)

pub slice_bounds-read_file-end : goal.slice_bounds-read_file-end
slice_bounds-read_file-end c = within c

pub slice_bounds-read_file-end-2 : goal.slice_bounds-read_file-end-2
slice_bounds-read_file-end-2 c = sym (length-take-le c.in_ok-length.length c.write.new.out (within c))

pub returns : goal.returns
returns c =
    let bytes : AreBytes c.write.new.out = record { below = λ k. search rules } in
    file_read_back bytes c.in_ok-length.ensures c.read_file.ensures
