-- `river::bytes::put_bytes` meets its contract: a part of a buffer is replaced.
-- Assumes nothing.
use Rattle.std.proofs.Common.{◌≡◌, ◌+◌, ◌-◌, length, rules, arith}
use Rattle.std.proofs.lemmas.List.{append_assoc, drop-drop}
use Rattle.std.proofs.lemmas.List.Edits.{sets-eq}
use Rattle.river.proofs.bytes.put_bytes.Goals as goal

pub returns : goal.returns
returns c =
    let n : c.args.at + length c.args.bytes.now - c.args.at ≡ length c.args.bytes.now = omega arith in
    let set = sets-eq c.args.bytes.now c.args.out.now c.args.at c.requires in
    record { buffer = rw (set, c.copy_from_slice.ensures.after, n) (simp (drop-drop, append_assoc)); place = search rules }
