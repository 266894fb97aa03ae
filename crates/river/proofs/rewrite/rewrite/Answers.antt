-- `river::rewrite::rewrite` meets its contract: the laws of proofs/RoundTrip over what reading and writing yield. That the file's elements are bytes
-- comes from its slice.
-- Assumes nothing.
use Rattle.std.proofs.Common.{arith, rules, refl, ◌≡◌, ℕ, List, length}
use Rattle.std.proofs.Math.Seq.{length-take-le}
use Rattle.river.specs.Card.{card_list}
use Rattle.river.specs.File.{river_read}
use Rattle.river.specs.Write.{Writes}
use Rattle.river.specs.Rewrite.{WritesBack}
use Rattle.river.specs.Bytes.{AreBytes}
use Rattle.river.specs.Refusal.{Answer, refused}
use Rattle.river.proofs.Answers.{after_accepted, after_refused}
use Rattle.river.proofs.RoundTrip.{end_of, refused_back, written_back}
use Rattle.river.proofs.rewrite.rewrite.Goals as goal
use Rattle.river.proofs.rewrite.rewrite.Goals.{In-Ok}

pub returns-in-Err : goal.returns-in-Err
returns-in-Err c =
    let bytes : AreBytes c.args.file.now = record { below = λ k. search rules } in
    refused_back bytes c.read_file.ensures c.in-Err.is

-- the cards of a reading are as many as it counts
counted : (c : In-Ok) → length (card_list c.in-Ok.reading.cards) ≡ c.in-Ok.reading.cards.count
counted c =
    let cards = c.in-Ok.reading.cards in
    let full : length cards.at ≡ 128 = search rules in
    length-take-le cards.count cards.at (omega (arith, let reads = rw c.in-Ok.is at c.read_file.ensures in reads.few))

-- writing what was read ends as rewriting does
ends : (c : In-Ok) {w : Answer ℕ} {o : Answer Unit} {exit : List ℕ} → Writes c.in-Ok.reading.cards.count (river_read c.in-Ok.reading) c.args.out.now w exit
    → end_of w ≡ o → WritesBack c.args.file.now c.args.out.now o exit
ends c writes end =
    let bytes : AreBytes c.args.file.now = record { below = λ k. search rules } in
    written_back bytes c.read_file.ensures c.in-Ok.is (rw (counted c) writes) end

pub returns-in_err-write_cards : goal.returns-in_err-write_cards
returns-in_err-write_cards c =
    let same : c.from_residual.result ≡ refused c.in_err-write_cards.field-0.0 = search rules in
    rw same (ends ((goal.at.returns-in_err-write_cards c).In-Ok) c.in_err-write_cards.ensures (after_refused _ _ refl))

pub returns : goal.returns
returns c = ends ((goal.at.returns c).In-Ok) c.in_ok-write_cards.ensures (after_accepted _ _ refl)
