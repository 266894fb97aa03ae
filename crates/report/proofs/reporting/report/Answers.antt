-- `report::reporting::report` meets its contract, by the answer of reading and flow check and by the length of the buffer. Assumes nothing.
use mathlib.Core.Path.{◌≡◌, refl, ap, ap₂, ◌∙◌}
use mathlib.Core.Bool.{Bool}
use Prim.Native.Nat.{ℕ, ◌*◌, min}
use lib.ListN.{length}
use native.Mathlib.Omega.{arith}
use Rattle.std.proofs.Common.{rules}
use Rattle.river.specs.Refusal.{refused}
use Rattle.river.specs.Card.{card_list}
use Rattle.river.specs.declared.card.Cards.{Cards}
use Rattle.flows.proofs.flow.Count.{reaches_counted}
use Rattle.report.specs.Record.{has_nitrification, record_bytes}
use Rattle.report.specs.Report.{report_size}
use Rattle.report.proofs.Calls.{answers_refusal, answers_value}
use Rattle.report.proofs.Entry.{file_refused, file_short, file_held}
use Rattle.report.proofs.reporting.report.Goals as goal

-- the bytes of a record, times how many there are, are those of the report
size_is : (cs : Cards) {record_size count : ℕ} {nitrified : Bool} → length cs.at ≡ 128 → record_size ≡ record_bytes nitrified → nitrified ≡ has_nitrification (card_list cs) → count ≡ min cs.count 128 → record_size * count ≡ report_size (card_list cs)
size_is cs full size nitrified count = ap₂ ◌*◌ (size ∙ ap record_bytes nitrified) (reaches_counted cs full count)

pub returns-in_err-river : goal.returns-in_err-river
returns-in_err-river c = answers_refusal (file_refused _ c.in_err-river.ensures) (search rules)

pub returns-then-short : goal.returns-then-short
returns-then-short c =
    let size = size_is c.in_ok-river.river.effective (omega arith) c.record_bytes.ensures c.has_nitrification-nitrified.ensures c.reach_count-count.ensures in
    answers_refusal (file_short c.in_ok-river.ensures _ (omega (arith, c.if-short.true, size))) (ap refused c.at.ensures)

pub returns : goal.returns
returns c =
    let river = c.in_ok-river.river in
    let size = size_is river.effective (omega arith) c.record_bytes.ensures c.has_nitrification-nitrified.ensures c.reach_count-count.ensures in
    answers_value
    (file_held c.in_ok-river.ensures _ (omega (arith, c.if-short.false, size)))
    refl
    (ap₂ (λ (n : ℕ) (b : Bool). record { count = n; nitrified = b }) (reaches_counted river.effective (omega arith) c.reach_count-count.ensures) c.has_nitrification-nitrified.ensures)
    c.report_all.ensures
