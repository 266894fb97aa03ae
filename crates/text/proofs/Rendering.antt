-- What `render` puts is the text for its file, by what reporting answers. Assumes nothing.
use mathlib.Core.Path.{◌≡◌, refl, sym, ap, ap₂, ◌∙◌}
use mathlib.Core.List.{List, ◌++◌}
use Prim.Native.Nat.{ℕ, suc, ◌*◌, ◌≤◌}
use native.Mathlib.Nat.{le_trans, mul-le-mul}
use native.Mathlib.Omega.{arith}
use lib.ListN.{length, drop, length-map}
use lib.Seq.{length-take-le}
use Rattle.io.specs.Counts.{IsPrefixLen}
use Rattle.river.specs.declared.card.Card.{Card}
use Rattle.flows.specs.Accept.{accept_file}
use Rattle.river.specs.Bytes.{AreBytes}
use Rattle.river.specs.declared.refusal.Refusal.{Refusal}
use Rattle.flows.specs.Rates.{card_in_force}
use Rattle.river.specs.Refusal.{Answer, accepted, refused, number_of}
use Rattle.flows.proofs.Acceptance.{accepts_exactly}
use Rattle.river.proofs.Answers.{never, after_refused}
use Rattle.river.proofs.bytes.Puts.{put_at_start}
use Rattle.report.specs.Program.{reported_at}
use Rattle.report.specs.Record.{has_nitrification, record_bytes}
use Rattle.report.specs.Report.{report_answer}
use Rattle.report.specs.declared.reporting.Reported.{Reported}
use Rattle.report.proofs.Entry.{answers, ReportGiven}
use Rattle.report.proofs.record.Encoding.{record_bounds}
use Rattle.text.specs.Text.{reach_line, lines_of, refusal_line, text_of, Rendered}
use Rattle.river.specs.declared.bytes.Cursor.{Cursor}
use Rattle.text.specs.held.Words.{recorded, PutsWithin}
use Rattle.text.proofs.put.Lines.{same_lines}

module _ {file : List ℕ} (bytes : AreBytes file) where
  -- an accepted river has at most 128 reaches
  pub few : {cards : List Card} → accept_file file ≡ accepted cards → length cards ≤ 128
  few {cards} e =
      let a = (accepts_exactly file cards bytes).0 e in
      let given = a.river.cards in
      let same : length cards ≡ length given = ap length a.in_force ∙ length-map given (card_in_force a.river.factors) in
      rw same a.lawful.cards.few

  -- the records that reporting gives stand in its buffer
  pub records_fit :
      {before after : List ℕ} (r : Reported) →
      ReportGiven file before after r →
      length after ≡ length before →
      (r.count ≤ 128) × (record_bytes r.nitrified * r.count ≤ length after)
  records_fit r given same = rw (given.nitrified, given.count) (few given.river.passes, omega (arith, given.river.holds))

  -- the lines of the records that reporting gives are those of the river
  pub lines_are :
      {before after : List ℕ} (r : Reported) →
      ReportGiven file before after r →
      lines_of r.nitrified (recorded r.nitrified after) r.count ≡ text_of (accept_file file)
  unfolding text_of
  lines_are {after = after} r given =
      let cards = given.river.cards in
      let nitrified = has_nitrification cards in
      rw (given.nitrified, given.count)
      (same_lines (λ i. reach_line nitrified i (recorded nitrified after i)) (λ i. reach_line nitrified i (reported_at cards i)) (length cards)
      (λ i l. ap (reach_line nitrified (suc i)) (given.each i l).figures)
      ∙ sym (ap text_of given.river.passes))

  -- a refusal where there is room for every report is that of the file
  refusal_of :
      {room : ℕ} (x : Answer (List Card)) {r : Refusal} →
      40 * 128 ≤ room →
      accept_file file ≡ x →
      report_answer file room ≡ refused r →
      refusal_line (number_of r.rule) r.reach ≡ text_of x
  unfolding text_of report_answer
  refusal_of {room} (accepted cards) long e h =
      never (sym h ∙ answers file (record { cards = cards; passes = e; holds = le_trans (mul-le-mul (record_bounds (has_nitrification cards)).1 (few e)) long }))
  refusal_of (refused s) {r} long e h =
      let same : r ≡ s = cc (h, after_refused (accept_file file) _ e) in
      ap (λ (x : Refusal). refusal_line (number_of x.rule) x.reach) same

  pub refusal_is : {room : ℕ} {r : Refusal} → 40 * 128 ≤ room → report_answer file room ≡ refused r → refusal_line (number_of r.rule) r.reach ≡ text_of (accept_file file)
  refusal_is long h = refusal_of (accept_file file) long refl h

-- a text that is put at the start of a buffer
pub renders :
    {before after : Cursor} {text due : List ℕ} {most : ℕ} →
    before.at ≡ 0 →
    PutsWithin most text before after →
    text ≡ due →
    most ≤ length before.out.now →
    Rendered due before.out.now after.out.now after.at × IsPrefixLen after.at after.out.now
renders {before} {after} {text} {due} {most} start p e fits =
    let put = rw start at p.put.put in
    let size : after.at ≡ length text = omega (arith, p.put.put.place, start) in (
      record {
        size = size ∙ ap length e;
        buffer = put_at_start put (omega (arith, p.within, start)) ∙ ap₂ (λ (t : List ℕ) (n : ℕ). t ++ drop n before.out.now) e (sym size);
      },
      (omega (arith, p.within, p.long, start), sym (length-take-le after.at after.out.now (omega (arith, p.within, p.long, start)))),
    )
