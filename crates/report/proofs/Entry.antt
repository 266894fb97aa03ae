-- The entry's contract follows from its result and the buffer that it leaves: the figures read back from the bytes are those of the definitions, for
-- which demand 3 holds. Assumes nothing.
use mathlib.Core.Path.{◌≡◌, refl, sym, ap, ◌∙◌, subst}
use mathlib.Core.Logic.{◌↔◌}
use mathlib.Core.Bool.{Bool, true, false, cond}
use mathlib.Core.List.{List}
use Prim.Native.Nat.{ℕ, suc, ◌-◌, ◌≤◌, ◌<◌}
use native.Mathlib.Nat.{le_refl}
use native.Mathlib.Omega.{arith}
use borrow.Author.Tests.{lt-ltb, le-ltb, le-leb, lt-leb, leb-true}
use lib.Dec.{eqb, leb→le}
use lib.IntN.{ℤ, pos, negsuc}
use lib.Signed.{◌≤ℤ◌}
use lib.ListN.{length, drop}
use Rattle.river.specs.declared.card.Card.{Card}
use Rattle.river.specs.declared.refusal.Refusal.{Refusal}
use Rattle.flows.specs.declared.accept.Acceptance.{Acceptance}
use Rattle.river.specs.Bytes.{AreBytes}
use Rattle.river.specs.Card.{card_list}
use Rattle.river.specs.Refusal.{Answer, accepted, refused, refuse, after as then}
use Rattle.flows.specs.Flow.{card_of, above}
use Rattle.flows.specs.held.Stored.{stored_zero, stored_limit}
use Rattle.flows.specs.Accept.{accept_file}
use Rattle.flows.specs.held.Accepts.{Accepts}
use Rattle.flows.proofs.Acceptance.{accepts_exactly}
use Rattle.river.proofs.Answers.{passed, went, need_true, need_false, after_accepted, after_refused}
use Rattle.report.specs.Status.{shown_oxygen}
use Rattle.report.specs.Program.{oxygen_at, critical_oxygen, used_above, status_of, figures_of, figures_at, reported_at, foot}
use Rattle.report.specs.Distance.{allowance_at, WithinAllowance}
use Rattle.report.specs.Record.{has_nitrification, complement, from_complement, record_size, record_at, read_record, Figures}
use Rattle.report.specs.held.Answers.{AnswersReport}
use Rattle.report.specs.Call.{result_of, lent_after}
use Rattle.report.specs.Report.{record_of, report_size, room_answer, report_answer, buffer_reported, figures_read, Accepted, UsedUpAbove, TellsReach, Reports}
use Rattle.report.specs.Ties.{Tied}
use Rattle.report.specs.held.Lines.{Ready}
use Rattle.report.specs.declared.reporting.Reported.{Reported}
use Rattle.report.proofs.Lowest.{lowest_first}
use Rattle.report.proofs.Bounds.{Range}
use Rattle.report.proofs.NoNitrification.{none_reported}
use Rattle.report.proofs.Statuses.{reported_same, status_two, used_from_one, figures_status}
use Rattle.report.proofs.UsedAbove.{UsedReach, used_exactly}
use Rattle.report.proofs.River.{IsRiver, river_of_file, head_in_range, instant_in_range, reach_tied, reach_within_allowance}
use Rattle.report.proofs.record.Encoding.{Writable, record_length, read_back}
use Rattle.report.proofs.record.Rows.{Begins, stands}
use Rattle.report.proofs.Calls.{IsAccepted, called, result_is, value_told}
use Rattle.river.specs.declared.refusal.Rule.TheVariants.{BufferShort}

-- two's complement holds the oxygen of an accepted river
pub complement_in_range : (z : ℤ) → negsuc 1_640_000_383 ≤ℤ z → z ≤ℤ pos 20_000_128 → from_complement (complement z) ≡ z
unfolding complement from_complement
complement_in_range (pos n) low high =
    let h : n ≤ 20_000_128 = leb→le n 20_000_128 high.le in
    rw (lt-ltb n stored_zero (omega arith))
complement_in_range (negsuc n) low high =
    let h : n ≤ 1_640_000_383 = leb→le n 1_640_000_383 low.le in
    rw (le-ltb (stored_limit - n) stored_zero (omega arith)) (ap negsuc (omega arith))

complement_back : {b : ℕ} (z : ℤ) → Range b z → from_complement (complement z) ≡ z
complement_back z r = complement_in_range z r.oxygen_low r.oxygen_high

-- and what is reported of it, which is 0 at status 2
shown_back : (status : ℕ) (z : ℤ) → from_complement (complement z) ≡ z → from_complement (complement (shown_oxygen status z)) ≡ shown_oxygen status z
unfolding shown_oxygen complement from_complement
shown_back status z h = go (eqb status 2)
  where
    go : (t : Bool) → from_complement (complement (cond t (pos 0) z)) ≡ cond t (pos 0) z
    go true = refl
    go false = h

writable : {cards : List Card} → IsRiver cards → (i : ℕ) → i < length cards → Writable (has_nitrification cards) (reported_at cards (suc i))
unfolding figures_of oxygen_at
writable {cards} river i l =
    let c = lowest_first (oxygen_at (card_of cards (suc i)) (above cards (suc i))) foot in
    record {
      head = shown_back _ _ (complement_back _ (head_in_range river i l));
      critical =
          shown_back _ _ (subst (λ (z : ℤ). from_complement (complement z) ≡ z) (sym c.value) (complement_back _ (instant_in_range river i l _ c.within)));
      foot = shown_back _ _ (complement_back _ (instant_in_range river i l foot (le_refl foot)));
      plain = λ e. none_reported cards e i l;
    }

-- an accepted river whose report the buffer can hold is what reporting answers
pub answers : (file : List ℕ) {room : ℕ} (river : Accepted file room) → report_answer file room ≡ accepted river.cards
unfolding report_answer room_answer
answers file {room} river =
    after_accepted (accept_file file) _ river.passes
    ∙ need_true _ BufferShort 0 _ (le-leb (report_size river.cards) room river.holds)

-- the record of each reach of a reported river stands at its place
pub record_stands :
    (file before : List ℕ) {after : List ℕ} →
    after ≡ lent_after buffer_reported (report_answer file (length before)) before →
    (river : Accepted file (length before)) (i : ℕ) →
    i < length river.cards →
    Begins (record_of river.cards i) (record_at (record_size river.cards) after i)
unfolding lent_after
record_stands file before buffer river i l =
    rw (buffer, answers file river)
    (stands (record_of river.cards) (record_size river.cards) (λ j. record_length (has_nitrification river.cards) (reported_at river.cards (suc j))) (length river.cards) i (drop (report_size river.cards) before) l)

-- and what it answers is such a river
answered : (file : List ℕ) {room : ℕ} → IsAccepted (report_answer file room) → Accepted file room
unfolding report_answer room_answer
answered file a =
    let w = went (accept_file file) _ a.is in
    let p = passed _ BufferShort 0 (accepted w.value) w.then in
    record { cards = w.value; passes = w.first; holds = leb-true _ _ p.test }

module _ (file before : List ℕ) where
  module _ (bytes : AreBytes file) {after : List ℕ} (buffer : after ≡ lent_after buffer_reported (report_answer file (length before)) before) (river : Accepted file (length before)) where
    is_river : IsRiver river.cards
    is_river = river_of_file file bytes river.passes

    module _ (i : ℕ) (l : i < length river.cards) where
      -- the figures in the bytes are those that are reported of the reach
      figures_read_lem : figures_read river.cards after i ≡ reported_at river.cards (suc i)
      figures_read_lem =
          let s = record_stands file before buffer river i l in
          let nitrified = has_nitrification river.cards in
          ap (read_record nitrified) s.is ∙ read_back nitrified (reported_at river.cards (suc i)) s.rest (writable is_river i l)

      -- at status 0 and 1 they are all that the program computed
      figures_whole : (figures_read river.cards after i).status ≤ 1 → figures_read river.cards after i ≡ figures_at river.cards (suc i)
      figures_whole h =
          figures_read_lem ∙ reported_same (figures_at river.cards (suc i)) (subst (λ (f : Figures). f.status ≤ 1) figures_read_lem h)

      -- and the status in the bytes is that of the definition
      status_read : (figures_read river.cards after i).status ≡ status_of (card_of river.cards (suc i)) (above river.cards (suc i))
      status_read = ap (λ (f : Figures). f.status) figures_read_lem ∙ figures_status (card_of river.cards (suc i)) (above river.cards (suc i))

    -- a reach above has status 1 or 2 where the bytes say so
    used_told : {i : ℕ} → UsedReach river.cards i → UsedUpAbove river.cards after i
    used_told r =
        record { place = r.place; within = r.within; lies_above = r.lies_above; used_up = rw (status_read r.place r.within) ((used_from_one _).0 r.used) }

    used_meant : {i : ℕ} → UsedUpAbove river.cards after i → UsedReach river.cards i
    used_meant u =
        record { place = u.place; within = u.within; lies_above = u.lies_above; used = (used_from_one _).1 (rw (status_read u.place u.within) at u.used_up) }

    -- and so the bytes say 2 exactly where they say that of a reach above
    two_read : (i : ℕ) → i < length river.cards → ((figures_read river.cards after i).status ≡ 2) ↔ UsedUpAbove river.cards after i
    unfolding status_of
    two_read i l =
        let two = status_two (used_above (above river.cards (suc i))) (critical_oxygen (card_of river.cards (suc i)) (above river.cards (suc i))) in
        let used = used_exactly is_river.lawful i l in
        ((λ e. used_told (used.0 (two.0 (sym (status_read i l) ∙ e)))), λ u. status_read i l ∙ two.1 (used.1 (used_meant u)))

    -- so the bytes tell all that the paper says of a reach
    tells_reach : (i : ℕ) → i < length river.cards → TellsReach river.cards after i
    unfolding figures_of
    tells_reach i l =
        let card = card_of river.cards (suc i) in
        let up = above river.cards (suc i) in
        let read = figures_read_lem i l in
        record {
          figures = read;
          whole = figures_whole i l;
          depth = ap (λ (f : Figures). f.depth) read;
          flow = ap (λ (f : Figures). f.flow) read;
          status = status_read i l;
          used_up_above = two_read i l;
          tied = subst (Tied card (oxygen_at card up)) (sym read) (reach_tied is_river i l);
          within =
              λ N long.
              subst (λ (f : Figures). WithinAllowance N card up f (allowance_at river.cards (suc i))) (sym read)
              (reach_within_allowance is_river i l N long);
        }

-- THEOREM: what the entry returns and leaves behind is all that the river file paper says of reporting, demand 3 included
pub reports_of :
    (file before after : List ℕ) (result : ℕ) →
    AreBytes file →
    result ≡ result_of (report_answer file (length before)) →
    after ≡ lent_after buffer_reported (report_answer file (length before)) before →
    Reports file before after result
reports_of file before after result bytes answer buffer =
    record {
      call =
          called buffer_reported (report_answer file (length before))
          (answered file, λ river. record { value = river.cards; is = answers file river }) answer buffer;
      lawful = λ cards. accepts_exactly file cards bytes;
      each = tells_reach file before bytes buffer;
    }

-- the entry's contract, by what reporting answers
pub reports :
    {file before after : List ℕ} {result : ℕ} (r : Answer Reported) →
    AreBytes file →
    AnswersReport file before after r →
    result ≡ result_of r →
    Reports file before after result
reports {file} {before} {after} {result} r bytes h e = reports_of file before after result bytes (e ∙ result_is r h) h.leaves

-- an accepted river, of which reporting tells count and nitrification, and the bytes all that the paper says
pub record ReportGiven (file before after : List ℕ) (r : Reported) : Type 0 where
  pub river : Accepted file (length before)
  pub count : r.count ≡ length river.cards
  pub nitrified : r.nitrified ≡ has_nitrification river.cards
  pub each : (i : ℕ) → i < length river.cards → TellsReach river.cards after i

pub report_given : {file before after : List ℕ} (r : Reported) → AreBytes file → AnswersReport file before after (accepted r) → ReportGiven file before after r
report_given {file} {before} r bytes h =
    let t = value_told (report_answer file (length before)) h in
    let river = answered file (record { value = t.value; is = t.is }) in
    let same : t.value ≡ river.cards = cc (t.is, answers file river) in
    record {
      river = river;
      count = ap (λ (x : Reported). x.count) t.told_is ∙ ap length same;
      nitrified = ap (λ (x : Reported). x.nitrified) t.told_is ∙ ap has_nitrification same;
      each = tells_reach file before bytes h.leaves river;
    }

-- the answer for a file that reading or the flow check refuses
pub file_refused : {file : List ℕ} (room : ℕ) {refusal : Refusal} → Accepts file (refused refusal) → report_answer file room ≡ refused refusal
unfolding report_answer then
file_refused {file} room h = after_refused (accept_file file) _ (sym h.answer)

-- and for an accepted one, by the room
module _ {file : List ℕ} {river : Acceptance} (h : Accepts file (accepted river)) where
  pub file_accepted : accept_file file ≡ accepted (card_list river.effective)
  unfolding then
  file_accepted = sym h.answer

  pub file_short : (room : ℕ) → room < report_size (card_list river.effective) → report_answer file room ≡ refused (refuse BufferShort 0)
  unfolding report_answer room_answer
  file_short room l =
      after_accepted (accept_file file) _ file_accepted ∙ need_false _ BufferShort 0 _ (lt-leb (report_size (card_list river.effective)) room l)

  pub file_held : (room : ℕ) → report_size (card_list river.effective) ≤ room → report_answer file room ≡ accepted (card_list river.effective)
  file_held room l = answers file (record { cards = card_list river.effective; passes = file_accepted; holds = l })

  pub file_ready : Ready (card_list river.effective) river.flows
  file_ready = record { lawful = h.sound.lawful; sound = h.sound.sound; tabled = h.sound.tabled }
