-- The contract of the mean's entry follows from the answer of the call and the buffer that it leaves, as that of reporting does. Assumes nothing.
use mathlib.Core.Path.{◌≡◌, refl, sym, ap, ap₂, ◌∙◌, subst}
use mathlib.Core.List.{List, ◌++◌}
use Prim.Native.Nat.{ℕ, zero, suc, ◌*◌, ◌/◌, ◌%◌, ◌≤◌, ◌<◌}
use native.Mathlib.Nat.{div-add-mod', le_refl}
use native.Mathlib.Omega.{arith}
use borrow.Author.Tests.{lt-ltb, le-ltb, le-leb, lt-leb, leb-true, ltb-true}
use lib.IntN.{ℤ, pos, ◌+ℤ◌, ◌*ℤ◌}
use lib.ListN.{length, take, drop, length-take}
use lib.Seq.{get_or-take}
use Rattle.decay.specs.Fraction.{of_ℤ, ◌≼◌, distance}
use Rattle.river.specs.declared.card.Card.{Card}
use Rattle.river.specs.declared.refusal.Refusal.{Refusal}
use Rattle.flows.specs.declared.accept.Acceptance.{Acceptance}
use Rattle.river.specs.Bytes.{AreBytes, four_bytes, four_at}
use Rattle.river.specs.Card.{card_list}
use Rattle.river.specs.Refusal.{Answer, accepted, refused, refuse, after as then}
use Rattle.flows.specs.Flow.{card_of, above}
use Rattle.river.specs.Card.{Lawful}
use Rattle.flows.specs.held.Stored.{oxygen_of}
use Rattle.flows.specs.Accept.{accept_file}
use Rattle.flows.specs.held.Accepts.{Accepts}
use Rattle.flows.proofs.Acceptance.{accepts_exactly}
use Rattle.river.proofs.Answers.{passed, went, need_true, need_false, after_accepted, after_refused}
use Rattle.report.specs.Record.{complement, from_complement}
use Rattle.report.specs.held.Answers.{MeansTold, means_in, means_told, AnswersMeans}
use Rattle.report.specs.Call.{result_of, lent_after}
use Rattle.report.specs.Report.{first_rows}
use Rattle.report.specs.Distance.{allowance_at}
use Rattle.report.specs.ExactMean.{exact_mean_oxygen}
use Rattle.report.specs.Mean.{mean_at, counted_volume_at, counted_volume, weighted_sum, river_mean, mean_bytes, mean_row, means_of, means_size, mean_room_answer, mean_answer, buffer_averaged, Weighted, Averaged, mean_read, MeansLent, lent, means_written, TellsMean, TellsRiverMean, Means}
use Rattle.report.specs.held.MeanLines.{MeansTabled, AllAveraged, stored_row}
use Rattle.report.specs.declared.mean.RiverMean.{RiverMean}
use Rattle.report.specs.declared.mean.MeanTable.{MeanTable}
use Rattle.report.proofs.River.{IsRiver, river_of_file}
use Rattle.report.proofs.MeanOxygen.{is_mean, mean_within_allowance, mean_tied, mean_blank, volume_counts, mean_in_range}
use Rattle.report.proofs.Entry.{complement_in_range, file_accepted}
use Rattle.report.proofs.Calls.{IsAccepted, called, answers_refusal, answers_value, refusal_told, value_told}
use Rattle.report.proofs.record.Rows.{Begins, stands, same_rows}
use Rattle.report.proofs.weights.Weighing.{stored_quotient, divided_back, rest_below}
use Rattle.river.specs.declared.refusal.Rule.TheVariants.{BufferShort, NoVolume}

-- ---- the answer for a file

-- an accepted river with volume of status 0 or 1 whose means the buffer can hold is what the call answers
pub averaged : (file : List ℕ) {room : ℕ} (river : Averaged file room) → mean_answer file room ≡ accepted river.cards
unfolding mean_answer mean_room_answer
averaged file {room} river =
    after_accepted (accept_file file) _ river.passes
    ∙ need_true _ BufferShort 0 _ (le-leb (means_size river.cards) room river.holds)
    ∙ need_true _ NoVolume 0 _ (lt-ltb 0 (counted_volume river.cards) river.volume)

-- and what it answers is such a river
answered : (file : List ℕ) {room : ℕ} → IsAccepted (mean_answer file room) → Averaged file room
unfolding mean_answer mean_room_answer
answered file a =
    let w = went (accept_file file) _ a.is in
    let p = passed _ BufferShort 0 _ w.then in
    let q = passed _ NoVolume 0 (accepted w.value) p.rest in
    record { cards = w.value; passes = w.first; holds = leb-true _ _ p.test; volume = ltb-true _ _ q.test }

-- that reading or the flow check refuses
pub means_refused : {file : List ℕ} (room : ℕ) {refusal : Refusal} → Accepts file (refused refusal) → mean_answer file room ≡ refused refusal
unfolding mean_answer then
means_refused {file} room h = after_refused (accept_file file) _ (sym h.answer)

-- and for an accepted one, by the room and the volume
module _ {file : List ℕ} {river : Acceptance} (h : Accepts file (accepted river)) (room : ℕ) where
  pub means_short : room < means_size (card_list river.effective) → mean_answer file room ≡ refused (refuse BufferShort 0)
  unfolding mean_answer mean_room_answer
  means_short l = after_accepted (accept_file file) _ (file_accepted h) ∙ need_false _ BufferShort 0 _ (lt-leb (means_size (card_list river.effective)) room l)

  pub means_empty : means_size (card_list river.effective) ≤ room → counted_volume (card_list river.effective) ≡ 0 → mean_answer file room ≡ refused (refuse NoVolume 0)
  unfolding mean_answer mean_room_answer
  means_empty l z =
      after_accepted (accept_file file) _ (file_accepted h)
      ∙ need_true _ BufferShort 0 _ (le-leb (means_size (card_list river.effective)) room l)
      ∙ need_false _ NoVolume 0 _ (le-ltb 0 (counted_volume (card_list river.effective)) (omega arith))

  pub means_held : means_size (card_list river.effective) ≤ room → 0 < counted_volume (card_list river.effective) → mean_answer file room ≡ accepted (card_list river.effective)
  means_held l v = averaged file (record { cards = card_list river.effective; passes = file_accepted h; holds = l; volume = v })

-- ---- the call

-- a refusal, and means, as the call tells them
module _ (file before : List ℕ) (told : Answer RiverMean) where
  pub means_refuse : {r : Refusal} → mean_answer file (length before) ≡ refused r → told ≡ refused r → AnswersMeans file before before told
  unfolding then
  means_refuse e t = answers_refusal e (ap (λ (x : Answer RiverMean). then x (λ m. accepted (means_in m))) t)

  pub means_tell : {after : List ℕ} {cards : List Card} {m : RiverMean} → mean_answer file (length before) ≡ accepted cards → told ≡ accepted m → means_in m ≡ means_told cards → after ≡ buffer_averaged cards before → AnswersMeans file before after told
  unfolding then
  means_tell e t told_is w = answers_value e (ap (λ (x : Answer RiverMean). then x (λ m. accepted (means_in m))) t) told_is w

-- the bytes of the table of means are those of the means
tabled_bytes : {cards : List Card} {means : List ℕ} → MeansTabled cards (length cards) means → first_rows (stored_row (take (length cards) means)) (length cards) ≡ means_of cards
tabled_bytes {cards} {means} t =
    same_rows (length cards) (λ i l. ap (λ (z : ℤ). four_bytes (complement z)) (ap oxygen_of (get_or-take (length cards) means i 0 l) ∙ t.mean i l))

-- the bytes of the first means of the table are those of the river's means
pub table_written :
    (before : List ℕ) {after : List ℕ} {cards : List Card} {count : ℕ} {t : MeanTable} →
    Lawful cards →
    count ≡ length cards →
    after ≡ first_rows (stored_row (take count t.stored)) (length (take count t.stored)) ++ drop (mean_bytes * length (take count t.stored)) before →
    AllAveraged cards t →
    after ≡ buffer_averaged cards before
table_written before {cards = cards} {t = t} lawful n b h =
    let whole : length (take (length cards) t.stored) ≡ length cards = omega (arith, length-take (length cards) t.stored, h.tabled.full, lawful.few) in
    rw (n, whole, tabled_bytes h.tabled) at b

-- and its sums, divided, are the river's mean
pub mean_told : {cards : List Card} {t : MeanTable} {q : ℕ × ℕ} → AllAveraged cards t → 0 < t.weights.volume → q ≡ (t.weights.sum / t.weights.volume, t.weights.sum % t.weights.volume) → record { units = oxygen_of q.0; remainder = q.1 } ≡ river_mean cards
unfolding river_mean
mean_told {t = t} h v is =
    ap (λ (x : ℕ × ℕ). record { units = oxygen_of x.0; remainder = x.1 }) is
    ∙ stored_quotient t.weights.sum t.weights.volume v
    ∙ rw (h.weighed.volume, h.weighed.sum)

-- ---- the entry

-- a mean is read back from its bytes
mean_back : (z : ℤ) (post : List ℕ) → from_complement (complement z) ≡ z → from_complement (four_at (four_bytes (complement z) ++ post) 0) ≡ z
mean_back z post e = simp (div-add-mod', e)

-- the buffer among all that was lent
buffer_after : (x : Answer (List Card)) (before : MeansLent) → (lent_after means_written x before).buffer ≡ lent_after buffer_averaged x before.buffer
unfolding lent_after
buffer_after (accepted cards) before = refl
buffer_after (refused r) before = refl

module _ (file before : List ℕ) (bytes : AreBytes file) {after : List ℕ} (buffer : after ≡ lent_after buffer_averaged (mean_answer file (length before)) before) (river : Averaged file (length before)) where
  is_river : IsRiver river.cards
  is_river = river_of_file file bytes river.passes

  -- the mean in the bytes is that of the reach
  mean_read_lem : (i : ℕ) → i < length river.cards → mean_read after i ≡ mean_at river.cards (suc i)
  unfolding mean_read lent_after
  mean_read_lem i l =
      let r = mean_in_range is_river i l in
      let s : Begins (mean_row river.cards i) (drop (mean_bytes * i) after) = rw (buffer, averaged file river) (stands (mean_row river.cards) mean_bytes (λ j. refl) (length river.cards) i (drop (means_size river.cards) before) l) in
      ap (λ (x : List ℕ). from_complement (four_at x 0)) s.is ∙ mean_back (mean_at river.cards (suc i)) s.rest (complement_in_range _ r.0 r.1)

  -- so that the means in the bytes weigh what those of the reaches do
  weighs_read : (n : ℕ) → n ≤ length river.cards → weighted_sum (λ i. counted_volume_at river.cards (suc i)) (mean_read after) n ≡ weighted_sum (λ i. counted_volume_at river.cards (suc i)) (λ i. mean_at river.cards (suc i)) n
  unfolding weighted_sum
  weighs_read zero l = refl
  weighs_read (suc n) l = ap₂ ◌+ℤ◌ (weighs_read n (omega arith)) (ap (λ (z : ℤ). pos (counted_volume_at river.cards (suc n)) *ℤ z) (mean_read_lem n l))

  -- the bytes tell all that the paper says of the mean of a reach
  tells_mean : (i : ℕ) → i < length river.cards → TellsMean river.cards after i
  tells_mean i l =
      let read = mean_read_lem i l in
      record {
        mean = read;
        used_up_above = λ s. let blank = mean_blank is_river i l s in (read ∙ blank.0, blank.1);
        counted = volume_counts is_river i l;
        constant = λ s h. read ∙ mean_tied is_river i l s h;
        within =
            λ s N long.
            subst
            (λ (z : ℤ). distance (of_ℤ z) (exact_mean_oxygen N (card_of river.cards (suc i)) (above river.cards (suc i))) ≼ allowance_at river.cards (suc i))
            (sym read) (mean_within_allowance is_river i l s N long);
        exact = λ N long. is_mean N (omega arith) _ _;
      }

  -- and the two numbers all that it says of the mean of the river
  tells_river_mean : (units : ℤ) (remainder : ℕ) → record { units = units; remainder = remainder } ≡ river_mean river.cards → TellsRiverMean river.cards after units remainder
  unfolding river_mean
  tells_river_mean units remainder told =
      record {
        mean = told;
        weighted =
            ap (λ (w : Weighted). w.units *ℤ pos (counted_volume river.cards) +ℤ pos w.remainder) told
            ∙ divided_back _ (counted_volume river.cards) river.volume
            ∙ sym (weighs_read (length river.cards) (le_refl _));
        remains = subst (λ (w : Weighted). w.remainder < counted_volume river.cards) (sym told) (rest_below _ (counted_volume river.cards) river.volume);
      }

-- THEOREM: what the entry returns and leaves behind is all that the river file paper says of mean oxygen, the promised distance included
pub means_of_lem :
    (file before after : List ℕ) (units₀ units : ℤ) (remainder₀ remainder result : ℕ) →
    AreBytes file →
    result ≡ result_of (mean_answer file (length before)) →
    lent after units remainder ≡ lent_after means_written (mean_answer file (length before)) (lent before units₀ remainder₀) →
    Means file before after units₀ units remainder₀ remainder result
unfolding lent_after
means_of_lem file before after units₀ units remainder₀ remainder result bytes answer leaves =
    let x = mean_answer file (length before) in
    let buffer : after ≡ lent_after buffer_averaged x before = ap (λ (l : MeansLent). l.buffer) leaves ∙ buffer_after x _ in
    record {
      call = called means_written x (answered file, λ river. record { value = river.cards; is = averaged file river }) answer leaves;
      lawful = λ cards. accepts_exactly file cards bytes;
      each = tells_mean file before bytes buffer;
      all =
          λ river.
          tells_river_mean file before bytes buffer river units remainder
          (ap (λ (l : MeansLent). l.mean) leaves ∙ ap (λ (a : Answer (List Card)). (lent_after means_written a (lent before units₀ remainder₀)).mean) (averaged file river));
    }

-- the entry's contract for a refusal, and for means, by what the call below it answers
module _ (file before after : List ℕ) (bytes : AreBytes file) where
  pub means_refusal : {result : ℕ} (refusal : Refusal) (units : ℤ) (remainder : ℕ) → AnswersMeans file before after (refused refusal) → result ≡ result_of {A = RiverMean} (refused refusal) → Means file before after units units remainder remainder result
  unfolding result_of lent_after then
  means_refusal {result} refusal units remainder h c =
      let x = refusal_told (mean_answer file (length before)) h in
      means_of_lem file before after units units remainder remainder result bytes (c ∙ sym (ap result_of x))
      (rw x (ap (λ (b : List ℕ). lent b units remainder) (rw x at h.leaves)))

  pub means_river : (r : RiverMean) (units units₀ : ℤ) (remainder₀ : ℕ) {result : ℕ} → AnswersMeans file before after (accepted r) → units ≡ oxygen_of r.units → result ≡ 0 → Means file before after units₀ units remainder₀ r.remainder result
  unfolding result_of lent_after then
  means_river r units units₀ remainder₀ {result} h u none =
      let t = value_told (mean_answer file (length before)) h in
      let mean : record { units = units; remainder = r.remainder } ≡ river_mean t.value = ap (λ (z : ℤ). record { units = z; remainder = r.remainder }) u ∙ ap (λ (m : MeansTold). m.mean) t.told_is in
      means_of_lem file before after units₀ units remainder₀ r.remainder result bytes (none ∙ sym (ap result_of t.is))
      (rw t.is (ap₂ (λ (b : List ℕ) (w : Weighted). record { buffer = b; mean = w }) (rw t.is at h.leaves) mean))

-- an accepted river, of which the call tells count and mean, and the bytes all that the paper says
pub record MeansGiven (file before after : List ℕ) (r : RiverMean) : Type 0 where
  pub river : Averaged file (length before)
  pub count : r.count ≡ length river.cards
  pub mean : record { units = oxygen_of r.units; remainder = r.remainder } ≡ river_mean river.cards
  pub each : (i : ℕ) → i < length river.cards → TellsMean river.cards after i

pub means_given : {file before after : List ℕ} (r : RiverMean) → AreBytes file → AnswersMeans file before after (accepted r) → MeansGiven file before after r
unfolding then
means_given {file} {before} r bytes h =
    let t = value_told (mean_answer file (length before)) h in
    let river = answered file (record { value = t.value; is = t.is }) in
    let same : t.value ≡ river.cards = cc (t.is, averaged file river) in
    record {
      river = river;
      count = ap (λ (x : MeansTold). x.count) t.told_is ∙ ap length same;
      mean = ap (λ (x : MeansTold). x.mean) t.told_is ∙ ap river_mean same;
      each = tells_mean file before bytes h.leaves river;
    }
