-- Writing accepts exactly lawful rivers; a file that is read is written back as the same bytes, and a river that is written is read back as the same river.
-- Assumes nothing.
use Prim.Native.Nat.{ℕ, suc, ◌≤◌, ◌<◌}
use mathlib.Core.Logic.{◌↔◌}
use mathlib.Core.Path.{◌≡◌, refl, ap, sym, subst, ◌∙◌}
use mathlib.Core.Bool.{Bool, true, false}
use mathlib.Core.List.{List, [], ◌∷◌, ◌++◌, append_assoc}
use native.Mathlib.Omega.{arith}
use lib.Dec.{leb}
use lib.ListN.{length, take, drop}
use lib.Seq.{take_at, drop-append_seam}
use borrow.Author.Tests.{le-leb, leb-true}
use Rattle.std.specs.Prelude.{Result, IfOk, IsOk, is_ok}
use Rattle.river.specs.Bytes.{AreBytes}
use Rattle.river.specs.Card.{LawfulCard, EachFrom, card_list}
use Rattle.river.specs.Read.{read_file}
use Rattle.river.specs.Records.{Th}
use Rattle.river.specs.Refusal.{Answer, accepted, refused, need, after}
use Rattle.river.specs.River.{River, LawfulRiver}
use Rattle.river.specs.Write.{encode, encode_card, encode_cards, encode_opening, check_card, check_from, check_river, write_answer, buffer_written, Writes, HasRoom, LoadsFit}
use Rattle.river.specs.Rewrite.{rewrite_answer, buffer_rewritten, Rewritable, WritesBack, river_back, ReadsBack}
use Rattle.river.specs.declared.card.Card.{Card}
use Rattle.river.specs.declared.refusal.Refusal.{Refusal}
use Rattle.river.specs.declared.file.Reading.{Reading}
use Rattle.river.proofs.Answers.{clash, never, need_true, after_accepted, after_refused, passed, went}
use Rattle.river.proofs.Files.{reads_lawful, reads_only_lawful, reads_exactly}
use Rattle.river.proofs.bytes.Numbers.{are_bytes_drop}
use Rattle.river.proofs.range.Ranges.{in_range_true, lawful_optionals, lawful_card, count_ok_true, true_count_ok}
use Rattle.river.proofs.card.Described.{in_range_true_lem, true_in_range_lem}
use Rattle.river.specs.File.{river_read, answer_of, Yields, Reads}
use Rattle.river.specs.declared.refusal.Rule.TheVariants.{BufferShort}

check_card_lawful : (n i : ℕ) (c : Card) → LawfulCard n i c → check_card n i c ≡ accepted tt
unfolding check_card
check_card_lawful n i c h =
    need_true _ _ _ _ (in_range_true c h.regular.in_range h.rates) ∙
    need_true _ _ _ _ h.regular.outlet ∙
    need_true _ _ _ _ (lawful_optionals h)

check_from_lawful : (n i : ℕ) (cs : List Card) → EachFrom LawfulCard n i cs → check_from n i cs ≡ accepted tt
unfolding check_from
check_from_lawful n i [] h = refl
check_from_lawful n i (c ∷ cs) h =
    after_accepted _ _ (check_card_lawful n i c h.0) ∙ check_from_lawful n (suc i) cs h.1

check_card_is : (n i : ℕ) (c : Card) {u : Unit} → c.load < 4294967296 → check_card n i c ≡ accepted u → LawfulCard n i c
unfolding check_card
check_card_is n i c l e =
    let p = passed _ _ _ _ e in
    let q = passed _ _ _ _ p.rest in
    let r = passed _ _ _ _ q.rest in
    lawful_card n i c p.test l q.test r.test

check_from_is : (n i : ℕ) (cs : List Card) {u : Unit} → LoadsFit cs → check_from n i cs ≡ accepted u → EachFrom LawfulCard n i cs
unfolding check_from
check_from_is n i [] l e = tt
check_from_is n i (c ∷ cs) l e =
    let p = went _ _ e in
    (check_card_is n i c l.0 p.first, check_from_is n (suc i) cs l.1 p.then)

-- the checks of a river pass exactly where it is lawful
check_river_lawful : (x : River) → LawfulRiver x → check_river (length x.cards) x ≡ accepted tt
unfolding check_river
check_river_lawful x h =
    let cs = x.cards in
    need_true _ _ _ _ (count_ok_true (length cs) h.cards.some h.cards.few) ∙
    need_true _ _ _ _ (in_range_true_lem Th x.factors h.factors) ∙
    check_from_lawful (length cs) 1 cs h.cards.each

check_river_is : (x : River) {u : Unit} → LoadsFit x.cards → check_river (length x.cards) x ≡ accepted u → LawfulRiver x
unfolding check_river
check_river_is x l e =
    let cs = x.cards in
    let p = passed _ _ _ _ e in
    let q = passed _ _ _ _ p.rest in
    let ok = true_count_ok (length cs) p.test in
    record {
      factors = true_in_range_lem Th x.factors q.test;
      cards = record { some = ok.0; few = ok.1; each = check_from_is (length cs) 1 cs l q.rest };
    }

-- writing of a lawful river: 12 where the buffer is shorter than its file
lawful_answer : (x : River) (room : ℕ) → LawfulRiver x → write_answer (length x.cards) x room ≡ need (leb (length (encode x)) room) BufferShort 0 (accepted (length (encode x)))
unfolding write_answer
lawful_answer x room h = after_accepted _ _ (check_river_lawful x h)

writes_lawful : (x : River) (room : ℕ) → LawfulRiver x → length (encode x) ≤ room → write_answer (length x.cards) x room ≡ accepted (length (encode x))
writes_lawful x room h l = lawful_answer x room h ∙ need_true _ _ _ _ (le-leb _ _ l)

-- what writing accepts has room
has_room : (n : ℕ) (x : River) (room l : ℕ) → write_answer n x room ≡ accepted l → (length (encode x) ≡ l) × (l ≤ room)
unfolding write_answer
has_room n x room l e =
    let p = went _ _ e in
    let q = passed _ _ _ _ p.then in
    let size : length (encode x) ≡ l = cc q.rest in
    (size, omega (arith, leb-true (length (encode x)) room q.test))

writes_only_lawful : (x : River) (room l : ℕ) → LoadsFit x.cards → write_answer (length x.cards) x room ≡ accepted l → HasRoom x room l
unfolding write_answer
writes_only_lawful x room l h e =
    let p = went _ _ e in
    let room = has_room (length x.cards) x room l e in
    record { lawful = check_river_is x h p.first; size = room.0; fits = room.1 }

-- THEOREM: writing accepts exactly a lawful river whose file has room, with the file's length
pub writes_exactly : (x : River) (room l : ℕ) → LoadsFit x.cards → (write_answer (length x.cards) x room ≡ accepted l) ↔ HasRoom x room l
writes_exactly x room l h = (
  writes_only_lawful x room l h,
  λ w. writes_lawful x room w.lawful (omega (arith, w.size, w.fits)) ∙ ap accepted w.size,
)

-- Rewriting a file.

module _ (file before exit : List ℕ) (bytes : AreBytes file) where
  only_rewritable : (a : Answer Unit) → a ≡ rewrite_answer file (length before) → IsOk a → Rewritable file (length before)
  unfolding rewrite_answer
  only_rewritable (accepted u) answer h =
      let p = went _ _ (sym answer) in
      let q = passed _ _ _ _ p.then in
      record { river = p.value; is_file = reads_only_lawful file p.value bytes p.first; holds = leb-true _ _ q.test }
  only_rewritable (refused r) answer h = clash (cc)

  all_rewritable : Rewritable file (length before) → rewrite_answer file (length before) ≡ accepted tt
  unfolding rewrite_answer
  all_rewritable w = after_accepted _ _ ((reads_exactly file w.river bytes).1 w.is_file) ∙ need_true _ _ _ _ (le-leb _ _ w.holds)

  writes_back : {a : Answer Unit} → a ≡ rewrite_answer file (length before) → exit ≡ buffer_rewritten (rewrite_answer file (length before)) file before
      → WritesBack file before a exit
  writes_back {a} answer buffer =
      record {
        answer = answer;
        exactly = (only_rewritable a answer, λ w. ap is_ok (answer ∙ all_rewritable w));
        buffer = buffer;
      }

-- what writing ends with, its length aside
abbrev pub end_of : Answer ℕ → Answer Unit
end_of w = after w (λ _. accepted tt)

-- writing the file of a lawful river ends as rewriting it does, and leaves the same buffer
same_end : (b : Bool) (l : ℕ) → end_of (need b BufferShort 0 (accepted l)) ≡ need b BufferShort 0 (accepted tt)
unfolding need after
same_end true l = refl
same_end false l = refl

same_buffer : (b : Bool) (file before : List ℕ) (x : River) → file ≡ encode x → buffer_written (need b BufferShort 0 (accepted (length file))) x before ≡ buffer_rewritten (need b BufferShort 0 (accepted tt)) file before
unfolding need buffer_written buffer_rewritten
same_buffer true file before x e = ap (λ (s : List ℕ). s ++ drop (length file) before) (sym e)
same_buffer false file before x e = refl

module _ {file : List ℕ} {r : Result Reading Refusal} (bytes : AreBytes file) (reads : Reads file r) where
  -- THEOREM: where reading refuses, rewriting does, and writes nothing
  pub refused_back : {before : List ℕ} {x : Refusal} → r ≡ refused x → WritesBack file before (refused x) before
  unfolding rewrite_answer buffer_rewritten
  refused_back {before} {x} e =
      let read : read_file file ≡ refused x = sym reads.answer ∙ after_refused _ _ e in
      let same : rewrite_answer file (length before) ≡ refused x = after_refused _ _ read in
      writes_back file before before bytes (sym same) (sym (ap (λ (a : Answer Unit). buffer_rewritten a file before) same))

  -- THEOREM: writing what was read gives the same bytes, or 12 where the buffer is shorter
  pub written_back : {reading : Reading} {before exit : List ℕ} {w : Answer ℕ} {o : Answer Unit} → r ≡ accepted reading
      → Writes (length (card_list reading.cards)) (river_read reading) before w exit → end_of w ≡ o → WritesBack file before o exit
  unfolding rewrite_answer
  written_back {reading} {before} {exit} {w} {o} e writes end =
      let x = river_read reading in
      let test = leb (length file) (length before) in
      let read : read_file file ≡ accepted x = sym reads.answer ∙ after_accepted _ _ e in
      let f = reads_only_lawful file x bytes read in
      let same : rewrite_answer file (length before) ≡ need test BufferShort 0 (accepted tt) = after_accepted _ _ read in
      let written : w ≡ need test BufferShort 0 (accepted (length file)) =
      writes.answer ∙ lawful_answer x (length before) f.lawful ∙ ap (λ (s : List ℕ). need (leb (length s) (length before)) BufferShort 0 (accepted (length s))) (sym f.bytes) in
      writes_back file before exit bytes (sym end ∙ ap end_of written ∙ same_end test (length file) ∙ sym same)
      (writes.buffer ∙
      ap (λ (a : Answer ℕ). buffer_written a x before) written ∙
      same_buffer test file before x f.bytes ∙
      ap (λ (a : Answer Unit). buffer_rewritten a file before) (sym same))

-- Reading what was written.

-- what was written lies within the buffer
pub written_fits : (x : River) (before exit : List ℕ) (l : ℕ) → Writes (length x.cards) x before (accepted l) exit → l ≤ length before
written_fits x before exit l writes = (has_room (length x.cards) x (length before) l (sym writes.answer)).1

-- the answer of a writing and of the reading after it, where the loads fit if writing accepts
came_back : (x : River) (before exit : List ℕ) (w : Answer ℕ) → ((l : ℕ) → write_answer (length x.cards) x (length before) ≡ accepted l → LoadsFit x.cards)
    → Writes (length x.cards) x before w exit → after w (λ l. read_file (take l exit)) ≡ river_back x (length before)
unfolding buffer_written
came_back x before exit (accepted l) h writes =
    let p = writes_only_lawful x (length before) l (h l (sym writes.answer)) (sym writes.answer) in
    after_accepted _ _ refl ∙
    ap read_file (ap (take l) writes.buffer ∙ take_at (encode x) (drop l before) l p.size) ∙
    reads_lawful x p.lawful ∙
    sym (after_accepted _ _ (sym writes.answer))
came_back x before exit (refused r) h writes = after_refused _ _ refl ∙ sym (after_refused _ _ (sym writes.answer))

-- a reading is accepted where its answer is
accepted_reading : {x : River} (r : Result Reading Refusal) → answer_of r ≡ accepted x → IsOk r
unfolding after
accepted_reading (accepted reading) e = refl
accepted_reading (refused y) e = never e

came_back_same :
    {x : River} {before exit : List ℕ} {w : Answer ℕ} {r : Result Reading Refusal}
    → ((l : ℕ) → write_answer (length x.cards) x (length before) ≡ accepted l → LoadsFit x.cards)
    → Writes (length x.cards) x before w exit → Yields (after w (λ l. read_file (take l exit))) r → ReadsBack x before r exit
came_back_same {x} {before} {exit} {w} {r} h writes reads =
    record {
      answer = answer;
      exactly = (only r answer, λ p. accepted_reading r (answer ∙ after_accepted _ _ (writes_lawful x (length before) p.lawful p.fits)));
      same = same r answer;
      buffer = writes.buffer ∙ ap (λ (a : Answer ℕ). buffer_written a x before) writes.answer;
    }
  where
    answer : answer_of r ≡ river_back x (length before)
    answer = reads.answer ∙ came_back x before exit w h writes

    came : (reading : Reading) → answer_of (accepted reading) ≡ river_back x (length before) → river_back x (length before) ≡ accepted (river_read reading)
    came reading e = sym e ∙ after_accepted _ _ refl

    same : (r : Result Reading Refusal) → answer_of r ≡ river_back x (length before) → IfOk r (λ reading. river_read reading ≡ x)
    same (accepted reading) e = let p = went _ _ (came reading e) in cc p.then
    same (refused y) e = tt

    only : (r : Result Reading Refusal) → answer_of r ≡ river_back x (length before) → IsOk r → HasRoom x (length before) (length (encode x))
    only (accepted reading) e ok =
        let p = went _ _ (came reading e) in
        let q = writes_only_lawful x (length before) p.value (h p.value p.first) p.first in
        record { lawful = q.lawful; size = refl; fits = omega (arith, q.size, q.fits) }
    only (refused y) e ok = clash (cc)

-- THEOREM: reading what was written gives the same river
pub reads_back :
    {x : River} {before exit : List ℕ} {w : Answer ℕ} {r : Result Reading Refusal}
    → LoadsFit x.cards → Writes (length x.cards) x before w exit → Yields (after w (λ l. read_file (take l exit))) r → ReadsBack x before r exit
reads_back h writes reads = came_back_same (λ l e. h) writes reads

-- a load fits where the cards are put as bytes: the first byte of its number is below 256
loads_fit : (cs : List Card) (rest : List ℕ) → AreBytes (encode_cards cs ++ rest) → LoadsFit cs
loads_fit [] rest h = tt
loads_fit (c ∷ cs) rest h = (
  omega (arith, h.below 22),
  loads_fit cs rest (subst AreBytes (ap (drop (length (encode_card c))) (append_assoc (encode_card c) (encode_cards cs) rest) ∙ drop-append_seam (encode_card c) (encode_cards cs ++ rest)) (are_bytes_drop (length (encode_card c)) h)),
)

loads_put : (x : River) (rest : List ℕ) → AreBytes (encode x ++ rest) → LoadsFit x.cards
unfolding encode
loads_put x rest h =
    let opening = encode_opening (length x.cards) x.factors in
    let behind : drop (length opening) ((opening ++ encode_cards x.cards) ++ rest) ≡ encode_cards x.cards ++ rest =
    ap (drop (length opening)) (append_assoc opening (encode_cards x.cards) rest) ∙ drop-append_seam opening (encode_cards x.cards ++ rest)
    in
    loads_fit x.cards rest (subst AreBytes behind (are_bytes_drop (length opening) h))

-- and so does reading what was written as bytes
pub bytes_read_back :
    {x : River} {before exit : List ℕ} {w : Answer ℕ} {r : Result Reading Refusal}
    → AreBytes exit → Writes (length x.cards) x before w exit → Yields (after w (λ l. read_file (take l exit))) r → ReadsBack x before r exit
unfolding buffer_written
bytes_read_back {x} {before} {exit} {w} h writes reads =
    came_back_same
    (λ l e.
    let put : exit ≡ buffer_written (accepted l) x before = writes.buffer ∙ ap (λ (a : Answer ℕ). buffer_written a x before) (writes.answer ∙ e) in
    loads_put x (drop l before) (subst AreBytes put h)) writes reads

-- where writing refuses there is nothing to read
pub refused_to_read : {x : River} {before exit : List ℕ} {r : Result Reading Refusal} {y : Refusal} → AreBytes exit
    → Writes (length x.cards) x before (refused y) exit → r ≡ refused y → ReadsBack x before r exit
refused_to_read {r = r} {y} h writes e =
    bytes_read_back h writes
    (record {
      answer = after_refused _ _ e ∙ sym (after_refused _ _ refl);
      few = rw e tt;
    })

-- where it accepts its file is read
pub file_read_back : {x : River} {before exit : List ℕ} {r : Result Reading Refusal} {l : ℕ} → AreBytes exit
    → Writes (length x.cards) x before (accepted l) exit → Yields (read_file (take l exit)) r → ReadsBack x before r exit
file_read_back {r = r} h writes reads = bytes_read_back h writes (record { answer = reads.answer ∙ sym (after_accepted _ _ refl); few = reads.few })
