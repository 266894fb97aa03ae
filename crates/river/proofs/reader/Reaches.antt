-- The loop of reading, card after card: what is read so far and what is still to be read make the whole.
-- Assumes nothing.
use Prim.Native.Nat.{ℕ, suc, ◌+◌, ◌-◌, ◌≤◌, ◌<◌}
use mathlib.Core.Path.{◌≡◌, refl, ap, sym, ◌∙◌}
use mathlib.Core.List.{List, [], ◌∷◌, ◌++◌, append-nil}
use native.Mathlib.Numerals.{add-one}
use native.Mathlib.Omega.{arith}
use lib.ListN.{length, take, drop, set, length-drop, length-set}
use lib.Seq.{take-suc-set, drop-drop, append_snoc}
use borrow.Author.Tests.{eq-eqb, ne_eqb}
use Rattle.std.specs.Prelude.{Option, Result, Ok, Err}
use Rattle.river.specs.Card.{header_bytes, size_of}
use Rattle.river.specs.Optional.{read_optional}
use Rattle.river.specs.Read.{read_header, read_reach, read_reaches, read_file}
use Rattle.river.specs.held.Reader.{YieldsReach, with_cards, ReadingGoesOn}
use Rattle.river.specs.Refusal.{Answer, accepted, refused, refuse, after}
use Rattle.river.specs.River.{River, river_of}
use Rattle.river.specs.Records.{factors_record}
use Rattle.river.specs.declared.card.Card.{Card}
use Rattle.river.specs.declared.card.RateFactors.{RateFactors}
use Rattle.river.specs.File.{Reads}
use Rattle.river.specs.declared.file.Reading.{Reading}
use Rattle.river.specs.declared.read.Taken.{Taken}
use Rattle.river.specs.declared.refusal.Refusal.{Refusal}
use Rattle.river.specs.declared.refusal.Rule.TheVariants.{BytesLeft}
use Rattle.river.proofs.Answers.{need_true, need_false, after_accepted, after_refused}
use Rattle.river.proofs.read.Steps.{header_few, file_rest, rest_reaches}

joined_cons : (f : Option RateFactors) (cs : List Card) (c : Card) (x : Answer (List Card))
    → with_cards f cs (after x (λ ds. accepted (c ∷ ds))) ≡ with_cards f (cs ++ (c ∷ [])) x
unfolding after
joined_cons f cs c (accepted ds) = ap (λ (l : List Card). accepted (river_of f l)) (sym (append_snoc cs c ds))
joined_cons f cs c (refused r) = refl

-- one reach more
read_reaches_suc : (n i m : ℕ) (s : List ℕ) {c : Card} → read_reach n i s ≡ accepted c
    → read_reaches n i (suc m) s ≡ after (read_reaches n (suc i) m (drop (size_of c) s)) (λ cs. accepted (c ∷ cs))
unfolding read_reaches
read_reaches_suc n i m s e = after_accepted _ _ e

read_reaches_refused : (n i m : ℕ) (s : List ℕ) {r : Refusal} → read_reach n i s ≡ refused r → read_reaches n i (suc m) s ≡ refused r
unfolding read_reaches
read_reaches_refused n i m s e = after_refused _ _ e

-- the end of the file
read_reaches_more : (n i next : ℕ) (s : List ℕ) → next < length s → read_reaches n i 0 (drop next s) ≡ refused (refuse BytesLeft 0)
unfolding read_reaches
read_reaches_more n i next s h = need_false _ _ _ _ (ne_eqb (length (drop next s)) 0 (omega (arith, length-drop next s)))

read_reaches_end : (n i next : ℕ) (s : List ℕ) → length s ≤ next → read_reaches n i 0 (drop next s) ≡ accepted []
unfolding read_reaches
read_reaches_end n i next s h = need_true _ _ _ _ (eq-eqb (length (drop next s)) 0 (omega (arith, length-drop next s)))

-- the header and the rate factors are read
pub begun : {s : List ℕ} {n k : ℕ} {rest : List ℕ} {f : Option RateFactors} {at : List Card} → read_header s ≡ accepted n → rest ≡ drop header_bytes s → read_optional factors_record 0 rest ≡ accepted f
    → k ≡ length (factors_record.encode f) → length at ≡ 128 → ReadingGoesOn s n 0 f at (header_bytes + k)
begun {s} {n} {k} {rest} {f} e behind found size room =
    let same : n ≡ n - 0 = omega arith in
    let place : drop (length (factors_record.encode f)) rest ≡ drop (header_bytes + k) s = rw (behind, ← size) (drop-drop k header_bytes s) in
    record {
      few = header_few s e;
      room = room;
      rest = file_rest s e behind ∙ rest_reaches n rest found ∙ λ j. with_cards f [] (read_reaches n 1 (same j) (place j));
    }

module _ {s : List ℕ} {n i : ℕ} {f : Option RateFactors} {at : List Card} {place : ℕ} (goes : ReadingGoesOn s n i f at place) where
  -- the answer for m reaches that are due, and the file's, by an answer for the reaches that are still to be read
  abbrev due : ℕ → Answer (List Card)
  due m = read_reaches n (i + 1) m (drop place s)

  abbrev joined : Answer (List Card) → Answer River
  joined = with_cards f (take i at)

  going : i < n → read_file s ≡ joined (due (suc (n - (i + 1))))
  going less = let left : n - i ≡ suc (n - (i + 1)) = omega arith in goes.rest ∙ ap (λ (m : ℕ). joined (due m)) left

  -- one reach more is read
  pub one_more : {taken : Taken Card} → i < n → YieldsReach place (read_reach n (i + 1) (drop place s)) (Ok taken) → ReadingGoesOn s n (i + 1) f (set at i taken.value) taken.next
  unfolding after
  one_more {taken} less reach =
      record {
        few = goes.few;
        room = length-set at i taken.value ∙ goes.room;
        rest =
            going less ∙
            ap joined (read_reaches_suc n (i + 1) m (drop place s) (sym reach.answer)) ∙
            joined_cons f (take i at) taken.value _ ∙
            λ j. with_cards f (kept j) (read_reaches n (sym (add-one (i + 1)) j) m (behind j));
      }
    where
      m : ℕ
      m = n - (i + 1)

      kept : take i at ++ (taken.value ∷ []) ≡ take (i + 1) (set at i taken.value)
      kept = sym (rw add-one (take-suc-set at i taken.value (omega (arith, goes.room, goes.few))))

      behind : drop (size_of taken.value) (drop place s) ≡ drop taken.next s
      behind = drop-drop (size_of taken.value) place s ∙ rw (← reach.place)

  -- the next reach is refused
  pub stopped : {r : Refusal} → i < n → YieldsReach place (read_reach n (i + 1) (drop place s)) (Err r) → read_file s ≡ refused r
  unfolding after
  stopped less reach = going less ∙ ap joined (read_reaches_refused n (i + 1) (n - (i + 1)) (drop place s) (sym reach.answer))

  -- no reach is due
  none_left : n ≤ i → read_file s ≡ joined (due 0)
  none_left done = let none : n - i ≡ 0 = omega arith in goes.rest ∙ ap (λ (m : ℕ). joined (due m)) none

  pub too_long : n ≤ i → place < length s → read_file s ≡ refused (refuse BytesLeft 0)
  unfolding after
  too_long done more = none_left done ∙ ap joined (read_reaches_more n (i + 1) place s more)

  pub complete : n ≤ i → length s ≤ place → read_file s ≡ accepted (river_of f (take i at))
  unfolding after
  complete done end = none_left done ∙ ap joined (read_reaches_end n (i + 1) place s end) ∙ ap (λ (cs : List Card). accepted (river_of f cs)) (append-nil (take i at))

-- a file that is refused
pub not_read : (s : List ℕ) {r : Refusal} {x : Result Reading Refusal} → read_file s ≡ refused r → x ≡ Err r → Reads s x
unfolding after
not_read s e f = rw f (record { answer = sym e; few = tt })
