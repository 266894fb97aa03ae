-- What each way out of writing answers and leaves.
-- Assumes nothing.
use Prim.Native.Nat.{ℕ, ◌≤◌, ◌<◌}
use mathlib.Core.Path.{◌≡◌, refl, ap, sym, ◌∙◌}
use mathlib.Core.List.{List, ◌++◌}
use mathlib.Core.Bool.{false, and-false}
use native.Mathlib.Omega.{arith}
use lib.ListN.{length, drop}
use borrow.Author.Tests.{le-leb, lt-leb}
use Rattle.river.specs.Card.{count_ok}
use Rattle.river.specs.Refusal.{Answer, accepted, refused, refuse, after}
use Rattle.river.specs.River.{River}
use Rattle.river.specs.Write.{encode, check_river, write_answer, buffer_written, Writes}
use Rattle.river.specs.held.Writer.{checked_length}
use Rattle.river.specs.declared.refusal.Refusal.{Refusal}
use Rattle.river.specs.declared.refusal.Rule.TheVariants.{ReachCount, BufferShort}
use Rattle.river.proofs.Answers.{need_true, need_false, after_accepted, after_refused, passed, went, never}
use Rattle.river.proofs.range.Ranges.{true_count_ok}

module _ (n : ℕ) (r : River) (before : List ℕ) where
  -- a refusal leaves the buffer as it was
  refuses : {x : Refusal} → write_answer n r (length before) ≡ refused x → Writes n r before (refused x) before
  unfolding buffer_written
  refuses e = record { answer = sym e; buffer = refl }

  pub refuses_count : count_ok n ≡ false → Writes n r before (refused (refuse ReachCount 0)) before
  unfolding check_river write_answer
  refuses_count p = refuses (after_refused _ _ (need_false _ _ _ _ p))

  pub refuses_many : 128 < n → Writes n r before (refused (refuse ReachCount 0)) before
  unfolding count_ok
  refuses_many h = refuses_count (rw (lt-leb n 128 h, and-false))

-- an answer that is refused although it goes on with what is accepted is refused before
refused_before : {A B : Type 0} (a : Answer A) (f : A → B) {x : Refusal} → after a (λ v. accepted (f v)) ≡ refused x → a ≡ refused x
unfolding after
refused_before (accepted v) f e = never (sym e)
refused_before (refused r) f e = cc

module _ (r : River) (before : List ℕ) where
  -- the first refusal of a river
  pub refuses_river : {x : Refusal} → checked_length r ≡ refused x → Writes (length r.cards) r before (refused x) before
  unfolding write_answer
  refuses_river e = refuses _ r before (after_refused _ _ (refused_before (check_river (length r.cards) r) _ e))

  -- a river that passes has few cards, and the length is that of its file
  pub record Passing (l : ℕ) : Type 0 where
    pub checked : check_river (length r.cards) r ≡ accepted tt
    pub few : length r.cards ≤ 128
    pub size : length (encode r) ≡ l

  pub passing : {l : ℕ} → checked_length r ≡ accepted l → Passing l
  unfolding check_river
  passing e =
      let p = went _ _ e in
      record {
        checked = p.first;
        few = (true_count_ok (length r.cards) (passed _ _ _ _ p.first).test).1;
        size = cc p.then;
      }

  module _ {l : ℕ} (p : Passing l) where
    pub refuses_room : length before < l → Writes (length r.cards) r before (refused (refuse BufferShort 0)) before
    unfolding write_answer
    refuses_room h =
        refuses _ r before (after_accepted _ _ p.checked ∙ need_false _ _ _ _ (lt-leb (length (encode r)) (length before) (omega (arith, p.size))))

    pub writes : {exit : List ℕ} → l ≤ length before → exit ≡ encode r ++ drop (length (encode r)) before → Writes (length r.cards) r before (accepted l) exit
    unfolding write_answer buffer_written
    writes h put =
        record {
          answer =
              ap accepted (sym p.size) ∙
              sym (after_accepted _ _ p.checked ∙ need_true _ _ _ _ (le-leb (length (encode r)) (length before) (omega (arith, p.size))));
          buffer = put ∙ ap (λ (j : ℕ). encode r ++ drop j before) p.size;
        }
