-- The writer's loops over the cards that it is lent: what is done so far and what is still to be done make the whole.
-- Assumes nothing.
use Prim.Native.Nat.{ℕ, ◌+◌, ◌≤◌, ◌<◌}
use mathlib.Core.Path.{◌≡◌, refl, ap, sym, ◌∙◌}
use mathlib.Core.Bool.{true, false}
use mathlib.Core.List.{List, ◌∷◌}
use native.Mathlib.Numerals.{add-one}
use lib.ListN.{length, drop, get_or}
use lib.Seq.{drop-cons}
use Rattle.river.specs.Card.{count_ok, size_of}
use Rattle.river.specs.Refusal.{accepted, refused, refuse}
use Rattle.river.specs.River.{River, opening_size}
use Rattle.river.specs.Records.{factors_record}
use Rattle.river.specs.Write.{check_card, check_from, check_river}
use Rattle.river.specs.held.Writer.{checked_length}
use Rattle.river.specs.declared.card.Card.{Card}
use Rattle.river.specs.declared.refusal.Refusal.{Refusal}
use Rattle.river.specs.declared.refusal.Rule.TheVariants.{ReachCount, FieldRange}
use Rattle.river.proofs.Answers.{need_true, need_false, after_accepted, after_refused}
use Rattle.river.proofs.range.Ranges.{true_count_ok}
use Rattle.river.proofs.write.Passes.{FirstPassed, check_start, check_more, check_stop, check_end, Measured, measure_start, measure_more, measure_end}

-- the cards from i on: the card at i, and the others
pub from_on : (cs : List Card) (i : ℕ) (d : Card) → i < length cs → drop i cs ≡ get_or cs i d ∷ drop (i + 1) cs
from_on cs i d h = drop-cons cs i d h ∙ ap (λ (k : ℕ). get_or cs i d ∷ drop k cs) (sym (add-one i))

-- the first i cards have passed, and their file has a length so far
pub record Checked (x : River) (i total : ℕ) : Type 0 where
  pub few : length x.cards ≤ 128
  opened : check_river (length x.cards) x ≡ check_from (length x.cards) 1 x.cards
  passed : FirstPassed (length x.cards) x.cards i
  pub measured : Measured x i total

module _ (x : River) where
  -- a river that is refused has no length
  refuses : {r : Refusal} → check_river (length x.cards) x ≡ refused r → refused r ≡ checked_length x
  refuses e = sym (after_refused _ _ e)

  pub refuses_count : count_ok (length x.cards) ≡ false → refused (refuse ReachCount 0) ≡ checked_length x
  unfolding check_river
  refuses_count p = refuses (need_false _ _ _ _ p)

  module _ (p : count_ok (length x.cards) ≡ true) where
    pub refuses_factors : factors_record.in_range x.factors ≡ false → refused (refuse FieldRange 0) ≡ checked_length x
    unfolding check_river
    refuses_factors q = refuses (need_true _ _ _ _ p ∙ need_false _ _ _ _ q)

    pub checks_none : factors_record.in_range x.factors ≡ true → Checked x 0 (opening_size x.factors)
    unfolding check_river
    checks_none q =
        record {
          few = (true_count_ok (length x.cards) p).1;
          opened = need_true _ _ _ _ p ∙ need_true _ _ _ _ q;
          passed = check_start (length x.cards) x.cards;
          measured = measure_start x;
        }

  module _ {i total : ℕ} (g : Checked x i total) where
    pub refuses_card : {c : Card} {r : Refusal} → drop i x.cards ≡ c ∷ drop (i + 1) x.cards → check_card (length x.cards) (i + 1) c ≡ refused r
        → refused r ≡ checked_length x
    refuses_card f e = refuses (g.opened ∙ check_stop _ _ g.passed f e)

    pub checks_more : {c : Card} {u : Unit} → i < length x.cards → drop i x.cards ≡ c ∷ drop (i + 1) x.cards
        → check_card (length x.cards) (i + 1) c ≡ accepted u → Checked x (i + 1) (total + size_of c)
    checks_more less f e =
        record {
          few = g.few;
          opened = g.opened;
          passed = check_more _ _ g.passed less f e;
          measured = measure_more x g.measured f refl;
        }

    pub checks_all : length x.cards ≤ i → accepted total ≡ checked_length x
    checks_all done =
        ap accepted (measure_end x g.measured done) ∙ sym (after_accepted _ _ (g.opened ∙ check_end _ _ g.passed done refl))
