-- The loops of writing: over the cards to check them, to measure their file and to put it into a buffer.
-- Assumes nothing.
use Prim.Native.Nat.{ℕ, ◌+◌, ◌*◌, ◌≤◌, ◌<◌}
use mathlib.Core.Path.{◌≡◌, refl, ap, sym, subst, ◌∙◌}
use mathlib.Core.List.{List, [], ◌∷◌, ◌++◌, append_assoc, append-nil}
use native.Mathlib.Numerals.{add-one}
use native.Mathlib.Omega.{arith}
use lib.ListN.{length, take, drop, length-append, take-append-drop, drop_of_length-le}
use lib.Seq.{take-add, take_all}
use Rattle.river.specs.declared.bytes.Cursor.{Cursor}
use Rattle.river.specs.held.Cursors.{Room, Puts}
use Rattle.river.specs.Refusal.{accepted, refused}
use Rattle.river.specs.River.{River, opening_size, longest_opening}
use Rattle.river.specs.Records.{factors_record}
use Rattle.river.specs.Write.{encode, encode_card, encode_cards, encode_opening, check_card, check_from}
use Rattle.river.specs.declared.card.Card.{Card}
use Rattle.river.specs.declared.card.RateFactors.{RateFactors}
use Rattle.std.specs.Prelude.{Option}
use Rattle.river.specs.declared.refusal.Refusal.{Refusal}
use Rattle.river.proofs.Answers.{after_accepted, after_refused}
use Rattle.river.proofs.bytes.Puts.{put_long, puts}
use Rattle.river.proofs.card.Optional.{optional_small}
use Rattle.river.proofs.card.Rows.{sound_factors, length_encode_card, size_small}
use Rattle.river.specs.Card.{longest_card, size_of}

-- Checking.

-- i cards of n have passed
pub record FirstPassed (n : ℕ) (cs : List Card) (i : ℕ) : Type 0 where
  pub most : i ≤ n
  pub rest : check_from n 1 cs ≡ check_from n (i + 1) (drop i cs)

module _ (n : ℕ) (cs : List Card) where
  pub check_start : FirstPassed n cs 0
  check_start = record { most = omega arith; rest = refl }

  module _ {i : ℕ} (p : FirstPassed n cs i) where
    pub check_more : {c : Card} {u : Unit} → i < n → drop i cs ≡ c ∷ drop (i + 1) cs → check_card n (i + 1) c ≡ accepted u → FirstPassed n cs (i + 1)
    unfolding check_from
    check_more {c} less e f =
        record {
          most = omega arith;
          rest =
              p.rest ∙
              ap (check_from n (i + 1)) e ∙
              after_accepted _ _ f ∙
              ap (λ (k : ℕ). check_from n k (drop (i + 1) cs)) (sym (add-one (i + 1)));
        }

    pub check_stop : {c : Card} {r : Refusal} → drop i cs ≡ c ∷ drop (i + 1) cs → check_card n (i + 1) c ≡ refused r → check_from n 1 cs ≡ refused r
    unfolding check_from
    check_stop e f = p.rest ∙ ap (check_from n (i + 1)) e ∙ after_refused _ _ f

    pub check_end : n ≤ i → length cs ≡ n → check_from n 1 cs ≡ accepted tt
    unfolding check_from
    check_end h l =
        let done : length cs ≤ i = omega arith in
        p.rest ∙ ap (check_from n (i + 1)) (drop_of_length-le cs done)

-- Measuring.

-- an opening is at most as long as the longest
pub opening_small : (f : Option RateFactors) → opening_size f ≤ longest_opening
opening_small f = omega (arith, optional_small factors_record sound_factors f)

pub length-encode : (r : River) → length (encode r) ≡ opening_size r.factors + length (encode_cards r.cards)
unfolding encode
length-encode r = omega (arith, length-append (factors_record.encode r.factors) (encode_cards r.cards))

-- the sum of the first i cards' sizes, and of the opening's
pub record Measured (r : River) (i total : ℕ) : Type 0 where
  pub near : total ≤ longest_opening + longest_card * i
  pub rest : total + length (encode_cards (drop i r.cards)) ≡ length (encode r)

module _ (r : River) where
  pub measure_start : Measured r 0 (opening_size r.factors)
  measure_start = record { near = omega (arith, opening_small r.factors); rest = sym (length-encode r) }

  module _ {i total : ℕ} (p : Measured r i total) where
    pub measure_more : {c : Card} {k : ℕ} → drop i r.cards ≡ c ∷ drop (i + 1) r.cards → k ≡ size_of c → Measured r (i + 1) (total + k)
    measure_more {c} {k} e f =
        let l : length (encode_cards (drop i r.cards)) ≡ length (encode_card c) + length (encode_cards (drop (i + 1) r.cards)) =
        ap (λ (x : List Card). length (encode_cards x)) e ∙ length-append (encode_card c) (encode_cards (drop (i + 1) r.cards))
        in
        record {
          near = omega (arith, size_small c, p.near);
          rest = omega (arith, p.rest, length_encode_card c);
        }

    pub measure_end : length r.cards ≤ i → total ≡ length (encode r)
    measure_end h =
        let l : length (encode_cards (drop i r.cards)) ≡ 0 = ap (λ (x : List Card). length (encode_cards x)) (drop_of_length-le r.cards h) in
        omega (arith, p.rest)

-- Putting.

encode_cards_append : (a b : List Card) → encode_cards (a ++ b) ≡ encode_cards a ++ encode_cards b
encode_cards_append [] b = refl
encode_cards_append (c ∷ a) b =
    ap (λ (x : List ℕ). encode_card c ++ x) (encode_cards_append a b) ∙
    sym (append_assoc (encode_card c) (encode_cards a) (encode_cards b))

-- one card more than the first i
pub cards_more : (cs : List Card) (i : ℕ) {c : Card} {before here after : Cursor} → Puts before (encode_cards (take i cs)) here → drop i cs ≡ c ∷ drop (i + 1) cs
    → Puts here (encode_card c) after → Puts before (encode_cards (take (i + 1) cs)) after
cards_more cs i {c} {before} {after = after} p e q = subst (λ (x : List ℕ). Puts before x after) bytes (puts p q)
  where
    more : take (i + 1) cs ≡ take i cs ++ (c ∷ [])
    more = take-add i 1 cs ∙ ap (λ (x : List Card). take i cs ++ take 1 x) e

    bytes : encode_cards (take i cs) ++ encode_card c ≡ encode_cards (take (i + 1) cs)
    bytes =
        ap (λ (x : List ℕ). encode_cards (take i cs) ++ x) (sym (append-nil (encode_card c))) ∙
        sym (encode_cards_append (take i cs) (c ∷ [])) ∙
        ap encode_cards (sym more)

module _ (r : River) {before : Cursor} where
  -- there is room for one card more
  pub cards_room : (i : ℕ) {c : Card} {here : Cursor} → Puts before (encode_cards (take i r.cards)) here → drop i r.cards ≡ c ∷ drop (i + 1) r.cards
      → before.at ≡ opening_size r.factors → length (encode r) ≤ length before.out.now → Room here (size_of c)
  cards_room i {c} p e f h =
      let all : length (encode_cards r.cards) ≡ length (encode_cards (take i r.cards)) + length (encode_cards (drop i r.cards)) =
      ap (λ (x : List Card). length (encode_cards x)) (sym (take-append-drop i r.cards)) ∙
      ap (λ (x : List ℕ). length x) (encode_cards_append (take i r.cards) (drop i r.cards)) ∙
      length-append (encode_cards (take i r.cards)) (encode_cards (drop i r.cards))
      in
      let rest : length (encode_cards (drop i r.cards)) ≡ length (encode_card c) + length (encode_cards (drop (i + 1) r.cards)) =
      ap (λ (x : List Card). length (encode_cards x)) e ∙ length-append (encode_card c) (encode_cards (drop (i + 1) r.cards))
      in
      omega (arith, p.put.place, put_long p.put, length-encode r, length_encode_card c)

  -- the opening and all cards are the file
  pub cards_all : (i : ℕ) {start after : Cursor} → Puts start (encode_opening (length r.cards) r.factors) before → Puts before (encode_cards (take i r.cards)) after
      → length r.cards ≤ i → Puts start (encode r) after
  unfolding encode
  cards_all i {after = after} q p h =
      puts q (subst (λ (x : List Card). Puts before (encode_cards x) after) (take_all i r.cards h) p)
