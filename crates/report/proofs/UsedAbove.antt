-- Status 2 goes by any reach above, through all above: oxygen is used up in the forest above a reach of a lawful river exactly where a reach that lies
-- above it has status 1 or 2.
use mathlib.Core.Path.{◌≡◌, refl, subst}
use mathlib.Core.Logic.{⊎_elim, ◌↔◌}
use mathlib.Core.Bool.{Bool, true, false, ◌||◌, or-true}
use mathlib.Core.List.{List, [], ◌∷◌}
use Prim.Native.Nat.{ℕ, zero, suc, ◌<◌, ◌≤◌, suc-le-suc}
use native.Mathlib.Nat.{le_of_lt, le_of_suc-le-suc, not-suc-le-zero, eq-or-lt_of_le}
use native.Mathlib.Omega.{arith}
use lib.ListN.{length, get_or}
use lib.Dec.{eqb}
use borrow.Author.Tests.{eq-eqb}
use Rattle.river.specs.declared.card.Card.{Card}
use Rattle.river.specs.Card.{Lawful, blank}
use Rattle.flows.specs.Flow.{Feeders, more, joined_if, feeders_among, card_of, above}
use Rattle.river.proofs.Answers.{clash}
use Rattle.flows.proofs.Acceptance.{all_feeders}
use Rattle.flows.proofs.rates.InForce.{regular_of_lawful}
use Rattle.report.specs.Status.{status_by, is_used, used_by}
use Rattle.report.specs.Program.{used_above, status_of}
use Rattle.report.specs.Locality.{LiesAbove, feeds, through}
use Rattle.report.proofs.Locality.{down, flows_into}

-- a reach that lies above reach i + 1 and has status 1 or 2
pub record UsedReach (cards : List Card) (i : ℕ) : Type 0 where
  pub place : ℕ
  pub within : place < length cards
  pub lies_above : LiesAbove cards place i
  pub used : is_used (status_of (card_of cards (suc place)) (above cards (suc place))) ≡ true

-- a reach that flows into another is one of the river: the blank card beyond the last one has outlet 0
flowing_within : (cards : List Card) (j : ℕ) {i : ℕ} → (get_or cards j blank).outlet ≡ suc i → j < length cards
flowing_within [] j e = omega arith
flowing_within (card ∷ cards) zero e = omega arith
flowing_within (card ∷ cards) (suc j) e = suc-le-suc (flowing_within cards j e)

pub above_within : {cards : List Card} {j i : ℕ} → LiesAbove cards j i → j < length cards
above_within {cards} {j} (feeds e) = flowing_within cards j e
above_within {cards} {j} (through e l) = flowing_within cards j e

-- ---- a forest where oxygen is used up has a reach where it is

any_of : {P : Type 0} (a b c : Bool) → (a ≡ true → P) → (b ≡ true → P) → (c ≡ true → P) → (a || (b || c)) ≡ true → P
any_of true b c f g h e = f refl
any_of false true c f g h e = g refl
any_of false false c f g h e = h e

module _ {cards : List Card} where
  -- what lies above reach n + 1 lies above the reach that it flows into
  passed_down : {n i : ℕ} → (get_or cards n blank).outlet ≡ suc i → UsedReach cards n → UsedReach cards i
  passed_down e r = record { place = r.place; within = r.within; lies_above = down r.lies_above e; used = r.used }

  -- the reach at place n is a feeder, with what lies above it, or not
  used_joined : (n i : ℕ) → n < length cards → (used_above (feeders_among cards n (suc n)) ≡ true → UsedReach cards n) → (used_above (feeders_among cards n (suc i)) ≡ true → UsedReach cards i) → (t : Bool) → eqb (get_or cards n blank).outlet (suc i) ≡ t → used_above (joined_if t (get_or cards n blank) (feeders_among cards n (suc n)) (feeders_among cards n (suc i))) ≡ true → UsedReach cards i
  unfolding joined_if used_by status_of
  used_joined n i l up rest true e u =
      let p = flows_into cards n i e in
      any_of _ _ _ (λ own. record { place = n; within = l; lies_above = feeds p; used = own }) (λ v. passed_down p (up v)) rest u
  used_joined n i l up rest false e u = rest u

  used_among : (n i : ℕ) → n ≤ length cards → used_above (feeders_among cards n (suc i)) ≡ true → UsedReach cards i
  unfolding feeders_among used_by
  used_among zero i l u = clash (cc)
  used_among (suc n) i l u =
      used_joined n i l (used_among n n (le_of_lt l)) (used_among n i (le_of_lt l)) (eqb (get_or cards n blank).outlet (suc i)) refl u

-- ---- and where a reach of the forest has used it up, it is used up in the forest

-- a feeder has status 1 or 2, or oxygen is used up among the others
own_used : (card : Card) (up rest : Feeders) → is_used (status_of card up) ≡ true → used_above (more card up rest) ≡ true
unfolding used_by status_of
own_used card up rest u = rw u

others_used : (t : Bool) (card : Card) (up rest : Feeders) → used_above rest ≡ true → used_above (joined_if t card up rest) ≡ true
unfolding joined_if used_by
others_used true card up rest u = rw (u, or-true, or-true)
others_used false card up rest u = u

-- below a forest where oxygen is used up the status is 2
used_below : (card : Card) (up : Feeders) → used_above up ≡ true → is_used (status_of card up) ≡ true
unfolding status_of status_by is_used
used_below card up u = rw u

module _ (cards : List Card) where
  -- the reach at place j has status 1 or 2
  abbrev Used : ℕ → Type 0
  Used j = is_used (status_of (card_of cards (suc j)) (above cards (suc j))) ≡ true

  -- a feeder that has it is among the first n reaches
  used_feeder : (n j i : ℕ) → j < n → (get_or cards j blank).outlet ≡ suc i → Used j → used_above (feeders_among cards n (suc i)) ≡ true
  unfolding feeders_among joined_if
  used_feeder zero j i l e u = absurd (not-suc-le-zero l)
  used_feeder (suc n) j i l e u =
      ⊎_elim
      (λ (k : j ≡ n). subst (λ (m : ℕ). used_above (feeders_among cards (suc m) (suc i)) ≡ true) k (rw (eq-eqb (get_or cards j blank).outlet (suc i) e) (own_used _ _ _ u)))
      (λ (k : j < n). others_used (eqb (get_or cards n blank).outlet (suc i)) _ _ _ (used_feeder n j i k e u))
      (eq-or-lt_of_le (le_of_suc-le-suc l))

  module _ (lawful : Lawful cards) where
    -- and so among all, which the forest above a reach is made of
    used_by_feeder : (j i : ℕ) → i < length cards → (get_or cards j blank).outlet ≡ suc i → Used j → used_above (above cards (suc i)) ≡ true
    used_by_feeder j i l e u =
        rw (all_feeders (regular_of_lawful lawful) i l) (used_feeder (length cards) j i (flowing_within cards j e) e u)

    -- a reach that lies above, by way of the reaches between, which have status 2
    used_from : {j i : ℕ} → i < length cards → LiesAbove cards j i → Used j → used_above (above cards (suc i)) ≡ true
    used_from {j} {i} l (feeds e) u = used_by_feeder j i l e u
    used_from {j} l (through {k} e lies) u = used_from l lies (used_below _ _ (used_by_feeder j k (above_within lies) e u))

-- THEOREM: oxygen is used up above a reach of lawful cards exactly where a reach that lies above it has status 1 or 2
pub used_exactly : {cards : List Card} → Lawful cards → (i : ℕ) → i < length cards → (used_above (above cards (suc i)) ≡ true) ↔ UsedReach cards i
used_exactly {cards} lawful i l = (used_among i i (le_of_lt l), λ r. used_from cards lawful l r.lies_above r.used)
