-- Sums, largest values and flags of a table over the feeders of a reach: one step of the loops that gather them, their bounds,
-- and that over the tables of a river they are the functions by cases on the feeders.
use mathlib.Core.Path.{◌≡◌, refl, sym, ap}
use mathlib.Core.Bool.{Bool, true, false, ◌&&◌, ◌||◌}
use mathlib.Core.List.{List}
use Prim.Native.Nat.{ℕ, zero, suc, ◌+◌, ◌*◌, ◌<◌, ◌≤◌, max, zero-le}
use mathlib.Core.Logic.{⊎_elim}
use native.Mathlib.Nat.{le_trans, lt_of_le_of_lt, le_refl, le-suc_iff, le-add_left, le-add_right, le_of_suc-le-suc, eq-or-lt_of_le, not-suc-le-zero}
use native.Mathlib.Numerals.{add-one}
use native.Mathlib.Omega.{arith}
use lib.ListN.{length, get_or, set}
use lib.Seq.{get_or-set_same, get_or-set_other}
use lib.Dec.{eqb, ltb}
use borrow.Author.Tests.{eq-eqb, ne_eqb, lt-ltb}
use Rattle.river.specs.declared.card.Card.{Card}
use Rattle.flows.specs.declared.flow.ReachFlows.{ReachFlows}
use Rattle.flows.specs.declared.flow.Upstream.{Upstream}
use Rattle.flows.specs.Flow.{Feeders, none, more, feeders_among, joined_if, deepest, reach_depth, fed}
use Rattle.flows.specs.held.FlowTable.{flows_by, only_if, table_sum, table_max, table_any, SumsFit, FeederFits, with_feeder, upstream_among}
use Rattle.river.specs.Card.{blank}

lower : {j n : ℕ} → j < n → j < suc n
lower h = omega arith

-- one more entry of a table: what holds of each entry before and of the new one holds of all
pub entered_at : {A : Type 0} (l : List A) (n : ℕ) (v other : A) (P : ℕ → A → Type 0) → n < length l → P n v → ((j : ℕ) → j < n → P j (get_or l j other)) → (j : ℕ) → j < suc n → P j (get_or (set l n v) j other)
entered_at l n v other P room here below j h =
    ⊎_elim
    (λ (k : j ≡ n). rw (k, get_or-set_same l n v other room) here)
    (λ (k : j < n). rw (get_or-set_other l n j v other (λ (q : j ≡ n). omega arith)) (below j k))
    (eq-or-lt_of_le (le_of_suc-le-suc h))

module _ (t : List ReachFlows) (values : ℕ → ℕ) (n i : ℕ) where
  -- the next reach is a feeder, or is none
  pub sum_feeder : (flows_by t n).outlet ≡ i → table_sum t values (n + 1) i ≡ table_sum t values n i + values n
  unfolding table_sum only_if
  sum_feeder h = rw (add-one, eq-eqb (flows_by t n).outlet i h) (omega arith)

  pub sum_other : ((flows_by t n).outlet ≡ i → ⊥) → table_sum t values (n + 1) i ≡ table_sum t values n i
  unfolding table_sum only_if
  sum_other h = rw (add-one, ne_eqb (flows_by t n).outlet i h) (omega arith)

  pub max_feeder : (flows_by t n).outlet ≡ i → table_max t values (n + 1) i ≡ max (values n) (table_max t values n i)
  unfolding table_max only_if
  max_feeder h = rw (add-one, eq-eqb (flows_by t n).outlet i h)

  pub max_other : ((flows_by t n).outlet ≡ i → ⊥) → table_max t values (n + 1) i ≡ table_max t values n i
  unfolding table_max only_if
  max_other h = rw (add-one, ne_eqb (flows_by t n).outlet i h) (omega arith)

module _ (t : List ReachFlows) (values : ℕ → Bool) (n i : ℕ) where
  pub any_feeder : (flows_by t n).outlet ≡ i → table_any t values (n + 1) i ≡ (values n || table_any t values n i)
  unfolding table_any
  any_feeder h = rw (add-one, eq-eqb (flows_by t n).outlet i h)

  pub any_other : ((flows_by t n).outlet ≡ i → ⊥) → table_any t values (n + 1) i ≡ table_any t values n i
  unfolding table_any
  any_other h = rw (add-one, ne_eqb (flows_by t n).outlet i h)

-- a sum over fewer reaches is no larger
pub sum_grows : (t : List ReachFlows) (values : ℕ → ℕ) (i k n : ℕ) → k ≤ n → table_sum t values k i ≤ table_sum t values n i
unfolding table_sum
sum_grows t values i zero zero h = le_refl 0
sum_grows t values i (suc k) zero h = absurd (not-suc-le-zero h)
sum_grows t values i k (suc n) h =
    ⊎_elim (λ (l : k ≤ n). le_trans (sum_grows t values i k n l) (le-add_left _ _)) (λ (e : k ≡ suc n). rw e (le_refl _)) (le-suc_iff.0 h)

-- and so is the sum so far with one more feeder
pub sum_so_far : (t : List ReachFlows) (values : ℕ → ℕ) {i k n : ℕ} → k < n → (flows_by t k).outlet ≡ i → table_sum t values k i + values k ≤ table_sum t values n i
sum_so_far t values {i} {k} {n} l e =
    omega (arith, sum_feeder t values k i e, sum_grows t values i (k + 1) n (omega arith))

-- what was gathered of the first n reaches, and the next, which is a feeder, or is none
module _ (t : List ReachFlows) (n i : ℕ) {up : Upstream} (e : up ≡ upstream_among t n i) where
  pub feeder_fits : SumsFit t i → n < length t → (flows_by t n).outlet ≡ i → FeederFits up (flows_by t n)
  feeder_fits fit l h =
      rw e record { flow = lt_of_le_of_lt (sum_so_far t _ l h) fit.flow; mass = lt_of_le_of_lt (sum_so_far t _ l h) fit.mass }

  pub feeder_gathered : (flows_by t n).outlet ≡ i → with_feeder up (flows_by t n) ≡ upstream_among t (n + 1) i
  feeder_gathered h =
      rw
      (e, sum_feeder t (λ j. (flows_by t j).flow) n i h, sum_feeder t (λ j. (flows_by t j).mass) n i h, max_feeder t (λ j. (flows_by t j).depth) n i h)

  pub other_passed : ((flows_by t n).outlet ≡ i → ⊥) → up ≡ upstream_among t (n + 1) i
  other_passed h =
      rw
      (e, sum_other t (λ j. (flows_by t j).flow) n i h, sum_other t (λ j. (flows_by t j).mass) n i h, max_other t (λ j. (flows_by t j).depth) n i h)

-- two values together of at most k times a weight sum together to at most k times the weights' sum
pub sums_scaled : (t : List ReachFlows) (a b weights : ℕ → ℕ) (k n i : ℕ) → ((j : ℕ) → j < n → a j + b j ≤ k * weights j) → table_sum t a n i + table_sum t b n i ≤ k * table_sum t weights n i
unfolding table_sum only_if
sums_scaled t a b weights k zero i h = zero-le
sums_scaled t a b weights k (suc n) i h =
    step (eqb (flows_by t n).outlet i) (a n) (b n) (weights n) (table_sum t a n i) (table_sum t b n i) (table_sum t weights n i) (h n (le_refl (suc n))) (sums_scaled t a b weights k n i (λ j l. h j (lower l)))
  where
    step : (t : Bool) (v x w s y u : ℕ) → v + x ≤ k * w → s + y ≤ k * u → only_if t v + s + (only_if t x + y) ≤ k * (only_if t w + u)
    step true v x w s y u p q = omega arith
    step false v x w s y u p q = omega arith

-- and so one value does
pub sum_scaled : (t : List ReachFlows) (values weights : ℕ → ℕ) (k n i : ℕ) → ((j : ℕ) → j < n → values j ≤ k * weights j) → table_sum t values n i ≤ k * table_sum t weights n i
sum_scaled t values weights k n i h =
    le_trans (le-add_right _ _) (sums_scaled t values (λ _. 0) weights k n i (λ j l. omega (arith, h j l)))

-- values of at most b sum to at most n * b
pub sum_bounded : (t : List ReachFlows) (values : ℕ → ℕ) (b n i : ℕ) → ((j : ℕ) → j < n → values j ≤ b) → table_sum t values n i ≤ n * b
unfolding table_sum only_if
sum_bounded t values b zero i h = zero-le
sum_bounded t values b (suc n) i h =
    step (eqb (flows_by t n).outlet i) (values n) (table_sum t values n i) (h n (le_refl (suc n))) (sum_bounded t values b n i (λ j l. h j (lower l)))
  where
    step : (t : Bool) (v s : ℕ) → v ≤ b → s ≤ n * b → only_if t v + s ≤ suc n * b
    step true v s p q = omega arith
    step false v s p q = omega arith

-- S adds up what g gives for each feeder
pub record Adds (S : Feeders → ℕ) (g : Card → Feeders → ℕ) : Type 0 where
  pub nothing : S none ≡ 0
  pub plus : (card : Card) (up rest : Feeders) → S (more card up rest) ≡ g card up + S rest

-- the table of outlets, and of what g gives for each reach, of the first n reaches
pub record TableOf (cards : List Card) (g : Card → Feeders → ℕ) (t : List ReachFlows) (values : ℕ → ℕ) (n : ℕ) : Type 0 where
  pub outlet : (j : ℕ) → j < n → (flows_by t j).outlet ≡ (get_or cards j blank).outlet
  pub value : (j : ℕ) → j < n → values j ≡ g (get_or cards j blank) (feeders_among cards j (suc j))

fewer : {cards : List Card} {g : Card → Feeders → ℕ} {t : List ReachFlows} {values : ℕ → ℕ} {n : ℕ} → TableOf cards g t values (suc n) → TableOf cards g t values n
fewer t = record { outlet = λ j l. t.outlet j (lower l); value = λ j l. t.value j (lower l) }

-- the sum over a table of a river is that over the feeders
pub sum_of_feeders : {S : Feeders → ℕ} {g : Card → Feeders → ℕ} {cards : List Card} {t : List ReachFlows} {values : ℕ → ℕ} {n : ℕ} → Adds S g → TableOf cards g t values n → (i : ℕ) → table_sum t values n i ≡ S (feeders_among cards n i)
unfolding table_sum feeders_among only_if joined_if
sum_of_feeders {n = zero} a t i = sym a.nothing
sum_of_feeders {S} {g} {cards} {n = suc n} a t i =
    rw (t.outlet n (le_refl (suc n)), t.value n (le_refl (suc n))) (step (eqb (get_or cards n blank).outlet i) _ (get_or cards n blank) (feeders_among cards n (suc n)) (feeders_among cards n i) (sum_of_feeders a (fewer t) i))
  where
    step : (b : Bool) (x : ℕ) (card : Card) (up rest : Feeders) → x ≡ S rest → only_if b (g card up) + x ≡ S (joined_if b card up rest)
    step true x card up rest e = rw (a.plus card up rest, e)
    step false x card up rest e = omega arith

-- the largest of a table of depths is the depth of the deepest feeder
pub max_of_feeders : {cards : List Card} {t : List ReachFlows} {values : ℕ → ℕ} {n : ℕ} → TableOf cards (λ card up. reach_depth up) t values n → (i : ℕ) → table_max t values n i ≡ deepest (feeders_among cards n i)
unfolding table_max feeders_among deepest only_if joined_if
max_of_feeders {n = zero} t i = refl
max_of_feeders {cards} {n = suc n} t i =
    rw (t.outlet n (le_refl (suc n)), t.value n (le_refl (suc n)))
    (step (eqb (get_or cards n blank).outlet i) _ (get_or cards n blank) (feeders_among cards n (suc n)) (feeders_among cards n i) (max_of_feeders (fewer t) i))
  where
    step : (b : Bool) (x : ℕ) (card : Card) (up rest : Feeders) → x ≡ deepest rest → max (only_if b (reach_depth up)) x ≡ deepest (joined_if b card up rest)
    step true x card up rest e = ap (max (1 + deepest up)) e
    step false x card up rest e = omega arith

-- S holds of feeders where g holds of any
pub record Finds (S : Feeders → Bool) (g : Card → Feeders → Bool) : Type 0 where
  pub nothing : S none ≡ false
  pub plus : (card : Card) (up rest : Feeders) → S (more card up rest) ≡ (g card up || S rest)

-- the table of outlets, and of whether g holds of each reach, of the first n reaches
pub record FlagsOf (cards : List Card) (g : Card → Feeders → Bool) (t : List ReachFlows) (values : ℕ → Bool) (n : ℕ) : Type 0 where
  pub outlet : (j : ℕ) → j < n → (flows_by t j).outlet ≡ (get_or cards j blank).outlet
  pub value : (j : ℕ) → j < n → values j ≡ g (get_or cards j blank) (feeders_among cards j (suc j))

-- such a table holds of any feeder where S holds of the feeders
pub any_of_feeders : {S : Feeders → Bool} {g : Card → Feeders → Bool} {cards : List Card} {t : List ReachFlows} {values : ℕ → Bool} {n : ℕ} → Finds S g → FlagsOf cards g t values n → (i : ℕ) → table_any t values n i ≡ S (feeders_among cards n i)
unfolding table_any feeders_among joined_if
any_of_feeders {n = zero} a t i = sym a.nothing
any_of_feeders {S} {g} {cards} {n = suc n} a t i =
    rw (t.outlet n (le_refl (suc n)), t.value n (le_refl (suc n)))
    (step (eqb (get_or cards n blank).outlet i) _ (get_or cards n blank) (feeders_among cards n (suc n)) (feeders_among cards n i)
    (any_of_feeders a (record { outlet = λ j l. t.outlet j (lower l); value = λ j l. t.value j (lower l) }) i))
  where
    step : (b : Bool) (x : Bool) (card : Card) (up rest : Feeders) → x ≡ S rest → (b && g card up || x) ≡ S (joined_if b card up rest)
    step true x card up rest e = rw (a.plus card up rest, e)
    step false x card up rest e = e

-- the feeders among n reaches are at most n deep
pub deepest_few : (cards : List Card) (n i : ℕ) → deepest (feeders_among cards n i) ≤ n
unfolding feeders_among deepest joined_if
deepest_few cards zero i = le_refl 0
deepest_few cards (suc n) i =
    step (eqb (get_or cards n blank).outlet i) (get_or cards n blank) (feeders_among cards n (suc n)) (feeders_among cards n i) (deepest_few cards n (suc n)) (deepest_few cards n i)
  where
    step : (b : Bool) (card : Card) (up rest : Feeders) → deepest up ≤ n → deepest rest ≤ n → deepest (joined_if b card up rest) ≤ suc n
    step true card up rest p q = omega arith
    step false card up rest p q = omega arith

-- a reach has feeders exactly when the deepest is at depth 1 or more
pub fed_deepest : (up : Feeders) → ltb 0 (deepest up) ≡ fed up
unfolding deepest fed
fed_deepest none = refl
fed_deepest (more card up rest) = lt-ltb 0 (max (1 + deepest up) (deepest rest)) (omega arith)
