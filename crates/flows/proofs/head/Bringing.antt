-- Tables of what reaches bring: one more stays in bounds, one step of the loop that gathers what feeders bring, and the sum of flow × stored oxygen
-- over the feeders stands for that of flow × oxygen.
use mathlib.Core.Path.{◌≡◌, refl, sym, ap, ap₂, ◌∙◌}
use mathlib.Core.Bool.{Bool, true, false}
use mathlib.Core.List.{List}
use Prim.Native.Nat.{ℕ, zero, suc, ◌+◌, ◌*◌, ◌<◌, ◌≤◌}
use native.Mathlib.Nat.{le_refl, lt_of_le_of_lt, not-suc-le-zero, mul-le-mul_left}
use native.Mathlib.Omega.{arith}
use lib.ListN.{length, get_or, set, take, length-set, length-take}
use lib.Seq.{get_or-take}
use lib.Dec.{eqb}
use lib.IntN.{ℤ, pos, sub_ℕ, ◌+ℤ◌, ◌*ℤ◌}
use Rattle.river.specs.declared.card.Card.{Card}
use Rattle.flows.specs.declared.flow.ReachFlows.{ReachFlows}
use Rattle.flows.specs.declared.head.Brought.{Brought}
use Rattle.flows.specs.Flow.{Feeders, none, more, feeders_among, joined_if, flow_of, reach_flow, flow_at, mass_at}
use Rattle.flows.proofs.flow.Table.{entered_at, sum_feeder, sum_other, any_feeder, any_other, sum_so_far}
use Rattle.flows.proofs.head.Offset.{sub_add, times_sub}
use Rattle.flows.specs.held.FlowTable.{no_flow, flows_by, only_if, table_sum, table_any}
use Rattle.flows.specs.held.Stored.{stored_zero, stored_limit, oxygen_of, oxygen_sum_of}
use Rattle.flows.specs.held.HeadTable.{no_brought, nothing_brought, brings_by, brought_by, BroughtWithFits, brought_with, brought_among, brought_by_feeders, BroughtFits, BroughtWithin, Carried}
use Rattle.river.specs.Card.{blank}

-- what a foot brings is in bounds where its demands together are at most a head's
pub brought_within : {cards : List Card} {i flow oxygen : ℕ} {used : Bool} (head bod nitrogenous : ℕ) → flow ≡ flow_at cards (suc i) → bod + nitrogenous ≤ head → flow_at cards (suc i) * head ≤ 1000 * mass_at cards (suc i) → oxygen ≤ stored_limit → BroughtWithin cards i (brought_by flow bod nitrogenous oxygen used)
brought_within {cards} {i} head bod nitrogenous e falls mass small =
    rw e
    record {
      demands = omega (arith, mul-le-mul_left (flow_at cards (suc i)) falls, mass);
      oxygen = omega (arith, mul-le-mul_left (flow_at cards (suc i)) small);
    }

-- nothing brought is in bounds
pub carried_none : (cards : List Card) → Carried cards nothing_brought 0
carried_none cards = record { full = refl; within = λ j l. absurd (not-suc-le-zero l) }

-- what one more reach brings, in bounds
pub carried_next : {cards : List Card} {by_reach : List Brought} {i : ℕ} {brought : Brought} → Carried cards by_reach i → i < 128 → BroughtWithin cards i brought → Carried cards (set by_reach i brought) (suc i)
carried_next {cards} {by_reach} {i} {brought} h few within =
    record {
      full = length-set by_reach i brought ∙ h.full;
      within = entered_at by_reach i brought no_brought (BroughtWithin cards) (rw h.full few) within h.within;
    }

-- one step of the loop that gathers what the feeders of reach i bring
module _ (t : List ReachFlows) (by_reach : List Brought) (i n : ℕ) {held : Brought} (so_far : held ≡ brought_among t by_reach n i) where
  pub brought_with_fits : n < length t → (flows_by t n).outlet ≡ i → BroughtFits t by_reach i → BroughtWithFits held (brings_by by_reach n)
  brought_with_fits l e f =
      rw so_far
      record {
        bod = lt_of_le_of_lt (sum_so_far t _ l e) f.bod;
        nitrogenous = lt_of_le_of_lt (sum_so_far t _ l e) f.nitrogenous;
        oxygen = lt_of_le_of_lt (sum_so_far t _ l e) f.oxygen;
      }

  pub brought_gathered : (flows_by t n).outlet ≡ i → brought_with held (brings_by by_reach n) ≡ brought_among t by_reach (n + 1) i
  brought_gathered h =
      rw (so_far, sum_feeder t (λ j. (brings_by by_reach j).bod) n i h, sum_feeder t (λ j. (brings_by by_reach j).nitrogenous) n i h, sum_feeder t (λ j. (brings_by by_reach j).oxygen) n i h, any_feeder t (λ j. (brings_by by_reach j).used) n i h)

  pub brought_passed : ((flows_by t n).outlet ≡ i → ⊥) → held ≡ brought_among t by_reach (n + 1) i
  brought_passed h =
      rw (so_far, sum_other t (λ j. (brings_by by_reach j).bod) n i h, sum_other t (λ j. (brings_by by_reach j).nitrogenous) n i h, sum_other t (λ j. (brings_by by_reach j).oxygen) n i h, any_other t (λ j. (brings_by by_reach j).used) n i h)

-- what the feeders among the reaches before one bring is told by the tables of all reaches too
module _ (t : List ReachFlows) (m : ℕ) where
  sum_taken : (a b : ℕ → ℕ) (n i : ℕ) → n ≤ m → ((j : ℕ) → j < m → a j ≡ b j) → table_sum (take m t) a n i ≡ table_sum t b n i
  unfolding table_sum
  sum_taken a b zero i k e = refl
  sum_taken a b (suc n) i k e = rw (get_or-take m t n no_flow k, e n k, sum_taken a b n i (omega arith) e)

  any_taken : (a b : ℕ → Bool) (n i : ℕ) → n ≤ m → ((j : ℕ) → j < m → a j ≡ b j) → table_any (take m t) a n i ≡ table_any t b n i
  unfolding table_any
  any_taken a b zero i k e = refl
  any_taken a b (suc n) i k e = rw (get_or-take m t n no_flow k, e n k, any_taken a b n i (omega arith) e)

pub brought_taken : (t : List ReachFlows) (by_reach : List Brought) (i : ℕ) → i ≤ length t → brought_by_feeders t by_reach i ≡ brought_among t by_reach i (suc i)
brought_taken t by_reach i k =
    let long : length (take i t) ≡ i = rw length-take (omega arith) in
    let brings : (j : ℕ) → j < i → brings_by (take i by_reach) j ≡ brings_by by_reach j = λ j l. get_or-take i by_reach j no_brought l in
    rw (
      long,
      sum_taken t i (λ j. (brings_by (take i by_reach) j).bod) (λ j. (brings_by by_reach j).bod) i (suc i) (le_refl i) (λ j l. ap (λ (b : Brought). b.bod) (brings j l)),
      sum_taken t i (λ j. (brings_by (take i by_reach) j).nitrogenous) (λ j. (brings_by by_reach j).nitrogenous) i (suc i) (le_refl i) (λ j l. ap (λ (b : Brought). b.nitrogenous) (brings j l)),
      sum_taken t i (λ j. (brings_by (take i by_reach) j).oxygen) (λ j. (brings_by by_reach j).oxygen) i (suc i) (le_refl i) (λ j l. ap (λ (b : Brought). b.oxygen) (brings j l)),
      any_taken t i (λ j. (brings_by (take i by_reach) j).used) (λ j. (brings_by by_reach j).used) i (suc i) (le_refl i) (λ j l. ap (λ (b : Brought). b.used) (brings j l)),
    )

-- S adds up flow × what g gives for each feeder
pub record AddsFlowTimes (S : Feeders → ℤ) (g : Card → Feeders → ℤ) : Type 0 where
  pub nothing : S none ≡ pos 0
  pub plus : (card : Card) (up rest : Feeders) → S (more card up rest) ≡ pos (reach_flow card up) *ℤ g card up +ℤ S rest

-- the table of outlets, and of flow × stored oxygen, of the first n reaches
pub record StoredTable (cards : List Card) (g : Card → Feeders → ℤ) (stored : ℕ → ℕ) (t : List ReachFlows) (values : ℕ → ℕ) (n : ℕ) : Type 0 where
  pub outlet : (j : ℕ) → j < n → (flows_by t j).outlet ≡ (get_or cards j blank).outlet
  pub value : (j : ℕ) → j < n → values j ≡ flow_at cards (suc j) * stored j
  pub oxygen : (j : ℕ) → j < n → oxygen_of (stored j) ≡ g (get_or cards j blank) (feeders_among cards j (suc j))

fewer : {cards : List Card} {g : Card → Feeders → ℤ} {stored : ℕ → ℕ} {t : List ReachFlows} {values : ℕ → ℕ} {n : ℕ} → StoredTable cards g stored t values (suc n) → StoredTable cards g stored t values n
fewer h =
    record {
      outlet = λ j l. h.outlet j (omega arith);
      value = λ j l. h.value j (omega arith);
      oxygen = λ j l. h.oxygen j (omega arith);
    }

-- one feeder's flow × stored oxygen, and the offset for its flow
more_oxygen : (q s x r : ℕ) → oxygen_sum_of (q + r) (q * s + x) ≡ pos q *ℤ oxygen_of s +ℤ oxygen_sum_of r x
unfolding oxygen_of
more_oxygen q s x r =
    sym
    (ap (λ (z : ℤ). z +ℤ oxygen_sum_of r x) (times_sub q s stored_zero)
    ∙ sub_add (q * s) (q * stored_zero) x (stored_zero * r)
    ∙ ap (sub_ℕ (q * s + x)) (omega arith))

-- the sum over a table of flow × stored oxygen, less the offset for each unit of flow, is that over the feeders
pub oxygen_of_feeders : {S : Feeders → ℤ} {g : Card → Feeders → ℤ} {cards : List Card} {stored : ℕ → ℕ} {t : List ReachFlows} {values : ℕ → ℕ} {n : ℕ} → AddsFlowTimes S g → StoredTable cards g stored t values n → (i : ℕ) → oxygen_sum_of (flow_of (feeders_among cards n i)) (table_sum t values n i) ≡ S (feeders_among cards n i)
unfolding table_sum feeders_among flow_of only_if joined_if
oxygen_of_feeders {n = zero} a h i = sym a.nothing
oxygen_of_feeders {S} {g} {cards} {stored} {t} {values} {n = suc n} a h i =
    rw (h.outlet n (le_refl (suc n)), h.value n (le_refl (suc n)))
    (step (eqb (get_or cards n blank).outlet i) (get_or cards n blank) (feeders_among cards n (suc n)) (feeders_among cards n i) (stored n) (table_sum t values n i)
    (h.oxygen n (le_refl (suc n))) (oxygen_of_feeders a (fewer h) i))
  where
    step : (b : Bool) (card : Card) (up rest : Feeders) (s x : ℕ) → oxygen_of s ≡ g card up → oxygen_sum_of (flow_of rest) x ≡ S rest → oxygen_sum_of (flow_of (joined_if b card up rest)) (only_if b (reach_flow card up * s) + x) ≡ S (joined_if b card up rest)
    step true card up rest s x e f = more_oxygen (reach_flow card up) s x (flow_of rest) ∙ ap₂ ◌+ℤ◌ (ap (λ (z : ℤ). pos (reach_flow card up) *ℤ z) e) f ∙ sym (a.plus card up rest)
    step false card up rest s x e f = ap (oxygen_sum_of (flow_of rest)) (omega arith) ∙ f
