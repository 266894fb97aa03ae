-- How many reaches the river of an array of 128 cards and a count has, and which card each has.
use mathlib.Core.Path.{◌≡◌, sym}
use mathlib.Core.List.{List}
use Prim.Native.Nat.{ℕ, ◌<◌, ◌≤◌, min}
use native.Mathlib.Omega.{arith}
use lib.ListN.{length, get_or, length-take}
use lib.Seq.{get_or-take}
use Rattle.river.specs.declared.card.Card.{Card}
use Rattle.river.specs.declared.card.Cards.{Cards}
use Rattle.river.specs.Card.{Regular, FieldsInRange, card_list, blank}
use Rattle.river.specs.declared.source.Demand.TheVariants.{Bod, Nitrogenous}
use Rattle.river.specs.Source.{SourcesInRange}
use Rattle.flows.specs.Flow.{own_mass}
use Rattle.river.proofs.range.Ranges.{asked_at}
use Rattle.river.proofs.source.Ranges.{sources_in_range, source_mass_small}

pub reaches_counted : (cs : Cards) {count : ℕ} → length cs.at ≡ 128 → count ≡ min cs.count 128 → count ≡ length (card_list cs)
reaches_counted cs full e = rw (length-take cs.count cs.at, full) (omega arith)

-- the card of a reach in the array is that of the river
pub card_of_river : (cs : Cards) (i : ℕ) → i < length (card_list cs) → get_or cs.at i blank ≡ get_or (card_list cs) i blank
card_of_river cs i h =
    let k : i < cs.count = omega (arith, rw length-take at h) in
    sym (get_or-take cs.count cs.at i blank k)

module _ {card : Card} {cards : List Card} {i : ℕ} (own : card ≡ get_or cards i blank) (h : Regular cards) (l : i < length cards) where
  -- the card of a reach and its sources are in range
  pub card_in_range : FieldsInRange card
  card_in_range = rw own (asked_at h i l).in_range

  pub card_sources : SourcesInRange card
  card_sources = rw own (sources_in_range (asked_at h i l))

  -- what a reach itself takes in is bounded
  pub own_mass_few : {mass : ℕ} → mass ≡ own_mass card → mass ≤ 208_589_934_592_000
  own_mass_few e =
      rw e (omega (arith, source_mass_small (card_sources.each Bod), source_mass_small (card_sources.each Nitrogenous)))
