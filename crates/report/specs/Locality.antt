-- Which reaches lie above a reach, and when a reach and the reaches above it are the same in two rivers: numbered anew, or at the same numbers.
-- Reaches are counted by their place in the list here: place i holds reach number i + 1.
use Rattle.std.specs.Prelude.{◌≡◌, List, ℕ, suc, get_or}
use Rattle.river.specs.declared.card.Card.{Card}
use Rattle.river.specs.Card.{blank}
use Rattle.flows.specs.Flow.{Feeders, none, more, card_of, above}

-- a card with another outlet
unfoldable pub with_outlet : ℕ → Card → Card
with_outlet o card =
    record {
      outlet = o;
      temperature = card.temperature;
      k1 = card.k1;
      k2 = card.k2;
      volume = card.volume;
      inflow = card.inflow;
      inflow_bod = card.inflow_bod;
      inflow_oxygen = card.inflow_oxygen;
      load = card.load;
      dam = card.dam;
      optionals = card.optionals;
    }

-- two cards are the same but for their outlets
pub record SameButOutlet (c d : Card) : Type 0 where
  pub rest : with_outlet 0 c ≡ with_outlet 0 d

-- two forests of feeders are the same but for the outlets, and for the order of the feeders of each reach
pub data SameForest : Feeders → Feeders → Type 0 where
  -- no feeders
  bare : SameForest none none
  -- a feeder with the same card and the same forest above it, and then the same feeders
  alike :
      {c d : Card} {up up' others others' : Feeders} →
      SameButOutlet c d →
      SameForest up up' →
      SameForest others others' →
      SameForest (more c up others) (more d up' others')
  -- two neighbours exchanged
  exchanged :
      {c d : Card} {up up' others : Feeders} → SameForest (more c up (more d up' others)) (more d up' (more c up others))
  -- one change and then another
  chained : {f g h : Feeders} → SameForest f g → SameForest g h → SameForest f h

-- the reach at place i of one river and that at place j of another have the same card, and the same forest above them
pub record SameReach (here : List Card) (i : ℕ) (there : List Card) (j : ℕ) : Type 0 where
  pub card : SameButOutlet (card_of here (suc i)) (card_of there (suc j))
  pub forest : SameForest (above here (suc i)) (above there (suc j))

-- the reach at place j lies above the one at place i: it flows into that reach, or into one that lies above it
pub data LiesAbove (cards : List Card) : ℕ → ℕ → Type 0 where
  feeds : {j i : ℕ} → (get_or cards j blank).outlet ≡ suc i → LiesAbove cards j i
  through : {j k i : ℕ} → (get_or cards j blank).outlet ≡ suc k → LiesAbove cards k i → LiesAbove cards j i

-- two rivers have the same card at place j
abbrev pub SameCard : List Card → List Card → ℕ → Type 0
SameCard here there j = get_or here j blank ≡ get_or there j blank

-- two rivers agree on the reach at place i and on all reaches that lie above it in either river
pub record Agree (here there : List Card) (i : ℕ) : Type 0 where
  pub own : SameCard here there i
  pub above_here : (j : ℕ) → LiesAbove here j i → SameCard here there j
  pub above_there : (j : ℕ) → LiesAbove there j i → SameCard here there j
