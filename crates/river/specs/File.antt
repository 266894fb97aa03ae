-- Reading of a whole file by the program: what it yields.
use Rattle.std.specs.Prelude.{◌≡◌, Result, List, ℕ, ◌≤◌, IfOk}
use Rattle.river.specs.declared.refusal.Refusal.{Refusal}
use Rattle.river.specs.declared.file.Reading.{Reading}
use Rattle.river.specs.Card.{card_list}
use Rattle.river.specs.River.{River, river_of, LawfulRiver}
use Rattle.river.specs.Refusal.{Answer, accepted, after}
use Rattle.river.specs.Read.{read_file}
use Rattle.river.specs.Write.{encode}

-- the river that a reading of the program has, and the answer that it stands for
abbrev pub river_read : Reading → River
river_read r = river_of r.factors (card_list r.cards)

abbrev pub answer_of : Result Reading Refusal → Answer River
answer_of r = after r (λ reading. accepted (river_read reading))

-- a reading yields an answer: the river, or a refusal and no card
pub record Yields (a : Answer River) (r : Result Reading Refusal) : Type 0 where
  pub answer : answer_of r ≡ a
  pub few : IfOk r (λ reading. reading.cards.count ≤ 128)

-- the reading of a file
abbrev pub Reads : List ℕ → Result Reading Refusal → Type 0
Reads file r = Yields (read_file file) r

-- what reading accepts: a lawful river, from its file
pub record IsFile (s : List ℕ) (r : River) : Type 0 where
  pub lawful : LawfulRiver r
  pub bytes : s ≡ encode r
