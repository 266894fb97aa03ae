-- What acceptance of a river file yields.
use Rattle.std.specs.Prelude.{◌≡◌, List, ℕ}
use Rattle.river.specs.declared.card.Card.{Card}
use Rattle.river.specs.River.{River, LawfulRiver}
use Rattle.flows.specs.Rates.{in_force}
use Rattle.flows.specs.Flow.{Flows, flow_check}
use Rattle.river.specs.Refusal.{Answer, after}
use Rattle.river.specs.Read.{read_file}
use Rattle.river.specs.Write.{encode}

-- a river file that was read without refusal goes on to the flow check of its cards with the rates in force, and these are the answer
unfoldable pub accept_file : List ℕ → Answer (List Card)
accept_file file = after (read_file file) (λ r. flow_check (in_force r))

-- the file of a lawful river whose cards, with the rates in force, pass the flow rules
pub record AcceptedFile (file : List ℕ) (cards : List Card) : Type 0 where
  pub river : River
  pub bytes : file ≡ encode river
  pub lawful : LawfulRiver river
  pub in_force : cards ≡ in_force river
  pub flows : Flows cards
