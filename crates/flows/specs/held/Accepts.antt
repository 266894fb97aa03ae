-- What acceptance of a river file yields to the program.
use Rattle.std.specs.Prelude.{◌≡◌, Result, IfOk, List, ℕ, length}
use Rattle.river.specs.declared.refusal.Refusal.{Refusal}
use Rattle.flows.specs.declared.accept.Acceptance.{Acceptance}
use Rattle.river.specs.Card.{Lawful, card_list}
use Rattle.flows.specs.Flow.{Flows}
use Rattle.flows.specs.held.FlowTable.{Tabled}
use Rattle.river.specs.Refusal.{accepted, after}
use Rattle.flows.specs.Accept.{accept_file}

-- an accepted river: its cards are lawful, too, with the rates in force, and pass the flow rules, and the table is theirs
pub record IsAccepted (a : Acceptance) : Type 0 where
  pub lawful : Lawful (card_list a.effective)
  pub sound : Flows (card_list a.effective)
  pub tabled : Tabled (card_list a.effective) (length (card_list a.effective)) a.flows

-- the answer of reading and flow check
pub record Accepts (file : List ℕ) (r : Result Acceptance Refusal) : Type 0 where
  pub answer : after r (λ a. accepted (card_list a.effective)) ≡ accept_file file
  pub sound : IfOk r IsAccepted
