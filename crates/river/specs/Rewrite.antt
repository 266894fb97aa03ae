-- A file that is read and written back, and a river that is written and read back.
use Rattle.std.specs.Prelude.{◌≡◌, ◌↔◌, Result, IsOk, IfOk, List, ◌++◌, ℕ, ◌≤◌, length, drop, leb}
use Rattle.river.specs.declared.refusal.Refusal.{Refusal}
use Rattle.river.specs.declared.file.Reading.{Reading}
use Rattle.river.specs.River.{River}
use Rattle.river.specs.Refusal.{Answer, accepted, refused, need, after}
use Rattle.river.specs.Read.{read_file}
use Rattle.river.specs.File.{river_read, answer_of, IsFile}
use Rattle.river.specs.Write.{encode, write_answer, buffer_written, HasRoom}
use Rattle.river.specs.declared.refusal.Rule.TheVariants.{BufferShort}

-- rewriting refuses as reading, then 12 with reach 0 for a buffer shorter than the file
unfoldable pub rewrite_answer : (file : List ℕ) (room : ℕ) → Answer Unit
rewrite_answer file room = after (read_file file) (λ _. need (leb (length file) room) BufferShort 0 (accepted tt))

-- the buffer afterwards: the file and then what stood there, and as it was after a refusal
unfoldable pub buffer_rewritten : Answer Unit → (file before : List ℕ) → List ℕ
buffer_rewritten (accepted u) file before = file ++ drop (length file) before
buffer_rewritten (refused r) file before = before

-- the file is that of a lawful river, and a buffer of so many bytes can hold it
pub record Rewritable (file : List ℕ) (room : ℕ) : Type 0 where
  pub river : River
  pub is_file : IsFile file river
  pub holds : length file ≤ room

-- a file is read and written back: the answer, when it is accepted, and the whole buffer
pub record WritesBack (file before : List ℕ) (r : Answer Unit) (exit : List ℕ) : Type 0 where
  pub answer : r ≡ rewrite_answer file (length before)
  pub exactly : IsOk r ↔ Rewritable file (length before)
  pub buffer : exit ≡ buffer_rewritten (rewrite_answer file (length before)) file before

-- the answer where a river is written and its file is read: the refusal of writing, or the river itself
abbrev pub river_back : River → ℕ → Answer River
river_back x room = after (write_answer (length x.cards) x room) (λ _. accepted x)

-- a river is written and its file is read: the reading, when it is accepted, the river that it has, and the whole buffer
pub record ReadsBack (x : River) (before : List ℕ) (r : Result Reading Refusal) (exit : List ℕ) : Type 0 where
  pub answer : answer_of r ≡ river_back x (length before)
  pub exactly : IsOk r ↔ HasRoom x (length before) (length (encode x))
  pub same : IfOk r (λ reading. river_read reading ≡ x)
  pub buffer : exit ≡ buffer_written (write_answer (length x.cards) x (length before)) x before
