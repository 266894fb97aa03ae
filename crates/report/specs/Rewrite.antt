-- Rewriting of a river file, with which a collection of files is checked: what a call of the entry returns and leaves in the buffer.
use Rattle.std.specs.Prelude.{List, ◌++◌, ℕ, length, drop}
use Rattle.river.specs.Rewrite.{rewrite_answer, Rewritable}
use Rattle.report.specs.Call.{Called}

-- the buffer with a file: the file's bytes and then what stood there
abbrev pub file_written : (file before : List ℕ) → List ℕ
file_written file before = file ++ drop (length file) before

-- a call on a file, with the buffer before and after, that returns the result: it is 0 exactly where the file is that of a lawful river and the
-- buffer can hold it
abbrev pub Rewrites : (file before after : List ℕ) (result : ℕ) → Type 0
Rewrites file before after result = Called (rewrite_answer file (length before)) (λ _. file_written file) (Rewritable file (length before)) before after result
