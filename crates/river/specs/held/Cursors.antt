-- Bytes put at a cursor.
use Rattle.std.specs.Prelude.{◌≡◌, ◌+◌, ◌≤◌, ℕ, List, length}
use Rattle.river.specs.declared.bytes.Cursor.{Cursor}
use Rattle.river.specs.Bytes.{Put}

-- a cursor's buffer has room for so many bytes more
abbrev pub Room : Cursor → ℕ → Type 0
Room c n = c.at + n ≤ length c.out.now

-- bytes are put at a cursor, which then stands behind them in the same buffer
pub record Puts (before : Cursor) (bytes : List ℕ) (after : Cursor) : Type 0 where
  pub same : after.out.ghost_name ≡ before.out.ghost_name
  pub put : Put before.out.now before.at bytes after.out.now after.at
