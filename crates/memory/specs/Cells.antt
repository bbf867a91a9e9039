-- What the cells and marks of a memory say of a read and a write, and the lists of two memories as one.
-- Assumes nothing.
use Rattle.std.specs.Prelude.{ℕ, Bool, false, cond, List, ◌++◌, length, take, Ok, Err, Result, nat_lt, slice_index, slice_index_or, slice_set}
use Rattle.memory.specs.declared.cells.CellFault.{CellFault}
use Rattle.memory.specs.declared.cells.CellFault.TheVariants.{Outside, Shut}

-- what a read at an address gives
abbrev pub read_at : List ℕ → ℕ → Result ℕ CellFault
read_at cells at = cond (nat_lt at (length cells)) (Ok (slice_index cells at)) (Err Outside)

-- what a write at an address gives
abbrev pub write_says : List Bool → ℕ → Result Unit CellFault
write_says marks at = cond (nat_lt at (length marks)) (cond (slice_index_or marks at false) (Ok tt) (Err Shut)) (Err Outside)

-- the cells after a write of a byte at an address
abbrev pub after_write : List Bool → List ℕ → ℕ → ℕ → List ℕ
after_write marks cells at byte = cond (slice_index_or marks at false) (slice_set cells at byte) cells

-- one list after another, cut after the most cells that a memory has
abbrev pub join : {X : Type 0} → List X → List X → List X
join first second = take 65536 (first ++ second)
