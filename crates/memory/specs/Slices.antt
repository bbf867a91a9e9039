-- Slices that are lent as memories.
-- Assumes nothing.
use Rattle.std.specs.Prelude.{◌≡◌, ℕ, ◌-◌, Bool, true, false, cond, List, [], ◌++◌, length, drop, replicate, nat_le, slice_index_or, slice_set}
use Rattle.memory.specs.Cells.{join}

-- the cells that a slice makes: one that is too large is taken as empty
abbrev pub lent : List ℕ → List ℕ
lent bytes = cond (nat_le (length bytes) 65536) bytes []

-- the bytes of a slice that are no cells then
abbrev pub left_out : List ℕ → List ℕ
left_out bytes = cond (nat_le (length bytes) 65536) [] bytes

-- What stands behind a memory and never changes: the names of the slices that are lent to be written, and the bytes
-- that are no cells. With the cells it tells a lender what its slice holds.
abbrev pub Loans : Type 0
Loans = List ℕ × List ℕ

-- from before to after, the marks of a memory stay and its loans too
abbrev pub Kept : {M : Type 0} → (M → List Bool) → (M → Loans) → M → M → Type 0
Kept marks loans before after = (marks after ≡ marks before) × (loans after ≡ loans before)

-- the loans of two memories as one, from their cells and loans: what is cut off is no cell any more
abbrev pub joined_loans : List ℕ → List ℕ → Loans → Loans → Loans
joined_loans first second f s = (f.0 ++ s.0, drop 65536 (first ++ second) ++ (f.1 ++ s.1))

-- the marks of the memory that joins fixed cells and a work slice, which is open
abbrev pub work_marks : List ℕ → List ℕ → List Bool
work_marks fixed work = join (replicate (length fixed) false) (replicate (length (lent work)) true)

-- the bytes that are then no cells
abbrev pub beyond : List ℕ → List ℕ → List ℕ
beyond fixed work = drop 65536 (fixed ++ lent work) ++ left_out work

-- what the work slice holds when that memory has these cells
abbrev pub work_of : List ℕ → List ℕ → List ℕ → List ℕ
work_of fixed work cells = drop (length fixed) (cells ++ beyond fixed work)

-- and after a write of a byte at an address of that memory
abbrev pub work_after : List ℕ → List ℕ → ℕ → ℕ → List ℕ
work_after fixed work at byte = cond (slice_index_or (work_marks fixed work) at false) (slice_set work (at - length fixed) byte) work
