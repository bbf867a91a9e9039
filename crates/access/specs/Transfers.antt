-- Numbers that lie in several cells, highest byte first: what loads, fetches and stores give.
-- Assumes nothing.
use Rattle.std.specs.Prelude.{ℕ, zero, suc, ◌+◌, ◌/◌, ◌%◌, Bool, true, false, cond, ◌&&◌, List, [], ◌∷◌, ◌++◌, length, take, drop, Ok, Err, Result, ◌==◌, nat_le, slice_index_or}
use Rattle.arith.specs.declared.width.Extension.{Extension}
use Rattle.arith.specs.declared.width.Width.{Width}
use Rattle.arith.specs.Whole.{widened}
use Rattle.arith.specs.Widths.{bytes_of}
use Rattle.memory.specs.declared.cells.CellFault.{CellFault}
use Rattle.access.specs.declared.fault.Access.{Access}
use Rattle.access.specs.declared.fault.AccessFault.{AccessFault}
use Rattle.access.specs.declared.fault.Cause.{Cause}
use Rattle.access.specs.Faults.{told}
use Rattle.std.specs.Int.Digits.{number_from_digits}

-- the number in n cells from an address on: their bytes are its digits in base 256
abbrev pub number_at : List ℕ → ℕ → ℕ → ℕ
number_at cells at n = number_from_digits 256 (take n (drop at cells))

-- what is found in n cells from an address on; faults are tested in this order
abbrev pub found : List ℕ → ℕ → ℕ → Result ℕ Cause
found cells at n =
    cond (at % n == 0)
    (cond (nat_le (at + n) (length cells)) (Ok (number_at cells at n)) (Err (Cause.Cell CellFault.Outside)))
    (Err Cause.Misaligned)

-- the same widened to 64 bits
abbrev pub widely : Extension → Width → Result ℕ Cause → Result ℕ Cause
widely extension width (Ok n) = Ok (widened extension width n)
widely extension width (Err why) = Err why

-- what a load gives
abbrev pub loaded : List ℕ → ℕ → Width → Extension → Result ℕ AccessFault
loaded cells at width extension = told Access.Load at width (widely extension width (found cells at (bytes_of width)))

-- what a fetch gives: the word of an instruction lies in four cells
abbrev pub fetched : List ℕ → ℕ → Result ℕ AccessFault
fetched cells at = told Access.Fetch at Width.Long (found cells at 4)

-- whether each of n cells from an address on may be written
abbrev pub all_open : List Bool → ℕ → ℕ → Bool
all_open marks at zero = true
all_open marks at (suc n) = slice_index_or marks (at + n) false && all_open marks at n

-- whether a number may be stored into n cells; faults are tested in this order, outside over all cells before shut
abbrev pub storable : List Bool → ℕ → ℕ → Result Unit Cause
storable marks at n =
    cond (at % n == 0)
    (cond (nat_le (at + n) (length marks))
    (cond (all_open marks at n) (Ok tt) (Err (Cause.Cell CellFault.Shut)))
    (Err (Cause.Cell CellFault.Outside)))
    (Err Cause.Misaligned)

-- what a store gives
abbrev pub store_says : List Bool → ℕ → Width → Result Unit AccessFault
store_says marks at width = told Access.Store at width (storable marks at (bytes_of width))

-- the low n bytes of a value, highest first
abbrev pub low_bytes : ℕ → ℕ → List ℕ
low_bytes zero value = []
low_bytes (suc n) value = low_bytes n (value / 256) ++ (value % 256 ∷ [])

-- the cells with the low n bytes of a value over those from an address on
abbrev pub over : List ℕ → ℕ → ℕ → ℕ → List ℕ
over cells at n value = take at cells ++ (low_bytes n value ++ drop (at + n) cells)

-- the cells after a store: all n are written, or none
abbrev pub if_done : Result Unit Cause → List ℕ → List ℕ → List ℕ
if_done (Ok _) after before = after
if_done (Err _) after before = before

abbrev pub after_store : List Bool → List ℕ → ℕ → ℕ → ℕ → List ℕ
after_store marks cells at n value = if_done (storable marks at n) (over cells at n value) cells
