-- What every store keeps to.
-- Assumes nothing.
use Rattle.std.specs.Prelude.{◌≡◌, ℕ, ◌+◌, ◌*◌, ◌%◌, ◌^◌, ◌<◌, ◌≤◌, Bool, false, ◌⊎◌, List, length, Ok, Err, Result, slice_index, slice_index_or}
use Rattle.arith.specs.declared.width.Extension.{Extension}
use Rattle.arith.specs.declared.width.Width.{Width}
use Rattle.arith.specs.Widths.{bytes_of}
use Rattle.access.specs.declared.fault.AccessFault.{AccessFault}
use Rattle.access.specs.Transfers.{loaded}

-- of the cells before and after a store of a value, and its answer
pub record Stores (marks : List Bool) (before after : List ℕ) (at : ℕ) (width : Width) (value : ℕ) (answer : Result Unit AccessFault) : Type 0 where
  -- once it is accepted, a load of the same cells gives the low bytes of the value
  pub loads : answer ≡ Ok tt → loaded after at width Extension.Zero ≡ Ok (value % 2 ^ (8 * bytes_of width))
  -- the other cells stay
  pub others : (k : ℕ) → (k < at) ⊎ (at + bytes_of width ≤ k) → slice_index after k ≡ slice_index before k
  -- once it is refused, all stay
  pub refused : (fault : AccessFault) → answer ≡ Err fault → after ≡ before
  -- a shut cell always stays
  pub shut : (k : ℕ) → slice_index_or marks k false ≡ false → slice_index after k ≡ slice_index before k
  -- and there are as many
  pub size : length after ≡ length before
