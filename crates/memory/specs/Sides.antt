-- Where an address of two memories lies, the second following the first at a border.
-- Assumes nothing.
use Rattle.std.specs.Prelude.{◌≡◌, ℕ, ◌-◌, ◌<◌, ◌≤◌, Ok, Err, Result}
use Rattle.memory.specs.declared.cells.CellFault.{CellFault}
use Rattle.memory.specs.declared.cells.CellFault.TheVariants.{Outside}
use Rattle.memory.specs.declared.joined.side.Side.{Side}
use Rattle.memory.specs.declared.joined.side.Side.TheVariants.{First, Second}

abbrev pub Lies : ℕ → ℕ → Result Side CellFault → Type 0
Lies border at (Ok First) = at < border
Lies border at (Ok (Second place)) = (border ≤ at) × (at < 65536) × (place ≡ at - border)
Lies border at (Err fault) = (65536 ≤ at) × (fault ≡ Outside)
