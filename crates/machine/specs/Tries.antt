-- One try of the instruction at the core's place.
-- Assumes nothing.
use Rattle.std.specs.Prelude.{ℕ, ◌/◌, ◌%◌, Bool, List, [], ◌∷◌, Some, None, Ok, Err, Option, Result}
use Rattle.isa.specs.declared.instruction.Instruction.{Instruction}
use Rattle.isa.specs.Words.{decoded}
use Rattle.access.specs.declared.fault.AccessFault.{AccessFault}
use Rattle.access.specs.Transfers.{fetched}
use Rattle.machine.specs.declared.fault.Cause.{Cause}
use Rattle.machine.specs.declared.fault.Fault.{Fault}
use Rattle.machine.specs.Cores.{Core, Act, faults}
use Rattle.machine.specs.Effects.{effect}
use Rattle.machine.specs.Faults.{fault_at}

-- the four bytes of a word, highest first: OP, X, Y and Z
abbrev pub bytes_in : ℕ → List ℕ
bytes_in w = w / 16777216 % 256 ∷ w / 65536 % 256 ∷ w / 256 % 256 ∷ w % 256 ∷ []

-- the word that is fetched at a place, or the fault there: a place that is not a multiple of 4 is 101, then one without
-- four cells 102
abbrev pub word_at : ℕ → Result ℕ AccessFault → Result ℕ Fault
word_at place (Ok w) = Ok w
word_at place (Err fault) = Err (fault_at (Cause.Access fault) place 0)

-- the instruction of a word; a word that is not legal is 103
abbrev pub legal : ℕ → ℕ → Option Instruction → Result Instruction Fault
legal place w (Some i) = Ok i
legal place w None = Err (fault_at Cause.Illegal place w)

abbrev pub executed : List Bool → Core → ℕ → Result Instruction Fault → Act
executed marks c w (Ok i) = effect marks c w i
executed marks c w (Err fault) = faults fault

abbrev pub with_word : List Bool → Core → Result ℕ Fault → Act
with_word marks c (Ok w) = executed marks c w (legal c.place w (decoded (bytes_in w)))
with_word marks c (Err fault) = faults fault

unfoldable pub try : List Bool → Core → Act
try marks c = with_word marks c (word_at c.place (fetched c.cells c.place))
