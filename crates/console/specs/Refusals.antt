-- The number of each refusal.
-- Assumes nothing.
use Rattle.std.specs.Prelude.{ℕ, Ok, Err, Result}
use Rattle.console.specs.declared.Refusal.{Refusal}
use Rattle.console.specs.declared.Refusal.TheVariants.{Closed, NoSpace, TooLong}

abbrev pub number : Refusal → ℕ
number Closed = 2
number NoSpace = 3
number TooLong = 4

-- an answer with its refusal as a number
abbrev pub numbered : Result Unit Refusal → Result Unit ℕ
numbered (Ok x) = Ok tt
numbered (Err e) = Err (number e)
