-- The machine at its console: what one try comes to.
-- Assumes nothing.
use Rattle.std.specs.Prelude.{ℕ, Bool, true, false, cond, List, [], ◌∷◌, ◌++◌}
use Rattle.console.specs.Streams.{Con, with_waiting, with_held, has_room}
use Rattle.machine.specs.declared.ending.Ending.{Ending}
use Rattle.machine.specs.declared.fault.Fault.{Fault}
use Rattle.machine.specs.Cores.{Core, Heard, found, no_more, Act, moves, gets, puts, halts, traps, faults}
use Rattle.machine.specs.Tries.{try}

-- whether a machine has ended, and how
pub data Life : Type 0 where
  live : Life
  over : Ending → Life

pub record State : Type 0 where
  pub core : Core
  pub con : Con
  pub halted : Life

-- what a try comes to: a step, a getc that waits, a putc that finds no room, a fault; an ended machine stands
pub data Next : Type 0 where
  goes : State → Next
  waits : Next
  full : Next
  fails : Fault → Next
  stands : Next

abbrev pub living : Core → Con → State
living c k = record { core = c; con = k; halted = live }

abbrev pub stopped_with : Core → Con → Ending → State
stopped_with c k e = record { core = c; con = k; halted = over e }

-- a getc takes the first byte that waits; with none, it hears the end of a closed input and waits at an open one
abbrev pub next_get : (Heard → Core) → Con → List ℕ → Bool → Next
next_get f k (b ∷ bs) closed = goes (living (f (found b)) (with_waiting k bs))
next_get f k [] true = goes (living (f no_more) k)
next_get f k [] false = waits

abbrev pub next_of : Act → Core → Con → Next
next_of (moves d) c k = goes (living d k)
next_of (gets f) c k = next_get f k k.waiting k.closed
next_of (puts b d) c k = cond (has_room k) (goes (living d (with_held k (k.held ++ b ∷ [])))) full
next_of (halts n) c k = goes (stopped_with c k (Ending.Halt n))
next_of (traps x y z) c k = goes (stopped_with c k (Ending.Trap x y z))
next_of (faults f) c k = fails f

abbrev pub next_if : Life → Act → Core → Con → Next
next_if live a c k = next_of a c k
next_if (over e) a c k = stands

abbrev pub next : List Bool → State → Next
next marks s = next_if s.halted (try marks s.core) s.core s.con
