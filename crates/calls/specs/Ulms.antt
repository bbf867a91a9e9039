-- The ideal machine: it is given its whole input at once, and its output has no limit.
-- Assumes nothing.
use Rattle.std.specs.Prelude.{◌≡◌, ℕ, suc, Bool, true, false, List, [], ◌∷◌, ◌++◌, replicate}
use Rattle.machine.specs.Cores.{Core, Heard, found, no_more, Act, moves, gets, puts, halts, traps, faults}
use Rattle.machine.specs.Tries.{try}
use Rattle.machine.specs.Steps.{Life, live, over}
use Rattle.job.specs.Jobs.{no_flags}
use Rattle.machine.specs.declared.fault.Fault as fault
use Rattle.machine.specs.declared.ending.Ending.{Ending}
use Rattle.machine.specs.declared.ending.Ending.TheVariants.{Halt, Trap, Fault}

-- its core, the rest of its input, its output so far, and whether it has ended
pub record Ulm : Type 0 where
  pub core : Core
  pub rest : List ℕ
  pub out : List ℕ
  pub halted : Life

-- what its next try comes to: a step, a getc that finds nothing yet, a fault; an ended one is done
pub data Turn : Type 0 where
  turns : Ulm → Turn
  still : Turn
  breaks : fault.Fault → Turn
  done : Turn

abbrev pub ulm_at : Core → List ℕ → List ℕ → Life → Ulm
ulm_at c r o l = record { core = c; rest = r; out = o; halted = l }

-- a getc takes the next byte of the whole input; after the last it finds the end of a closed input, and stands still at an open one
abbrev pub turn_get : (Heard → Core) → List ℕ → Bool → List ℕ → Turn
turn_get f (b ∷ bs) closed out = turns (ulm_at (f (found b)) bs out live)
turn_get f [] true out = turns (ulm_at (f no_more) [] out live)
turn_get f [] false out = still

-- a putc is never full
abbrev pub turn_of : Bool → Act → Core → List ℕ → List ℕ → Turn
turn_of closed (moves d) c rest out = turns (ulm_at d rest out live)
turn_of closed (gets f) c rest out = turn_get f rest closed out
turn_of closed (puts b d) c rest out = turns (ulm_at d rest (out ++ b ∷ []) live)
turn_of closed (halts n) c rest out = turns (ulm_at c rest out (over (Halt n)))
turn_of closed (traps x y z) c rest out = turns (ulm_at c rest out (over (Trap x y z)))
turn_of closed (faults f) c rest out = breaks f

abbrev pub turn_if : Life → Bool → Act → Core → List ℕ → List ℕ → Turn
turn_if live closed a c rest out = turn_of closed a c rest out
turn_if (over e) closed a c rest out = done

abbrev pub turn : List Bool → Bool → Ulm → Turn
turn marks closed u = turn_if u.halted closed (try marks u.core) u.core u.rest u.out

-- exactly so many steps of the ideal machine
pub data Goes (marks : List Bool) (closed : Bool) : Ulm → ℕ → Ulm → Type 0 where
  at_rest : {u : Ulm} → Goes marks closed u 0 u
  on : {u m v : Ulm} {n : ℕ} → turn marks closed u ≡ turns m → Goes marks closed m n v → Goes marks closed u (suc n) v

-- the ending at which the ideal machine stands: its last step was a halt or a trap, or its next try is a fault
abbrev pub StandsAt : List Bool → Bool → Ulm → Ending → Type 0
StandsAt marks closed u (Halt n) = u.halted ≡ over (Halt n)
StandsAt marks closed u (Trap x y z) = u.halted ≡ over (Trap x y z)
StandsAt marks closed u (Fault f) = turn marks closed u ≡ breaks f

abbrev pub first_core : List ℕ → Core
first_core cells = record { regs = replicate 256 0; flags = no_flags; place = 0; cells = cells }

abbrev pub first_ulm : List ℕ → List ℕ → Ulm
first_ulm cells input = ulm_at (first_core cells) input [] live
