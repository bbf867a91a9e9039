-- The job at its console: what so many steps lead to, and what a run promises.
-- Assumes nothing.
use Rattle.std.specs.Prelude.{◌≡◌, ℕ, suc, ◌<◌, ◌≤◌, Bool, false, List, [], length}
use Rattle.machine.specs.Cores.{Core, Heard, gets, puts, faults}
use Rattle.machine.specs.Tries.{try}
use Rattle.machine.specs.Steps.{live, over, State, goes, next}
use Rattle.machine.specs.declared.fault.Fault as fault
use Rattle.machine.specs.declared.ending.Ending.{Ending}
use Rattle.machine.specs.declared.ending.Ending.TheVariants.{Halt, Trap, Fault}
use Rattle.job.specs.declared.Stop.{Stop}
use Rattle.job.specs.declared.Stop.TheVariants.{Spent, Waiting, Full, Finished}

-- exactly so many steps lead from one state to another
pub data Reaches (marks : List Bool) : State → ℕ → State → Type 0 where
  here : {s : State} → Reaches marks s 0 s
  step : {s m t : State} {n : ℕ} → next marks s ≡ goes m → Reaches marks m n t → Reaches marks s (suc n) t

-- the try at a state wants a byte, and none waits on an input that is still open
pub record LacksByte (marks : List Bool) (s : State) : Type 0 where
  pub live_yet : s.halted ≡ live
  pub goes_on : Heard → Core
  pub getc : try marks s.core ≡ gets goes_on
  pub empty : s.con.waiting ≡ []
  pub open_yet : s.con.closed ≡ false

-- the try at a state wants to put a byte out, and as many are held as may be
pub record LacksSpace (marks : List Bool) (s : State) : Type 0 where
  pub live_yet : s.halted ≡ live
  pub byte : ℕ
  pub goes_on : Core
  pub putc : try marks s.core ≡ puts byte goes_on
  pub held_up : s.con.out_limit ≤ length s.con.held

-- the try at a state is a fault
pub record FaultsWith (marks : List Bool) (s : State) (f : fault.Fault) : Type 0 where
  pub live_yet : s.halted ≡ live
  pub faulty : try marks s.core ≡ faults f

-- the job has ended: its last step was that halt or that trap, or its next try is that fault
abbrev pub EndedWith : List Bool → State → Ending → Type 0
EndedWith marks s (Halt n) = s.halted ≡ over (Halt n)
EndedWith marks s (Trap x y z) = s.halted ≡ over (Trap x y z)
EndedWith marks s (Fault f) = FaultsWith marks s f

-- the three reasons to stop at a state whatever the budget, and which of them it is
abbrev pub Stuck : List Bool → State → Stop → Type 0
Stuck marks s Spent = ⊥
Stuck marks s Waiting = LacksByte marks s
Stuck marks s Full = LacksSpace marks s
Stuck marks s (Finished e) = EndedWith marks s e

-- a halt and a trap are a step of the run, a fault is a try for which there has to be budget
abbrev pub EndedWithin : ℕ → ℕ → Ending → Type 0
EndedWithin budget steps (Halt n) = (1 ≤ steps) × (steps ≤ budget)
EndedWithin budget steps (Trap x y z) = (1 ≤ steps) × (steps ≤ budget)
EndedWithin budget steps (Fault f) = steps < budget

-- why a run stopped where it did
abbrev pub Stopped : List Bool → ℕ → ℕ → State → Stop → Type 0
Stopped marks budget steps s Spent = (steps ≡ budget) × (s.halted ≡ live)
Stopped marks budget steps s Waiting = (steps < budget) × LacksByte marks s
Stopped marks budget steps s Full = (steps < budget) × LacksSpace marks s
Stopped marks budget steps s (Finished e) = EndedWithin budget steps e × EndedWith marks s e

-- what a run does: never more steps than the budget, exactly these steps, and why no more
pub record Runs (marks : List Bool) (budget : ℕ) (before after : State) (steps : ℕ) (why : Stop) : Type 0 where
  pub within : steps ≤ budget
  pub reached : Reaches marks before steps after
  pub because : Stopped marks budget steps after why

-- a run stops short of its budget exactly if one of the three reasons is met with budget left, and says which
pub record StopsShort (marks : List Bool) (budget : ℕ) (before after : State) (steps : ℕ) (why : Stop) : Type 0 where
  pub only_then : steps < budget → Stuck marks after why
  pub whenever : (n : ℕ) (t : State) (reason : Stop) → n < budget → Reaches marks before n t → Stuck marks t reason →
      (steps ≡ n) × (after ≡ t) × (why ≡ reason)

-- a run has no other outcome
abbrev pub OnlyOutcome : List Bool → ℕ → State → State → ℕ → Stop → Type 0
OnlyOutcome marks budget before after steps why =
    (t : State) (n : ℕ) (reason : Stop) → Runs marks budget before t n reason → (steps ≡ n) × (after ≡ t) × (why ≡ reason)
