-- Jobs, and what making and running them promises.
-- Assumes nothing.
use Rattle.std.specs.Prelude.{◌≡◌, ℕ, ◌+◌, ◌≤◌, Bool, false, List, Ok, Err, Result}
use Rattle.arith.specs.declared.flags.Flags.{Flags}
use Rattle.console.specs.Streams.{Con}
use Rattle.machine.specs.Steps.{Life, live, over, State, living}
use Rattle.machine.specs.Tryings.{Kept}
use Rattle.machine.specs.Cores.{core_of}
use Rattle.machine.specs.Parts.{Parts}
use Rattle.machine.specs.declared.ending.Ending.{Ending}
use Rattle.machine.specs.declared.ending.Ending.TheVariants.{Halt, Trap, Fault}
use Rattle.job.specs.Refusals.{number}
use Rattle.job.specs.Runs.{Runs, StopsShort, OnlyOutcome}
use Rattle.job.specs.declared.Stop.{Stop}
use Rattle.job.specs.declared.Stop.TheVariants as stop
use Rattle.job.specs.declared.Reason.{Reason}
use Rattle.job.specs.declared.Reason.TheVariants as reason
use Rattle.job.specs.declared.Numbers.{Numbers}
use Rattle.job.specs.declared.Paused.{Paused}
use Rattle.job.specs.declared.Outcome.{Outcome}
use Rattle.job.specs.declared.Outcome.TheVariants as outcome
use Rattle.job.specs.declared.Ran.{Ran}
use Rattle.job.specs.declared.Refused.{Refused}

abbrev pub no_flags : Flags
no_flags = record { zero = false; carry = false; overflow = false; sign = false }

abbrev pub first_job : Paused
first_job = record { at = record { place = 0; flags = no_flags; count = 0 } }

-- a halt and a trap are steps, a fault is none: it is told of a machine that still lives
abbrev pub halted_by : Ending → Life
halted_by (Halt n) = over (Halt n)
halted_by (Trap x y z) = over (Trap x y z)
halted_by (Fault f) = live

abbrev pub stop_of : Reason → Stop
stop_of reason.Spent = stop.Spent
stop_of reason.Waiting = stop.Waiting
stop_of reason.Full = stop.Full

abbrev pub paused_at : Numbers → Reason → Outcome
paused_at numbers why = outcome.Paused (record { at = numbers }) why

abbrev pub ended_at : Numbers → Ending → Outcome
ended_at numbers ending = outcome.Ended (record { last = numbers; ending = ending })

-- the state of a job over its registers, cells and console
abbrev pub state_of_paused : Paused → List ℕ → List ℕ → Con → State
state_of_paused p regs cells k = living (core_of regs p.at.flags p.at.place cells) k

abbrev pub state_of : Outcome → List ℕ → List ℕ → Con → State
state_of (outcome.Paused p r) regs cells k = state_of_paused p regs cells k
state_of (outcome.Ended d) regs cells k = record { core = core_of regs d.last.flags d.last.place cells; con = k; halted = halted_by d.ending }

abbrev pub why_of : Outcome → Stop
why_of (outcome.Paused p r) = stop_of r
why_of (outcome.Ended d) = stop.Finished d.ending

abbrev pub count_of : Outcome → ℕ
count_of (outcome.Paused p r) = p.at.count
count_of (outcome.Ended d) = d.last.count

-- the limits on a run: 10 ^ 9 steps for one run, 10 ^ 12 for a job
abbrev pub Allowed : ℕ → ℕ → Type 0
Allowed budget count = (budget ≤ 1000000000) × (count + budget ≤ 1000000000000)

-- what an accepted run of a job p at the state s promises: regs, cells and k are what it leaves
pub record Accepted (marks : List Bool) (p : Paused) (s : State) (budget : ℕ) (regs cells : List ℕ) (k : Con) (r : Ran) : Type 0 where
  pub allowed : Allowed budget p.at.count
  pub runs : Runs marks budget s (state_of r.outcome regs cells k) r.steps (why_of r.outcome)
  pub short : StopsShort marks budget s (state_of r.outcome regs cells k) r.steps (why_of r.outcome)
  pub only : OnlyOutcome marks budget s (state_of r.outcome regs cells k) r.steps (why_of r.outcome)
  pub counted : count_of r.outcome ≡ p.at.count + r.steps

-- a run beyond the limits is refused with 1, hands the job back and changes nothing
pub record TurnedDown (p : Paused) (s : State) (budget : ℕ) (regs cells : List ℕ) (k : Con) (r : Refused) : Type 0 where
  pub too_much : Allowed budget p.at.count → ⊥
  pub told : number r.refusal ≡ 1
  pub back : r.job ≡ p
  pub kept : Kept s regs cells k

-- what a run of a job p on a machine with the parts s promises: t are the parts that it leaves
abbrev pub RunSo : Paused → Parts → ℕ → Parts → Result Ran Refused → Type 0
RunSo p s budget t (Ok r) = Accepted s.marks p (state_of_paused p s.regs s.cells s.con) budget t.regs t.cells t.con r
RunSo p s budget t (Err r) = TurnedDown p (state_of_paused p s.regs s.cells s.con) budget t.regs t.cells t.con r
