use Rattle.std.proofs.Common.{◌≡◌, ◌+◌, ◌-◌, ◌≤◌}
use Rattle.machine.specs.Parts.{parts, KeepsParts, state_at}
use Rattle.job.specs.Runs.{Reaches}
use Rattle.job.proofs.Paused.run.Given as goal

abbrev pub invariant-loop-steps : goal.invariant-loop-steps
invariant-loop-steps g l =
    (l.steps ≤ l.budget) ×
    (l.at.count ≡ l.initial.at.count + l.steps) ×
    KeepsParts g.M.Memory.marks g.M.Memory.loans l.initial.machine l.machine ×
    Reaches (g.M.Memory.marks l.initial.machine.memory.now)
    (state_at (parts g.M.Memory.marks g.M.Memory.loans g.M.Memory.cells g.C.Console.view l.initial.machine) l.initial.at.place l.initial.at.flags)
    l.steps
    (state_at (parts g.M.Memory.marks g.M.Memory.loans g.M.Memory.cells g.C.Console.view l.machine) l.at.place l.at.flags)

abbrev pub decreases-loop-steps : goal.decreases-loop-steps
decreases-loop-steps g l = l.budget - l.steps
