use Rattle.std.proofs.Common.{◌≡◌, ◌≤◌, length, take, vec_items, vec_len, vec_capacity}
use Rattle.machine.specs.Parts.{KeepsParts}
use Rattle.calls.specs.Calls.{asks_of}
use Rattle.calls.specs.Posts.{scene_on}
use Rattle.calls.proofs.Chains.{Along}
use Rattle.calls.proofs.perform.Given as goal

abbrev pub invariant-loop-call : goal.invariant-loop-call
invariant-loop-call g l =
    (l.takings.buffer.ghost_name ≡ l.initial.takings.buffer.ghost_name) ×
    KeepsParts g.M.Memory.marks g.M.Memory.loans l.initial.machine l.machine ×
    Along (g.M.Memory.marks l.initial.machine.memory.now) (g.M.Memory.loans l.initial.machine.memory.now) (g.M.Memory.cells l.initial.machine.memory.now) (g.C.Console.view l.initial.machine.console.now) l.initial.takings.buffer.now
    (asks_of (take l.call-index l.calls))
    (scene_on g.M.Memory.marks g.M.Memory.loans g.M.Memory.cells g.C.Console.view l.machine l.takings.buffer.now)
    l.job l.takings.filled (vec_items l.answers) ×
    (vec_len l.answers ≡ l.call-index) ×
    (length l.calls ≤ vec_capacity l.answers)
