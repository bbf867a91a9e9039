use Rattle.std.proofs.Common.{arith}
use Rattle.calls.proofs.Makes.{took_so}
use Rattle.calls.proofs.Takings.take.Goals as goal

pub returns-clause-taken : goal.returns-clause-taken
returns-clause-taken g c =
    took_so _ _ c.args.most c.min-room.result _ _ _ _ _ c.requires c.min-room.ensures (omega arith)
    c.take-moved.ensures.answer c.take-moved.ensures.after c.take-moved.ensures.moved
