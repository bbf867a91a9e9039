use Rattle.std.proofs.Common.{arith}
use Rattle.ring.proofs.Turns.{wrote}
use Rattle.ring.proofs.write_around.Goals as goal

pub returns : goal.returns
returns c =
    let cut = c.split_at_mut-low in
    rw (c.copy_from_slice.ensures.after, c.copy_from_slice-2.ensures.after, c.split_at.ensures.front, c.split_at.ensures.back, ← cut.ensures.front, ← cut.ensures.back, ← cut.ensures.front_len) (wrote cut.result.0.now cut.result.1.now c.args.more.now c.min.result c.min.ensures (omega arith))
