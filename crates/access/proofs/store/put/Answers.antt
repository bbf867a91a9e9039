use Rattle.std.proofs.Common.{◌∙◌, arith}
use Rattle.arith.specs.Widths.{bytes_of}
use Rattle.access.proofs.Puts.{put_next}
use Rattle.access.proofs.store.put.Goals as goal

pub loop-k-preserved : goal.loop-k-preserved
loop-k-preserved g c =
    let k = c.loop-k.k in
    let kept = c.loop-k.invariant.0 in
    let memory = c.loop-k.memory in
    let marked = g.M.Memory.marked memory in
    let put = rw c.from.ensures at c.write.ensures.after in
    let next = put_next _ (g.M.Memory.marks memory) (g.M.Memory.cells memory) c.args.at (bytes_of c.args.width) k c.loop-k.rest kept.0 marked c.requires.room c.requires.«open» (omega arith) (omega arith) in (
      (c.write.ensures.kept.0 ∙ kept.0, c.write.ensures.kept.1 ∙ kept.1),
      rw (put, next) c.loop-k.invariant.1,
    )
