use Rattle.std.proofs.Common.{◌+◌, ◌*◌, sym, ap, ◌∙◌, arith}
use Rattle.access.specs.Transfers.{number_at}
use Rattle.access.proofs.Loads.{more, next_fits, number_next, read_ok}
use Rattle.access.proofs.load.one_by_one.Goals as goal

pub overflow_mul-number : goal.overflow_mul-number
overflow_mul-number g c = record { fits = omega (arith, next_fits c.args.width c.loop-k.number c.loop-k.k 0 c.loop-k.invariant.1 (omega arith) (omega arith)) }

pub overflow_add-number : goal.overflow_add-number
overflow_add-number g c = record { fits = omega (arith, next_fits c.args.width c.loop-k.number c.loop-k.k c.from-in-loop-k.result c.loop-k.invariant.1 (omega arith) (omega arith)) }

pub loop-k-preserved : goal.loop-k-preserved
loop-k-preserved g c =
    let cells = g.M.Memory.cells c.args.memory.now in
    let k = c.loop-k.k in
    let read = read_ok cells (c.args.at + k) c.in_ok-read.field-0 (rw c.from.ensures at c.in_ok-read.ensures) in (
      ap (λ n. n * 256 + c.from-in-loop-k.result) c.loop-k.invariant.0
          ∙ ap (λ b. number_at cells c.args.at k * 256 + b) (c.from-in-loop-k.ensures ∙ read.1)
          ∙ sym (number_next cells c.args.at k read.0),
      more c.loop-k.number k _ c.loop-k.invariant.1 (omega arith),
      λ _. omega (arith, read.0),
    )
