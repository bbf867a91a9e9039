use Rattle.std.proofs.Common.{◌≤◌, arith, rules}
use Rattle.std.proofs.lemmas.List.{take-take, length-take-le}
use Rattle.ring.specs.Queues.{ring_list, turned}
use Rattle.ring.proofs.Turns.{length-ring}
use Rattle.ring.proofs.Ring.peek.Goals as goal

pub returns : goal.returns
unfolding ring_list
returns c =
    let r = c.self.inside in
    let few : c.min-count.result ≤ r.len = omega arith in
    let count = length-ring r.bytes.now r.start r.len c.self.invariant.1 in
    let part = length-take-le c.min-count.result c.args.into.now (omega arith) in
    let first = take-take c.min-count.result r.len (turned r.bytes.now r.start) few in
    rw (← c.self.view_is) (record { answer = rw count (search rules); copied = cc (part, first) })
