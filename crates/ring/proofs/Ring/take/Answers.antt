use Rattle.std.proofs.Common.{◌-◌, ◌≤◌, refl, sym, ap, ◌∙◌, arith}
use Rattle.ring.specs.Queues.{size}
use Rattle.ring.proofs.Turns.{held, ring-drop, sized, told}
use Rattle.ring.proofs.Ring.take.Goals as goal

pub place-self-inside-requires-clause-offset : goal.place-self-inside-requires-clause-offset
place-self-inside-requires-clause-offset c = let r = c.self.inside in omega (arith, held r.bytes.now r.start r.len c.args.self.now c.self.view_is c.self.invariant.1)

pub overflow_sub-self : goal.overflow_sub-self
overflow_sub-self c = let r = c.self.inside in omega (arith, held r.bytes.now r.start r.len c.args.self.now c.self.view_is c.self.invariant.1)

pub returns-clause-after : goal.returns-clause-after
returns-clause-after c =
    let r = c.self.inside in
    let few : c.peek-count.result ≤ r.len = omega (arith, held r.bytes.now r.start r.len c.args.self.now c.self.view_is c.self.invariant.1) in
    let left = ring-drop r.bytes.now r.start r.len c.peek-count.result c.self.invariant.0 few c.self.invariant.1 in
    rw (← c.self.view_is, c.place-self-inside.ensures.value) (told r.bytes.now r.bytes.now r.start r.len _ (r.len - c.peek-count.result) _ refl c.self.invariant.1 (omega arith) left)

pub returns-clause-size : goal.returns-clause-size
returns-clause-size c =
    let r = c.self.inside in
    sized r.bytes.now _ (r.len - c.peek-count.result) (omega (arith, c.self.invariant.1))
    ∙ sym (sized r.bytes.now r.start r.len c.self.invariant.1)
    ∙ ap size c.self.view_is
