use Rattle.std.proofs.Common.{◌+◌, length-set, set, sym, ap, ◌∙◌, arith}
use Rattle.std.proofs.lemmas.Bool.Decides.{nat_tests}
use Rattle.ring.proofs.Turns.{held, length-ring, ring-push, sized, told}
use Rattle.ring.proofs.Ring.push.Goals as goal

pub returns-then-self-size : goal.returns-then-self-size
returns-then-self-size c = let r = c.self.inside in grind (arith, nat_tests, ap (λ q. q.room) c.self.view_is, held r.bytes.now r.start r.len c.args.self.now c.self.view_is c.self.invariant.1)

pub returns : goal.returns
returns c =
    let r = c.self.inside in
    let count = length-ring r.bytes.now r.start r.len c.self.invariant.1 in
    let more = ring-push r.bytes.now r.start r.len c.place-at.result c.args.byte c.self.invariant.0 c.if-self-size.false c.place-at.ensures.value in
    let now = told r.bytes.now (set r.bytes.now c.place-at.result c.args.byte) r.start r.len r.start (r.len + 1) _ (length-set r.bytes.now c.place-at.result c.args.byte) c.self.invariant.1 (omega arith) more in
    let bytes = set r.bytes.now c.place-at.result c.args.byte in
    let as_large = length-set r.bytes.now c.place-at.result c.args.byte in
    rw (← c.self.view_is) (record {
      answer = grind (arith, nat_tests, count);
      after = now ∙ grind (arith, nat_tests, count);
      size = sized bytes r.start (r.len + 1) (omega (arith, as_large)) ∙ as_large ∙ sym (sized r.bytes.now r.start r.len c.self.invariant.1);
    })
