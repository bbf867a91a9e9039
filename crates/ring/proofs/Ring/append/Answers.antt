use Rattle.std.proofs.Common.{◌≡◌, ◌+◌, length, sym, ap, ◌∙◌, arith, rules}
use Rattle.std.proofs.lemmas.Bool.Decides.{nat_tests}
use Rattle.ring.proofs.Turns.{held, length-ring, ring-append, sized, told}
use Rattle.ring.proofs.Ring.append.Goals as goal

pub returns-then-more-size : goal.returns-then-more-size
returns-then-more-size c = let r = c.self.inside in grind (arith, nat_tests, ap (λ q. q.room) c.self.view_is, held r.bytes.now r.start r.len c.args.self.now c.self.view_is c.self.invariant.1)

pub returns : goal.returns
returns c =
    let r = c.self.inside in
    let count = length-ring r.bytes.now r.start r.len c.self.invariant.1 in
    let more = ring-append r.bytes.now c.write_around.new.bytes c.args.more.now r.start r.len c.place-at.result (search rules) c.self.invariant.0 (omega arith) c.place-at.ensures.value c.write_around.ensures in
    let now = told r.bytes.now c.write_around.new.bytes r.start r.len r.start (r.len + length c.args.more.now) _ (search rules) c.self.invariant.1 (omega arith) more in
    let as_large : length c.write_around.new.bytes ≡ length r.bytes.now = search rules in
    rw (← c.self.view_is) (record {
      within = omega arith;
      answer = grind (arith, nat_tests, count);
      after = now ∙ grind (arith, nat_tests, count);
      size = sized c.write_around.new.bytes r.start (r.len + length c.args.more.now) (omega (arith, as_large)) ∙ as_large ∙ sym (sized r.bytes.now r.start r.len c.self.invariant.1);
    })
