use Rattle.std.proofs.Common.{◌∙◌, arith, rules}
use Rattle.std.proofs.lemmas.List.{nil_from_length}
use Rattle.ring.proofs.Turns.{held, ring-pop}
use Rattle.ring.proofs.Ring.pop.Goals as goal

pub returns-then-self-eq0 : goal.returns-then-self-eq0
returns-then-self-eq0 c =
    let r = c.self.inside in
    let none = nil_from_length c.args.self.now.items (held r.bytes.now r.start r.len c.args.self.now c.self.view_is c.self.invariant.1 ∙ c.if-self-eq0.true) in
    search (rules, none)

pub returns : goal.returns
returns c =
    let r = c.self.inside in
    rw (← c.self.view_is, c.place-self-inside.ensures.value, ring-pop r.bytes.now r.start r.len c.self.invariant.0 (omega arith) c.self.invariant.1) (search rules)
