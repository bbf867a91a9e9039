use Rattle.std.proofs.Common.{◌<◌, vec_len, vec_capacity, refl, ap, ◌∙◌, arith, rules}
use Rattle.calls.specs.Posts.{scene_on}
use Rattle.calls.proofs.Chains.{begun, turned, ended}
use Rattle.calls.proofs.perform.Goals as goal

pub loop-call-init : goal.loop-call-init
loop-call-init g c = (
  refl,
  search rules,
  begun _ _ _ _ _ c.args.calls.now _ _ _ c.new.ensures.cleared c.new.ensures.job c.in_ok-answers.ensures.items,
  c.in_ok-answers.ensures.len,
  c.in_ok-answers.ensures.capacity,
)

pub loop-call-preserved : goal.loop-call-preserved
loop-call-preserved g c =
    let room : vec_len c.loop-call.answers < vec_capacity c.loop-call.answers = omega (arith, c.loop-call.invariant.3, c.loop-call.invariant.4, c.loop-call-test.true) in
    let done = rw (c.push.ensures.succeeds room) at c.push.ensures.items in (
      c.make-next.ensures.lent ∙ c.loop-call.invariant.0,
      search rules,
      turned _ _ _ _ c.loop-call-test.true c.loop-call.invariant.2 c.make-next.ensures.made done,
      search rules,
      omega (arith, c.loop-call.invariant.4, c.push.ensures.capacity),
    )

pub returns-clause-performed : goal.returns-clause-performed
returns-clause-performed g c =
    ended _ _ _ _ c.loop-call.call-index _
    (ap (scene_on g.M.Memory.marks g.M.Memory.loans g.M.Memory.cells g.C.Console.view c.loop-call.machine) (search rules))
    (omega (arith, c.loop-call-test.false)) c.loop-call.invariant.2
