use Rattle.std.proofs.Common.{refl}
use Rattle.calls.specs.Calls.{passed_over}
use Rattle.calls.proofs.Makes.{ran_so, refused_so}
use Rattle.calls.proofs.Job.run.Goals as goal

pub returns-in-Paused-outcome-clause-ran : goal.returns-in-Paused-outcome-clause-ran
returns-in-Paused-outcome-clause-ran g c taken room =
    rw c.in-Paused.is (ran_so _ _ _ _ _ _ _ _ _ _ _ _ _ c.in-Ok.ensures.ran c.in-Paused-outcome.is (cc) taken room)

pub returns-in-Ended-outcome-clause-ran : goal.returns-in-Ended-outcome-clause-ran
returns-in-Ended-outcome-clause-ran g c taken room =
    rw c.in-Paused.is (ran_so _ _ _ _ _ _ _ _ _ _ _ _ _ c.in-Ok.ensures.ran c.in-Ended-outcome.is (cc) taken room)

pub returns-in-Err-clause-ran : goal.returns-in-Err-clause-ran
returns-in-Err-clause-ran g c taken room = rw c.in-Paused.is (refused_so _ _ _ _ _ _ _ _ _ _ c.in-Err.ensures.ran taken room)

pub returns-in-Ended-clause-ran : goal.returns-in-Ended-clause-ran
returns-in-Ended-clause-ran g c taken room = rw c.in-Ended.is (passed_over _ refl refl)
