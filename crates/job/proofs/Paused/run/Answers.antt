use Rattle.std.proofs.Common.{refl, arith, rules}
use Rattle.job.specs.Runs.{here}
use Rattle.job.proofs.Turns.{one_more, ended, waited, filled_up, failed}
use Rattle.job.proofs.Outcomes.{accepted}
use Rattle.job.proofs.Paused.run.Goals as goal

pub loop-steps-init : goal.loop-steps-init
loop-steps-init g c = (omega arith, omega arith, record { same_bank = refl; same_memory = refl; same_console = refl; kept = (refl, refl) }, here)

pub loop-steps-preserved : goal.loop-steps-preserved
loop-steps-preserved g c = (
  omega arith,
  omega (arith, c.loop-steps.invariant.1),
  search rules,
  one_more c.loop-steps.invariant.2.kept.0 c.loop-steps.invariant.3 (rw c.in-Ok-Went.field-0-is at c.in-Ok-Went.ensures.tried),
)

pub returns-in-Ok-Halts-clause-ran : goal.returns-in-Ok-Halts-clause-ran
returns-in-Ok-Halts-clause-ran g c =
    accepted c.ended-outcome.ensures refl (search rules)
    (ended c.loop-steps.invariant.2.kept.0 c.loop-steps.invariant.3 _ c.if-steps-budget.false _ _ _ _ (rw c.in-Ok-Halts.field-0-is at c.in-Ok-Halts.ensures.tried) ((omega arith, omega arith), refl))
    (omega (arith, c.loop-steps.invariant.1))

pub returns-in-Ok-Traps-clause-ran : goal.returns-in-Ok-Traps-clause-ran
returns-in-Ok-Traps-clause-ran g c =
    accepted c.ended-outcome-in-Ok-Traps.ensures refl (search rules)
    (ended c.loop-steps.invariant.2.kept.0 c.loop-steps.invariant.3 _ c.if-steps-budget.false _ _ _ _ (rw c.in-Ok-Traps.field-0-is at c.in-Ok-Traps.ensures.tried) ((omega arith, omega arith), refl))
    (omega (arith, c.loop-steps.invariant.1))

pub returns-in-Ok-Waits-clause-ran : goal.returns-in-Ok-Waits-clause-ran
returns-in-Ok-Waits-clause-ran g c =
    accepted c.paused-outcome-in-Ok-Waits.ensures refl (search rules)
    (waited c.loop-steps.invariant.2.kept.0 c.loop-steps.invariant.3 _ c.if-steps-budget.false _ _ _ (rw c.in-Ok-Waits.field-0-is at c.in-Ok-Waits.ensures.tried))
    c.loop-steps.invariant.1

pub returns-in-Ok-Full-clause-ran : goal.returns-in-Ok-Full-clause-ran
returns-in-Ok-Full-clause-ran g c =
    accepted c.paused-outcome-in-Ok-Full.ensures refl (search rules)
    (filled_up c.loop-steps.invariant.2.kept.0 c.loop-steps.invariant.3 _ c.if-steps-budget.false _ _ _ (rw c.in-Ok-Full.field-0-is at c.in-Ok-Full.ensures.tried))
    c.loop-steps.invariant.1

pub returns-in-Err-clause-ran : goal.returns-in-Err-clause-ran
returns-in-Err-clause-ran g c =
    accepted c.ended-outcome-in-Err.ensures refl (search rules)
    (failed c.loop-steps.invariant.2.kept.0 c.loop-steps.invariant.3 _ c.if-steps-budget.false _ _ _ c.in-Err.fault c.in-Err.ensures.tried)
    c.loop-steps.invariant.1

pub returns-then-steps-budget-clause-ran : goal.returns-then-steps-budget-clause-ran
returns-then-steps-budget-clause-ran g c =
    accepted c.paused-outcome.ensures refl (search rules)
    (record { within = c.loop-steps.invariant.0; reached = c.loop-steps.invariant.3; because = (omega arith, refl) })
    c.loop-steps.invariant.1
