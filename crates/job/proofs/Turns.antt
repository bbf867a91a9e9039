-- One more step, for the loop of a run.
use Rattle.std.proofs.Common.{◌≡◌, ℕ, suc, ◌+◌, ◌<◌, Bool, true, false, cond, List, [], ◌∷◌, ◌++◌, length, sym, refl, ap, ◌∙◌, subst, add-one, arith, ltb-false}
use Rattle.console.specs.Streams.{Con, has_room, with_held}
use Rattle.machine.specs.Cores.{Core, Heard, Act, moves, gets, puts, halts, traps, faults, core_of}
use Rattle.machine.specs.Tries.{try}
use Rattle.machine.specs.Tryings.{Kept}
use Rattle.machine.specs.Steps.{Life, live, over, State, Next, goes, waits, full, fails, stands, living, stopped_with, next_get, next_if, next}
use Rattle.machine.specs.declared.ending.Ending.{Ending}
use Rattle.machine.specs.declared.fault.Fault.{Fault}
use Rattle.job.specs.Runs.{Reaches, here, step, LacksByte, LacksSpace, FaultsWith, Stopped, Runs}
use Rattle.job.specs.declared.Stop.{Stop}
use Rattle.job.specs.declared.Stop.TheVariants as stop

pub snoc : {marks : List Bool} {s m t : State} {n : ℕ} → Reaches marks s n m → next marks m ≡ goes t → Reaches marks s (suc n) t
snoc here e = step e here
snoc (step d r) e = step d (snoc r e)

-- why a try came to nothing, in words
abbrev Why : List Bool → State → Next → Type 0
Why marks s (goes m) = Unit {0}
Why marks s waits = LacksByte marks s
Why marks s full = LacksSpace marks s
Why marks s (fails f) = FaultsWith marks s f
Why marks s stands = Unit {0}

module _ (marks : List Bool) (s : State) where
  why_get : (f : Heard → Core) (w : List ℕ) (d : Bool) → s.halted ≡ live → try marks s.core ≡ gets f → s.con.waiting ≡ w → s.con.closed ≡ d →
      Why marks s (next_get f s.con w d)
  why_get f [] false l a w d = record { live_yet = l; goes_on = f; getc = a; empty = w; open_yet = d }
  why_get f [] true l a w d = tt
  why_get f (x ∷ bs) b l a w d = tt

  why_put : (b : ℕ) (d : Core) (r : Bool) → s.halted ≡ live → try marks s.core ≡ puts b d → has_room s.con ≡ r →
      Why marks s (cond r (goes (living d (with_held s.con (s.con.held ++ b ∷ [])))) full)
  why_put b d true l a r = tt
  why_put b d false l a r = record { live_yet = l; byte = b; goes_on = d; putc = a; held_up = omega (arith, ltb-false (length s.con.held) s.con.out_limit r) }

  why_act : (l : Life) (a : Act) → s.halted ≡ l → try marks s.core ≡ a → Why marks s (next_if l a s.core s.con)
  why_act live (moves d) l a = tt
  why_act live (gets f) l a = why_get f s.con.waiting s.con.closed l a refl refl
  why_act live (puts b d) l a = why_put b d (has_room s.con) l a refl
  why_act live (halts n) l a = tt
  why_act live (traps p q r) l a = tt
  why_act live (faults f) l a = record { live_yet = l; faulty = a }
  why_act (over e) act l a = tt

  why : (n : Next) → next marks s ≡ n → Why marks s n
  why n e = subst (Why marks s) e (why_act s.halted (try marks s.core) refl refl)

-- the try was made at m, at marks that are still those of the start, after n steps
module _ {marks now : List Bool} {s m : State} {n : ℕ} (same : now ≡ marks) (r : Reaches marks s n m) where
  pub one_more : {t : State} → next now m ≡ goes t → Reaches marks s (n + 1) t
  one_more e = rw (add-one n) (snoc r (rw same at e))

  -- a run stops: at a halt or a trap after that step, else where the try changed nothing
  module _ (budget : ℕ) (left : n < budget) (regs cells : List ℕ) (k : Con) where
    pub ended : (e : Ending) → (next now m ≡ goes (stopped_with m.core m.con e)) × Kept m regs cells k →
        Stopped marks budget (n + 1) (stopped_with (core_of regs m.core.flags m.core.place cells) k e) (stop.Finished e) →
        Runs marks budget s (stopped_with (core_of regs m.core.flags m.core.place cells) k e) (n + 1) (stop.Finished e)
    ended e d h = record { within = omega arith; reached = one_more (d.0 ∙ ap (λ w. goes (stopped_with w.core w.con e)) (sym d.1)); because = h }

    stops : (w : Stop) → Stopped marks budget n m w → Kept m regs cells k → Runs marks budget s (living (core_of regs m.core.flags m.core.place cells) k) n w
    stops w h kept = record { within = omega arith; reached = rw kept r; because = rw kept h }

    pub waited : (next now m ≡ waits) × Kept m regs cells k → Runs marks budget s (living (core_of regs m.core.flags m.core.place cells) k) n stop.Waiting
    waited d = stops stop.Waiting (left, why marks m waits (rw same at d.0)) d.1

    pub filled_up : (next now m ≡ full) × Kept m regs cells k → Runs marks budget s (living (core_of regs m.core.flags m.core.place cells) k) n stop.Full
    filled_up d = stops stop.Full (left, why marks m full (rw same at d.0)) d.1

    pub failed : (f : Fault) → (next now m ≡ fails f) × Kept m regs cells k →
        Runs marks budget s (living (core_of regs m.core.flags m.core.place cells) k) n (stop.Finished (Ending.Fault f))
    failed f d = stops (stop.Finished (Ending.Fault f)) (left, why marks m (fails f) (rw same at d.0)) d.1
