-- A run has one outcome, and stops short exactly for its three reasons.
-- None of these opens `try`: what a try asks for is taken as it is.
use Rattle.std.proofs.Common.{◌≡◌, ℕ, ◌+◌, ◌<◌, ◌≤◌, Bool, true, false, ltb, List, length, sym, refl, ◌∙◌, inl, inr, arith}
use Rattle.std.proofs.lemmas.Bool.{lt-ltb, le-ltb, cases_order}
use Rattle.console.specs.Streams.{Con}
use Rattle.machine.specs.Steps.{Life, live, over, State, Next, goes, waits, full, fails, stands, next}
use Rattle.machine.specs.declared.fault.Fault as fault
use Rattle.machine.specs.declared.ending.Ending.{Ending}
use Rattle.machine.specs.declared.ending.Ending.TheVariants.{Halt, Trap, Fault}
use Rattle.job.specs.declared.Stop.{Stop}
use Rattle.job.specs.declared.Stop.TheVariants.{Spent, Waiting, Full, Finished}
use Rattle.job.specs.Runs.{Reaches, here, step, LacksByte, LacksSpace, FaultsWith, Stuck, Stopped, Runs, StopsShort, OnlyOutcome}
use Rattle.job.specs.Jobs.{Allowed, Accepted, state_of, why_of, count_of}
use Rattle.job.specs.declared.Paused.{Paused}
use Rattle.job.specs.declared.Outcome.{Outcome}

-- steps lead to one state
settled : {marks : List Bool} {s : State} {n : ℕ} {t : State} {k : ℕ} {u : State} → Reaches marks s n t → Reaches marks s k u → n ≡ k → t ≡ u
settled here here e = refl
settled here (step {n = n} d q) e = absurd (omega arith)
settled (step {n = n} d p) here e = absurd (omega arith)
settled (step {m = m} {n = n} d p) (step {m = x} {n = k} h q) e = let same : x ≡ m = cc in settled p (rw same at q) (omega arith)

-- where more steps were made, one was made from there
onward : {marks : List Bool} {s : State} {n : ℕ} {t : State} {k : ℕ} {u : State} → Reaches marks s n t → Reaches marks s k u → n < k → (m : State) × (next marks t ≡ goes m)
onward here here h = absurd (omega arith)
onward here (step {m = m} d q) h = (m, d)
onward (step {n = n} d p) here h = absurd (omega arith)
onward (step {m = m} {n = n} d p) (step {m = x} {n = k} h q) l = let same : x ≡ m = cc in onward p (rw same at q) (omega arith)

-- a machine that lives has not ended without a step
one_at_least : {marks : List Bool} {s : State} {n : ℕ} {t : State} (e : Ending) → Reaches marks s n t → s.halted ≡ live → t.halted ≡ over e → 1 ≤ n
one_at_least e here l h = absurd cc
one_at_least e (step {n = n} d p) l h = omega arith

-- what the next try is, at each reason
module _ (marks : List Bool) (s : State) where
  is_waits : LacksByte marks s → next marks s ≡ waits
  is_waits h = rw (h.live_yet, h.getc, h.empty, h.open_yet)

  is_full : LacksSpace marks s → next marks s ≡ full
  is_full h = rw (h.live_yet, h.putc, le-ltb (length s.con.held) s.con.out_limit h.held_up)

  is_fails : (f : fault.Fault) → FaultsWith marks s f → next marks s ≡ fails f
  is_fails f h = rw (h.live_yet, h.faulty)

  -- no step can be made
  no_step : (w : Stop) (m : State) → Stuck marks s w → next marks s ≡ goes m → ⊥
  no_step Spent m h e = h
  no_step Waiting m h e = let d = is_waits h in cc
  no_step Full m h e = let d = is_full h in cc
  no_step (Finished (Halt n)) m h e = let d = rw h at e in cc
  no_step (Finished (Trap x y z)) m h e = let d = rw h at e in cc
  no_step (Finished (Fault f)) m h e = let d = is_fails f h in cc

-- the reason, computed
abbrev reason_at : Life → Bool → Next → Stop
reason_at (over e) left x = Finished e
reason_at live false x = Spent
reason_at live true (goes m) = Spent
reason_at live true waits = Waiting
reason_at live true full = Full
reason_at live true (fails f) = Finished (Fault f)
reason_at live true stands = Spent

module _ (marks : List Bool) (budget steps : ℕ) (s : State) where
  told : (w : Stop) → Stopped marks budget steps s w → reason_at s.halted (ltb steps budget) (next marks s) ≡ w
  told Spent h = rw (h.1, le-ltb steps budget (omega (arith, h.0)))
  told Waiting h = rw (is_waits marks s h.1, h.1.live_yet, lt-ltb steps budget h.0)
  told Full h = rw (is_full marks s h.1, h.1.live_yet, lt-ltb steps budget h.0)
  told (Finished (Halt n)) h = rw h.1
  told (Finished (Trap x y z)) h = rw h.1
  told (Finished (Fault f)) h = rw (is_fails marks s f h.1, h.1.live_yet, lt-ltb steps budget h.0)

  short_of : (w : Stop) → Stopped marks budget steps s w → steps < budget → Stuck marks s w
  short_of Spent h l = omega (arith, h.0)
  short_of Waiting h l = h.1
  short_of Full h l = h.1
  short_of (Finished e) h l = h.1

  stopped : (w : Stop) → Stuck marks s w → steps < budget → ((e : Ending) → s.halted ≡ over e → 1 ≤ steps) → Stopped marks budget steps s w
  stopped Spent h l one = absurd h
  stopped Waiting h l one = (l, h)
  stopped Full h l one = (l, h)
  stopped (Finished (Halt n)) h l one = ((one (Halt n) h, omega arith), h)
  stopped (Finished (Trap x y z)) h l one = ((one (Trap x y z) h, omega arith), h)
  stopped (Finished (Fault f)) h l one = (l, h)

module _ {marks : List Bool} {budget : ℕ} {before after : State} {steps : ℕ} {why : Stop} (r : Runs marks budget before after steps why) where
  -- neither makes more steps than the other
  no_more : {t u : State} {n k : ℕ} {w v : Stop} → Runs marks budget before t n w → Runs marks budget before u k v → n < k → ⊥
  no_more {t} {n = n} {w = w} a b l =
      let d = onward a.reached b.reached l in
      no_step marks t w d.0 (short_of marks budget n t w a.because (omega (arith, b.within))) d.1

  same_steps : (t : State) (n : ℕ) (w : Stop) → Runs marks budget before t n w → steps ≡ n
  same_steps t n w a =
      elim (cases_order steps n) [
        | inl e ↦ e
        | inr (inl l) ↦ absurd (no_more r a l)
        | inr (inr l) ↦ absurd (no_more a r l)
      ]

  pub only_outcome : OnlyOutcome marks budget before after steps why
  only_outcome t n w a =
      let e = same_steps t n w a in
      let q = settled r.reached a.reached e in
      (e, q, sym (told marks budget steps after why r.because) ∙ told marks budget steps after w (rw (← q, ← e) at a.because))

  pub stops_short : before.halted ≡ live → StopsShort marks budget before after steps why
  stops_short alive = record {
    only_then = short_of marks budget steps after why r.because;
    whenever = λ n t w l p h. only_outcome t n w (record { within = omega arith; reached = p; because = stopped marks budget n t w h l (λ e k. one_at_least e p alive k) });
  }

-- what a run promises, from the outcome that it was left at
pub accepted : {marks : List Bool} {p : Paused} {s : State} {budget : ℕ} {regs cells : List ℕ} {k : Con} {steps : ℕ} {o o' : Outcome} → o ≡ o' → s.halted ≡ live →
    Allowed budget p.at.count → Runs marks budget s (state_of o' regs cells k) steps (why_of o') → count_of o' ≡ p.at.count + steps →
    Accepted marks p s budget regs cells k (record { steps = steps; outcome = o })
accepted q l a h e = rw q (record { allowed = a; runs = h; short = stops_short h l; only = only_outcome h; counted = e })
