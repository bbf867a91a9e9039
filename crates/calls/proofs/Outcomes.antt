-- The runs of a list keep to their budgets, and a list has one outcome.
use Rattle.std.proofs.Common.{◌≡◌, ℕ, Bool, List, ◌∷◌, Ok, Err, Result, sym, refl, ◌∙◌}
use Rattle.machine.specs.Steps.{State}
use Rattle.job.specs.Runs.{Stopped}
use Rattle.job.specs.declared.Stop.{Stop}
use Rattle.job.specs.declared.Stop.TheVariants.{Spent, Waiting, Full, Finished}
use Rattle.job.proofs.Outcomes.{only_outcome}
use Rattle.console.specs.Streams.{feed_says, close_says}
use Rattle.calls.specs.Calls.{Ask, feed, close, run, taking, Reply, fed, shut, ran, replied, Stand, RunCalled, passed_over, turned_down, made, Called, Listed, none, then}
use Rattle.calls.specs.Laws.{KeptTo, BudgetsKept, no_call, a_run, another}

kept_to : (marks : List Bool) (budget steps : ℕ) (s : State) (why : Stop) → Stopped marks budget steps s why → KeptTo budget steps why
kept_to marks budget steps s Spent h = h.0
kept_to marks budget steps s Waiting h = h.0
kept_to marks budget steps s Full h = h.0
kept_to marks budget steps s (Finished e) h = h.0

-- the reply of a call that the console accepts or refuses is none of an accepted run
not_ran : (b : Reply) (r : Result Unit ℕ) → ((n : ℕ) (w : Stop) → b ≡ ran n w → ⊥) → (n : ℕ) (w : Stop) → replied b r ≡ ran n w → ⊥
not_ran b (Ok u) h n w e = h n w e
not_ran b (Err k) h n w e = cc

kept_run : (marks : List Bool) (budget : ℕ) (s t : Stand) {a : Reply} {asks : List Ask} {replies : List Reply} → RunCalled marks budget s t a → BudgetsKept asks replies → BudgetsKept (run budget ∷ asks) (a ∷ replies)
kept_run marks budget s t (passed_over e x q) b = another (λ n w i. cc) b
kept_run marks budget s t (turned_down x y q) b = another (λ n w i. cc) b
kept_run marks budget s t (made {steps} {why} x y r z q) b = a_run r.within (kept_to marks budget steps t.state why r.because) b

kept_on : (marks : List Bool) (c : Ask) (s t : Stand) (a : Reply) {asks : List Ask} {replies : List Reply} → Called marks c s t a → BudgetsKept asks replies → BudgetsKept (c ∷ asks) (a ∷ replies)
kept_on marks (feed bs) s t a d b = another (rw d.1 (not_ran fed (feed_says s.state.con bs) (λ n w e. cc))) b
kept_on marks close s t a d b = another (rw d.1 (not_ran shut (close_says s.state.con) (λ n w e. cc))) b
kept_on marks (run budget) s t a d b = kept_run marks budget s t d b
kept_on marks (taking n) s t a d b = another (rw d.1 (λ n w e. cc)) b

pub budgets_all : {marks : List Bool} {cs : List Ask} {s t : Stand} {rs : List Reply} → Listed marks cs s t rs → BudgetsKept cs rs
budgets_all none = no_call
budgets_all {marks} (then {c = c} {s = s} {m = m} {a = a} d l) = kept_on marks c s m a d (budgets_all l)

-- a call has one outcome
one_run : (marks : List Bool) (budget : ℕ) (s t u : Stand) {a b : Reply} → RunCalled marks budget s t a → RunCalled marks budget s u b → (t ≡ u) × (a ≡ b)
one_run marks budget s t u (passed_over e x q) (passed_over f y p) = (q ∙ sym p, refl)
one_run marks budget s t u (passed_over e x q) (turned_down y h p) = absurd cc
one_run marks budget s t u (passed_over e x q) (made y h r k p) = absurd cc
one_run marks budget s t u (turned_down y h p) (passed_over e x q) = absurd cc
one_run marks budget s t u (turned_down x h q) (turned_down y k p) = (q ∙ sym p, refl)
one_run marks budget s t u (turned_down x h q) (made y k r l p) = absurd (h k)
one_run marks budget s t u (made y h r k p) (passed_over e x q) = absurd cc
one_run marks budget s t u (made y k r l p) (turned_down x h q) = absurd (h k)
one_run marks budget s t u (made {steps} {why} x h r k q) (made {steps = n} {why = w} y i j l p) =
    let o = only_outcome r u.state n w j in (cc, cc)

one_call : (marks : List Bool) (c : Ask) (s t u : Stand) (a b : Reply) → Called marks c s t a → Called marks c s u b → (t ≡ u) × (a ≡ b)
one_call marks (feed bs) s t u a b d e = (d.0 ∙ sym e.0, d.1 ∙ sym e.1)
one_call marks close s t u a b d e = (d.0 ∙ sym e.0, d.1 ∙ sym e.1)
one_call marks (run budget) s t u a b d e = one_run marks budget s t u d e
one_call marks (taking n) s t u a b d e = (d.0 ∙ sym e.0, d.1 ∙ sym e.1)

pub one_list : {marks : List Bool} {cs : List Ask} {s t u : Stand} {rs qs : List Reply} → Listed marks cs s t rs → Listed marks cs s u qs → (t ≡ u) × (rs ≡ qs)
one_list none none = (refl, refl)
one_list {marks} (then {c = c} {s = s} {m = m} {a = a} d l) (then {m = x} {a = b} e k) =
    let o = one_call marks c s m x a b d e in
    let r = one_list l (rw (← o.0) at k) in
    (r.0, cc)
