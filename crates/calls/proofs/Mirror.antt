-- A job's list of calls against the ideal machine.
-- None of these opens `try`: an act is taken by cases as it is.
use Rattle.std.proofs.Common.{◌≡◌, ℕ, ◌+◌, Bool, true, false, cond, List, [], ◌∷◌, ◌++◌, Ok, Err, Result, sym, refl, ap, ◌∙◌, subst, append_assoc, append-nil, arith, take-append-drop}
use Rattle.console.specs.Streams.{Con, with_waiting, with_held, has_room, fits_in, feed_says, close_says, after_close}
use Rattle.machine.specs.Cores.{Core, Heard, Act, moves, gets, puts, halts, traps, faults}
use Rattle.machine.specs.Tries.{try}
use Rattle.machine.specs.Steps.{Life, live, over, State, Next, goes, waits, full, fails, stands, living, next_get, next_if, next}
use Rattle.job.specs.Runs.{Reaches, here, step, EndedWith, Stopped}
use Rattle.calls.specs.Ulms.{Ulm, Turn, turns, ulm_at, turn_get, turn_if, turn, Goes, at_rest, on, StandsAt, first_ulm}
use Rattle.calls.specs.Calls.{Ask, feed, close, run, taking, Reply, fed, shut, replied, Stand, with_con, ended_by, taken_now, after_taking, RunCalled, passed_over, turned_down, made, Called, Listed, none, then, first_stand, if_fed, fed_by, accepted, steps_in, all_steps}
use Rattle.calls.specs.Laws.{input_of, Mirrors, LikeAnyOther}
use Rattle.machine.specs.declared.ending.Ending.{Ending}
use Rattle.machine.specs.declared.ending.Ending.TheVariants.{Halt, Trap, Fault}
use Rattle.job.specs.declared.Stop.{Stop}
use Rattle.job.specs.declared.Stop.TheVariants.{Spent, Waiting, Full, Finished}
use Rattle.calls.proofs.Ideal.{more_goes, join_goes, more_stands, settled, ends_once, agreeing, extended}

-- the ideal machine at a state, with what it has put out
abbrev ideal_of : State → List ℕ → Ulm
ideal_of s out = ulm_at s.core s.con.waiting out s.halted

-- one step of the job, from a console k to the state m, is the turn x of the ideal machine, and what is put out is held:
-- taken are the bytes taken from the console so far, first those that it held at the start
record Paired (taken first : List ℕ) (k : Con) (x : Turn) (m : State) : Type 0 where
  out : List ℕ
  turned : x ≡ turns (ideal_of m out)
  closed : m.con.closed ≡ k.closed
  output : taken ++ m.con.held ≡ first ++ out

abbrev IfGoes : List ℕ → List ℕ → Con → Turn → Next → Type 0
IfGoes taken first k x (goes m) = Paired taken first k x m
IfGoes taken first k x waits = Unit {0}
IfGoes taken first k x full = Unit {0}
IfGoes taken first k x (fails f) = Unit {0}
IfGoes taken first k x stands = Unit {0}

-- so many steps of the job are as many of the ideal machine
record Pairs (marks : List Bool) (taken first : List ℕ) (u : Ulm) (k : Con) (n : ℕ) (t : State) : Type 0 where
  out : List ℕ
  gone : Goes marks k.closed u n (ideal_of t out)
  closed : t.con.closed ≡ k.closed
  output : taken ++ t.con.held ≡ first ++ out

module _ (taken first out : List ℕ) (c : Core) (k : Con) (h : taken ++ k.held ≡ first ++ out) where
  get_pair : (f : Heard → Core) (w : List ℕ) (d : Bool) → k.waiting ≡ w → IfGoes taken first k (turn_get f w d out) (next_get f k w d)
  get_pair f [] true e = record { out = out; turned = cc; closed = refl; output = h }
  get_pair f [] false e = tt
  get_pair f (b ∷ bs) d e = record { out = out; turned = refl; closed = refl; output = h }

  put_pair : (b : ℕ) (d : Core) (r : Bool) →
      IfGoes taken first k (turns (ulm_at d k.waiting (out ++ b ∷ []) live)) (cond r (goes (living d (with_held k (k.held ++ b ∷ [])))) full)
  put_pair b d true = record { out = out ++ b ∷ []; turned = refl; closed = refl; output = cc (append_assoc taken k.held (b ∷ []), append_assoc first out (b ∷ [])) }
  put_pair b d false = tt

  act_pair : (a : Act) (l : Life) → IfGoes taken first k (turn_if l k.closed a c k.waiting out) (next_if l a c k)
  act_pair (moves d) live = record { out = out; turned = refl; closed = refl; output = h }
  act_pair (gets f) live = get_pair f k.waiting k.closed refl
  act_pair (puts b d) live = put_pair b d (has_room k)
  act_pair (halts n) live = record { out = out; turned = refl; closed = refl; output = h }
  act_pair (traps x y z) live = record { out = out; turned = refl; closed = refl; output = h }
  act_pair (faults w) live = tt
  act_pair a (over y) = tt

pair : (marks : List Bool) (taken first out : List ℕ) (s m : State) → taken ++ s.con.held ≡ first ++ out → next marks s ≡ goes m →
    Paired taken first s.con (turn marks s.con.closed (ideal_of s out)) m
pair marks taken first out s m h e =
    subst (λ n. IfGoes taken first s.con (turn marks s.con.closed (ideal_of s out)) n) e (act_pair taken first out s.core s.con h (try marks s.core) s.halted)

pairs : {marks : List Bool} {s : State} {n : ℕ} {t : State} (taken first out : List ℕ) → taken ++ s.con.held ≡ first ++ out → Reaches marks s n t →
    Pairs marks taken first (ideal_of s out) s.con n t
pairs taken first out h here = record { out = out; gone = at_rest; closed = refl; output = h }
pairs {marks} taken first out h (step {s = s} {m = m} {t = t} {n = n} e r) =
    let p = pair marks taken first out s m h e in
    let q = pairs taken first p.out p.output r in
    record { out = q.out; gone = on p.turned (subst (λ b. Goes marks b (ideal_of m p.out) n (ideal_of t q.out)) p.closed q.gone); closed = q.closed ∙ p.closed; output = q.output }

-- what stands after each call: i is the whole input so far, first the output that was held at the start
record Holds (marks : List Bool) (cells i first : List ℕ) (s : Stand) : Type 0 where
  out : List ℕ
  gone : Goes marks s.state.con.closed (first_ulm cells i) s.count (ideal_of s.state out)
  output : s.taken ++ s.state.con.held ≡ first ++ out
  ending : (e : Ending) → s.ended ≡ over e → StandsAt marks s.state.con.closed (ideal_of s.state out) e

module _ (marks : List Bool) (cells i first : List ℕ) where
  no_feed : (s : Stand) → Holds marks cells i first s → Holds marks cells (i ++ []) first s
  no_feed s h = rw append-nil h

  after_fed : (s : Stand) (bs : List ℕ) → s.state.con.closed ≡ false → Holds marks cells i first s → Holds marks cells (i ++ bs) first (with_con s (with_waiting s.state.con (s.state.con.waiting ++ bs)))
  after_fed s bs c h = record {
    out = h.out;
    gone = more_goes s.state.con.closed bs (rw c at h.gone);
    output = h.output;
    ending = λ e k. more_stands marks s.state.con.closed s.state.con.closed bs (ideal_of s.state h.out) e (h.ending e k);
  }

  feeds : (s : Stand) (bs : List ℕ) (c f : Bool) → s.state.con.closed ≡ c → Holds marks cells i first s →
      Holds marks cells (i ++ if_fed (replied fed (cond c (Err 2) (cond f (Ok tt) (Err 3)))) bs) first
      (with_con s (cond c s.state.con (cond f (with_waiting s.state.con (s.state.con.waiting ++ bs)) s.state.con)))
  feeds s bs true f e h = no_feed s h
  feeds s bs false true e h = after_fed s bs e h
  feeds s bs false false e h = no_feed s h

  shuts : (s : Stand) (c : Bool) → s.state.con.closed ≡ c → Holds marks cells i first s → Holds marks cells i first (with_con s (after_close s.state.con))
  shuts s true e h = record { out = h.out; gone = rw e at h.gone; output = h.output; ending = λ x k. rw e at (h.ending x k) }
  shuts s false e h = record {
    out = h.out;
    gone = simp append-nil at (more_goes true [] (rw e at h.gone));
    output = h.output;
    ending = λ x k. simp append-nil at (more_stands marks s.state.con.closed true [] (ideal_of s.state h.out) x (h.ending x k));
  }

  takes : (s : Stand) (k : ℕ) → Holds marks cells i first s → Holds marks cells i first (after_taking s k)
  takes s k h = record { out = h.out; gone = h.gone; output = rw (append_assoc, take-append-drop) h.output; ending = h.ending }

  stands_so : (s : State) (out : List ℕ) (e : Ending) → EndedWith marks s e → StandsAt marks s.con.closed (ideal_of s out) e
  stands_so s out (Halt n) h = h
  stands_so s out (Trap x y z) h = h
  stands_so s out (Fault f) h = rw (h.live_yet, h.faulty)

  ended_so : (budget steps : ℕ) (s : State) (out : List ℕ) (why : Stop) → Stopped marks budget steps s why → (e : Ending) → ended_by why ≡ over e → StandsAt marks s.con.closed (ideal_of s out) e
  ended_so budget steps s out Spent h e k = absurd cc
  ended_so budget steps s out Waiting h e k = absurd cc
  ended_so budget steps s out Full h e k = absurd cc
  ended_so budget steps s out (Finished f) h e k = let same : f ≡ e = cc in rw (← same) (stands_so s out f h.1)

  ran_on : (budget : ℕ) (s t : Stand) {a : Reply} → RunCalled marks budget s t a → Holds marks cells i first s → Holds marks cells i first t
  ran_on budget s t (passed_over e x q) h = rw q h
  ran_on budget s t (turned_down x y q) h = rw q h
  ran_on budget s t (made {steps} {why} x y r z q) h =
      let p = pairs s.taken first h.out h.output r.reached in
      rw q
      (record {
        out = p.out;
        gone = subst (λ b. Goes marks b (first_ulm cells i) (s.count + steps) (ideal_of t.state p.out)) (sym p.closed) (join_goes h.gone p.gone);
        output = p.output;
        ending = ended_so budget steps t.state p.out why r.because;
      })

  called_on : (c : Ask) (s t : Stand) (a : Reply) → Called marks c s t a → Holds marks cells i first s → Holds marks cells (i ++ fed_by c a) first t
  called_on (feed bs) s t a d h = rw (d.0, d.1) (feeds s bs s.state.con.closed (fits_in s.state.con bs) refl h)
  called_on close s t a d h = rw d.0 (no_feed _ (shuts s s.state.con.closed refl h))
  called_on (run budget) s t a d h = no_feed t (ran_on budget s t d h)
  called_on (taking n) s t a d h = rw d.0 (no_feed _ (takes s (taken_now s n) h))

listed_on : {marks : List Bool} (cells i first : List ℕ) {cs : List Ask} {s t : Stand} {rs : List Reply} → Listed marks cs s t rs → Holds marks cells i first s → Holds marks cells (i ++ accepted cs rs) first t
listed_on {marks} cells i first (none {s}) h = no_feed marks cells i first s h
listed_on {marks} cells i first (then {c = c} {s = s} {m = m} {a = a} d l) h =
    rw append_assoc at (listed_on cells (i ++ fed_by c a) first l (called_on marks cells i first c s m a d h))

-- the count
replied_none : (b : Reply) (r : Result Unit ℕ) → steps_in b ≡ 0 → steps_in (replied b r) ≡ 0
replied_none b (Ok u) e = e
replied_none b (Err n) e = refl

run_counts : (marks : List Bool) (budget : ℕ) (s t : Stand) {a : Reply} → RunCalled marks budget s t a → t.count ≡ s.count + steps_in a
run_counts marks budget s t (passed_over e x q) = rw q (omega arith)
run_counts marks budget s t (turned_down x y q) = rw q (omega arith)
run_counts marks budget s t (made x y r z q) = rw q

call_counts : (marks : List Bool) (c : Ask) (s t : Stand) (a : Reply) → Called marks c s t a → t.count ≡ s.count + steps_in a
call_counts marks (feed bs) s t a d = rw (d.0, d.1) (omega (arith, replied_none fed (feed_says s.state.con bs) refl))
call_counts marks close s t a d = rw (d.0, d.1) (omega (arith, replied_none shut (close_says s.state.con) refl))
call_counts marks (run budget) s t a d = run_counts marks budget s t d
call_counts marks (taking n) s t a d = rw (d.0, d.1) (omega arith)

list_counts : {marks : List Bool} {cs : List Ask} {s t : Stand} {rs : List Reply} → Listed marks cs s t rs → t.count ≡ s.count + all_steps rs
list_counts (none {s}) = omega arith
list_counts {marks} (then {c = c} {s = s} {m = m} {a = a} d l) = omega (arith, list_counts l, call_counts marks c s m a d)

first_holds : (marks : List Bool) (cells : List ℕ) (k : Con) (room : ℕ) → Holds marks cells k.waiting k.held (first_stand cells k room)
first_holds marks cells k room = record {
  out = [];
  gone = at_rest;
  output = sym (append-nil k.held);
  ending = λ e h. absurd cc;
}

list_holds : {marks : List Bool} (cells : List ℕ) (k : Con) (room : ℕ) {cs : List Ask} {t : Stand} {rs : List Reply} → Listed marks cs (first_stand cells k room) t rs →
    Holds marks cells (input_of k cs rs) k.held t
list_holds {marks} cells k room l = listed_on cells k.waiting k.held l (first_holds marks cells k room)

pub mirrors_all : {marks : List Bool} (cells : List ℕ) (k : Con) (room : ℕ) {cs : List Ask} {t : Stand} {rs : List Reply} → Listed marks cs (first_stand cells k room) t rs →
    Mirrors marks cells k cs t rs
mirrors_all {marks} cells k room {t = t} l =
    let h = list_holds cells k room l in
    record {
      ideal = ideal_of t.state h.out;
      reached = h.gone;
      regs = refl;
      flags = refl;
      place = refl;
      cells_same = refl;
      output = h.output;
      counted = list_counts l ∙ omega arith;
      ending = h.ending;
    }

pub like_all : {marks : List Bool} (cells : List ℕ) (k : Con) (room : ℕ) {cs : List Ask} {t : Stand} {rs : List Reply} → Listed marks cs (first_stand cells k room) t rs →
    LikeAnyOther marks cells k cs t rs
like_all {marks} cells k room {cs = cs} {t = s} {rs = rs} ls ek l there others t told el lt ag =
    let a = list_holds cells k room ls in
    let b = list_holds cells l there lt in
    let x = agreeing (input_of k cs rs) s.state.con.closed (input_of l others told) t.state.con.closed ag in
    let p = extended marks cells _ _ x.0 x.1 _ _ a.gone x.2 in
    let q = extended marks cells _ _ x.0 x.1 _ _ b.gone x.3 in
    record {
      at_equal_counts = λ e.
          let z = settled p q e in
          record {
            regs = ap (λ u. u.core.regs) z;
            flags = ap (λ u. u.core.flags) z;
            place = ap (λ u. u.core.place) z;
            cells = ap (λ u. u.core.cells) z;
            output = a.output ∙ ap (λ h. h ++ a.out) (ek ∙ sym el) ∙ ap (λ o. l.held ++ o) (ap (λ u. u.out) z) ∙ sym b.output;
          };
      both_ended = λ e f he hf.
          ends_once e f p q
          (more_stands marks _ x.1 x.2.0 _ e (a.ending e he))
          (more_stands marks _ x.1 x.3.0 _ f (b.ending f hf));
    }
