-- Lists of calls: the chain of what each call promises, over meanings only.
-- Assumes nothing.
use Rattle.std.specs.Prelude.{◌≡◌, ℕ, ◌+◌, ◌-◌, min, Bool, List, [], ◌∷◌, ◌++◌, take, Ok, Err, Result}
use Rattle.console.specs.Streams.{Con, feed_says, after_feed, close_says, after_close, take_says, after_take}
use Rattle.machine.specs.Steps.{Life, live, over, State, living}
use Rattle.machine.specs.declared.ending.Ending.{Ending}
use Rattle.job.specs.Refusals.{number}
use Rattle.job.specs.Runs.{Runs, StopsShort}
use Rattle.job.specs.Jobs.{Allowed}
use Rattle.job.specs.declared.Stop.{Stop}
use Rattle.job.specs.declared.Stop.TheVariants.{Spent, Waiting, Full, Finished}
use Rattle.calls.specs.Ulms.{first_core}
use Rattle.calls.specs.declared.Answer.{Answer}
use Rattle.calls.specs.declared.Answer.TheVariants as answer
use Rattle.calls.specs.declared.Call.{Call}
use Rattle.calls.specs.declared.Call.TheVariants.{Feed, Close, Run, Take}

-- what a call asks for
pub data Ask : Type 0 where
  feed : List ℕ → Ask
  close : Ask
  run : ℕ → Ask
  taking : ℕ → Ask

abbrev pub ask_of : Call → Ask
ask_of (Feed bytes) = feed bytes.now
ask_of Close = close
ask_of (Run budget) = run budget
ask_of (Take n) = taking n

abbrev pub asks_of : List Call → List Ask
asks_of [] = []
asks_of (c ∷ cs) = ask_of c ∷ asks_of cs

-- what a call answers, a refusal by its number
pub data Reply : Type 0 where
  fed : Reply
  shut : Reply
  ran : ℕ → Stop → Reply
  took : ℕ → Reply
  refused : ℕ → Reply
  passed : Reply

abbrev pub reply_of : Answer → Reply
reply_of answer.Fed = fed
reply_of answer.Closed = shut
reply_of (answer.Ran steps why) = ran steps why
reply_of (answer.Took n) = took n
reply_of (answer.Refused r) = refused (number r)
reply_of answer.Passed = passed

abbrev pub replies_of : List Answer → List Reply
replies_of [] = []
replies_of (a ∷ rs) = reply_of a ∷ replies_of rs

-- what a call answers that the console accepts or refuses
abbrev pub replied : Reply → Result Unit ℕ → Reply
replied a (Ok u) = a
replied a (Err n) = refused n

-- where a job stands between two calls: its state, its count, whether and how it has ended,
-- the bytes taken so far, and how many more the lent buffer has room for
pub record Stand : Type 0 where
  pub state : State
  pub count : ℕ
  pub ended : Life
  pub taken : List ℕ
  pub room : ℕ

abbrev pub with_con : Stand → Con → Stand
with_con s k = record {
  state = record { core = s.state.core; con = k; halted = s.state.halted };
  count = s.count;
  ended = s.ended;
  taken = s.taken;
  room = s.room;
}

abbrev pub ended_by : Stop → Life
ended_by Spent = live
ended_by Waiting = live
ended_by Full = live
ended_by (Finished e) = over e

abbrev pub after_run : Stand → State → ℕ → Stop → Stand
after_run s t steps why = record { state = t; count = s.count + steps; ended = ended_by why; taken = s.taken; room = s.room }

-- a take moves the least of the number asked for, the bytes held, and the room left
abbrev pub taken_now : Stand → ℕ → ℕ
taken_now s n = take_says s.state.con (min n s.room)

abbrev pub after_taking : Stand → ℕ → Stand
after_taking s k = record {
  state = record { core = s.state.core; con = after_take s.state.con k; halted = s.state.halted };
  count = s.count;
  ended = s.ended;
  taken = s.taken ++ take k s.state.con.held;
  room = s.room - k;
}

-- a run is passed over after the ending, else refused with 1 beyond the limits, else made
pub data RunCalled (marks : List Bool) (budget : ℕ) (s t : Stand) : Reply → Type 0 where
  passed_over : (e : Ending) → s.ended ≡ over e → t ≡ s → RunCalled marks budget s t passed
  turned_down : s.ended ≡ live → (Allowed budget s.count → ⊥) → t ≡ s → RunCalled marks budget s t (refused 1)
  made : {steps : ℕ} {why : Stop} → s.ended ≡ live → Allowed budget s.count →
      Runs marks budget s.state t.state steps why → StopsShort marks budget s.state t.state steps why →
      t ≡ after_run s t.state steps why →
      RunCalled marks budget s t (ran steps why)

-- what one call promises
abbrev pub Called : List Bool → Ask → Stand → Stand → Reply → Type 0
Called marks (feed bs) s t a = (t ≡ with_con s (after_feed s.state.con bs)) × (a ≡ replied fed (feed_says s.state.con bs))
Called marks close s t a = (t ≡ with_con s (after_close s.state.con)) × (a ≡ replied shut (close_says s.state.con))
Called marks (run budget) s t a = RunCalled marks budget s t a
Called marks (taking n) s t a = (t ≡ after_taking s (taken_now s n)) × (a ≡ took (taken_now s n))

-- the calls one after the other
pub data Listed (marks : List Bool) : List Ask → Stand → Stand → List Reply → Type 0 where
  none : {s : Stand} → Listed marks [] s s []
  then : {c : Ask} {cs : List Ask} {s m t : Stand} {a : Reply} {rs : List Reply} →
      Called marks c s m a → Listed marks cs m t rs → Listed marks (c ∷ cs) s t (a ∷ rs)

-- a new job: a cleared bank, flags and place 0
abbrev pub first_stand : List ℕ → Con → ℕ → Stand
first_stand cells k room = record { state = living (first_core cells) k; count = 0; ended = live; taken = []; room = room }

-- the bytes of the accepted feeds
abbrev pub if_fed : Reply → List ℕ → List ℕ
if_fed fed bs = bs
if_fed shut bs = []
if_fed (ran n w) bs = []
if_fed (took n) bs = []
if_fed (refused n) bs = []
if_fed passed bs = []

abbrev pub fed_by : Ask → Reply → List ℕ
fed_by (feed bs) a = if_fed a bs
fed_by close a = []
fed_by (run n) a = []
fed_by (taking n) a = []

abbrev pub accepted : List Ask → List Reply → List ℕ
accepted [] rs = []
accepted (c ∷ cs) [] = []
accepted (c ∷ cs) (a ∷ rs) = fed_by c a ++ accepted cs rs

-- the steps that the accepted runs answered
abbrev pub steps_in : Reply → ℕ
steps_in fed = 0
steps_in shut = 0
steps_in (ran n w) = n
steps_in (took n) = 0
steps_in (refused n) = 0
steps_in passed = 0

abbrev pub all_steps : List Reply → ℕ
all_steps [] = 0
all_steps (a ∷ rs) = steps_in a + all_steps rs
