-- The contract of a list of calls, over meanings and results.
-- Assumes nothing.
use Rattle.std.specs.Prelude.{◌≡◌, ℕ, ◌+◌, ◌-◌, ◌≤◌, min, Bool, List, ◌++◌, length, take, drop, Some, None, Ok, Err, vec_items, Option, Result}
use Rattle.console.specs.Streams.{Con, take_says, after_take}
use Rattle.machine.specs.Steps.{Life, live, over}
use Rattle.job.specs.Jobs.{halted_by}
use Rattle.job.specs.declared.Numbers.{Numbers}
use Rattle.arith.specs.declared.flags.Flags.{Flags}
use Rattle.memory.specs.Slices.{Loans}
use Rattle.machine.specs.Cores.{core_of}
use Rattle.machine.specs.Parts.{Parts}
use Rattle.machine.specs.declared.parts.Machine.{Machine}
use Rattle.calls.specs.Calls.{Ask, Stand, RunCalled, Called, Listed, first_stand, reply_of, replies_of}
use Rattle.calls.specs.Laws.{Mirrors, LikeAnyOther, BudgetsKept, OnlyList}
use Rattle.machine.specs.declared.ending.Ending.{Ending}
use Rattle.calls.specs.declared.Job.{Job}
use Rattle.calls.specs.declared.Job.TheVariants as job
use Rattle.calls.specs.declared.Answer.{Answer}
use Rattle.calls.specs.declared.Performed.{Performed}
use Rattle.std.specs.declared.alloc.AllocError.{AllocError}

-- where a job stands; each part by a function of its own, so that the console's part computes at any job
abbrev pub place_of : Job → ℕ
place_of (job.Paused p) = p.at.place
place_of (job.Ended d) = d.last.place

abbrev pub flags_of : Job → Flags
flags_of (job.Paused p) = p.at.flags
flags_of (job.Ended d) = d.last.flags

abbrev pub steps_of : Job → ℕ
steps_of (job.Paused p) = p.at.count
steps_of (job.Ended d) = d.last.count

abbrev pub ended_of : Job → Life
ended_of (job.Paused p) = live
ended_of (job.Ended d) = over d.ending

abbrev pub halted_of : Job → Life
halted_of (job.Paused p) = live
halted_of (job.Ended d) = halted_by d.ending

abbrev pub numbers_of : Job → Numbers
numbers_of (job.Paused p) = p.at
numbers_of (job.Ended d) = d.last

abbrev pub ending_of : Job → Option Ending
ending_of (job.Paused p) = None
ending_of (job.Ended d) = Some d.ending

abbrev pub stand_of : Job → List ℕ → List ℕ → Con → List ℕ → ℕ → Stand
stand_of j regs cells k taken room = record {
  state = record { core = core_of regs (flags_of j) (place_of j) cells; con = k; halted = halted_of j };
  count = steps_of j;
  ended = ended_of j;
  taken = taken;
  room = room;
}

-- all that is lent to a call
pub record Scene : Type 0 where
  pub marks : List Bool
  pub loans : Loans
  pub cells : List ℕ
  pub con : Con
  pub regs : List ℕ
  pub buffer : List ℕ

abbrev pub scene : List Bool → Loans → List ℕ → Con → List ℕ → List ℕ → Scene
scene m l c k r b = record { marks = m; loans = l; cells = c; con = k; regs = r; buffer = b }

-- that of a machine and a buffer
abbrev pub scene_on : {M C : Type 0} → (M → List Bool) → (M → Loans) → (M → List ℕ) → (C → Con) → Machine M C → List ℕ → Scene
scene_on marks loans cells view m buffer =
    scene (marks m.memory.now) (loans m.memory.now) (cells m.memory.now) (view m.console.now) m.bank.now.regs buffer

abbrev pub stand_in : Scene → Job → ℕ → Stand
stand_in s j filled = stand_of j s.regs s.cells s.con (take filled s.buffer) (length s.buffer - filled)

-- what a run of the list promises, whatever was taken and however much room is left
abbrev pub RanOn : Parts → ℕ → Job → Parts → Job → Answer → Type 0
RanOn s budget j t i a =
    (taken : List ℕ) (room : ℕ) →
    RunCalled s.marks budget (stand_of j s.regs s.cells s.con taken room) (stand_of i t.regs t.cells t.con taken room) (reply_of a)

-- what a take promises of a console, a buffer, and how much of it is filled; n bytes are asked for and moved are moved
pub record TookSo (k : Con) (buffer : List ℕ) (filled n : ℕ) (k' : Con) (buffer' : List ℕ) (filled' moved : ℕ) : Type 0 where
  pub least : moved ≡ take_says k (min n (length buffer - filled))
  pub after : k' ≡ after_take k moved
  pub filled_up : filled' ≡ filled + moved
  pub within : filled' ≤ length buffer'
  pub front : take filled' buffer' ≡ take filled buffer ++ take moved k.held
  pub beyond : drop filled' buffer' ≡ drop filled' buffer
  pub size : length buffer' ≡ length buffer

-- what one call of the list promises: i, a and upto are the job, the answer and the bytes taken that it leaves
pub record MadeSo (s : Scene) (j : Job) (filled : ℕ) (c : Ask) (t : Scene) (i : Job) (a : Answer) (upto : ℕ) : Type 0 where
  pub marks : t.marks ≡ s.marks
  pub loans : t.loans ≡ s.loans
  pub called : Called s.marks c (stand_in s j filled) (stand_in t i upto) (reply_of a)
  pub filled_up : (filled ≤ upto) × (upto ≤ length t.buffer)
  pub beyond : drop upto t.buffer ≡ drop upto s.buffer
  pub size : length t.buffer ≡ length s.buffer

-- what a list of calls promises on a new job
pub record PerformedSo (s : Scene) (asks : List Ask) (t : Scene) (p : Performed) : Type 0 where
  pub marks : t.marks ≡ s.marks
  pub loans : t.loans ≡ s.loans
  pub listed : Listed s.marks asks (first_stand s.cells s.con (length s.buffer)) (stand_in t p.job p.taken) (replies_of (vec_items p.answers))
  pub mirrors : Mirrors s.marks s.cells s.con asks (stand_in t p.job p.taken) (replies_of (vec_items p.answers))
  pub like_any_other : LikeAnyOther s.marks s.cells s.con asks (stand_in t p.job p.taken) (replies_of (vec_items p.answers))
  pub budgets : BudgetsKept asks (replies_of (vec_items p.answers))
  pub only : OnlyList s.marks s.cells s.con (length s.buffer) asks (stand_in t p.job p.taken) (replies_of (vec_items p.answers))
  pub within : p.taken ≤ length t.buffer
  pub beyond : drop p.taken t.buffer ≡ drop p.taken s.buffer
  pub size : length t.buffer ≡ length s.buffer

abbrev pub PerformSo : Scene → List Ask → Scene → Result Performed AllocError → Type 0
PerformSo s asks t (Ok p) = PerformedSo s asks t p
PerformSo s asks t (Err e) = t ≡ s
