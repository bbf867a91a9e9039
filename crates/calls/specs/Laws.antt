-- What follows for every list of calls, in the subject's words.
-- Assumes nothing.
use Rattle.std.specs.Prelude.{◌≡◌, ℕ, ◌<◌, ◌≤◌, Bool, false, ◌⊎◌, List, [], ◌∷◌, ◌++◌, length, ◌≢◌}
use Rattle.console.specs.Streams.{Con}
use Rattle.machine.specs.Steps.{over}
use Rattle.calls.specs.Ulms.{Ulm, Goes, StandsAt, first_ulm}
use Rattle.calls.specs.Calls.{Ask, run, Reply, ran, Stand, Listed, first_stand, accepted, all_steps}
use Rattle.machine.specs.declared.ending.Ending.{Ending}
use Rattle.job.specs.Runs.{EndedWithin}
use Rattle.job.specs.declared.Stop.{Stop}
use Rattle.job.specs.declared.Stop.TheVariants.{Spent, Waiting, Full, Finished}

-- the job's whole input: what its console first had waiting, then all accepted feeds
abbrev pub input_of : Con → List Ask → List Reply → List ℕ
input_of k asks replies = k.waiting ++ accepted asks replies

-- the job's whole output: all taken bytes, then those held
abbrev pub output_of : Stand → List ℕ
output_of t = t.taken ++ t.state.con.held

-- the job is the ideal machine after as many steps as its count
pub record Mirrors (marks : List Bool) (cells : List ℕ) (k : Con) (asks : List Ask) (t : Stand) (replies : List Reply) : Type 0 where
  pub ideal : Ulm
  pub reached : Goes marks t.state.con.closed (first_ulm cells (input_of k asks replies)) t.count ideal
  pub regs : t.state.core.regs ≡ ideal.core.regs
  pub flags : t.state.core.flags ≡ ideal.core.flags
  pub place : t.state.core.place ≡ ideal.core.place
  pub cells_same : t.state.core.cells ≡ ideal.core.cells
  pub output : output_of t ≡ k.held ++ ideal.out
  pub counted : t.count ≡ all_steps replies
  pub ending : (e : Ending) → t.ended ≡ over e → StandsAt marks t.state.con.closed ideal e

-- inputs agree: one input begins the other, and a shorter one's console is still open
abbrev pub Begins : List ℕ → Bool → List ℕ → Type 0
Begins i closed j = (more : List ℕ) × (i ++ more ≡ j) × (length i < length j → closed ≡ false)

abbrev pub Agree : List ℕ → Bool → List ℕ → Bool → Type 0
Agree i c j d = Begins i c j ⊎ Begins j d i

pub record SameFive (s t : Stand) : Type 0 where
  pub regs : s.state.core.regs ≡ t.state.core.regs
  pub flags : s.state.core.flags ≡ t.state.core.flags
  pub place : s.state.core.place ≡ t.state.core.place
  pub cells : s.state.core.cells ≡ t.state.core.cells
  pub output : output_of s ≡ output_of t

-- two jobs that start alike, with agreeing inputs
pub record Alike (s t : Stand) : Type 0 where
  pub at_equal_counts : s.count ≡ t.count → SameFive s t
  pub both_ended : (e f : Ending) → s.ended ≡ over e → t.ended ≡ over f → (s.count ≡ t.count) × (e ≡ f)

-- the law of a job against every other
abbrev pub LikeAnyOther : List Bool → List ℕ → Con → List Ask → Stand → List Reply → Type 0
LikeAnyOther marks cells k asks s replies =
    k.held ≡ [] →
    (l : Con) (room : ℕ) (others : List Ask) (t : Stand) (told : List Reply) →
    l.held ≡ [] →
    Listed marks others (first_stand cells l room) t told →
    Agree (input_of k asks replies) s.state.con.closed (input_of l others told) t.state.con.closed →
    Alike s t

-- the steps of a run against its budget, by why it stopped
abbrev pub KeptTo : ℕ → ℕ → Stop → Type 0
KeptTo budget steps Spent = steps ≡ budget
KeptTo budget steps Waiting = steps < budget
KeptTo budget steps Full = steps < budget
KeptTo budget steps (Finished e) = EndedWithin budget steps e

-- no accepted run passes its budget; one that stops short of it says which of the three reasons it has
-- (with the states, StopsShort of each run in the chain of calls says when it stops short)
pub data BudgetsKept : List Ask → List Reply → Type 0 where
  no_call : BudgetsKept [] []
  a_run : {budget steps : ℕ} {why : Stop} {asks : List Ask} {replies : List Reply} → steps ≤ budget → KeptTo budget steps why →
      BudgetsKept asks replies → BudgetsKept (run budget ∷ asks) (ran steps why ∷ replies)
  another : {c : Ask} {a : Reply} {asks : List Ask} {replies : List Reply} → ((steps : ℕ) (why : Stop) → a ≢ ran steps why) →
      BudgetsKept asks replies → BudgetsKept (c ∷ asks) (a ∷ replies)

-- a list of calls has no other outcome
abbrev pub OnlyList : List Bool → List ℕ → Con → ℕ → List Ask → Stand → List Reply → Type 0
OnlyList marks cells k room asks s replies =
    (t : Stand) (told : List Reply) → Listed marks asks (first_stand cells k room) t told → (s ≡ t) × (replies ≡ told)
