-- One call of a list, from what the console and the run promise.
use Rattle.std.proofs.Common.{◌≡◌, ℕ, ◌+◌, ◌-◌, ◌≤◌, min, Bool, List, ◌++◌, length, take, drop, sym, refl, ap, ◌∙◌, append_assoc, arith, length-drop, take-append-drop, length-take}
use Rattle.std.proofs.lemmas.List.{drop-drop, drop-append-le}
use Rattle.std.proofs.lemmas.List.Edits.{length-paste, take-paste, drop-paste}
use Rattle.std.proofs.Math.Seq.{paste}
use Rattle.console.specs.Streams.{Con, take_says, after_take}
use Rattle.calls.specs.Calls.{ask_of, ran, refused, RunCalled, made, turned_down}
use Rattle.job.specs.Refusals.{number}
use Rattle.job.specs.Jobs.{Accepted, TurnedDown, state_of_paused, why_of}
use Rattle.job.specs.declared.Refused.{Refused}
use Rattle.calls.specs.Posts.{stand_of, Scene, scene, TookSo, MadeSo}
use Rattle.job.specs.declared.Stop.{Stop}
use Rattle.job.specs.declared.Reason.TheVariants as reason
use Rattle.job.specs.declared.Paused.{Paused}
use Rattle.job.specs.declared.Outcome.{Outcome}
use Rattle.job.specs.declared.Outcome.TheVariants as outcome
use Rattle.calls.specs.declared.Job.{Job}
use Rattle.calls.specs.declared.Job.TheVariants as job
use Rattle.calls.specs.declared.Answer.TheVariants as answer
use Rattle.calls.specs.declared.Call.{Call}
use Rattle.calls.specs.declared.Call.TheVariants as call

abbrev pub job_of : Outcome → Job
job_of (outcome.Paused p why) = job.Paused p
job_of (outcome.Ended d) = job.Ended d

-- a run of a paused job that was made, and one that was refused
module _ (marks : List Bool) (p : Paused) (budget : ℕ) (regs cells : List ℕ) (k : Con) (regs' cells' : List ℕ) (k' : Con) where
  made_so : (steps : ℕ) (o : Outcome) → Accepted marks p (state_of_paused p regs cells k) budget regs' cells' k' (record { steps = steps; outcome = o }) →
      (taken : List ℕ) (room : ℕ) →
      RunCalled marks budget (stand_of (job.Paused p) regs cells k taken room) (stand_of (job_of o) regs' cells' k' taken room) (ran steps (why_of o))
  made_so steps (outcome.Paused q reason.Spent) a taken room = made refl a.allowed a.runs a.short (rw a.counted)
  made_so steps (outcome.Paused q reason.Waiting) a taken room = made refl a.allowed a.runs a.short (rw a.counted)
  made_so steps (outcome.Paused q reason.Full) a taken room = made refl a.allowed a.runs a.short (rw a.counted)
  made_so steps (outcome.Ended d) a taken room = made refl a.allowed a.runs a.short (rw a.counted)

  pub ran_so : (steps : ℕ) (o o' : Outcome) (w : Stop) → Accepted marks p (state_of_paused p regs cells k) budget regs' cells' k' (record { steps = steps; outcome = o }) →
      o ≡ o' → w ≡ why_of o' → (taken : List ℕ) (room : ℕ) →
      RunCalled marks budget (stand_of (job.Paused p) regs cells k taken room) (stand_of (job_of o') regs' cells' k' taken room) (ran steps w)
  ran_so steps o o' w a e told taken room = rw told (made_so steps o' (rw e at a) taken room)

  pub refused_so : (r : Refused) → TurnedDown p (state_of_paused p regs cells k) budget regs' cells' k' r → (taken : List ℕ) (room : ℕ) →
      RunCalled marks budget (stand_of (job.Paused p) regs cells k taken room) (stand_of (job.Paused r.job) regs' cells' k' taken room) (refused (number r.refusal))
  refused_so r d taken room = rw d.told (turned_down refl d.too_much cc)

-- a take, from what the console promises of the part of the buffer that it fills: the held bytes are put over the buffer's
pub took_so : (buffer : List ℕ) (filled n room width k : ℕ) (con con' : Con) (into : List ℕ) → filled ≤ length buffer →
    room ≡ min n (length buffer - filled) → width ≡ room →
    k ≡ take_says con (length (take width (drop filled buffer))) → con' ≡ after_take con k →
    into ≡ take k con.held ++ drop k (take width (drop filled buffer)) →
    TookSo con buffer filled n con' (take filled buffer ++ (into ++ drop width (drop filled buffer))) (filled + k) k
took_so buffer filled n room width k con con' into fit er ew ek econ einto = record {
  least = ek ∙ ap (take_says con) (width_is ∙ ew ∙ er);
  after = econ;
  filled_up = refl;
  within = rw pasted (omega (arith, room_left, length-paste buffer filled con.held k room_left held));
  front = rw pasted (take-paste buffer filled con.held k fit held);
  beyond = rw pasted (drop-paste buffer filled con.held k fit held);
  size = rw pasted (length-paste buffer filled con.held k room_left held);
}
  where
    width_is : length (take width (drop filled buffer)) ≡ width
    width_is = simp (length-take, length-drop) (omega arith)

    held : k ≤ length con.held
    held = omega arith

    room_left : filled + k ≤ length buffer
    room_left = omega (arith, width_is)

    left : drop k (take width (drop filled buffer)) ++ drop width (drop filled buffer) ≡ drop (filled + k) buffer
    left =
        sym (drop-append-le k (take width (drop filled buffer)) (drop width (drop filled buffer)) (omega (arith, width_is))) ∙
        ap (drop k) (take-append-drop width (drop filled buffer)) ∙ drop-drop k filled buffer

    pasted : take filled buffer ++ (into ++ drop width (drop filled buffer)) ≡ paste buffer filled con.held k
    pasted = simp (einto, append_assoc, left)

-- such a take as a call of the list
pub took_made : (s : Scene) (filled : ℕ) (c : Call) (j : Job) (n k : ℕ) (con : Con) (buffer : List ℕ) (upto : ℕ) →
    c ≡ call.Take n → TookSo s.con s.buffer filled n con buffer upto k →
    MadeSo s j filled (ask_of c) (scene s.marks s.loans s.cells con s.regs buffer) j (answer.Took k) upto
took_made s filled c j n k con buffer upto ec d =
    let room : length buffer - upto ≡ (length s.buffer - filled) - k = omega (arith, d.size, d.filled_up, d.within) in
    record {
      marks = refl;
      loans = refl;
      called = rw (ec, ← d.least) (cc, refl);
      filled_up = (omega (arith, d.filled_up), d.within);
      beyond = d.beyond;
      size = d.size;
    }
