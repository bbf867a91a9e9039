-- The chain of calls, one call longer with each turn of perform's loop.
use Rattle.std.proofs.Common.{◌≡◌, ℕ, ◌+◌, ◌-◌, ◌<◌, ◌≤◌, Bool, List, [], ◌∷◌, ◌++◌, length, get_or, take, drop, replicate, vec_items, refl, ◌∙◌, arith}
use Rattle.calls.specs.declared.Performed.{Performed}
use Rattle.std.proofs.lemmas.List.{take_more, take_all, drop-drop}
use Rattle.console.specs.Streams.{Con}
use Rattle.calls.specs.Calls.{Ask, ask_of, asks_of, Reply, reply_of, replies_of, Stand, Called, Listed, none, then, first_stand}
use Rattle.calls.specs.Posts.{Scene, scene, stand_in, MadeSo, PerformedSo}
use Rattle.calls.specs.declared.Job.{Job}
use Rattle.calls.specs.declared.Job.TheVariants as job
use Rattle.calls.specs.declared.Answer.{Answer}
use Rattle.calls.specs.declared.Call.{Call}
use Rattle.job.specs.Jobs.{first_job}
use Rattle.job.specs.declared.Paused.{Paused}
use Rattle.memory.specs.Slices.{Loans}
use Rattle.calls.proofs.Mirror.{mirrors_all, like_all}
use Rattle.calls.proofs.Outcomes.{budgets_all, one_list}

snoc : {marks : List Bool} {cs : List Ask} {s m t : Stand} {rs : List Reply} (c : Ask) (a : Reply) → Listed marks cs s m rs → Called marks c m t a → Listed marks (cs ++ c ∷ []) s t (rs ++ a ∷ [])
snoc c a none d = then d none
snoc c a (then h l) d = then h (snoc c a l d)

pub record Along (marks : List Bool) (loans : Loans) (cells : List ℕ) (k : Con) (whole : List ℕ) (asks : List Ask) (s : Scene) (j : Job) (filled : ℕ) (answers : List Answer) : Type 0 where
  pub kept : s.marks ≡ marks
  pub lent : s.loans ≡ loans
  pub listed : Listed marks asks (first_stand cells k (length whole)) (stand_in s j filled) (replies_of answers)
  pub within : filled ≤ length s.buffer
  pub beyond : drop filled s.buffer ≡ drop filled whole
  pub size : length s.buffer ≡ length whole

later : (xs ys : List ℕ) (a b : ℕ) → a ≤ b → drop a xs ≡ drop a ys → drop b xs ≡ drop b ys
later xs ys a b h e =
    let q : a + (b - a) ≡ b = omega arith in
    rw (← q, ← drop-drop (b - a) a xs, ← drop-drop (b - a) a ys, e)

replies_snoc : (rs : List Answer) (a : Answer) → replies_of (rs ++ a ∷ []) ≡ replies_of rs ++ reply_of a ∷ []
replies_snoc [] a = refl
replies_snoc (x ∷ rs) a = cc (replies_snoc rs a)

asks_snoc : (cs : List Call) (c : Call) → asks_of (cs ++ c ∷ []) ≡ asks_of cs ++ ask_of c ∷ []
asks_snoc [] c = refl
asks_snoc (x ∷ cs) c = cc (asks_snoc cs c)

-- one turn, at the index i
pub turned : {marks : List Bool} {loans : Loans} {cells : List ℕ} {k : Con} {whole : List ℕ} (calls : List Call) (i : ℕ) {s : Scene} {j : Job} {filled : ℕ} {answers : List Answer} (d : Call) {t : Scene} {next : Job} {x : Answer} {upto : ℕ} (all : List Answer) →
    i < length calls →
    Along marks loans cells k whole (asks_of (take i calls)) s j filled answers → MadeSo s j filled (ask_of (get_or calls i d)) t next x upto → all ≡ answers ++ x ∷ [] →
    Along marks loans cells k whole (asks_of (take (i + 1) calls)) t next upto all
turned {whole = whole} calls i {s = s} {filled = filled} {answers = answers} d {x = x} {upto = upto} all lt a made e = record {
  kept = made.marks ∙ a.kept;
  lent = made.loans ∙ a.lent;
  listed = rw (e, take_more calls i d lt, asks_snoc (take i calls) (get_or calls i d), replies_snoc answers x) (snoc (ask_of (get_or calls i d)) (reply_of x) a.listed (rw a.kept at made.called));
  within = made.filled_up.1;
  beyond = made.beyond ∙ later s.buffer whole filled upto made.filled_up.0 a.beyond;
  size = made.size ∙ a.size;
}

pub begun : (marks : List Bool) (loans : Loans) (cells : List ℕ) (k : Con) (whole : List ℕ) (calls : List Call) (regs : List ℕ) (p : Paused) (answers : List Answer) →
    regs ≡ replicate 256 0 → p ≡ first_job → answers ≡ [] →
    Along marks loans cells k whole (asks_of (take 0 calls)) (scene marks loans cells k regs whole) (job.Paused p) 0 answers
begun marks loans cells k whole calls regs p answers r q e =
    let room : length whole - 0 ≡ length whole = omega arith in
    record { kept = refl; lent = refl; listed = rw (r, q, e, room) none; within = omega arith; beyond = refl; size = refl }

-- the end, where the calls are used up: u is what was left by another name
pub ended : (s t u : Scene) (calls : List Call) (i : ℕ) (p : Performed) → t ≡ u → length calls ≤ i →
    Along s.marks s.loans s.cells s.con s.buffer (asks_of (take i calls)) t p.job p.taken (vec_items p.answers) →
    PerformedSo s (asks_of calls) u p
ended s t u calls i p e h a =
    let l = rw (take_all i calls h) at a.listed in
    rw (← e)
    (record {
      marks = a.kept;
      loans = a.lent;
      listed = l;
      mirrors = mirrors_all s.cells s.con (length s.buffer) l;
      like_any_other = like_all s.cells s.con (length s.buffer) l;
      budgets = budgets_all l;
      only = λ u told m. one_list l m;
      within = a.within;
      beyond = a.beyond;
      size = a.size;
    })
