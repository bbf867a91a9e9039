-- One byte less to put, and what is known once a store is allowed.
-- Assumes nothing.
use Rattle.std.proofs.Common.{◌≡◌, ℕ, zero, suc, ◌+◌, ◌-◌, ◌/◌, ◌%◌, ◌<◌, ◌≤◌, Bool, true, false, List, length, get_or, set, Ok, sym, ap, not-suc-le-zero, arith}
use Rattle.memory.specs.Cells.{after_write}
use Rattle.access.specs.Transfers.{all_open, storable, over}
use Rattle.std.proofs.lemmas.List.{append_assoc, take-set-le, drop-set}
use Rattle.std.proofs.lemmas.Bool.{and_parts, cond-true}
use Rattle.std.proofs.lemmas.Bool.Decides.{nat_tests}

pub open_each : (marks : List Bool) (at n k : ℕ) → all_open marks at n ≡ true → k < n → get_or marks (at + k) false ≡ true
open_each marks at zero k e h = absurd (not-suc-le-zero h)
open_each marks at (suc n) k e h = grind (arith, and_parts, open_each marks at n k)

pub allowed : (marks : List Bool) (at n : ℕ) (u : Unit {0}) → Ok u ≡ storable marks at n
    → (at % n ≡ 0) × (at + n ≤ length marks) × (all_open marks at n ≡ true)
allowed marks at n u e = grind (arith, nat_tests)

over_next : (cells : List ℕ) (at n v : ℕ) → 0 < n → at + n ≤ length cells
    → over cells at n v ≡ over (set cells (at + (n - 1)) (v % 256)) at (n - 1) (v / 256)
over_next cells at zero v h l = absurd (not-suc-le-zero h)
over_next cells at (suc n) v h l = grind (arith, append_assoc, take-set-le, drop-set)

-- the last of so many cells is written, and the rest of the value is put into those before it
pub put_next : (first marks : List Bool) (cells : List ℕ) (at size k v : ℕ) → marks ≡ first → length marks ≡ length cells
    → at + size ≤ length first → all_open first at size ≡ true → 0 < k → k ≤ size
    → over (after_write marks cells (at + (k - 1)) (v % 256)) at (k - 1) (v / 256) ≡ over cells at k v
put_next first marks cells at size k v e marked room all some most =
    let mark : get_or marks (at + (k - 1)) false ≡ true = rw e (open_each first at size (k - 1) all (omega arith)) in
    rw (cond-true _ (set cells (at + (k - 1)) (v % 256)) cells mark) (sym (over_next cells at k v some (omega (arith, ap length e))))
