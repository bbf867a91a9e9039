-- What a work slice holds, from the cells of the memory that joins it to fixed cells.
-- Assumes nothing.
use Rattle.std.proofs.Common.{◌≡◌, ℕ, ◌+◌, ◌-◌, ◌<◌, ◌≤◌, Bool, true, false, cond, List, ◌++◌, length, get_or, drop, set, replicate, sym, refl, ap, ◌∙◌, subst, ⊎_elim, arith, length-append, length-set}
use Rattle.std.proofs.lemmas.List.{append-nil, append_assoc, take-append-drop, drop_at, set-append_left, set-append_right, get_or_past, get_or-replicate, length-replicate}
use Rattle.std.proofs.lemmas.Bool.{both_ways, cases_lt, cond_both}
use Rattle.std.proofs.lemmas.Bool.Decides.{nat_tests}
use Rattle.memory.specs.Cells.{join, after_write}
use Rattle.memory.specs.Laws.{join_marked}
use Rattle.memory.specs.Slices.{lent, left_out, work_marks, beyond, work_of, work_after}
use Rattle.memory.proofs.Borders.{get_or_first}

-- the cells and the bytes that are none are the whole slice
lent_whole : (xs : List ℕ) → lent xs ++ left_out xs ≡ xs
lent_whole xs = grind (arith, nat_tests, append-nil)

-- the cells and the bytes beyond are the fixed cells and the whole work
whole : (fixed work : List ℕ) → join fixed (lent work) ++ beyond fixed work ≡ fixed ++ work
whole fixed work =
    sym (append_assoc (join fixed (lent work)) (drop 65536 (fixed ++ lent work)) (left_out work))
    ∙ ap (λ l. l ++ left_out work) (take-append-drop 65536 (fixed ++ lent work))
    ∙ append_assoc fixed (lent work) (left_out work)
    ∙ ap (λ l. fixed ++ l) (lent_whole work)

length_whole : (fixed work : List ℕ) → length (join fixed (lent work)) + length (beyond fixed work) ≡ length fixed + length work
length_whole fixed work =
    sym (length-append (join fixed (lent work)) (beyond fixed work)) ∙ ap length (whole fixed work) ∙ length-append fixed work

same_size : (cells rest fixed work cells' rest' fixed' work' : ℕ)
    → cells + rest ≡ fixed + work → cells' + rest' ≡ fixed' + work'
    → cells' ≡ cells → rest' ≡ rest → work' ≡ work → fixed' ≡ fixed
same_size cells rest fixed work cells' rest' fixed' work' e f c r w = omega arith

module _ (fixed work : List ℕ) where
  -- a work slice is told by as many cells, with the same bytes beyond them
  pub work_held : (fixed' work' cells : List ℕ) → join fixed' (lent work') ≡ cells
      → length cells ≡ length (join fixed (lent work)) → length work' ≡ length work
      → beyond fixed' work' ≡ beyond fixed work → work' ≡ work_of fixed work cells
  work_held fixed' work' cells e l n b =
      let size = same_size _ _ _ _ _ _ _ _ (length_whole fixed work) (length_whole fixed' work') (ap length e ∙ l) (ap length b) n in
      sym (drop_at fixed' work' (length fixed) size)
      ∙ ap (drop (length fixed)) (sym (whole fixed' work') ∙ ap (λ k. k ++ beyond fixed' work') e ∙ ap (λ k. cells ++ k) b)

  pub work_same : work_of fixed work (join fixed (lent work)) ≡ work
  work_same = ap (drop (length fixed)) (whole fixed work) ∙ drop_at fixed work (length fixed) refl

-- of marks that are shut and then open, cut, only places of the second are open
module _ (m n at : ℕ) (s : m ≤ 65536) (e : get_or (join (replicate m false) (replicate n true)) at false ≡ true) where
  open_second : m ≤ at
  open_second =
      ⊎_elim
      (λ h. absurd (both_ways _
      (get_or_first (replicate m false) (replicate n true) at (rw length-replicate h) (rw length-replicate s) false
      ∙ get_or-replicate m at false false h) e))
      (λ h. h) (cases_lt at m)

  open_within : at < length (join (replicate m false) (replicate n true))
  open_within = grind (arith, get_or_past)

-- both ways of a write
either : (b : Bool) {X : Type 0} (f : List ℕ → X) (put cells : List ℕ) (x y : X)
    → (b ≡ true → f put ≡ x) → f cells ≡ y → f (cond b put cells) ≡ cond b x y
either true f put cells x y p q = p refl
either false f put cells x y p q = q

module _ (fixed work : List ℕ) (s : length fixed ≤ 65536) (at byte : ℕ) where
  work_put : get_or (work_marks fixed work) at false ≡ true
      → work_of fixed work (set (join fixed (lent work)) at byte) ≡ set work (at - length fixed) byte
  work_put e =
      let marked =
      join_marked (replicate (length fixed) false) fixed (replicate (length (lent work)) true) (lent work)
      (length-replicate (length fixed) false) (length-replicate (length (lent work)) true)
      in
      let within = open_within (length fixed) (length (lent work)) at s e in
      let second = open_second (length fixed) (length (lent work)) at s e in
      ap (drop (length fixed))
      (sym (set-append_left (join fixed (lent work)) (beyond fixed work) at byte (subst (λ k. at < k) marked within))
      ∙ ap (λ l. set l at byte) (whole fixed work)
      ∙ set-append_right fixed work (length fixed) at byte refl second)
      ∙ drop_at fixed (set work (at - length fixed) byte) (length fixed) refl

  pub work_written : (fixed' work' : List ℕ)
      → join fixed' (lent work') ≡ after_write (work_marks fixed work) (join fixed (lent work)) at byte
      → length work' ≡ length work → beyond fixed' work' ≡ beyond fixed work → work' ≡ work_after fixed work at byte
  work_written fixed' work' e n b =
      let mark = get_or (work_marks fixed work) at false in
      let cells = join fixed (lent work) in
      work_held fixed work fixed' work' _ e
      (cond_both mark _ _ (λ l. length l ≡ length cells) (λ _. length-set cells at byte) (λ _. refl)) n b
      ∙ either mark (work_of fixed work) (set cells at byte) cells _ _ work_put (work_same fixed work)
