-- One list after another, cut after 65536: what stands at a place, and what a write there leaves.
-- Assumes nothing.
use Rattle.std.proofs.Common.{◌≡◌, ℕ, ◌-◌, ◌<◌, ◌≤◌, Bool, true, false, cond, ltb, List, ◌++◌, length, get_or, take, drop, set, Err, sym, refl, ap, ◌∙◌, arith}
use Rattle.std.proofs.Math.Seq.{take-set-lt}
use Rattle.std.proofs.lemmas.List.{get_or-take, get_or_append_left, get_or-append_right, get_or_past, set-append_left, set-append_right, drop-set-lt}
use Rattle.std.proofs.lemmas.Bool.{cond_both}
use Rattle.std.proofs.lemmas.Bool.Decides.{nat_tests}
use Rattle.memory.specs.declared.cells.CellFault.TheVariants.{Outside}
use Rattle.memory.specs.Laws.{length-join}
use Rattle.memory.specs.Cells.{read_at, write_says, after_write, join}
use Rattle.memory.specs.Slices.{Loans, joined_loans}

-- at a place of the first list
module _ {X : Type 0} (xs ys : List X) (at : ℕ) (h : at < length xs) (s : length xs ≤ 65536) where
  pub get_or_first : (d : X) → get_or (join xs ys) at d ≡ get_or xs at d
  get_or_first d = get_or-take 65536 (xs ++ ys) at d (omega arith) ∙ get_or_append_left xs ys d at h

  set_first : (x : X) → set (join xs ys) at x ≡ join (set xs at x) ys
  set_first x =
      sym (take-set-lt 65536 (xs ++ ys) at x (omega arith)) ∙ ap (take 65536) (set-append_left xs ys at x h)

  cut_first : (x : X) → drop 65536 (set xs at x ++ ys) ≡ drop 65536 (xs ++ ys)
  cut_first x =
      ap (drop 65536) (sym (set-append_left xs ys at x h)) ∙ drop-set-lt 65536 (xs ++ ys) at x (omega arith)

  within_first : ltb at (length (join xs ys)) ≡ ltb at (length xs)
  within_first = rw length-join (grind (arith, nat_tests))

-- at a place of the second list
module _ {X : Type 0} (xs ys : List X) (at : ℕ) (h : length xs ≤ at) (s : at < 65536) where
  get_or_second : (d : X) → get_or (join xs ys) at d ≡ get_or ys (at - length xs) d
  get_or_second d = get_or-take 65536 (xs ++ ys) at d s ∙ get_or-append_right xs ys (length xs) at d refl h

  both_set : (x : X) → set (xs ++ ys) at x ≡ xs ++ set ys (at - length xs) x
  both_set x = set-append_right xs ys (length xs) at x refl h

  set_second : (x : X) → set (join xs ys) at x ≡ join xs (set ys (at - length xs) x)
  set_second x = sym (take-set-lt 65536 (xs ++ ys) at x s) ∙ ap (take 65536) (both_set x)

  cut_second : (x : X) → drop 65536 (xs ++ set ys (at - length xs) x) ≡ drop 65536 (xs ++ ys)
  cut_second x = ap (drop 65536) (sym (both_set x)) ∙ drop-set-lt 65536 (xs ++ ys) at x s

  within_second : ltb at (length (join xs ys)) ≡ ltb (at - length xs) (length ys)
  within_second = rw length-join (grind (arith, nat_tests))

-- beyond the cut
module _ {X : Type 0} (xs ys : List X) (at : ℕ) (h : 65536 ≤ at) where
  get_or_neither : (d : X) → get_or (join xs ys) at d ≡ d
  get_or_neither d = get_or_past (join xs ys) at d (omega (arith, length-join xs ys))

  within_neither : ltb at (length (join xs ys)) ≡ false
  within_neither = rw length-join (grind (arith, nat_tests))

-- reads
module _ (xs ys : List ℕ) (at : ℕ) where
  pub read_first : at < length xs → length xs ≤ 65536 → read_at (join xs ys) at ≡ read_at xs at
  read_first h s = rw (within_first xs ys at h s, get_or_first xs ys at h s 0)

  pub read_second : (place : ℕ) → length xs ≤ at → at < 65536 → place ≡ at - length xs → read_at (join xs ys) at ≡ read_at ys place
  read_second place h s p = rw (within_second xs ys at h s, get_or_second xs ys at h s 0, p)

  pub read_neither : 65536 ≤ at → read_at (join xs ys) at ≡ Err Outside
  read_neither h = rw (within_neither xs ys at h)

-- what a write says
module _ (ms ns : List Bool) (at : ℕ) where
  pub says_first : at < length ms → length ms ≤ 65536 → write_says (join ms ns) at ≡ write_says ms at
  says_first h s = rw (within_first ms ns at h s, get_or_first ms ns at h s false)

  pub says_second : (place : ℕ) → length ms ≤ at → at < 65536 → place ≡ at - length ms → write_says (join ms ns) at ≡ write_says ns place
  says_second place h s p = rw (within_second ms ns at h s, get_or_second ms ns at h s false, p)

  pub says_neither : 65536 ≤ at → write_says (join ms ns) at ≡ Err Outside
  says_neither h = rw (within_neither ms ns at h)

-- both sides of a test
either : {Y Z : Type 0} (f : Y → Z) (b : Bool) (y z : Y) → cond b (f y) (f z) ≡ f (cond b y z)
either f true y z = refl
either f false y z = refl

-- what a write leaves, and that it leaves what was cut off
module _ (ms ns : List Bool) (xs ys : List ℕ) (at x : ℕ) (e : length ms ≡ length xs) where
  module _ (h : at < length xs) (s : length xs ≤ 65536) where
    pub after_first : after_write (join ms ns) (join xs ys) at x ≡ join (after_write ms xs at x) ys
    after_first =
        rw (get_or_first ms ns at (omega arith) (omega arith) false, set_first xs ys at h s x)
        (either (λ k. join k ys) (get_or ms at false) (set xs at x) xs)

    pub rest-first : drop 65536 (after_write ms xs at x ++ ys) ≡ drop 65536 (xs ++ ys)
    rest-first = cond_both (get_or ms at false) _ _ (λ k. drop 65536 (k ++ ys) ≡ drop 65536 (xs ++ ys)) (λ _. cut_first xs ys at h s x) (λ _. refl)

  module _ (h : length xs ≤ at) (s : at < 65536) where
    pub after-second : after_write (join ms ns) (join xs ys) at x ≡ join xs (after_write ns ys (at - length xs) x)
    after-second =
        rw (get_or_second ms ns at (omega arith) s false, set_second xs ys at h s x, e)
        (either (λ k. join xs k) (get_or ns (at - length xs) false) (set ys (at - length xs) x) ys)

    pub rest-second : drop 65536 (xs ++ after_write ns ys (at - length xs) x) ≡ drop 65536 (xs ++ ys)
    rest-second = cond_both (get_or ns (at - length xs) false) _ _ (λ k. drop 65536 (xs ++ k) ≡ drop 65536 (xs ++ ys)) (λ _. cut_second xs ys at h s x) (λ _. refl)

pub after_neither : (ms ns : List Bool) (xs ys : List ℕ) (at x : ℕ) → 65536 ≤ at
    → after_write (join ms ns) (join xs ys) at x ≡ join xs ys
after_neither ms ns xs ys at x h = rw (get_or_neither ms ns at h false)

-- the loans of two memories as one stay if the memory that is written keeps its own
module _ (xs ys : List ℕ) (f s : Loans) (zs : List ℕ) (t : Loans) where
  pub loans_first : drop 65536 (zs ++ ys) ≡ drop 65536 (xs ++ ys) → t ≡ f → joined_loans zs ys t s ≡ joined_loans xs ys f s
  loans_first e p = ap (λ l. (t.0 ++ s.0, l ++ (t.1 ++ s.1))) e ∙ ap (λ u. joined_loans xs ys u s) p

  pub loans_second : drop 65536 (xs ++ zs) ≡ drop 65536 (xs ++ ys) → t ≡ s → joined_loans xs zs f t ≡ joined_loans xs ys f s
  loans_second e p = ap (λ l. (f.0 ++ t.0, l ++ (f.1 ++ t.1))) e ∙ ap (λ u. joined_loans xs ys f u) p
