-- Every store keeps to its laws.
-- Assumes nothing.
use Rattle.std.proofs.Common.{◌≡◌, ℕ, zero, suc, ◌+◌, ◌-◌, ◌*◌, ◌/◌, ◌%◌, ◌^◌, ◌<◌, ◌≤◌, Bool, true, false, ◌⊎◌, List, length, get_or, take, drop, Ok, Err, Result, sym, refl, ap, ◌∙◌, arith, length-append, length-drop}
use Rattle.arith.specs.declared.width.Extension.{Extension}
use Rattle.arith.specs.declared.width.Width.{Width}
use Rattle.arith.specs.Widths.{bytes_of}
use Rattle.access.specs.declared.fault.Access.{Access}
use Rattle.access.specs.declared.fault.AccessFault.{AccessFault}
use Rattle.access.specs.declared.fault.Cause.{Cause}
use Rattle.access.specs.Faults.{told}
use Rattle.access.specs.Stores.{Stores}
use Rattle.access.specs.Transfers.{found, widely, loaded, all_open, storable, store_says, low_bytes, over, if_done, after_store}
use Rattle.access.proofs.Puts.{open_each}
use Rattle.std.proofs.lemmas.Nat.{mod-pow-add}
use Rattle.std.proofs.lemmas.Int.Digits.{number_push}
use Rattle.std.proofs.lemmas.List.{length-take, length-take-le, drop_at, take_at, get_or_append_left, get_or-append_right, get_or-take, get_or-drop}
use Rattle.std.proofs.lemmas.Bool.Decides.{nat_tests}
use Rattle.std.specs.Int.Digits.{number_from_digits}

length-low : (n v : ℕ) → length (low_bytes n v) ≡ n
length-low zero v = refl
length-low (suc n) v = grind (arith, length-append, length-low n (v / 256))

number_low : (n v : ℕ) → number_from_digits 256 (low_bytes n v) ≡ v % 2 ^ (8 * n)
number_low zero v = omega arith
number_low (suc n) v = grind (arith, number_push, mod-pow-add v (8 * n) 8, number_low n (v / 256))

-- the cells with a value over n of them
module _ (cells : List ℕ) (at n v : ℕ) (room : at + n ≤ length cells) where
  length_over : length (over cells at n v) ≡ length cells
  length_over = simp (length-append, length-drop, length-take, length-low) (omega arith)

  bytes_over : take n (drop at (over cells at n v)) ≡ low_bytes n v
  bytes_over = grind (arith, drop_at, take_at, length-low, length-take-le)

  found_over : at % n ≡ 0 → found (over cells at n v) at n ≡ Ok (v % 2 ^ (8 * n))
  found_over e = grind (arith, nat_tests, bytes_over, length_over, number_low)

  others_over : (k : ℕ) → (k < at) ⊎ (at + n ≤ k) → get_or (over cells at n v) k 0 ≡ get_or cells k 0
  others_over k h = grind (arith, get_or_append_left, get_or-append_right, get_or-take, get_or-drop, length-low, length-take-le)

-- the answer of a store tells whether the cells may be written
told_ok : (at : ℕ) (width : Width) (s : Result Unit Cause) → told Access.Store at width s ≡ Ok tt → s ≡ Ok tt
told_ok at width (Ok tt) e = refl
told_ok at width (Err why) e = cc

told_err : (at : ℕ) (width : Width) (s : Result Unit Cause) (fault : AccessFault) (after before : List ℕ)
    → told Access.Store at width s ≡ Err fault → if_done s after before ≡ before
told_err at width s fault after before e = grind arith

-- the place of a shut cell is none of n open ones
apart : (marks : List Bool) (at n k : ℕ) → all_open marks at n ≡ true → get_or marks k false ≡ false → (k < at) ⊎ (at + n ≤ k)
apart marks at n k e h = grind (arith, open_each marks at n (k - at))

module _ (marks : List Bool) (cells : List ℕ) (marked : length marks ≡ length cells) (at n v : ℕ) where
  found_after : storable marks at n ≡ Ok tt → found (after_store marks cells at n v) at n ≡ Ok (v % 2 ^ (8 * n))
  found_after e = grind (arith, nat_tests, found_over)

  others_after : (k : ℕ) → (k < at) ⊎ (at + n ≤ k) → get_or (after_store marks cells at n v) k 0 ≡ get_or cells k 0
  others_after k h = grind (arith, nat_tests, others_over)

  shut_after : (k : ℕ) → get_or marks k false ≡ false → get_or (after_store marks cells at n v) k 0 ≡ get_or cells k 0
  shut_after k h = grind (arith, nat_tests, others_over, apart)

  size_after : length (after_store marks cells at n v) ≡ length cells
  size_after = grind (arith, nat_tests, length_over)

module _ (marks : List Bool) (cells : List ℕ) (marked : length marks ≡ length cells) (at : ℕ) (width : Width) (v : ℕ) where
  pub keeps : (after : List ℕ) (answer : Result Unit AccessFault)
      → after ≡ after_store marks cells at (bytes_of width) v → answer ≡ store_says marks at width
      → Stores marks cells after at width v answer
  keeps after answer e f =
      let n = bytes_of width in
      let s = storable marks at n in
      record {
        loads =
            λ a. ap (λ l. loaded l at width Extension.Zero) e
            ∙ ap (λ r. told Access.Load at width (widely Extension.Zero width r))
            (found_after marks cells marked at n v (told_ok at width s (sym f ∙ a)));
        others = λ k h. ap (λ l. get_or l k 0) e ∙ others_after marks cells marked at n v k h;
        refused = λ fault a. e ∙ told_err at width s fault _ _ (sym f ∙ a);
        shut = λ k h. ap (λ l. get_or l k 0) e ∙ shut_after marks cells marked at n v k h;
        size = ap length e ∙ size_after marks cells marked at n v;
      }
