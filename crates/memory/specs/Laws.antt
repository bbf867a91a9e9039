-- The laws of a memory hold of a lent slice and of two memories as one.
-- Assumes nothing.
use Rattle.std.specs.Prelude.{◌≡◌, ℕ, ◌+◌, ◌≤◌, min, Bool, List, [], ◌++◌, length, nat_le}
use Rattle.std.proofs.Common.{ap, ◌∙◌, arith, lit≤, length-take, length-append}
use Rattle.std.proofs.lemmas.Bool.{cond_both, leb-true}
use Rattle.memory.specs.Cells.{join}
use Rattle.memory.specs.Slices.{lent}

pub lent_bounded : (xs : List ℕ) → length (lent xs) ≤ 65536
lent_bounded xs =
    cond_both (nat_le (length xs) 65536) xs [] (λ l. length l ≤ 65536) (λ e. leb-true (length xs) 65536 e) (λ _. lit≤ tt)

pub length-join : {X : Type 0} (xs ys : List X) → length (join xs ys) ≡ min 65536 (length xs + length ys)
length-join xs ys = length-take 65536 (xs ++ ys) ∙ ap (min 65536) (length-append xs ys)

pub join_bounded : (xs ys : List ℕ) → length (join xs ys) ≤ 65536
join_bounded xs ys = omega (arith, length-join xs ys)

pub join_marked : (ms : List Bool) (xs : List ℕ) (ns : List Bool) (ys : List ℕ)
    → length ms ≡ length xs → length ns ≡ length ys → length (join ms ns) ≡ length (join xs ys)
join_marked ms xs ns ys e f = omega (arith, length-join ms ns, length-join xs ys)
