-- Bytes that stand side by side in a list, in that list after another and cut.
-- Assumes nothing.
use Rattle.std.proofs.Common.{◌≡◌, ℕ, ◌+◌, ◌-◌, ◌<◌, ◌≤◌, List, ◌++◌, length, take, drop, sym, ap, ◌∙◌, arith, length-drop, length-take}
use Rattle.std.proofs.lemmas.List.{drop-take, take-take, take_all, take-append-le, drop-append-le}
use Rattle.std.proofs.Math.Seq.{drop-append-add}
use Rattle.memory.specs.Cells.{join}

-- what is left of a list that is cut
left : (xs : List ℕ) (at n : ℕ) → at ≤ n → drop at (take n xs) ≡ take (n - at) (drop at xs)
left xs at n h = ap (λ k. drop at (take k xs)) (let e : n ≡ at + (n - at) = omega arith in e) ∙ drop-take at (n - at) xs

pub stretch-first : (xs ys zs : List ℕ) (at : ℕ) → at < length xs → length xs ≤ 65536
    → zs ≡ take (length zs) (drop at xs) → zs ≡ take (length zs) (drop at (join xs ys))
stretch-first xs ys zs at h s z =
    let size : length zs ≤ length (drop at xs) = omega (arith, ap length z ∙ length-take (length zs) (drop at xs)) in
    let room : length zs ≤ 65536 - at = omega (arith, length-drop at xs) in
    z
    ∙ sym (take-append-le (length zs) (drop at xs) ys size)
    ∙ ap (take (length zs)) (sym (drop-append-le at xs ys (omega arith)))
    ∙ sym (take-take (length zs) (65536 - at) (drop at (xs ++ ys)) room)
    ∙ ap (take (length zs)) (sym (left (xs ++ ys) at 65536 (omega arith)))

-- the front of a front
cut : (us ls : List ℕ) (m : ℕ) → us ≡ take (length us) ls → take m us ≡ take (length (take m us)) (take m ls)
cut us ls m u = grind (arith, take-take, take_all, length-take)

pub stretch-second : (xs ys us : List ℕ) (at : ℕ) → length xs ≤ at → at < 65536
    → us ≡ take (length us) (drop (at - length xs) ys) → take (65536 - at) us ≡ take (length (take (65536 - at) us)) (drop at (join xs ys))
stretch-second xs ys us at h s u =
    let whole : drop at (xs ++ ys) ≡ drop (at - length xs) ys = ap (λ k. drop k (xs ++ ys)) (let p : at ≡ length xs + (at - length xs) = omega arith in p) ∙ drop-append-add xs ys (at - length xs) in
    cut us (drop (at - length xs) ys) (65536 - at) u
    ∙ ap (λ l. take (length (take (65536 - at) us)) (take (65536 - at) l)) (sym whole)
    ∙ ap (take (length (take (65536 - at) us))) (sym (left (xs ++ ys) at 65536 (omega arith)))
