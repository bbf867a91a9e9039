-- Putting text after text into a line.
use Rattle.std.proofs.Common.{◌≡◌, ℕ, zero, suc, ◌+◌, ◌<◌, ◌≤◌, List, [], ◌∷◌, ◌++◌, length, take, min, sym, refl, ap, ◌∙◌, append_assoc, arith}
use Rattle.std.proofs.lemmas.List.{take_all, take_min, take_at, length-append}
use Rattle.std.proofs.Math.Seq.{take-append-add}
use Rattle.lines.specs.Texts.{clipped}

-- what has room
pub put_room : (a b : List ℕ) (k : ℕ) → k + length a ≡ 64 → clipped a b ≡ a ++ take (min k (length b)) b
unfolding clipped
put_room a b k h =
    let e : 64 ≡ length a + k = omega arith in
    ap (λ n. take n (a ++ b)) e ∙ take-append-add a b k ∙ ap (λ t. a ++ t) (sym (take_min k b))

-- one byte, where it has room, and where it has none
pub put_one : (a : List ℕ) (b : ℕ) → length a < 64 → clipped a (b ∷ []) ≡ a ++ b ∷ []
unfolding clipped
put_one a b h = take_all 64 (a ++ b ∷ []) (rw length-append (omega arith))

pub put_none : (a : List ℕ) (b : ℕ) → length a ≡ 64 → clipped a (b ∷ []) ≡ a
unfolding clipped
put_none a b h = take_at a (b ∷ []) 64 h

take-append-take : (n : ℕ) (a b : List ℕ) → take n (take n a ++ b) ≡ take n (a ++ b)
take-append-take zero a b = refl
take-append-take (suc n) [] b = refl
take-append-take (suc n) (x ∷ a) b = ap (λ l. x ∷ l) (take-append-take n a b)

-- a text put after another
pub clipped_twice : (a b c : List ℕ) → clipped (clipped a b) c ≡ clipped a (b ++ c)
unfolding clipped
clipped_twice a b c = take-append-take 64 (a ++ b) c ∙ ap (take 64) (append_assoc a b c)

-- all of a text that has room
pub whole : (a : List ℕ) → length a ≤ 64 → clipped [] a ≡ a
unfolding clipped
whole a h = take_all 64 a h
