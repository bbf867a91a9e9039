-- The listing of an image as the lines of its words and those of the bytes that are left.
use Rattle.std.proofs.Common.{◌≡◌, ℕ, zero, suc, ◌+◌, ◌*◌, ◌/◌, ◌<◌, ◌≤◌, List, [], ◌∷◌, ◌++◌, length, drop, sym, ap, ◌∙◌, append_assoc, arith, rules}
use Rattle.std.specs.Simd.{first_chunks}
use Rattle.disassembler.specs.Listings.{byte_lines, word_lines, listing_of}

-- the lines of words one after another
abbrev pub all_lines : List (List ℕ) → List ℕ
all_lines [] = []
all_lines (w ∷ ws) = word_lines w ++ all_lines ws

few_left : (xs : List ℕ) → length xs < 4 → listing_of xs ≡ byte_lines xs
unfolding listing_of
few_left xs h = search rules

listed : (k : ℕ) (xs : List ℕ) → k * 4 ≤ length xs → length xs < k * 4 + 4 → listing_of xs ≡ all_lines (first_chunks 4 k xs) ++ byte_lines (drop (k * 4) xs)
unfolding listing_of
listed zero xs h g = few_left xs g
listed (suc k) [] h g = absurd (let z : ⊥ = omega arith in z)
listed (suc k) (a ∷ []) h g = absurd (let z : ⊥ = omega arith in z)
listed (suc k) (a ∷ b ∷ []) h g = absurd (let z : ⊥ = omega arith in z)
listed (suc k) (a ∷ b ∷ c ∷ []) h g = absurd (let z : ⊥ = omega arith in z)
listed (suc k) (a ∷ b ∷ c ∷ d ∷ rest) h g =
    let word = a ∷ b ∷ c ∷ d ∷ [] in
    let e : suc k * 4 ≡ suc (suc (suc (suc (k * 4)))) = omega arith in
    rw e
    (ap (λ l. word_lines word ++ l) (listed k rest (omega arith) (omega arith))
    ∙ sym (append_assoc (word_lines word) (all_lines (first_chunks 4 k rest)) (byte_lines (drop (k * 4) rest))))

-- the lines of an image's words, and of the bytes left of it
pub all_listed : (xs : List ℕ) (ws : List (List ℕ)) (rest : List ℕ) → ws ≡ first_chunks 4 (length xs / 4) xs → rest ≡ drop (length xs / 4 * 4) xs → all_lines ws ++ byte_lines rest ≡ listing_of xs
all_listed xs ws rest e f = rw e (rw f (sym (listed (length xs / 4) xs (omega arith) (omega arith))))
