-- A line cut into pieces at its spaces and brackets: how the code reads one. No public promise rests on it.
use Rattle.std.specs.Prelude.{ℕ, ◌+◌, ◌-◌, ◌*◌, ◌%◌, ◌^◌, Bool, false, cond, ◌||◌, List, [], ◌∷◌, drop, ◌==◌, slice_index_or}
use Rattle.std.specs.List.{slice_split, fold}

abbrev pub separates : ℕ → Bool
separates c = c == 32 || (c == 40 || c == 41)

-- the parts between the separators, the empty ones too
unfoldable pub pieces : List ℕ → List (List ℕ)
pieces text = slice_split separates text

-- the piece with an index, and an empty one where there is none
abbrev pub piece : List (List ℕ) → ℕ → List ℕ
piece ps k = slice_index_or ps k []

abbrev pub starts : List ℕ → ℕ → Bool
starts [] b = false
starts (c ∷ cs) b = c == b

-- a number with one digit more after it, and the number that digits write after those that wrote n; modulo 2^32
abbrev pub with_digit : ℕ → ℕ → ℕ
with_digit n c = (n * 10 % 2 ^ 32 + (c + 208) % 256) % 2 ^ 32

abbrev pub digits_after : ℕ → List ℕ → ℕ
digits_after = fold with_digit

-- what a piece says as a register, and as a number with a sign, of which these are the bits
abbrev pub register_value : List ℕ → ℕ
register_value s = cond (starts s 37) (digits_after 0 (drop 1 s) % 2 ^ 8) 0

abbrev pub number_value : List ℕ → ℕ
number_value s = cond (starts s 45) ((2 ^ 32 - digits_after 0 (drop 1 s)) % 2 ^ 32) (digits_after 0 s)
