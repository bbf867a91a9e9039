-- The listing of an image: for each word its line, and a byte at a time where there is no legal word.
use Rattle.std.specs.Prelude.{ℕ, cond, List, [], ◌∷◌, ◌++◌, length, Some, None, codes, decimal, Option, nat_le}
use Rattle.isa.specs.declared.instruction.Instruction.{Instruction}
use Rattle.isa.specs.Words.{decoded}
use Rattle.lines.specs.Lines.{line_of}

-- a line for each byte
abbrev pub byte_line : ℕ → List ℕ
byte_line b = codes "(byte " ++ (decimal b ++ codes ")\n")

abbrev pub byte_lines : List ℕ → List ℕ
byte_lines [] = []
byte_lines (b ∷ bs) = byte_line b ++ byte_lines bs

-- the line of a word, or the lines of its bytes where it is not legal
abbrev pub lines_as : Option Instruction → List ℕ → List ℕ
lines_as (Some i) w = line_of i ++ codes "\n"
lines_as None w = byte_lines w

abbrev pub word_lines : List ℕ → List ℕ
word_lines w = lines_as (decoded w) w

-- word after word; what is left at the end, fewer than four bytes, byte by byte
unfoldable pub listing_of : List ℕ → List ℕ
listing_of [] = []
listing_of (a ∷ []) = byte_lines (a ∷ [])
listing_of (a ∷ b ∷ []) = byte_lines (a ∷ b ∷ [])
listing_of (a ∷ b ∷ c ∷ []) = byte_lines (a ∷ b ∷ c ∷ [])
listing_of (a ∷ b ∷ c ∷ d ∷ rest) = word_lines (a ∷ b ∷ c ∷ d ∷ []) ++ listing_of rest

-- what is printed of an image: a refusal where it is above 65,536 bytes
abbrev pub printed : List ℕ → List ℕ
printed image = cond (nat_le (length image) 65536) (listing_of image) (codes "(refused 4 (line 0))\n")
