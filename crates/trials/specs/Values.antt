-- Worked values, all of them proved.
use Rattle.std.specs.Prelude.{◌≡◌, ℕ, List, [], ◌∷◌, None, codes}
use Rattle.arith.specs.Values.{ArithmeticValues}
use Rattle.isa.specs.Words.{decoded}
use Rattle.lines.specs.Lines.{HasLine}

abbrev pub word : ℕ → ℕ → ℕ → ℕ → List ℕ
word op x y z = op ∷ x ∷ y ∷ z ∷ []

-- four words with their lines, and two that are not legal
abbrev pub words : List (List ℕ)
words =
    word 0x30 0x01 0x02 0xFF ∷
    word 0x18 0xF8 0x02 0x03 ∷
    word 0x41 0xFF 0xFF 0xFE ∷
    word 0x3C 0x80 0x02 0x03 ∷
    word 0xFF 0x00 0x00 0x01 ∷
    word 0x32 0x01 0x02 0x03 ∷ []

abbrev pub WordValues : Type 0
WordValues =
    HasLine (word 0x30 0x01 0x02 0xFF) (codes "(addq %1 %2 %255)")
    × HasLine (word 0x18 0xF8 0x02 0x03) (codes "(movq (-8 %2) %3)")
    × HasLine (word 0x41 0xFF 0xFF 0xFE) (codes "(jmp -8)")
    × HasLine (word 0x3C 0x80 0x02 0x03) (codes "(imulq -128 %2 %3)")
    × (decoded (word 0xFF 0x00 0x00 0x01) ≡ None)
    × (decoded (word 0x32 0x01 0x02 0x03) ≡ None)

-- the whole list
abbrev pub TrialValues : Type 0
TrialValues = WordValues × ArithmeticValues
