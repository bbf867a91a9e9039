-- The pieces of a line, operand by operand.
use Rattle.std.proofs.Common.{◌≡◌, ℕ, suc, ◌^◌, ◌<◌, Bool, true, not, ◌&&◌, List, [], ◌∷◌, ◌++◌, ℤ, pos, negsuc, codes, decimal, refl, ap, ◌∙◌, append_assoc, append-nil, arith}
use Rattle.std.specs.Int.Signed.{mag}
use Rattle.std.specs.Fmt.{signed_decimal}
use Rattle.std.specs.List.{list_all}
use Rattle.std.proofs.lemmas.List.Sums.{AllPass-from_list_all}
use Rattle.std.proofs.lemmas.List.Splits.{slice_split_at, slice_split-cons_yes}
use Rattle.std.specs.Str.Parse.{AllDigits}
use Rattle.std.specs.Char.{digit_value}
use Rattle.std.proofs.lemmas.Fmt.{decimal_is_IsNumeral}
use Rattle.std.proofs.lemmas.Bool.{not-true}
use Rattle.std.proofs.lemmas.Bool.Decides.{nat_tests}
use Rattle.isa.specs.declared.opcode.Opcode.{Opcode}
use Rattle.isa.specs.declared.opcode.Scale.{Scale}
use Rattle.isa.specs.Opcodes.{opcodes}
use Rattle.isa.proofs.Codes.{tested}
use Rattle.lines.specs.declared.argument.Argument.{Argument}
use Rattle.lines.specs.declared.argument.Argument.TheVariants.{Register, Number, Scaled, Displaced}
use Rattle.lines.specs.declared.argument.Arguments.{Arguments}
use Rattle.lines.specs.declared.argument.Arguments.TheVariants.{Zero, One, Two, Three}
use Rattle.isa.specs.Scales.{factor}
use Rattle.lines.specs.Names.{name_of}
use Rattle.lines.specs.Lines.{arguments, register, written, trailing, line_with}
use Rattle.lines.specs.Pieces.{separates, pieces}
use Rattle.lines.proofs.Lengths.{Small, AllSmall, small}

-- no byte separates
abbrev within : ℕ → Bool
within c = not (separates c)

abbrev Plain : List ℕ → Type 0
Plain s = list_all within s ≡ true

-- a plain text up to a separator is a piece
cut : (s : List ℕ) (c : ℕ) (rest : List ℕ) → Plain s → separates c ≡ true → pieces (s ++ c ∷ rest) ≡ s ∷ pieces rest
unfolding pieces
cut s c rest p e = slice_split_at separates s c rest (λ k d l. not-true _ (AllPass-from_list_all within s p k d l)) e

at_separator : (c : ℕ) (cs : List ℕ) → separates c ≡ true → pieces (c ∷ cs) ≡ [] ∷ pieces cs
unfolding pieces
at_separator c cs e = slice_split-cons_yes separates c cs e

digit_plain : (c : ℕ) → digit_value c < 10 → within c ≡ true
digit_plain c h = grind (arith, nat_tests)

digits_plain : (s : List ℕ) → AllDigits 10 s → Plain s
digits_plain [] d = refl
digits_plain (c ∷ s) d = ap (λ b. b && list_all within s) (digit_plain c d.0) ∙ digits_plain s d.1

decimal_plain : (n : ℕ) → n < 2 ^ 64 → Plain (decimal n)
decimal_plain n h = digits_plain (decimal n) (decimal_is_IsNumeral n h).0.1

register_plain : (n : ℕ) → n < 2 ^ 8 → Plain (register n)
register_plain n h = decimal_plain n (omega arith)

signed_plain : (z : ℤ) → mag z < 2 ^ 25 → Plain (signed_decimal z)
signed_plain (pos n) h = decimal_plain n (omega arith)
signed_plain (negsuc n) h = decimal_plain (suc n) (omega arith)

factor_plain : (s : Scale) → Plain (decimal (factor s))
factor_plain Scale.One = decimal_plain 1 (omega arith)
factor_plain s = decimal_plain (factor s) (omega arith)

-- the pieces of an operand
abbrev pub parts : Argument → List (List ℕ)
parts (Register n) = register n ∷ []
parts (Number z) = signed_decimal z ∷ []
parts (Scaled base index s) = [] ∷ register base ∷ register index ∷ decimal (factor s) ∷ [] ∷ []
parts (Displaced d base) = [] ∷ signed_decimal d ∷ register base ∷ [] ∷ []

-- texts put together, without brackets
flat_2 : (a b : List ℕ) (c : ℕ) (rest : List ℕ) → ((40 ∷ []) ++ a ++ (32 ∷ []) ++ b ++ (41 ∷ [])) ++ c ∷ rest ≡ 40 ∷ (a ++ 32 ∷ (b ++ 41 ∷ c ∷ rest))
flat_2 a b c rest = simp append_assoc

flat_3 : (a b d : List ℕ) (c : ℕ) (rest : List ℕ) → ((40 ∷ []) ++ a ++ (32 ∷ []) ++ b ++ (32 ∷ []) ++ d ++ (41 ∷ [])) ++ c ∷ rest ≡ 40 ∷ (a ++ 32 ∷ (b ++ 32 ∷ (d ++ 41 ∷ c ∷ rest)))
flat_3 a b d c rest = simp append_assoc

-- an operand up to a separator
cut_argument : (a : Argument) (c : ℕ) (rest : List ℕ) → Small a → separates c ≡ true → pieces (written a ++ c ∷ rest) ≡ parts a ++ pieces rest
cut_argument (Register n) c rest h e = cut (register n) c rest (register_plain n h) e
cut_argument (Number z) c rest h e = cut (signed_decimal z) c rest (signed_plain z h) e
cut_argument (Scaled base index s) c rest h e =
    let a = register base in
    let b = register index in
    let f = decimal (factor s) in
    ap pieces (flat_3 a b f c rest) ∙ at_separator 40 _ refl
    ∙ ap (λ l. [] ∷ l) (cut a 32 _ (register_plain base h.0) refl
    ∙ ap (λ l. a ∷ l) (cut b 32 _ (register_plain index h.1) refl
    ∙ ap (λ l. b ∷ l) (cut f 41 _ (factor_plain s) refl
    ∙ ap (λ l. f ∷ l) (at_separator c rest e))))
cut_argument (Displaced d base) c rest h e =
    let a = signed_decimal d in
    let b = register base in
    ap pieces (flat_2 a b c rest) ∙ at_separator 40 _ refl
    ∙ ap (λ l. [] ∷ l) (cut a 32 _ (signed_plain d (omega (arith, h.0))) refl
    ∙ ap (λ l. a ∷ l) (cut b 41 _ (register_plain base h.1) refl
    ∙ ap (λ l. b ∷ l) (at_separator c rest e)))

-- the pieces of operands, and of what ends their line
abbrev pub all_parts : Arguments → List (List ℕ)
all_parts Zero = [] ∷ []
all_parts (One a) = parts a ++ [] ∷ []
all_parts (Two a b) = parts a ++ (parts b ++ [] ∷ [])
all_parts (Three a b c) = parts a ++ (parts b ++ (parts c ++ [] ∷ []))

last : pieces [] ≡ [] ∷ []
unfolding pieces
last = refl

-- after the last operand
ended : (a : Argument) → Small a → pieces (written a ++ 41 ∷ []) ≡ parts a ++ [] ∷ []
ended a h = cut_argument a 41 [] h refl ∙ ap (λ l. parts a ++ l) last

line_0 : (n : List ℕ) → 40 ∷ ((n ++ []) ++ 41 ∷ []) ≡ 40 ∷ (n ++ 41 ∷ [])
line_0 n = simp append-nil

line_1 : (n a : List ℕ) → 40 ∷ ((n ++ 32 ∷ a) ++ 41 ∷ []) ≡ 40 ∷ (n ++ 32 ∷ (a ++ 41 ∷ []))
line_1 n a = simp append_assoc

line_2 : (n a b : List ℕ) → 40 ∷ ((n ++ 32 ∷ (a ++ 32 ∷ b)) ++ 41 ∷ []) ≡ 40 ∷ (n ++ 32 ∷ (a ++ 32 ∷ (b ++ 41 ∷ [])))
line_2 n a b = simp append_assoc

line_3 : (n a b c : List ℕ) → 40 ∷ ((n ++ 32 ∷ ((a ++ 32 ∷ b) ++ 32 ∷ c)) ++ 41 ∷ []) ≡ 40 ∷ (n ++ 32 ∷ (a ++ 32 ∷ (b ++ 32 ∷ (c ++ 41 ∷ []))))
line_3 n a b c = simp append_assoc

opened : (n : List ℕ) (c : ℕ) (rest : List ℕ) → Plain n → separates c ≡ true → pieces (40 ∷ (n ++ c ∷ rest)) ≡ [] ∷ n ∷ pieces rest
opened n c rest p e = at_separator 40 _ refl ∙ ap (λ l. [] ∷ l) (cut n c rest p e)

line_parts : (n : List ℕ) (a : Arguments) → Plain n → AllSmall a → pieces (codes "(" ++ n ++ trailing a ++ codes ")") ≡ [] ∷ n ∷ all_parts a
line_parts n Zero p h = ap pieces (line_0 n) ∙ opened n 41 [] p refl ∙ ap (λ l. [] ∷ n ∷ l) last
line_parts n (One a) p h = ap pieces (line_1 n (written a)) ∙ opened n 32 _ p refl ∙ ap (λ l. [] ∷ n ∷ l) (ended a h)
line_parts n (Two a b) p h =
    ap pieces (line_2 n (written a) (written b)) ∙ opened n 32 _ p refl
    ∙ ap (λ l. [] ∷ n ∷ l) (cut_argument a 32 _ h.0 refl ∙ ap (λ l. parts a ++ l) (ended b h.1))
line_parts n (Three a b c) p h =
    ap pieces (line_3 n (written a) (written b) (written c)) ∙ opened n 32 _ p refl
    ∙ ap (λ l. [] ∷ n ∷ l) (cut_argument a 32 _ h.0 refl
    ∙ ap (λ l. parts a ++ l) (cut_argument b 32 _ h.1 refl ∙ ap (λ l. parts b ++ l) (ended c h.2)))

-- no name has a separator: a test at each opcode
name_plain : (o : Opcode) → Plain (name_of o)
unfolding opcodes
name_plain o = tested (λ p. list_all within (name_of p)) refl o

-- the pieces of a line
pub pieces_of_line : (o : Opcode) (x y z : ℕ) → x < 2 ^ 8 → y < 2 ^ 8 → z < 2 ^ 8 → pieces (line_with o x y z) ≡ [] ∷ name_of o ∷ all_parts (arguments o x y z)
pieces_of_line o x y z hx hy hz = line_parts (name_of o) (arguments o x y z) (name_plain o) (small o x y z hx hy hz)
