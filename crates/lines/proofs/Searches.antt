-- The search for an opcode by its name.
use Rattle.std.proofs.Common.{◌≡◌, ℕ, Bool, true, false, eqb, List, [], ◌∷◌, Some, None, Decides, Option, sym, refl, ap, ◌∙◌}
use Rattle.std.specs.Option.{is_some}
use Rattle.std.specs.Str.{bytes_eq}
use Rattle.std.proofs.lemmas.Slice.Eq.{bytes_eq-Decides}
use Rattle.std.proofs.lemmas.Option.{none-some}
use Rattle.std.proofs.lemmas.Bool.{eqb-true, both_ways, cond_both}
use Rattle.arith.specs.declared.width.Width.{Width}
use Rattle.isa.specs.declared.opcode.Opcode.{Opcode}
use Rattle.isa.specs.declared.opcode.Kind.{Kind}
use Rattle.isa.specs.declared.opcode.Reach.{Reach}
use Rattle.isa.specs.declared.opcode.Source.{Source}
use Rattle.isa.specs.declared.opcode.Condition.{Condition}
use Rattle.isa.specs.Opcodes.{code_of, opcodes, opcode_of}
use Rattle.isa.proofs.Codes.{tested, opcode_of_code}
use Rattle.lines.specs.Names.{name_of, IsName}
use Rattle.lines.specs.Reading.{bases, named_in}

-- the opcode that stands for the name of another
abbrev pub base_of : Opcode → Opcode
base_of (Opcode.Load k r) = Opcode.Load k Reach.Displaced
base_of (Opcode.Store Width.Quad r) = Opcode.Load Kind.Quad Reach.Displaced
base_of (Opcode.Store w r) = Opcode.Store w Reach.Displaced
base_of (Opcode.Binary o s) = Opcode.Binary o Source.Register
base_of Opcode.JumpRegister = Opcode.Jump Condition.Always
base_of (Opcode.Halt s) = Opcode.Halt Source.Register
base_of (Opcode.Put s) = Opcode.Put Source.Register
base_of o = o

-- the search finds it: a test at each opcode, on the bytes of the two
abbrev is : Option Opcode → Opcode → Bool
is None o = false
is (Some p) o = eqb (code_of p) (code_of o)

is_that : (r : Option Opcode) (o : Opcode) → is r o ≡ true → r ≡ Some o
is_that None o e = absurd (both_ways _ refl e)
is_that (Some p) o e = sym (opcode_of_code p) ∙ ap opcode_of (eqb-true (code_of p) (code_of o) e) ∙ opcode_of_code o

pub finds : (o : Opcode) → named_in (name_of o) bases ≡ Some (base_of o)
unfolding opcodes bases
finds o = is_that (named_in (name_of o) bases) (base_of o) (tested (λ p. is (named_in (name_of p) bases) (base_of p)) refl o)

-- what the search finds has the name
named_so : (name : List ℕ) (os : List Opcode) (o : Opcode) → named_in name os ≡ Some o → name_of o ≡ name
named_so name [] o e = absurd (none-some o e)
named_so name (p ∷ os) o e =
    cond_both (bytes_eq (name_of p) name) (Some p) (named_in name os) (λ (r : Option Opcode). r ≡ Some o → name_of o ≡ name)
    (λ f s. let q : p ≡ o = cc in ap name_of (sym q) ∙ (bytes_eq-Decides (name_of p) name).0 f) (λ f s. named_so name os o s) e

-- it finds something exactly where the text is a name
pub name_decided : (name : List ℕ) → Decides (is_some (named_in name bases)) (IsName name)
name_decided name = by (named_in name bases) refl
  where
    by : (r : Option Opcode) → named_in name bases ≡ r → Decides (is_some r) (IsName name)
    by (Some o) e = ((λ f. (o, named_so name bases o e)), λ h. refl)
    by None e = (
      (λ f. absurd (both_ways _ refl f)),
      λ h. ap is_some (sym e ∙ sym (ap (λ n. named_in n bases) h.1) ∙ finds h.0),
    )
