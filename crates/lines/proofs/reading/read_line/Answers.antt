use Rattle.std.proofs.Common.{sym, ◌∙◌, subst}
use Rattle.lines.specs.Lines.{Reads}
use Rattle.lines.proofs.Guesses.{none_guessed, none_decoded, one_decoded, read_by}
use Rattle.lines.proofs.reading.read_line.Goals as goal

pub returns-in_err-guess : goal.returns-in_err-guess
returns-in_err-guess c = subst (Reads c.args.text.now) (sym c.from_residual.ensures) (none_guessed c.args.text.now (sym c.guess.ensures ∙ c.in_err-guess.was))

pub returns-in_err-instruction : goal.returns-in_err-instruction
returns-in_err-instruction c =
    subst (Reads c.args.text.now) (sym c.from_residual-in_err-instruction.ensures)
    (none_decoded c.args.text.now c.in_ok-guess.field-0 (sym c.guess.ensures ∙ c.in_ok-guess.was) (sym c.decode.ensures.value ∙ c.in_err-instruction.was))

pub returns : goal.returns
returns c =
    subst (Reads c.args.text.now) (sym c.then_some.ensures)
    (read_by _ _ _ c.is_line.ensures c.in_ok-instruction.ensures.inverse.0
    (one_decoded c.args.text.now c.in_ok-guess.field-0 c.in_ok-instruction.instruction (sym c.guess.ensures ∙ c.in_ok-guess.was)
    (sym c.decode.ensures.value ∙ c.in_ok-instruction.was)))
