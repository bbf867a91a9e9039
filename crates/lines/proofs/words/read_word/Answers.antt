use Rattle.std.proofs.Common.{sym, ◌∙◌, subst}
use Rattle.lines.proofs.Guesses.{lines_differ, no_word, one_word}
use Rattle.lines.specs.Lines.{ReadsWord}
use Rattle.lines.proofs.words.read_word.Goals as goal

pub returns-in_err-read_line-clause-differ : goal.returns-in_err-read_line-clause-differ
returns-in_err-read_line-clause-differ c = lines_differ

pub returns-in_err-read_line-clause-reads : goal.returns-in_err-read_line-clause-reads
returns-in_err-read_line-clause-reads c = subst (ReadsWord c.args.text.now) (sym c.from_residual.ensures) (no_word c.args.text.now c.in_err-read_line.ensures)

pub returns : goal.returns
returns c =
    let i = c.in_ok-read_line.field-0 in
    let r = c.in_ok-read_line.ensures in
    record {
      reads = ((i, c.encode.ensures.inverse, r.1), λ v w h. one_word c.args.text.now i r v w h ∙ sym c.encode.ensures.value);
      differ = lines_differ;
    }
