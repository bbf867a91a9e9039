use Rattle.std.proofs.Common.{◌∙◌, rules}
use Rattle.std.specs.Str.{bytes_eq}
use Rattle.std.proofs.lemmas.Iterator.{YieldsList-from_slice}
use Rattle.std.proofs.lemmas.Iterator.Search.{find_from_yields_List}
use borrow.Author.Tests.{tests}
use Rattle.lines.specs.Names.{name_of}
use Rattle.lines.specs.Reading.{bases}
use Rattle.lines.proofs.reading.named.Goals as goal

pub returns : goal.returns
unfolding bases
returns c =
    c.copied.ensures ∙ find_from_yields_List (λ o. bytes_eq (name_of o) c.args.text.now) _ _ c.find.result c.find.ensures.ran (YieldsList-from_slice bases c.iter.ensures.rest) (λ x b q k. search (rules, tests))
