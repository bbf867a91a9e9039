use Rattle.std.proofs.Common.{◌≡◌, ℕ, List, [], Option, Some, None, Bor, get_or, refl, ap, ◌∙◌, rules}
use Rattle.std.specs.Option.{option_map, unwrap_or}
use Rattle.std.specs.List.{slice_split}
use Rattle.std.proofs.lemmas.Option.{unwrap_or-slice_get}
use Rattle.std.proofs.lemmas.Iterator.Consumers.{nth_from_yields_List}
use Rattle.std.proofs.lemmas.Iterator.Splits.{YieldsList-from_slice_split}
use borrow.Author.Tests.{tests}
use Rattle.lines.specs.Pieces.{separates, pieces}
use Rattle.lines.proofs.pieces.Pieces.at.Goals as goal

shown : (r : Option (Bor (List ℕ))) (d : Bor (List ℕ)) → (unwrap_or r d).now ≡ unwrap_or (option_map (λ x. x.now) r) d.now
shown None d = refl
shown (Some x) d = refl

pub returns : goal.returns
unfolding pieces
returns c =
    let text = c.self.inside.text.now in
    ap (λ x. x.now) c.unwrap_or.ensures ∙ shown c.nth.result _
    ∙ ap (λ r. unwrap_or r []) (nth_from_yields_List c.nth.result _ c.args.index c.nth.ensures.ran (YieldsList-from_slice_split _ separates text c.split.ensures.rest c.split.ensures.done c.split.ensures.closure (λ x b q k. search (rules, tests))))
    ∙ unwrap_or-slice_get (slice_split separates text) c.args.index [] ∙ ap (λ ps. get_or ps c.args.index []) c.self.view_is
