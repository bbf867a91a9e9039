use Rattle.std.proofs.Common.{◌≡◌, length, get_or, sym, ap, ◌∙◌}
use Rattle.memory.specs.Laws.{lent_bounded}
use Rattle.memory.specs.Slices.{lent, work_after}
use Rattle.memory.proofs.Lenders.{work_written}
use Rattle.memory.proofs.through.write_through.Goals as goal

pub returns-clause-work : goal.returns-clause-work
returns-clause-work c =
    let made = c.new-memory.result in
    let after = c.write.new.self in
    let loaned = c.write.ensures.kept.1 in
    let back = c.work-1.given in
    let fixed : lent made.first.bytes.now ≡ lent c.args.rule.now =
    ap (λ m. lent m.bytes.now) c.new-memory.ensures.first ∙ c.new.ensures.cells
    in
    let work : made.second.now ≡ c.args.work.now = ap (λ m. m.now) c.new-memory.ensures.second in
    let same = sym (ap (λ l. get_or l.0 0 0) loaned ∙ ap (λ m. m.ghost_name) c.new-memory.ensures.second) in
    let held = back.1.1 same in
    held
    ∙ work_written (lent made.first.bytes.now) made.second.now (lent_bounded made.first.bytes.now) c.args.at c.args.byte
    (lent after.first.bytes.now) after.second.now c.write.ensures.after
    (ap length (sym held) ∙ back.1.0 ∙ ap length (sym work)) (ap (λ l. l.1) loaned)
    ∙ ap (λ l. work_after l made.second.now c.args.at c.args.byte) fixed
    ∙ ap (λ w. work_after (lent c.args.rule.now) w c.args.at c.args.byte) work
