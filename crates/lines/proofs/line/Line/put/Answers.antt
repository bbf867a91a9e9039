use Rattle.std.proofs.Common.{◌+◌, ◌≤◌, length, take, Result, Ok, Err, refl, arith, length-take}
use Rattle.std.specs.Result.{IsOk, OnOk}
use Rattle.std.proofs.lemmas.Bool.{both_ways}
use Rattle.lines.proofs.Clips.{put_room}
use Rattle.lines.proofs.line.Line.put.Goals as goal

given : {T E P : Type 0} (r : Result T E) → IsOk r → OnOk r P → P
given (Ok x) e p = p
given (Err x) e p = absurd (both_ways _ refl e)

pub returns : goal.returns
returns c =
    let a = c.self.inside.text.items in
    let b = c.args.text.now in
    let e = c.min-room.ensures in
    let r = c.remaining_capacity.ensures in
    let s = put_room a b c.remaining_capacity.result r in
    let l : length a + length (take c.min-room.result b) ≤ 64 = simp length-take (omega arith) in
    let n = given _ (c.try_extend_from_slice-fits.ensures.variant.1 l) c.try_extend_from_slice-fits.ensures.ok in
    cc
