use Rattle.std.proofs.Common.{Result, Ok, Err, refl, sym, ap, ◌∙◌}
use Rattle.std.specs.Result.{IsOk, OnOk, OnErr}
use Rattle.lines.proofs.Clips.{put_one, put_none}
use Rattle.lines.proofs.line.Line.put_byte.Goals as goal

told : {T E L P Q S X : Type 0} (r : Result T E) → (IsOk r → L) → OnOk r P → OnErr r Q → OnErr r S → (L → P → X) → (Q → S → X) → X
told (Ok x) v p q s f g = f (v refl) p
told (Err x) v p q s f g = g q s

pub returns : goal.returns
returns c =
    let e = c.try_push-fits.ensures in
    let a = c.self.inside.text.items in
    rw (← c.self.view_is)
    (told c.try_push-fits.result e.variant.0 e.ok e.err e.full
    (λ l p. p ∙ sym (put_one a c.args.byte l))
    (λ q s. ap (λ v. v.items) q ∙ sym (put_none a c.args.byte s)))
