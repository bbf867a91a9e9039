use Rattle.std.proofs.Common.{List, length, Ok, Err, vec_items, Result}
use Rattle.std.specs.declared.alloc.AllocError.{AllocError}
use Rattle.calls.specs.Calls.{Ask, replies_of}
use Rattle.calls.specs.Posts.{Scene, stand_in, PerformSo}
use Rattle.calls.specs.declared.Performed.{Performed}
use Rattle.twin.specs.Twins.{TwinsIf}

pub judged : (s s' : Scene) (asks : List Ask) (t t' : Scene) (others : List Ask) (p q : Result Performed AllocError) → PerformSo s asks s' p → PerformSo t others t' q → TwinsIf s s' asks t t' others p q
judged s s' asks t t' others (Ok p) (Ok q) a b = λ hs ht em ec ag.
    a.like_any_other hs t.con (length t.buffer) others (stand_in t' q.job q.taken) (replies_of (vec_items q.answers)) ht (rw (em, ec) b.listed) ag
judged s s' asks t t' others (Ok p) (Err f) a b = tt
judged s s' asks t t' others (Err e) (Ok q) a b = tt
judged s s' asks t t' others (Err e) (Err f) a b = tt
