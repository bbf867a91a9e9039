-- Two jobs that start alike, on any two memories and consoles.
-- Assumes nothing.
use Rattle.std.specs.Prelude.{◌≡◌, List, [], Ok, Err, vec_items, Result}
use Rattle.calls.specs.Calls.{Ask, replies_of}
use Rattle.calls.specs.Laws.{input_of, Agree, Alike}
use Rattle.calls.specs.Posts.{Scene, stand_in}
use Rattle.calls.specs.declared.Performed.{Performed}
use Rattle.std.specs.declared.alloc.AllocError.{AllocError}

-- equal cells and marks, new consoles, and inputs that agree: then the jobs are alike
abbrev pub Twins : Scene → Scene → List Ask → Performed → Scene → Scene → List Ask → Performed → Type 0
Twins s s' asks p t t' others q =
    s.con.held ≡ [] → t.con.held ≡ [] → s.marks ≡ t.marks → s.cells ≡ t.cells →
    Agree (input_of s.con asks (replies_of (vec_items p.answers))) s'.con.closed (input_of t.con others (replies_of (vec_items q.answers))) t'.con.closed →
    Alike (stand_in s' p.job p.taken) (stand_in t' q.job q.taken)

abbrev pub TwinsIf : Scene → Scene → List Ask → Scene → Scene → List Ask → Result Performed AllocError → Result Performed AllocError → Type 0
TwinsIf s s' asks t t' others (Ok p) (Ok q) = Twins s s' asks p t t' others q
TwinsIf s s' asks t t' others (Ok p) (Err f) = Unit {0}
TwinsIf s s' asks t t' others (Err e) (Ok q) = Unit {0}
TwinsIf s s' asks t t' others (Err e) (Err f) = Unit {0}
