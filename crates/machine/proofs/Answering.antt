-- What an act leaves tells the next state.
-- Assumes nothing.
use Rattle.std.proofs.Common.{◌≡◌, ℕ, Bool, true, false, cond, List, [], ◌∷◌, ◌++◌, Ok, Err, refl}
use Rattle.console.specs.Streams.{Con, with_held, first_says, has_room}
use Rattle.machine.specs.Cores.{Core, Heard, Act, moves, gets, puts, halts, traps, faults}
use Rattle.machine.specs.Leavings.{Left, leaves, leaves_get, leaves_put}
use Rattle.machine.specs.Steps.{Next, goes, full, living, next_of, next_get}
use Rattle.machine.specs.Tryings.{Tells}

-- what is left tells the next state
abbrev pub TellsLeft : Core → Con → Next → Left → Type 0
TellsLeft c k n l = Tells n (living c k) l.regs l.cells l.con l.tried

get_tells : (c : Core) (k : Con) (f : Heard → Core) (w : List ℕ) (d : Bool) → k.waiting ≡ w
    → TellsLeft c k (next_get f k w d) (leaves_get f c k (first_says w d))
get_tells c k f (b ∷ bs) d h = rw h
get_tells c k f [] true h = rw h
get_tells c k f [] false h = (refl, rw h)

put_tells : (c : Core) (k : Con) (b : ℕ) (d : Core) (t : Bool) → has_room k ≡ t
    → TellsLeft c k (cond t (goes (living d (with_held k (k.held ++ b ∷ [])))) full) (leaves_put b d c k (cond t (Ok tt) (Err (record {}))))
put_tells c k b d true h = rw h
put_tells c k b d false h = (refl, rw h)

pub left_tells : (c : Core) (k : Con) (a : Act) → TellsLeft c k (next_of a c k) (leaves a c k)
left_tells c k (moves d) = refl
left_tells c k (gets f) = get_tells c k f k.waiting k.closed refl
left_tells c k (puts b d) = put_tells c k b d (has_room k) refl
left_tells c k (halts code) = (refl, refl)
left_tells c k (traps x y z) = (refl, refl)
left_tells c k (faults fault) = (refl, refl)
