-- What each call on a queue answers and leaves.
-- Assumes nothing.
use Rattle.std.specs.Prelude.{ℕ, ◌+◌, ◌-◌, min, Bool, cond, List, [], ◌∷◌, ◌++◌, length, drop, Some, None, Option, Ok, Err, Result, nat_le, nat_lt}
use Rattle.ring.specs.declared.NoRoom.{NoRoom}
use Rattle.ring.specs.Queues.{Queue, size}

-- with other bytes, no more than it can hold: it can then hold as many as before
abbrev pub with_items : Queue → List ℕ → Queue
with_items q bs = record { items = bs; room = size q - length bs }

-- a new one
abbrev pub empty : ℕ → Queue
empty n = record { items = []; room = n }

-- push
abbrev pub has_room : Queue → Bool
has_room q = nat_lt (length q.items) (size q)

abbrev pub push_says : Queue → Result Unit NoRoom
push_says q = cond (has_room q) (Ok tt) (Err (record {}))

abbrev pub after_push : Queue → ℕ → Queue
after_push q b = cond (has_room q) (with_items q (q.items ++ b ∷ [])) q

-- pop: the first of the bytes, and what follows it
abbrev pub first_of : List ℕ → Option ℕ
first_of [] = None
first_of (b ∷ bs) = Some b

abbrev pub rest_of : List ℕ → List ℕ
rest_of [] = []
rest_of (b ∷ bs) = bs

abbrev pub pop_says : Queue → Option ℕ
pop_says q = first_of q.items

abbrev pub after_pop : Queue → Queue
after_pop q = with_items q (rest_of q.items)

-- append: all the bytes or none
abbrev pub fits : Queue → List ℕ → Bool
fits q bs = nat_le (length q.items + length bs) (size q)

abbrev pub append_says : Queue → List ℕ → Result Unit NoRoom
append_says q bs = cond (fits q bs) (Ok tt) (Err (record {}))

abbrev pub after_append : Queue → List ℕ → Queue
after_append q bs = cond (fits q bs) (with_items q (q.items ++ bs)) q

-- take, into a buffer of n bytes; k are moved
abbrev pub take_says : Queue → ℕ → ℕ
take_says q n = min n (length q.items)

abbrev pub after_take : Queue → ℕ → Queue
after_take q k = with_items q (drop k q.items)
