-- A queue, and how it lies in a buffer.
-- Assumes nothing.
use Rattle.std.specs.Prelude.{ℕ, ◌+◌, ◌-◌, cond, List, ◌++◌, length, take, drop, nat_lt}

-- the bytes in it, first to last, and how many more it has room for
pub record Queue : Type 0 where
  pub items : List ℕ
  pub room : ℕ

-- how many it can hold; so no queue has more than that
abbrev pub size : Queue → ℕ
size q = length q.items + q.room

-- the buffer as it is read from start on, once around
abbrev pub turned : List ℕ → ℕ → List ℕ
turned bytes start = drop start bytes ++ take start bytes

unfoldable pub ring_list : List ℕ → ℕ → ℕ → List ℕ
ring_list bytes start len = take len (turned bytes start)

abbrev pub queue : List ℕ → ℕ → ℕ → Queue
queue bytes start len = record { items = ring_list bytes start len; room = length bytes - len }

-- a place below twice the size, brought below the size
abbrev pub wrapped : ℕ → ℕ → ℕ
wrapped place size = cond (nat_lt place size) place (place - size)
