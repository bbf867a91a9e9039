-- What a console means, and what each call on one answers and leaves.
-- Assumes nothing.
use Rattle.std.specs.Prelude.{ℕ, ◌+◌, min, Bool, true, cond, List, [], ◌∷◌, ◌++◌, length, drop, Ok, Err, Result, nat_le, nat_lt}
use Rattle.console.specs.declared.Full.{Full}
use Rattle.console.specs.declared.ReadAnswer.{ReadAnswer}
use Rattle.console.specs.declared.ReadAnswer.TheVariants.{Byte, End, NotYet}

-- the bytes waiting to be read, whether no more can come, the bytes put and not yet taken, and the most of each
pub record Con : Type 0 where
  pub waiting : List ℕ
  pub closed : Bool
  pub held : List ℕ
  pub in_limit : ℕ
  pub out_limit : ℕ

abbrev pub with_waiting : Con → List ℕ → Con
with_waiting c w = record { waiting = w; closed = c.closed; held = c.held; in_limit = c.in_limit; out_limit = c.out_limit }

abbrev pub with_held : Con → List ℕ → Con
with_held c h = record { waiting = c.waiting; closed = c.closed; held = h; in_limit = c.in_limit; out_limit = c.out_limit }

-- read
abbrev pub first_says : List ℕ → Bool → ReadAnswer
first_says [] closed = cond closed End NotYet
first_says (b ∷ bs) closed = Byte b

abbrev pub rest_of : List ℕ → List ℕ
rest_of [] = []
rest_of (b ∷ bs) = bs

abbrev pub read_says : Con → ReadAnswer
read_says c = first_says c.waiting c.closed

abbrev pub after_read : Con → Con
after_read c = with_waiting c (rest_of c.waiting)

-- put
abbrev pub has_room : Con → Bool
has_room c = nat_lt (length c.held) c.out_limit

abbrev pub put_says : Con → Result Unit Full
put_says c = cond (has_room c) (Ok tt) (Err (record {}))

abbrev pub after_put : Con → ℕ → Con
after_put c b = cond (has_room c) (with_held c (c.held ++ b ∷ [])) c

-- feed: refused with 2 at a closed input, else with 3 if the bytes do not fit
abbrev pub fits_in : Con → List ℕ → Bool
fits_in c bs = nat_le (length c.waiting + length bs) c.in_limit

abbrev pub feed_says : Con → List ℕ → Result Unit ℕ
feed_says c bs = cond c.closed (Err 2) (cond (fits_in c bs) (Ok tt) (Err 3))

abbrev pub after_feed : Con → List ℕ → Con
after_feed c bs = cond c.closed c (cond (fits_in c bs) (with_waiting c (c.waiting ++ bs)) c)

-- close: refused with 2 at a closed input
abbrev pub close_says : Con → Result Unit ℕ
close_says c = cond c.closed (Err 2) (Ok tt)

abbrev pub after_close : Con → Con
after_close c = record { waiting = c.waiting; closed = true; held = c.held; in_limit = c.in_limit; out_limit = c.out_limit }

-- take, into a buffer of n bytes; k are moved
abbrev pub take_says : Con → ℕ → ℕ
take_says c n = min n (length c.held)

abbrev pub after_take : Con → ℕ → Con
after_take c k = with_held c (drop k c.held)
