-- The bytes of a ring, as bytes go in and out.
-- Assumes nothing.
use Rattle.std.proofs.Common.{◌≡◌, ℕ, ◌+◌, ◌-◌, ◌<◌, ◌≤◌, min, List, [], ◌∷◌, ◌++◌, length, get_or, take, drop, set, sym, ◌∙◌, ap, refl, arith}
use Rattle.std.proofs.lemmas.List.{places, same_lists, length-take, length-drop, length-append, length-set, drop_more, take_at, drop_at, drop-set, take-set, drop-append-le, drop-drop}
use Rattle.std.proofs.lemmas.Bool.Decides.{nat_tests}
use Rattle.ring.specs.Queues.{Queue, size, queue, turned, ring_list, wrapped}
use Rattle.ring.specs.Calls.{with_items}

-- how many bytes there are
pub length-ring : (bytes : List ℕ) (start len : ℕ) → len ≤ length bytes → length (ring_list bytes start len) ≡ len
unfolding ring_list
length-ring bytes start len h = simp (length-take, length-append, length-drop) (omega arith)

-- the same, of the queue that they are
pub held : (bytes : List ℕ) (start len : ℕ) (q : Queue) → queue bytes start len ≡ q → len ≤ length bytes → length q.items ≡ len
held bytes start len q e h = sym (ap (λ p. length p.items) e) ∙ length-ring bytes start len h

-- how many bytes it can hold
pub sized : (bytes : List ℕ) (start len : ℕ) → len ≤ length bytes → size (queue bytes start len) ≡ length bytes
sized bytes start len h = omega (arith, length-ring bytes start len h)

-- a queue in a buffer that is as large as another's is told by its bytes
pub told : (bytes now : List ℕ) (start len start' len' : ℕ) (xs : List ℕ) → length now ≡ length bytes → len ≤ length bytes → len' ≤ length bytes → ring_list now start' len' ≡ xs → queue now start' len' ≡ with_items (queue bytes start len) xs
told bytes now start len start' len' xs e l m p =
    let count = length-ring bytes start len l in
    let more : length xs ≡ len' = sym (ap length p) ∙ length-ring now start' len' (rw e m) in
    let room : length now - len' ≡ (length (ring_list bytes start len) + (length bytes - len)) - length xs = omega (arith, count, more, e) in
    cc (p, room)

-- more written into a buffer of a lower and a higher part: k bytes into the higher, as many as fit, and the rest into the lower
pub wrote : (low high more : List ℕ) (k : ℕ) → k ≡ min (length more) (length high) → length more ≤ length low + length high → let first = take k more in let rest = drop k more in turned ((rest ++ drop (length rest) low) ++ (first ++ drop (length first) high)) (length low) ≡ more ++ drop (length more) (high ++ low)
wrote low high more k e h =
    let lower = drop k more ++ drop (length (drop k more)) low in
    let whole : length lower ≡ length low = simp (length-append, length-drop) (omega arith) in
    let higher = take k more ++ drop (length (take k more)) high in
    rw (drop_at lower higher (length low) whole, take_at lower higher (length low) whole)
    (simp (length-take, length-drop) (same_lists _ _ (simp (length-append, length-drop, length-take) (omega arith)) (λ i d g. grind (arith, places))))

-- bytes out at the front
pub ring-drop : (bytes : List ℕ) (start len k : ℕ) → start ≤ length bytes - 1 → k ≤ len → len ≤ length bytes → ring_list bytes (wrapped (start + k) (length bytes)) (len - k) ≡ drop k (ring_list bytes start len)
unfolding ring_list
ring-drop bytes start len k s h l =
    same_lists _ _ (simp (length-take, length-append, length-drop) (omega arith)) (λ i d g. grind (arith, nat_tests, places))

-- one byte out at the front
pub ring-pop : (bytes : List ℕ) (start len : ℕ) → start ≤ length bytes - 1 → 0 < len → len ≤ length bytes → ring_list bytes start len ≡ get_or bytes start 0 ∷ ring_list bytes (wrapped (start + 1) (length bytes)) (len - 1)
unfolding ring_list
ring-pop bytes start len s h l =
    let some : 0 < length (ring_list bytes start len) = simp (length-take, length-append, length-drop) (omega arith) in
    let first : get_or (ring_list bytes start len) 0 0 ≡ get_or bytes start 0 = grind (arith, places) in
    drop_more (ring_list bytes start len) 0 0 some ∙ rw (first, ring-drop bytes start len 1 s h l) refl

-- bytes in at the end: they stand first where the buffer is turned to the place after the ring's last byte
pub ring-append : (bytes now more : List ℕ) (start len at : ℕ) → length now ≡ length bytes → start ≤ length bytes - 1 → len + length more ≤ length bytes → at ≡ wrapped (start + len) (length bytes) → turned now at ≡ more ++ drop (length more) (turned bytes at) → ring_list now start (len + length more) ≡ ring_list bytes start len ++ more
unfolding ring_list
ring-append bytes now more start len at e s h a t =
    same_lists _ _ (simp (length-take, length-append, length-drop) (omega arith)) (λ i d g.
    let each : (j : ℕ) → get_or (turned now at) j d ≡ get_or (more ++ drop (length more) (turned bytes at)) j d = λ j. ap (λ xs. get_or xs j d) t in
    grind (arith, nat_tests, places, each (i - len), each (length bytes - len + i)))

-- one byte in at the end
pub ring-push : (bytes : List ℕ) (start len at b : ℕ) → start ≤ length bytes - 1 → len < length bytes → at ≡ wrapped (start + len) (length bytes) → ring_list (set bytes at b) start (len + 1) ≡ ring_list bytes start len ++ b ∷ []
ring-push bytes start len at b s h a =
    let inside : at < length bytes = grind (arith, nat_tests) in
    let some : 1 ≤ length (drop at bytes) = simp length-drop (omega arith) in
    ring-append bytes (set bytes at b) (b ∷ []) start len at (length-set bytes at b) s (omega arith) a (rw (drop-set bytes at b inside, take-set bytes at b, drop-append-le 1 (drop at bytes) (take at bytes) some, drop-drop 1 at bytes) refl)
