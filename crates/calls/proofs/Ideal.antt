-- Laws of the ideal machine: an open input can grow, and what it comes to is settled.
-- None of these opens `try`: an act is taken by cases as it is.
use Rattle.std.proofs.Common.{◌≡◌, ℕ, suc, ◌+◌, ◌<◌, Bool, true, false, ◌⊎◌, List, [], ◌∷◌, ◌++◌, length, refl, ap, subst, inl, inr, append-nil, arith, length-append}
use Rattle.machine.specs.Cores.{Core, Heard, Act, moves, gets, puts, halts, traps, faults}
use Rattle.machine.specs.Tries.{try}
use Rattle.machine.specs.Steps.{Life, live, over}
use Rattle.calls.specs.Ulms.{Ulm, Turn, turns, still, breaks, done, ulm_at, turn_get, turn_if, turn, Goes, at_rest, on, StandsAt, first_ulm}
use Rattle.calls.specs.Laws.{Begins, Agree}
use Rattle.machine.specs.declared.ending.Ending.{Ending}
use Rattle.machine.specs.declared.ending.Ending.TheVariants.{Halt, Trap, Fault}

abbrev pub longer : Ulm → List ℕ → Ulm
longer u f = ulm_at u.core (u.rest ++ f) u.out u.halted

-- a turn of a machine against one of the same machine with more input: it goes to the same place, where the input was open,
-- and a fault does not depend on the input
abbrev Grown : Bool → List ℕ → Turn → Turn → Type 0
Grown closed f (turns m) y = closed ≡ false → y ≡ turns (longer m f)
Grown closed f (breaks w) y = y ≡ breaks w
Grown closed f still y = Unit {0}
Grown closed f done y = Unit {0}

module _ (closed other : Bool) (f : List ℕ) (c : Core) where
  grown_get : (g : Heard → Core) (rest out : List ℕ) (b : Bool) → b ≡ closed → Grown closed f (turn_get g rest b out) (turn_get g (rest ++ f) other out)
  grown_get g [] out true e = λ h. absurd cc
  grown_get g [] out false e = tt
  grown_get g (b ∷ bs) out d e = λ h. refl

  grown_if : (l : Life) (a : Act) (rest out : List ℕ) → Grown closed f (turn_if l closed a c rest out) (turn_if l other a c (rest ++ f) out)
  grown_if live (moves d) rest out = λ h. refl
  grown_if live (gets g) rest out = grown_get g rest out closed refl
  grown_if live (puts b d) rest out = λ h. refl
  grown_if live (halts n) rest out = λ h. refl
  grown_if live (traps x y z) rest out = λ h. refl
  grown_if live (faults w) rest out = refl
  grown_if (over e) a rest out = tt

grown : (marks : List Bool) (closed other : Bool) (f : List ℕ) (u : Ulm) (x : Turn) → turn marks closed u ≡ x → Grown closed f x (turn marks other (longer u f))
grown marks closed other f u x e =
    subst (λ z. Grown closed f z (turn marks other (longer u f))) e (grown_if closed other f u.core u.halted (try marks u.core) u.rest u.out)

pub more_goes : {marks : List Bool} (closed : Bool) (f : List ℕ) {u : Ulm} {n : ℕ} {v : Ulm} → Goes marks false u n v → Goes marks closed (longer u f) n (longer v f)
more_goes closed f at_rest = at_rest
more_goes {marks} closed f (on {u = u} {m = m} d p) = on (grown marks false closed f u (turns m) d refl) (more_goes closed f p)

pub join_goes : {marks : List Bool} {closed : Bool} {u m v : Ulm} {n k : ℕ} → Goes marks closed u n m → Goes marks closed m k v → Goes marks closed u (n + k) v
join_goes {k = k} at_rest q = let e : 0 + k ≡ k = omega arith in rw e q
join_goes {k = k} (on {n = n} d p) q = let e : suc n + k ≡ suc (n + k) = omega arith in rw e (on d (join_goes p q))

pub more_stands : (marks : List Bool) (closed other : Bool) (f : List ℕ) (u : Ulm) (e : Ending) → StandsAt marks closed u e → StandsAt marks other (longer u f) e
more_stands marks closed other f u (Halt n) h = h
more_stands marks closed other f u (Trap x y z) h = h
more_stands marks closed other f u (Fault w) h = grown marks closed other f u (breaks w) h

-- what it comes to is settled
pub settled : {marks : List Bool} {closed : Bool} {u : Ulm} {n : ℕ} {v : Ulm} {k : ℕ} {w : Ulm} → Goes marks closed u n v → Goes marks closed u k w → n ≡ k → v ≡ w
settled at_rest at_rest e = refl
settled at_rest (on {n = n} d q) e = absurd (omega arith)
settled (on {n = n} d p) at_rest e = absurd (omega arith)
settled (on {m = m} {n = n} d p) (on {m = x} {n = k} h q) e = let same : x ≡ m = cc in settled p (rw same at q) (omega arith)

no_turn : (marks : List Bool) (closed : Bool) (u m : Ulm) (e : Ending) → StandsAt marks closed u e → turn marks closed u ≡ turns m → ⊥
no_turn marks closed u m (Halt n) h d = let k = rw h at d in cc
no_turn marks closed u m (Trap x y z) h d = let k = rw h at d in cc
no_turn marks closed u m (Fault f) h d = cc

one_ending : (marks : List Bool) (closed : Bool) (u : Ulm) (e f : Ending) → StandsAt marks closed u e → StandsAt marks closed u f → e ≡ f
one_ending marks closed u (Halt n) (Halt m) h k = cc
one_ending marks closed u (Halt n) (Trap x y z) h k = cc
one_ending marks closed u (Halt n) (Fault w) h k = let d = rw h at k in cc
one_ending marks closed u (Trap x y z) (Halt n) h k = cc
one_ending marks closed u (Trap x y z) (Trap p q r) h k = cc
one_ending marks closed u (Trap x y z) (Fault w) h k = let d = rw h at k in cc
one_ending marks closed u (Fault w) (Halt n) h k = let d = rw k at h in cc
one_ending marks closed u (Fault w) (Trap x y z) h k = let d = rw k at h in cc
one_ending marks closed u (Fault w) (Fault v) h k = cc

pub ends_once : {marks : List Bool} {closed : Bool} {u : Ulm} {n : ℕ} {v : Ulm} {k : ℕ} {w : Ulm} (e f : Ending) → Goes marks closed u n v → Goes marks closed u k w →
    StandsAt marks closed v e → StandsAt marks closed w f → (n ≡ k) × (e ≡ f)
ends_once {marks} {closed} e f (at_rest {u}) at_rest a b = (refl, one_ending marks closed u e f a b)
ends_once {marks} {closed} e f (at_rest {u}) (on {m = m} d q) a b = absurd (no_turn marks closed u m e a d)
ends_once {marks} {closed} e f (on {u = u} {m = m} d p) at_rest a b = absurd (no_turn marks closed u m f b d)
ends_once e f (on {m = m} d p) (on {m = x} h q) a b = let same : x ≡ m = cc in let r = ends_once e f p (rw same at q) a b in (ap suc r.0, r.1)

-- agreeing inputs both go on to one
abbrev pub Extends : List ℕ → Bool → List ℕ → Bool → Type 0
Extends i c j d = (f : List ℕ) × (i ++ f ≡ j) × ((c ≡ false) ⊎ ((c ≡ d) × (f ≡ [])))

nothing_more : (i f j : List ℕ) → i ++ f ≡ j → (length i < length j → ◌≡◌ {A = Bool} true false) → f ≡ []
nothing_more i [] j e h = refl
nothing_more i (x ∷ f) j e h = let z = h (omega (arith, length-append i (x ∷ f), ap length e)) in cc

common : (i : List ℕ) (c : Bool) (j : List ℕ) (d : Bool) → Begins i c j → (all : List ℕ) × (closed : Bool) × Extends i c all closed × Extends j d all closed
common i false j d b = (j, d, (b.0, b.1, inl refl), ([], append-nil j, inr (refl, refl)))
common i true j true b = (j, true, (b.0, b.1, inr (refl, nothing_more i b.0 j b.1 b.2)), ([], append-nil j, inr (refl, refl)))
common i true j false b = (j, true, (b.0, b.1, inr (refl, nothing_more i b.0 j b.1 b.2)), ([], append-nil j, inl refl))

pub agreeing : (i : List ℕ) (c : Bool) (j : List ℕ) (d : Bool) → Agree i c j d → (all : List ℕ) × (closed : Bool) × Extends i c all closed × Extends j d all closed
agreeing i c j d (inl b) = common i c j d b
agreeing i c j d (inr b) = let r = common j d i c b in (r.0, r.1, r.3, r.2)

-- a run of the ideal machine on an input is one on what it goes on to
pub extended : (marks : List Bool) (cells i : List ℕ) (c : Bool) (j : List ℕ) (d : Bool) (n : ℕ) (v : Ulm) → Goes marks c (first_ulm cells i) n v → (x : Extends i c j d) →
    Goes marks d (first_ulm cells j) n (longer v x.0)
extended marks cells i c j d n v g (f, e, inl o) = rw (← e) (more_goes d f (rw o at g))
extended marks cells i c j d n v g (f, e, inr p) = rw (← p.0, ← e, p.1, append-nil i, append-nil v.rest) g
