use Rattle.std.proofs.Common.{refl}
use native.Mathlib.Numerals.{unary_clauses}
use Rattle.ring.specs.Queues.{ring_list}
use Rattle.ring.proofs.Ring.new.Goals as goal

pub returns : goal.returns
unfolding ring_list
returns c = simp unary_clauses refl
