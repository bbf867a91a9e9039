-- What a tray means, and what a new one is.
-- Assumes nothing.
use Rattle.std.specs.Prelude.{ℕ, false, cond, []}
use Rattle.console.specs.Streams.{Con}
use Rattle.consoles.specs.declared.tray.Tray.{Tray}
use Rattle.consoles.specs.Limits.{fit}
use Rattle.ring.specs.Queues.{size}

abbrev pub tray_view : Tray → Con
tray_view t = record { waiting = t.input.items; closed = t.closed; held = t.output.items; in_limit = size t.input; out_limit = size t.output }

-- over buffers of m and n bytes: open and empty; both count as empty where one is too long
abbrev pub new_tray : ℕ → ℕ → Con
new_tray m n = record { waiting = []; closed = false; held = []; in_limit = cond (fit m n) m 0; out_limit = cond (fit m n) n 0 }
