-- What a page means, and what a new one is.
-- Assumes nothing.
use Rattle.std.specs.Prelude.{ℕ, true, cond, List, [], length, drop}
use Rattle.console.specs.Streams.{Con}
use Rattle.consoles.specs.declared.page.Page.{Page}
use Rattle.consoles.specs.Limits.{fit}
use Rattle.ring.specs.Queues.{size}

abbrev pub page_view : Page → Con
page_view p = record { waiting = drop p.at p.document.now; closed = true; held = p.output.items; in_limit = length p.document.now; out_limit = size p.output }

-- over a document and a buffer of n bytes: the document waits, closed; both count as empty where one is too long
abbrev pub new_page : List ℕ → ℕ → Con
new_page document n = record { waiting = cond (fit (length document) n) document []; closed = true; held = []; in_limit = cond (fit (length document) n) (length document) 0; out_limit = cond (fit (length document) n) n 0 }
