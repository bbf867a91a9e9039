-- A line while it is written: what does not fit into 64 bytes is left out. No public promise rests on it.
use Rattle.std.specs.Prelude.{ℕ, List, ◌++◌, take}

unfoldable pub clipped : List ℕ → List ℕ → List ℕ
clipped a b = take 64 (a ++ b)
