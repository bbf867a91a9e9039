-- Which of two slices, a rule and a work that follows it, holds a range of addresses.
-- Assumes nothing.
use Rattle.std.specs.Prelude.{◌≡◌, ℕ, ◌+◌, ◌-◌, ◌≤◌, List, length, take, drop}
use Rattle.show.specs.declared.Refusal.{Refusal}
use Rattle.show.specs.declared.Refusal.TheVariants.{InNeither}
use Rattle.show.specs.declared.Source.{Source}
use Rattle.show.specs.declared.Source.TheVariants.{Rule, Work}

-- the numbers that refusals are told by
abbrev pub number : Refusal → ℕ
number InNeither = 5

-- the addresses from one on, as many as the size, are the rule's; none at its end are too
abbrev pub IsInRule : List ℕ → ℕ → ℕ → Type 0
IsInRule rule address size = address + size ≤ length rule

-- they are the work's, which begins where the rule ends
abbrev pub IsInWork : List ℕ → List ℕ → ℕ → ℕ → Type 0
IsInWork rule work address size = (length rule ≤ address) × (address + size ≤ length rule + length work)

-- they are neither's
abbrev pub IsInNeither : List ℕ → List ℕ → ℕ → ℕ → Type 0
IsInNeither rule work address size = (IsInRule rule address size → ⊥) × (IsInWork rule work address size → ⊥)

-- the bytes from an offset of that slice on are the range's; it is the rule wherever the rule holds the range
abbrev pub Shows : Source → List ℕ → List ℕ → ℕ → ℕ → ℕ → List ℕ → Type 0
Shows Rule rule work address size offset bytes =
    (IsInRule rule address size) × (offset ≡ address) × (bytes ≡ take size (drop offset rule))
Shows Work rule work address size offset bytes =
    (IsInRule rule address size → ⊥) × (IsInWork rule work address size) × (offset ≡ address - length rule)
    × (bytes ≡ take size (drop offset work))
