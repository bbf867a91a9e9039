-- How far a jump goes: a signed number of 24 bits.
use Rattle.std.specs.Prelude.{◌^◌, ◌<◌, ℤ, pos, ◌+ℤ◌, ◌*ℤ◌}
use Rattle.std.specs.Int.Signed.{mag}
use Rattle.isa.specs.declared.distance.Distance.{Distance}

-- so many words: the high byte has the sign
abbrev pub words_of : Distance → ℤ
words_of d = d.high *ℤ pos 65536 +ℤ pos d.low

-- the parts fit their types; mag z is n both for n and for -(n + 1)
abbrev pub IsDistance : Distance → Type 0
IsDistance d = (mag d.high < 2 ^ 7) × (d.low < 2 ^ 16)
