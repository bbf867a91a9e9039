use Rattle.std.proofs.Common.{◌≡◌, ◌++◌, drop, vec_items}
use Rattle.disassembler.specs.Listings.{byte_lines}
use Rattle.disassembler.proofs.put_bytes.Given as goal

abbrev pub invariant-loop-byte : goal.invariant-loop-byte
invariant-loop-byte l = vec_items l.out ++ byte_lines (drop l.byte-index l.bytes) ≡ vec_items l.initial.out ++ byte_lines l.bytes
