use Rattle.std.proofs.Common.{◌≡◌, ◌++◌, drop, vec_items}
use Rattle.disassembler.specs.Listings.{byte_lines, listing_of}
use Rattle.disassembler.proofs.Steps.{all_lines}
use Rattle.disassembler.proofs.put_listing.Given as goal

abbrev pub invariant-loop-word : goal.invariant-loop-word
invariant-loop-word l = vec_items l.out ++ (all_lines (drop l.word-index l.words) ++ byte_lines l.rest) ≡ vec_items l.initial.out ++ listing_of l.image
