use Rattle.std.proofs.Common.{None, Option, ap, ◌∙◌, rules}
use Rattle.std.specs.Option.{ok_or}
use Rattle.isa.specs.declared.opcode.Opcode.{Opcode}
use Rattle.isa.specs.declared.opcode.NoOpcode.{NoOpcode}
use Rattle.isa.specs.Opcodes.{opcode_of}
use Rattle.std.proofs.lemmas.List.FromFn.{get_or-map-range_with_len}
use Rattle.isa.proofs.opcode.OpcodeTryFromU8.try_from.Goals as goal

pub returns : goal.returns
unfolding opcode_of
returns c =
    let e = get_or-map-range_with_len opcode_of 0 256 c.from.result c.args.byte None (search rules) (search rules) in
    c.ok_or.ensures.value ∙ ap (λ (o : Option Opcode). ok_or {E = NoOpcode} o (record { 0 = c.args.byte })) e
