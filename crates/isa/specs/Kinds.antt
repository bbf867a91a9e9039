-- What a load reads.
-- Assumes nothing.
use Rattle.arith.specs.declared.width.Extension.{Extension}
use Rattle.arith.specs.declared.width.Width.{Width}
use Rattle.isa.specs.declared.opcode.Kind.{Kind}

abbrev pub width_of : Kind → Width
width_of Kind.Quad = Width.Quad
width_of Kind.ZeroLong = Width.Long
width_of Kind.ZeroWord = Width.Word
width_of Kind.ZeroByte = Width.Byte
width_of Kind.SignLong = Width.Long
width_of Kind.SignWord = Width.Word
width_of Kind.SignByte = Width.Byte

abbrev pub extension_of : Kind → Extension
extension_of Kind.Quad = Extension.Zero
extension_of Kind.ZeroLong = Extension.Zero
extension_of Kind.ZeroWord = Extension.Zero
extension_of Kind.ZeroByte = Extension.Zero
extension_of Kind.SignLong = Extension.Sign
extension_of Kind.SignWord = Extension.Sign
extension_of Kind.SignByte = Extension.Sign
