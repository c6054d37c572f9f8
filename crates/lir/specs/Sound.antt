-- What a printer asks of an instruction: each value's bytes in it are `Small`.
use Rattle.lir.specs.Abstract.{Small}
use Rattle.lir.specs.declared.InstructionKind.{InstructionKind}

abbrev pub Sound : InstructionKind → Type 0
Sound (InstructionKind.CopyByte d s) = Unit {0}
Sound (InstructionKind.NotByte d s) = Unit {0}
Sound (InstructionKind.ByteBinary op d l r) = Unit {0}
Sound (InstructionKind.Add d l r i o) = Unit {0}
Sound (InstructionKind.Subtract d l r i o) = Unit {0}
Sound (InstructionKind.Rotate dir d s) = Unit {0}
Sound (InstructionKind.AddressOf low high s o) = Unit {0}
Sound (InstructionKind.FunctionAddress low high f) = Unit {0}
Sound (InstructionKind.ShiftBytes op w ds v a) = Small v × Small a
Sound (InstructionKind.CompareBytes op w d l r) = Small l × Small r
Sound (InstructionKind.SelectByte d c t f) = Unit {0}
Sound (InstructionKind.SelectBit d c t f) = Unit {0}
Sound (InstructionKind.BitToByte d s) = Unit {0}
Sound (InstructionKind.ByteToBit d s) = Unit {0}
Sound (InstructionKind.SignExtend w ds s) = Small s
Sound (InstructionKind.IntegerUnaryBytes op w ds s) = Small s
Sound (InstructionKind.IntegerBinaryBytes op w ds l r) = Small l × Small r
