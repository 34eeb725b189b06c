-- No refusal has the number 0.
use mathlib.Core.Path.{◌≡◌}
use Rattle.numbers.specs.Numbered.{refusal_number}
use Rattle.numbers.specs.declared.Refusal.{Refusal}
use native.Mathlib.Omega.{arith}

pub refusal-ne0 : (r : Refusal) → refusal_number r ≡ 0 → ⊥
refusal-ne0 Refusal.ImageOfAnotherSize e = omega arith
refusal-ne0 Refusal.RecordOutsideTheRanges e = omega arith
refusal-ne0 Refusal.NoFrame e = omega arith
refusal-ne0 Refusal.MoreThan65536Frames e = omega arith
refusal-ne0 Refusal.DisplayBufferUnder40Bytes e = omega arith
refusal-ne0 Refusal.NotToBeWritten e = omega arith
refusal-ne0 Refusal.AddressOver8191 e = omega arith
refusal-ne0 Refusal.ExcludedInstructionReachable e = omega arith
refusal-ne0 Refusal.RepetitionReachable e = omega arith
refusal-ne0 Refusal.PathBufferTooShort e = omega arith
refusal-ne0 Refusal.RecursionReachable e = omega arith
refusal-ne0 Refusal.BoundOver65535 e = omega arith
refusal-ne0 Refusal.UnassignedCode e = omega arith
refusal-ne0 Refusal.PastEnd e = omega arith
refusal-ne0 Refusal.MalformedOrEndWithBytes e = omega arith
refusal-ne0 Refusal.RecordSum e = omega arith
refusal-ne0 Refusal.RecordType e = omega arith
refusal-ne0 Refusal.Past1FFF e = omega arith
refusal-ne0 Refusal.GivenTwice e = omega arith
refusal-ne0 Refusal.EndMissingOrTextAfter e = omega arith
refusal-ne0 Refusal.OutputBufferUnder22540Bytes e = omega arith
refusal-ne0 Refusal.WorkBufferIsNot9216Bytes e = omega arith
refusal-ne0 Refusal.PulsesOverTheLimit e = omega arith
refusal-ne0 Refusal.TfOfZeroWhileOn e = omega arith
