-- A number is that of one refusal, and of one stop.
use mathlib.Core.Path.{◌≡◌, refl, sym, ap, ◌∙◌}
use Prim.Native.Nat.{ℕ}
use lib.Dec.{eqb}
use Rattle.std.specs.Prelude.{cond, false}
use Rattle.numbers.specs.Numbered.{refusal_number, refusal_of_number, stop_number}
use Rattle.numbers.specs.declared.Refusal.{Refusal}
use Rattle.numbers.specs.declared.Stop.{Stop}

pub refusal_back : (x : Refusal) → refusal_of_number (refusal_number x) ≡ x
refusal_back Refusal.ImageOfAnotherSize = refl
refusal_back Refusal.RecordOutsideTheRanges = refl
refusal_back Refusal.NoFrame = refl
refusal_back Refusal.MoreThan65536Frames = refl
refusal_back Refusal.DisplayBufferUnder40Bytes = refl
refusal_back Refusal.NotToBeWritten = refl
refusal_back Refusal.AddressOver8191 = refl
refusal_back Refusal.ExcludedInstructionReachable = refl
refusal_back Refusal.RepetitionReachable = refl
refusal_back Refusal.PathBufferTooShort = refl
refusal_back Refusal.RecursionReachable = refl
refusal_back Refusal.BoundOver65535 = refl
refusal_back Refusal.UnassignedCode = refl
refusal_back Refusal.PastEnd = refl
refusal_back Refusal.MalformedOrEndWithBytes = refl
refusal_back Refusal.RecordSum = refl
refusal_back Refusal.RecordType = refl
refusal_back Refusal.Past1FFF = refl
refusal_back Refusal.GivenTwice = refl
refusal_back Refusal.EndMissingOrTextAfter = refl
refusal_back Refusal.OutputBufferUnder22540Bytes = refl
refusal_back Refusal.WorkBufferIsNot9216Bytes = refl
refusal_back Refusal.PulsesOverTheLimit = refl
refusal_back Refusal.TfOfZeroWhileOn = refl

-- none is 0, the number of an answer
pub refusal_some : (x : Refusal) → eqb (refusal_number x) 0 ≡ false
refusal_some Refusal.ImageOfAnotherSize = refl
refusal_some Refusal.RecordOutsideTheRanges = refl
refusal_some Refusal.NoFrame = refl
refusal_some Refusal.MoreThan65536Frames = refl
refusal_some Refusal.DisplayBufferUnder40Bytes = refl
refusal_some Refusal.NotToBeWritten = refl
refusal_some Refusal.AddressOver8191 = refl
refusal_some Refusal.ExcludedInstructionReachable = refl
refusal_some Refusal.RepetitionReachable = refl
refusal_some Refusal.PathBufferTooShort = refl
refusal_some Refusal.RecursionReachable = refl
refusal_some Refusal.BoundOver65535 = refl
refusal_some Refusal.UnassignedCode = refl
refusal_some Refusal.PastEnd = refl
refusal_some Refusal.MalformedOrEndWithBytes = refl
refusal_some Refusal.RecordSum = refl
refusal_some Refusal.RecordType = refl
refusal_some Refusal.Past1FFF = refl
refusal_some Refusal.GivenTwice = refl
refusal_some Refusal.EndMissingOrTextAfter = refl
refusal_some Refusal.OutputBufferUnder22540Bytes = refl
refusal_some Refusal.WorkBufferIsNot9216Bytes = refl
refusal_some Refusal.PulsesOverTheLimit = refl
refusal_some Refusal.TfOfZeroWhileOn = refl

pub one_refusal : (x y : Refusal) → refusal_number x ≡ refusal_number y → x ≡ y
one_refusal x y e = sym (refusal_back x) ∙ (ap refusal_of_number e ∙ refusal_back y)

-- the stop of a number
abbrev pub stop_of_number : ℕ → Stop
stop_of_number n =
    cond (eqb n 30) Stop.UnassignedCode
    (cond (eqb n 31) Stop.AbsentRamAddress
    (cond (eqb n 32) Stop.StackLevel
    (cond (eqb n 33) Stop.AbsentPort
    (cond (eqb n 34) Stop.ReservedValue Stop.PastEnd))))

pub stop_back : (x : Stop) → stop_of_number (stop_number x) ≡ x
stop_back Stop.UnassignedCode = refl
stop_back Stop.AbsentRamAddress = refl
stop_back Stop.StackLevel = refl
stop_back Stop.AbsentPort = refl
stop_back Stop.ReservedValue = refl
stop_back Stop.PastEnd = refl

pub one_stop : (x y : Stop) → stop_number x ≡ stop_number y → x ≡ y
one_stop x y e = sym (stop_back x) ∙ (ap stop_of_number e ∙ stop_back y)
