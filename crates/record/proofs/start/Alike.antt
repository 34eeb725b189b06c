-- What is fresh alike on each device.
use mathlib.Core.Path.{◌≡◌, refl}
use lib.ListN.{get_or}
use Rattle.device.specs.Device.{fresh_frame, reset_of}
use Rattle.device.specs.declared.Device.{Device}
use Rattle.device.specs.declared.Device.TheVariants.{Em73862, Em73P982}

pub reset_3 : (d : Device) → reset_of d 3 ≡ 0
reset_3 Em73862 = refl
reset_3 Em73P982 = refl

pub reset_5 : (d : Device) → reset_of d 5 ≡ 0
reset_5 Em73862 = refl
reset_5 Em73P982 = refl

pub reset_6 : (d : Device) → reset_of d 6 ≡ 0
reset_6 Em73862 = refl
reset_6 Em73P982 = refl

pub fresh_p0 : (d : Device) → get_or (fresh_frame d) 0 0 ≡ 15
fresh_p0 Em73862 = refl
fresh_p0 Em73P982 = refl

pub fresh_p8 : (d : Device) → get_or (fresh_frame d) 1 0 ≡ 15
fresh_p8 Em73862 = refl
fresh_p8 Em73P982 = refl

pub fresh_speech : (d : Device) → get_or (fresh_frame d) 3 0 ≡ 0
fresh_speech Em73862 = refl
fresh_speech Em73P982 = refl
