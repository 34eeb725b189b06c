-- Document 01: how many there are of what it counts.
use Rattle.std.specs.Prelude.{ℕ}

-- "Image: exactly 8,192 bytes."
abbrev pub image_bytes : ℕ
image_bytes = 8192

-- "PC 0 to 8191." PC wraps at 8192.
abbrev pub addresses : ℕ
addresses = 8192

-- 20, "address over 8191"
abbrev pub last_address : ℕ
last_address = 8191

-- "RAM: 372 nibbles"
abbrev pub ram_nibbles : ℕ
ram_nibbles = 372
