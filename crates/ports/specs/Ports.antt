-- Document 01, "Instructions": the ports, read, written, set and cleared; and what writing P16 does.
use Rattle.std.specs.Prelude.{ℕ, ◌%◌, Bool, Result, Ok, Err, [], ◌∷◌, eqb}
use Rattle.laws.specs.Among.{among}
use Rattle.laws.specs.Choice.{pick, both, either}
use Rattle.numbers.specs.ComesBack.{absent_port, reserved_value}
use Rattle.numbers.specs.Numbered.{stop_number}
use Rattle.numbers.specs.declared.Stop.{Stop}
use Rattle.bits.specs.Bits.{has_bit}
use Rattle.device.specs.Device.{also_writable, reserved, p4_pins}
use Rattle.device.specs.declared.Device.{Device}
use Rattle.frame.specs.declared.Pins.{Pins}
use Rattle.ports.specs.declared.Ports.{Ports}
use Rattle.ports.specs.declared.Mode.{Mode}
use Rattle.ports.specs.declared.Mode.TheVariants.{Sleep, Hold}
use Rattle.ports.specs.declared.PortRead.{PortRead}

-- "Readable ports: 0, 4, 8, 9. Writable, settable and clearable: 4, 8, 9, 16, 23, 24, 25, 27 to 30. Any other use is 33." A device may have others to write, and none to read
abbrev pub is_readable : ℕ → Bool
is_readable n = among (0 ∷ 4 ∷ 8 ∷ 9 ∷ []) n

abbrev pub is_writable : Device → ℕ → Bool
is_writable d n = either (among (4 ∷ 8 ∷ 9 ∷ 16 ∷ 23 ∷ 24 ∷ 25 ∷ 27 ∷ 28 ∷ 29 ∷ 30 ∷ []) n) (among (also_writable d) n)

-- what a latch holds; 0 for a port that has none
unfoldable pub latch_of : Ports → ℕ → ℕ
latch_of p n =
    (pick (eqb n 3) p.p3
    (pick (eqb n 4) p.p4
    (pick (eqb n 5) p.p5
    (pick (eqb n 6) p.p6
    (pick (eqb n 8) p.p8
    (pick (eqb n 9) p.p9
    (pick (eqb n 16) p.p16
    (pick (eqb n 17) p.p17
    (pick (eqb n 23) p.p23
    (pick (eqb n 24) p.p24
    (pick (eqb n 25) p.p25
    (pick (eqb n 27) p.p27
    (pick (eqb n 28) p.p28
    (pick (eqb n 29) p.p29
    (pick (eqb n 30) p.p30
    0)))))))))))))))

-- the latches with v in that of port n
unfoldable pub with_latch : Ports → ℕ → ℕ → Ports
with_latch p n v =
    record {
      p3 = pick (eqb n 3) v p.p3;
      p4 = pick (eqb n 4) v p.p4;
      p5 = pick (eqb n 5) v p.p5;
      p6 = pick (eqb n 6) v p.p6;
      p8 = pick (eqb n 8) v p.p8;
      p9 = pick (eqb n 9) v p.p9;
      p16 = pick (eqb n 16) v p.p16;
      p17 = pick (eqb n 17) v p.p17;
      p23 = pick (eqb n 23) v p.p23;
      p24 = pick (eqb n 24) v p.p24;
      p25 = pick (eqb n 25) v p.p25;
      p27 = pick (eqb n 27) v p.p27;
      p28 = pick (eqb n 28) v p.p28;
      p29 = pick (eqb n 29) v p.p29;
      p30 = pick (eqb n 30) v p.p30;
    }

-- "P0 reads the frame, P9 its latch. Reading or testing P4 or P8 gives the frame's pins"
abbrev pub port_pins : Device → Bool → Pins → Ports → ℕ → ℕ
port_pins d sound pins p n = pick (eqb n 0) pins.p0 (pick (eqb n 4) (p4_pins d sound pins.p4) (pick (eqb n 8) pins.p8 p.p9))

-- ".. and sets the latch to 15"
abbrev pub latches_read : Ports → ℕ → Ports
latches_read p n = pick (either (eqb n 4) (eqb n 8)) (with_latch p n 15) p

-- a stop of document 01's table or 0, the value read, and the latches then
pub record ReadDone : Type 0 where
  pub stop : ℕ
  pub value : ℕ
  pub ports : Ports

abbrev pub value_read : ℕ → Ports → ReadDone
value_read v p = record { stop = 0; value = v; ports = p }

abbrev pub no_read : ℕ → Ports → ReadDone
no_read stop p = record { stop = stop; value = 0; ports = p }

unfoldable pub read_port : Device → Bool → Pins → Ports → ℕ → ReadDone
read_port d sound pins p n = pick (is_readable n) (value_read (port_pins d sound pins p n) (latches_read p n)) (no_read absent_port p)

-- what reading a port of these latches gives, by the table's numbers: a stop leaves the latches
abbrev pub read_as : Ports → Result PortRead Stop → ReadDone
read_as p (Ok r) = value_read r.value r.ports
read_as p (Err s) = no_read (stop_number s) p

-- 33 for a port that cannot be written, 34 for a value that it may not hold
unfoldable pub write_stop : Device → ℕ → ℕ → ℕ
write_stop d n v = pick (is_writable d n) (pick (reserved d n v) reserved_value 0) absent_port

-- "Writing P16 with bit 2 set enters hold (bits 1..0 = 3) or sleep .. With bit 2 clear P16 only keeps the value."
abbrev pub enters : ℕ → ℕ → Bool
enters n v = both (eqb n 16) (has_bit v 4)

abbrev pub mode_after : Mode → ℕ → ℕ → Mode
mode_after mode n v = pick (enters n v) (pick (eqb (v % 4) 3) Hold Sleep) mode

-- ".. sleep clears P27"
abbrev pub p27_after : ℕ → ℕ → ℕ → ℕ
p27_after p27 n v = pick (enters n v) (pick (eqb (v % 4) 3) p27 0) p27

abbrev pub with_p27 : Ports → ℕ → Ports
with_p27 p v = record { p3 = p.p3; p4 = p.p4; p5 = p.p5; p6 = p.p6; p8 = p.p8; p9 = p.p9; p16 = p.p16; p17 = p.p17; p23 = p.p23; p24 = p.p24; p25 = p.p25; p27 = v; p28 = p.p28; p29 = p.p29; p30 = p.p30 }

-- a stop of document 01's table or 0, and the latches then
pub record WriteDone : Type 0 where
  pub stop : ℕ
  pub ports : Ports

unfoldable pub write_port : Device → Ports → ℕ → ℕ → WriteDone
write_port d p n v =
    pick (eqb (write_stop d n v) 0)
    (record { stop = 0; ports = with_latch (with_p27 p (p27_after p.p27 n v)) n v })
    (record { stop = write_stop d n v; ports = p })

-- what writing a port of these latches gives, by the table's numbers: a stop leaves the latches
abbrev pub written_as : Ports → Result Ports Stop → WriteDone
written_as p (Ok q) = record { stop = 0; ports = q }
written_as p (Err s) = record { stop = stop_number s; ports = p }
