-- `hex_reader::progress::after_judged` meets its contract.
use Rattle.hex_reader.proofs.progress.Advancing.{takes-data}
use Rattle.hex_reader.proofs.progress.after_judged.Goals as goal

pub returns-in_ok-take_data-in-Data : goal.returns-in_ok-take_data-in-Data
returns-in_ok-take_data-in-Data c =
    rw (c.in_ok-address.was, c.in-Data.is) (takes-data c.in-Data.address c.in-Data.digits _ _ c.take_data.result c.take_data.ensures (rw c.in_ok-take_data-in-Data.was))
