-- `record::valid::ports_valid` meets its contract.
use Rattle.std.proofs.Common.{rules, arith}
use Rattle.std.proofs.lemmas.Grind.{common_steps}
use Rattle.record.proofs.valid.ports_valid.Goals as goal

pub returns-then-p-ne2 : goal.returns-then-p-ne2
returns-then-p-ne2 c = record {
  sound = λ t. record { also = search rules; p4 = search rules; p8 = search rules; p9 = search rules; p16 = search rules; p23 = search rules; p24 = search rules; p25 = search rules; p27 = search rules; p28 = search rules; p29 = search rules; p30 = search rules; p25_never_10xx = search rules; p27_never_10xx = search rules };
  complete = λ v. grind (arith, common_steps);
}
