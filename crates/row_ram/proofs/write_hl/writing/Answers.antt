-- `row_ram::write_hl::writing` meets its contract: STAM, the row that is none of the others.
use borrow.Author.Rules.{rules}
use Rattle.laws.proofs.Among.{first}
use Rattle.sheet.specs.Table.{lines, line_at}
use Rattle.alu.specs.Making.{made}
use Rattle.alu.specs.Flags.{flag_after}
use Rattle.row.specs.Steps.{put_step}
use Rattle.row.specs.Rows.{work_of}
use Rattle.row_ram.specs.Groups.{written_by_hl}
use Rattle.row_ram.proofs.write_hl.writing.Goals as goal

pub returns-in_default : goal.returns-in_default
unfolding line_at lines work_of put_step made flag_after
returns-in_default c = rw (first written_by_hl c.args.row c.requires.1.1 (search rules), c.went_on-in_default.ensures) (record { same = λ rom options b l h e. rw h })
