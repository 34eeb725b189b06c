-- The first word of a command line that asks for help or for the version. Sentences in quotation marks are of docs/PROGRAMS.md.
use Rattle.std.specs.Prelude.{ℕ, List}
use Rattle.laws.specs.Choice.{pick}
use Rattle.text.specs.Digits.{characters}
use Rattle.text.specs.Same.{same_text}
use Rattle.program.specs.declared.help.Asked.{Asked}
use Rattle.program.specs.declared.help.Asked.TheVariants.{Nothing, Help, Version}

-- "`--help` or `-h` as the first word: what the program does .. `--version`: our version and the kit's"
unfoldable pub asked_by : List ℕ → Asked
asked_by word =
    pick (same_text word (characters "--help")) Help
    (pick (same_text word (characters "-h")) Help
    (pick (same_text word (characters "--version")) Version Nothing))
