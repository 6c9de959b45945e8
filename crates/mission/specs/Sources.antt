-- Where bytes come from, by the words of a command.
use Rattle.std.specs.Prelude.{ℕ}
use Rattle.mission.specs.declared.input.Form.{Form}
use Rattle.mission.specs.declared.input.Form.TheVariants.{Binary, Hex}

-- how many words name it: the file alone, or with an option
abbrev pub word_count : Form → ℕ
word_count Binary = 1
word_count Hex = 2
