-- What a reader has still to read.
use Rattle.std.specs.Prelude.{ℕ, List}
use Rattle.records.specs.declared.reader.Reader.{Reader}

abbrev pub unread : Reader → List ℕ
unread r = r.tape.now
