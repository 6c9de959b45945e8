-- The numbers of the refusals to read and to write a record in the table of refusals.
use Rattle.std.specs.Prelude.{ℕ}
use Rattle.records.specs.declared.refusal.ReadRefusal.{ReadRefusal}
use Rattle.records.specs.declared.refusal.ReadRefusal.TheVariants.{Cut, WrongMark, UnknownKind}
use Rattle.records.specs.declared.refusal.WriteRefusal.{WriteRefusal}
use Rattle.records.specs.declared.refusal.WriteRefusal.TheVariants.{NoRoom}

abbrev pub numbered_read : ReadRefusal → ℕ
numbered_read Cut = 12
numbered_read WrongMark = 13
numbered_read UnknownKind = 14

abbrev pub numbered_write : WriteRefusal → ℕ
numbered_write NoRoom = 16
