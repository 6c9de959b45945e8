use Rattle.std.proofs.ByRecursion.{All-from_get_or}
use Rattle.records.proofs.Taken.{decodes}
use Rattle.records.proofs.reader.decode.Goals as goal

pub returns-clause-taken : goal.returns-clause-taken
returns-clause-taken c = decodes c.args.mark c.args.kind c.args.body.now (All-from_get_or _ c.args.body.now 0 (λ i h. (c.type_inv.body i).fits)) c.decode_kind.result c.decode_kind.ensures
