use Rattle.std.proofs.Common.{sym, ◌∙◌, arith}
use Rattle.std.proofs.lemmas.Iterator.Consumers.{count_from_yields_List}
use Rattle.std.proofs.lemmas.Iterator.Splits.{YieldsList-from_str_split}
use Rattle.mission.proofs.words.numbers.Goals as goal

pub returns-then-count-clause-count : goal.returns-then-count-clause-count
returns-then-count-clause-count g c =
    let s = c.split.ensures in
    sym (count_from_yields_List c.split.result _ c.count.ensures.ran (YieldsList-from_str_split 44 c.args.word.now (omega arith) s.text s.has_more s.pattern)) ∙ c.if-count.true
