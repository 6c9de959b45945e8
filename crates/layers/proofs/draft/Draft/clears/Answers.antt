use Rattle.std.proofs.Common.{sym, ◌∙◌, rules, tests}
use Rattle.std.proofs.lemmas.Iterator.Search.{all_from_yields_List}
use Rattle.std.proofs.lemmas.Iterator.{YieldsList-from_slice}
use Rattle.std.proofs.lemmas.List.Folds.{list_all-map}
use Rattle.layers.specs.Drafts.{keep_outs}
use Rattle.layers.specs.declared.draft.keep_out.KeepOut.{KeepOut}
use Rattle.layers.specs.Fence.{apart}
use Rattle.layers.proofs.draft.Draft.clears.Goals as goal

pub returns : goal.returns
returns c =
    let c0 = c.args.c.now in
    let ks = keep_outs c.args.self.now in
    all_from_yields_List (λ (k : KeepOut). apart k.region c0) _ _ c.all.result c.all.ensures.ran (YieldsList-from_slice ks cc) (λ x b q k. search (rules, tests))
    ∙ sym (list_all-map (λ b. apart b c0) (λ (k : KeepOut). k.region) ks)
