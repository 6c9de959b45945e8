use Rattle.std.proofs.Common.{not, sym, ◌∙◌, rules, tests}
use Rattle.std.proofs.lemmas.Iterator.Search.{all_from_yields_List}
use Rattle.std.proofs.lemmas.Iterator.{YieldsList-from_slice}
use Rattle.std.proofs.lemmas.List.Folds.{list_all-map}
use Rattle.layers.specs.Drafts.{keep_outs}
use Rattle.layers.specs.declared.draft.keep_out.KeepOut.{KeepOut}
use Rattle.guard.specs.Regions.{holds}
use Rattle.layers.proofs.draft.Draft.excludes.Goals as goal

pub returns : goal.returns
returns c =
    let p = c.args.p in
    let ks = keep_outs c.args.self.now in
    all_from_yields_List (λ (k : KeepOut). not (holds k.region p)) _ _ c.all.result c.all.ensures.ran (YieldsList-from_slice ks cc) (λ x b q k. search (rules, tests))
    ∙ sym (list_all-map (λ b. not (holds b p)) (λ (k : KeepOut). k.region) ks)
