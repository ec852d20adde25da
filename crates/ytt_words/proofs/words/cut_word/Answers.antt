use Rattle.std.proofs.Common.{Some, ap, arith, sym, ◌∙◌}
use Rattle.std.proofs.lemmas.Str.Pattern.{split_once_first}
use Rattle.ytt_words.proofs.Walk.{cut_none, cut_some}
use Rattle.ytt_words.proofs.words.cut_word.Goals as goal

pub returns-in-Some-clause-name : goal.returns-in-Some-clause-name
returns-in-Some-clause-name c =
    let cut = rw c.in-Some.is at (split_once_first 61 c.args.word.now _ c.split_once.ensures.cases (omega arith)) in
    cut.1 ∙ sym (cut_some c.args.word.now cut.0).0

pub returns-in-Some-clause-value : goal.returns-in-Some-clause-value
returns-in-Some-clause-value c =
    let cut = rw c.in-Some.is at (split_once_first 61 c.args.word.now _ c.split_once.ensures.cases (omega arith)) in
    ap Some cut.2 ∙ sym (cut_some c.args.word.now cut.0).1

pub returns-in-None-clause-name : goal.returns-in-None-clause-name
returns-in-None-clause-name c =
    let whole = rw c.in-None.is at (split_once_first 61 c.args.word.now _ c.split_once.ensures.cases (omega arith)) in
    sym (cut_none c.args.word.now whole).0

pub returns-in-None-clause-value : goal.returns-in-None-clause-value
returns-in-None-clause-value c =
    let whole = rw c.in-None.is at (split_once_first 61 c.args.word.now _ c.split_once.ensures.cases (omega arith)) in
    sym (cut_none c.args.word.now whole).1
