use Rattle.std.proofs.Common.{◌≡◌, IfOk, ap, arith, subst, sym, ◌∙◌}
use Rattle.std.proofs.lemmas.Str.Pattern.{strip_prefix_char}
use Rattle.file_spec.specs.Names.{named_below}
use Rattle.load_names.proofs.Parts.{named_from}
use Rattle.load_names.proofs.paths.name_for.Goals as goal

pub returns-in-None : goal.returns-in-None
returns-in-None c =
    let path = c.args.path.now in
    let begins = strip_prefix_char 47 path _ c.strip_prefix.ensures.cases (omega arith) in
    let other = rw c.in-None.is at begins in
    let name = ap (λ f. named_below f path) c.folder_part.ensures ∙ named_from c.args.from.now path (sym c.is_empty.ensures ∙ c.if-is_empty.false) other in
    subst (λ name. IfOk c.named_below.result (λ t. t ≡ name)) name c.named_below.ensures
