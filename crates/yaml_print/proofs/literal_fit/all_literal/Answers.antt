use Rattle.std.proofs.Common.{rules}
use Rattle.std.proofs.lemmas.Iterator.{YieldsList-from_chars}
use Rattle.std.proofs.lemmas.Iterator.Search.{all_from_yields_List}
use borrow.Author.Tests.{tests}
use Rattle.yaml_spec.specs.Text.{is_literal_char}
use Rattle.yaml_print.proofs.literal_fit.all_literal.Goals as goal

pub returns : goal.returns
returns c = all_from_yields_List is_literal_char _ _ _ c.all.ensures.ran (YieldsList-from_chars c.args.text.now c.utf8.text cc) (λ x b q k. search (rules, tests))
