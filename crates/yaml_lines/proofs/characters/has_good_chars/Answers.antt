use Rattle.std.proofs.Common.{◌||◌, ◌==◌, rules}
use Rattle.std.proofs.lemmas.Iterator.{YieldsList-from_chars}
use Rattle.std.proofs.lemmas.Iterator.Search.{all_from_yields_List}
use borrow.Author.Tests.{tests}
use Rattle.yaml_spec.specs.Bytes.{tab}
use Rattle.yaml_spec.specs.Lines.{is_printable}
use Rattle.yaml_lines.proofs.characters.has_good_chars.Goals as goal

pub returns : goal.returns
returns c = all_from_yields_List (λ x. x == tab || is_printable x) _ _ _ c.all.ensures.ran (YieldsList-from_chars c.args.text.now c.utf8.text cc) (λ x b q k. search (rules, tests))
