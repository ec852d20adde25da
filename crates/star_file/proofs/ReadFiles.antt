-- What the grammar reads of a file has closed blocks, of statements alone.
use Rattle.std.proofs.Common.{[], ◌∷◌, Some, refl, sym, ap, ◌∙◌}
use Rattle.star_grammar.specs.declared.start.Start.TheVariants as start
use Rattle.star_grammar.specs.declared.table.Kind.TheVariants as kind
use Rattle.star_grammar.specs.declared.table.Rule.TheVariants as ruled
use Rattle.star_grammar.specs.Reading.{empty_of}
use Rattle.star_grammar.specs.Table.{passed, the}
use Rattle.world_spec.specs.Laws.{ReadFilesAreCode}
use Rattle.star_file.proofs.Levels.{closed_blocks, run}
use Rattle.star_file.proofs.Stack.{whole_steps}
use Rattle.star_file.proofs.Statements.{Does, does, open_behind}

pub files_are_code : ReadFilesAreCode
files_are_code n text is h =
    let read = h.3 in
    let parses = read.2 in
    let steps = whole_steps (Does n) (does n) (the ruled.Top ∷ passed kind.TextEnd ∷ []) parses.source (empty_of start.File) read.0 parses.whole in
    let none_open = ap (open_behind n) (read.1 ∙ sym steps.3.2) ∙ steps.2 [] refl in
    closed_blocks is (ap (λ l. run l (Some [])) h.4 ∙ none_open)
