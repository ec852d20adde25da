use Rattle.std.proofs.Common.{◌++◌, ◌∙◌, ap, sym}
use Rattle.code_spec.specs.Scopes.{ops_names}
use Rattle.star_blocks.specs.Nested.{ops_of}
use Rattle.star_functions.specs.View.{code_of}
use Rattle.star_spec.specs.Calls.{names_of}
use Rattle.star_functions.proofs.function.FunctionCode.block_names.Goals as goal

pub returns-in_ok-put_block_names-in-Def : goal.returns-in_ok-put_block_names-in-Def
returns-in_ok-put_block_names-in-Def c = λ file.
    c.in_ok-put_block_names-in-Def.ensures file
    ∙ ap (λ names. names ++ ops_names (ops_of file c.in-Def.block.now)) c.new-names.ensures
    ∙ sym (ap (λ k. names_of ops_names (code_of file k)) c.in-Def.is)
